-- Remaining in two bytes, 0 meaning 65,536: it comes back, and so do they.
use mathlib.Core.Path.{◌≡◌, sym, ap, ◌∙◌}
use Prim.Native.Nat.{ℕ, ◌%◌, ◌≤◌, ◌<◌}
use native.Mathlib.Decide.{ℕ_discrete}
use native.Mathlib.Nat.{mod-eq_of_lt}
use native.Mathlib.Omega.{arith}
use borrow.Author.Tests.{eq-eqb, ne_eqb}
use Rattle.transfer.specs.Constants.{full_length}
use Rattle.transfer.specs.Dma.{length_of}
use Rattle.image.specs.Layout.{remaining_number}

-- a length of 0, and another
length_full : (n : ℕ) → n ≡ 0 → length_of n ≡ full_length
unfolding length_of
length_full n e = rw (eq-eqb n 0 e)

length_plain : (n : ℕ) → (n ≡ 0 → ⊥) → length_of n ≡ n
unfolding length_of
length_plain n ne = rw (ne_eqb n 0 ne)

pub remaining_back : (n : ℕ) → 1 ≤ n → n ≤ full_length → length_of (remaining_number n) ≡ n
remaining_back n low high =
    elim (ℕ_discrete n full_length) [
      | yes e ↦ length_full (n % full_length) (omega arith) ∙ sym e
      | no ne ↦ let same : n % full_length ≡ n = mod-eq_of_lt (omega arith) in ap length_of same ∙ length_plain n (λ e. absurd (omega arith))
    ]

pub two_bytes_back : (n : ℕ) → n < full_length → remaining_number (length_of n) ≡ n
two_bytes_back n h =
    elim (ℕ_discrete n 0) [
      | yes e ↦ ap remaining_number (length_full n e) ∙ sym e
      | no ne ↦ ap remaining_number (length_plain n ne) ∙ mod-eq_of_lt h
    ]
