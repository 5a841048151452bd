-- L2's law, once for both sides of a transfer.
use Prim.Native.Nat.{ℕ, zero, suc, ◌+◌, ◌%◌, ◌≤◌, ◌<◌}
use mathlib.Core.Bool.{Bool, true, false, not, ◌&&◌, cond}
use mathlib.Core.Path.{◌≡◌, refl, sym, ap, ap₂, ◌∙◌}
use mathlib.Core.Logic.{◌≢◌}
use lib.Dec.{eqb, ltb}
use native.Mathlib.Nat.{mod-eq_of_lt, mod_self, zero-add}
use native.Mathlib.Omega.{arith}
use native.Mathlib.Decide.{ℕ_discrete}
use borrow.Author.Tests.{eq-eqb, ne_eqb, ltb-true, ltb-false}
use Rattle.transfer.specs.declared.dma.DmaState.{DmaState}
use Rattle.transfer.specs.Bytes.{bit_of}
use Rattle.transfer.specs.Dma.{complete_byte, moved, passed}
use Rattle.transfer.specs.Memory.{next_c64, next_exp}
use Rattle.claims.specs.PassedTop.{Side, c64_side, exp_side, reported, OnceOver, PassedTop}

-- ---- numbers: n steps from a, from the top to 0

abbrev over : ℕ → ℕ → ℕ → ℕ
over top zero a = 0
over top (suc n) a = bit_of (eqb a top) + over top n ((a + 1) % (top + 1))

-- a step below the top
below : (top n a : ℕ) → a < top → over top (suc n) a ≡ over top n (a + 1)
below top n a h =
    let small : a + 1 < top + 1 = omega arith in
    let other : a ≢ top = λ e. absurd (omega (arith, e)) in
    rw (ne_eqb a top other, mod-eq_of_lt small) (zero-add (over top n (a + 1)))

none : (top n a : ℕ) → a + n ≤ top → over top n a ≡ 0
none top zero a h = refl
none top (suc n) a h = below top n a (omega arith) ∙ none top n (a + 1) (omega arith)

-- the step from the top
from_top : (top n : ℕ) → n ≤ top → over top (suc n) top ≡ 1
from_top top n h =
    rw (eq-eqb top top refl, mod_self (top + 1)) (ap (λ (k : ℕ). 1 + k) (none top n 0 (omega arith)))

one : (top n a : ℕ) → a ≤ top → n ≤ top + 1 → top < a + n → over top n a ≡ 1
one top zero a h most more = absurd (omega arith)
one top (suc n) a h most more =
    elim (ℕ_discrete a top) [
      | yes e ↦ ap (λ (x : ℕ). over top (suc n) x) e ∙ from_top top n (omega arith)
      | no ne ↦ let less : a < top = omega (arith, ne) in below top n a less ∙ one top n (a + 1) (omega arith) (omega arith) (omega arith)
    ]

counted : (top n a : ℕ) → a ≤ top → n ≤ top + 1 → over top n a ≡ bit_of (ltb top (a + n))
counted top n a h most = go (ltb top (a + n)) refl
  where
    go : (b : Bool) → ltb top (a + n) ≡ b → over top n a ≡ bit_of (ltb top (a + n))
    go true t = one top n a h most (ltb-true top (a + n) t) ∙ sym (ap bit_of t)
    go false t = none top n a (ltb-false top (a + n) t) ∙ sym (ap bit_of t)

-- ---- bytes: what completing one does to a side

record Steps (k : Side) : Type 0 where
  marks : (d : DmaState) → k.mark (passed d) ≡ (not (k.fixed d) && eqb (k.address d) k.top)
  stays : (d : DmaState) → k.fixed (moved d) ≡ k.fixed d
  next : (d : DmaState) → k.fixed d ≡ false → k.address (moved d) ≡ (k.address d + 1) % (k.top + 1)

module _ (k : Side) (s : Steps k) where
  free : (n : ℕ) (d : DmaState) → k.fixed d ≡ false → reported k n d ≡ over k.top n (k.address d)
  unfolding complete_byte
  free zero d f = refl
  free (suc n) d f =
      ap₂ (λ (b : Bool) (m : ℕ). bit_of b + m) (s.marks d ∙ ap (λ (b : Bool). not b && eqb (k.address d) k.top) f)
      (free n (moved d) (s.stays d ∙ f) ∙ ap (over k.top n) (s.next d f))

  held : (n : ℕ) (d : DmaState) → k.fixed d ≡ true → reported k n d ≡ 0
  unfolding complete_byte
  held zero d f = refl
  held (suc n) d f =
      ap₂ (λ (b : Bool) (m : ℕ). bit_of b + m) (s.marks d ∙ ap (λ (b : Bool). not b && eqb (k.address d) k.top) f)
      (held n (moved d) (s.stays d ∙ f))

  once_over : OnceOver k
  once_over d n h most = go (k.fixed d) refl
    where
      go : (b : Bool) → k.fixed d ≡ b → reported k n d ≡ bit_of (not (k.fixed d) && ltb k.top (k.address d + n))
      go true f = held n d f ∙ sym (ap (λ (b : Bool). bit_of (not b && ltb k.top (k.address d + n))) f)
      go false f =
          free n d f ∙ counted k.top n (k.address d) h most
          ∙ sym (ap (λ (b : Bool). bit_of (not b && ltb k.top (k.address d + n))) f)

pub passed_top : PassedTop
passed_top =
    record {
      c64 = once_over c64_side
          record {
            marks = λ d. refl;
            stays = λ d. refl;
            next = λ d f. ap (λ (b : Bool). (cond b d.c64_addr (next_c64 d.c64_addr)).0) f;
          };
      expansion = once_over exp_side
          record {
            marks = λ d. refl;
            stays = λ d. refl;
            next = λ d f. ap (λ (b : Bool). (cond b d.reu_addr (next_exp d.reu_addr)).0) f;
          };
    }
