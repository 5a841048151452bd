-- What an image that is not opened says of its controller, by the bytes that are looked at.
use mathlib.Core.Path.{◌≡◌, refl, sym, ap, ap₂, ◌∙◌, subst}
use mathlib.Core.Bool.{Bool, true, false, cond, not, ◌&&◌, ◌||◌}
use mathlib.Core.List.{List}
use Prim.Native.Nat.{ℕ, ◌+◌, ◌*◌, ◌/◌, ◌%◌, ◌^◌, ◌<◌}
use native.Mathlib.Omega.{arith}
use lib.ListN.{length, get_or, take, drop}
use lib.Bits.{bit_and}
use lib.Dec.{eqb, leb}
use borrow.Author.Tests.{eqb-false, eq-eqb, ne_eqb, lt-ltb, le-leb}
use Rattle.transfer.proofs.Pick.{by_test}
use Rattle.transfer.specs.Dma.{length_of, well_transfer, is_write_phase, is_type, type_of, well_dma}
use Rattle.transfer.specs.declared.dma.TransferType.TheVariants.{Swap, Verify}
use Rattle.transfer.specs.declared.dma.SwapPhase.TheVariants.{ReadC64, WriteC64}
use Rattle.image.specs.Layout.{phase_of}
use Rattle.image.proofs.Accepted.{coded_size}
use Rattle.std.specs.Int.{w64, from_le_bytes}
use Rattle.std.specs.Prelude.{None, Some}
use Rattle.transfer.specs.Bytes.{bit}
use Rattle.transfer.specs.Constants.{bus_size}
use Rattle.controller.specs.Refusals.{well_formed}
use Rattle.image.specs.Inner.{gets}
use Rattle.image.specs.Layout.{at, fields, kind, transfer_fields, image_size, size_of, reu_at}
use Rattle.image.specs.Open.{all_zero, image_ok}
use Rattle.image.specs.Fields.{lifted}
use Rattle.image.specs.InPlace.{Lent, Resting, Moves, Moving, Sized, transfer_at}
use Rattle.controller.specs.Inner.{Rests}
use Rattle.image.proofs.ByBytes.{ranges_are, listed, zeros, all_zeros, more_byte}
use Rattle.transfer.proofs.Bits.{zero_bit}
use Rattle.image.proofs.Accepted.{rest_ok, some_ok}
use Rattle.image.proofs.Words.{masked, whole_byte, bit_seen, below_four, below_two}

left_fits : (n : ℕ) → n < 65536 → leb 1 (length_of n) && leb (length_of n) 65536 ≡ true
unfolding length_of
left_fits n h =
    by_test (λ x. leb 1 x && leb x 65536 ≡ true) (eqb n 0) 65536 n (λ _. refl)
    (λ e. λ i. le-leb 1 n (omega (arith, eqb-false n 0 e)) i && le-leb n 65536 (omega (arith, h)) i)

module _ (s : List ℕ) (long : length s ≡ image_size) (b : (i : ℕ) → get_or s i 0 < 256) where
  -- the same list, written out
  abbrev out : List ℕ
  out = gets 0 image_size s

  -- the eight bytes from the length's shadow to the phase
  abbrev head : ℕ
  head = from_le_bytes w64 (gets 16 8 s)

  -- of these, byte j
  part : (m c : ℕ) → bit_and head m ≡ c → (j : ℕ) → head / 2 ^ (8 * j) % 256 ≡ at s (16 + j)
      → bit_and (at s (16 + j)) (m / 2 ^ (8 * j) % 256) ≡ c / 2 ^ (8 * j) % 256
  part m c h j d = masked head m c (8 * j) (at s (16 + j)) h d

  -- the bytes from the flags on
  flags_in : head / 2 ^ 16 % 256 ≡ at s 18
  flags_in = omega (arith, b 16, b 17, b 18)

  more_in : head / 2 ^ 24 % 256 ≡ at s 19
  more_in = omega (arith, b 16, b 17, b 18, b 19)

  delay_in : head / 2 ^ 32 % 256 ≡ at s 20
  delay_in = omega (arith, b 16, b 17, b 18, b 19, b 20)

  transfer_in : head / 2 ^ 40 % 256 ≡ at s 21
  transfer_in = omega (arith, b 16, b 17, b 18, b 19, b 20, b 21)

  type_in : head / 2 ^ 48 % 256 ≡ at s 22
  type_in = omega (arith, b 16, b 17, b 18, b 19, b 20, b 21, b 22)

  phase_in : head / 2 ^ 56 % 256 ≡ at s 23
  phase_in = omega (arith, b 16, b 17, b 18, b 19, b 20, b 21, b 22, b 23)

  -- the storage's size is the controller's
  size_fits : (storage : ℕ) → Sized s storage → storage ≡ (reu_at s).size
  unfolding reu_at
  size_fits storage k = k.fits ∙ ap (λ (n : ℕ). size_of (n / 4)) (sym (more_byte s long))

  module _ (bus storage : ℕ) (fits : bus ≡ bus_size) (k : Sized s storage) where
    lent : image_ok s ≡ true → Lent s bus storage
    lent ok = record { ok = ok; bus_fits = fits; storage_fits = size_fits storage k }

    module _ (h : bit_and head 0xFFFFFFFFF0400000 ≡ 0) (z : from_le_bytes w64 (gets 24 8 s) ≡ 0) (o : at s 32 ≡ 0) where
      byte : (j : ℕ) → head / 2 ^ (8 * j) % 256 ≡ at s (16 + j) → bit_and (at s (16 + j)) (0xFFFFFFFFF0400000 / 2 ^ (8 * j) % 256) ≡ 0 / 2 ^ (8 * j) % 256
      byte = part 0xFFFFFFFFF0400000 0 h

      none : at s 21 ≡ 0
      none = whole_byte (at s 21) 0 (b 21) (byte 5 transfer_in)

      no_delay : at s 20 ≡ 0
      no_delay = whole_byte (at s 20) 0 (b 20) (byte 4 delay_in)

      types : at s 22 + 256 * at s 23 ≡ 0
      types = omega (arith, whole_byte (at s 22) 0 (b 22) (byte 6 type_in), whole_byte (at s 23) 0 (b 23) (byte 7 phase_in))

      zero_fields : zeros s long ≡ true
      zero_fields =
          ap (λ (l : List ℕ). all_zero (take transfer_fields (drop kind (lifted fields l)))) (sym (listed s long))
          ∙ all_zeros s (omega (arith, types)) (omega (arith, types)) (omega (arith, z)) (omega (arith, z)) (omega (arith, z)) (omega (arith, z)) o

      rest_accepted : image_ok s ≡ true
      rest_accepted =
          sym (rest_ok s long b none)
          ∙ (λ i. zero_fields i && ((lt-ltb (at s 19) 12 k.coded i && lt-ltb (at s 20) 3 (omega (arith, no_delay)) i) && k.marked i))

      rests_out : Rests (reu_at out)
      unfolding reu_at
      rests_out = record {
        idle = ap (λ (t : Bool). cond t None (Some (transfer_at out))) (eq-eqb (at s 21) 0 none);
        terminal = bit_seen (at s 18) 64 0 6 false (byte 2 flags_in) refl refl;
        delay = no_delay;
      }

      pub resting : Resting s bus storage
      resting = record { lent = lent rest_accepted; rests = subst (λ (l : List ℕ). Rests (reu_at l)) (listed s long) rests_out }

    module _ (h : bit_and head 0xFEFCFFFFF1640000 ≡ 0x10000040000) (o : at s 32 < 32) (p : (at s 23 ≡ 0 → ⊥) → at s 22 ≡ 2) where
      seen : (j : ℕ) → head / 2 ^ (8 * j) % 256 ≡ at s (16 + j) → bit_and (at s (16 + j)) (0xFEFCFFFFF1640000 / 2 ^ (8 * j) % 256) ≡ 0x10000040000 / 2 ^ (8 * j) % 256
      seen = part 0xFEFCFFFFF1640000 0x10000040000 h

      one : at s 21 ≡ 1
      one = whole_byte (at s 21) 1 (b 21) (seen 5 transfer_in)

      now_due : at s 20 ≡ 0
      now_due = whole_byte (at s 20) 0 (b 20) (seen 4 delay_in)

      flag : (n : ℕ) (t : Bool) → 0x64 / 2 ^ n % 2 ≡ 1 → bit 4 n ≡ t → bit (at s 18) n ≡ t
      flag n t = bit_seen (at s 18) 0x64 4 n t (seen 2 flags_in)

      no_tail : bit (at s 32) 5 ≡ false
      no_tail = zero_bit (at s 32) 5 (omega (arith, o))

      moves_out : Moves (reu_at out) (transfer_at out)
      unfolding reu_at
      moves_out = record {
        runs = ap (λ (t : Bool). cond t None (Some (transfer_at out))) (ne_eqb (at s 21) 0 (λ e. omega (arith, one)));
        attached = flag 2 true refl refl;
        repeat = flag 5 false refl refl;
        terminal = flag 6 false refl refl;
        refresh = bit_seen (at s 19) 0xF1 0 0 false (seen 3 more_in) refl refl;
        delay = now_due;
        tail = no_tail;
      }

      -- the transfer's own tests
      phase_fits : not (is_write_phase (phase_of (at s 23))) || is_type (type_of (at s 22)) Swap ≡ true
      unfolding type_of
      phase_fits = go (eqb (at s 23) 0) refl
        where
          go : (t : Bool) → eqb (at s 23) 0 ≡ t → not (is_write_phase (cond t ReadC64 WriteC64)) || is_type (type_of (at s 22)) Swap ≡ true
          go true e = refl
          go false e = ap (λ (n : ℕ). is_type (type_of n) Swap) (p (eqb-false (at s 23) 0 e))

      transfer_fits : well_transfer (transfer_at out) ≡ true
      transfer_fits =
          λ i. left_fits (at s 29 + 256 * at s 30) (omega (arith, b 29, b 30)) i
          && (lt-ltb (at s 26 + 256 * (at s 27 + 256 * at s 28)) 16777216 (omega (arith, b 26, b 27, b 28)) i
          && (phase_fits i && (not (no_tail i) || (is_type (type_of (at s 22)) Verify && eqb (length_of (at s 29 + 256 * at s 30)) 1))))

      well_out : well_formed (reu_at out) ≡ true
      unfolding well_formed reu_at
      well_out =
          λ i. le-leb (at s 20) 2 (omega (arith, now_due)) i
          && (lt-ltb (at s 13 + 256 * (at s 14 + 256 * at s 15)) 16777216 (omega (arith, b 13, b 14, b 15)) i
          && ((ap₂ well_dma (flag 2 true refl refl) moves_out.runs ∙ transfer_fits) i && (coded_size (at s 19 / 4) i && k.marked i)))

      moves_accepted : image_ok s ≡ true
      moves_accepted =
          sym (some_ok s long b (λ e. omega (arith, one)))
          ∙ (λ i. (ranges_are s long b
          ∙ (λ j. lt-ltb (at s 19) 12 k.coded j && (lt-ltb (at s 20) 3 (omega (arith, now_due)) j && (lt-ltb (at s 21) 2 (omega (arith, one)) j
          && (lt-ltb (at s 22) 4 (below_four (at s 22) (b 22) (seen 6 type_in)) j && (lt-ltb (at s 23) 2 (below_two (at s 23) (b 23) (seen 7 phase_in)) j
          && (lt-ltb (at s 32) 64 (omega (arith, o)) j && true)))))))
          i
          && (ap (λ (l : List ℕ). well_formed (reu_at l)) (sym (listed s long)) ∙ well_out) i)

      pub moving : Moving s bus storage
      moving = record { lent = lent moves_accepted; moves = subst (λ (l : List ℕ). Moves (reu_at l) (transfer_at l)) (listed s long) moves_out }
