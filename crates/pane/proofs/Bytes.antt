-- What an opened image's registers hold, and what a read gives, are bytes: so the low byte of an answer is its value, and that of a refusal is 0.
use Rattle.std.proofs.Common.{◌≡◌, ℕ, ◌+◌, ◌%◌, ◌<◌, ◌≤◌, Bool, true, false, cond, eqb, ltb, List, drop, take, get_or, Result, Ok, Err, refl, sym, ap, ◌∙◌, arith, eqb-true, lt-ltb}
use mathlib.Core.Bool.{false≢true}
use mathlib.Core.Logic.{◌⊎◌, inl, inr}
use lib.Bits.{or_lt}
use borrow.Author.Tests.{eqb-false, le-ltb}
use Rattle.std.specs.Result.{OkIff, result_unwrap_or}
use Rattle.transfer.specs.Constants.{bank_ones, bus_size, control_ones, mask_ones, register_count}
use Rattle.transfer.specs.Bytes.{set_bits}
use Rattle.regs.specs.Registers.{register_index, shown}
use Rattle.controller.specs.declared.reu.Reu.{Reu}
use Rattle.controller.specs.Calls.{answered, debug_register_call, read_call, refused}
use Rattle.controller.specs.Refusals.{checked, refusal_of}
use Rattle.controller.specs.Registers.{debug_register, read_register}
use Rattle.transfer.proofs.Pick.{by_test}
use Rattle.controller.specs.declared.reu.Answered.{Answered}
use Rattle.image.specs.Fields.{lifted, radices, values}
use Rattle.image.specs.Layout.{fields, reu_at}
use Rattle.image.specs.Open.{bytes_ok, image_ok, open_image}
use Rattle.image.specs.Radix.{below}
use Rattle.image.proofs.Fields.{and_left, below_front, below_test, byte_of}
use Rattle.image.proofs.Opening.{opened_is, opened_ok}
use Rattle.image.proofs.Radix.{Below}
use Rattle.image.proofs.Sound.{control_fits, mask_fits}
use Rattle.reu.specs.Exports.{change, code, look, refusal, refusal_unit, reu_debug_register, reu_read}
use Rattle.pane.specs.declared.answers.Refused.{Refused}
use Rattle.pane.specs.Answers.{Answers, accepted}

-- ---- of an image that opens, each number is below the bound of its field

module _ (i : List ℕ) (z : (open_image i).refusal ≡ 0) where
  pub ranges : Below (values fields) (lifted fields i)
  unfolding image_ok bytes_ok
  ranges =
      below_test (values fields) (lifted fields i) refl
      (and_left (below (values fields) (lifted fields i)) _ (and_left (bytes_ok i) _ (opened_ok i z)))

  register : (j : ℕ) → get_or (open_image i).reu.regs j 0 < 256
  unfolding reu_at
  register j =
      rw (opened_is i z)
      (byte_of register_count (take register_count (lifted fields i))
      (below_front (radices register_count) (drop register_count (values fields)) (lifted fields i) ranges) j)

-- ---- a byte, or a refusal

abbrev ByteOr : ℕ → Type 0
ByteOr x = (x < 256) ⊎ ((accepted x ≡ false) × (x % 256 ≡ 0))

refusing : (n : ℕ) → (n ≡ 0 → ⊥) → ByteOr (refusal n)
refusing n bad =
    let l : refusal_unit ≤ refusal n = omega arith in
    let low : refusal n % 256 ≡ 0 = omega arith in
    inr (le-ltb (refusal n) refusal_unit l, low)

called : (k v : ℕ) (u w : Reu) (b : Bool) → eqb k 0 ≡ b → v < 256 → ByteOr (code (checked k (refused u) (answered v w)))
unfolding checked code
called k v u w true e h = let l : 0 + v < 256 = omega (arith, h) in rw e (inl l)
called k v u w false e h =
    let sum : refusal k + 0 ≡ refusal k = omega arith in
    rw (e, sum) (refusing k (eqb-false k 0 e))

shown_byte : (j v : ℕ) → v < 256 → shown j v < 256
shown_byte j v h = go (eqb j 6) (eqb j 9) (eqb j 10)
  where
    go :
        (a b c : Bool) → cond a (set_bits bank_ones v) (cond b (set_bits mask_ones v) (cond c (set_bits control_ones v) v)) < 256
    go true b c = or_lt 8 v 248 h (omega arith)
    go false true c = (mask_fits {k = true} h).byte
    go false false true = (control_fits {k = true} h).byte
    go false false false = h

module _ (u : Reu) (h : (j : ℕ) → get_or u.regs j 0 < 256) where
  held_byte : (j : ℕ) → debug_register u j < 256
  unfolding debug_register
  held_byte j = go (ltb j register_count)
    where
      go : (b : Bool) → cond b (get_or u.regs j 0) 255 < 256
      go true = h j
      go false = omega arith

  read_byte : (a : ℕ) → (read_register u a).value < 256
  unfolding read_register
  read_byte a =
      by_test (λ (r : Answered ℕ). r.value < 256) (ltb (register_index a) register_count) _ _
      (λ _. by_test (λ (r : Answered ℕ). r.value < 256) (eqb (register_index a) 0) _ _ (λ _. h 0)
      (λ _. shown_byte (register_index a) _ (h (register_index a))))
      (λ _. omega arith)

module _ (i : List ℕ) (n : ℕ) where
  debug_by : (b : Bool) → eqb (open_image i).refusal 0 ≡ b → ByteOr (reu_debug_register i n)
  unfolding look checked debug_register_call
  debug_by true e =
      let z = eqb-true (open_image i).refusal 0 e in
      let u = (open_image i).reu in
      rw e (called (refusal_of u bus_size u.size) _ u u _ refl (held_byte u (register i z) n))
  debug_by false e = rw e (refusing (open_image i).refusal (eqb-false (open_image i).refusal 0 e))

  read_by : (b : Bool) → eqb (open_image i).refusal 0 ≡ b → ByteOr (reu_read i n).0
  unfolding change checked read_call
  read_by true e =
      let z = eqb-true (open_image i).refusal 0 e in
      let u = (open_image i).reu in
      rw e (called (refusal_of u bus_size u.size) _ u (read_register u n).reu _ refl (read_byte u (register i z) n))
  read_by false e = rw e (refusing (open_image i).refusal (eqb-false (open_image i).refusal 0 e))

-- ---- the value of such an answer, 0 where it is refused, is its low byte, and one of 8 bits

low : (x : ℕ) (a : Result ℕ Refused) → Answers x a → ByteOr x → result_unwrap_or a 0 ≡ x % 256
low x (Ok value) h (inl l) = let e : x ≡ x % 256 = omega (arith, l) in h.1 ∙ e
low x (Ok value) h (inr r) = absurd (false≢true (sym r.0 ∙ h.0))
low x (Err refused) h (inl l) =
    let small : x < refusal_unit = omega (arith, l) in absurd (false≢true (sym h.0 ∙ lt-ltb x refusal_unit small))
low x (Err refused) h (inr r) = sym r.1

narrow : {E : Type 0} (v x : ℕ) (r : Result ℕ E) → OkIff r (v < 256) v → v ≡ x % 256 → result_unwrap_or r 0 ≡ x % 256
narrow v x (Ok y) h e = h.1 ∙ e
narrow v x (Err f) h e = absurd (h (omega (arith, e)))

module _ (i : List ℕ) (n : ℕ) {x v : ℕ} (a : Result ℕ Refused) (h : Answers x a) (w : v ≡ result_unwrap_or a 0) {E : Type 0}
    (r : Result ℕ E) (k : OkIff r (v < 256) v) where
  pub held_low : x ≡ reu_debug_register i n → result_unwrap_or r 0 ≡ reu_debug_register i n % 256
  held_low e = narrow v _ r k (w ∙ low x a h (rw e (debug_by i n _ refl)) ∙ ap (λ (y : ℕ). y % 256) e)

  pub read_low : x ≡ (reu_read i n).0 → result_unwrap_or r 0 ≡ (reu_read i n).0 % 256
  read_low e = narrow v _ r k (w ∙ low x a h (rw e (read_by i n _ refl)) ∙ ap (λ (y : ℕ). y % 256) e)
