-- What holds of each controller that can be packed, over the fields that matter: with a flag replaced it is the same by computation.
use Prim.Native.Nat.{ℕ, zero, suc, ◌/◌, ◌%◌, ◌<◌, ◌≤◌}
use mathlib.Core.Bool.{Bool, true, false, not, cond, ◌&&◌, ◌||◌}
use mathlib.Core.Path.{◌≡◌, refl, ◌∙◌}
use mathlib.Core.List.{List, [], ◌∷◌}
use lib.Bits.{bit_and, bit_or, and_le_l, or_lt}
use lib.ListN.{length, get_or, set, length-set, drop}
use lib.Dec.{eqb, leb}
use native.Mathlib.Omega.{arith}
use Rattle.controller.specs.declared.reu.Reu.{Reu}
use Rattle.transfer.specs.declared.dma.DmaState.{DmaState}
use Rattle.std.specs.Prelude.{Option, None, Some}
use Rattle.transfer.specs.declared.dma.TransferType.{TransferType}
use Rattle.transfer.specs.declared.dma.TransferType.TheVariants.{Swap, Verify}
use Rattle.transfer.specs.declared.dma.SwapPhase.{SwapPhase}
use borrow.Author.Tests.{leb-true}
use Rattle.transfer.specs.Constants.{version, mask_ones, control_ones}
use Rattle.transfer.specs.Bytes.{bit, set_bits}
use Rattle.transfer.specs.Dma.{is_type, is_write_phase}
use Rattle.transfer.specs.Memory.{is_size, chip_mark}
use Rattle.regs.specs.FinishDma.{counters}
use Rattle.controller.specs.Enable.{fresh, with_mark}
use Rattle.transfer.proofs.Pick.{by_test, fst}
use Rattle.transfer.proofs.Bits.{bit_one, and_one, and_none, or_none, or_one}
use Rattle.image.proofs.Packed.{all_below}

-- ---- the registers

-- What register i may hold, with the chip-size mark k: a byte, and in STATUS bit 4 is the mark. A bit that is always 0 or always 1 is one more
-- field here, and one more in the laws of what is stored into that register; they all stand below.
pub record FitsRegister (k : Bool) (i v : ℕ) : Type 0 where
  pub byte : v < 256
  pub mark : i ≡ 0 → bit v version ≡ k

pub record SoundRegs (k : Bool) (l : List ℕ) : Type 0 where
  pub len : length l ≡ 11
  pub fits : (i : ℕ) → FitsRegister k i (get_or l i 0)

-- what holds of each element by its place still does after a store
pub set_each : (P : ℕ → ℕ → Type 0) (l : List ℕ) (i v : ℕ) → ((j : ℕ) → P j (get_or l j 0)) → P i v → (j : ℕ) → P j (get_or (set l i v) j 0)
set_each P [] i v h hv j = h j
set_each P (x ∷ l) zero v h hv zero = hv
set_each P (x ∷ l) zero v h hv (suc j) = h (suc j)
set_each P (x ∷ l) (suc i) v h hv zero = h zero
set_each P (x ∷ l) (suc i) v h hv (suc j) = set_each (λ k. P (suc k)) l i v (λ k. h (suc k)) hv j

pub store : {k : Bool} (i : ℕ) {v : ℕ} {l : List ℕ} → SoundRegs k l → FitsRegister k i v → SoundRegs k (set l i v)
store {k} i {v} {l} r h = record { len = length-set l i v ∙ r.len; fits = set_each (FitsRegister k) l i v r.fits h }

-- COMMAND, the addresses and the length hold any byte
abbrev plain : ℕ → Bool
plain i = leb 1 i && leb i 8

-- no register but STATUS has the mark
other_fits : {k : Bool} (i : ℕ) {v : ℕ} → 1 ≤ i → v < 256 → FitsRegister k i v
other_fits i p h = record { byte = h; mark = λ e. absurd (omega arith) }

pub plain_fits : {k : Bool} (i : ℕ) {v : ℕ} → plain i ≡ true → v < 256 → FitsRegister k i v
plain_fits i e h = other_fits i (leb-true 1 i (fst (leb 1 i) (leb i 8) e)) h

pub and_byte : (v k : ℕ) → v < 256 → bit_and v k < 256
and_byte v k h = omega (arith, and_le_l v k)

-- STATUS: events, bits 5 to 7, are raised; bits are cleared, and bit 4 is not; it has the mark of a size
abbrev Events : ℕ → Type 0
Events e = (e < 256) × (e % 32 ≡ 0)

raised_fits : {k : Bool} (e : ℕ) {v : ℕ} → Events e → FitsRegister k 0 v → FitsRegister k 0 (bit_or v e)
raised_fits e {v} h f =
    record { byte = or_lt 8 v e f.byte h.0; mark = λ z. or_none v e 4 (omega (arith, h.1)) ∙ f.mark z }

pub cleared_fits : {k : Bool} (m : ℕ) {v : ℕ} → bit m version ≡ true → FitsRegister k 0 v → FitsRegister k 0 (bit_and v m)
cleared_fits m {v} e f = record { byte = and_byte v m f.byte; mark = λ z. and_one v m 4 (bit_one m 4 e) ∙ f.mark z }

marked_fits : (size v : ℕ) → v < 256 → FitsRegister (chip_mark size) 0 (with_mark size v)
marked_fits size v h = go (chip_mark size)
  where
    go : (k : Bool) → FitsRegister k 0 (cond k (bit_or v 16) (bit_and v 239))
    go true = record { byte = or_lt 8 v 16 h (omega arith); mark = λ z. or_one v 16 4 refl }
    go false = record { byte = and_byte v 239 h; mark = λ z. and_none v 239 4 refl }

-- the mask and the control with the bits that are always 1
pub mask_fits : {k : Bool} {v : ℕ} → v < 256 → FitsRegister k 9 (set_bits mask_ones v)
mask_fits {k} {v} h = other_fits 9 (omega arith) (or_lt 8 v 31 h (omega arith))

pub control_fits : {k : Bool} {v : ℕ} → v < 256 → FitsRegister k 10 (set_bits control_ones v)
control_fits {k} {v} h = other_fits 10 (omega arith) (or_lt 8 v 63 h (omega arith))

-- registers whose STATUS has the mark of a size, whatever mark the others go with
pub mark_regs : {k : Bool} (size : ℕ) {l : List ℕ} → SoundRegs k l → SoundRegs (chip_mark size) (set l 0 (with_mark size (get_or l 0 0)))
mark_regs {k} size {l} r =
    record { len = length-set l 0 (with_mark size (get_or l 0 0)) ∙ r.len; fits = go l r.len (λ i. (r.fits i).byte) }
  where
    go : (l : List ℕ) → length l ≡ 11 → ((i : ℕ) → get_or l i 0 < 256) → (i : ℕ)
        → FitsRegister (chip_mark size) i (get_or (set l 0 (with_mark size (get_or l 0 0))) i 0)
    go [] e h i = absurd (omega arith)
    go (x ∷ l) e h zero = marked_fits size x (h zero)
    go (x ∷ l) e h (suc i) = other_fits (suc i) (omega arith) (h (suc i))

-- the registers of a new controller
pub fresh_regs : (e a : Bool) (size : ℕ) → SoundRegs (chip_mark size) (fresh e a size).regs
fresh_regs e a size = record { len = refl; fits = go }
  where
    go : (i : ℕ) → FitsRegister (chip_mark size) i (get_or (fresh e a size).regs i 0)
    go zero = marked_fits size 0 (omega arith)
    go (suc i) = other_fits (suc i) (omega arith) (all_below (drop 1 (fresh e a size).regs) (omega arith) i)

-- an event, where the test holds
pub raise : {k : Bool} (e : ℕ) → Events e → (b : Bool) {l : List ℕ} → SoundRegs k l → SoundRegs k (cond b (set l 0 (bit_or (get_or l 0 0) e)) l)
raise {k} e h b {l} r = by_test (SoundRegs k) b _ l (λ _. store 0 r (raised_fits e h (r.fits 0))) (λ _. r)

-- a byte of a counter, the two of an address or a length, and all seven
count : {k : Bool} (i n : ℕ) → plain i ≡ true → {l : List ℕ} → SoundRegs k l → SoundRegs k (set l i (n % 256))
count i n e r = store i r (plain_fits i e (omega arith))

pub count_pair : {k : Bool} (i j n : ℕ) → plain i ≡ true → plain j ≡ true → {l : List ℕ} → SoundRegs k l
    → SoundRegs k (set (set l i (n % 256)) j (n / 256 % 256))
count_pair i j n p q r = count j (n / 256) q (count i n p r)

pub count_all : {k : Bool} (c e n : ℕ) {l : List ℕ} → SoundRegs k l → SoundRegs k (counters l c e n)
count_all c e n r =
    count_pair 7 8 n refl refl (count 6 (e / 65536) refl (count_pair 4 5 e refl refl (count_pair 2 3 c refl refl r)))

-- ---- a transfer

-- attached; the type, the phase, the two addresses, remaining, the latch, the tail
pub record TransferFields (a : Bool) (k : TransferType) (p : SwapPhase) (c e n l : ℕ) (t : Bool) : Type 0 where
  pub present : a ≡ true
  pub c64 : c < 65536
  pub exp : e < 16777216
  pub low : 1 ≤ n
  pub high : n ≤ 65536
  pub latch : l < 256
  pub phase : (not (is_write_phase p) || is_type k Swap) ≡ true
  pub tail : (not t || (is_type k Verify && eqb n 1)) ≡ true

abbrev pub SoundTransfer : Bool → DmaState → Type 0
SoundTransfer attached d =
    TransferFields attached d.transfer_type d.swap_phase d.c64_addr.0 d.reu_addr.0 d.remaining d.latch d.verify_tail

abbrev pub SoundDma : Bool → Option DmaState → Type 0
SoundDma attached None = Unit {0}
SoundDma attached (Some d) = SoundTransfer attached d

-- another phase, another latch, another tail
pub with_step_lem : {a : Bool} {k : TransferType} {p q : SwapPhase} {c e n l v : ℕ} {t r : Bool} → TransferFields a k p c e n l t → v < 256
    → (not (is_write_phase q) || is_type k Swap) ≡ true → (not r || (is_type k Verify && eqb n 1)) ≡ true → TransferFields a k q c e n v r
with_step_lem h v p t =
    record { present = h.present; c64 = h.c64; exp = h.exp; low = h.low; high = h.high; latch = v; phase = p; tail = t }

-- ---- the controller

-- the registers; the shadows; attached, the delay, the transfer; the count of granted cycles; the size
pub record SoundFields (r : List ℕ) (c e n : ℕ) (a : Bool) (w : ℕ) (d : Option DmaState) (g z : ℕ) : Type 0 where
  pub regs : SoundRegs (chip_mark z) r
  pub c64 : c < 65536
  pub exp : e < 16777216
  pub len : n < 65536
  pub delay : w < 3
  pub dma : SoundDma a d
  pub granted : g < 4294967296
  pub size : is_size z ≡ true

abbrev pub Sound : Reu → Type 0
Sound u =
    SoundFields u.regs u.shadow_c64_addr u.shadow_reu_addr u.shadow_len u.attached u.swap_read_delay u.dma u.granted_cycles u.size

-- one of them replaced; a transfer with whether the storage is attached; the size with the registers
module _ {r : List ℕ} {c e n : ℕ} {a : Bool} {w : ℕ} {d : Option DmaState} {g z : ℕ} (s : SoundFields r c e n a w d g z) where
  pub with_regs_lem : {l : List ℕ} → SoundRegs (chip_mark z) l → SoundFields l c e n a w d g z
  with_regs_lem h = record { regs = h; c64 = s.c64; exp = s.exp; len = s.len; delay = s.delay; dma = s.dma; granted = s.granted; size = s.size }

  pub with_shadows_lem : {x y v : ℕ} → x < 65536 → y < 16777216 → v < 65536 → SoundFields r x y v a w d g z
  with_shadows_lem hx hy hv = record { regs = s.regs; c64 = hx; exp = hy; len = hv; delay = s.delay; dma = s.dma; granted = s.granted; size = s.size }

  pub with_delay_lem : {v : ℕ} → v < 3 → SoundFields r c e n a v d g z
  with_delay_lem h = record { regs = s.regs; c64 = s.c64; exp = s.exp; len = s.len; delay = h; dma = s.dma; granted = s.granted; size = s.size }

  pub with_dma_lem : {b : Bool} {x : Option DmaState} → SoundDma b x → SoundFields r c e n b w x g z
  with_dma_lem h = record { regs = s.regs; c64 = s.c64; exp = s.exp; len = s.len; delay = s.delay; dma = h; granted = s.granted; size = s.size }

  pub with_granted_lem : {k : ℕ} → k < 4294967296 → SoundFields r c e n a w d k z
  with_granted_lem h = record { regs = s.regs; c64 = s.c64; exp = s.exp; len = s.len; delay = s.delay; dma = s.dma; granted = h; size = s.size }

  pub with_size_lem : (y : ℕ) → is_size y ≡ true → SoundFields (set r 0 (with_mark y (get_or r 0 0))) c e n a w d g y
  with_size_lem y h =
      record { regs = mark_regs y s.regs; c64 = s.c64; exp = s.exp; len = s.len; delay = s.delay; dma = s.dma; granted = s.granted; size = h }
