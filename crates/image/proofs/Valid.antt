-- A sound controller is one whose fields fit their types and that passes the test.
use Prim.Native.Nat.{ℕ}
use mathlib.Core.Bool.{Bool, true, false, not, beq, ◌&&◌, ◌||◌}
use mathlib.Core.Path.{◌≡◌, refl, sym, ap, ◌∙◌}
use mathlib.Core.List.{List}
use lib.Dec.{eqb, ltb, leb}
use native.Mathlib.Omega.{arith}
use borrow.Author.Tests.{lt-ltb, ltb-true, le-leb, leb-true}
use Rattle.controller.specs.declared.reu.Reu.{Reu}
use Rattle.transfer.specs.declared.dma.DmaState.{DmaState}
use Rattle.transfer.specs.declared.dma.TransferType.TheVariants.{Swap, Verify}
use Rattle.std.specs.Prelude.{Option, None, Some}
use Rattle.transfer.specs.Dma.{is_type, is_write_phase, well_transfer, well_dma}
use Rattle.controller.specs.Refusals.{well_formed}
use Rattle.transfer.specs.Constants.{version}
use Rattle.transfer.specs.Bytes.{bit}
use Rattle.transfer.specs.Memory.{is_size, chip_mark}
use Rattle.controller.specs.Reu.{reg}
use Rattle.transfer.proofs.Pick.{fst, snd}
use Rattle.controller.proofs.WellFormed.{well_shadow, well_delay, well_size_lem}
use Rattle.image.specs.Layout.{pack_image, reu_at}
use Rattle.image.specs.Open.{open_image}
use Rattle.image.proofs.Opening.{opened_long, opened_ok}
use Rattle.image.specs.Valid.{Bytes, Typed, DmaTyped}
use Rattle.image.proofs.Packed.{pack_bytes}
use Rattle.image.proofs.Unpacked.{pack_open, opened_typed, opened_well}
use Rattle.image.proofs.Sound.{FitsRegister, SoundTransfer, SoundDma, Sound}

transfer_well : (a : Bool) (d : DmaState) → SoundTransfer a d → a && well_transfer d ≡ true
transfer_well a d h =
    let low : leb 1 d.remaining ≡ true = le-leb 1 d.remaining h.low in
    let high : leb d.remaining 65536 ≡ true = le-leb d.remaining 65536 h.high in
    let addr : ltb d.reu_addr.0 16777216 ≡ true = lt-ltb d.reu_addr.0 16777216 h.exp in
    λ i. h.present i && ((low i && high i) && (addr i && (h.phase i && h.tail i)))

dma_well : (a : Bool) (x : Option DmaState) → SoundDma a x → well_dma a x ≡ true
dma_well a None h = refl
dma_well a (Some d) h = transfer_well a d h

same_beq : (a b : Bool) → a ≡ b → beq a b ≡ true
same_beq a b e = ap (beq a) (sym e) ∙ self a
  where
    self : (c : Bool) → beq c c ≡ true
    self true = refl
    self false = refl

beq_same : (a b : Bool) → beq a b ≡ true → a ≡ b
beq_same true true e = refl
beq_same true false e = sym e
beq_same false true e = e
beq_same false false e = refl

pub sound_well : (u : Reu) → Sound u → well_formed u ≡ true
unfolding well_formed
sound_well u s =
    let delay : leb u.swap_read_delay 2 ≡ true = le-leb u.swap_read_delay 2 (omega (arith, s.delay)) in
    let shadow : ltb u.shadow_reu_addr 16777216 ≡ true = lt-ltb u.shadow_reu_addr 16777216 s.exp in
    let mark : beq (bit (reg u 0) version) (chip_mark u.size) ≡ true = same_beq _ _ ((s.regs.fits 0).mark refl) in
    λ i. delay i && (shadow i && (dma_well u.attached u.dma s.dma i && (s.size i && mark i)))

dma_typed : (a : Bool) (x : Option DmaState) → SoundDma a x → DmaTyped x
dma_typed a None h = tt
dma_typed a (Some d) h = (h.c64, h.latch)

pub sound_typed : (u : Reu) → Sound u → Typed u
sound_typed u s =
    record {
      regs_long = s.regs.len;
      regs_bytes = record { below = λ i. (s.regs.fits i).byte };
      c64_fits = s.c64;
      len_fits = s.len;
      dma_fits = dma_typed u.attached u.dma s.dma;
      granted_fits = s.granted;
    }

-- the other way
module _ (a : Bool) (d : DmaState) (h : DmaTyped (Some d)) (e : a && well_transfer d ≡ true) where
  well : well_transfer d ≡ true
  well = snd a (well_transfer d) e

  bounds : (leb 1 d.remaining && leb d.remaining 65536) ≡ true
  bounds = fst (leb 1 d.remaining && leb d.remaining 65536) _ well

  after_bounds :
      ltb d.reu_addr.0 16777216
      && ((not (is_write_phase d.swap_phase) || is_type d.transfer_type Swap)
      && (not d.verify_tail || (is_type d.transfer_type Verify && eqb d.remaining 1)))
      ≡ true
  after_bounds = snd (leb 1 d.remaining && leb d.remaining 65536) _ well

  kinds :
      (not (is_write_phase d.swap_phase) || is_type d.transfer_type Swap)
      && (not d.verify_tail || (is_type d.transfer_type Verify && eqb d.remaining 1))
      ≡ true
  kinds = snd (ltb d.reu_addr.0 16777216) _ after_bounds

  transfer_sound : SoundTransfer a d
  transfer_sound =
      record {
        present = fst a (well_transfer d) e;
        c64 = h.0;
        exp = ltb-true d.reu_addr.0 16777216 (fst (ltb d.reu_addr.0 16777216) _ after_bounds);
        low = leb-true 1 d.remaining (fst (leb 1 d.remaining) (leb d.remaining 65536) bounds);
        high = leb-true d.remaining 65536 (snd (leb 1 d.remaining) (leb d.remaining 65536) bounds);
        latch = h.1;
        phase = fst (not (is_write_phase d.swap_phase) || is_type d.transfer_type Swap) _ kinds;
        tail = snd (not (is_write_phase d.swap_phase) || is_type d.transfer_type Swap) _ kinds;
      }

dma_sound : (a : Bool) (x : Option DmaState) → DmaTyped x → well_dma a x ≡ true → SoundDma a x
dma_sound a None h e = tt
dma_sound a (Some d) h e = transfer_sound a d h e

-- the registers, with the mark of the size
regs_fit : (u : Reu) → Typed u → well_formed u ≡ true → (i : ℕ) → FitsRegister (chip_mark u.size) i (reg u i)
regs_fit u t e i =
    record {
      byte = t.regs_bytes.below i;
      mark = λ z. ap (λ (j : ℕ). bit (reg u j) version) z ∙ beq_same (bit (reg u 0) version) (chip_mark u.size) (snd (is_size u.size) _ (well_size_lem u e));
    }

pub sound_of : (u : Reu) → Typed u → well_formed u ≡ true → Sound u
unfolding well_formed
sound_of u t e =
    record {
      regs = record { len = t.regs_long; fits = regs_fit u t e };
      c64 = t.c64_fits;
      exp = well_shadow u e;
      len = t.len_fits;
      delay = omega (arith, well_delay u e);
      dma =
          dma_sound u.attached u.dma t.dma_fits
          (fst (well_dma u.attached u.dma) _ (snd (ltb u.shadow_reu_addr 16777216) _ (snd (leb u.swap_read_delay 2) _ e)));
      granted = t.granted_fits;
      size = fst (is_size u.size) _ (well_size_lem u e);
    }

pub sound_bytes : (u : Reu) → Sound u → Bytes (pack_image u)
sound_bytes u s = pack_bytes u (sound_typed u s) (sound_well u s)

-- what an accepted image holds
pub open_sound : (m : List ℕ) → Bytes m → (open_image m).refusal ≡ 0 → Sound (reu_at m)
open_sound m b z =
    sound_of (reu_at m) (opened_typed m b (opened_long m z) (opened_ok m z)) (opened_well m b (opened_long m z) (opened_ok m z))

pub pack_back : (m : List ℕ) → Bytes m → (open_image m).refusal ≡ 0 → pack_image (reu_at m) ≡ m
pack_back m b z = pack_open m b (opened_long m z) (opened_ok m z)
