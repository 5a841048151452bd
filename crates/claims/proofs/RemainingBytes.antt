-- L3's claim: a remaining and its two bytes as numbers, and then in images.
use Prim.Native.Nat.{ℕ, ◌+◌, ◌*◌, ◌/◌, ◌%◌, ◌<◌}
use mathlib.Core.Bool.{Bool, true, false, cond, not, ◌&&◌, ◌||◌}
use mathlib.Core.Path.{◌≡◌, refl, sym, ap, ◌∙◌, subst}
use mathlib.Core.List.{List, ◌++◌}
use lib.Dec.{eqb}
use lib.ListN.{length, take, drop, replicate}
use native.Mathlib.Nat.{add-mul-mod_self_left, mod-eq_of_lt}
use native.Mathlib.Omega.{arith}
use borrow.Author.Tests.{eqb-true}
use Rattle.transfer.specs.declared.dma.DmaState.{DmaState}
use Rattle.std.specs.Prelude.{Option}
use Rattle.std.specs.Prelude.{None, Some}
use Rattle.transfer.specs.declared.dma.TransferType.TheVariants.{Verify}
use Rattle.transfer.specs.Bytes.{low_byte, high_byte, word}
use Rattle.transfer.specs.Constants.{register_count, full_length}
use Rattle.transfer.specs.Dma.{is_type, length_of}
use Rattle.controller.specs.declared.reu.Reu.{Reu}
use Rattle.controller.specs.Inner.{InRange, InRangeDma}
use Rattle.controller.specs.Refusals.{well_formed, refusal_of}
use Rattle.controller.specs.Reu.{with_dma}
use Rattle.transfer.proofs.Pick.{snd}
use Rattle.controller.proofs.WellFormed.{well_range}
use Rattle.image.specs.Open.{Opened}
use Rattle.image.specs.Fields.{laid, lifted}
use Rattle.image.specs.Inner.{gets}
use Rattle.image.specs.Layout.{fields, at, transfer, remaining, remaining_number, other_with, pack_image, transfer_of, reu_at}
use Rattle.image.specs.Open.{open_image}
use Rattle.image.specs.Valid.{Typed}
use Rattle.image.proofs.ByBytes.{listed}
use Rattle.image.proofs.Gets.{gets_all}
use Rattle.image.proofs.Opening.{open_other, opened_is, opened_long}
use Rattle.image.proofs.Packed.{open_pack}
use Rattle.image.proofs.Remaining.{remaining_back, two_bytes_back}
use Rattle.image.proofs.Sound.{Sound, SoundDma, SoundTransfer, with_dma_lem}
use Rattle.image.proofs.SoundCalls.{length_range}
use Rattle.image.proofs.Valid.{open_sound, pack_back, sound_typed, sound_well}
use Rattle.claims.specs.RemainingBytes.{pair_of, remaining_of, IsPair, IsRemaining, OpensAs, pair_in, with_pair, with_remaining, RemainingBytes}

-- ---- numbers

-- the two bytes that packing lays down
bytes_of : (n : ℕ) → (remaining_number n % 256, remaining_number n / 256) ≡ pair_of n
bytes_of n =
    let low : remaining_number n % 256 ≡ low_byte n = omega arith in
    let above : n / 256 ≡ remaining_number n / 256 + 256 * (n / full_length) = omega arith in
    let high : high_byte n ≡ remaining_number n / 256
    = ap low_byte above ∙ add-mul-mod_self_left (remaining_number n / 256) 256 (n / full_length) ∙ mod-eq_of_lt (omega arith) in
    λ i. (low i, sym high i)

pub back : (n : ℕ) → IsRemaining n → IsPair (pair_of n) × (remaining_of (pair_of n) ≡ n)
back n h =
    let whole : word (remaining_number n % 256) (remaining_number n / 256) ≡ remaining_number n = omega arith in
    (omega arith, ap remaining_of (sym (bytes_of n)) ∙ ap length_of whole ∙ remaining_back n h.0 h.1)

own : (p : ℕ × ℕ) → IsPair p → IsRemaining (remaining_of p) × (pair_of (remaining_of p) ≡ p)
own p h =
    let n = word p.0 p.1 in
    let fits : n < full_length = omega arith in
    let low : n % 256 ≡ p.0 = omega arith in
    let high : n / 256 ≡ p.1 = omega arith in (
      length_range n fits,
      sym (bytes_of (length_of n)) ∙ ap (λ (m : ℕ). (m % 256, m / 256)) (two_bytes_back n fits) ∙ (λ i. (low i, high i)),
    )

-- ---- a controller that is packed

-- its bytes, with the registers written out
module _ (u : Reu) (m : Option DmaState) where
  abbrev written : List ℕ
  written = laid fields (gets 0 register_count u.regs ++ other_with u m)

  written_is : length u.regs ≡ register_count → u.dma ≡ m → pack_image u ≡ written
  unfolding pack_image
  written_is long e = λ i. laid fields (sym (gets_all u.regs register_count long) i ++ other_with u (e i))

pub packed : (u : Reu) (d : DmaState) → Typed u → u.dma ≡ Some d → pair_in (pack_image u) ≡ pair_of d.remaining
packed u d typed e = ap pair_in (written_is u (Some d) typed.regs_long e) ∙ bytes_of d.remaining

-- ---- an image that is opened

module _ (image : List ℕ) (m : Option DmaState) (o : OpensAs image m) where
  is : open_image image ≡ record { refusal = 0; reu = reu_at image }
  is = opened_is image o.accepted

  runs : (reu_at image).dma ≡ m
  runs = ap (λ (x : Opened). x.reu.dma) (sym is) ∙ o.runs

  sound : Sound (reu_at image)
  sound = open_sound image o.bytes o.accepted

  -- the image is what its controller packs as
  image_is : image ≡ written (reu_at image) m
  image_is = sym (pack_back image o.bytes o.accepted) ∙ written_is (reu_at image) m sound.regs.len runs

module _ (image : List ℕ) (d : DmaState) (o : OpensAs image (Some d)) where
  transfer_is : transfer_of (lifted fields image) ≡ d
  unfolding reu_at
  transfer_is = go (eqb (at (lifted fields image) transfer) 0) (runs image (Some d) o)
    where
      go : (t : Bool) → cond t None (Some (transfer_of (lifted fields image))) ≡ Some d → transfer_of (lifted fields image) ≡ d
      go true e = cc
      go false e = cc

  opened : d.remaining ≡ remaining_of (pair_in image)
  opened =
      ap (λ (x : DmaState). x.remaining) (sym transfer_is)
      ∙ ap (λ (l : List ℕ). length_of (at (lifted fields l) remaining)) (sym (listed image (opened_long image o.accepted)))

  pair_is : pair_in image ≡ pair_of d.remaining
  pair_is = sym (own (pair_in image) (o.bytes.below _, o.bytes.below _)).1 ∙ ap pair_of (sym opened)

  sound_transfer : SoundTransfer (reu_at image).attached d
  sound_transfer = subst (SoundDma (reu_at image).attached) (runs image (Some d) o) (sound image (Some d) o).dma

  tail : d.verify_tail ≡ true → pair_in image ≡ (1, 0)
  tail t =
      let last : is_type d.transfer_type Verify && eqb d.remaining 1 ≡ true
      = ap (λ (b : Bool). not b || (is_type d.transfer_type Verify && eqb d.remaining 1)) (sym t) ∙ sound_transfer.tail in
      pair_is ∙ ap pair_of (eqb-true d.remaining 1 (snd (is_type d.transfer_type Verify) _ last))

  any : (p : ℕ × ℕ) → d.verify_tail ≡ false → IsPair p
      → open_image (with_pair image p)
      ≡ record { refusal = 0; reu = with_dma (open_image image).reu (Some (with_remaining d (remaining_of p))) }
  any p t h =
      ap open_image (ap (λ (l : List ℕ). with_pair l p) (image_is image (Some d) o) ∙ put ∙ sym again)
      ∙ open_pack next (sound_typed next fits) (sound_well next fits)
      ∙ (λ i. record { refusal = 0; reu = with_dma (sym (is image (Some d) o) i).reu (Some other) })
    where
      n : ℕ
      n = remaining_of p

      other : DmaState
      other = with_remaining d n

      next : Reu
      next = with_dma (reu_at image) (Some other)

      fits : Sound next
      fits =
          with_dma_lem (sound image (Some d) o)
          record {
            present = sound_transfer.present;
            c64 = sound_transfer.c64;
            exp = sound_transfer.exp;
            low = (own p h).0.0;
            high = (own p h).0.1;
            latch = sound_transfer.latch;
            phase = sound_transfer.phase;
            tail = ap (λ (b : Bool). not b || (is_type d.transfer_type Verify && eqb n 1)) t;
          }

      again : pack_image next ≡ written (reu_at image) (Some other)
      again = written_is next (Some other) (sound image (Some d) o).regs.len refl

      put : with_pair (written (reu_at image) (Some d)) p ≡ written (reu_at image) (Some other)
      put = ap (with_pair (written (reu_at image) (Some d))) (sym (bytes_of n ∙ (own p h).1))

idle : (image : List ℕ) → OpensAs image None → take 11 (drop 22 image) ≡ replicate 11 0
idle image o = ap (λ (l : List ℕ). take 11 (drop 22 l)) (image_is image None o)

-- ---- refusals

value : (u : Reu) (d : DmaState) (bus storage : ℕ) → u.dma ≡ Some d → ¬ IsRemaining d.remaining → refusal_of u bus storage ≡ 2
unfolding refusal_of
value u d bus storage e bad = go (well_formed u) refl
  where
    go : (b : Bool) → well_formed u ≡ b → refusal_of u bus storage ≡ 2
    go true ok = let r : InRange d = subst InRangeDma e (well_range u ok) in absurd (bad (r.low, r.high))
    go false ok = rw ok

pub remaining_bytes : RemainingBytes
remaining_bytes =
    record {
      back = back;
      own = own;
      some = refl;
      places = refl;
      size = refl;
      packed = packed;
      opened = opened;
      any = λ image d p o t h. any image d o p t h;
      tail = tail;
      idle = idle;
      other = λ image h. ap (λ (o : Opened). o.refusal) (open_other image h);
      value = value;
    }
