-- The size and its mark hold over lists of calls, and setting a size touches two places of an image.
use Prim.Native.Nat.{ℕ, ◌+◌, ◌*◌, ◌%◌, ◌<◌}
use native.Mathlib.Omega.{arith}
use native.Mathlib.Nat.{add-zero}
use mathlib.Core.Bool.{Bool, true, false, not, cond}
use mathlib.Core.Logic.{◌≢◌, ◌⊎◌, inl, inr}
use mathlib.Core.Path.{◌≡◌, refl, sym, ap, ◌∙◌, subst}
use mathlib.Core.List.{List, [], ◌∷◌, ◌++◌}
use lib.Dec.{eqb}
use lib.ListN.{length, get_or, set}
use Rattle.transfer.specs.Bytes.{bit}
use Rattle.transfer.specs.Constants.{new_size}
use Rattle.transfer.specs.Memory.{is_size, chip_mark}
use Rattle.std.specs.Prelude.{Option}
use Rattle.std.specs.Prelude.{None, Some}
use Rattle.transfer.proofs.Sizes.{size_lines, three_sizes, size_128, size_256, size_512, lines_17, lines_18, lines_19}
use Rattle.controller.specs.declared.reu.Reu.{Reu}
use Rattle.controller.specs.Enable.{new_reu, with_mark, set_size as core_set_size}
use Rattle.controller.specs.Reu.{with_regs}
use Rattle.controller.specs.Refusals.{first_refusal, size_refusal, checked}
use Rattle.controller.specs.Calls.{answered, refused, set_size_call}
use Rattle.image.specs.Open.{Opened}
use Rattle.image.specs.Fields.{laid}
use Rattle.image.specs.Inner.{gets}
use Rattle.image.specs.Layout.{fields, at, image_size, flags_of, flag_bits, more_bits, more_number, size_code, present, transfer_numbers, pack_image}
use Rattle.image.specs.Open.{image_ok, open_image}
use Rattle.image.proofs.Flags.{flags_below}
use Rattle.image.proofs.Size.{code_most}
use Rattle.image.proofs.Opening.{open_good, open_bad}
use Rattle.image.proofs.Packed.{open_pack, listed_is}
use Rattle.image.proofs.Sound.{Sound}
use Rattle.image.proofs.Valid.{sound_well, sound_typed}
use Rattle.reu.specs.Exports.{refusal, code, image_after, changed, change, reu_capacity_bytes, reu_set_size}
use Rattle.claims.specs.Constants.{more_flags_byte}
use Rattle.claims.specs.Calls.{Held, Other, new, reset, set_size, set_enabled, storage_present, capacity_bytes, trigger_ff00, dma_active, bus_action, cpu_ready, debug_register, c64_access, tick_dma, Kind, read, write, cycle, other, Call, Fits, leaves, accepts, next, after, Each, All}
use Rattle.claims.specs.SwapTwice.{byte, size_set}
use Rattle.claims.specs.GrantedCycles.{has_storage}
use Rattle.claims.specs.ChipSize.{mark_in, refused_by, with_size, size_by_other, size_by, size_after, ChipSize}
use Rattle.claims.proofs.States.{St, Good, held, step_of, keeps_size, good_step}
use Rattle.claims.proofs.Accepted.{alone, answer_is}
use Rattle.claims.proofs.Walk.{number_at, left_is}
use Rattle.claims.proofs.Look.{reg_byte, attached_bit, size_byte}
use Rattle.claims.proofs.SavedMachine.{Holds, new_holds, accepted_holds, one_call}
use Rattle.transfer.specs.declared.dma.DmaState.{DmaState}

-- ---- which numbers pass

three : (n : ℕ) → (is_size n ≡ true → (n ≡ 131072) ⊎ (n ≡ 262144) ⊎ (n ≡ 524288)) × ((n ≡ 131072) ⊎ (n ≡ 262144) ⊎ (n ≡ 524288) → is_size n ≡ true)
three n = (three_sizes n, back)
  where
    back : (n ≡ 131072) ⊎ (n ≡ 262144) ⊎ (n ≡ 524288) → is_size n ≡ true
    back (inl e) = ap is_size e ∙ size_128
    back (inr (inl e)) = ap is_size e ∙ size_256
    back (inr (inr e)) = ap is_size e ∙ size_512

-- ---- the places that setting touches

module _ (u : Reu) where
  -- the image by STATUS and the byte of two flags and the size
  abbrev laid_with : Option DmaState → ℕ → ℕ → List ℕ
  laid_with d first more =
      laid fields
      ((first ∷ gets 1 10 u.regs)
      ++ (u.shadow_c64_addr ∷ u.shadow_reu_addr ∷ u.shadow_len ∷ flags_of (flag_bits u) ∷ more ∷ u.swap_read_delay ∷ present d
      ∷ (transfer_numbers d ++ (u.granted_cycles ∷ []))))

  touched : (d : Option DmaState) (first more v w : ℕ) → set (set (laid_with d first more) 0 v) 19 w ≡ laid_with d v w
  touched None first more v w = refl
  touched (Some d) first more v w = refl

  first_byte : (d : Option DmaState) (first more : ℕ) → at (laid_with d first more) 0 ≡ first
  first_byte None first more = refl
  first_byte (Some d) first more = refl

  more_at : (d : Option DmaState) (first more : ℕ) → at (laid_with d first more) 19 ≡ more
  more_at None first more = refl
  more_at (Some d) first more = refl

  abbrev listed : Reu
  listed = with_regs u (gets 0 11 u.regs)

  -- with the registers one by one
  listed_bytes : (size : ℕ) → pack_image (core_set_size listed size) ≡ with_size (pack_image listed) size
  unfolding pack_image core_set_size
  listed_bytes size =
      let d = u.dma in
      let s = get_or u.regs 0 0 in
      let n = more_number u in
      let more : flags_of (more_bits u) + 4 * size_code size ≡ n % 4 + 4 * size_code size = omega (arith, flags_below (more_bits u)) in
      ap (laid_with d (with_mark size s)) more
      ∙ sym (touched d s n (with_mark size s) (n % 4 + 4 * size_code size))
      ∙ sym (λ i. set (set (laid_with d s n) 0 (with_mark size (first_byte d s n i))) 19 (more_at d s n i % 4 + 4 * size_code size))

  pub sized_bytes : (size : ℕ) → Sound u → pack_image (core_set_size u size) ≡ with_size (pack_image u) size
  sized_bytes size sound =
      subst (λ (v : Reu). pack_image (core_set_size v size) ≡ with_size (pack_image v) size) (listed_is u (sound_typed u sound) (sound_well u sound)) (listed_bytes size)

-- ---- setting

module _ (x : St) (sound : Sound x.u) where
  number_is : (size : ℕ) → size_refusal x.u size ≡ refused_by (held x) size
  unfolding size_refusal
  number_is size = λ i. first_refusal ((sound_well x.u sound i, 2) ∷ (is_size size, 5) ∷ (not (sym (attached_bit x sound) i), 6) ∷ [])

  opened : open_image (pack_image x.u) ≡ record { refusal = 0; reu = x.u }
  opened = open_pack x.u (sound_typed x.u sound) (sound_well x.u sound)

  -- by the number that it is tested for
  by_number : (size n : ℕ) → changed (checked n (refused x.u) (answered 0 (core_set_size x.u size))) (pack_image x.u)
      ≡ cond (eqb n 0) (0, with_size (pack_image x.u) size) (refusal n, pack_image x.u)
  unfolding checked code image_after
  by_number size n = go (eqb n 0) refl
    where
      go : (b : Bool) → eqb n 0 ≡ b → changed (cond b (answered 0 (core_set_size x.u size)) (refused x.u n)) (pack_image x.u)
          ≡ cond b (0, with_size (pack_image x.u) size) (refusal n, pack_image x.u)
      go true e = ap (λ (l : List ℕ). (0, l)) (sized_bytes x.u size sound)
      go false e = λ i. (add-zero (refusal n) i, cond (e i) (pack_image x.u) (pack_image x.u))

  pub sets_is : (size : ℕ) → reu_set_size (pack_image x.u) size
      ≡ cond (eqb (refused_by (held x) size) 0) (0, with_size (pack_image x.u) size) (refusal (refused_by (held x) size), pack_image x.u)
  unfolding change checked set_size_call
  sets_is size =
      ap (λ (o : Opened). checked o.refusal (λ k. (refusal k, pack_image x.u)) (changed (set_size_call o.reu size) (pack_image x.u))) opened
      ∙ by_number size (size_refusal x.u size)
      ∙ ap (λ (n : ℕ). cond (eqb n 0) (0, with_size (pack_image x.u) size) (refusal n, pack_image x.u)) (number_is size)

  pub mark_is : mark_in (held x) ≡ chip_mark x.u.size
  mark_is = ap (λ (v : ℕ). bit v 4) (reg_byte x sound 0 (omega arith)) ∙ (sound.regs.fits 0).mark refl

  -- ---- the size after a call

  other_size : (o : Other) → (step_of (other o) x).u.size ≡ size_by_other o x.u.size
  unfolding core_set_size
  other_size new = refl
  other_size (reset h) = refl
  other_size (set_size n) = refl
  other_size (set_enabled e) = keeps_size (other (set_enabled e)) x tt
  other_size storage_present = refl
  other_size capacity_bytes = refl
  other_size trigger_ff00 = keeps_size (other trigger_ff00) x tt
  other_size dma_active = refl
  other_size (bus_action h p n) = keeps_size (other (bus_action h p n)) x tt
  other_size (cpu_ready h) = refl
  other_size (debug_register i) = refl
  other_size c64_access = refl
  other_size (tick_dma n l) = keeps_size (other (tick_dma n l)) x tt

  kind_size : (k : Kind) → (step_of k x).u.size ≡ size_by k x.u.size
  kind_size (read a) = keeps_size (read a) x tt
  kind_size (write a v) = keeps_size (write a v) x tt
  kind_size (cycle h n l p) = keeps_size (cycle h n l p) x tt
  kind_size (other o) = other_size o

-- ---- an image that holds a sound controller

abbrev state : (k : Held) → Holds k.image → St
state k h = record { u = h.reu; m = k.bus; s = k.storage }

same : (k : Held) (h : Holds k.image) → k ≡ held (state k h)
same k h = λ i. record { image = h.packed i; bus = k.bus; storage = k.storage }

holds_size : (k : Held) (h : Holds k.image) → size_set k ≡ h.reu.size
holds_size k h = ap size_set (same k h) ∙ size_byte (state k h) h.sound

holds_mark : (k : Held) (h : Holds k.image) → mark_in k ≡ chip_mark (size_set k)
holds_mark k h = ap mark_in (same k h) ∙ mark_is (state k h) h.sound ∙ ap chip_mark (sym (holds_size k h))

-- ---- lists of calls

one_size : (k : Held) (c : Call) → (accepts c ≡ true → c.lent.image ≡ k.image) → Fits c → Holds k.image
    → (b : Bool) → accepts c ≡ b → size_set (next k c) ≡ cond b (size_by c.kind (size_set k)) (size_set k)
one_size k c lent f h true ok =
    let x : St = record { u = h.reu; m = c.lent.bus; s = c.lent.storage } in
    let le : c.lent ≡ held x = λ i. record { image = (lent ok ∙ h.packed) i; bus = c.lent.bus; storage = c.lent.storage } in
    let good : Good x = record { sound = h.sound; bus = f.bus; storage = f.storage } in
    ap (λ (b : Bool). size_set (cond b (leaves c) k)) ok
    ∙ ap size_set (left_is x c h.sound ok le)
    ∙ size_byte (step_of c.kind x) (good_step x good c.kind (number_at x c h.sound ok le) f.numbers).sound
    ∙ kind_size x h.sound c.kind
    ∙ ap (size_by c.kind) (sym (holds_size k h))
one_size k c lent f h false e = ap (λ (b : Bool). size_set (cond b (leaves c) k)) e

record Sized (k : Held) (size : ℕ) : Type 0 where
  holds : Holds k.image
  set_to : size_set k ≡ size

all_sizes : (cs : List Call) (k : Held) (size : ℕ) → Each (λ h c. c.lent.image ≡ h.image) k cs → All Fits cs → Sized k size
    → Sized (after k cs) (size_after size cs)
all_sizes [] k size lent fits h = h
all_sizes (c ∷ cs) k size lent fits h =
    all_sizes cs (next k c) (cond (accepts c) (size_by c.kind size) size) lent.1 fits.1
    record {
      holds = one_call k c lent.0 fits.0 h.holds (accepts c) refl;
      set_to =
          one_size k c lent.0 fits.0 h.holds (accepts c) refl
          ∙ ap (λ (n : ℕ). cond (accepts c) (size_by c.kind n) n) h.set_to;
    }

both : (k : Held) (size : ℕ) → Sized k size → (size_set k ≡ size) × (mark_in k ≡ chip_mark size)
both k size h = (h.set_to, holds_mark k h.holds ∙ ap chip_mark h.set_to)

new_size_lem : (k : Held) (e : k.image ≡ pack_image new_reu) → Sized k new_size
new_size_lem k e = let h = new_holds k.image e in record { holds = h; set_to = holds_size k h }

-- ---- which images are refused

else : (i : List ℕ) → length i ≡ image_size → (open_image i).refusal ≢ 0 → (open_image i).refusal ≡ 2
else i long bad = go (image_ok i) refl
  where
    go : (b : Bool) → image_ok i ≡ b → (open_image i).refusal ≡ 2
    go true e = absurd (bad (ap (λ (o : Opened). o.refusal) (open_good i long e)))
    go false e = ap (λ (o : Opened). o.refusal) (open_bad i long e)

small_code : (x : St) → Sound x.u → byte (held x) more_flags_byte < 12
unfolding pack_image
small_code x sound =
    let u = x.u in
    let e : pack_image (listed u) ≡ pack_image u = ap pack_image (listed_is u (sound_typed u sound) (sound_well u sound)) in
    subst (λ (l : List ℕ). at l 19 < 12) e
    (subst (λ (n : ℕ). n < 12) (sym (more_at u u.dma (get_or u.regs 0 0) (more_number u))) (omega (arith, flags_below (more_bits u), code_most u.size)))

pub chip_size : ChipSize
chip_size =
    record {
      three = three;
      connected = λ i. lines_17 i ∷ lines_18 i ∷ lines_19 i ∷ [];
      power = λ n e. (size_lines n e).power;
      sets = λ k size b z.
          let h = accepted_holds k.image b z in
          let x = state k h in
          subst (λ (g : Held). reu_set_size g.image size ≡ cond (eqb (refused_by g size) 0) (0, with_size g.image size) (refusal (refused_by g size), g.image))
          (sym (same k h)) (sets_is x h.sound size);
      capacity = λ k b z.
          let h = accepted_holds k.image b z in
          let x = state k h in
          ap (λ (g : Held). reu_capacity_bytes g.image) (same k h) ∙ answer_is x h.sound (other capacity_bytes) (alone x h.sound)
          ∙ sym (λ i. cond ((ap has_storage (same k h) ∙ attached_bit x h.sound) i) (holds_size k h i) 0);
      from_new = λ k calls e l. both (after k calls) (size_after new_size calls) (all_sizes calls k new_size l.lent l.fits (new_size_lem k e));
      goes_on = λ k calls b z l.
          both (after k calls) (size_after (size_set k) calls) (all_sizes calls k (size_set k) l.lent l.fits record { holds = accepted_holds k.image b z; set_to = refl });
      agrees = λ k b z.
          let h = accepted_holds k.image b z in
          (subst (λ (g : Held). byte g more_flags_byte < 12) (sym (same k h)) (small_code (state k h) h.sound), holds_mark k h);
      else = else;
    }
