-- The registers of an image i where it stands: what a look at one, a read and a write are, by the tests that decide.
use Rattle.std.proofs.Common.{◌≡◌, ◌&&◌, ℕ, ◌<◌, Bool, true, false, cond, List, length, set, refl, sym, ap, ◌∙◌, subst, arith}
use Rattle.std.proofs.Math.Dec.{ltb, eqb}
use Rattle.std.proofs.lemmas.List.{get_or-take}
use borrow.Author.Tests.{eq-eqb, ne_eqb, ltb-true}
use mathlib.Core.Bool.{false≢true}
use Rattle.std.specs.Prelude.{Ok}
use Rattle.transfer.specs.Constants.{command, execute, register_count, status, unused_register, without_ff00}
use Rattle.transfer.specs.Bytes.{bit}
use Rattle.transfer.proofs.Pick.{by_test}
use Rattle.regs.specs.Registers.{acknowledged, register_index, shown}
use Rattle.controller.specs.declared.refusals.Refusal.TheVariants.{Length, Field}
use Rattle.controller.specs.declared.reu.Reu.{Reu}
use Rattle.controller.specs.declared.reu.Answered.{Answered}
use Rattle.controller.specs.Answers.{Answer}
use Rattle.controller.specs.Reu.{reg, set_reg, with_armed, with_irq}
use Rattle.controller.specs.StartDma.{start_dma}
use Rattle.controller.specs.Refusals.{well_formed}
use Rattle.controller.specs.FinishDma.{update_irq}
use Rattle.controller.specs.Registers.{write_other, debug_register, read_at, read_register, write_command, write_register}
use Rattle.controller.specs.Calls.{debug_register_call, read_call, write_call}
use Rattle.image.specs.Layout.{at, image_size, pack_image, reu_at}
use Rattle.image.specs.Open.{image_ok}
use Rattle.image.specs.Valid.{Bytes}
use Rattle.image.proofs.ByBytes.{registers_are}
use Rattle.image.proofs.Opening.{open_other, open_bad, open_good}
use Rattle.image.proofs.Sound.{Sound}
use Rattle.image.proofs.SoundCalls.{sound_write}
use Rattle.image.proofs.Unpacked.{pack_open, opened_typed, opened_well}
use Rattle.image.proofs.Valid.{sound_of}
use Rattle.reu.specs.Exports.{refusal, look, change, reu_debug_register, reu_read, reu_write}
use Rattle.reu.specs.Direct.{flagged, read_in, registered, registers_in, starts}
use Rattle.reu.proofs.Families.{look_refused, look_done, change_refused, change_done, served}
use Rattle.reu.proofs.InPlace.{registers_laid, status_laid}

-- ---- what a write changes that begins no command

-- u with the registers, the shadows and two of the flags of w
abbrev kept : Reu → Reu → Reu
kept u w =
    record u {
      regs = w.regs;
      shadow_c64_addr = w.shadow_c64_addr;
      shadow_reu_addr = w.shadow_reu_addr;
      shadow_len = w.shadow_len;
      irq_pending = w.irq_pending;
      waiting_ff00 = w.waiting_ff00;
    }

record Kept (u w : Reu) : Type 0 where
  is : w ≡ kept u w

module _ (u : Reu) (a v : ℕ) (quiet : starts a v ≡ false) where
  choose : (b : Bool) (x y : Reu) → (b ≡ true → Kept u x) → Kept u y → Kept u (cond b x y)
  choose b x y h k = by_test (Kept u) b x y h (λ _. k)

  plain : (w : Reu) → w ≡ kept u w → Kept u w
  plain w h = record { is = h }

  command_kept : eqb (register_index a) command ≡ true → Kept u (write_command u v)
  unfolding write_command
  command_kept k =
      choose (bit v execute) _ _
      (λ e. by_test (Kept u) (bit v without_ff00) _ _ (λ f. absurd (false≢true (sym quiet ∙ (λ j. k j && (e j && f j))))) (λ _. plain _ refl)) (plain _ refl)

  -- a write of COMMAND arms or disarms
  module _ (k : register_index a ≡ command) where
    armed : (e f : Bool) → bit v execute ≡ e → bit v without_ff00 ≡ f
        → with_armed (set_reg u command v) e ≡ cond e (cond f (start_dma (with_armed (set_reg u command v) false)) (with_armed (set_reg u command v) true)) (with_armed (set_reg u command v) false)
    armed true true e f = absurd (false≢true (sym quiet ∙ (λ j. eq-eqb (register_index a) command k j && (e j && f j))))
    armed true false e f = refl
    armed false f e g = refl

    pub armed_is : with_armed (set_reg u command v) (bit v execute) ≡ write_register u a v
    unfolding write_register write_command
    armed_is = rw (eq-eqb (register_index a) command k) (armed (bit v execute) (bit v without_ff00) refl refl)

  -- a write of another register
  pub other_is : (register_index a ≡ command → ⊥) → write_other u (register_index a) v ≡ write_register u a v
  unfolding write_register
  other_is k = rw (ne_eqb (register_index a) command k) refl

  write_kept : Kept u (write_register u a v)
  unfolding write_register update_irq
  write_kept =
      let k : ℕ = register_index a in
      choose (eqb k 1) _ _ command_kept
      (choose (eqb k 2) _ _ (λ _. plain _ refl)
      (choose (eqb k 3) _ _ (λ _. plain _ refl)
      (choose (eqb k 4) _ _ (λ _. plain _ refl)
      (choose (eqb k 5) _ _ (λ _. plain _ refl)
      (choose (eqb k 6) _ _ (λ _. plain _ refl)
      (choose (eqb k 7) _ _ (λ _. plain _ refl)
      (choose (eqb k 8) _ _ (λ _. plain _ refl)
      (choose (eqb k 9) _ _ (λ _. plain _ refl) (choose (eqb k 10) _ _ (λ _. plain _ refl) (plain u refl))))))))))

module _ (i : List ℕ) where
  -- ---- an image of another length, and one that is not accepted
  module _ (f : Reu → Answer) (x : ℕ) where
    pub look_other : (length i ≡ image_size → ⊥) → x ≡ refusal 1 → x ≡ look f i
    look_other h q = look_refused i Length (sym (open_other i h)) f x q

    pub look_bad : length i ≡ image_size → image_ok i ≡ false → x ≡ refusal 2 → x ≡ look f i
    look_bad h b q = look_refused i Field (sym (open_bad i h b)) f x q

    pub change_other : (length i ≡ image_size → ⊥) → x ≡ refusal 1 → (x, i) ≡ change f i
    change_other h q = change_refused i Length (sym (open_other i h)) f x q

    pub change_bad : length i ≡ image_size → image_ok i ≡ false → x ≡ refusal 2 → (x, i) ≡ change f i
    change_bad h b q = change_refused i Field (sym (open_bad i h b)) f x q

  -- ---- an accepted one
  module _ (long : length i ≡ image_size) where
    abbrev u : Reu
    u = reu_at i

    -- a register is its byte
    reg_is : (k : ℕ) → k < register_count → reg u k ≡ at i k
    unfolding reu_at
    reg_is k h = ap (λ (l : List ℕ). at l k) (registers_are i long) ∙ get_or-take register_count i k 0 h

    module _ (ok : image_ok i ≡ true) where
      pub debug_is : (k x : ℕ) → x ≡ cond (ltb k register_count) (at i k) unused_register → x ≡ reu_debug_register i k
      unfolding debug_register_call debug_register
      debug_is k x h =
          look_done i u (sym (open_good i long ok)) (λ v. debug_register_call v k) x (λ w. served u _ x u w (h ∙ go (ltb k register_count) refl))
        where
          go : (b : Bool) → ltb k register_count ≡ b → cond b (at i k) unused_register ≡ cond b (reg u k) unused_register
          go true e = sym (reg_is k (ltb-true k register_count e))
          go false e = refl

      module _ (whole : Bytes i) where
        same : pack_image u ≡ i
        same = pack_open i whole long ok

        well : well_formed u ≡ true
        well = opened_well i whole long ok

        read_is : (k : ℕ) → ◌≡◌ {A = ℕ × List ℕ} (read_in i k) ((read_at u k).value, pack_image (read_at u k).reu)
        read_is k = go (ltb k register_count) (eqb k status) refl
          where
            answer : Bool → Bool → Answered ℕ
            answer a b =
                cond a (cond b (record { value = reg u status; reu = with_irq (set_reg u status (acknowledged (reg u status))) false }) (record { value = shown k (reg u k); reu = u }))
                (record { value = unused_register; reu = u })

            go : (a b : Bool) → ltb k register_count ≡ a
                → ◌≡◌ {A = ℕ × List ℕ} (cond a (cond b (at i status, flagged (set i status (acknowledged (at i status))) (with_irq u false)) (shown k (at i k), i)) (unused_register, i))
                ((answer a b).value, pack_image (answer a b).reu)
            go true true e =
                ap (λ (n : ℕ). (n, flagged (set i status (acknowledged n)) (with_irq u false))) (sym (reg_is status (omega arith)))
                ∙ ap (λ (l : List ℕ). (reg u status, l)) (status_laid i whole long ok (acknowledged (reg u status)) false)
            go true false e = λ j. (shown k (sym (reg_is k (ltb-true k register_count e)) j), sym same j)
            go false b e = λ j. (unused_register, sym same j)

        pub read_done : (a x : ℕ) (l : List ℕ) → ◌≡◌ {A = ℕ × List ℕ} (x, l) (read_in i (register_index a)) → (x, l) ≡ reu_read i a
        unfolding read_call read_register
        read_done a x l h =
            let r : Answered ℕ = read_at u (register_index a) in
            h ∙ read_is (register_index a) ∙ change_done i u (sym (open_good i long ok)) (λ v. read_call v a) (Ok r) r.value (pack_image r.reu) (served u r.value r.value r.reu well refl) refl

        -- w is what the write left of the controller
        module _ (a v : ℕ) (fits : v < 256) (w : Reu) (e : w ≡ write_register u a v) where
          sound : Sound w
          sound = subst Sound (sym e) (sound_write u a v (sound_of u (opened_typed i whole long ok) well) fits)

          pub write_done : starts a v ≡ false → (l : List ℕ) → l ≡ flagged (registered i w) w → (0, l) ≡ reu_write i a v
          unfolding write_call
          write_done quiet l h =
              let k : w ≡ kept u w = (subst (Kept u) (sym e) (write_kept u a v quiet)).is in
              ap (λ (m : List ℕ). (0, m))
              (h ∙ ap (flagged (registered i w)) k ∙ ap (λ (x : ℕ). flagged (registers_in i w.regs w.shadow_c64_addr x w.shadow_len) (kept u w)) (omega (arith, sound.exp))
              ∙ registers_laid i whole long ok w.regs w.shadow_c64_addr w.shadow_reu_addr w.shadow_len w.irq_pending w.waiting_ff00 sound.regs.len ∙ ap pack_image (sym k ∙ e))
              ∙ change_done i u (sym (open_good i long ok)) (λ r. write_call r a v) (Ok (record { value = 0; reu = write_register u a v })) 0 (pack_image (write_register u a v)) (served u 0 0 (write_register u a v) well refl) refl
