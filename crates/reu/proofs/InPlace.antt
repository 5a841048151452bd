-- What a short way leaves of an image is what the call leaves: a cycle that is answered, and the fields that are laid down where they stand.
use Rattle.std.proofs.Common.{◌≡◌, ℕ, Bool, true, List, [], ◌∷◌, length, set, refl, sym, ap, ◌∙◌, subst}
use borrow.Author.Tests.{eq-eqb}
use Rattle.std.specs.Prelude.{Option, None, Some, Ok}
use Rattle.transfer.specs.Constants.{register_count}
use Rattle.transfer.specs.declared.dma.DmaState.{DmaState}
use Rattle.transfer.specs.declared.dma.Passed.{Passed}
use Rattle.regs.specs.Stores.{Stores}
use Rattle.regs.specs.FinishDma.{counters}
use Rattle.controller.specs.declared.reu.Reu.{Reu}
use Rattle.controller.specs.Reu.{with_regs, set_reg, with_irq, with_history, with_dma, with_granted}
use Rattle.controller.specs.Refusals.{refusal_of, first_refusal}
use Rattle.controller.specs.TickDma.{ticked}
use Rattle.controller.specs.Cycle.{run_reu_cycle}
use Rattle.controller.specs.Calls.{cycle_call, step_number}
use Rattle.controller.proofs.Checked.{passed}
use Rattle.image.specs.Layout.{image_size, granted_field, pack_image, reu_at}
use Rattle.image.specs.Inner.{fitted, gets, stored}
use Rattle.image.specs.InPlace.{Lent}
use Rattle.image.specs.Open.{image_ok}
use Rattle.image.specs.Valid.{Bytes}
use Rattle.image.proofs.Gets.{gets_all}
use Rattle.image.proofs.Opening.{open_good}
use Rattle.image.proofs.Unpacked.{pack_open, opened_typed, opened_well}
use Rattle.reu.specs.declared.Logged.{Logged}
use Rattle.reu.specs.Exports.{change_both}
use Rattle.reu.specs.Direct.{flagged, registers_in, transfer_in}
use Rattle.reu.proofs.Families.{both_done}

module _ (i : List ℕ) (whole : Bytes i) (long : length i ≡ image_size) where
  abbrev u : Reu
  u = reu_at i

  -- ---- a cycle that is answered

  module _ (m s : List ℕ) (lent : Lent i (length m) (length s)) (high phi1 : Bool) (n : ℕ) (low : Bool) where
    not_refused : refusal_of u (length m) (length s) ≡ 0
    unfolding refusal_of
    not_refused =
        λ j. first_refusal ((opened_well i whole long lent.ok j, 2) ∷ (eq-eqb _ _ lent.bus_fits j, 3) ∷ (eq-eqb _ _ lent.storage_fits j, 4) ∷ [])

    -- what the cycle answers and leaves of the controller is what the call answers and leaves of the image
    pub settled : (flag : Bool) (p : Passed) (x : Stores) (v : Reu) (b t : List ℕ) → run_reu_cycle u m s high phi1 n low ≡ (ticked flag p x v, b, t)
        → (step_number flag p, pack_image v, b, t) ≡ change_both (λ u b t. cycle_call u b t high phi1 n low) i m s
    unfolding cycle_call
    settled flag p x v b t e =
        ap (λ (y : Logged × List ℕ × List ℕ × List ℕ). (y.0.answer, y.1, y.2, y.3))
        (both_done i u (sym (open_good i long lent.ok)) m s b t (λ u b t. cycle_call u b t high phi1 n low)
        (Ok (record { value = record { flag = flag; passed = p; stores = x }; reu = v })) (Ok (record { value = step_number flag p; reu = v }))
        x (step_number flag p) (pack_image v) (sym e ∙ passed _ _ _ (sym not_refused)) refl refl refl)

  -- ---- fields that are laid down where they stand

  module _ (ok : image_ok i ≡ true) where
    -- u with its eleven registers written out, and with the transfer m
    abbrev listed : Option DmaState → Reu
    listed m = record u { regs = gets 0 register_count u.regs; dma = m }

    -- what `lay` leaves of the image is the image of what f leaves: where the transfer is m, and by whether there is one
    module _ (lay : List ℕ → Reu → List ℕ) (f : Reu → Reu) where
      abbrev Lays : Reu → Type 0
      Lays r = lay (pack_image r) r ≡ pack_image (f r)

      with_transfer : (m : Option DmaState) → u.dma ≡ m → Lays (listed m) → lay i u ≡ pack_image (f u)
      with_transfer m h e =
          ap (λ (l : List ℕ). lay l u) (sym (pack_open i whole long ok))
          ∙ subst Lays (λ j. record u { regs = gets_all u.regs register_count (opened_typed i whole long ok).regs_long j; dma = sym h j }) e

      with_either : Lays (listed None) → ((d : DmaState) → Lays (listed (Some d))) → lay i u ≡ pack_image (f u)
      with_either none some = with_transfer u.dma refl (go u.dma)
        where
          go : (m : Option DmaState) → Lays (listed m)
          go None = none
          go (Some d) = some d

    -- a cycle that grants nothing leaves the history of BA
    pub history_laid : (was late : Bool) → flagged i (with_history u was late) ≡ pack_image (with_history u was late)
    unfolding pack_image
    history_laid was late = with_either (λ l r. flagged l (with_history r was late)) (λ r. with_history r was late) refl (λ d. refl)

    -- half a byte of a swap leaves the history, the count g and the transfer e
    pub half_laid : (was late : Bool) (g : ℕ) (d e : DmaState) → u.dma ≡ Some d → fitted e ≡ e
        → transfer_in (stored granted_field (flagged i (with_history u was late)) g) e ≡ pack_image (with_granted (with_dma (with_history u was late) (Some e)) g)
    unfolding pack_image
    half_laid was late g d e h k =
        with_transfer (λ l r. transfer_in (stored granted_field (flagged l (with_history r was late)) g) e)
        (λ r. with_granted (with_dma (with_history r was late) (Some (fitted e))) g) (Some d) h refl
        ∙ ap (λ (x : DmaState). pack_image (with_granted (with_dma (with_history u was late) (Some x)) g)) k

    -- a byte leaves the counters too, which are bytes 2 to 8
    pub byte_laid : (was late : Bool) (g c x n : ℕ) (d e : DmaState) → u.dma ≡ Some d → fitted e ≡ e
        → transfer_in (counters (stored granted_field (flagged i (with_history u was late)) g) c x n) e
        ≡ pack_image (with_granted (with_dma (with_regs (with_history u was late) (counters u.regs c x n)) (Some e)) g)
    unfolding pack_image
    byte_laid was late g c x n d e h k =
        with_transfer (λ l r. transfer_in (counters (stored granted_field (flagged l (with_history r was late)) g) c x n) e)
        (λ r. with_granted (with_dma (with_regs (with_history r was late) (counters r.regs c x n)) (Some (fitted e))) g) (Some d) h refl
        ∙ ap (λ (y : DmaState). pack_image (with_granted (with_dma (with_regs (with_history u was late) (counters u.regs c x n)) (Some y)) g)) k

    -- a register that is written leaves the registers, the shadows, the interrupt and whether a command is armed
    pub registers_laid : (regs : List ℕ) (c x n : ℕ) (irq armed : Bool) → length regs ≡ register_count
        → let w : Reu = record u { regs = regs; shadow_c64_addr = c; shadow_reu_addr = x; shadow_len = n; irq_pending = irq; waiting_ff00 = armed } in
        flagged (registers_in i regs c x n) w ≡ pack_image w
    unfolding pack_image
    registers_laid regs c x n irq armed h =
        let w : List ℕ → Reu → Reu = λ k r. record r { regs = k; shadow_c64_addr = c; shadow_reu_addr = x; shadow_len = n; irq_pending = irq; waiting_ff00 = armed } in
        let lay : List ℕ → List ℕ → Reu → List ℕ = λ k l r. flagged (registers_in l k c x n) (w k r) in
        subst (λ (k : List ℕ). lay k i u ≡ pack_image (w k u)) (gets_all regs register_count h)
        (let k : List ℕ = gets 0 register_count regs in with_either (lay k) (w k) refl (λ d. refl))

    -- STATUS that is read leaves itself and the interrupt
    pub status_laid : (v : ℕ) (irq : Bool) → flagged (set i 0 v) (record u { irq_pending = irq }) ≡ pack_image (with_irq (set_reg u 0 v) irq)
    unfolding pack_image
    status_laid v irq = with_either (λ l r. flagged (set l 0 v) (record r { irq_pending = irq })) (λ r. with_irq (set_reg r 0 v) irq) refl (λ d. refl)
