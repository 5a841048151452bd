-- Live counters that are stored before an end with Autoload leave what the end leaves without them.
use Prim.Native.Nat.{ℕ}
use mathlib.Core.Bool.{Bool, true, false, cond, ◌||◌}
use mathlib.Core.Path.{◌≡◌, refl, ap, ◌∙◌}
use mathlib.Core.List.{List, [], ◌∷◌}
use native.Mathlib.Omega.{arith}
use lib.ListN.{length, get_or, set}
use lib.Bits.{bit_or}
use Rattle.std.specs.Prelude.{None}
use Rattle.transfer.specs.declared.dma.DmaState.{DmaState}
use Rattle.regs.specs.FinishDma.{counters, finished, irq_due}
use Rattle.controller.specs.declared.reu.Reu.{Reu}
use Rattle.controller.specs.Reu.{with_regs}
use Rattle.controller.specs.FinishDma.{autoload_stores, finish_dma, publish_live_counters, update_irq, with_stores}
use Rattle.controller.specs.TickDma.{with_error}

-- the interrupt's mark comes between, or not
by_mark : (due : Bool) (v c e n : ℕ) (l r : List ℕ) → counters (set l 0 v) c e n ≡ counters (set r 0 v) c e n → counters l c e n ≡ counters r c e n
    → counters (cond due (set l 0 v) l) c e n ≡ counters (cond due (set r 0 v) r) c e n
by_mark true v c e n l r p q = p
by_mark false v c e n l r p q = q

module _ (u : Reu) (d : DmaState) where
  abbrev pub Unseen : Reu → Bool → Bool → Type 0
  Unseen w error ended =
      with_stores (finish_dma (publish_live_counters (with_error w error) d) ended) (autoload_stores w true)
      ≡ with_stores (finish_dma (with_error w error) ended) (autoload_stores w true)

  -- the registers with the counters in them
  abbrev shown_regs : Reu → Bool → List ℕ
  shown_regs w error = counters (with_error w error).regs d.c64_addr.0 d.reu_addr.0 d.remaining

  by_lists : (w : Reu) (error ended : Bool)
      → (let l = finished (shown_regs w error) ended in
      let r = finished (with_error w error).regs ended in
      let mark = bit_or (get_or r 0 0) 128 in
      let stored = λ (t : List ℕ). counters t w.shadow_c64_addr w.shadow_reu_addr w.shadow_len in
      stored (set l 0 mark) ≡ stored (set r 0 mark) → stored l ≡ stored r → irq_due l ≡ irq_due r → get_or l 0 0 ≡ get_or r 0 0 → Unseen w error ended)
  unfolding finish_dma publish_live_counters update_irq
  by_lists w error ended p q due status =
      let l = finished (shown_regs w error) ended in
      let r = finished (with_error w error).regs ended in
      (λ i. record w {
        regs = counters (cond (due i) (set l 0 (bit_or (status i) 128)) l) w.shadow_c64_addr w.shadow_reu_addr w.shadow_len;
        irq_pending = due i || w.irq_pending;
        dma = None;
      })
      ∙ ap (λ (t : List ℕ). record w { regs = t; irq_pending = irq_due r || w.irq_pending; dma = None })
      (by_mark (irq_due r) (bit_or (get_or r 0 0) 128) w.shadow_c64_addr w.shadow_reu_addr w.shadow_len l r p q)

  -- on eleven registers each of the four is computed
  module _ (a b c e f g h i j k l : ℕ) where
    abbrev w : Reu
    w = with_regs u (a ∷ b ∷ c ∷ e ∷ f ∷ g ∷ h ∷ i ∷ j ∷ k ∷ l ∷ [])

    eleven : (error ended : Bool) → Unseen w error ended
    eleven true true = by_lists w true true refl refl refl refl
    eleven true false = by_lists w true false refl refl refl refl
    eleven false true = by_lists w false true refl refl refl refl
    eleven false false = by_lists w false false refl refl refl refl

  by_length : (l : List ℕ) → length l ≡ 11 → (error ended : Bool) → Unseen (with_regs u l) error ended
  by_length (a ∷ b ∷ c ∷ e ∷ f ∷ g ∷ h ∷ i ∷ j ∷ k ∷ l ∷ []) n error ended = eleven a b c e f g h i j k l error ended
  by_length [] n error ended = absurd (omega arith)
  by_length (a ∷ []) n error ended = absurd (omega arith)
  by_length (a ∷ b ∷ []) n error ended = absurd (omega arith)
  by_length (a ∷ b ∷ c ∷ []) n error ended = absurd (omega arith)
  by_length (a ∷ b ∷ c ∷ e ∷ []) n error ended = absurd (omega arith)
  by_length (a ∷ b ∷ c ∷ e ∷ f ∷ []) n error ended = absurd (omega arith)
  by_length (a ∷ b ∷ c ∷ e ∷ f ∷ g ∷ []) n error ended = absurd (omega arith)
  by_length (a ∷ b ∷ c ∷ e ∷ f ∷ g ∷ h ∷ []) n error ended = absurd (omega arith)
  by_length (a ∷ b ∷ c ∷ e ∷ f ∷ g ∷ h ∷ i ∷ []) n error ended = absurd (omega arith)
  by_length (a ∷ b ∷ c ∷ e ∷ f ∷ g ∷ h ∷ i ∷ j ∷ []) n error ended = absurd (omega arith)
  by_length (a ∷ b ∷ c ∷ e ∷ f ∷ g ∷ h ∷ i ∷ j ∷ k ∷ []) n error ended = absurd (omega arith)
  by_length (a ∷ b ∷ c ∷ e ∷ f ∷ g ∷ h ∷ i ∷ j ∷ k ∷ l ∷ m ∷ r) n error ended = absurd (omega arith)

  pub unseen : (error ended : Bool) → length u.regs ≡ 11 → Unseen u error ended
  unseen error ended n = by_length u.regs n error ended
