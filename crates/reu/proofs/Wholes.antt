-- What each call on a sound controller answers: a refusal carries value 0, and the controller that is left can be stored.
use Prim.Native.Nat.{ℕ, ◌<◌}
use mathlib.Core.Bool.{Bool, true, false}
use mathlib.Core.Path.{◌≡◌, refl}
use mathlib.Core.List.{List}
use lib.Dec.{eqb}
use borrow.Author.Tests.{eqb-true}
use Rattle.controller.specs.Answers.{Answer}
use Rattle.controller.specs.declared.reu.Reu.{Reu}
use Rattle.controller.specs.Enable.{reset_reu, set_size, set_enabled}
use Rattle.controller.specs.Refusals.{well_formed, size_refusal, checked}
use Rattle.controller.specs.Registers.{read_register, write_register}
use Rattle.controller.specs.StartDma.{trigger_ff00}
use Rattle.controller.specs.BusAction.{bus_action, cpu_ready_after_dma}
use Rattle.controller.specs.TickDma.{Ticked, quiet_step, tick_dma}
use Rattle.controller.specs.Cycle.{run_reu_cycle}
use Rattle.controller.specs.Calls.{numbered, answered, refused, reset_call, set_size_call, set_enabled_call, storage_present_call, capacity_bytes_call, trigger_call, read_call, write_call, dma_active_call, bus_action_call, cpu_ready_call, debug_register_call, c64_access_call, tick_call, cycle_call}
use Rattle.controller.proofs.Checked.{size_accepted, tick_accepted, cycle_accepted}
use Rattle.transfer.proofs.Pick.{by_test}
use Rattle.image.specs.Valid.{Bytes}
use Rattle.image.proofs.Sound.{Sound}
use Rattle.image.proofs.SoundCalls.{SoundState, bytes_memory, sound_fresh, sound_size, sound_trigger, sound_read, sound_write, sound_next, sound_switch, sound_tick_dma, sound_cycle}
use Rattle.image.proofs.Valid.{sound_well}

-- "A refusal has value 0"
pub record Carried (a : Answer) : Type 0 where
  pub value : (a.refusal ≡ 0 → ⊥) → a.value ≡ 0

-- and what is left can be stored in the image
pub record Whole (a : Answer) : Type 0 where
  pub carried : Carried a
  pub well : well_formed a.reu ≡ true

module _ (u : Reu) (s : Sound u) where
  not_done : (n : ℕ) → Whole (refused u n)
  not_done n = record { carried = record { value = λ ne. refl }; well = sound_well u s }

  done : (v : ℕ) (w : Reu) → Sound w → Whole (answered v w)
  done v w h = record { carried = record { value = λ ne. absurd (ne refl) }; well = sound_well w h }

  -- tested for the refusal n; the answer stands in what is answered and left
  tested : {A : Type 0} (f : A → Answer) (n : ℕ) (r : ℕ → A) (d : A) → ((k : ℕ) → Whole (f (r k))) → Whole (f d)
      → Whole (f (checked n r d))
  unfolding checked
  tested f n r d h g = by_test (λ (x : _). Whole (f x)) (eqb n 0) d (r n) (λ _. g) (λ _. h n)

  alone : (n v : ℕ) (w : Reu) → Sound w → Whole (checked n (refused u) (answered v w))
  alone n v w h = tested (λ (a : Answer). a) n (refused u) (answered v w) not_done (done v w h)

  with_storage : (n v : ℕ) (w : Reu) (t l : List ℕ) → Sound w
      → Whole (checked {A = Answer × List ℕ} n (λ k. (refused u k, t)) (answered v w, l)).0
  with_storage n v w t l h = tested (λ (x : Answer × List ℕ). x.0) n (λ k. (refused u k, t)) (answered v w, l) not_done (done v w h)

  with_both : (n : ℕ) (x : Ticked) (m t : List ℕ) → x.0.refusal ≡ 0 → Sound x.0.reu
      → Whole (numbered (checked {A = Ticked} n (λ k. (quiet_step k false u, m, t)) x).0)
  with_both n x m t z h =
      tested (λ (y : Ticked). numbered y.0) n (λ k. (quiet_step k false u, m, t)) x not_done
      record { carried = record { value = λ ne. absurd (ne z) }; well = sound_well x.0.reu h }

  -- ---- a look

  pub storage_present_whole : Whole (storage_present_call u)
  unfolding storage_present_call
  storage_present_whole = alone _ _ u s

  pub capacity_whole : Whole (capacity_bytes_call u)
  unfolding capacity_bytes_call
  capacity_whole = alone _ _ u s

  pub dma_active_whole : Whole (dma_active_call u)
  unfolding dma_active_call
  dma_active_whole = alone _ _ u s

  pub debug_whole : (i : ℕ) → Whole (debug_register_call u i)
  unfolding debug_register_call
  debug_whole i = alone _ _ u s

  pub c64_access_whole : Whole (c64_access_call u)
  unfolding c64_access_call
  c64_access_whole = alone _ _ u s

  -- ---- a change

  pub reset_whole : Whole (reset_call u)
  unfolding reset_call
  reset_whole = alone _ _ (reset_reu u) (sound_fresh u.enabled u.attached u.size s.size)

  -- a size that is not refused is one
  pub set_size_whole : (size : ℕ) → Whole (set_size_call u size)
  unfolding set_size_call checked
  set_size_whole size =
      by_test Whole (eqb n 0) (answered 0 (set_size u size)) (refused u n)
      (λ z. done 0 (set_size u size) (sound_size u size s (size_accepted u n size refl (eqb-true n 0 z)))) (λ _. not_done n)
    where
      n : ℕ
      n = size_refusal u size

  pub trigger_whole : Whole (trigger_call u)
  unfolding trigger_call
  trigger_whole = alone _ _ (trigger_ff00 u) (sound_trigger u s)

  pub read_whole : (a : ℕ) → Whole (read_call u a)
  unfolding read_call
  read_whole a = alone _ _ (read_register u a).reu (sound_read u a s)

  pub write_whole : (a v : ℕ) → v < 256 → Whole (write_call u a v)
  unfolding write_call
  write_whole a v h = alone _ _ (write_register u a v) (sound_write u a v s h)

  pub cpu_ready_whole : (high : Bool) → Whole (cpu_ready_call u high)
  unfolding cpu_ready_call
  cpu_ready_whole high = alone _ _ (cpu_ready_after_dma u high).reu s

  -- ---- with a storage t, and with a bus m

  module _ (t : List ℕ) where
    pub set_enabled_whole : (e : Bool) → Whole (set_enabled_call u t e).0
    unfolding set_enabled_call
    set_enabled_whole e = with_storage _ _ (set_enabled u t e).0 _ _ (sound_switch u t e s)

    pub bus_action_whole : (high phi1 : Bool) (n : ℕ) → Whole (bus_action_call u t high phi1 n).0
    unfolding bus_action_call bus_action
    bus_action_whole high phi1 n = with_storage _ _ (bus_action u t high phi1 n).0.reu _ _ (sound_next u high phi1 n s).sound

    module _ (bt : Bytes t) (m : List ℕ) (bm : Bytes m) where
      state : SoundState Bytes Bytes u m t
      state = record { sound = s; bus = bm; storage = bt }

      pub tick_whole : (n : ℕ) (low : Bool) → Whole (numbered (tick_call u m t n low).0)
      unfolding tick_call
      tick_whole n low = with_both _ (tick_dma u m t n low) _ _ (tick_accepted u m t n low) (sound_tick_dma Bytes Bytes bytes_memory bytes_memory u m t state n low).sound

      pub cycle_whole : (high phi1 : Bool) (n : ℕ) (low : Bool) → Whole (numbered (cycle_call u m t high phi1 n low).0)
      unfolding cycle_call
      cycle_whole high phi1 n low =
          with_both _ (run_reu_cycle u m t high phi1 n low) _ _ (cycle_accepted u m t high phi1 n low) (sound_cycle Bytes Bytes bytes_memory bytes_memory u m t state high phi1 n low).sound
