-- What a call does to the count of granted cycles and to the size: a cycle that is granted adds one, a start that has storage zeroes the count,
-- and nothing else changes either; new and set_size, which do, are not here.
use Prim.Native.Nat.{ℕ, ◌+◌, ◌%◌}
use mathlib.Core.Bool.{Bool, true, false, cond, not, ◌&&◌, ◌||◌}
use mathlib.Core.Path.{◌≡◌, refl, ap, ◌∙◌}
use mathlib.Core.List.{List}
use lib.Bits.{bit_and, and_mask}
use lib.Dec.{eqb, ltb}
use Rattle.controller.specs.declared.reu.Reu.{Reu}
use Rattle.controller.specs.declared.reu.Answered.{Answered}
use Rattle.controller.specs.declared.reu.TickAnswer.{TickAnswer}
use Rattle.transfer.specs.declared.dma.DmaState.{DmaState}
use Rattle.std.specs.Prelude.{Option}
use Rattle.std.specs.Prelude.{None, Some}
use Rattle.transfer.specs.declared.dma.TransferType.{TransferType}
use Rattle.transfer.specs.declared.dma.TransferType.TheVariants.{Store, Recall, Swap, Verify}
use Rattle.transfer.specs.declared.dma.SwapPhase.{SwapPhase}
use Rattle.transfer.specs.declared.dma.SwapPhase.TheVariants.{ReadC64, WriteC64}
use Rattle.transfer.specs.declared.memory.Seen.{Seen}
use Rattle.transfer.specs.declared.memory.Put.{Put}
use Rattle.transfer.specs.declared.timing.ReuBusAction.{ReuBusAction}
use Rattle.transfer.specs.declared.timing.ReuBusAction.TheVariants.{Cpu, Hold, Transfer}
use Rattle.transfer.specs.Bytes.{bit, with_low, with_high}
use Rattle.regs.specs.Registers.{shown}
use Rattle.transfer.specs.Timing.{action_number}
use Rattle.transfer.specs.Dma.{moved}
use Rattle.controller.specs.Reu.{reg, set_reg, with_armed, with_repeat}
use Rattle.controller.specs.Registers.{read_register, write_c64, write_exp, write_len, write_bank, write_at, write_register, write_command}
use Rattle.controller.specs.StartDma.{start_dma, trigger_ff00}
use Rattle.controller.specs.FinishDma.{publish_live_counters, finish_dma, update_irq}
use Rattle.controller.specs.Enable.{set_enabled}
use Rattle.controller.specs.BusAction.{bus_action}
use Rattle.controller.specs.TickDma.{tick_dma, tick_of, tick_running, tick_by_type, tick_store, tick_recall, tick_swap, tick_verify, tick_tail, swap_read, swap_write, tick_refresh, advance, shown_last}
use Rattle.controller.specs.Cycle.{run_reu_cycle, capped, counted, cycle_by}
use Rattle.claims.proofs.GrantLaw.{Face, Keeps, either, grant_face, kept}

-- the count and the size, of a controller and of an answer that carries one
abbrev pub Numbers : Type 0
Numbers = ℕ × ℕ

abbrev pub of : Reu → Numbers
of u = (u.granted_cycles, u.size)

abbrev of_read : Answered ℕ → Numbers
of_read a = of a.reu

abbrev of_tick : TickAnswer → Numbers
of_tick t = of t.reu

-- another count
abbrev with : (ℕ → ℕ) → Numbers → Numbers
with f p = (f p.0, p.1)

-- what each arm gives, the choice gives
by_both : (b : Bool) (x y : Reu) (n k : Numbers) → of x ≡ n → of y ≡ k → of (cond b x y) ≡ cond b n k
by_both true x y n k p q = p
by_both false x y n k p q = q

-- ---- a read, the enable switch

read_kept : (u : Reu) (a : ℕ) → Keeps of_read (of u) (read_register u a)
unfolding read_register
read_kept u a = either (ltb (bit_and a 31) 11) (either (eqb (bit_and a 31) 0) (kept refl) (kept refl)) (kept refl)

pub read_keeps : (u : Reu) (a : ℕ) → of (read_register u a).reu ≡ of u
read_keeps u a = (read_kept u a).same

pub switch_keeps : (u : Reu) (s : List ℕ) (e : Bool) → of (set_enabled u s e).0 ≡ of u
unfolding set_enabled
switch_keeps u s true = refl
switch_keeps u s false = refl

-- ---- the grant

pub grant_keeps : (u : Reu) (s : List ℕ) (high phi1 : Bool) (cycle : ℕ) → of (bus_action u s high phi1 cycle).0.reu ≡ of u
grant_keeps u s high phi1 cycle = ap (λ (x : Face). (x.7, x.8)) (grant_face u s high phi1 cycle)

-- ---- a tick

shown_kept : (u : Reu) (d : DmaState) → Keeps of (of u) (shown_last u d)
unfolding publish_live_counters
shown_kept u d = either d.autoload (kept refl) (kept refl)

advance_kept : (u : Reu) (d : DmaState) (error low : Bool) (put : Put) → Keeps of_tick (of u) (advance u d error low put)
unfolding advance publish_live_counters finish_dma update_irq
advance_kept u d error low put =
    either (error && (not (eqb d.remaining 1) && eqb (moved d).remaining 1)) (kept refl)
    (either (eqb d.remaining 1 || error) (kept (shown_kept u (moved d)).same) (kept refl))

swap_kept : (p : SwapPhase) (u : Reu) (d : DmaState) (b : Seen) (cycle : ℕ) (low : Bool) → Keeps of_tick (of u) (tick_swap p u d b cycle low)
unfolding tick_swap swap_read swap_write
swap_kept ReadC64 u d b cycle low = kept refl
swap_kept WriteC64 u d b cycle low = advance_kept u d _ _ _

type_kept : (t : TransferType) (u : Reu) (d : DmaState) (b : Seen) (cycle : ℕ) (low : Bool) → Keeps of_tick (of u) (tick_by_type t u d b cycle low)
unfolding tick_by_type tick_store tick_recall tick_verify
type_kept Store u d b cycle low = advance_kept u d _ _ _
type_kept Recall u d b cycle low = advance_kept (with_repeat u (u.recall_repeat && d.first_byte)) _ _ _ _
type_kept Swap u d b cycle low = swap_kept d.swap_phase u d b cycle low
type_kept Verify u d b cycle low = advance_kept u d _ _ _

running_kept : (u : Reu) (d : DmaState) (b : Seen) (cycle : ℕ) (low : Bool) → Keeps of_tick (of u) (tick_running u d b cycle low)
unfolding tick_running tick_refresh tick_tail finish_dma update_irq
running_kept u d b cycle low =
    either u.swap_refresh (kept refl)
    (either d.verify_tail (kept refl) (type_kept d.transfer_type u d b cycle low))

dma_kept : (m : Option DmaState) (u : Reu) (b : Seen) (cycle : ℕ) (low : Bool) → Keeps of_tick (of u) (tick_of m u b cycle low)
unfolding tick_of
dma_kept None u b cycle low = kept refl
dma_kept (Some d) u b cycle low = either u.attached (running_kept u d b cycle low) (kept refl)

pub tick_keeps : (u : Reu) (m s : List ℕ) (cycle : ℕ) (low : Bool) → of (tick_dma u m s cycle low).0.reu ≡ of u
unfolding tick_dma
tick_keeps u m s cycle low = (dma_kept u.dma u _ cycle low).same

-- ---- the cycle

-- after a cycle with this grant
abbrev pub after_grant : ℕ → Numbers → Numbers
after_grant grant p = with (λ n. cond (eqb grant (action_number Transfer)) (capped (n + 1)) n) p

by_grant : (a : ReuBusAction) (u : Reu) (m s : List ℕ) (cycle : ℕ) (low : Bool) → of (cycle_by a u m s cycle low).0.reu ≡ after_grant (action_number a) (of u)
unfolding cycle_by counted
by_grant Cpu u m s cycle low = refl
by_grant Hold u m s cycle low = refl
by_grant Transfer u m s cycle low = ap (with (λ n. capped (n + 1))) (tick_keeps u m s cycle low)

pub cycle_counts : (u : Reu) (m s : List ℕ) (high phi1 : Bool) (cycle : ℕ) (low : Bool)
    → of (run_reu_cycle u m s high phi1 cycle low).0.reu ≡ after_grant (action_number (bus_action u s high phi1 cycle).0.action) (of u)
unfolding run_reu_cycle
cycle_counts u m s high phi1 cycle low =
    let a = (bus_action u s high phi1 cycle).0.action in
    by_grant a _ m _ cycle low ∙ ap (after_grant (action_number a)) (grant_keeps u s high phi1 cycle)

-- ---- a start

-- after a start, where one comes
abbrev pub after_start : Bool → Bool → Numbers → Numbers
after_start attached comes p = with (λ n. cond (attached && comes) 0 n) p

start_zeroes : (u : Reu) → of (start_dma u) ≡ after_start u.attached true (of u)
unfolding start_dma
start_zeroes u = by_both u.attached _ _ (0, u.size) (of u) refl refl ∙ also u.attached
  where
    also : (a : Bool) → cond a (0, u.size) (of u) ≡ after_start a true (of u)
    also true = refl
    also false = refl

-- no start
none : (a : Bool) (p : Numbers) → p ≡ after_start a false p
none true p = refl
none false p = refl

pub trigger_zeroes : (u : Reu) → of (trigger_ff00 u) ≡ after_start u.attached (u.waiting_ff00 && bit (reg u 1) 7) (of u)
unfolding trigger_ff00
trigger_zeroes u = go (u.waiting_ff00 && bit (reg u 1) 7)
  where
    go : (b : Bool) → of (cond b (start_dma u) u) ≡ after_start u.attached b (of u)
    go true = start_zeroes u
    go false = none u.attached (of u)

command_zeroes : (u : Reu) (v : ℕ) → of (write_command u v) ≡ after_start u.attached (bit v 7 && bit v 4) (of u)
unfolding write_command
command_zeroes u v = go (bit v 7) (bit v 4)
  where
    go : (b c : Bool) → of (cond b (cond c (start_dma (with_armed (set_reg u 1 v) false)) (with_armed (set_reg u 1 v) true)) (with_armed (set_reg u 1 v) false))
        ≡ after_start u.attached (b && c) (of u)
    go true true = start_zeroes (with_armed (set_reg u 1 v) false)
    go true false = none u.attached (of u)
    go false c = none u.attached (of u)

-- a write, by the register that it selects: of all but COMMAND
abbrev others : Reu → ℕ → ℕ → Reu
others u i v =
    cond (eqb i 2) (write_c64 u (with_low u.shadow_c64_addr v))
    (cond (eqb i 3) (write_c64 u (with_high u.shadow_c64_addr v))
    (cond (eqb i 4) (write_exp u (with_low u.shadow_reu_addr v))
    (cond (eqb i 5) (write_exp u (with_high u.shadow_reu_addr v))
    (cond (eqb i 6) (write_bank u (shown 6 v))
    (cond (eqb i 7) (write_len u (with_low u.shadow_len v))
    (cond (eqb i 8) (write_len u (with_high u.shadow_len v))
    (cond (eqb i 9) (update_irq (set_reg u 9 (shown 9 v)))
    (cond (eqb i 10) (set_reg u 10 (shown 10 v)) u))))))))

others_kept : (u : Reu) (i v : ℕ) → Keeps of (of u) (others u i v)
unfolding update_irq
others_kept u i v =
    either (eqb i 2) (kept refl) (either (eqb i 3) (kept refl) (either (eqb i 4) (kept refl) (either (eqb i 5) (kept refl)
    (either (eqb i 6) (kept refl) (either (eqb i 7) (kept refl) (either (eqb i 8) (kept refl) (either (eqb i 9) (kept refl)
    (either (eqb i 10) (kept refl) (kept refl)))))))))

at_zeroes : (u : Reu) (i v : ℕ) → of (write_at u i v) ≡ after_start u.attached (eqb i 1 && (bit v 7 && bit v 4)) (of u)
at_zeroes u i v =
    by_both (eqb i 1) (write_command u v) (others u i v) _ (of u) (command_zeroes u v) (others_kept u i v).same ∙ both (eqb i 1)
  where
    both : (c : Bool) → cond c (after_start u.attached (bit v 7 && bit v 4) (of u)) (of u) ≡ after_start u.attached (c && (bit v 7 && bit v 4)) (of u)
    both true = refl
    both false = none u.attached (of u)

pub write_zeroes : (u : Reu) (a v : ℕ) → of (write_register u a v) ≡ after_start u.attached (eqb (a % 32) 1 && (bit v 7 && bit v 4)) (of u)
unfolding write_register
write_zeroes u a v =
    at_zeroes u (bit_and a 31) v ∙ ap (λ (i : ℕ). after_start u.attached (eqb i 1 && (bit v 7 && bit v 4)) (of u)) (and_mask a 5)
