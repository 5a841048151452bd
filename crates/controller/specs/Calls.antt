-- The public calls on a controller value: "A refusal has value 0 and changes no controller and no byte of anything lent".
use Rattle.std.specs.Prelude.{◌+◌}
use Rattle.controller.specs.Prelude.{ℕ, Bool, false, cond, List, length, Passed, Reu}
use Rattle.controller.specs.Answers.{Answer, StepAnswer, Stepped}
use Rattle.transfer.specs.Constants.{bus_size}
use Rattle.transfer.specs.Bytes.{bit_of}
use Rattle.controller.specs.Registers.{read_register, write_register, debug_register}
use Rattle.controller.specs.Timing.{c64_access}
use Rattle.transfer.specs.Timing.{access_number, action_number}
use Rattle.transfer.specs.Dma.{active, passed_number}
use Rattle.controller.specs.StartDma.{trigger_ff00}
use Rattle.controller.specs.Enable.{reset_reu, set_size, set_enabled}
use Rattle.controller.specs.BusAction.{Granted, bus_action, cpu_ready_after_dma}
use Rattle.controller.specs.TickDma.{Ticked, quiet_step, tick_dma}
use Rattle.controller.specs.Cycle.{run_reu_cycle}
use Rattle.controller.specs.Refusals.{refusal_of, size_refusal, checked}

-- "Values: a byte; 0/1; ..; the capacity". L4: "`capacity_bytes` gives it [the size] once attached"
abbrev pub capacity : Reu → ℕ
capacity u = cond u.attached u.size 0

-- ---- accepted and refused; a call on the controller, with the storage, with bus and storage

abbrev pub answered : ℕ → Reu → Answer
answered v u = record { refusal = 0; value = v; reu = u }

abbrev pub refused : Reu → ℕ → Answer
refused u n = record { refusal = n; value = 0; reu = u }

abbrev pub call : Reu → Answer → Answer
call u done = checked (refusal_of u bus_size u.size) (refused u) done

abbrev pub call_storage : Reu → List ℕ → (Answer × List ℕ) → (Answer × List ℕ)
call_storage u s done = checked (refusal_of u bus_size (length s)) (λ n. (refused u n, s)) done

abbrev pub call_both : Reu → List ℕ → List ℕ → Ticked → Ticked
call_both u m s done = checked (refusal_of u (length m) (length s)) (λ n. (quiet_step n false u, m, s)) done

-- ---- the calls

unfoldable pub reset_call : Reu → Answer
reset_call u = call u (answered 0 (reset_reu u))

unfoldable pub set_size_call : Reu → ℕ → Answer
set_size_call u size = checked (size_refusal u size) (refused u) (answered 0 (set_size u size))

unfoldable pub storage_present_call : Reu → Answer
storage_present_call u = call u (answered (bit_of u.attached) u)

unfoldable pub capacity_bytes_call : Reu → Answer
capacity_bytes_call u = call u (answered (capacity u) u)

unfoldable pub trigger_call : Reu → Answer
trigger_call u = call u (answered 0 (trigger_ff00 u))

unfoldable pub read_call : Reu → ℕ → Answer
read_call u addr = call u (answered (read_register u addr).value (read_register u addr).reu)

unfoldable pub write_call : Reu → ℕ → ℕ → Answer
write_call u addr v = call u (answered 0 (write_register u addr v))

unfoldable pub dma_active_call : Reu → Answer
dma_active_call u = call u (answered (bit_of (active u.dma)) u)

unfoldable pub cpu_ready_call : Reu → Bool → Answer
cpu_ready_call u high = call u (answered (bit_of (cpu_ready_after_dma u high).value) (cpu_ready_after_dma u high).reu)

unfoldable pub debug_register_call : Reu → ℕ → Answer
debug_register_call u i = call u (answered (debug_register u i) u)

unfoldable pub c64_access_call : Reu → Answer
c64_access_call u = call u (answered (access_number (c64_access u)) u)

abbrev pub enabled_answer : (Reu × List ℕ) → (Answer × List ℕ)
enabled_answer x = (answered 0 x.0, x.1)

unfoldable pub set_enabled_call : Reu → List ℕ → Bool → (Answer × List ℕ)
set_enabled_call u s enabled = call_storage u s (enabled_answer (set_enabled u s enabled))

abbrev pub granted_answer : Granted → (Answer × List ℕ)
granted_answer x = (answered (action_number x.0.action) x.0.reu, x.1)

unfoldable pub bus_action_call : Reu → List ℕ → Bool → Bool → ℕ → (Answer × List ℕ)
bus_action_call u s high phi1 cycle = call_storage u s (granted_answer (bus_action u s high phi1 cycle))

unfoldable pub tick_call : Reu → List ℕ → List ℕ → ℕ → Bool → Ticked
tick_call u m s cycle low = call_both u m s (tick_dma u m s cycle low)

unfoldable pub cycle_call : Reu → List ℕ → List ℕ → Bool → Bool → ℕ → Bool → Ticked
cycle_call u m s high phi1 cycle low = call_both u m s (run_reu_cycle u m s high phi1 cycle low)

-- L2: "tick and cycle pass both on with their answers (each one's value plus 2 and plus 4)": the answer with its value as a number
abbrev pub step_number : Bool → Passed → ℕ
step_number flag p = bit_of flag + passed_number p

abbrev pub numbered : StepAnswer → Answer
numbered a = record { refusal = a.refusal; value = step_number a.flag a.passed; reu = a.reu }

-- ---- the step over a controller that is lent: the answer, then the controller

abbrev pub stepped : Ticked → (Stepped × Reu × List ℕ × List ℕ)
stepped x =
    (record { refusal = x.0.refusal; flag = x.0.flag; passed = x.0.passed; stores = x.0.stores }, x.0.reu, x.1, x.2)

abbrev pub step_call : Reu → List ℕ → List ℕ → Bool → Bool → ℕ → Bool → (Stepped × Reu × List ℕ × List ℕ)
step_call u m s high phi1 cycle low = stepped (cycle_call u m s high phi1 cycle low)
