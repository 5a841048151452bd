-- `run_reu_cycle`: "it asks `bus_action`, ticks on Transfer, and answers false for Cpu, true otherwise". L1 counts the cycles that are granted.
use Rattle.std.specs.Prelude.{◌+◌}
use Rattle.controller.specs.Prelude.{ℕ, Bool, true, false, cond, List, leb, Cpu, Hold, Transfer, ReuBusAction, Reu}
use Rattle.controller.specs.Reu.{with_granted}
use Rattle.controller.specs.BusAction.{bus_action}
use Rattle.controller.specs.TickDma.{Ticked, quiet_step, ticked, tick_dma}

-- L1: "held at 4,294,967,295"
abbrev pub most_granted : ℕ
most_granted = 4294967295

abbrev pub capped : ℕ → ℕ
capped n = cond (leb n most_granted) n most_granted

-- L1: "one more for each cycle call whose grant is Transfer", whatever the tick finds. "Direct ticks don't add to it"
unfoldable pub counted : Reu → Reu
counted u = with_granted u (capped (u.granted_cycles + 1))

-- L2, L5: the cycle passes on what the tick reports and the stores that it hands out; Cpu and Hold have none
unfoldable pub cycle_by : ReuBusAction → Reu → List ℕ → List ℕ → ℕ → Bool → Ticked
cycle_by Cpu u m s cycle low = (quiet_step 0 false u, m, s)
cycle_by Hold u m s cycle low = (quiet_step 0 true u, m, s)
cycle_by Transfer u m s cycle low =
    let t : Ticked = tick_dma u m s cycle low in (ticked true t.0.passed t.0.stores (counted t.0.reu), t.1, t.2)

unfoldable pub run_reu_cycle : Reu → List ℕ → List ℕ → Bool → Bool → ℕ → Bool → Ticked
run_reu_cycle u m s high phi1 cycle low =
    cycle_by (bus_action u s high phi1 cycle).0.action (bus_action u s high phi1 cycle).0.reu m
    (bus_action u s high phi1 cycle).1 cycle low
