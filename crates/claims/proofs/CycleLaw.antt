-- What one cycle does: with BA high, to an idle controller and to a swap in each of its phases; and whatever BA is, the tick of a swap's last
-- write, and a cycle behind a swap.
use Prim.Native.Nat.{ℕ, ◌+◌, ◌-◌, ◌%◌, ◌^◌, ◌<◌}
use mathlib.Core.Bool.{Bool, true, false, cond, not}
use mathlib.Core.Path.{◌≡◌, refl, sym, ap, ◌∙◌, subst}
use mathlib.Core.Logic.{◌≢◌, ◌⊎◌, inl, inr}
use mathlib.Core.List.{List}
use lib.ListN.{length, get_or, set, length-set}
use lib.Bits.{bit_and, bit_or}
use lib.Dec.{eqb}
use lib.Seq.{get_or-set_other, get_or-set_same}
use native.Mathlib.Omega.{arith}
use Rattle.controller.specs.declared.reu.Reu.{Reu}
use Rattle.controller.specs.declared.reu.BusAnswer.{BusAnswer}
use Rattle.transfer.specs.declared.dma.DmaState.{DmaState}
use Rattle.std.specs.Prelude.{Option}
use Rattle.std.specs.Prelude.{None, Some}
use Rattle.transfer.specs.declared.dma.TransferType.TheVariants.{Swap}
use Rattle.transfer.specs.declared.dma.SwapPhase.{SwapPhase}
use Rattle.transfer.specs.declared.dma.SwapPhase.TheVariants.{ReadC64, WriteC64}
use Rattle.transfer.specs.declared.timing.ReuBusAction.{ReuBusAction}
use Rattle.transfer.specs.declared.timing.ReuBusAction.TheVariants.{Cpu, Hold, Transfer}
use Rattle.transfer.specs.Bytes.{bit}
use Rattle.controller.specs.Reu.{reg, with_release, with_repeat, with_delay, with_history, with_dma}
use Rattle.transfer.specs.Memory.{lines, put_storage}
use Rattle.controller.specs.Timing.{c64_access}
use Rattle.transfer.specs.Timing.{action_for_cycle}
use Rattle.transfer.specs.Dma.{moved, neither}
use Rattle.regs.specs.FinishDma.{irq_due, counters, finished_status, finished, stores_at_end}
use Rattle.regs.specs.Stores.{listed, made}
use Rattle.controller.specs.FinishDma.{publish_live_counters, finish_dma, update_irq}
use Rattle.controller.specs.BusAction.{bus_action, next_action, granted, decide, fall, fall_on_read, fall_on_swap_write, plain, repeated}
use Rattle.controller.specs.TickDma.{Ticked, ticked, tick_dma, tick_of, tick_running, tick_by_type, tick_swap, swap_read, swap_write, tick_refresh, shown_last, advance}
use Rattle.transfer.proofs.Pick.{by_test}
use Rattle.controller.specs.Cycle.{run_reu_cycle, counted, cycle_by}
use Rattle.claims.proofs.EndLaw.{finish_agrees, marked_length, marked_other}

-- whoever unfolds this unfolds all that a cycle of a swap computes
unfoldable pub cycle_computed : Unit {0}
unfolding run_reu_cycle counted cycle_by bus_action next_action decide fall fall_on_read fall_on_swap_write plain action_for_cycle c64_access repeated tick_dma tick_of tick_running tick_by_type tick_swap swap_read swap_write tick_refresh advance publish_live_counters
cycle_computed = tt

-- u with the fields that choose what a cycle does replaced
abbrev ready : Reu → Bool → Bool → ℕ → Bool → Bool → Bool → Option DmaState → Reu
ready u terminal refresh delay attached was late d =
    record u {
      attached = attached;
      ba_was_high = was;
      terminal_swap_write = terminal;
      late_ba_fall = late;
      swap_refresh = refresh;
      swap_read_delay = delay;
      dma = d;
    }

-- a swap's transfer state, no address fixed
abbrev pub swap_state : SwapPhase → ℕ → ℕ → ℕ → ℕ → Bool → Bool → Bool → DmaState
swap_state phase c e r l auto one odd =
    record {
      transfer_type = Swap;
      swap_phase = phase;
      c64_addr = record { 0 = c };
      reu_addr = record { 0 = e };
      remaining = r;
      fix_c64 = false;
      fix_reu = false;
      autoload = auto;
      latch = l;
      first_byte = one;
      read_clock_odd = odd;
      verify_tail = false;
    }

-- how a swap stands between two cycles: its phase, whether it is in the terminal pair, whether it refreshes, its delay; bus place, expansion
-- address, bytes left and latch
pub record Stands (u : Reu) (p : SwapPhase) (t f : Bool) (d c e r l : ℕ) : Type 0 where
  pub terminal : u.terminal_swap_write ≡ t
  pub refresh : u.swap_refresh ≡ f
  pub delay : u.swap_read_delay ≡ d
  pub attached : u.attached ≡ true
  pub auto : Bool
  pub one : Bool
  pub odd : Bool
  pub transfer : u.dma ≡ Some (swap_state p c e r l auto one odd)

abbrev pub form : (u : Reu) (p : SwapPhase) (t f : Bool) (d c e r l : ℕ) (auto one odd was late : Bool) → Reu
form u p t f d c e r l auto one odd was late = ready u t f d true was late (Some (swap_state p c e r l auto one odd))

pub form_stands : (u : Reu) (p : SwapPhase) (t f : Bool) (d c e r l : ℕ) (auto one odd was late : Bool)
    → Stands (form u p t f d c e r l auto one odd was late) p t f d c e r l
form_stands u p t f d c e r l auto one odd was late =
    record { terminal = refl; refresh = refl; delay = refl; attached = refl; auto = auto; one = one; odd = odd; transfer = refl }

pub stands_is : {u : Reu} {p : SwapPhase} {t f : Bool} {d c e r l : ℕ} (h : Stands u p t f d c e r l) (w : Bool) → u.ba_was_high ≡ w
    → u ≡ form u p t f d c e r l h.auto h.one h.odd w u.late_ba_fall
stands_is {u} h w q =
    λ i. ready u (h.terminal i) (h.refresh i) (h.delay i) (h.attached i) (q i) u.late_ba_fall (h.transfer i)

-- before its read phase, at bus place c and expansion address e, with r bytes left
pub record Reading (u : Reu) (c e r : ℕ) : Type 0 where
  pub latch : ℕ
  pub stands : Stands u ReadC64 false false 0 c e r latch

-- before its write phase behind a cycle with BA high, with the byte l in its latch
pub record Writing (u : Reu) (c e r l : ℕ) : Type 0 where
  pub high : u.ba_was_high ≡ true
  pub stands : Stands u WriteC64 false false 0 c e r l

-- ---- the read phase: the storage takes the bus's byte, the latch the storage's

pub record ReadStep (u : Reu) (c e r : ℕ) (m s : List ℕ) (t : Ticked) (a : ReuBusAction) : Type 0 where
  pub granted : a ≡ Transfer
  pub bus : t.1 ≡ m
  pub storage : t.2 ≡ set s (e % 2 ^ lines u.size) (get_or m c 0)
  pub regs : t.0.reu.regs ≡ u.regs
  pub phase : Writing t.0.reu c e r (get_or s (e % 2 ^ lines u.size) 0)

read_ready : (u : Reu) (w late : Bool) (c e r l : ℕ) (auto one odd : Bool) (m s : List ℕ) (high : Bool) (n : ℕ) (low : Bool)
    → ReadStep u c e r m s
    (run_reu_cycle (form u ReadC64 false false 0 c e r l auto one odd w late) m s high true n low)
    (bus_action (form u ReadC64 false false 0 c e r l auto one odd w late) s high true n).0.action
unfolding cycle_computed
read_ready u true late c e r l auto one odd m s high n low =
    record {
      granted = refl;
      bus = refl;
      storage = refl;
      regs = refl;
      phase = record { high = refl; stands = record { terminal = refl; refresh = refl; delay = refl; attached = refl; auto = auto; one = one; odd = bit n 0; transfer = refl } };
    }
read_ready u false late c e r l auto one odd m s high n low =
    record {
      granted = refl;
      bus = refl;
      storage = refl;
      regs = refl;
      phase = record { high = refl; stands = record { terminal = refl; refresh = refl; delay = refl; attached = refl; auto = auto; one = one; odd = bit n 0; transfer = refl } };
    }

pub read_step : (u : Reu) (c e r : ℕ) → Reading u c e r → (m s : List ℕ) (high : Bool) (n : ℕ) (low : Bool)
    → ReadStep u c e r m s (run_reu_cycle u m s high true n low) (bus_action u s high true n).0.action
read_step u c e r h m s high n low =
    subst (λ (v : Reu). ReadStep u c e r m s (run_reu_cycle v m s high true n low) (bus_action v s high true n).0.action)
    (sym (stands_is h.stands u.ba_was_high refl))
    (read_ready u u.ba_was_high u.late_ba_fall c e r h.latch h.stands.auto h.stands.one h.stands.odd m s high n low)

-- ---- the write phase of a byte that is not the last

pub record WriteStep (u : Reu) (c e r l : ℕ) (m s : List ℕ) (t : Ticked) (a : ReuBusAction) : Type 0 where
  pub granted : a ≡ Transfer
  pub bus : t.1 ≡ set m c l
  pub storage : t.2 ≡ s
  pub command : reg t.0.reu 1 ≡ reg u 1
  pub control : reg t.0.reu 10 ≡ reg u 10
  pub history : t.0.reu.ba_was_high ≡ true
  pub phase : Reading t.0.reu ((c + 1) % 65536) ((e + 1) % 16777216) (r - 1)

-- the counters leave the other registers
apart : (l : List ℕ) (c e n i : ℕ) → i ≢ 2 → i ≢ 3 → i ≢ 4 → i ≢ 5 → i ≢ 6 → i ≢ 7 → i ≢ 8
    → get_or (counters l c e n) i 0 ≡ get_or l i 0
apart l c e n i h2 h3 h4 h5 h6 h7 h8 = simp get_or-set_other

pub other_counters : (l : List ℕ) (c e n i : ℕ) → (i < 2) ⊎ (8 < i) → get_or (counters l c e n) i 0 ≡ get_or l i 0
other_counters l c e n i (inl h) = apart l c e n i (omega arith) (omega arith) (omega arith) (omega arith) (omega arith) (omega arith) (omega arith)
other_counters l c e n i (inr h) = apart l c e n i (omega arith) (omega arith) (omega arith) (omega arith) (omega arith) (omega arith) (omega arith)

write_ready : (u : Reu) (late : Bool) (c e r l : ℕ) (auto one odd : Bool) (m s : List ℕ) (high : Bool) (n : ℕ) (low : Bool) → eqb r 1 ≡ false
    → WriteStep u c e r l m s
    (run_reu_cycle (form u WriteC64 false false 0 c e r l auto one odd true late) m s high true n low)
    (bus_action (form u WriteC64 false false 0 c e r l auto one odd true late) s high true n).0.action
unfolding cycle_computed
write_ready u late c e r l auto one odd m s high n low h =
    rw h (record {
      granted = refl;
      bus = refl;
      storage = refl;
      command = other_counters u.regs ((c + 1) % 65536) ((e + 1) % 16777216) (r - 1) 1 (inl (omega arith));
      control = other_counters u.regs ((c + 1) % 65536) ((e + 1) % 16777216) (r - 1) 10 (inr (omega arith));
      history = refl;
      phase = record { latch = l; stands = record { terminal = refl; refresh = refl; delay = refl; attached = refl; auto = auto; one = false; odd = odd; transfer = refl } };
    })

pub write_step : (u : Reu) (c e r l : ℕ) → Writing u c e r l → eqb r 1 ≡ false → (m s : List ℕ) (high : Bool) (n : ℕ) (low : Bool)
    → WriteStep u c e r l m s (run_reu_cycle u m s high true n low) (bus_action u s high true n).0.action
write_step u c e r l h ne m s high n low =
    subst (λ (v : Reu). WriteStep u c e r l m s (run_reu_cycle v m s high true n low) (bus_action v s high true n).0.action)
    (sym (stands_is h.stands true h.high))
    (write_ready u u.late_ba_fall c e r l h.stands.auto h.stands.one h.stands.odd m s high n low ne)

-- ---- the write phase of the last byte: the command ends

-- no transfer, and nothing left over by which an idle cycle would be granted
pub record Quiet (u : Reu) : Type 0 where
  pub terminal : u.terminal_swap_write ≡ false
  pub delay : u.swap_read_delay ≡ 0
  pub attached : u.attached ≡ true
  pub idle : u.dma ≡ None

pub record LastStep (u : Reu) (c l : ℕ) (m s : List ℕ) (t : Ticked) (a : ReuBusAction) : Type 0 where
  pub granted : a ≡ Transfer
  pub bus : t.1 ≡ set m c l
  pub storage : t.2 ≡ s
  pub command : reg t.0.reu 1 ≡ bit_or (bit_and (reg u 1) 127) 16
  pub control : reg t.0.reu 10 ≡ reg u 10
  pub quiet : Quiet t.0.reu

-- Autoload changes the counters alone
auto_list : (l : List ℕ) (c e n : ℕ) (b : Bool) (i : ℕ) → (i < 2) ⊎ (8 < i) → get_or (made (listed (stores_at_end b c e n)) l) i 0 ≡ get_or l i 0
auto_list l c e n true i h = other_counters l c e n i h
auto_list l c e n false i h = refl

finish_command : (u : Reu) (done : Bool) → 1 < length u.regs → reg (finish_dma u done) 1 ≡ bit_or (bit_and (reg u 1) 127) 16
unfolding finish_dma update_irq
finish_command u done h =
    let l = finished_status u.regs done in
    marked_other (finished u.regs done) 128 (irq_due (finished u.regs done)) 1 (omega arith)
    ∙ get_or-set_same l 1 (bit_or (bit_and (get_or l 1 0) 127) 16) 0 (omega (arith, marked_length u.regs 64 done))
    ∙ ap (λ (x : ℕ). bit_or (bit_and x 127) 16) (marked_other u.regs 64 done 1 (omega arith))

finish_quiet : (u : Reu) (done : Bool) → u.terminal_swap_write ≡ false → u.swap_read_delay ≡ 0 → u.attached ≡ true
    → Quiet (finish_dma u done)
unfolding finish_dma update_irq
finish_quiet u done t w a = record { terminal = t; delay = w; attached = a; idle = refl }

-- what the end of a command finds: its counters shown or not, and all else as it was
record Found (u w : Reu) : Type 0 where
  long : length w.regs ≡ length u.regs
  other : (i : ℕ) → (i < 2) ⊎ (8 < i) → reg w i ≡ reg u i
  terminal : w.terminal_swap_write ≡ u.terminal_swap_write
  delay : w.swap_read_delay ≡ u.swap_read_delay
  attached : w.attached ≡ u.attached

found : (u : Reu) (d : DmaState) → Found u (shown_last u d)
unfolding publish_live_counters
found u d =
    by_test (Found u) d.autoload _ _
    (λ _. record { long = refl; other = λ i h. refl; terminal = refl; delay = refl; attached = refl })
    (λ _. record { long = simp length-set; other = λ i h. other_counters u.regs d.c64_addr.0 d.reu_addr.0 d.remaining i h; terminal = refl; delay = refl; attached = refl })

-- the tick, whatever BA is and was
pub last_tick : (u : Reu) (c e l : ℕ) (auto one odd was late : Bool) (m s : List ℕ) (n : ℕ) (low : Bool) → length u.regs ≡ 11
    → LastStep u c l m s (cycle_by Transfer (form u WriteC64 false false 0 c e 1 l auto one odd was late) m s n low) Transfer
unfolding cycle_computed
last_tick u c e l auto one odd was late m s n low len =
    record {
      granted = refl;
      bus = refl;
      storage = refl;
      command =
          auto_list (finish_dma w true).regs w.shadow_c64_addr w.shadow_reu_addr w.shadow_len auto 1 (inl (omega arith))
          ∙ finish_command w true (omega (arith, f.long)) ∙ ap (λ (x : ℕ). bit_or (bit_and x 127) 16) (f.other 1 (inl (omega arith)));
      control =
          auto_list (finish_dma w true).regs w.shadow_c64_addr w.shadow_reu_addr w.shadow_len auto 10 (inr (omega arith))
          ∙ (finish_agrees w true).at 10 (omega arith) ∙ f.other 10 (inr (omega arith));
      quiet = record { terminal = q.terminal; delay = q.delay; attached = q.attached; idle = q.idle };
    }
  where
    v : Reu
    v = form u WriteC64 false false 0 c e 1 l auto one odd was late

    d : DmaState
    d = moved (swap_state WriteC64 c e 1 l auto one odd)

    w : Reu
    w = with_release (shown_last v d) (not low)

    f : Found v (shown_last v d)
    f = found v d

    q : Quiet (finish_dma w true)
    q = finish_quiet w true f.terminal f.delay f.attached

last_ready : (u : Reu) (c e l : ℕ) (auto one odd late : Bool) (m s : List ℕ) (high : Bool) (n : ℕ) (low : Bool) → length u.regs ≡ 11
    → LastStep u c l m s (run_reu_cycle (form u WriteC64 false false 0 c e 1 l auto one odd true late) m s high true n low)
    (bus_action (form u WriteC64 false false 0 c e 1 l auto one odd true late) s high true n).0.action
unfolding cycle_computed
last_ready u c e l auto one odd late m s high n low len = last_tick u c e l auto one odd true (not high) m s n low len

pub last_step : (u : Reu) (c e l : ℕ) → Writing u c e 1 l → length u.regs ≡ 11 → (m s : List ℕ) (high : Bool) (n : ℕ) (low : Bool)
    → LastStep u c l m s (run_reu_cycle u m s high true n low) (bus_action u s high true n).0.action
last_step u c e l h len m s high n low =
    subst (λ (v : Reu). LastStep u c l m s (run_reu_cycle v m s high true n low) (bus_action v s high true n).0.action)
    (sym (stands_is h.stands true h.high))
    (last_ready u c e l h.stands.auto h.stands.one h.stands.odd u.late_ba_fall m s high n low len)

-- ---- no transfer

-- the registers but STATUS, the shadows, the storage's presence and the transfer are kept
pub record Kept (u w : Reu) : Type 0 where
  pub regs : (i : ℕ) → i ≢ 0 → reg w i ≡ reg u i
  pub c64 : w.shadow_c64_addr ≡ u.shadow_c64_addr
  pub exp : w.shadow_reu_addr ≡ u.shadow_reu_addr
  pub len : w.shadow_len ≡ u.shadow_len
  pub attached : w.attached ≡ u.attached
  pub dma : w.dma ≡ u.dma

-- whatever an idle controller has left over, a cycle changes no byte, no register and no transfer
pub record IdleStep (u : Reu) (m s : List ℕ) (t : Ticked) : Type 0 where
  pub bus : t.1 ≡ m
  pub storage : t.2 ≡ s
  pub kept : Kept (with_dma u None) t.0.reu

-- other flags, another delay, another count of granted cycles, and no transfer
still : {answer waiting was repeat terminal late refresh release : Bool} {delay count : ℕ} (u : Reu) (m s : List ℕ)
    → IdleStep u m s (
      ticked answer neither None
          (record u {
            waiting_ff00 = waiting;
            ba_was_high = was;
            recall_repeat = repeat;
            terminal_swap_write = terminal;
            late_ba_fall = late;
            swap_refresh = refresh;
            swap_release_pending = release;
            swap_read_delay = delay;
            dma = None;
            granted_cycles = count;
          }),
      m,
      s,
    )
still u m s = record { bus = refl; storage = refl; kept = record { regs = λ i h. refl; c64 = refl; exp = refl; len = refl; attached = refl; dma = refl } }

-- the controller when an idle cycle's action is chosen
abbrev before_choice : Reu → Bool → Bool → ℕ → Reu
before_choice u refresh high delay = with_repeat (with_history (ready u false refresh delay u.attached high u.late_ba_fall None) true false) u.recall_repeat

-- by whether a delay is left, and whether it ends
idle_choice : (u : Reu) (refresh high : Bool) (delay : ℕ) (m s : List ℕ) (n : ℕ) (low : Bool) (none last : Bool)
    → (v : Reu) → v ≡ before_choice u refresh high delay
    → (g : BusAnswer) → g ≡ cond none (granted Cpu v) (granted (cond last Transfer Hold) (with_delay v (delay - 1)))
    → IdleStep u m s (cycle_by g.action g.reu m (put_storage u.size g.put s) n low)
unfolding counted cycle_by tick_dma tick_of
idle_choice u refresh high delay m s n low false true v p g q = rw (q, p) (still u m s)
idle_choice u refresh high delay m s n low false false v p g q = rw (q, p) (still u m s)
idle_choice u refresh high delay m s n low true last v p g q = rw (q, p) (still u m s)

idle_ready : (u : Reu) (terminal refresh high : Bool) (delay : ℕ) (m s : List ℕ) (n : ℕ) (low : Bool)
    → IdleStep u m s (run_reu_cycle (ready u terminal refresh delay u.attached high u.late_ba_fall None) m s true true n low)
unfolding cycle_computed
idle_ready u true refresh true delay m s n low = still u m s
idle_ready u true refresh false delay m s n low = still u m s
idle_ready u false refresh true delay m s n low =
    idle_choice u refresh true delay m s n low (eqb delay 0) (eqb delay 1) (before_choice u refresh true delay) refl
    (next_action (ready u false refresh delay u.attached true u.late_ba_fall None) true true n) refl
idle_ready u false refresh false delay m s n low =
    idle_choice u refresh false delay m s n low (eqb delay 0) (eqb delay 1) (before_choice u refresh false delay) refl
    (next_action (ready u false refresh delay u.attached false u.late_ba_fall None) true true n) refl

pub idle_step : (u : Reu) → u.dma ≡ None → (m s : List ℕ) (n : ℕ) (low : Bool) → IdleStep u m s (run_reu_cycle u m s true true n low)
idle_step u h m s n low =
    subst (λ (v : Reu). IdleStep u m s (run_reu_cycle v m s true true n low))
    (λ i. ready u u.terminal_swap_write u.swap_refresh u.swap_read_delay u.attached u.ba_was_high u.late_ba_fall (sym h i))
    (idle_ready u u.terminal_swap_write u.swap_refresh u.ba_was_high u.swap_read_delay m s n low)

-- after a swap an idle cycle is not granted whatever BA is, changes nothing, and leaves it so
pub record QuietStep (u : Reu) (m s : List ℕ) (t : Ticked) (a : ReuBusAction) : Type 0 where
  pub granted : a ≡ Cpu
  pub step : IdleStep u m s t
  pub quiet : Quiet t.0.reu

rests : {answer was repeat late : Bool} {count : ℕ} (u : Reu) (refresh w l : Bool) (m s : List ℕ)
    → QuietStep (ready u false refresh 0 true w l None) m s (
      ticked answer neither None
          (record (ready u false refresh 0 true w l None) { ba_was_high = was; recall_repeat = repeat; late_ba_fall = late; granted_cycles = count }),
      m,
      s,
    ) Cpu
rests u refresh w l m s =
    record { granted = refl; step = still (ready u false refresh 0 true w l None) m s; quiet = record { terminal = refl; delay = refl; attached = refl; idle = refl } }

quiet_ready : (u : Reu) (refresh was late : Bool) (m s : List ℕ) (high phi1 : Bool) (n : ℕ) (low : Bool)
    → QuietStep (ready u false refresh 0 true was late None) m s (run_reu_cycle (ready u false refresh 0 true was late None) m s high phi1 n low)
    (bus_action (ready u false refresh 0 true was late None) s high phi1 n).0.action
unfolding cycle_computed
quiet_ready u refresh true late m s high true n low = rests u refresh true late m s
quiet_ready u refresh true late m s high false n low = rests u refresh true late m s
quiet_ready u refresh false late m s high true n low = rests u refresh false late m s
quiet_ready u refresh false late m s high false n low = rests u refresh false late m s

pub quiet_step_lem : (u : Reu) → Quiet u → (m s : List ℕ) (high phi1 : Bool) (n : ℕ) (low : Bool)
    → QuietStep u m s (run_reu_cycle u m s high phi1 n low) (bus_action u s high phi1 n).0.action
quiet_step_lem u q m s high phi1 n low =
    subst (λ (v : Reu). QuietStep v m s (run_reu_cycle v m s high phi1 n low) (bus_action v s high phi1 n).0.action)
    (λ i. ready u (sym q.terminal i) u.swap_refresh (sym q.delay i) (sym q.attached i) u.ba_was_high u.late_ba_fall (sym q.idle i))
    (quiet_ready u u.swap_refresh u.ba_was_high u.late_ba_fall m s high phi1 n low)
