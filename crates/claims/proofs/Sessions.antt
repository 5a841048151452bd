-- The recorded sessions hold: a script of exported calls leaves what the controller's definitions compute.
use Prim.Native.Nat.{ℕ}
use mathlib.Core.Bool.{Bool, true, false, not}
use mathlib.Core.Logic.{◌≢◌}
use mathlib.Core.Path.{◌≡◌, refl, sym, ap, ◌∙◌}
use mathlib.Core.List.{List, [], ◌∷◌, ◌++◌}
use lib.ListN.{length, get_or, set, length-set}
use lib.Seq.{get_or-set_same, get_or-set_other}
use lib.Dec.{eqb}
use native.Mathlib.Omega.{arith}
use borrow.Author.Tests.{eq-eqb, ne_eqb}
use Rattle.controller.specs.declared.reu.Reu.{Reu}
use Rattle.controller.specs.declared.reu.TickAnswer.{TickAnswer}
use Rattle.transfer.specs.declared.memory.Put.TheVariants.{Nothing}
use lib.Count.{count_trailing_zeros}
use Rattle.transfer.specs.Memory.{put_bus, put_storage, lines}
use Rattle.transfer.specs.Dma.{with_tail}
use Rattle.controller.specs.Registers.{read_register, write_register, write_command, debug_register as core_debug_register}
use Rattle.controller.specs.Timing.{c64_access as core_c64_access}
use Rattle.transfer.specs.Timing.{action_for_cycle}
use Rattle.transfer.specs.Dma.{moved, neither, type_of, length_of}
use Rattle.regs.specs.StartDma.{requested}
use Rattle.controller.specs.StartDma.{start_dma, trigger_ff00 as core_trigger_ff00}
use Rattle.controller.specs.FinishDma.{publish_live_counters, finish_dma, update_irq, with_stores}
use Rattle.controller.specs.Enable.{new_reu, connected, set_enabled as core_set_enabled}
use Rattle.controller.specs.BusAction.{bus_action as core_bus_action, next_action, decide, fall, fall_on_read, fall_on_swap_write, plain, fall_on_write, repeated}
use Rattle.controller.specs.TickDma.{tick_dma as core_tick_dma, tick_of, tick_running, tick_by_type, tick_store, tick_recall, tick_swap, tick_verify, tick_tail, swap_read, swap_write, tick_refresh, advance, ends}
use Rattle.controller.specs.Cycle.{run_reu_cycle, counted, cycle_by}
use Rattle.controller.specs.Calls.{read_call}
use Rattle.transfer.specs.Timing.{action_number}
use Rattle.reu.specs.Exports.{flag}
use Rattle.claims.specs.Calls.{Held, Memories, reset, set_enabled, trigger_ff00, bus_action, debug_register, tick_dma, Kind, read, write, cycle, other, NumbersFit, Done, does, grant_of}
use Rattle.claims.specs.Sessions.{play, answers, grants, shows, eleven, level, begin, ticks, r4, r5, r10, r13, r14, r16, new, enabled, run, Table, Sessions}
use Rattle.image.proofs.Sound.{Sound}
use Rattle.image.proofs.SoundCalls.{sound_new, sound_fresh}
use Rattle.transfer.proofs.Sizes.{size_512}
use Rattle.transfer.specs.Constants.{new_size}
use Rattle.claims.proofs.States.{St, held, step_of, value_of, Steady, Ready, ready_of}
use Rattle.claims.proofs.Accepted.{does_is, ready_number, ready_step}
use Rattle.claims.proofs.Look.{irq_bit, count_number}
use Rattle.claims.specs.GrantedCycles.{number, Counted}

-- ---- scripts, on the controller

-- every number fits, and no size is set
abbrev Fit : Kind → Type 0
Fit (read a) = NumbersFit (read a)
Fit (write a v) = NumbersFit (write a v)
Fit (cycle h n l p) = NumbersFit (cycle h n l p)
Fit (other o) = Steady (other o)

fit_numbers : (d : Kind) → Fit d → NumbersFit d
fit_numbers (read a) f = f
fit_numbers (write a v) f = f
fit_numbers (cycle h n l p) f = f
fit_numbers (other o) f = tt

fit_steady : (d : Kind) → Fit d → Steady d
fit_steady (read a) f = tt
fit_steady (write a v) f = tt
fit_steady (cycle h n l p) f = tt
fit_steady (other o) f = f

abbrev pub AllFit : List Kind → Type 0
AllFit [] = Unit {0}
AllFit (d ∷ ds) = Fit d × AllFit ds

abbrev pub to : List Kind → St → St
to [] x = x
to (d ∷ ds) x = to ds (step_of d x)

abbrev values : List Kind → St → List ℕ
values [] x = []
values (d ∷ ds) x = value_of d x ∷ values ds (step_of d x)

abbrev grant_at : Kind → St → ℕ
grant_at (read a) x = 0
grant_at (write a v) x = 0
grant_at (cycle h n l p) x = action_number (core_bus_action x.u x.s (flag h) (flag p) n).0.action
grant_at (other o) x = 0

abbrev grants_at : List Kind → St → List ℕ
grants_at [] x = []
grants_at (d ∷ ds) x = grant_at d x ∷ grants_at ds (step_of d x)

ready_to : (ds : List Kind) (x : St) → Ready x → AllFit ds → Ready (to ds x)
ready_to [] x g f = g
ready_to (d ∷ ds) x g f = ready_to ds (step_of d x) (ready_step x g d (fit_steady d f.0) (fit_numbers d f.0)) f.1

does_ready : (d : Kind) (x : St) → Ready x → Steady d → does d (held x) ≡ record { answer = value_of d x; left = held (step_of d x) }
does_ready d x g s = does_is x g.sound d (ready_number x g d s)

play_is : (ds : List Kind) (x : St) → Ready x → AllFit ds → play ds (held x) ≡ held (to ds x)
play_is [] x g f = refl
play_is (d ∷ ds) x g f =
    ap (λ (e : Done). play ds e.left) (does_ready d x g (fit_steady d f.0)) ∙ play_is ds (step_of d x) (ready_step x g d (fit_steady d f.0) (fit_numbers d f.0)) f.1

answers_are : (ds : List Kind) (x : St) → Ready x → AllFit ds → answers ds (held x) ≡ values ds x
answers_are [] x g f = refl
answers_are (d ∷ ds) x g f =
    ap (λ (e : Done). e.answer ∷ answers ds e.left) (does_ready d x g (fit_steady d f.0))
    ∙ ap (λ (l : List ℕ). value_of d x ∷ l) (answers_are ds (step_of d x) (ready_step x g d (fit_steady d f.0) (fit_numbers d f.0)) f.1)

grant_is : (d : Kind) (x : St) → Ready x → grant_of d (held x) ≡ grant_at d x
grant_is (read a) x g = refl
grant_is (write a v) x g = refl
grant_is (cycle h n l p) x g = ap (λ (e : Done). e.answer) (does_ready (other (bus_action h p n)) x g tt)
grant_is (other o) x g = refl

grants_are : (ds : List Kind) (x : St) → Ready x → AllFit ds → grants ds (held x) ≡ grants_at ds x
grants_are [] x g f = refl
grants_are (d ∷ ds) x g f =
    (λ i. grant_is d x g i ∷ grants ds (does_ready d x g (fit_steady d f.0) i).left)
    ∙ ap (λ (l : List ℕ). grant_at d x ∷ l) (grants_are ds (step_of d x) (ready_step x g d (fit_steady d f.0) (fit_numbers d f.0)) f.1)

-- ---- what is looked at

abbrev eleven_of : Reu → List ℕ
eleven_of u =
    core_debug_register u 0 ∷ core_debug_register u 1 ∷ core_debug_register u 2 ∷ core_debug_register u 3 ∷ core_debug_register u 4 ∷ core_debug_register u 5 ∷
    core_debug_register u 6 ∷ core_debug_register u 7 ∷ core_debug_register u 8 ∷ core_debug_register u 9 ∷ core_debug_register u 10 ∷ []

module _ (x : St) (g : Ready x) where
  shows_is : (r : ℕ) → shows (held x) r ≡ core_debug_register x.u r
  shows_is r = ap (λ (e : Done). e.answer) (does_ready (other (debug_register r)) x g tt)

  eleven_is : eleven (held x) ≡ eleven_of x.u
  eleven_is =
      λ i. shows_is 0 i ∷ shows_is 1 i ∷ shows_is 2 i ∷ shows_is 3 i ∷ shows_is 4 i ∷ shows_is 5 i ∷ shows_is 6 i ∷ shows_is 7 i ∷ shows_is 8 i ∷
      shows_is 9 i ∷ shows_is 10 i ∷ []

  level_is : level (held x) ≡ x.u.irq_pending
  level_is = irq_bit x g.sound

-- ---- scripts from "new", and from "new, enabled"

abbrev fresh : List ℕ → List ℕ → St
fresh m s = record { u = new_reu; m = m; s = s }

abbrev pub start : List ℕ → List ℕ → St
start m s = record { u = connected new_reu; m = m; s = s }

module _ (m s : List ℕ) (mem : Memories new_size m s) where
  ready_with : (u : Reu) → Sound u → u.size ≡ new_size → Ready (record { u = u; m = m; s = s })
  ready_with u h z =
      ready_of (record { u = u; m = m; s = s }) (record { sound = h; bus = mem.bus_bytes; storage = mem.storage_bytes }) mem.bus_length (mem.storage_size ∙ sym z)

  ready_fresh : Ready (fresh m s)
  ready_fresh = ready_with new_reu sound_new refl

  fresh_answers : (ds : List Kind) → AllFit ds → answers ds (new m s) ≡ values ds (fresh m s)
  fresh_answers ds f = answers_are ds (fresh m s) ready_fresh f

  fresh_shows : (ds : List Kind) → AllFit ds → (r : ℕ) → shows (play ds (new m s)) r ≡ core_debug_register (to ds (fresh m s)).u r
  fresh_shows ds f r =
      ap (λ (h : Held). shows h r) (play_is ds (fresh m s) ready_fresh f) ∙ shows_is (to ds (fresh m s)) (ready_to ds (fresh m s) ready_fresh f) r

  ready_start : Ready (start m s)
  ready_start = ready_with (connected new_reu) (sound_fresh true true new_size size_512) refl

  start_is : enabled m s ≡ held (start m s)
  unfolding core_set_enabled
  start_is = λ i. record { image = (does_ready (other (set_enabled 1)) (fresh m s) ready_fresh tt i).left.image; bus = m; storage = s }

  module _ (ds : List Kind) (f : AllFit ds) where
    pub played : run m s ds ≡ held (to ds (start m s))
    played = ap (play ds) start_is ∙ play_is ds (start m s) ready_start f

    pub ready_played : Ready (to ds (start m s))
    ready_played = ready_to ds (start m s) ready_start f

    bus_of : (run m s ds).bus ≡ (to ds (start m s)).m
    bus_of = ap (λ (h : Held). h.bus) played

    storage_of : (run m s ds).storage ≡ (to ds (start m s)).s
    storage_of = ap (λ (h : Held). h.storage) played

    shows_of : (r : ℕ) → shows (run m s ds) r ≡ core_debug_register (to ds (start m s)).u r
    shows_of r = ap (λ (h : Held). shows h r) played ∙ shows_is (to ds (start m s)) ready_played r

    eleven_of_lem : eleven (run m s ds) ≡ eleven_of (to ds (start m s)).u
    eleven_of_lem = ap eleven played ∙ eleven_is (to ds (start m s)) ready_played

    level_of : level (run m s ds) ≡ (to ds (start m s)).u.irq_pending
    level_of = ap level played ∙ level_is (to ds (start m s)) ready_played

    number_of : number (run m s ds) ≡ (to ds (start m s)).u.granted_cycles
    number_of = ap number played ∙ count_number (to ds (start m s)) ready_played.sound

    -- and calls after it
    answers_of : (es : List Kind) → AllFit es → answers es (run m s ds) ≡ values es (to ds (start m s))
    answers_of es fe = ap (answers es) played ∙ answers_are es (to ds (start m s)) ready_played fe

    grants_of : (es : List Kind) → AllFit es → grants es (run m s ds) ≡ grants_at es (to ds (start m s))
    grants_of es fe = ap (grants es) played ∙ grants_are es (to ds (start m s)) ready_played fe

-- ---- the table

-- whoever unfolds this unfolds all that a session computes
unfoldable pub calls_computed : Unit {0}
unfolding lines count_trailing_zeros run_reu_cycle counted cycle_by core_bus_action next_action decide fall fall_on_read fall_on_swap_write plain fall_on_write action_for_cycle core_c64_access repeated core_tick_dma tick_of tick_running tick_by_type tick_store tick_recall tick_swap tick_verify tick_tail swap_read swap_write tick_refresh advance publish_live_counters read_register write_register write_command core_debug_register start_dma core_trigger_ff00 requested type_of length_of finish_dma update_irq
calls_computed = tt

-- two bytes stored, at the last place and at the first
last_and_first : (s : List ℕ) (a b : ℕ) → length s ≡ 524288
    → (get_or (set (set s 524287 a) 0 b) 524287 0 ≡ a) × (get_or (set (set s 524287 a) 0 b) 0 0 ≡ b)
last_and_first s a b h = (
  get_or-set_other (set s 524287 a) 0 524287 b 0 (λ e. omega arith) ∙ get_or-set_same s 524287 a 0 (omega arith),
  get_or-set_same (set s 524287 a) 0 b 0 (omega (arith, length-set s 524287 a)),
)

-- verify: the controller when the command has started; after the first byte; and after the comparison that a mismatch leaves. A tick's
-- stores are made, and each cycle is counted
abbrev ticked_once : TickAnswer → Reu
ticked_once t = counted (with_stores t.reu t.stores)

asked : ℕ → Reu
asked n = (to (begin 0 0 n 0x93) (start [] [])).u

compared : ℕ → Bool → TickAnswer
compared n equal = advance (asked n) (requested (asked n).regs) (not equal) false Nothing

tailed : Bool → Reu
tailed equal =
    ticked_once (ends (ticked_once (compared 2 false)) neither (with_tail (moved (requested (asked 2).regs)) true) false (not (not equal)) Nothing)

module _ (m s : List ℕ) (ne : get_or m 0 0 ≢ get_or s 0 0) where
  one_differs : (to (begin 0 0 3 0x93 ++ ticks 1) (start m s)).u ≡ ticked_once (compared 3 false)
  unfolding calls_computed asked compared
  one_differs = ap (λ (b : Bool). ticked_once (compared 3 b)) (ne_eqb (get_or m 0 0) (get_or s 0 0) ne)

  two_compared : (equal : Bool) → eqb (get_or m 1 0) (get_or s 1 0) ≡ equal → (to (begin 0 0 2 0x93 ++ ticks 2) (start m s)).u ≡ tailed equal
  unfolding calls_computed asked compared tailed
  two_compared equal e =
      ap (λ (b : Bool). let t = compared 2 b in (run_reu_cycle (ticked_once t) (put_bus t.put m) (put_storage new_size t.put s) true true 0 false).0.reu)
      (ne_eqb (get_or m 0 0) (get_or s 0 0) ne) ∙ ap tailed e

-- the swap that meets a late fall, on lists that have a first byte
pub late_fall : (m s : List ℕ) → length m ≡ 65536 → length s ≡ 524288
    → ((to (begin 0 0 1 0x92 ++ r16) (start m s)).m ≡ m) × ((to (begin 0 0 1 0x92 ++ r16) (start m s)).s ≡ set s 0 (get_or m 0 0))
unfolding calls_computed
late_fall [] s hm hs = absurd (omega arith)
late_fall (c ∷ m) [] hm hs = absurd (omega arith)
late_fall (c ∷ m) (r ∷ s) hm hs = (refl, refl)

table : (m s : List ℕ) → Memories new_size m s → Table m s
unfolding calls_computed read_call asked compared tailed
table m s mem =
    record {
      R1 = fresh_answers m s mem (read 0 ∷ read 1 ∷ read 2 ∷ read 3 ∷ read 4 ∷ read 5 ∷ read 6 ∷ read 7 ∷ read 8 ∷ read 9 ∷ read 10 ∷ []) (omega arith);
      R2 = (fresh_answers m s mem (read 0xDF0B ∷ []) (omega arith), λ h. refl);
      R3 = (fresh_shows m s mem (write 1 0x90 ∷ []) (omega arith) 1, fresh_shows m s mem (write 1 0x90 ∷ []) (omega arith) 0);
      R3_armed = fresh_shows m s mem (write 1 0x80 ∷ other trigger_ff00 ∷ []) (omega arith) 1;
      R4 =
          λ e. let h = mem.storage_size in
          ap (λ (l : List ℕ). get_or l 0 0) (storage_of m s mem r4 (omega arith)) ∙ get_or-set_same s 0 (get_or m 4096 0) 0 (omega arith) ∙ e;
      R4_shows = eleven_of_lem m s mem r4 (omega arith);
      R5 = eleven_of_lem m s mem r5 (omega arith);
      R5_bank = (
        ap (λ (h : Held). (does (read 6) h).answer) (played m s mem r5 (omega arith))
            ∙ ap (λ (d : Done). d.answer) (does_ready (read 6) (to r5 (start m s)) (ready_played m s mem r5 (omega arith)) tt),
        shows_of m s mem r5 (omega arith) 6,
      );
      R6 = λ ne. eleven_of_lem m s mem (begin 0 0 3 0x93 ++ ticks 1) (omega arith) ∙ ap eleven_of (one_differs m s ne);
      R7 = λ ne e. eleven_of_lem m s mem (begin 0 0 2 0x93 ++ ticks 2) (omega arith) ∙ ap eleven_of (two_compared m s ne true (eq-eqb (get_or m 1 0) (get_or s 1 0) e));
      R8 = λ ne e. eleven_of_lem m s mem (begin 0 0 2 0x93 ++ ticks 2) (omega arith) ∙ ap eleven_of (two_compared m s ne false (ne_eqb (get_or m 1 0) (get_or s 1 0) e));
      R9 = (bus_of m s mem (begin 0 0 1 0x92 ++ ticks 1) (omega arith), storage_of m s mem (begin 0 0 1 0x92 ++ ticks 1) (omega arith));
      R9_second = (
        bus_of m s mem (begin 0 0 1 0x92 ++ ticks 2) (omega arith),
        storage_of m s mem (begin 0 0 1 0x92 ++ ticks 2) (omega arith),
        shows_of m s mem (begin 0 0 1 0x92 ++ ticks 2) (omega arith) 0,
      );
      R10 = bus_of m s mem (begin 0 0 3 0x91 ++ r10) (omega arith);
      R11 = bus_of m s mem (begin 0 0 3 0x81 ++ (other trigger_ff00 ∷ r10)) (omega arith);
      R12 = answers_of m s mem r4 (omega arith) (write 9 0xC0 ∷ read 0 ∷ read 0 ∷ []) (omega arith);
      R12_level = (
        level_of m s mem (r4 ++ (write 9 0xC0 ∷ [])) (omega arith),
        level_of m s mem (r4 ++ (write 9 0xC0 ∷ read 0 ∷ [])) (omega arith),
        level_of m s mem (r4 ++ (write 9 0xC0 ∷ read 0 ∷ read 0 ∷ [])) (omega arith),
      );
      R13 = (shows_of m s mem r13 (omega arith) 2, shows_of m s mem r13 (omega arith) 3);
      R13_written = (
        shows_of m s mem (r13 ++ (write 2 0 ∷ [])) (omega arith) 2,
        shows_of m s mem (r13 ++ (write 2 0 ∷ [])) (omega arith) 3,
      );
      R14 =
          let e = storage_of m s mem r14 (omega arith) in
          let b = last_and_first s (get_or m 65535 0) (get_or m 0 0) mem.storage_size in
          (ap (λ (l : List ℕ). get_or l 524287 0) e ∙ b.0, ap (λ (l : List ℕ). get_or l 0 0) e ∙ b.1);
      R14_shows = (
        shows_of m s mem r14 (omega arith) 2,
        shows_of m s mem r14 (omega arith) 3,
        shows_of m s mem r14 (omega arith) 6,
      );
      R16 = grants_of m s mem (begin 0 0 1 0x92) (omega arith) r16 (omega arith);
      R16_bytes =
          let e = late_fall m s mem.bus_length mem.storage_size in
          (bus_of m s mem (begin 0 0 1 0x92 ++ r16) (omega arith) ∙ e.0, storage_of m s mem (begin 0 0 1 0x92 ++ r16) (omega arith) ∙ e.1);
    }

pub sessions : Sessions
sessions = table

-- ---- the count of granted cycles

pub scripts : (m s : List ℕ) → Memories new_size m s → Counted m s
unfolding calls_computed core_set_enabled
scripts m s mem =
    record {
      store = number_of m s mem r4 (omega arith);
      disabled = number_of m s mem (r4 ++ (other (set_enabled 0) ∷ other (set_enabled 1) ∷ [])) (omega arith);
      held = number_of m s mem (begin 0 0 1 0x92 ++ r16) (omega arith);
      armed = number_of m s mem (r4 ++ begin 0 0 1 0x80) (omega arith);
      triggered = number_of m s mem (r4 ++ (begin 0 0 1 0x80 ++ (other trigger_ff00 ∷ []))) (omega arith);
      started = number_of m s mem (r4 ++ begin 0 0 1 0x90) (omega arith);
      renewed = number_of m s mem (r4 ++ (other (reset 0) ∷ [])) (omega arith);
      ticked = number_of m s mem (begin 0 0 1 0x90 ++ (other (tick_dma 0 0) ∷ [])) (omega arith);
    }
