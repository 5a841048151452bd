-- From each start there are lists of both kinds: a block is swapped, its registers are written, and it is swapped again; and a
-- read, a write and a cycle leave an idle controller idle.
use Prim.Native.Nat.{ℕ, zero, suc, ◌+◌, ◌*◌, ◌<◌, ◌≤◌}
use native.Mathlib.Nat.{zero-add}
use mathlib.Core.Bool.{Bool, true, false, ◌&&◌}
use mathlib.Core.Path.{◌≡◌, refl, sym, ap, ◌∙◌, subst, subst₂, fun_ext}
use mathlib.Core.Logic.{inr}
use mathlib.Core.List.{List, [], ◌∷◌, ◌++◌, map}
use lib.Dec.{eqb}
use native.Mathlib.Omega.{arith}
use Rattle.transfer.specs.Bytes.{bit_of}
use Rattle.transfer.specs.declared.timing.ReuBusAction.{ReuBusAction}
use Rattle.std.specs.Prelude.{None}
use Rattle.controller.specs.Reu.{reg}
use Rattle.controller.specs.Registers.{read_register, write_register}
use Rattle.controller.specs.declared.reu.Reu.{Reu}
use Rattle.controller.specs.Enable.{new_reu, set_size as core_set_size, connected}
use Rattle.transfer.specs.Memory.{is_size}
use Rattle.image.proofs.Sound.{Sound, with_dma_lem}
use Rattle.controller.specs.Cycle.{run_reu_cycle}
use Rattle.transfer.specs.Timing.{action_number}
use Rattle.image.specs.Layout.{present, pack_image}
use Rattle.reu.specs.Exports.{reu_debug_register}
use Rattle.transfer.specs.Constants.{command}
use Rattle.claims.specs.Constants.{transfer_byte}
use Rattle.reu.specs.Exports.{refusal_unit}
use Rattle.claims.specs.Calls.{Held, Memories, Kind, read, write, cycle, NumbersFit, grant_of, Call, Fits, leaves, accepts, next, after, Each, All, count}
use Rattle.claims.specs.SwapTwice.{byte, IsIdle, Start, Step, cycles, reads, writes, AnyStep, NoWrite, register, writes_to, wrote, High, Run, OfBlock, swaps, Rewrites, Ended, OnceEnded, Parts, list_of, at_restart, RunA, RunB}
use Rattle.claims.proofs.RegisterLaw.{Value, Seven, two, three, four, five, six, seven, eight, is_seven}
use Rattle.image.proofs.SoundCalls.{sound_new, sound_size}
use Rattle.image.proofs.Valid.{sound_bytes}
use Rattle.claims.proofs.States.{St, held, on, step_of, value_of, Steady, Ready, ready_of}
use Rattle.claims.proofs.Accepted.{leaves_is, is_accepted, ready_number, ready_step}
use Rattle.controller.proofs.Checked.{step_most}
use Rattle.claims.proofs.Walk.{widen, written_at, next_is}
use Rattle.claims.proofs.Look.{present_byte, can_start, debug_value, Idling, opened, opened_ready, opened_is, opened_idling}
use Rattle.claims.proofs.Swap.{Allowed, idle_high, granted_bit, len_of, SwapFrom, over_from, ended_from, granted_from, step_from, begins}

-- ---- a start

-- a new controller with a size that is set, enabled
unfoldable pub enabled_new : ℕ → Reu
enabled_new size = connected (core_set_size new_reu size)

pub enabled_sound : (size : ℕ) → is_size size ≡ true → Sound (enabled_new size)
unfolding enabled_new core_set_size
enabled_sound size h = with_dma_lem (sound_size new_reu size sound_new h) tt

pub some_start : (size : ℕ) → is_size size ≡ true → (m s : List ℕ) → Memories size m s
    → Start (record { image = pack_image (connected (core_set_size new_reu size)); bus = m; storage = s })
unfolding pack_image core_set_size enabled_new
some_start size h m s mem =
    let x : St = record { u = enabled_new size; m = m; s = s } in
    record {
      can =
          can_start x
          (ready_of x (record { sound = enabled_sound size h; bus = mem.bus_bytes; storage = mem.storage_bytes }) mem.bus_length mem.storage_size)
          refl refl;
      unarmed = refl;
      idle = refl;
    }

-- ---- accepted calls one after the other, each made on what is held

-- a read, a write or a cycle that is accepted
record Plain (x : St) (d : Kind) : Type 0 where
  small : value_of d x < refusal_unit
  numbers : NumbersFit d
  steady : Steady d
  high : High d
  kind : AnyStep d

data Trace (P : St → Kind → Type 0) : St → List Call → St → Type 0 where
  done : {x : St} → Trace P x [] x
  more : {x y : St} {d : Kind} {cs : List Call} → Plain x d → P x d → Trace P (step_of d x) cs y → Trace P x (on x d ∷ cs) y

join : {P : St → Kind → Type 0} {x y z : St} {cs ds : List Call} → Trace P x cs y → Trace P y ds z → Trace P x (cs ++ ds) z
join done u = u
join (more o p t) u = more o p (join t u)

relax : {P Q : St → Kind → Type 0} {x y : St} {cs : List Call} → ((z : St) (d : Kind) → P z d → Q z d) → Trace P x cs y → Trace Q x cs y
relax f done = done
relax f (more {x = x} {d = d} o p t) = more o (f x d p) (relax f t)

accepted : (x : St) (d : Kind) → Ready x → Plain x d → accepts (on x d) ≡ true
accepted x d g o = is_accepted x g.sound d (ready_number x g d o.steady) o.small

next_on : (x : St) (d : Kind) → Ready x → Plain x d → next (held x) (on x d) ≡ held (step_of d x)
next_on x d g o = next_is x (on x d) g.sound (accepted x d g o) refl

trace_ready : {P : St → Kind → Type 0} {x y : St} {cs : List Call} → Trace P x cs y → Ready x → Ready y
trace_ready done g = g
trace_ready (more {x = x} {d = d} o p t) g = trace_ready t (ready_step x g d o.steady o.numbers)

trace_after : {P : St → Kind → Type 0} {x y : St} {cs : List Call} → Trace P x cs y → Ready x → after (held x) cs ≡ held y
trace_after done g = refl
trace_after (more {x = x} {d = d} {cs = cs} o p t) g =
    ap (λ (k : Held). after k cs) (next_on x d g o) ∙ trace_after t (ready_step x g d o.steady o.numbers)

trace_each : {P : St → Kind → Type 0} (Q : Held → Call → Type 0) → ((z : St) (d : Kind) → Plain z d → P z d → Q (held z) (on z d))
    → {x y : St} {cs : List Call} → Trace P x cs y → Ready x → Each Q (held x) cs
trace_each Q f done g = tt
trace_each Q f (more {x = x} {d = d} {cs = cs} o p t) g = (
  (λ e. f x d o p),
  subst (λ (k : Held). Each Q k cs) (sym (next_on x d g o)) (trace_each Q f t (ready_step x g d o.steady o.numbers)),
)

trace_all : {P : St → Kind → Type 0} (Q : Call → Type 0) → ((z : St) (d : Kind) → Ready z → Plain z d → Q (on z d))
    → {x y : St} {cs : List Call} → Trace P x cs y → Ready x → All Q cs
trace_all Q f done g = tt
trace_all Q f (more {x = x} {d = d} o p t) g = (f x d g o, trace_all Q f t (ready_step x g d o.steady o.numbers))

trace_run : {P : St → Kind → Type 0} {x y : St} {cs : List Call} → Trace P x cs y → Ready x → Run (held x) cs
trace_run t g =
    record {
      threaded =
          record {
            lent = trace_each (λ h c. c.lent ≡ h) (λ z d o p. refl) t g;
            fits =
                trace_all Fits
                (λ z d gz o. record { numbers = o.numbers; image = sound_bytes z.u gz.sound; bus = gz.bus.bytes; storage = gz.storage.bytes }) t g;
          };
      kinds = trace_all (λ c. AnyStep c.kind) (λ z d gz o. o.kind) t g;
      high = trace_each (λ h c. High c.kind) (λ z d o p. o.high) t g;
    }

-- ---- the calls

abbrev high_cycle : Kind
high_cycle = cycle 1 0 0 1

plain_cycle : (x : St) → Plain x high_cycle
plain_cycle x =
    record {
      small = let r = (run_reu_cycle x.u x.m x.s true true 0 false).0 in omega (arith, step_most r.flag r.passed);
      numbers = (omega arith, omega arith, omega arith, omega arith);
      steady = tt;
      high = (omega arith, omega arith);
      kind = cycles;
    }

plain_write : (x : St) (r v : ℕ) → r < 65536 → v < 256 → Plain x (write r v)
plain_write x r v hr hv = record { small = omega arith; numbers = (hr, hv); steady = tt; high = tt; kind = writes tt }

-- j cycles, and one write to each register of a list, of the value that W has
cycles_from : ℕ → St → List Call
cycles_from zero x = []
cycles_from (suc j) x = on x high_cycle ∷ cycles_from j (step_of high_cycle x)

cycles_end : ℕ → St → St
cycles_end zero x = x
cycles_end (suc j) x = cycles_end j (step_of high_cycle x)

writes_from : (ℕ → ℕ) → List ℕ → St → List Call
writes_from W [] x = []
writes_from W (r ∷ rs) x = on x (write r (W r)) ∷ writes_from W rs (step_of (write r (W r)) x)

writes_end : (ℕ → ℕ) → List ℕ → St → St
writes_end W [] x = x
writes_end W (r ∷ rs) x = writes_end W rs (step_of (write r (W r)) x)

-- ---- the registers 2 to 8

abbrev the_seven : List ℕ
the_seven = 2 ∷ 3 ∷ 4 ∷ 5 ∷ 6 ∷ 7 ∷ 8 ∷ []

abbrev AllOfBlock : List ℕ → Type 0
AllOfBlock [] = Unit {0}
AllOfBlock (r ∷ rs) = OfBlock r × AllOfBlock rs

-- how often r stands in a list
abbrev times : ℕ → List ℕ → ℕ
times r [] = 0
times r (q ∷ qs) = bit_of (eqb q r) + times r qs

once : {r : ℕ} → Seven r → times r the_seven ≡ 1
once two = refl
once three = refl
once four = refl
once five = refl
once six = refl
once seven = refl
once eight = refl

seven_of_block : AllOfBlock the_seven
seven_of_block = omega arith

-- ---- counts of writes

count_append : (f : Call → Bool) (p q : List Call) → count f (p ++ q) ≡ count f p + count f q
count_append f [] q = sym (zero-add (count f q))
count_append f (c ∷ p) q = let h = count_append f p q in omega arith

and_false : (b : Bool) → bit_of (b && false) ≡ 0
and_false true = refl
and_false false = refl

cycles_count : (r j : ℕ) (x : St) → count (wrote r) (cycles_from j x) ≡ 0
unfolding cycles_from
cycles_count r zero x = refl
cycles_count r (suc j) x =
    let h = cycles_count r j (step_of high_cycle x) in omega (arith, and_false (accepts (on x high_cycle)))

writes_count : (W : ℕ → ℕ) → ((i : ℕ) → W i < 256) → (rs : List ℕ) → AllOfBlock rs → (r : ℕ) (x : St) → Ready x
    → count (wrote r) (writes_from W rs x) ≡ times r rs
unfolding writes_from
writes_count W small [] al r x g = refl
writes_count W small (q ∷ rs) al r x g =
    let o = plain_write x q (W q) (omega arith) (small q) in
    let h = writes_count W small rs al.1 r (step_of (write q (W q)) x) (ready_step x g (write q (W q)) o.steady o.numbers) in
    let same : register q ≡ q = omega arith in
    let one : bit_of (wrote r (on x (write q (W q)))) ≡ bit_of (eqb q r)
    = written_at r (on x (write q (W q))) (accepted x (write q (W q)) g o) ∙ ap (λ (i : ℕ). bit_of (eqb i r)) same in
    omega arith

-- ---- a swap to its end, and the seven writes

-- what holds at each call after the start
abbrev Swapped : St → St → Kind → Type 0
Swapped x y d = OnceEnded (Rewrites (held x)) (held y) (on y d)

abbrev OnlyCycles : St → Kind → Type 0
OnlyCycles y d = Step ⊥ NoWrite d

module _ (x : St) (ready : Ready x) (idl : Idling x) where
  abbrev W : ℕ → ℕ
  W = reg x.u

  abbrev n : ℕ
  n = len_of x.u

  abbrev swap : Kind
  swap = write command 0x92

  plain_swap : Plain x swap
  plain_swap = plain_write x command 0x92 (omega arith) (omega arith)

  abbrev x₂ : St
  x₂ = step_of swap x

  ready₂ : Ready x₂
  ready₂ = ready_step x ready swap plain_swap.steady plain_swap.numbers

  begun : next (held x) (on x swap) ≡ held x₂
  begun = next_on x swap ready plain_swap

  swap_cycle : (k : ℕ) (g : ℕ → ℕ) (y : St) → Ready y → SwapFrom x ready k g y → k < 2 * n → SwapFrom x ready (suc k) g (step_of high_cycle y)
  swap_cycle k g y gy pr lt =
      let o = plain_cycle y in
      let gr : bit_of (eqb (grant_of high_cycle (held y)) 2) ≡ 1
      = granted_bit y gy.sound 1 0 0 1 (ready_number y gy high_cycle tt) ∙ ap (λ (q : ReuBusAction). bit_of (eqb (action_number q) 2)) (granted_from x ready k g y 0 gy.sound pr lt) in
      subst₂ (λ (q : ℕ) (f : ℕ → ℕ). SwapFrom x ready q f (step_of high_cycle y)) (omega arith) (fun_ext (λ r. zero-add (g r)))
      (step_from x ready k g y high_cycle gy.sound (ready_number y gy high_cycle tt) o.numbers (o.high, cycles) pr)

  cycles_trace : (j k : ℕ) (g : ℕ → ℕ) (y : St) → Ready y → SwapFrom x ready k g y → j + k ≤ 2 * n
      → Trace OnlyCycles y (cycles_from j y) (cycles_end j y) × SwapFrom x ready (j + k) g (cycles_end j y)
  unfolding cycles_from cycles_end
  cycles_trace zero k g y gy pr h = (done, subst (λ (q : ℕ). SwapFrom x ready q g y) (sym (zero-add k)) pr)
  cycles_trace (suc j) k g y gy pr h =
      let o = plain_cycle y in
      let rest = cycles_trace j (suc k) g (step_of high_cycle y) (ready_step y gy high_cycle o.steady o.numbers) (swap_cycle k g y gy pr (omega arith)) (omega arith) in
      (more o cycles rest.0, subst (λ (q : ℕ). SwapFrom x ready q g (cycles_end j (step_of high_cycle y))) (omega arith) rest.1)

  -- once it is over
  writes_trace : (rs : List ℕ) → AllOfBlock rs → (k : ℕ) (g : ℕ → ℕ) (y : St) → Ready y → SwapFrom x ready k g y → k ≡ 2 * n
      → Trace (Swapped x) y (writes_from W rs y) (writes_end W rs y) × ((f : ℕ → ℕ) × SwapFrom x ready k f (writes_end W rs y))
  unfolding writes_from writes_end
  writes_trace [] al k g y gy pr all = (done, (g, pr))
  writes_trace (r ∷ rs) al k g y gy pr all =
      let d = write r (W r) in
      let o = plain_write y r (W r) (omega arith) (ready.sound.regs.fits r).byte in
      let same : register r ≡ r = omega arith in
      let ended : Ended (held y) = ended_from x ready k g y gy.sound pr all in
      let allowed : Allowed W r (W r) = (omega arith, subst (λ (q : ℕ). Value W q (W r)) (sym same) (refl, λ ne. refl)) in
      let shown : Rewrites (held x) r (W r)
      = (omega arith, inr (sym (debug_value x ready.sound r (omega arith)) ∙ ap (reu_debug_register (held x).image) (sym same))) in
      let next-pr = step_from x ready k g y d gy.sound (ready_number y gy d tt) o.numbers (tt, writes (ended, allowed)) pr in
      let rest = writes_trace rs al.1 k (λ i. bit_of (writes_to i d) + g i) (step_of d y) (ready_step y gy d o.steady o.numbers)
      (subst (λ (q : ℕ). SwapFrom x ready q (λ i. bit_of (writes_to i d) + g i) (step_of d y)) (zero-add k) next-pr) all in
      (more o (writes (ended, shown)) rest.0, rest.1)

  swapped : Trace OnlyCycles x₂ (cycles_from (2 * n) x₂) (cycles_end (2 * n) x₂) × SwapFrom x ready (2 * n + 0) (λ r. 0) (cycles_end (2 * n) x₂)
  swapped = cycles_trace (2 * n) 0 (λ r. 0) x₂ ready₂ (begins x ready idl (swaps refl refl refl refl)) (omega arith)

  abbrev y₁ : St
  y₁ = cycles_end (2 * n) x₂

  ready_y : Ready y₁
  ready_y = trace_ready swapped.0 ready₂

  ended_y : Ended (held y₁)
  ended_y = ended_from x ready (2 * n + 0) (λ r. 0) y₁ ready_y.sound swapped.1 (omega arith)

  abbrev x₃ : St
  x₃ = writes_end W the_seven y₁

  written : Trace (Swapped x) y₁ (writes_from W the_seven y₁) x₃ × ((f : ℕ → ℕ) × SwapFrom x ready (2 * n + 0) f x₃)
  written = writes_trace the_seven seven_of_block (2 * n + 0) (λ r. 0) y₁ ready_y swapped.1 (omega arith)

  ready₃ : Ready x₃
  ready₃ = trace_ready written.0 ready_y

  ended₃ : Ended (held x₃)
  ended₃ = ended_from x ready (2 * n + 0) written.1.0 x₃ ready₃.sound written.1.1 (omega arith)

  idling₃ : Idling x₃
  idling₃ =
      let o = over_from x ready (2 * n + 0) written.1.0 x₃ ready₃.sound written.1.1 ended₃ in
      record { idle = o.quiet.idle; attached = o.quiet.attached; free = o.free }

  abbrev between : List Call
  between = cycles_from (2 * n) x₂ ++ writes_from W the_seven y₁

  between_trace : Trace (Swapped x) x₂ between x₃
  between_trace = join (relax (λ z d i. widen (λ none. absurd none) (λ a v none. absurd none) i) swapped.0) written.0

  each_one : (r : ℕ) → OfBlock r → count (wrote r) between ≡ 1
  each_one r b =
      count_append (wrote r) (cycles_from (2 * n) x₂) (writes_from W the_seven y₁)
      ∙ (λ i. cycles_count r (2 * n) x₂ i + writes_count W (λ i. (ready.sound.regs.fits i).byte) the_seven seven_of_block r y₁ ready_y i)
      ∙ zero-add (times r the_seven) ∙ once (is_seven r b.0 b.1)

-- ---- run A

module _ (x : St) (ready : Ready x) (idl : Idling x) where
  abbrev z : St
  z = x₃ x ready idl

  gz : Ready z
  gz = ready₃ x ready idl

  iz : Idling z
  iz = idling₃ x ready idl

  abbrev parts : Parts
  parts =
      record {
        before = [];
        start = on x (swap x ready idl);
        middle = between x ready idl;
        restart = on z (swap z gz iz);
        last = cycles_from (2 * n z gz iz) (x₂ z gz iz);
      }

  at_restart_lem : at_restart (held x) parts ≡ held z
  at_restart_lem = ap (λ (h : Held). after h (between x ready idl)) (begun x ready idl) ∙ trace_after (between_trace x ready idl) (ready₂ x ready idl)

  restarted_is : next (at_restart (held x) parts) parts.restart ≡ held (x₂ z gz iz)
  restarted_is = ap (λ (h : Held). next h parts.restart) at_restart_lem ∙ begun z gz iz

  whole : Trace (λ y d. Unit {0}) x (list_of parts) (y₁ z gz iz)
  whole =
      more (plain_swap x ready idl) tt
      (join (relax (λ y d i. tt) (between_trace x ready idl))
      (more (plain_swap z gz iz) tt (relax (λ y d i. tt) (swapped z gz iz).0)))

  run_a : RunA (held x) parts
  run_a =
      record {
        run = trace_run whole ready;
        before = tt;
        first =
            record {
              accepted = accepted x (swap x ready idl) ready (plain_swap x ready idl);
              starts = swaps refl refl refl refl;
              then =
                  subst (λ (h : Held). Each (OnceEnded (Rewrites (held x))) h (between x ready idl)) (sym (begun x ready idl))
                  (trace_each (OnceEnded (Rewrites (held x))) (λ y d o i. i) (between_trace x ready idl) (ready₂ x ready idl));
              ends = subst Ended (sym at_restart_lem) (ended₃ x ready idl);
            };
        each_once = each_one x ready idl;
        second =
            record {
              accepted = accepted z (swap z gz iz) gz (plain_swap z gz iz);
              starts = swaps refl refl refl refl;
              then =
                  subst (λ (h : Held). Each (OnceEnded NoWrite) h parts.last) (sym restarted_is)
                  (trace_each (OnceEnded NoWrite) (λ y d o i. widen (λ none. absurd none) (λ a v none. absurd none) i) (swapped z gz iz).0 (ready₂ z gz iz));
              ends =
                  subst Ended (sym (ap (λ (h : Held). after h parts.last) restarted_is ∙ trace_after (swapped z gz iz).0 (ready₂ z gz iz))) (ended_y z gz iz);
            };
      }

pub some_a : (k : Held) → Start k → (p : Parts) × RunA k p
some_a k st =
    subst (λ (h : Held). (p : Parts) × RunA h p) (opened_is k st.can)
    (parts (opened k) (opened_ready k st.can) (opened_idling k st), run_a (opened k) (opened_ready k st.can) (opened_idling k st))

-- ---- run B

stays : (x : St) (d : Kind) → Ready x → Plain x d → (step_of d x).u.dma ≡ None → IsIdle (leaves (on x d))
stays x d g o e =
    ap (λ (h : Held). byte h transfer_byte) (leaves_is x g.sound d (ready_number x g d o.steady)) ∙ present_byte (step_of d x) (ready_step x g d o.steady o.numbers).sound ∙ ap present e

module _ (x : St) (ready : Ready x) (idle : x.u.dma ≡ None) where
  first : Plain x (read 0)
  unfolding read_register
  first = let b : reg x.u 0 < 256 = (ready.sound.regs.fits 0).byte in record { small = omega arith; numbers = omega arith; steady = tt; high = tt; kind = reads tt }

  abbrev b₁ : St
  b₁ = step_of (read 0) x

  ready_1 : Ready b₁
  ready_1 = ready_step x ready (read 0) first.steady first.numbers

  idle_1 : b₁.u.dma ≡ None
  unfolding read_register
  idle_1 = idle

  second : Plain b₁ (write 2 0)
  second = plain_write b₁ 2 0 (omega arith) (omega arith)

  abbrev b₂ : St
  b₂ = step_of (write 2 0) b₁

  ready_2 : Ready b₂
  ready_2 = ready_step b₁ ready_1 (write 2 0) second.steady second.numbers

  idle_2 : b₂.u.dma ≡ None
  unfolding write_register
  idle_2 = idle_1

  third : Plain b₂ high_cycle
  third = plain_cycle b₂

  idle_3 : (step_of high_cycle b₂).u.dma ≡ None
  idle_3 = (idle_high b₂ 1 0 0 1 third.high idle_2).kept.dma

  abbrev three_calls : List Call
  three_calls = on x (read 0) ∷ on b₁ (write 2 0) ∷ on b₂ high_cycle ∷ []

  trace_b : Trace (λ y d. IsIdle (leaves (on y d))) x three_calls (step_of high_cycle b₂)
  trace_b =
      more first (stays x (read 0) ready first idle_1)
      (more second (stays b₁ (write 2 0) ready_1 second idle_2) (more third (stays b₂ high_cycle ready_2 third idle_3) done))

  run_b : RunB (held x) three_calls
  run_b = record { run = trace_run trace_b ready; stays_idle = trace_each (λ h c. IsIdle (leaves c)) (λ y d o i. i) trace_b ready }

  all_accepted : All (λ c. accepts c ≡ true) three_calls
  all_accepted = trace_all (λ c. accepts c ≡ true) (λ y d g o. accepted y d g o) trace_b ready

pub some_b : (k : Held) → Start k
    → (calls : List Call) × RunB k calls × All (λ c. accepts c ≡ true) calls × (map (λ c. c.kind) calls ≡ read 0 ∷ write 2 0 ∷ cycle 1 0 0 1 ∷ [])
some_b k st =
    let x = opened k in
    let g = opened_ready k st.can in
    let i = (opened_idling k st).idle in
    (three_calls x g i, subst (λ (h : Held). RunB h (three_calls x g i)) (opened_is k st.can) (run_b x g i), all_accepted x g i, refl)
