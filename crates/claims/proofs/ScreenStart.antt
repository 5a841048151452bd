-- The start of a swap by COMMAND or by FF00, and what is held before each of the cycle calls that follow.
use Prim.Native.Nat.{ℕ, zero, suc, ◌/◌, ◌%◌, ◌<◌}
use mathlib.Core.Path.{◌≡◌, refl, sym, ap, ◌∙◌, subst}
use native.Mathlib.Omega.{arith}
use Rattle.transfer.specs.Bytes.{bit}
use Rattle.transfer.proofs.Bits.{bit_one}
use Rattle.controller.specs.Reu.{reg}
use Rattle.reu.specs.Exports.{flag}
use Rattle.claims.specs.Constants.{flags_byte}
use Rattle.claims.specs.Calls.{Held, Kind, does}
use Rattle.claims.specs.SwapTwice.{byte, swaps}
use Rattle.claims.specs.SwapOnScreen.{Starts, by_command, by_ff00, SwapStart, ScreenTime, cycle_of, held_at, Accepts, Runs, left}
use Rattle.claims.proofs.RegisterLaw.{Begun, start_law, trigger_law}
use Rattle.claims.proofs.States.{St, held, step_of, value_of, number_of, Steady, keeps_size, Ready, cycle_left}
use Rattle.controller.proofs.Checked.{step_most}
use Rattle.controller.specs.Cycle.{run_reu_cycle}
use Rattle.reu.specs.Exports.{refusal_unit}
use Rattle.claims.proofs.Accepted.{leaves_is, is_accepted, ready_number, ready_step}
use Rattle.claims.proofs.Look.{one_bit, reg_byte, armed_bit, left_some, opened, opened_ready, opened_is, opened_attached, opened_free}
use Rattle.claims.proofs.Swap.{len_of}
use Rattle.claims.proofs.BaSwap.{Going}

-- ---- the start

-- from x to y a swap of the block of x's registers has started, and no memory has changed
pub record Began (x y : St) : Type 0 where
  pub value : ℕ
  pub begun : Begun x.u value y.u
  pub runs : value / 128 % 2 ≡ 1
  pub bus : y.m ≡ x.m
  pub storage : y.s ≡ x.s

starts_steady : {k : Held} {d : Kind} → Starts k d → Steady d
starts_steady (by_command (swaps one type now go)) = tt
starts_steady (by_ff00 a) = tt

module _ (k : Held) (d : Kind) (st : SwapStart k d) where
  -- the controller that k opens as, and after the start
  unfoldable pub opens : St
  opens = opened k

  pub opens_ready : Ready opens
  unfolding opens
  opens_ready = opened_ready k st.can

  pub opens_is : held opens ≡ k
  unfolding opens
  opens_is = opened_is k st.can

  register : (i : ℕ) → i < 11 → reg opens.u i ≡ byte k i
  register i h = sym (reg_byte opens opens_ready.sound i h) ∙ ap (λ (l : Held). byte l i) opens_is

  armed : bit (byte k flags_byte) 3 ≡ opens.u.waiting_ff00
  armed = ap (λ (l : Held). bit (byte l flags_byte) 3) (sym opens_is) ∙ armed_bit opens opens_ready.sound

  pub began : Began opens (step_of d opens)
  unfolding opens
  began = go st.starts
    where
      go : {e : Kind} → Starts k e → Began opens (step_of e opens)
      go (by_command (swaps {address = a} {value = v} one type now go')) =
          record {
            value = v;
            begun = start_law opens.u v opens_ready.sound.regs.len (opened_attached k st.can) (opened_free k st.can) type now go' a one;
            runs = bit_one v 7 go';
            bus = refl;
            storage = refl;
          }
      go (by_ff00 a) =
          record {
            value = reg opens.u 1;
            begun =
                trigger_law opens.u (opened_attached k st.can) (opened_free k st.can) (ap (λ (v : ℕ). v % 4) (register 1 (omega arith)) ∙ a.swap)
                (sym armed ∙ a.armed) (ap (λ (v : ℕ). bit v 7) (register 1 (omega arith)) ∙ a.executes);
            runs = bit_one (reg opens.u 1) 7 (ap (λ (v : ℕ). bit v 7) (register 1 (omega arith)) ∙ a.executes);
            bus = refl;
            storage = refl;
          }

  start_number : number_of d opens ≡ 0
  start_number = ready_number opens opens_ready d (starts_steady st.starts)

  pub start_accepted : Accepts d k
  start_accepted = subst (Accepts d) opens_is (is_accepted opens opens_ready.sound d start_number (small st.starts))
    where
      small : {e : Kind} → Starts k e → value_of e opens < refusal_unit
      small (by_command (swaps one type now go)) = omega arith
      small (by_ff00 a) = omega arith

  unfoldable pub first : St
  first = step_of d opens

  pub first_ready : Ready first
  unfolding first
  first_ready = ready_step opens opens_ready d (starts_steady st.starts) st.numbers

  pub first_size : first.u.size ≡ opens.u.size
  unfolding first
  first_size = keeps_size d opens (starts_steady st.starts)

  pub first_is : (does d k).left ≡ held first
  unfolding first
  first_is = ap (λ (h : Held). (does d h).left) (sym opens_is) ∙ leaves_is opens opens_ready.sound d start_number

  -- it runs, with all of the block left
  pub first_going : Going first
  unfolding first
  first_going = ap (λ (v : ℕ). v / 128 % 2) began.begun.command ∙ began.runs

  pub first_runs : Runs (held first)
  first_runs = ap (λ (v : ℕ). bit v 7) (reg_byte first first_ready.sound 1 (omega arith)) ∙ one_bit (reg first.u 1) 7 first_going

  pub first_left : left (held first) ≡ len_of opens.u
  unfolding first
  first_left = left_some first first_ready.sound _ began.begun.reading.stands.transfer

-- ---- what is held before each call

module _ (t : ScreenTime) (st : SwapStart t.before t.start) where
  unfoldable pub state : ℕ → St
  state zero = first t.before t.start st
  state (suc i) = step_of (cycle_of (t.told i)) (state i)

  pub state_ready : (i : ℕ) → Ready (state i)
  unfolding state
  state_ready zero = first_ready t.before t.start st
  state_ready (suc i) = let c = t.told i in cycle_left (state i) (state_ready i) c.high c.number c.low c.phi1

  pub state_size : (i : ℕ) → (state i).u.size ≡ (opens t.before t.start st).u.size
  unfolding state
  state_size zero = first_size t.before t.start st
  state_size (suc i) = keeps_size (cycle_of (t.told i)) (state i) tt ∙ state_size i

  state_number : (i : ℕ) → number_of (cycle_of (t.told i)) (state i) ≡ 0
  state_number i = ready_number (state i) (state_ready i) (cycle_of (t.told i)) tt

  pub state_is : (i : ℕ) → held_at t i ≡ held (state i)
  unfolding held_at state
  state_is zero = first_is t.before t.start st
  state_is (suc i) =
      ap (λ (h : Held). (does (cycle_of (t.told i)) h).left) (state_is i)
      ∙ leaves_is (state i) (state_ready i).sound (cycle_of (t.told i)) (state_number i)

  -- none is refused
  pub accepted : (i : ℕ) → Accepts t.start t.before × Accepts (cycle_of (t.told i)) (held_at t i)
  accepted i = (
    start_accepted t.before t.start st,
    subst (Accepts (cycle_of (t.told i))) (sym (state_is i)) (is_accepted (state i) (state_ready i).sound (cycle_of (t.told i)) (state_number i) small),
  )
    where
      small : value_of (cycle_of (t.told i)) (state i) < refusal_unit
      small =
          let x = state i in
          let c = t.told i in
          let r = (run_reu_cycle x.u x.m x.s (flag c.high) (flag c.phi1) c.number (flag c.low)).0 in
          omega (arith, step_most r.flag r.passed)
