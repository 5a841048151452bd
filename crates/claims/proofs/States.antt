-- The state behind the buffers, a controller with its bus and storage; what an accepted call does to it, and that it stays sound.
use Prim.Native.Nat.{ℕ}
use mathlib.Core.Path.{◌≡◌, refl, sym, ap, ◌∙◌, subst}
use mathlib.Core.List.{List}
use lib.ListN.{length, length-set, length-replicate}
use Rattle.controller.specs.declared.reu.Reu.{Reu}
use Rattle.transfer.specs.Bytes.{bit_of}
use Rattle.transfer.specs.Constants.{bus_size}
use Rattle.transfer.specs.Memory.{zeros}
use Rattle.controller.specs.Refusals.{refusal_of, size_refusal}
use Rattle.controller.proofs.Checked.{size_accepted}
use Rattle.controller.specs.Registers.{read_register, write_register, debug_register as core_debug_register}
use Rattle.controller.specs.Timing.{c64_access as core_c64_access}
use Rattle.transfer.specs.Dma.{active}
use Rattle.controller.specs.StartDma.{trigger_ff00 as core_trigger_ff00}
use Rattle.controller.specs.Enable.{new_reu, reset_reu, set_size as core_set_size, set_enabled as core_set_enabled}
use Rattle.controller.specs.BusAction.{bus_action as core_bus_action, cpu_ready_after_dma}
use Rattle.controller.specs.TickDma.{Ticked, tick_dma as core_tick_dma}
use Rattle.controller.specs.Cycle.{run_reu_cycle}
use Rattle.controller.specs.Calls.{capacity, step_number}
use Rattle.transfer.specs.Timing.{action_number, access_number}
use Rattle.image.specs.Layout.{pack_image}
use Rattle.image.specs.Valid.{Bytes}
use Rattle.reu.specs.Exports.{flag}
use Rattle.claims.specs.Calls.{Held, Other, new, reset, set_size, set_enabled, storage_present, capacity_bytes, trigger_ff00, dma_active, bus_action, cpu_ready, debug_register, c64_access, tick_dma, Kind, read, write, cycle, other, NumbersFit, Call}
use Rattle.image.proofs.Sound.{Sound}
use Rattle.image.proofs.SoundCalls.{Memory, bytes_memory, SoundState, sound_cycle, sound_new, sound_fresh, sound_size, sound_trigger, sound_read, sound_write, sound_grant, sound_enabled, sound_tick_dma}
use Rattle.claims.proofs.NumberLaw.{Numbers, read_keeps, switch_keeps, grant_keeps, tick_keeps, cycle_counts, trigger_zeroes, write_zeroes}

pub record St : Type 0 where
  pub u : Reu
  pub m : List ℕ
  pub s : List ℕ

-- a sound controller, with memories of which P and Q hold; with bytes; and with memories that no call refuses
abbrev With : (List ℕ → Type 0) → (List ℕ → Type 0) → St → Type 0
With P Q x = SoundState P Q x.u x.m x.s

abbrev pub Good : St → Type 0
Good x = With Bytes Bytes x

pub record Sized (n : ℕ) (l : List ℕ) : Type 0 where
  pub bytes : Bytes l
  pub size : length l ≡ n

abbrev pub Ready : St → Type 0
Ready x = With (Sized bus_size) (Sized x.u.size) x

abbrev pub held : St → Held
held x = record { image = pack_image x.u; bus = x.m; storage = x.s }

-- a call made on what a state holds
abbrev pub on : St → Kind → Call
on x k = record { kind = k; lent = held x }

pub ready_of : (x : St) → Good x → length x.m ≡ bus_size → length x.s ≡ x.u.size → Ready x
ready_of x g hm hs =
    record { sound = g.sound; bus = record { bytes = g.bus; size = hm }; storage = record { bytes = g.storage; size = hs } }

pub good_of : (x : St) → Ready x → Good x
good_of x r = record { sound = r.sound; bus = r.bus.bytes; storage = r.storage.bytes }

-- ---- what an accepted call does: its value, the size that it sets, the controller that it leaves, with the storage, with both memories

pub data Act : Type 0 where
  looks : ℕ → Act
  sizes : ℕ → Act
  changes : ℕ → Reu → Act
  stores : ℕ → Reu → List ℕ → Act
  moves : ℕ → Reu → List ℕ → List ℕ → Act

abbrev pub ticks : Ticked → Act
ticks t = moves (step_number t.0.flag t.0.passed) t.0.reu t.1 t.2

abbrev pub other_act : Other → St → Act
other_act new x = changes 0 new_reu
other_act (reset h) x = changes 0 (reset_reu x.u)
other_act (set_size n) x = sizes n
other_act (set_enabled e) x = let p = core_set_enabled x.u x.s (flag e) in stores 0 p.0 p.1
other_act storage_present x = looks (bit_of x.u.attached)
other_act capacity_bytes x = looks (capacity x.u)
other_act trigger_ff00 x = changes 0 (core_trigger_ff00 x.u)
other_act dma_active x = looks (bit_of (active x.u.dma))
other_act (bus_action h p n) x =
    let g = core_bus_action x.u x.s (flag h) (flag p) n in stores (action_number g.0.action) g.0.reu g.1
other_act (cpu_ready h) x = let r = cpu_ready_after_dma x.u (flag h) in changes (bit_of r.value) r.reu
other_act (debug_register i) x = looks (core_debug_register x.u i)
other_act c64_access x = looks (access_number (core_c64_access x.u))
other_act (tick_dma n l) x = ticks (core_tick_dma x.u x.m x.s n (flag l))

abbrev pub act : Kind → St → Act
act (read a) x = let r = read_register x.u a in changes r.value r.reu
act (write a v) x = changes 0 (write_register x.u a v)
act (cycle h n l p) x = ticks (run_reu_cycle x.u x.m x.s (flag h) (flag p) n (flag l))
act (other o) x = other_act o x

abbrev pub value_by : Act → ℕ
value_by (looks v) = v
value_by (sizes n) = 0
value_by (changes v w) = v
value_by (stores v w t) = v
value_by (moves v w b t) = v

abbrev pub left_by : St → Act → St
left_by x (looks v) = x
left_by x (sizes n) = record { u = core_set_size x.u n; m = x.m; s = x.s }
left_by x (changes v w) = record { u = w; m = x.m; s = x.s }
left_by x (stores v w t) = record { u = w; m = x.m; s = t }
left_by x (moves v w b t) = record { u = w; m = b; s = t }

-- the refusal number that the call is tested for, by what it is lent
abbrev pub number_by : St → Act → ℕ
number_by x (looks v) = refusal_of x.u bus_size x.u.size
number_by x (sizes n) = size_refusal x.u n
number_by x (changes v w) = refusal_of x.u bus_size x.u.size
number_by x (stores v w t) = refusal_of x.u bus_size (length x.s)
number_by x (moves v w b t) = refusal_of x.u (length x.m) (length x.s)

abbrev pub value_of : Kind → St → ℕ
value_of k x = value_by (act k x)

abbrev pub step_of : Kind → St → St
step_of k x = left_by x (act k x)

abbrev pub number_of : Kind → St → ℕ
number_of k x = number_by x (act k x)

-- ---- it leaves a sound controller, and such memories

module _ (P Q : List ℕ → Type 0) (p : Memory P) (q : Memory Q) where
  abbrev Leaves : St → Act → Type 0
  Leaves x (looks v) = Unit {0}
  Leaves x (sizes n) = Sound (core_set_size x.u n)
  Leaves x (changes v w) = Sound w
  Leaves x (stores v w t) = SoundState P Q w x.m t
  Leaves x (moves v w b t) = SoundState P Q w b t

  left : (x : St) (a : Act) → With P Q x → Leaves x a → With P Q (left_by x a)
  left x (looks v) g h = g
  left x (sizes n) g h = record { sound = h; bus = g.bus; storage = g.storage }
  left x (changes v w) g h = record { sound = h; bus = g.bus; storage = g.storage }
  left x (stores v w t) g h = h
  left x (moves v w b t) g h = h

  module _ (x : St) (g : With P Q x) where
    other_leaves : (o : Other) → number_of (other o) x ≡ 0 → Leaves x (other_act o x)
    other_leaves new z = sound_new
    other_leaves (reset h) z = sound_fresh x.u.enabled x.u.attached x.u.size g.sound.size
    other_leaves (set_size n) z = sound_size x.u n g.sound (size_accepted x.u _ n refl z)
    other_leaves (set_enabled e) z = sound_enabled P Q p q x.u x.m x.s g (flag e)
    other_leaves storage_present z = tt
    other_leaves capacity_bytes z = tt
    other_leaves trigger_ff00 z = sound_trigger x.u g.sound
    other_leaves dma_active z = tt
    other_leaves (bus_action h i n) z = sound_grant P Q p q x.u x.m x.s g (flag h) (flag i) n
    other_leaves (cpu_ready h) z = g.sound
    other_leaves (debug_register i) z = tt
    other_leaves c64_access z = tt
    other_leaves (tick_dma n l) z = sound_tick_dma P Q p q x.u x.m x.s g n (flag l)

    leaves : (k : Kind) → number_of k x ≡ 0 → NumbersFit k → Leaves x (act k x)
    leaves (read a) z f = sound_read x.u a g.sound
    leaves (write a v) z f = sound_write x.u a v g.sound f.1
    leaves (cycle h n l i) z f = sound_cycle P Q p q x.u x.m x.s g (flag h) (flag i) n (flag l)
    leaves (other o) z f = other_leaves o z

    step : (k : Kind) → number_of k x ≡ 0 → NumbersFit k → With P Q (step_of k x)
    step k z f = left x (act k x) g (leaves k z f)

pub good_step : (x : St) → Good x → (k : Kind) → number_of k x ≡ 0 → NumbersFit k → Good (step_of k x)
good_step = step Bytes Bytes bytes_memory bytes_memory

sized_memory : (n : ℕ) → Memory (Sized n)
unfolding zeros
sized_memory n =
    record {
      bytes = λ l h. h.bytes;
      stored = λ l i v hv h. record { bytes = bytes_memory.stored l i v hv h.bytes; size = length-set l i v ∙ h.size };
      cleared = λ l h. record { bytes = bytes_memory.cleared l h.bytes; size = length-replicate (length l) 0 ∙ h.size };
    }

-- a call that sets no size: neither new nor set_size
abbrev SteadyOther : Other → Type 0
SteadyOther new = ⊥
SteadyOther (reset h) = Unit {0}
SteadyOther (set_size n) = ⊥
SteadyOther (set_enabled e) = Unit {0}
SteadyOther storage_present = Unit {0}
SteadyOther capacity_bytes = Unit {0}
SteadyOther trigger_ff00 = Unit {0}
SteadyOther dma_active = Unit {0}
SteadyOther (bus_action h i n) = Unit {0}
SteadyOther (cpu_ready h) = Unit {0}
SteadyOther (debug_register i) = Unit {0}
SteadyOther c64_access = Unit {0}
SteadyOther (tick_dma n l) = Unit {0}

abbrev pub Steady : Kind → Type 0
Steady (read a) = Unit {0}
Steady (write a v) = Unit {0}
Steady (cycle h n l i) = Unit {0}
Steady (other o) = SteadyOther o

-- it keeps the size
abbrev size_at : Numbers → ℕ
size_at p = p.1

other_size : (o : Other) (x : St) → SteadyOther o → (step_of (other o) x).u.size ≡ x.u.size
other_size new x none = absurd none
other_size (reset h) x s = refl
other_size (set_size n) x none = absurd none
other_size (set_enabled e) x s = ap size_at (switch_keeps x.u x.s (flag e))
other_size storage_present x s = refl
other_size capacity_bytes x s = refl
other_size trigger_ff00 x s = ap size_at (trigger_zeroes x.u)
other_size dma_active x s = refl
other_size (bus_action h i n) x s = ap size_at (grant_keeps x.u x.s (flag h) (flag i) n)
other_size (cpu_ready h) x s = refl
other_size (debug_register i) x s = refl
other_size c64_access x s = refl
other_size (tick_dma n l) x s = ap size_at (tick_keeps x.u x.m x.s n (flag l))

pub keeps_size : (k : Kind) (x : St) → Steady k → (step_of k x).u.size ≡ x.u.size
keeps_size (read a) x s = ap size_at (read_keeps x.u a)
keeps_size (write a v) x s = ap size_at (write_zeroes x.u a v)
keeps_size (cycle h n l i) x s = ap size_at (cycle_counts x.u x.m x.s (flag h) (flag i) n (flag l))
keeps_size (other o) x s = other_size o x s

-- so memories that no call refuses are such after it
pub ready_left : (x : St) → Ready x → (k : Kind) → Steady k → number_of k x ≡ 0 → NumbersFit k → Ready (step_of k x)
ready_left x r k s z f =
    subst (λ (n : ℕ). With (Sized bus_size) (Sized n) (step_of k x)) (sym (keeps_size k x s))
    (step (Sized bus_size) (Sized x.u.size) (sized_memory bus_size) (sized_memory x.u.size) x r k z f)

-- a cycle call leaves a state that no call refuses, even where its numbers do not fit
pub cycle_left : (x : St) → Ready x → (h n l i : ℕ) → Ready (step_of (cycle h n l i) x)
cycle_left x r h n l i =
    subst (λ (k : ℕ). With (Sized bus_size) (Sized k) (step_of (cycle h n l i) x)) (sym (keeps_size (cycle h n l i) x tt))
    (sound_cycle (Sized bus_size) (Sized x.u.size) (sized_memory bus_size) (sized_memory x.u.size) x.u x.m x.s r (flag h) (flag i) n (flag l))
