-- The sixteen exported calls, and lists of them. What a call answers and leaves is what the exported contracts cite.
use Rattle.std.specs.Prelude.{ℕ, ◌+◌, ◌^◌, ◌<◌, Bool, true, cond, ◌≡◌, List, [], ◌∷◌, length, ltb}
use Rattle.transfer.specs.declared.timing.ReuBusAction.TheVariants.{Cpu}
use Rattle.transfer.specs.Timing.{action_number}
use Rattle.image.specs.Valid.{Bytes}
use Rattle.reu.specs.Exports.{reu_new, reu_reset, reu_set_size, reu_set_enabled, reu_storage_present, reu_capacity_bytes, reu_trigger_ff00, reu_read, reu_write, reu_dma_active, reu_bus_action, reu_cpu_ready, reu_debug_register, reu_c64_access, reu_tick_dma, reu_cycle}
use Rattle.transfer.specs.Constants.{bus_size}
use Rattle.reu.specs.Exports.{refusal_unit}

-- ---- one call

-- the three buffers, between two calls
pub record Held : Type 0 where
  pub image : List ℕ
  pub bus : List ℕ
  pub storage : List ℕ

-- a bus and a storage that no call refuses where this size is set
pub record Memories (size : ℕ) (bus storage : List ℕ) : Type 0 where
  pub bus_bytes : Bytes bus
  pub storage_bytes : Bytes storage
  pub bus_length : length bus ≡ bus_size
  pub storage_size : length storage ≡ size

-- which call, with its numbers: the three that demand 3 speaks of, and the other thirteen
pub data Other : Type 0 where
  new : Other
  reset : (hard : ℕ) → Other
  set_size : (size : ℕ) → Other
  set_enabled : (enabled : ℕ) → Other
  storage_present : Other
  capacity_bytes : Other
  trigger_ff00 : Other
  dma_active : Other
  bus_action : (high phi1 number : ℕ) → Other
  cpu_ready : (high : ℕ) → Other
  debug_register : (index : ℕ) → Other
  c64_access : Other
  tick_dma : (number low : ℕ) → Other

pub data Kind : Type 0 where
  read : (address : ℕ) → Kind
  write : (address value : ℕ) → Kind
  cycle : (high number low phi1 : ℕ) → Kind
  other : Other → Kind

-- every number fits the argument that it is passed as; the other thirteen may be passed any
abbrev pub Bits : ℕ → ℕ → Type 0
Bits size n = n < 2 ^ size

abbrev pub NumbersFit : Kind → Type 0
NumbersFit (read address) = Bits 16 address
NumbersFit (write address value) = Bits 16 address × Bits 8 value
NumbersFit (cycle high number low phi1) = Bits 32 high × Bits 64 number × Bits 32 low × Bits 32 phi1
NumbersFit (other o) = Unit {0}

-- what a call answers, and what is in the buffers after it
pub record Done : Type 0 where
  pub answer : ℕ
  pub left : Held

-- a call that is lent the image to look at; the image; the image and the storage; all three
abbrev pub looked : Held → ℕ → Done
looked h n = record { answer = n; left = h }

abbrev pub on_image : Held → (ℕ × List ℕ) → Done
on_image h y = record { answer = y.0; left = record { image = y.1; bus = h.bus; storage = h.storage } }

abbrev pub on_storage : Held → (ℕ × List ℕ × List ℕ) → Done
on_storage h y = record { answer = y.0; left = record { image = y.1; bus = h.bus; storage = y.2 } }

abbrev pub on_both : (ℕ × List ℕ × List ℕ × List ℕ) → Done
on_both y = record { answer = y.0; left = record { image = y.1; bus = y.2; storage = y.3 } }

abbrev pub does_other : Other → Held → Done
does_other new h = on_image h (reu_new h.image)
does_other (reset hard) h = on_image h (reu_reset h.image hard)
does_other (set_size size) h = on_image h (reu_set_size h.image size)
does_other (set_enabled enabled) h = on_storage h (reu_set_enabled h.image h.storage enabled)
does_other storage_present h = looked h (reu_storage_present h.image)
does_other capacity_bytes h = looked h (reu_capacity_bytes h.image)
does_other trigger_ff00 h = on_image h (reu_trigger_ff00 h.image)
does_other dma_active h = looked h (reu_dma_active h.image)
does_other (bus_action high phi1 number) h = on_storage h (reu_bus_action h.image h.storage high phi1 number)
does_other (cpu_ready high) h = on_image h (reu_cpu_ready h.image high)
does_other (debug_register index) h = looked h (reu_debug_register h.image index)
does_other c64_access h = looked h (reu_c64_access h.image)
does_other (tick_dma number low) h = on_both (reu_tick_dma h.image h.bus h.storage number low)

abbrev pub does : Kind → Held → Done
does (read address) h = on_image h (reu_read h.image address)
does (write address value) h = on_image h (reu_write h.image address value)
does (cycle high number low phi1) h = on_both (reu_cycle h.image h.bus h.storage high number low phi1)
does (other o) h = does_other o h

-- the grant of a cycle, which is bus_action's answer; a call that is no cycle has none
abbrev pub grant_of : Kind → Held → ℕ
grant_of (read address) h = action_number Cpu
grant_of (write address value) h = action_number Cpu
grant_of (cycle high number low phi1) h = (reu_bus_action h.image h.storage high phi1 number).0
grant_of (other o) h = action_number Cpu

-- a call as it is made: on these buffers, of which it is lent those that its signature names; the others take no part
pub record Call : Type 0 where
  pub kind : Kind
  pub lent : Held

pub record Fits (c : Call) : Type 0 where
  pub numbers : NumbersFit c.kind
  pub image : Bytes c.lent.image
  pub bus : Bytes c.lent.bus
  pub storage : Bytes c.lent.storage

abbrev pub leaves : Call → Held
leaves c = (does c.kind c.lent).left

-- a refusal answers 16,777,216 or more, a value less
abbrev pub accepts : Call → Bool
accepts c = ltb (does c.kind c.lent).answer refusal_unit

-- ---- lists of calls

-- what is held after a call, and after a list of calls: a refused one takes no part
abbrev pub next : Held → Call → Held
next k c = cond (accepts c) (leaves c) k

abbrev pub after : Held → List Call → Held
after k [] = k
after k (c ∷ cs) = after (next k c) cs

-- P holds at each accepted call, of what is held when it comes
abbrev pub Each : (Held → Call → Type 0) → Held → List Call → Type 0
Each P k [] = Unit {0}
Each P k (c ∷ cs) = (accepts c ≡ true → P k c) × Each P (next k c) cs

-- P holds of each call, the refused ones too
abbrev pub All : (Call → Type 0) → List Call → Type 0
All P [] = Unit {0}
All P (c ∷ cs) = P c × All P cs

-- how many calls pass the test
abbrev pub count : (Call → Bool) → List Call → ℕ
count f [] = 0
count f (c ∷ cs) = cond (f c) 1 0 + count f cs

-- "each accepted call is given what the accepted ones before it in its run left, and nobody else writes";
-- a refused one may be lent anything
pub record Threaded (k : Held) (calls : List Call) : Type 0 where
  pub lent : Each (λ h c. c.lent ≡ h) k calls
  pub fits : All Fits calls
