-- L1: the count of granted cycles, over lists of calls. Quotations are L1's words.
use Rattle.std.specs.Prelude.{ℕ, ◌+◌, ◌*◌, ◌≤◌, Bool, true, false, cond, ◌&&◌, ◌≢◌, ◌≡◌, List, [], ◌∷◌, ◌++◌, eqb}
use Rattle.transfer.specs.Bytes.{bit, word}
use Rattle.transfer.specs.Constants.{new_size, command, without_ff00, execute}
use Rattle.controller.specs.Enable.{new_reu}
use Rattle.controller.specs.Cycle.{most_granted, capped}
use Rattle.image.specs.Layout.{pack_image}
use Rattle.image.specs.Open.{open_image}
use Rattle.image.specs.Valid.{Bytes}
use Rattle.claims.specs.Constants.{flags_byte, count_byte}
use Rattle.claims.specs.Calls.{Held, Memories, Other, new, reset, set_size, set_enabled, storage_present, capacity_bytes, trigger_ff00, dma_active, bus_action, cpu_ready, debug_register, c64_access, tick_dma, Kind, read, write, cycle, other, Call, accepts, after, count}
use Rattle.claims.specs.SwapTwice.{byte, register, granted}
use Rattle.claims.specs.SavedMachine.{OnOneImage}
use Rattle.claims.specs.Sessions.{begin, r4, r16, run}

-- L3: "the count at 33-36", the low byte first
abbrev pub number : Held → ℕ
number k =
    word (byte k count_byte) (byte k (count_byte + 1)) + 65536 * word (byte k (count_byte + 2)) (byte k (count_byte + 3))

-- ---- the calls that zero it, by the call and the image before it: "zero at new, reset and every start that has storage"

abbrev pub has_storage : Held → Bool
has_storage h = bit (byte h flags_byte) 2

abbrev pub zeroes_other : Other → Held → Bool
zeroes_other new h = true
zeroes_other (reset hard) h = true
zeroes_other (set_size size) h = false
zeroes_other (set_enabled enabled) h = false
zeroes_other storage_present h = false
zeroes_other capacity_bytes h = false
-- a command is armed, and has bit 7
zeroes_other trigger_ff00 h = has_storage h && (bit (byte h flags_byte) 3 && bit (byte h command) execute)
zeroes_other dma_active h = false
zeroes_other (bus_action high phi1 number) h = false
zeroes_other (cpu_ready high) h = false
zeroes_other (debug_register index) h = false
zeroes_other c64_access h = false
zeroes_other (tick_dma number low) h = false

abbrev pub zeroes_by : Kind → Held → Bool
zeroes_by (read address) h = false
-- COMMAND, with bits 7 and 4
zeroes_by (write address value) h = has_storage h && (eqb (register address) command && (bit value execute && bit value without_ff00))
zeroes_by (cycle high number low phi1) h = false
zeroes_by (other o) h = zeroes_other o h

abbrev pub zeroes : Call → Bool
zeroes c = accepts c && zeroes_by c.kind c.lent

-- the calls "since the last of these": behind it, or all where there is none
abbrev pub since : List Call → List Call
since [] = []
since (c ∷ cs) = cond (eqb (count zeroes (c ∷ cs)) 0) (c ∷ cs) (since cs)

-- ---- the claim

-- what the count is after some scripts, from "new, enabled", for a bus m and a storage s
pub record Counted (m s : List ℕ) : Type 0 where
  -- one cycle of a store; it stays at the end, and when the controller is disabled and enabled
  pub store : number (run m s r4) ≡ 1
  pub disabled : number (run m s (r4 ++ (other (set_enabled 0) ∷ other (set_enabled 1) ∷ []))) ≡ 1
  -- Transfer, Hold, Transfer, Transfer, Transfer
  pub held : number (run m s (begin 0 0 1 0x92 ++ r16)) ≡ 4
  -- arming keeps it, the start by FF00 zeroes it, and so does one by COMMAND, or reset
  pub armed : number (run m s (r4 ++ begin 0 0 1 0x80)) ≡ 1
  pub triggered : number (run m s (r4 ++ (begin 0 0 1 0x80 ++ (other trigger_ff00 ∷ [])))) ≡ 0
  pub started : number (run m s (r4 ++ begin 0 0 1 0x90)) ≡ 0
  pub renewed : number (run m s (r4 ++ (other (reset 0) ∷ []))) ≡ 0
  -- "direct ticks don't add to it"
  pub ticked : number (run m s (begin 0 0 1 0x90 ++ (other (tick_dma 0 0) ∷ []))) ≡ 0

-- of any of the sixteen calls, refused ones included, made one after another on one image
pub record GrantedCycles : Type 0 where
  -- "it equals the count of such calls since the last of these", and it is "held at 4,294,967,295"
  pub counts :
      (k : Held) (calls : List Call) → k.image ≡ pack_image new_reu → OnOneImage k calls
      → number (after k calls) ≡ capped (count granted (since calls))
  -- "below that" it is the count itself
  pub below :
      (k : Held) (calls : List Call) → k.image ≡ pack_image new_reu → OnOneImage k calls → count granted (since calls) ≤ most_granted
      → number (after k calls) ≡ count granted (since calls)
  -- from any accepted image it goes on from what it is there, until a call zeroes it
  pub goes_on :
      (k : Held) (calls : List Call) → Bytes k.image → (open_image k.image).refusal ≡ 0 → OnOneImage k calls
      → count zeroes calls ≡ 0 → number (after k calls) ≡ capped (number k + count granted calls)
  pub anew :
      (k : Held) (calls : List Call) → Bytes k.image → (open_image k.image).refusal ≡ 0 → OnOneImage k calls
      → count zeroes calls ≢ 0 → number (after k calls) ≡ capped (count granted (since calls))
  -- so at the top it stays, whatever is granted, until a call zeroes it; and then it counts from 0 again, as above
  pub stays :
      (k : Held) (calls : List Call) → Bytes k.image → (open_image k.image).refusal ≡ 0 → OnOneImage k calls
      → count zeroes calls ≡ 0 → number k ≡ most_granted → number (after k calls) ≡ most_granted
  pub some : (m s : List ℕ) → Memories new_size m s → Counted m s
