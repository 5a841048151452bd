-- The visible counters, the interrupt, and what the end of a command leaves in the registers.
use Rattle.std.specs.Prelude.{◌&&◌, ◌||◌, ◌∷◌}
use Rattle.regs.specs.Prelude.{ℕ, Bool, cond, List, [], None, Some, bit_or, set}
use Rattle.transfer.specs.Constants.{status, command, interrupt_mask, verify_error, end_of_block, without_ff00, execute, enable_all}
use Rattle.transfer.specs.Bytes.{bit, ones, set_bits, clear_bits}
use Rattle.regs.specs.Registers.{held}
use Rattle.regs.specs.Stores.{Stores, counter_stores, made}

-- an event is enabled, and so are all: "Mask bits 5, 6, 7 enable verify, end of block, all"
abbrev pub irq_due : List ℕ → Bool
irq_due l =
    bit (held l interrupt_mask) enable_all
    && ((bit (held l status) end_of_block && bit (held l interrupt_mask) end_of_block)
    || (bit (held l status) verify_error && bit (held l interrupt_mask) verify_error))

-- STATUS with some bits set, if an event has come
abbrev pub marked : List ℕ → ℕ → Bool → List ℕ
marked l bits event = cond event (set l status (bit_or (held l status) bits)) l

-- "the seven address and length registers" from two addresses and a length
abbrev pub counters : List ℕ → ℕ → ℕ → ℕ → List ℕ
counters l c e n = made (counter_stores c e n) l

-- "Finish: bit 6 if the block ended; COMMAND AND $7F OR $10"
abbrev pub finished_status : List ℕ → Bool → List ℕ
finished_status l ended = marked l (ones (end_of_block ∷ [])) ended

abbrev pub finished_command : List ℕ → List ℕ
finished_command l = set l command (set_bits (without_ff00 ∷ []) (clear_bits (execute ∷ []) (held l command)))

abbrev pub finished : List ℕ → Bool → List ℕ
finished l ended = finished_command (finished_status l ended)

-- "with Autoload the seven .. registers come from the shadows", here c, e and n. L5: "stores each of registers 2 to 8 once, in that order,
-- with its shadow's byte"; "any other step hands out none"
abbrev pub stores_at_end : Bool → ℕ → ℕ → ℕ → Stores
stores_at_end autoload c e n = cond autoload (Some (counter_stores c e n)) None
