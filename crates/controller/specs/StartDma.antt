-- A start, at once or by the FF00 trigger.
use Rattle.std.specs.Prelude.{◌&&◌, ◌∷◌}
use Rattle.controller.specs.Prelude.{false, cond, [], Some, Reu}
use Rattle.transfer.specs.Constants.{status, command, version, execute}
use Rattle.transfer.specs.Bytes.{bit, clear_bits, keep_bits}
use Rattle.regs.specs.StartDma.{requested}
use Rattle.controller.specs.Reu.{reg, set_reg, with_irq, with_dma, with_granted, cleared}

-- "Without storage it then clears only bit 7 of COMMAND; .. With storage, STATUS is ANDed with $10 and the interrupt level falls".
-- L1: the count of granted cycles is "zero at .. every start that has storage"
unfoldable pub start_dma : Reu → Reu
start_dma u =
    cond u.attached
    (with_granted
    (with_dma (with_irq (set_reg (cleared u) status (keep_bits (version ∷ []) (reg u status))) false) (Some (requested u.regs)))
    0)
    (set_reg (cleared u) command (clear_bits (execute ∷ []) (reg u command)))

-- "the trigger also needs bit 7"
unfoldable pub trigger_ff00 : Reu → Reu
trigger_ff00 u = cond (u.waiting_ff00 && bit (reg u command) execute) (start_dma u) u
