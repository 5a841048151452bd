-- The visible counters, the interrupt, and the end of a command.
use Rattle.std.specs.Prelude.{◌||◌, ◌∷◌}
use Rattle.controller.specs.Prelude.{Bool, [], DmaState, None, Reu}
use Rattle.transfer.specs.Constants.{interrupt}
use Rattle.transfer.specs.Bytes.{ones}
use Rattle.regs.specs.FinishDma.{irq_due, marked, counters, finished, stores_at_end}
use Rattle.regs.specs.Stores.{Stores, listed, made}
use Rattle.controller.specs.Reu.{with_regs, with_irq, with_dma}

-- evaluating only ever raises
unfoldable pub update_irq : Reu → Reu
update_irq u =
    with_irq (with_regs u (marked u.regs (ones (interrupt ∷ [])) (irq_due u.regs))) (irq_due u.regs || u.irq_pending)

unfoldable pub publish_live_counters : Reu → DmaState → Reu
publish_live_counters u d = with_regs u (counters u.regs d.c64_addr.0 d.reu_addr.0 d.remaining)

-- "Finish: bit 6 if the block ended; COMMAND AND $7F OR $10; .. then the interrupt is evaluated", which looks at no counter
unfoldable pub finish_dma : Reu → Bool → Reu
finish_dma u ended = update_irq (with_dma (with_regs u (finished u.regs ended)) None)

-- "with Autoload the seven .. registers come from the shadows": what is stored at the end of a command
abbrev pub autoload_stores : Reu → Bool → Stores
autoload_stores u autoload = stores_at_end autoload u.shadow_c64_addr u.shadow_reu_addr u.shadow_len

-- a controller whose registers are stored
abbrev pub with_stores : Reu → Stores → Reu
with_stores u x = with_regs u (made (listed x) u.regs)
