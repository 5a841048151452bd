-- The C64 side's next access.
use Rattle.controller.specs.Prelude.{ReuC64Access, Reu}
use Rattle.transfer.specs.Timing.{access_of}

unfoldable pub c64_access : Reu → ReuC64Access
c64_access u = access_of u.swap_refresh u.dma
