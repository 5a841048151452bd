-- What the definitions are written with: the library's numbers, truth values and lists, and the types that src/ declares. Nothing new is said here.
pub use Rattle.std.specs.Prelude.{Bool, true, false, Option, None, Some, List, [], ◌∷◌, ◌≡◌, ℕ, ◌+◌, ◌-◌, ◌*◌, ◌/◌, ◌%◌, ◌^◌, ◌≤◌, ◌<◌}
unfoldable pub use Rattle.std.proofs.Math.Bool.{not, ◌&&◌, ◌||◌, beq as bool_eq, cond}
unfoldable pub use Rattle.std.specs.Int.Bits.{bit_and, bit_or}
unfoldable pub use Rattle.std.proofs.Math.Dec.{eqb, ltb, leb}
unfoldable pub use Rattle.std.proofs.Math.ListN.{get_or, set, length, replicate}
pub use Rattle.transfer.specs.declared.memory.C64Address.{C64Address}
pub use Rattle.transfer.specs.declared.memory.ExpansionAddress.{ExpansionAddress}
pub use Rattle.transfer.specs.declared.memory.Offset.{Offset}
pub use Rattle.transfer.specs.declared.memory.Seen.{Seen}
pub use Rattle.transfer.specs.declared.memory.Put.{Put}
pub use Rattle.transfer.specs.declared.memory.Put.TheVariants.{Nothing, Bus, Storage}
pub use Rattle.transfer.specs.declared.dma.TransferType.{TransferType}
pub use Rattle.transfer.specs.declared.dma.TransferType.TheVariants.{Store, Recall, Swap, Verify}
pub use Rattle.transfer.specs.declared.dma.SwapPhase.{SwapPhase}
pub use Rattle.transfer.specs.declared.dma.SwapPhase.TheVariants.{ReadC64, WriteC64}
pub use Rattle.transfer.specs.declared.dma.DmaState.{DmaState}
pub use Rattle.transfer.specs.declared.dma.Passed.{Passed}
pub use Rattle.transfer.specs.declared.dma.Completed.{Completed}
pub use Rattle.transfer.specs.declared.timing.ReuC64Access.{ReuC64Access}
pub use Rattle.transfer.specs.declared.timing.ReuC64Access.TheVariants.{Read, Write}
pub use Rattle.transfer.specs.declared.timing.ReuBusAction.{ReuBusAction}
pub use Rattle.transfer.specs.declared.timing.ReuBusAction.TheVariants.{Cpu, Hold, Transfer}
