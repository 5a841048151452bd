-- What the definitions are written with: the library's numbers, truth values and lists, `transfer`'s types, and that of a store. Nothing new is said here.
pub use Rattle.std.specs.Prelude.{Bool, true, false, Option, None, Some, List, [], ◌∷◌, ℕ}
unfoldable pub use Rattle.std.proofs.Math.Bool.{◌&&◌, ◌||◌, cond}
unfoldable pub use Rattle.std.specs.Int.Bits.{bit_and, bit_or}
unfoldable pub use Rattle.std.proofs.Math.Dec.{eqb}
unfoldable pub use Rattle.std.proofs.Math.ListN.{get_or, set}
pub use Rattle.transfer.specs.declared.dma.SwapPhase.TheVariants.{ReadC64}
pub use Rattle.transfer.specs.declared.dma.DmaState.{DmaState}
pub use Rattle.regs.specs.declared.stores.RegisterStore.{RegisterStore}
