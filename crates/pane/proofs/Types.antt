-- The transfer types by their numbers.
use mathlib.Core.Path.{◌≡◌, refl, ◌∙◌, ap}
use mathlib.Core.Bool.{cond}
use Prim.Native.Nat.{ℕ, zero, suc, ◌%◌, ◌<◌, min}
use native.Mathlib.Omega.{arith}
use lib.Bits.{and_mask}
use lib.Dec.{eqb}
use Rattle.transfer.specs.declared.dma.TransferType.TheVariants.{Store, Recall, Swap, Verify}
use Rattle.transfer.specs.Dma.{type_number, type_of}
use Rattle.pane.specs.Rows.{type_name}

numbered : (n : ℕ) → n < 4 → type_number (cond (eqb n 0) Store (cond (eqb n 1) Recall (cond (eqb n 2) Swap Verify))) ≡ n
numbered zero h = refl
numbered (suc zero) h = refl
numbered (suc (suc zero)) h = refl
numbered (suc (suc (suc zero))) h = refl
numbered (suc (suc (suc (suc n)))) h = absurd (omega arith)

-- that of a command, bits 0 and 1
pub of_command : (v : ℕ) → type_number (type_of v) ≡ v % 4
unfolding type_of
of_command v = rw (and_mask v 2) (numbered (v % 4) (omega arith))

named : (k : ℕ) → type_name (min k 3) ≡ type_name k
named zero = refl
named (suc zero) = refl
named (suc (suc zero)) = refl
named (suc (suc (suc k))) = let e : min (suc (suc (suc k))) 3 ≡ 3 = omega arith in rw e refl

-- and that of an image
pub of_image : (k : ℕ) → type_name (type_number (type_of (min k 3))) ≡ type_name k
of_image k = let e : min k 3 % 4 ≡ min k 3 = omega arith in ap type_name (of_command (min k 3) ∙ e) ∙ named k
