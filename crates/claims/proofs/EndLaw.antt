-- What the end of a command leaves of the registers.
use Prim.Native.Nat.{ℕ, ◌≤◌}
use mathlib.Core.Bool.{Bool, true, false}
use mathlib.Core.Path.{◌≡◌, refl, ◌∙◌}
use mathlib.Core.Logic.{◌≢◌}
use mathlib.Core.List.{List, [], ◌∷◌}
use native.Mathlib.Omega.{arith}
use lib.ListN.{length, get_or, length-set}
use lib.Seq.{get_or-set_other}
use Rattle.transfer.specs.Constants.{end_of_block, interrupt}
use Rattle.transfer.specs.Bytes.{ones}
use Rattle.regs.specs.FinishDma.{finished, finished_command, finished_status, irq_due, marked}
use Rattle.controller.specs.declared.reu.Reu.{Reu}
use Rattle.controller.specs.FinishDma.{finish_dma, update_irq}

-- an event changes STATUS alone
pub marked_other : (l : List ℕ) (bits : ℕ) (event : Bool) (i : ℕ) → i ≢ 0 → get_or (marked l bits event) i 0 ≡ get_or l i 0
marked_other l bits true i h = get_or-set_other l 0 i _ 0 h
marked_other l bits false i h = refl

pub marked_length : (l : List ℕ) (bits : ℕ) (event : Bool) → length (marked l bits event) ≡ length l
marked_length l bits true = length-set l 0 _
marked_length l bits false = refl

-- lists that agree behind STATUS and COMMAND
pub record Agree (l r : List ℕ) : Type 0 where
  pub long : length l ≡ length r
  pub at : (i : ℕ) → 2 ≤ i → get_or l i 0 ≡ get_or r i 0

pub then : {l r t : List ℕ} → Agree l r → Agree r t → Agree l t
then a b = record { long = a.long ∙ b.long; at = λ i h. a.at i h ∙ b.at i h }

pub agree_marked : (l : List ℕ) (bits : ℕ) (event : Bool) → Agree (marked l bits event) l
agree_marked l bits event =
    record { long = marked_length l bits event; at = λ i g. marked_other l bits event i (omega arith) }

-- the end changes these two alone
agree_command : (l : List ℕ) → Agree (finished_command l) l
agree_command l = record { long = length-set l 1 _; at = λ i g. get_or-set_other l 1 i _ 0 (omega arith) }

pub finish_agrees : (u : Reu) (done : Bool) → Agree (finish_dma u done).regs u.regs
unfolding finish_dma update_irq
finish_agrees u done =
    let l = finished u.regs done in
    then (agree_marked l (ones (interrupt ∷ [])) (irq_due l))
    (then (agree_command (finished_status u.regs done)) (agree_marked u.regs (ones (end_of_block ∷ [])) done))
