-- What holds of a controller that passes the test.
use mathlib.Core.Bool.{Bool, true, ◌&&◌}
use mathlib.Core.Path.{◌≡◌}
use Prim.Native.Nat.{◌≤◌, ◌<◌}
use lib.Dec.{leb, ltb}
use borrow.Author.Tests.{leb-true, ltb-true}
use Rattle.controller.specs.Prelude.{Reu, Option, None, Some, DmaState}
use Rattle.transfer.specs.Constants.{status, expansion_limit, full_length}
use Rattle.controller.specs.Inner.{InRange, InRangeDma}
use Rattle.controller.specs.Refusals.{well_formed, well_size}
use Rattle.controller.specs.Reu.{reg}
use Rattle.transfer.specs.Dma.{well_transfer, well_dma}
use Rattle.transfer.proofs.Pick.{fst, snd}

well_transfer_lem : (d : DmaState) → well_transfer d ≡ true → InRange d
well_transfer_lem d e =
    let len = fst (leb 1 d.remaining && leb d.remaining full_length) _ e in
    record {
      low = leb-true _ _ (fst (leb 1 d.remaining) _ len);
      high = leb-true _ _ (snd (leb 1 d.remaining) _ len);
      addr = ltb-true _ _ (fst (ltb d.reu_addr.0 expansion_limit) _ (snd (leb 1 d.remaining && leb d.remaining full_length) _ e));
    }

well_dma_lem : (attached : Bool) (x : Option DmaState) → well_dma attached x ≡ true → InRangeDma x
well_dma_lem a None e = tt
well_dma_lem a (Some d) e = well_transfer_lem d (snd a _ e)

pub well_command : (u : Reu) → well_formed u ≡ true → well_dma u.attached u.dma ≡ true
unfolding well_formed
well_command u e =
    fst (well_dma u.attached u.dma) _ (snd (ltb u.shadow_reu_addr expansion_limit) _ (snd (leb u.swap_read_delay 2) _ e))

pub well_range : (u : Reu) → well_formed u ≡ true → InRangeDma u.dma
well_range u e = well_dma_lem u.attached u.dma (well_command u e)

pub well_size_lem : (u : Reu) → well_formed u ≡ true → well_size u.size (reg u status) ≡ true
unfolding well_formed
well_size_lem u e =
    snd (well_dma u.attached u.dma) _ (snd (ltb u.shadow_reu_addr expansion_limit) _ (snd (leb u.swap_read_delay 2) _ e))

pub well_delay : (u : Reu) → well_formed u ≡ true → u.swap_read_delay ≤ 2
unfolding well_formed
well_delay u e = leb-true _ _ (fst (leb u.swap_read_delay 2) _ e)

pub well_shadow : (u : Reu) → well_formed u ≡ true → u.shadow_reu_addr < expansion_limit
unfolding well_formed
well_shadow u e =
    ltb-true _ _ (fst (ltb u.shadow_reu_addr expansion_limit) _ (snd (leb u.swap_read_delay 2) _ e))
