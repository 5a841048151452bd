use Rattle.pane.proofs.Pane.{shown, refused}
use Rattle.pane.proofs.rows.row.Goals as goal

pub returns-in-Ok : goal.returns-in-Ok
returns-in-Ok c = shown _ _ c.reu_dma_active.ensures c.in-Ok.ensures.0 c.held_row.ensures

pub returns-in-Err : goal.returns-in-Err
returns-in-Err c = refused _ _ c.reu_dma_active.ensures c.in-Err.ensures c.refused_row.ensures
