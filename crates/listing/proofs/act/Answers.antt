-- A line has ended: its event makes a step, and its reports are written, or its refusal. Assumes nothing.
use Rattle.link.proofs.Answered.{step_refused}
use Rattle.listing.proofs.Laws.{acted_answered, acted_refused}
use Rattle.listing.proofs.act.Goals as goal

pub returns-in-Ok : goal.returns-in-Ok
returns-in-Ok c =
    acted_answered _ _ _ _ _ c.in-Ok.a _ _ _ _ c.in-Ok.ensures c.counted.ensures c.begin-reading.ensures c.requires c.put_reports.ensures

pub returns-in-Err : goal.returns-in-Err
returns-in-Err c =
    acted_refused _ _ _ _ _ c.in-Err.why _ _ _ (step_refused _ _ _ c.in-Err.why c.in-Err.ensures) c.begin-reading.ensures c.requires
    (rw c.into.ensures at c.put_refusal.ensures)
