-- A refused event leaves the counts that are lent as they are. Assumes nothing.
use Rattle.link.specs.Stepping.{step_of}
use Rattle.link.proofs.Answered.{step_kept}
use Rattle.counts.proofs.step.Goals as goal

pub returns-in-Err : goal.returns-in-Err
unfolding step_of
returns-in-Err c = record { answer = c.in-Err.ensures; counts = step_kept _ _ _ c.in-Err.why c.in-Err.ensures }
