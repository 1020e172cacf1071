-- The loop of `text::put_reports`: the lines of the reports so far stand there. Assumes nothing.
use Rattle.std.proofs.Common.{take}
use Rattle.text.proofs.Parts.{Lines}
use Rattle.text.proofs.put_reports.Given as goal

abbrev pub invariant-loop-x : goal.invariant-loop-x
invariant-loop-x l = Lines l.at (take l.x-index l.x-items) l.initial.out l.to l.out
