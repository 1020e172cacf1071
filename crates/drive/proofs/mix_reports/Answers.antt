-- `drive::mix_reports` meets its contract: at a place that holds a report by the law of `Places`, and behind them nothing is left. Assumes nothing.
use Rattle.std.proofs.Common.{◌+◌, ◌∙◌, sym, arith}
use Rattle.drive.specs.Drive.{mixed_reports}
use Rattle.reports.proofs.Places.{left_more, left_none, left_past}
use Rattle.drive.proofs.mix_reports.Goals.{then-i-rs, else-i-rs}
use Rattle.drive.proofs.mix_reports.Goals as goal

pub loop-i-preserved : goal.loop-i-preserved
unfolding mixed_reports
loop-i-preserved c = elim c.if-i-rs.branch [
  | then-i-rs w ↦
      rw (w.mixed-is, w.mix_report-mixed.ensures)
      (sym (left_more (mixed_reports c.loop-i.mixed) c.args.rs c.loop-i.i _ w.if-i-rs.true c.loop-i-test.true) ∙ c.loop-i.invariant)
  | else-i-rs w ↦
      rw (w.mixed-is, left_none c.args.rs (c.loop-i.i + 1) (omega arith))
      (rw (left_none c.args.rs c.loop-i.i w.if-i-rs.false) at c.loop-i.invariant)
]

pub returns : goal.returns
unfolding mixed_reports
returns c = rw (left_past c.args.rs c.loop-i.i c.loop-i-test.false) at c.loop-i.invariant
