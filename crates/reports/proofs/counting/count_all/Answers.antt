-- `reports::counting::count_all` meets its contract: at a place that holds a report by the law of `Places`, and behind them nothing is left. Assumes nothing.
use Rattle.std.proofs.Common.{◌+◌, ◌∙◌, sym, arith}
use Rattle.reports.specs.Counting.{counted_all}
use Rattle.reports.proofs.Places.{left_more, left_none, left_past}
use Rattle.reports.proofs.counting.count_all.Goals.{then-i-rs, else-i-rs}
use Rattle.reports.proofs.counting.count_all.Goals as goal

pub loop-i-preserved : goal.loop-i-preserved
unfolding counted_all
loop-i-preserved c = elim c.if-i-rs.branch [
  | then-i-rs w ↦
      rw (w.counts-is, w.count_one-counts.ensures)
      (sym (left_more (counted_all c.loop-i.counts) c.args.rs c.loop-i.i _ w.if-i-rs.true c.loop-i-test.true) ∙ c.loop-i.invariant)
  | else-i-rs w ↦
      rw (w.counts-is, left_none c.args.rs (c.loop-i.i + 1) (omega arith))
      (rw (left_none c.args.rs c.loop-i.i w.if-i-rs.false) at c.loop-i.invariant)
]

pub returns : goal.returns
unfolding counted_all
returns c = rw (left_past c.args.rs c.loop-i.i c.loop-i-test.false) at c.loop-i.invariant
