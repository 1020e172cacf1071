-- The loop of `reports::counting::count_all`: what is counted so far and the reports that are left make the whole. Assumes nothing.
use Rattle.std.proofs.Common.{◌≡◌, drop}
use Rattle.reports.specs.Reporting.{listed}
use Rattle.reports.specs.Counting.{counted_all}
use Rattle.reports.proofs.counting.count_all.Given as goal

abbrev pub invariant-loop-i : goal.invariant-loop-i
invariant-loop-i l = counted_all l.counts (drop l.i (listed l.fn.rs)) ≡ counted_all l.fn.c (listed l.fn.rs)
