-- The loop of `drive::mix_reports`: the digest so far and the reports that are left make the whole. Assumes nothing.
use Rattle.std.proofs.Common.{◌≡◌, drop}
use Rattle.reports.specs.Reporting.{listed}
use Rattle.drive.specs.Drive.{mixed_reports}
use Rattle.drive.proofs.mix_reports.Given as goal

abbrev pub invariant-loop-i : goal.invariant-loop-i
invariant-loop-i l = mixed_reports l.mixed (drop l.i (listed l.fn.rs)) ≡ mixed_reports l.fn.digest (listed l.fn.rs)
