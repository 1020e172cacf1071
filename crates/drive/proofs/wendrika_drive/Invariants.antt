-- The loop of `drive::wendrika_drive`: what was driven so far is what the definition says of so many events. Assumes nothing.
use Rattle.std.proofs.Common.{◌≡◌}
use Rattle.drive.specs.Drive.{driven_to}
use Rattle.drive.proofs.wendrika_drive.Given as goal

abbrev pub invariant-loop-i : goal.invariant-loop-i
invariant-loop-i l = l.d ≡ driven_to l.events l.i
