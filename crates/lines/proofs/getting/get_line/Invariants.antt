-- `lines::getting::get_line`: what the rest of the part gives is what all of it gives. Assumes nothing.
use Rattle.std.proofs.Common.{◌≡◌, ◌≤◌, max, length, drop}
use Rattle.lines.specs.Getting.{got_of}
use Rattle.lines.proofs.getting.get_line.Given as goal

abbrev pub invariant-loop-i : goal.invariant-loop-i
invariant-loop-i l = (l.i ≤ max l.at (length l.s)) × (got_of l.x (drop l.i l.s) l.i ≡ got_of l.fn.r (drop l.at l.s) l.at)
