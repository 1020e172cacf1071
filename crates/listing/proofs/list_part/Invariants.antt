-- The loop of `listing::list_part`: what is left gives what the whole gives, and what was written stands in the buffer. The measure is what is left.
-- Assumes nothing.
use Rattle.std.proofs.Common.{◌-◌, length}
use Rattle.listing.proofs.Laws.{Going}
use Rattle.listing.proofs.list_part.Given as goal

abbrev pub invariant-loop-part : goal.invariant-loop-part
invariant-loop-part l = Going l.initial.part.lister l.s l.initial.out l.room l.part.lister l.part.at l.part.put l.out

abbrev pub decreases-loop-part : goal.decreases-loop-part
decreases-loop-part l = length l.s - l.part.at
