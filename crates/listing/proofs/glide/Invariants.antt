-- The loop of `listing::glide`: so far every line went on with the message held. The measure is what is left. Assumes nothing.
use Rattle.std.proofs.Common.{◌≡◌, ◌-◌, None, length}
use Rattle.listing.proofs.Laws.{Gliding}
use Rattle.listing.proofs.glide.Given as goal

abbrev pub invariant-loop-row : goal.invariant-loop-row
invariant-loop-row l = Gliding l.initial.y.link l.initial.y.counts l.s l.from l.y.link l.y.counts l.y.at × (l.y.row ≡ None)

abbrev pub decreases-loop-row : goal.decreases-loop-row
decreases-loop-row l = length l.s - l.y.at
