-- One call of `listing::list_part` after another: what went out, and what the rest of the part gives, are what all of it gives. The measure is the rest.
-- Assumes nothing.
use Rattle.std.proofs.Common.{length, ◌-◌, ◌≡◌}
use Rattle.list_events.proofs.Laws.{Sending}
use Rattle.list_events.proofs.list.Given as goal

abbrev pub invariant-loop-at : goal.invariant-loop-at
invariant-loop-at g l = record {
  room : length l.out ≡ length l.initial.out;
  sending : Sending l.initial.lister l.s (g.W.Write.contents l.initial.to) (g.W.Write.contents l.to) l.lister l.at;
}

abbrev pub decreases-loop-at : goal.decreases-loop-at
decreases-loop-at g l = length l.s - l.at
