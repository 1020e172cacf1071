-- A byte that goes on with the message held, for a caller that takes many and needs no answer made. No rule stands here: that its step is the one of
-- `Stepping` is proved in proofs/Ways.antt.
-- Assumes nothing.
use Rattle.std.specs.Prelude.{Bool, ◌&&◌, eqb}
use Rattle.base.specs.Numbers.{taken}
use Rattle.base.specs.Sums.{count_sum}
use Rattle.events.specs.declared.Event.{Event}
use Rattle.talk.specs.Talk.{grown}
use Rattle.phases.specs.Phases.{holding}
use Rattle.reports.specs.declared.Counts.{Counts}
use Rattle.link.specs.Stepping.{number_of}
use Rattle.link.specs.Quick.{goes_on}
use Rattle.link.specs.declared.Link.{Link}

-- an event is taken, and goes on with the message held: no report, and no more than the message grows
unfoldable pub runs_on : Link → Counts → Event → Bool
runs_on l c e = eqb (number_of l c e) taken && goes_on l e

-- the link after it
unfoldable pub ran_on : Link → Event → Link
ran_on l e = record {
  clock = e.end;
  mark = e.end;
  taken = count_sum l.taken 1;
  heard = count_sum l.heard 1;
  named = l.named;
  phase = holding l.phase (grown l.phase.message e.value);
}
