-- "The counts are a record the host lends, brought up to date there" (document 01, "Events and what the link does").
-- Assumes nothing.
use Rattle.std.specs.Prelude.{◌≡◌}
use Rattle.events.specs.declared.Event.{Event}
use Rattle.link.specs.Stepping.{step_of}
use Rattle.link.specs.declared.Link.{Link}
use Rattle.reports.specs.declared.Counts.{Counts}
use Rattle.link.specs.Answers.{Answer}

-- what a step with lent counts promises: its answer, and all seven counts as they stand afterwards, are those of a step on values
pub record Steps (l : Link) (c : Counts) (e : Event) (r : Answer) (after : Counts) : Type 0 where
  pub answer : r ≡ (step_of l c e).answer
  pub counts : after ≡ (step_of l c e).counts
