-- Our link as a machine, and others that go over its inner state. Assumes nothing.
use Rattle.events.specs.declared.Event.{Event}
use Rattle.reports.specs.Reporting.{listed}
use Rattle.reports.specs.declared.Counts.{Counts}
use Rattle.link.specs.Handling.{fresh_link}
use Rattle.link.specs.Stepping.{step_of}
use Rattle.link.specs.declared.Link.{Link}
use Rattle.link.specs.Answers.{Answer, Stepped}
use Rattle.listing.specs.Listing.{held_of}
use Rattle.demands.specs.Logs.{Log}
use Rattle.demands.specs.Histories.{Told, Machine, after}

-- a step over our links, as a machine's
abbrev pub told_by : Stepped → Told Link
told_by s = record { link = s.answer.link; no = s.answer.no; reports = listed s.answer.reports; counts = s.counts }

abbrev pub machine_of : (Link → Counts → Event → Stepped) → Machine
machine_of step = record { Inner = Link; fresh = fresh_link; step = λ l c e. told_by (step l c e); held = held_of }

-- the step that `link::step` promises
abbrev pub ours : Machine
ours = machine_of step_of

-- its answer after events
abbrev pub our_answer : Log → Event → Answer
our_answer es e = (step_of (after ours es).link (after ours es).counts e).answer
