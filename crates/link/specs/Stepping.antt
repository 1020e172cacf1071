-- A step of the link: any link, any counts, any event. Assumes nothing.
use Rattle.std.specs.Prelude.{ℕ, eqb, if◌then◌else◌}
use Rattle.base.specs.Numbers.{taken}
use Rattle.events.specs.Events.{is_byte, refusal}
use Rattle.events.specs.declared.Event.{Event}
use Rattle.reports.specs.Reporting.{no_reports}
use Rattle.reports.specs.declared.Counts.{Counts}
use Rattle.reports.specs.Counting.{is_full, counted_event}
use Rattle.link.specs.Handling.{handled, link_after}
use Rattle.link.specs.declared.Link.{Link}
use Rattle.link.specs.Answers.{Answer, Stepped}

-- the number of an event: 1, 2, 3, 4, or 0
unfoldable pub number_of : Link → Counts → Event → ℕ
number_of l c e = refusal l.clock (is_full l.taken c) e

-- "Beside a refusal every other number is 0, and link, counts and buffers keep their contents."
unfoldable pub refused_by : Link → ℕ → Answer
refused_by l k = record { link = l; reports = no_reports; no = k }

unfoldable pub taken_by : Link → Event → Answer
taken_by l e = record { link = link_after l e (handled l e); reports = (handled l e).reports; no = taken }

unfoldable pub answer_of : Link → Counts → Event → Answer
answer_of l c e = if eqb (number_of l c e) taken then taken_by l e else refused_by l (number_of l c e)

-- "The counts are a record the host lends, brought up to date there": by an event that was taken and its reports
unfoldable pub counts_after : Counts → Answer → Event → Counts
counts_after c a e = if eqb a.no taken then counted_event c (is_byte e.kind) a.reports else c

-- A STEP: the answer, and the counts brought up to date
unfoldable pub step_of : Link → Counts → Event → Stepped
step_of l c e = record { answer = answer_of l c e; counts = counts_after c (answer_of l c e) e }
