-- A link, and how an event is handled (document 01, "Events and what the link does", "Numbers a caller may get back").
-- Assumes nothing.
use Rattle.std.specs.Prelude.{ℕ, if◌then◌else◌}
use Rattle.base.specs.Sums.{count_sum}
use Rattle.base.specs.Reports.{dropped, restarted}
use Rattle.units.specs.Units.{micros, gap_of}
use Rattle.units.specs.declared.Micros.{Micros}
use Rattle.events.specs.Events.{marks}
use Rattle.events.specs.declared.Kind.{Kind}
use Rattle.events.specs.declared.Kind.TheVariants.{Address, WakeUp, Byte, Tick, Drop, Other}
use Rattle.events.specs.declared.Event.{Event}
use Rattle.phases.specs.Phases.{off}
use Rattle.moves.specs.Moves.{after_silence, after_p2, after_p3, after_window, closing, leaving, starting_slow, starting_fast, before_byte, after_byte, after_stop}
use Rattle.reports.specs.Reporting.{no_reports, moved}
use Rattle.reports.specs.declared.Run.{Run}
use Rattle.link.specs.declared.Link.{Link}

-- ---- a fresh link
unfoldable pub fresh_link : Link
fresh_link = record { clock = micros 0; mark = micros 0; taken = 0; heard = 0; named = 0; phase = off }

-- ---- "Before acting, an event lets time pass to its start, just as a tick then would": the four rules in document 01's order, each on what the one
-- before left. "P2 and P3 are measured from the mark."
unfoldable pub passed : Run → Micros → Micros → Run
passed r mark start =
    let r1 = moved r (after_silence r.phase (gap_of mark start)) in
    let r2 = moved r1 (after_p2 r1.phase (gap_of mark start)) in
    let r3 = moved r2 (after_p3 r2.phase (gap_of mark start)) in
    moved r3 (after_window r3.phase mark start)

-- ---- the event acts
-- "A, W or D then close what is open"
unfoldable pub shut : Run → ℕ → Run
shut r reason =
    let r1 = moved r (closing r.phase) in
    moved r1 (leaving r1.phase reason)

-- "Bytes heard are those of B events taken"
abbrev pub hearing : Run → Run
hearing r = record { phase = r.phase; heard = count_sum r.heard 1; named = r.named; time = r.time; reports = r.reports }

-- a byte: it may end what is held "before that byte acts"; then it is heard, and its own rule acts; and then the link may have been stopped
abbrev pub byte_acts : Run → Event → Micros → Run
byte_acts r e mark =
    let r1 = moved (hearing r) (after_byte r.phase e.side e.value mark e.start) in
    moved r1 (after_stop r1.phase)

unfoldable pub byte_heard : Run → Event → Micros → Run
byte_heard r e mark = byte_acts (moved r (before_byte r.phase e.side)) e mark

-- what it does, by its kind; what is open is closed first, so that a start is judged by the idle time that closing has left
abbrev pub acted_by : Kind → Run → Event → Micros → Run
acted_by Address r e mark =
    let r1 = shut r restarted in
    moved r1 (starting_slow r1.phase.idle e.value mark e.start)
acted_by WakeUp r e mark =
    let r1 = shut r restarted in
    moved r1 (starting_fast r1.phase.idle mark e.start e.end)
acted_by Byte r e mark = byte_heard r e mark
acted_by Tick r e mark = r
acted_by Drop r e mark = shut r dropped
acted_by Other r e mark = r

unfoldable pub acted : Run → Event → Micros → Run
acted r e mark = acted_by e.kind r e mark

-- the event is handled: from the link, time passes and the event acts
unfoldable pub begun : Link → Event → Run
begun l e = record { phase = l.phase; heard = l.heard; named = l.named; time = e.end; reports = no_reports }

unfoldable pub handled : Link → Event → Run
handled l e = acted (passed (begun l e) l.mark e.start) e l.mark

-- "Clock: end of the last event taken. Mark: end of the last A, W or B taken, 0 when fresh."
unfoldable pub mark_after : Link → Event → Micros
mark_after l e = if marks e.kind then e.end else l.mark

unfoldable pub link_after : Link → Event → Run → Link
link_after l e r = record {
  clock = e.end;
  mark = mark_after l e;
  taken = count_sum l.taken 1;
  heard = r.heard;
  named = r.named;
  phase = r.phase;
}
