-- The reports of an event's moves, one after another, whatever places there are: a move has at most one, and an event's moves are those of `handled`.
-- Assumes nothing.
use Rattle.std.specs.Prelude.{ℕ, List, [], ◌∷◌, ◌++◌, eqb, if◌then◌else◌}
use Rattle.base.specs.Reports.{dropped, restarted}
use Rattle.units.specs.Units.{gap_of}
use Rattle.units.specs.declared.Micros.{Micros}
use Rattle.events.specs.declared.Kind.{Kind}
use Rattle.events.specs.declared.Kind.TheVariants.{Address, WakeUp, Byte, Tick, Drop, Other}
use Rattle.events.specs.declared.Event.{Event}
use Rattle.moves.specs.Moves.{after_silence, after_p2, after_p3, after_window, closing, leaving, starting_slow, starting_fast, before_byte, after_byte, after_stop}
use Rattle.moves.specs.declared.Move.{Move}
use Rattle.reports.specs.Reporting.{report_of, moved}
use Rattle.reports.specs.declared.Report.{Report}
use Rattle.reports.specs.declared.Run.{Run}
use Rattle.link.specs.Handling.{passed, shut, hearing, begun}
use Rattle.link.specs.declared.Link.{Link}

-- the report that a move has, if it has one
unfoldable pub tells : Run → Move → List Report
tells r m = if eqb m.number 0 then [] else report_of r m.number m.reason ∷ []

-- the reports of all moves: as time passes, ..
unfoldable pub passed_tells : Run → Micros → Micros → List Report
passed_tells r mark start =
    let m1 = after_silence r.phase (gap_of mark start) in
    let r1 = moved r m1 in
    let m2 = after_p2 r1.phase (gap_of mark start) in
    let r2 = moved r1 m2 in
    let m3 = after_p3 r2.phase (gap_of mark start) in
    let r3 = moved r2 m3 in
    let m4 = after_window r3.phase mark start in
    tells r m1 ++ tells r1 m2 ++ tells r2 m3 ++ tells r3 m4

-- .. as A, W or D closes, ..
unfoldable pub shut_tells : Run → ℕ → List Report
shut_tells r reason =
    let m1 = closing r.phase in
    let r1 = moved r m1 in
    tells r m1 ++ tells r1 (leaving r1.phase reason)

-- .. as a byte is heard, ..
unfoldable pub byte_tells : Run → Event → Micros → List Report
byte_tells r e mark =
    let m1 = before_byte r.phase e.side in
    let r1 = moved r m1 in
    let m2 = after_byte r1.phase e.side e.value mark e.start in
    let r2 = moved (hearing r1) m2 in
    tells r m1 ++ tells (hearing r1) m2 ++ tells r2 (after_stop r2.phase)

-- .. and in all
abbrev pub acted_tells : Kind → Run → Event → Micros → List Report
acted_tells Address r e mark =
    let r1 = shut r restarted in
    shut_tells r restarted ++ tells r1 (starting_slow r1.phase.idle e.value mark e.start)
acted_tells WakeUp r e mark =
    let r1 = shut r restarted in
    shut_tells r restarted ++ tells r1 (starting_fast r1.phase.idle mark e.start e.end)
acted_tells Byte r e mark = byte_tells r e mark
acted_tells Tick r e mark = []
acted_tells Drop r e mark = shut_tells r dropped
acted_tells Other r e mark = []

unfoldable pub handled_tells : Link → Event → List Report
handled_tells l e =
    passed_tells (begun l e) l.mark e.start ++ acted_tells e.kind (passed (begun l e) l.mark e.start) e l.mark
