-- Reports of frames and of damage, by the history: a frame is one that `read` takes under the session's key bytes; a report of either kind names bytes
-- from the first byte of a message on, which was early or stray exactly if the report says so; and the link is stopped exactly by a unit frame that
-- answers a stop.
-- Assumes nothing.
use mathlib.Core.Bool.{Bool, true, false}
use mathlib.Core.List.{List}
use mathlib.Core.Path.{◌≡◌, refl}
use mathlib.Core.Logic.{◌↔◌, ◌⊎◌, inl, ⊎_elim}
use Rattle.base.specs.Reports.{frame_report, damage_report, down_report, stopped}
use Rattle.events.specs.declared.Event.{Event}
use Rattle.phases.specs.Phases.{is_connected}
use Rattle.reports.specs.declared.Report.{Report}
use Rattle.reports.specs.declared.Run.{Run}
use Rattle.demands.specs.Logs.{Log, ◌▷◌, heard_in, InBytes}
use Rattle.demands.specs.Histories.{after, reports_to, Among, Tells}
use Rattle.demands.specs.Accounts.{named_by}
use Rattle.demands.specs.Sessions.{Talk, Session, Reads, SomeSession, pending_in}
use Rattle.demands.proofs.Sessions.AfterFirstByte.{Finishes, Turned}
use Rattle.demands.proofs.Moves.ReportsInList.{Each}
use Rattle.demands.proofs.Sessions.SessionLasts.{Answers, Told}
use Rattle.demands.proofs.Sessions.SessionEnds.{Ends, still_up, over}
use Rattle.demands.proofs.Sessions.SessionEvent.{event_ends, session_at}
use Rattle.demands.proofs.Sessions.SessionExactly.{session_exactly}
use Rattle.demands.proofs.Moves.Unconnected.{none_unconnected}
use Rattle.demands.specs.Ours.{ours}

each_told : (es : Log) (e : Event) (all : List Report) (t : Talk) (rs : List Report) (r : Run) → Ends es e all t rs r → Each (Told es e all t) rs
each_told es e all t rs r (still_up n f a) = f
each_told es e all t rs r (over n f c) = f

-- in a session
told_in : (es : Log) (e : Event) (t : Talk) → InBytes (es ▷ e) → Session ours es t
    → Each (Told es e (reports_to ours es e) t) (reports_to ours es e)
unfolding InBytes
told_in es e t b s = each_told es e (reports_to ours es e) t (reports_to ours es e) _ (event_ends es e t b (session_at b.0 s))

-- a report 1 or 2 comes in a session
pub comes_in : (es : Log) (e : Event) (r : Report) → InBytes (es ▷ e) → Among r (reports_to ours es e)
    → (r.number ≡ frame_report) ⊎ (r.number ≡ damage_report) → SomeSession ours es
unfolding InBytes
comes_in es e r b i n = by_state (is_connected (after ours es).link.phase.state) refl
  where
    by_state : (c : Bool) → is_connected (after ours es).link.phase.state ≡ c → SomeSession ours es
    by_state true c = (session_exactly es b.0).0 c
    by_state false c = let x = none_unconnected es e c r i in absurd (⊎_elim x.0 x.1 n)

-- A FRAME IS ONE THAT `read` TAKES
pub frames_read : (es : Log) (e : Event) (r : Report) → InBytes (es ▷ e) → Among r (reports_to ours es e) → r.number ≡ frame_report
    → Reads ours es e r
frames_read es e r b i n =
    let x = comes_in es e r b i (inl n) in
    record { talk = x.talk; session = x.session; reads = (told_in es e x.talk b x.session r i).reads n }

-- and it ends a message, by the session after its first byte (its converse is in `Speaking`)
pub frames_end : (es : Log) (e : Event) (r : Report) → InBytes (es ▷ e) → Among r (reports_to ours es e) → r.number ≡ frame_report
    → Finishes es e (named_by (heard_in (es ▷ e)) r)
frames_end es e r b i n =
    let x = comes_in es e r b i (inl n) in
    (told_in es e x.talk b x.session r i).spoken n

-- a message's first byte was early or stray exactly if its report says so, by the session after it (`turns_exactly` in `Opening`)
pub turns_behind : (es : Log) (e : Event) (r : Report) → InBytes (es ▷ e) → Among r (reports_to ours es e)
    → (r.number ≡ frame_report) ⊎ (r.number ≡ damage_report) → Turned (es ▷ e) r
turns_behind es e r b i n =
    let x = comes_in es e r b i n in
    (told_in es e x.talk b x.session r i).turns n

-- the link is stopped exactly by a unit frame that answers a stop, by its report (`stops_exactly` in `Opening`)
pub stops_behind : (es : Log) (e : Event) (t : Talk) → InBytes (es ▷ e) → Session ours es t
    → Tells down_report stopped (reports_to ours es e) ↔ Answers t.pair (pending_in t.pair t.frames) e.side (heard_in (es ▷ e)) (reports_to ours es e)
stops_behind es e t b s = (
  λ x. (told_in es e t b s x.report x.made).answers x.number_is x.reason_is,
  λ x. (told_in es e t b s x.report x.made).stops x.number x.unit x.stop,
)
