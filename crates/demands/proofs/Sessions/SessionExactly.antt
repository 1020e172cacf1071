-- The session of a history and the link's: in a session the link is connected, its key bytes are a link's and the session's, the windows in force and the
-- reply that may come are those that the history says; and the link is connected exactly if the history is in a session.
-- Assumes nothing.
use mathlib.Core.Bool.{Bool, true, false, false≢true}
use mathlib.Core.List.{List}
use mathlib.Core.Path.{◌≡◌, refl, sym, ◌∙◌}
use mathlib.Core.Logic.{◌↔◌}
use Rattle.base.specs.Reports.{down_report}
use Rattle.events.specs.declared.Event.{Event}
use Rattle.phases.specs.Phases.{is_connected, down}
use Rattle.reports.specs.declared.Report.{Report}
use Rattle.reports.specs.declared.Run.{Run}
use Rattle.link.specs.Handling.{fresh_link}
use Rattle.demands.specs.Logs.{Log, none, ◌▷◌, InBytes}
use Rattle.demands.specs.Histories.{after, reports_to, Says}
use Rattle.demands.specs.Sessions.{Talk, Session, opens, lasts, SomeSession}
use Rattle.demands.proofs.Connecting.BecomesConnected.{own_becomes_exactly}
use Rattle.demands.proofs.Connecting.KeyBytes.{ours_made}
use Rattle.demands.proofs.Sessions.SessionEnds.{Ends, still_up, over}
use Rattle.demands.proofs.Sessions.SessionEvent.{event_ends, session_at}
use Rattle.demands.specs.Ours.{ours}
use Rattle.demands.specs.Beside.{IsIn}

-- THE LINK OF A SESSION
pub session_link : (es : Log) (t : Talk) → InBytes es → Session ours es t → IsIn t (after ours es).link
session_link es t b s =
    let f = (session_at b s).fits in
    record { connected = f.connected; good = f.good; pair = f.pair; windows = f.windows; reply = f.reply }

-- where the link stays connected, no report 7 was made
over_off : (es : Log) (e : Event) (all rs : List Report) (t : Talk) (r : Run) → Ends es e all t rs r → is_connected r.phase.state ≡ true
    → Says down_report rs → ⊥
over_off es e all rs t r (still_up n f a) c s = false≢true (sym n ∙ s)
over_off es e all rs t r (over n f d) c s = false≢true (sym d ∙ c)

last_event : (es : Log) (e : Event) → InBytes (es ▷ e) → (before : Bool) → is_connected (after ours es).link.phase.state ≡ before
    → (before ≡ true → SomeSession ours es) → is_connected (after ours (es ▷ e)).link.phase.state ≡ true → SomeSession ours (es ▷ e)
unfolding InBytes
last_event es e b true c f n =
    let x = f refl in
    record {
      talk = _;
      session = lasts x.session (over_off es e _ (reports_to ours es e) x.talk _
          (event_ends es e x.talk b (session_at b.0 x.session)) n);
    }
last_event es e b false c f n =
    let x = (own_becomes_exactly es e).0 (c, n) in
    record { talk = _; session = opens (ours_made es e x.0 x.1) refl }

connected_session : (es : Log) → InBytes es → is_connected (after ours es).link.phase.state ≡ true → SomeSession ours es
unfolding InBytes after fresh_link down is_connected
connected_session none b n = absurd (false≢true n)
connected_session (es ▷ e) b n =
    last_event es e b (is_connected (after ours es).link.phase.state) refl (λ c. connected_session es b.0 c) n

-- CONNECTED EXACTLY IN A SESSION
pub session_exactly : (es : Log) → InBytes es → (is_connected (after ours es).link.phase.state ≡ true) ↔ SomeSession ours es
session_exactly es b = (λ c. connected_session es b c, λ x. (session_link es x.talk b x.session).connected)
