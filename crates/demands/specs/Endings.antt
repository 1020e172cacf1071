-- What ends an initialization and a session, told by the history (document 01, "Events and what the link does"). That a link's reports are exactly
-- these is stated in DemandTwo.antt.
-- Assumes nothing.
use Rattle.std.specs.Prelude.{ℕ, ◌≤◌, ◌<◌, true, List, ◌≡◌, ◌↔◌, ◌⊎◌}
use Rattle.base.specs.Numbers.{taken}
use Rattle.base.specs.Reports.{connected_report, failed_report, down_report, idle_over, dropped, restarted}
use Rattle.events.specs.declared.Kind.TheVariants.{Address, WakeUp, Drop}
use Rattle.frame.specs.Read.{data_of}
use Rattle.events.specs.declared.Side.TheVariants.{Unit}
use Rattle.events.specs.declared.Event.{Event}
use Rattle.demands.specs.Logs.{Log, ◌▷◌, number_after, taken_of}
use Rattle.demands.specs.Refusals.{Not}
use Rattle.demands.specs.Histories.{Machine, reports_to, Says, Tells}
use Rattle.demands.specs.Idle.{idle_until}
use Rattle.demands.specs.Starts.{Low}
use Rattle.demands.specs.Sessions.{stops, pending_in, Talk, IdleOver}
use Rattle.demands.specs.Messages.{EndsInFrame}

-- A or W
abbrev pub Starter : Event → Type 0
Starter e = (e.kind ≡ Address) ⊎ (e.kind ≡ WakeUp)

-- "A or W needs 300 ms from the old mark to its start, else report 8 and down", with the idle time of the history for the 300 ms
abbrev pub NotIdle : Machine → Log → Event → Type 0
NotIdle m log e = Starter e × (e.start.0 < idle_until m log e)

-- "Low for 24 to 26 ms, else report 4 reason 3 at once."; the idle time is "judged before the length of the low"
abbrev pub WrongLow : Machine → Log → Event → Type 0
WrongLow m log e = (e.kind ≡ WakeUp) × (idle_until m log e ≤ e.start.0) × Not (Low e)

-- ---- AN INITIALIZATION of the history: from an address or wake-up on that was idle long enough and, if a wake-up, is low for 24 to 26 ms, as
-- long as no report 3 or 4 is made.
pub data Starting (m : Machine) : Log → Type 0 where
  starts : {es : Log} {e : Event} → number_after (taken_of es) e ≡ taken → Starter e → Not (NotIdle m (taken_of es) e) → Not (WrongLow m (taken_of es) e)
      → Starting m (es ▷ e)
  goes_on : {es : Log} {e : Event} → Starting m es → Not (Says connected_report (reports_to m es e)) → Not (Says failed_report (reports_to m es e))
      → Starting m (es ▷ e)

-- ---- what ends a session
-- "a unit frame starting C2 after a tester frame starting 82": in the session t, after es, the event e ends a message of the unit in a frame that answers a
-- stop, by its data and that of the latest tester frame
pub record AnswersStop (m : Machine) (t : Talk) (es : Log) (e : Event) : Type 0 where
  pub bytes : List ℕ
  pub ends : EndsInFrame m es e bytes
  pub unit : ends.first.side ≡ Unit
  pub stop : stops (pending_in t.pair t.frames) (data_of t.pair.kb1 t.pair.kb2 bytes) ≡ true

-- report 7 and its reasons, in the session t: 2 "no first reply awaited, P3 max passed"; "if connected, report 7 (reason 4 for A or W, 3 for D)". (Reason
-- 1 is for a stop that the unit answers: `stops_exactly`.)
pub record Downs (m : Machine) (es : Log) (e : Event) (t : Talk) : Type 0 where
  pub idle : Tells down_report idle_over (reports_to m es e)
      ↔ ((number_after (taken_of es) e ≡ taken) × IdleOver m es e t)
  pub dropped : Tells down_report dropped (reports_to m es e)
      ↔ ((number_after (taken_of es) e ≡ taken) × (e.kind ≡ Drop) × Not (IdleOver m es e t))
  pub restarted : Tells down_report restarted (reports_to m es e)
      ↔ ((number_after (taken_of es) e ≡ taken) × Starter e × Not (IdleOver m es e t))
