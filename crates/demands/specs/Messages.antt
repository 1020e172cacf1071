-- Messages of a session, told by the history: from their first byte on, until `read` takes their bytes as a frame (document 01, "Connected."), or until they
-- are over (document 02, "Five"). What `read` refuses of them, however they go on, is no condition here: "mode 01 (5), form not announced .. (6), a length
-- place KB1 doesn't announce (8)", "length byte 0 (8), wrong checksum (9)"; nor is what is wrong with a car's message.
-- Assumes nothing.
use Rattle.std.specs.Prelude.{ℕ, ◌+◌, ◌≤◌, ◌<◌, true, List, [], ◌∷◌, ◌++◌, ◌≡◌, ◌⊎◌}
use Rattle.base.specs.Numbers.{taken}
use Rattle.base.specs.Reports.{frame_report}
use Rattle.events.specs.declared.Kind.TheVariants.{Byte, Tick}
use Rattle.events.specs.declared.Side.TheVariants.{Tester, Unit}
use Rattle.events.specs.declared.Event.{Event}
use Rattle.reports.specs.declared.Report.{Report}
use Rattle.demands.specs.Logs.{Log, ◌▷◌, mark_of, number_after, taken_of}
use Rattle.demands.specs.Refusals.{Not}
use Rattle.demands.specs.Histories.{Machine, Among}
use Rattle.demands.specs.Editions.{of_car, of_quick_car, is_frame, ends_itself}
use Rattle.demands.specs.Accounts.{named_by}
use Rattle.demands.specs.Sessions.{Talk, gap_before, OpensIn, EarlyAt, StrayAt}

-- "First byte of a message": a byte that opens one in the session t of the events before it, and is neither early nor stray
pub record OpensMessage (m : Machine) (t : Talk) (before : Log) (b : Event) : Type 0 where
  pub opens : OpensIn m before b t
  pub timely : Not (EarlyAt m before b t)
  pub expected : Not (StrayAt m before b t)

-- "20 ms passed since the mark" is not so at the event's start; "'Passed' is strict"
abbrev pub InTime : Log → Event → Type 0
InTime log e = e.start.0 ≤ (mark_of log).0 + 20_000

-- A MESSAGE: the log ends in its first byte b, and then in refused events, ticks in time, and bytes in time from the same side ("other side (7)"). A
-- byte goes on with it as long as the bytes before it did not end it: "A right checksum is report 1." (A car's does not end with its bytes.)
pub data Speaks (m : Machine) (t : Talk) (b : Event) : Log → List ℕ → Type 0 where
  begins : {before : Log} → OpensMessage m t before b → Speaks m t b (before ▷ b) (b.value ∷ [])
  refused : {log : Log} {bytes : List ℕ} {e : Event} → Speaks m t b log bytes → Not (number_after (taken_of log) e ≡ taken) → Speaks m t b (log ▷ e) bytes
  waits : {log : Log} {bytes : List ℕ} {e : Event} → Speaks m t b log bytes → number_after (taken_of log) e ≡ taken → e.kind ≡ Tick
      → InTime (taken_of log) e → Speaks m t b (log ▷ e) bytes
  grows : {log : Log} {bytes : List ℕ} {e : Event} → Speaks m t b log bytes → Not (ends_itself t.pair bytes ≡ true)
      → number_after (taken_of log) e ≡ taken → e.kind ≡ Byte → e.side ≡ b.side → InTime (taken_of log) e
      → Speaks m t b (log ▷ e) (bytes ++ (e.value ∷ []))

-- A CAR'S MESSAGE IS OVER as the event e comes, before it acts: "a message ends when 20 ms pass"; "under 94 94 a unit byte after a held tester message ends
-- it too". (t is its session, b its first byte.)
abbrev pub CutsIn : Talk → Event → Event → Type 0
CutsIn t b e = (of_quick_car t.pair ≡ true) × (b.side ≡ Tester) × (e.kind ≡ Byte) × (e.side ≡ Unit)

abbrev pub IsOver : Talk → Event → Log → Event → Type 0
IsOver t b es e = (of_car t.pair ≡ true) × ((20_000 < (gap_before (taken_of es) e).0) ⊎ CutsIn t b e)

-- THE EVENT e ENDS A MESSAGE IN A FRAME, under the session's key bytes: it is taken, and either it is a byte with which the message ends itself, or the
-- message of a car is over
pub record EndsInFrame (m : Machine) (es : Log) (e : Event) (bytes : List ℕ) : Type 0 where
  pub talk : Talk
  pub first : Event
  pub number : number_after (taken_of es) e ≡ taken
  pub frame : is_frame talk.pair first.side bytes ≡ true
  pub ends : (Speaks m talk first (es ▷ e) bytes × (e.kind ≡ Byte) × (ends_itself talk.pair bytes ≡ true))
      ⊎ (Speaks m talk first es bytes × IsOver talk first es e)

-- what is held after es is a message of a car that is right, and over as the event e comes: it ends in a frame
pub record EndsRight (m : Machine) (es : Log) (e : Event) : Type 0 where
  pub talk : Talk
  pub first : Event
  pub bytes : List ℕ
  pub message : Speaks m talk first es bytes
  pub over : IsOver talk first es e
  pub frame : is_frame talk.pair first.side bytes ≡ true

-- the unit's byte e ends the message of the tester that is held after es
pub record Interrupts (m : Machine) (es : Log) (e : Event) : Type 0 where
  pub talk : Talk
  pub first : Event
  pub bytes : List ℕ
  pub message : Speaks m talk first es bytes
  pub cuts : CutsIn talk first e

-- among these reports is a report 1 that names these of the bytes heard
pub record ReportsFrame (heard : List ℕ) (rs : List Report) (bytes : List ℕ) : Type 0 where
  pub report : Report
  pub made : Among report rs
  pub number : report.number ≡ frame_report
  pub names : named_by heard report ≡ bytes
