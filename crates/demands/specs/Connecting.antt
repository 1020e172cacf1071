-- When an event completes an initialization: a condition on the events taken before it and, for the idle time, on their reports. Assumes nothing.
use Rattle.std.specs.Prelude.{ℕ, ◌+◌, ◌≤◌, true, List, [], ◌∷◌, ◌≡◌, ◌⊎◌, length}
use Rattle.base.specs.Reports.{connected_report, no_reason}
use Rattle.keys.specs.declared.Pair.{Pair}
use Rattle.events.specs.declared.Kind.TheVariants.{Byte, Tick}
use Rattle.events.specs.declared.Event.{Event}
use Rattle.reports.specs.declared.Report.{Report}
use Rattle.demands.specs.Logs.{Log, none, ◌▷◌, heard_of}
use Rattle.demands.specs.Histories.{Machine}
use Rattle.demands.specs.Idle.{idle_until}
use Rattle.demands.specs.Editions.{is_link_pair}
use Rattle.demands.specs.Starts.{SlowStart, FastStart}

-- a log is `before`, then the event s, and then only ticks and bytes, of which the bytes are bs
pub data Since (s : Event) (before : Log) : Log → Log → Type 0 where
  here : Since s before (before ▷ s) none
  tick : {log bs : Log} {e : Event} → e.kind ≡ Tick → Since s before log bs → Since s before (log ▷ e) bs
  byte : {log bs : Log} {e : Event} → e.kind ≡ Byte → Since s before log bs → Since s before (log ▷ e) (bs ▷ e)

-- THE EVENT e COMPLETES AN INITIALIZATION: the log ends in an address or wake-up that came no sooner than it may, and then only ticks and bytes, and these
-- bytes with the byte e are a good slow or fast start with these key bytes. From when on an event may start one after a log is `until`; ..
pub record ConnectsBy (until : Log → Event → ℕ) (log : Log) (e : Event) : Type 0 where
  pub start : Event
  pub before : Log
  pub bytes : Log
  pub pair : Pair
  pub since : Since start before log bytes
  pub idle : until before start ≤ start.start.0
  pub last : e.kind ≡ Byte
  pub good : SlowStart start pair (bytes ▷ e) ⊎ FastStart start pair (bytes ▷ e)

-- .. it is once the line was idle as long as the history asks
abbrev pub Connects : Machine → Log → Event → Type 0
Connects m log e = ConnectsBy (idle_until m) log e

-- WHAT IT IS ANSWERED WITH
pub record Connected {until : Log → Event → ℕ} (log : Log) (e : Event) (c : ConnectsBy until log e) (rs : List Report) : Type 0 where
  -- its one report: from the first byte after the start, as many as came since, at the event's end
  pub reports : rs
      ≡ (record {
        first = length (heard_of c.before);
        bytes = length (heard_of c.bytes) + 1;
        time = e.end;
        number = connected_report;
        reason = no_reason;
      } ∷ [])
  -- its key bytes are a good pair, or a car's
  pub good : is_link_pair c.pair ≡ true
