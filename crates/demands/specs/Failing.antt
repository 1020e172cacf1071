-- How an initialization fails, told by the history (document 01, "Slow.", "Fast.", "A byte that fails joins its initialization", "In initialization, the
-- present window's end passed"). The place that is due next follows from the start event and the bytes after it (Starts.antt). Stated
-- of any link in DemandTwo.antt; that it holds of ours is proved in proofs/Endings/FailsExactly.antt.
-- Assumes nothing.
use Rattle.std.specs.Prelude.{◌+◌, ◌<◌, Bool, true, false, ◌≡◌, ◌↔◌}
use Rattle.base.specs.Numbers.{taken}
use Rattle.base.specs.Reports.{connected_report, failed_report, window_over, wrong_side, too_early, misfit}
use Rattle.units.specs.declared.Micros.{Micros}
use Rattle.events.specs.declared.Kind.TheVariants.{Byte, Tick}
use Rattle.events.specs.declared.Event.{Event}
use Rattle.demands.specs.Logs.{Log, ◌▷◌, number_after, taken_of, events_of}
use Rattle.demands.specs.Refusals.{Not}
use Rattle.demands.specs.Histories.{Machine, reports_to, Says, Tells}
use Rattle.demands.specs.Starts.{Fits, Place, due, due_from}
use Rattle.demands.specs.Connecting.{Since}
use Rattle.demands.specs.Endings.{Starter, Starting}

-- AN INITIALIZATION UNDER WAY in a log: the address or wake-up that started it, the events before, and its bytes so far. A log has no two. (That it lasts
-- still is `Starting`, which stands beside it.)
pub record UnderWay (log : Log) : Type 0 where
  pub start : Event
  pub before : Log
  pub bytes : Log
  pub starter : Starter start
  pub since : Since start before log bytes

module _ {log : Log} (u : UnderWay log) where
  -- the place that is due, and the time that its window runs from
  abbrev pub due_now : Place
  due_now = due u.start (events_of u.bytes)

  abbrev pub from : Micros
  from = due_from u.start u.bytes

  -- "In initialization, the present window's end passed". "'Passed' is strict".
  abbrev pub WindowOver : Event → Type 0
  WindowOver e = from.0 + due_now.latest < e.start.0

  -- "Check side (reason 4), early (5), value or structure (6), in that order; key pair and checksum belong to 6."
  abbrev pub SideDue : Event → Type 0
  SideDue e = e.side ≡ due_now.side

  abbrev pub TooEarly : Event → Type 0
  TooEarly e = e.start.0 < from.0 + due_now.earliest

  abbrev pub ValueFits : Event → Type 0
  ValueFits e = Fits due_now.value e.value

  abbrev pub AllRight : Event → Type 0
  AllRight e = SideDue e × Not (TooEarly e) × ValueFits e

  -- the byte that is due is the initialization's last
  abbrev pub ends_here : Bool
  ends_here = due_now.last

-- a byte that is taken and finds the initialization with its window open
abbrev pub ByteInTime : (es : Log) → UnderWay (taken_of es) → Event → Type 0
ByteInTime es u e = (number_after (taken_of es) e ≡ taken) × (e.kind ≡ Byte) × Not (WindowOver u e)

-- HOW THE INITIALIZATION THAT IS UNDER WAY FAILS, by the reasons of report 4, and how it goes on and ends. (Reason 2 is `closed_start_exactly`.)
pub record Fails (m : Machine) (es : Log) (e : Event) (u : UnderWay (taken_of es)) : Type 0 where
  -- "the present window's end passed: report 4 reason 1"
  pub over : Tells failed_report window_over (reports_to m es e) ↔ ((number_after (taken_of es) e ≡ taken) × WindowOver u e)
  -- "side (reason 4), early (5), value or structure (6), in that order"
  pub side : Tells failed_report wrong_side (reports_to m es e) ↔ (ByteInTime es u e × Not (SideDue u e))
  pub early : Tells failed_report too_early (reports_to m es e) ↔ (ByteInTime es u e × SideDue u e × TooEarly u e)
  pub value : Tells failed_report misfit (reports_to m es e) ↔ (ByteInTime es u e × SideDue u e × Not (TooEarly u e) × Not (ValueFits u e))
  -- "Success is report 3.": the last byte
  pub connects : Says connected_report (reports_to m es e) ↔ (ByteInTime es u e × AllRight u e × (ends_here u ≡ true))
  -- any other byte that is right, and a tick in time, let it go on
  pub goes : ByteInTime es u e → AllRight u e → ends_here u ≡ false → Starting m (es ▷ e)
  pub waits : number_after (taken_of es) e ≡ taken → e.kind ≡ Tick → Not (WindowOver u e) → Starting m (es ▷ e)
