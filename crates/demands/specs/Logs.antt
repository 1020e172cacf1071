-- Events in order, and what document 01 says of them without a link: clock, mark, bytes heard, and which events are taken. A log grows at its right
-- end, so that it reads as the events came.
-- Assumes nothing.
use Rattle.std.specs.Prelude.{ℕ, ◌+◌, ◌<◌, List, [], ◌∷◌, ◌++◌, eqb, leb, if◌then◌else◌}
use Rattle.base.specs.Numbers.{taken}
use Rattle.units.specs.Units.{micros}
use Rattle.units.specs.declared.Micros.{Micros}
use Rattle.events.specs.Events.{is_byte, marks, refusal}
use Rattle.events.specs.declared.Side.{Side}
use Rattle.events.specs.declared.Side.TheVariants.{Nobody}
use Rattle.events.specs.declared.Event.{Event}
use Rattle.reports.specs.Counting.{most}

infixl 40 ◌▷◌
pub data Log : Type 0 where
  none : Log
  ◌▷◌ : Log → Event → Log

-- "Clock: end of the last event taken."
unfoldable pub clock_of : Log → Micros
clock_of none = micros 0
clock_of (log ▷ e) = e.end

-- "Mark: end of the last A, W or B taken, 0 when fresh."
unfoldable pub mark_of : Log → Micros
mark_of none = micros 0
mark_of (log ▷ e) = if marks e.kind then e.end else mark_of log

-- the events, oldest first
unfoldable pub events_of : Log → List Event
events_of none = []
events_of (log ▷ e) = events_of log ++ (e ∷ [])

-- how many events
unfoldable pub count_of : Log → ℕ
count_of none = 0
count_of (log ▷ e) = count_of log + 1

-- "Bytes heard are those of B events taken; an address value is none of them": their values
unfoldable pub heard_of : Log → List ℕ
heard_of none = []
heard_of (log ▷ e) = heard_of log ++ (if is_byte e.kind then e.value ∷ [] else [])

-- the same bytes, as events
unfoldable pub bytes_of : Log → List Event
bytes_of none = []
bytes_of (log ▷ e) = bytes_of log ++ (if is_byte e.kind then e ∷ [] else [])

-- the values of bytes
unfoldable pub values_of : List Event → List ℕ
values_of [] = []
values_of (b ∷ bs) = b.value ∷ values_of bs

-- whose the last of these bytes is
unfoldable pub last_side : List Event → Side
last_side [] = Nobody
last_side (b ∷ []) = b.side
last_side (b ∷ c ∷ bs) = last_side (c ∷ bs)

-- THE EVENTS TAKEN. The number of an event after events taken: its conditions are those of demand 1, at the clock and the number of those events.
-- (Lent counts that only the link changes are never above the number that 4 names: `never_above`.)
unfoldable pub number_after : Log → Event → ℕ
number_after log e = refusal (clock_of log) (leb most (count_of log)) e

-- "refused ones passed over"
unfoldable pub taken_of : Log → Log
taken_of none = none
taken_of (es ▷ e) = if eqb (number_after (taken_of es) e) taken then taken_of es ▷ e else taken_of es

-- the bytes heard, of all events
abbrev pub heard_in : Log → List ℕ
heard_in es = heard_of (taken_of es)

-- values are bytes, as in the code's events (`u8`)
unfoldable pub InBytes : Log → Type 0
InBytes none = Unit {0}
InBytes (es ▷ e) = InBytes es × (e.value < 256)

-- one log begins another
pub data Begins (front : Log) : Log → Type 0 where
  whole : Begins front front
  more : {es : Log} {e : Event} → Begins front es → Begins front (es ▷ e)
