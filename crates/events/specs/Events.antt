-- Events, and which of them are refused (document 01, "Events and what the link does", "Numbers a caller may get back").
-- Assumes nothing.
use Rattle.std.specs.Prelude.{ℕ, Bool, true, false, ◌&&◌, ◌||◌, eqb, if◌then◌else◌}
use Rattle.std.proofs.Math.Option.{Option, none, some}
use Rattle.base.specs.Numbers.{taken, unknown, too_late, out_of_order, too_many}
use Rattle.units.specs.Units.{micros, is_earlier}
use Rattle.units.specs.declared.Micros.{Micros}
use Rattle.events.specs.declared.Kind.{Kind}
use Rattle.events.specs.declared.Kind.TheVariants.{Address, WakeUp, Byte, Tick, Drop, Other}
use Rattle.events.specs.declared.Side.{Side}
use Rattle.events.specs.declared.Side.TheVariants.{Tester, Unit, Nobody}
use Rattle.events.specs.declared.Event.{Event}

-- "Events: A address (value, start, end), W wake-up (fall, rise), B byte (side t tester or e unit, value, start, end), T tick (time), D drop (time)."
-- A wake-up's fall stands as its start and its rise as its end; the time of a tick or a drop stands as both. What a kind does not have is not
-- looked at. The letter of each kind; `Other` is what has none:
abbrev pub kind_letter : Kind → Option ℕ
kind_letter Address = some 0x41
kind_letter WakeUp = some 0x57
kind_letter Byte = some 0x42
kind_letter Tick = some 0x54
kind_letter Drop = some 0x44
kind_letter Other = none

-- "side t tester or e unit"; `Nobody` has no letter
abbrev pub side_letter : Side → Option ℕ
side_letter Tester = some 0x74
side_letter Unit = some 0x65
side_letter Nobody = none

-- whether a byte is this letter
abbrev pub is_that : Option ℕ → ℕ → Bool
is_that none b = false
is_that (some letter) b = eqb b letter

-- the kind whose letter it is, and `Other` where it is no kind's
unfoldable pub kind_by : ℕ → Kind
kind_by letter =
    if is_that (kind_letter Address) letter then Address else
    if is_that (kind_letter WakeUp) letter then WakeUp else
    if is_that (kind_letter Byte) letter then Byte else
    if is_that (kind_letter Tick) letter then Tick else
    if is_that (kind_letter Drop) letter then Drop else Other

-- the side whose letter it is, and `Nobody` where it is neither's
unfoldable pub side_by : ℕ → Side
side_by letter =
    if is_that (side_letter Tester) letter then Tester else
    if is_that (side_letter Unit) letter then Unit else Nobody

unfoldable pub is_other : Kind → Bool
is_other Address = false
is_other WakeUp = false
is_other Byte = false
is_other Tick = false
is_other Drop = false
is_other Other = true

unfoldable pub is_byte : Kind → Bool
is_byte Address = false
is_byte WakeUp = false
is_byte Byte = true
is_byte Tick = false
is_byte Drop = false
is_byte Other = false

-- "Mark: end of the last A, W or B taken"
unfoldable pub marks : Kind → Bool
marks Address = true
marks WakeUp = true
marks Byte = true
marks Tick = false
marks Drop = false
marks Other = false

unfoldable pub is_tester : Side → Bool
is_tester Tester = true
is_tester Unit = false
is_tester Nobody = false

unfoldable pub is_unit : Side → Bool
is_unit Tester = false
is_unit Unit = true
is_unit Nobody = false

unfoldable pub is_nobody : Side → Bool
is_nobody Tester = false
is_nobody Unit = false
is_nobody Nobody = true

unfoldable pub same_side : Side → Side → Bool
same_side Tester b = is_tester b
same_side Unit b = is_unit b
same_side Nobody b = is_nobody b

-- 1: "event kind or side unknown"; only a byte has a side
unfoldable pub is_unknown : Event → Bool
is_unknown e = is_other e.kind || (is_byte e.kind && is_nobody e.side)

-- 2: "a time above 4,000,000,000,000 microseconds"
abbrev pub latest : Micros
latest = micros 4_000_000_000_000

unfoldable pub is_too_late : Event → Bool
is_too_late e = is_earlier latest e.start || is_earlier latest e.end

-- 3: "start after end, or start before the link's clock"
unfoldable pub is_out_of_order : Micros → Event → Bool
is_out_of_order clock e = is_earlier e.end e.start || is_earlier e.start clock

-- "Where several apply, the smallest number is given." Whether 4 applies, `full`, is asked of the link's events and the lent counts.
unfoldable pub refusal : Micros → Bool → Event → ℕ
refusal clock full e =
    if is_unknown e then unknown else
    if is_too_late e then too_late else
    if is_out_of_order clock e then out_of_order else
    if full then too_many else taken
