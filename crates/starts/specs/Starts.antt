-- The two initializations (document 01, "Slow." and "Fast."; ISO 14230-2, clauses 5.2.4.2.2 and 5.2.4.2.3), as the stages that each goes through.
-- What is expected of the next byte is told by the stage: who sends it, how early and how late it may start, and which values fit.
-- Assumes nothing.
use Rattle.std.specs.Prelude.{ℕ, ◌-◌, Bool, true, false, not, ◌&&◌, ◌||◌, eqb, if◌then◌else◌}
use Rattle.base.specs.Sums.{byte_sum}
use Rattle.base.specs.Reports.{no_reason, wrong_side, too_early, misfit}
use Rattle.units.specs.Units.{micros, is_earlier}
use Rattle.units.specs.declared.Micros.{Micros}
use Rattle.keys.specs.Keys.{pair_of, is_good}
use Rattle.keys.specs.Editions.{is_slow_pair}
use Rattle.events.specs.Events.{same_side}
use Rattle.events.specs.declared.Side.{Side}
use Rattle.events.specs.declared.Side.TheVariants.{Tester, Unit}
use Rattle.starts.specs.declared.Stage.{Stage}
use Rattle.starts.specs.declared.Stage.TheVariants.{Sync, FirstKey, SecondKey, KeyBack, AddressBack}
use Rattle.starts.specs.declared.Stage.TheVariants.{AskFormat, AskTarget, AskSource, AskService, AskSum}
use Rattle.starts.specs.declared.Stage.TheVariants.{Format, Target, Source, LongTarget, LongSource, Length, Service, KeyOne, KeyTwo, Sum}
use Rattle.starts.specs.declared.Due.{Due}
use Rattle.starts.specs.declared.Start.{Start}

-- ---- what is expected of the next byte: from whom, how long after, and whether it is the first byte of a fast start or the last of either
-- "Slow. From the address: unit 55 after 60 to 300 ms; KB1 after 5 to 20; KB2 after 0 to 20, pair good; tester 255 minus KB2 after 25 to 50; unit
-- 255 minus address after 25 to 50."
-- "Fast. .. Tester's first byte starts 49 to 51 ms after the fall. The request is 81 or C1, target, source, 81, checksum; gaps up to 20 ms. The
-- reply starts 25 to 50 ms later, gaps up to 20 ms, any of the four layouts in mode 00 or 10, data C1 KB1 KB2, pair good."
abbrev pub due : Side → ℕ → ℕ → Due
due side earliest latest = record { earliest = micros earliest; latest = micros latest; side = side; opening = false; last = false }

abbrev pub first_due : Side → ℕ → ℕ → Due
first_due side earliest latest = record { earliest = micros earliest; latest = micros latest; side = side; opening = true; last = false }

abbrev pub last_due : Side → ℕ → ℕ → Due
last_due side earliest latest = record { earliest = micros earliest; latest = micros latest; side = side; opening = false; last = true }

unfoldable pub due_at : Stage → Due
due_at Sync = due Unit 60_000 300_000
due_at FirstKey = due Unit 5_000 20_000
due_at SecondKey = due Unit 0 20_000
due_at KeyBack = due Tester 25_000 50_000
due_at AddressBack = last_due Unit 25_000 50_000
due_at AskFormat = first_due Tester 49_000 51_000
due_at AskTarget = due Tester 0 20_000
due_at AskSource = due Tester 0 20_000
due_at AskService = due Tester 0 20_000
due_at AskSum = due Tester 0 20_000
due_at Format = due Unit 25_000 50_000
due_at Target = due Unit 0 20_000
due_at Source = due Unit 0 20_000
due_at LongTarget = due Unit 0 20_000
due_at LongSource = due Unit 0 20_000
due_at Length = due Unit 0 20_000
due_at Service = due Unit 0 20_000
due_at KeyOne = due Unit 0 20_000
due_at KeyTwo = due Unit 0 20_000
due_at Sum = last_due Unit 0 20_000

-- Where the time runs from: the tester's first byte is timed from the fall of the wake-up, every other one from the mark.
unfoldable pub origin_of : Stage → Micros → Micros → Micros
origin_of stage fall mark = if (due_at stage).opening then fall else mark

-- ---- which values fit
-- "255 minus KB2", "255 minus address"
unfoldable pub complement : ℕ → ℕ
complement x = 255 - x

-- "any of the four layouts in mode 00 or 10" of three data bytes: with target and source or not, the length in the format byte or after it
unfoldable pub is_reply_format : ℕ → Bool
is_reply_format v = eqb v 0x03 || eqb v 0x00 || eqb v 0x83 || eqb v 0x80

-- "Each byte is judged as it comes, but checksum and pair both at the checksum byte." "Layout isn't checked against KB1 here, and the addresses may
-- be any." KB1 of a slow start is judged with KB2; after address 33 a car's pair will do too (document 02, "Five"), but "Fast starts still need 14230 key
-- bytes".
abbrev pub fits_at : Stage → Start → ℕ → Bool
fits_at Sync s v = eqb v 0x55
fits_at FirstKey s v = true
fits_at SecondKey s v = is_slow_pair s.address (pair_of s.pair.kb1 v)
fits_at KeyBack s v = eqb v (complement s.pair.kb2)
fits_at AddressBack s v = eqb v (complement s.address)
fits_at AskFormat s v = (eqb v 0x81 || eqb v 0xC1)
fits_at AskTarget s v = true
fits_at AskSource s v = true
fits_at AskService s v = eqb v 0x81
fits_at AskSum s v = eqb v s.sum
fits_at Format s v = is_reply_format v
fits_at Target s v = true
fits_at Source s v = true
fits_at LongTarget s v = true
fits_at LongSource s v = true
fits_at Length s v = eqb v 0x03
fits_at Service s v = eqb v 0xC1
fits_at KeyOne s v = true
fits_at KeyTwo s v = true
fits_at Sum s v = (eqb v s.sum && is_good s.pair)

unfoldable pub fits : Start → ℕ → Bool
fits s v = fits_at s.stage s v

-- ---- judging a byte, for both
-- "Check side (reason 4), early (5), value or structure (6), in that order; key pair and checksum belong to 6."
unfoldable pub is_from : Start → Side → Bool
is_from s side = same_side side (due_at s.stage).side

unfoldable pub is_early : Start → Micros → Bool
is_early s gap = is_earlier gap (due_at s.stage).earliest

unfoldable pub judged : Start → Side → ℕ → Micros → ℕ
judged s side v gap =
    if not (is_from s side) then wrong_side else
    if is_early s gap then too_early else
    if fits s v then no_reason else misfit

-- and late: "In initialization, the present window's end passed"
unfoldable pub is_over : Start → Micros → Bool
is_over s gap = is_earlier (due_at s.stage).latest gap

-- ---- from a byte that fits to the next one
-- the four layouts of the reply: 83 has target and source, 80 these and a length byte, 00 a length byte, 03 neither
unfoldable pub after_format : ℕ → Stage
after_format v =
    if eqb v 0x83 then Target else
    if eqb v 0x80 then LongTarget else
    if eqb v 0x00 then Length else Service

-- one byte more, and its next stage: the sum counts it; KB1 and KB2 are kept as they come; after the request's checksum the sum of the reply begins
abbrev pub passed_on : Start → ℕ → Stage → Start
passed_on s v stage = record { stage = stage; address = s.address; sum = byte_sum s.sum v; pair = s.pair }

abbrev pub kept_one : Start → ℕ → Stage → Start
kept_one s v stage = record { stage = stage; address = s.address; sum = byte_sum s.sum v; pair = pair_of v s.pair.kb2 }

abbrev pub kept_two : Start → ℕ → Stage → Start
kept_two s v stage = record { stage = stage; address = s.address; sum = byte_sum s.sum v; pair = pair_of s.pair.kb1 v }

abbrev pub requested : Start → Stage → Start
requested s stage = record { stage = stage; address = s.address; sum = 0; pair = s.pair }

abbrev pub onward_at : Stage → Start → ℕ → Start
onward_at Sync s v = passed_on s v FirstKey
onward_at FirstKey s v = kept_one s v SecondKey
onward_at SecondKey s v = kept_two s v KeyBack
onward_at KeyBack s v = passed_on s v AddressBack
onward_at AddressBack s v = passed_on s v AddressBack
onward_at AskFormat s v = passed_on s v AskTarget
onward_at AskTarget s v = passed_on s v AskSource
onward_at AskSource s v = passed_on s v AskService
onward_at AskService s v = passed_on s v AskSum
onward_at AskSum s v = requested s Format
onward_at Format s v = passed_on s v (after_format v)
onward_at Target s v = passed_on s v Source
onward_at Source s v = passed_on s v Service
onward_at LongTarget s v = passed_on s v LongSource
onward_at LongSource s v = passed_on s v Length
onward_at Length s v = passed_on s v Service
onward_at Service s v = passed_on s v KeyOne
onward_at KeyOne s v = kept_one s v KeyTwo
onward_at KeyTwo s v = kept_two s v Sum
onward_at Sum s v = passed_on s v Sum

unfoldable pub onward : Start → ℕ → Start
onward s v = onward_at s.stage s v

-- the initialization's last byte
unfoldable pub is_last : Stage → Bool
is_last stage = (due_at stage).last

-- ---- how they begin: none, a slow one from its address, a fast one
unfoldable pub no_start : Start
no_start = record { stage = Sync; address = 0; sum = 0; pair = pair_of 0 0 }

unfoldable pub slow_start : ℕ → Start
slow_start address = record { stage = Sync; address = address; sum = 0; pair = pair_of 0 0 }

unfoldable pub fast_start : Start
fast_start = record { stage = AskFormat; address = 0; sum = 0; pair = pair_of 0 0 }
