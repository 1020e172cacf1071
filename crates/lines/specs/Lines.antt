-- A line of a listing's input, read byte by byte (document 01, "The listing"): "the event's letter, then those of side, two hex digits and decimal
-- times (microseconds) that its kind has, one space between". A line is read without its line feed.
-- Assumes nothing.
use Rattle.std.specs.Prelude.{ℕ, ◌+◌, ◌-◌, ◌*◌, ◌%◌, Bool, true, false, ◌&&◌, List, [], ◌∷◌, ◌==◌, nat_lt, if◌then◌else◌}
use Rattle.base.specs.Sums.{byte_sum}
use Rattle.words.specs.Digits.{is_digit, hex_of}
use Rattle.units.specs.Units.{micros}
use Rattle.events.specs.Events.{kind_by, side_by}
use Rattle.events.specs.declared.Kind.{Kind}
use Rattle.events.specs.declared.Kind.TheVariants.{Address, WakeUp, Byte, Tick, Drop, Other}
use Rattle.events.specs.declared.Side.{Side}
use Rattle.events.specs.declared.Side.TheVariants.{Tester, Unit, Nobody}
use Rattle.events.specs.declared.Event.{Event}
use Rattle.lines.specs.declared.Place.{Place}
use Rattle.lines.specs.declared.Place.TheVariants.{Letter, BeforeSide, AtSide, BeforeHex, High, Low, BeforeTime, Time, BeforeStart, Start, End, Nowhere}
use Rattle.lines.specs.declared.Reading.{Reading}

abbrev pub space : ℕ
space = 0x20

-- ---- digits
-- a number with one digit more: 12 digits in front of it are kept, and no time has more (`few_digits`)
unfoldable pub digit_on : ℕ → ℕ → ℕ
digit_on n b = n % 1_000_000_000_000 * 10 + (b - 0x30)

-- ---- what was read
-- of a kind no more than the letter
abbrev pub begun : Kind → Place → Reading
begun kind place = record { start = 0; end = 0; digits = 0; value = 0; kind = kind; side = Nobody; place = place }

-- nothing yet
abbrev pub fresh_reading : Reading
fresh_reading = begun Other Letter

-- "nor can any other form": what does not fit makes the whole line one that can't be read
abbrev pub unreadable : Reading
unreadable = begun Other Nowhere

abbrev pub timed : Reading → ℕ → ℕ → ℕ → Place → Reading
timed r start end digits place = record { start = start; end = end; digits = digits; value = r.value; kind = r.kind; side = r.side; place = place }

abbrev pub valued : Reading → Side → ℕ → Place → Reading
valued r side value place = record { start = r.start; end = r.end; digits = r.digits; value = value; kind = r.kind; side = side; place = place }

-- ---- one byte
-- "the event's letter": A has a value and two times, W two times, B a side, a value and two times, T and D one time
unfoldable pub lettered : Kind → Reading
lettered Address = begun Address BeforeHex
lettered WakeUp = begun WakeUp BeforeStart
lettered Byte = begun Byte BeforeSide
lettered Tick = begun Tick BeforeTime
lettered Drop = begun Drop BeforeTime
lettered Other = unreadable

-- "one space between"
unfoldable pub spaced : Reading → ℕ → Place → Reading
spaced r b next = if b == space then timed r r.start r.end r.digits next else unreadable

-- the side: t or e
unfoldable pub sided : Reading → Side → Reading
sided r Tester = valued r Tester r.value BeforeHex
sided r Unit = valued r Unit r.value BeforeHex
sided r Nobody = unreadable

-- "two hex digits"
unfoldable pub high_read : Reading → ℕ → Reading
high_read r b = if nat_lt 15 (hex_of b) then unreadable else valued r r.side (hex_of b * 16) Low

unfoldable pub low_read : Reading → ℕ → Reading
low_read r b = if nat_lt 15 (hex_of b) then unreadable else valued r r.side (byte_sum r.value (hex_of b)) BeforeStart

-- "a time has 1 to 13 digits"
unfoldable pub takes_digit : Reading → ℕ → Bool
takes_digit r b = is_digit b && nat_lt r.digits 13

-- the one time of a tick or a drop, which stands as its start and its end
unfoldable pub time_read : Reading → ℕ → Reading
time_read r b = if takes_digit r b then timed r (digit_on r.start b) (digit_on r.start b) (r.digits + 1) Time else unreadable

-- the first of two times, and the space after it
unfoldable pub start_read : Reading → ℕ → Reading
start_read r b =
    if takes_digit r b then timed r (digit_on r.start b) r.end (r.digits + 1) Start else
    if b == space && nat_lt 0 r.digits then timed r r.start 0 0 End else unreadable

-- the second
unfoldable pub end_read : Reading → ℕ → Reading
end_read r b = if takes_digit r b then timed r r.start (digit_on r.end b) (r.digits + 1) End else unreadable

abbrev pub read_at : Place → Reading → ℕ → Reading
read_at Letter r b = lettered (kind_by b)
read_at BeforeSide r b = spaced r b AtSide
read_at AtSide r b = sided r (side_by b)
read_at BeforeHex r b = spaced r b High
read_at High r b = high_read r b
read_at Low r b = low_read r b
read_at BeforeTime r b = spaced r b Time
read_at Time r b = time_read r b
read_at BeforeStart r b = spaced r b Start
read_at Start r b = start_read r b
read_at End r b = end_read r b
read_at Nowhere r b = unreadable

-- a byte of the line is read
unfoldable pub read_byte : Reading → ℕ → Reading
read_byte r b = read_at r.place r b

-- ---- the line's end
unfoldable pub is_letter : Place → Bool
is_letter Letter = true
is_letter BeforeSide = false
is_letter AtSide = false
is_letter BeforeHex = false
is_letter High = false
is_letter Low = false
is_letter BeforeTime = false
is_letter Time = false
is_letter BeforeStart = false
is_letter Start = false
is_letter End = false
is_letter Nowhere = false

-- nothing of the line was read
unfoldable pub is_empty : Reading → Bool
is_empty r = is_letter r.place

-- the last of its times is being read
unfoldable pub is_last : Place → Bool
is_last Letter = false
is_last BeforeSide = false
is_last AtSide = false
is_last BeforeHex = false
is_last High = false
is_last Low = false
is_last BeforeTime = false
is_last Time = true
is_last BeforeStart = false
is_last Start = false
is_last End = true
is_last Nowhere = false

-- the line has all that its kind has
unfoldable pub is_whole : Reading → Bool
is_whole r = is_last r.place && nat_lt 0 r.digits

-- A line that can't be read stands as an event of no kind, which every link refuses with 1 (`unread_refused`).
abbrev pub no_event : Event
no_event = record { start = micros 0; end = micros 0; kind = Other; side = Nobody; value = 0 }

unfoldable pub event_of : Reading → Event
event_of r =
    if is_whole r then record { start = micros r.start; end = micros r.end; kind = r.kind; side = r.side; value = r.value } else no_event

-- ---- A LINE: its event
unfoldable pub read_all : Reading → List ℕ → Reading
read_all r [] = r
read_all r (b ∷ bs) = read_all (read_byte r b) bs

unfoldable pub line_of : List ℕ → Event
line_of l = event_of (read_all fresh_reading l)
