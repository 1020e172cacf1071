-- Messages of a connected link, byte by byte, and what a frame does (document 01, "Connected."; ISO 14230-2, clause 4). No byte of a message is kept but
-- its first seven data bytes. A car's message (document 02, "Five") is one whose part is `Free`; what is its own stands in Cars.antt.
-- Assumes nothing.
use Rattle.std.specs.Prelude.{ℕ, ◌+◌, ◌-◌, ◌*◌, ◌/◌, ◌%◌, ◌^◌, Bool, true, false, not, ◌&&◌, ◌||◌, List, [], ◌∷◌, eqb, ltb, length, if◌then◌else◌}
use Rattle.base.specs.Numbers.{taken}
use Rattle.base.specs.Sums.{byte_sum}
use Rattle.base.specs.Reports.{no_reason, broken_off, early, stray, mode_one, wrong_form, other_side, wrong_length, wrong_sum}
use Rattle.units.specs.Units.{is_earlier}
use Rattle.units.specs.declared.Micros.{Micros}
use Rattle.keys.specs.Keys.{takes_form, length_in_format, extra_length}
use Rattle.keys.specs.Editions.{edition_of, is_car}
use Rattle.keys.specs.declared.Form.{Form}
use Rattle.keys.specs.declared.Form.TheVariants.{Plain, Physical, Functional, Foreign}
use Rattle.keys.specs.declared.Pair.{Pair}
use Rattle.timing.specs.Answers.{Decoded}
use Rattle.timing.specs.Timing.{set_of, decoded_of, is_passed}
use Rattle.timing.specs.declared.Windows.{Windows}
use Rattle.timing.specs.declared.Codes.{Codes}
use Rattle.frame.specs.Layout.{format_form}
use Rattle.events.specs.Events.{is_tester, same_side}
use Rattle.events.specs.declared.Side.{Side}
use Rattle.talk.specs.declared.Reply.{Reply}
use Rattle.talk.specs.declared.Reply.TheVariants.{Never, First, Further}
use Rattle.talk.specs.declared.Request.{Request}
use Rattle.talk.specs.declared.Request.TheVariants.{Ordinary, Stop, OwnTiming, NewTiming, Stopped}
use Rattle.talk.specs.declared.Part.{Part}
use Rattle.talk.specs.declared.Part.TheVariants.{Target, Source, Length, Data, Sum, Free}
use Rattle.talk.specs.declared.Message.{Message}
use Rattle.talk.specs.Cars.{car_reason, car_begun, car_grown}

-- ---- the reply that may come
unfoldable pub is_first : Reply → Bool
is_first Never = false
is_first First = true
is_first Further = false

-- ---- the first byte of a message
-- "from the tester, early (reason 3) while a first reply is awaited or the gap is under P3 min."
unfoldable pub tester_turn : Reply → Windows → Micros → ℕ
tester_turn reply w gap = if is_first reply || is_earlier gap w.p3min then early else no_reason

-- "From the unit, stray (4) unless a first or further reply may come and the gap is at most P2 max; then early (3) under P2 min."
unfoldable pub is_stray : Reply → Windows → Micros → Bool
is_stray Never w gap = true
is_stray First w gap = is_passed w.p2max gap
is_stray Further w gap = is_passed w.p2max gap

unfoldable pub is_hasty : Windows → Micros → Bool
is_hasty w gap = is_earlier gap w.p2min

unfoldable pub unit_turn : Reply → Windows → Micros → ℕ
unit_turn reply w gap =
    if is_stray reply w gap then stray else
    if is_hasty w gap then early else no_reason

unfoldable pub turn_reason : Reply → Windows → Side → Micros → ℕ
turn_reason reply w side gap = if is_tester side then tester_turn reply w gap else unit_turn reply w gap

-- "Then mode 01 (5), form not announced or functional under extended timing (6), a length place KB1 doesn't announce (8)."
unfoldable pub has_extra : ℕ → Bool
has_extra f = eqb (f % 64) 0

unfoldable pub place_announced : ℕ → ℕ → Bool
place_announced kb1 f = if has_extra f then extra_length kb1 else length_in_format kb1

unfoldable pub head_reason : ℕ → ℕ → ℕ
head_reason kb1 f =
    if eqb (f / 64) 1 then mode_one else
    if not (takes_form kb1 (format_form f)) then wrong_form else
    if place_announced kb1 f then no_reason else wrong_length

unfoldable pub frame_reason : ℕ → Reply → Windows → Side → ℕ → Micros → ℕ
frame_reason kb1 reply w side f gap =
    if eqb (turn_reason reply w side gap) no_reason then head_reason kb1 f else turn_reason reply w side gap

-- the first byte of a car's message may be early or stray, and no more: "all judged when the gap has passed"
unfoldable pub first_reason : Pair → Reply → Windows → Side → ℕ → Micros → ℕ
first_reason pair reply w side f gap =
    if is_car (edition_of pair) then turn_reason reply w side gap else frame_reason pair.kb1 reply w side f gap

-- ---- a message: whose it is, the part that its next byte is, whether a length byte is among its parts, its length, how many data bytes have come,
-- the sum of all bytes, the first data byte and the first seven of them. `why` is the reason of damage. (Of a car's message: Cars.antt.)
-- A frame's layout is `frame`'s: target and source in forms that carry them, then the length byte if any, the data, the checksum.
unfoldable pub after_addresses : Bool → Part
after_addresses extra = if extra then Length else Data

unfoldable pub part_after_format : Form → Bool → Part
part_after_format Plain extra = after_addresses extra
part_after_format Physical extra = Target
part_after_format Functional extra = Target
part_after_format Foreign extra = after_addresses extra

unfoldable pub begun : Side → ℕ → Message
begun side f = record {
  seven = 0;
  side = side;
  part = part_after_format (format_form f) (has_extra f);
  extra = has_extra f;
  length = f % 64;
  at = 0;
  sum = f;
  first = 0;
  why = no_reason;
}

-- under these key bytes
unfoldable pub begun_by : Pair → Side → ℕ → Message
begun_by pair side f = if is_car (edition_of pair) then car_begun side f else begun side f

-- ---- a later byte: "other side (7), length byte 0 (8), wrong checksum (9)"
abbrev pub part_reason : Part → Message → ℕ → ℕ
part_reason Target m v = no_reason
part_reason Source m v = no_reason
part_reason Length m v = if eqb v 0 then wrong_length else no_reason
part_reason Data m v = no_reason
part_reason Sum m v = if eqb v m.sum then no_reason else wrong_sum
part_reason Free m v = no_reason

unfoldable pub later_reason : Message → Side → ℕ → ℕ
later_reason m side v = if not (same_side side m.side) then other_side else part_reason m.part m v

-- the byte that comes is the checksum, and so the last
unfoldable pub is_sum : Part → Bool
is_sum Target = false
is_sum Source = false
is_sum Length = false
is_sum Data = false
is_sum Sum = true
is_sum Free = false

-- a car's message
unfoldable pub is_free : Part → Bool
is_free Target = false
is_free Source = false
is_free Length = false
is_free Data = false
is_free Sum = false
is_free Free = true

-- the reason of a message that is held and has ended before its last byte came, because 20 ms have passed: "report 2, reason 1". A car's message is judged
-- then, or as a unit's byte ends it, and may be right (0).
unfoldable pub end_reason : Message → ℕ
end_reason m = if is_free m.part then car_reason m else broken_off

-- bytes as one number, the first in front
abbrev pub number : List ℕ → ℕ
number [] = 0
number (b ∷ bs) = b * 256 ^ length bs + number bs

-- the first seven data bytes as one number: with v as the data byte at an index. (The remainder, its last six bytes, keeps it in 64 bits on any
-- message; where fewer than seven have come it changes nothing.)
unfoldable pub with_seven : ℕ → ℕ → ℕ → ℕ
with_seven seven at v = if ltb at 7 then seven % 256 ^ 6 * 256 + v else seven

-- the part after a data byte, when so many have come
unfoldable pub after_data : ℕ → ℕ → Part
after_data at length = if ltb at length then Data else Sum

-- a message with one byte more
abbrev pub with_part : Message → Part → ℕ → Message
with_part m part v = record {
  seven = m.seven;
  side = m.side;
  part = part;
  extra = m.extra;
  length = m.length;
  at = m.at;
  sum = byte_sum m.sum v;
  first = m.first;
  why = m.why;
}

abbrev pub with_length : Message → ℕ → Message
with_length m v = record {
  seven = m.seven;
  side = m.side;
  part = Data;
  extra = m.extra;
  length = v;
  at = m.at;
  sum = byte_sum m.sum v;
  first = m.first;
  why = m.why;
}

unfoldable pub with_data : Message → ℕ → Message
with_data m v = record {
  seven = with_seven m.seven m.at v;
  side = m.side;
  part = after_data (byte_sum m.at 1) m.length;
  extra = m.extra;
  length = m.length;
  at = byte_sum m.at 1;
  sum = byte_sum m.sum v;
  first = if eqb m.at 0 then v else m.first;
  why = m.why;
}

abbrev pub grown_at : Part → Message → ℕ → Message
grown_at Target m v = with_part m Source v
grown_at Source m v = with_part m (after_addresses m.extra) v
grown_at Length m v = with_length m v
grown_at Data m v = with_data m v
grown_at Sum m v = with_part m Sum v
grown_at Free m v = car_grown m v

unfoldable pub grown : Message → ℕ → Message
grown m v = grown_at m.part m v

-- ---- what a frame does, by its data
unfoldable pub is_exactly : Message → List ℕ → Bool
is_exactly m bytes = eqb m.length (length bytes) && eqb m.seven (number bytes)

-- 83 03 in front of five bytes
unfoldable pub asks_codes : Message → Bool
asks_codes m = eqb m.length 7 && eqb (m.seven / 256 ^ 5) (number (0x83 ∷ 0x03 ∷ []))

-- the tester frame of each request: "starting 82", "exactly 83 01", "exactly 83 03 and five codes"; the other two have none
abbrev pub asks_for : Request → Message → Bool
asks_for Ordinary m = false
asks_for Stop m = eqb m.first 0x82
asks_for OwnTiming m = is_exactly m (0x83 ∷ 0x01 ∷ [])
asks_for NewTiming m = asks_codes m
asks_for Stopped m = false

-- the request that a tester frame makes, and `Ordinary` where it makes none of the three
unfoldable pub request_of : Message → Request
request_of m =
    if asks_for Stop m then Stop else
    if asks_for OwnTiming m then OwnTiming else
    if asks_for NewTiming m then NewTiming else Ordinary

-- a unit frame that makes it take effect: "a unit frame starting C2", "of exactly C3 01", "Exactly C3 03"
unfoldable pub is_effective : Request → Message → Bool
is_effective Ordinary m = false
is_effective Stop m = eqb m.first 0xC2
is_effective OwnTiming m = is_exactly m (0xC3 ∷ 0x01 ∷ [])
is_effective NewTiming m = is_exactly m (0xC3 ∷ 0x03 ∷ [])
is_effective Stopped m = false

-- the one at an index of seven bytes that are one number
abbrev pub byte_at : ℕ → ℕ → ℕ
byte_at i seven = seven / 256 ^ (6 - i) % 256

-- the five codes of a request: of its seven data bytes all but the first two
unfoldable pub codes_in : ℕ → Codes
codes_in seven = record { p2min = byte_at 2 seven; p2max = byte_at 3 seven; p3min = byte_at 4 seven; p3max = byte_at 5 seven; p4min = byte_at 6 seven }

-- "those codes from this frame's end, if allowed, else no change"
unfoldable pub if_allowed : Decoded → Windows → Windows
if_allowed d w = if eqb d.no taken then d.windows else w

-- the windows when a request takes effect: "KB1's set", or those codes
unfoldable pub windows_for : Request → Pair → ℕ → Windows → Windows
windows_for Ordinary pair seven w = w
windows_for Stop pair seven w = w
windows_for OwnTiming pair seven w = set_of pair
windows_for NewTiming pair seven w = if_allowed (decoded_of (codes_in seven)) w
windows_for Stopped pair seven w = w

unfoldable pub windows_after : Request → Message → Pair → ℕ → Windows → Windows
windows_after request m pair seven w = if is_effective request m then windows_for request pair seven w else w

-- "Each takes effect once for its request."
unfoldable pub spent : Request → Request
spent Ordinary = Ordinary
spent Stop = Stopped
spent OwnTiming = Ordinary
spent NewTiming = Ordinary
spent Stopped = Ordinary

unfoldable pub request_after : Request → Message → Request
request_after request m = if is_effective request m then spent request else request

unfoldable pub is_stopped : Request → Bool
is_stopped Ordinary = false
is_stopped Stop = false
is_stopped OwnTiming = false
is_stopped NewTiming = false
is_stopped Stopped = true
