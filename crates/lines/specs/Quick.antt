-- A byte's line read at once, as the code reads it where all of it lies in one part. No rule stands here, and a reader may pass it over: that it is
-- what the bytes give one by one is proved in proofs/Ways.antt.
-- Assumes nothing.
use Rattle.std.specs.Prelude.{ℕ, zero, suc, ◌+◌, ◌-◌, ◌*◌, Bool, not, ◌&&◌, List, length, ◌==◌, nat_le, nat_lt, Option, Some, None, slice_index, if◌then◌else◌}
use Rattle.units.specs.Units.{micros}
use Rattle.events.specs.Events.{side_by, same_side}
use Rattle.events.specs.declared.Kind.TheVariants.{Byte}
use Rattle.events.specs.declared.Side.{Side}
use Rattle.events.specs.declared.Side.TheVariants.{Nobody}
use Rattle.words.specs.Digits.{is_digit, hex_of}
use Rattle.lines.specs.Lines.{fresh_reading}
use Rattle.lines.specs.declared.quick.Span.{Span}
use Rattle.lines.specs.declared.Row.{Row}
use Rattle.lines.specs.declared.Got.{Got}

-- at most k digits from i on, after those that gave n: the number, and the place after them
unfoldable pub digits_at : List ℕ → ℕ → ℕ → ℕ → Span
digits_at s zero i n = record { value = n; to = i }
digits_at s (suc k) i n =
    if is_digit (slice_index s i) then digits_at s k (i + 1) (n * 10 + (slice_index s i - 0x30)) else record { value = n; to = i }

-- the number of the digits behind i, if there is one
abbrev pub number_behind : ℕ → Span → Option Span
number_behind i u = if u.to == i then None else Some u

-- two times, with a space between and a line feed after
unfoldable pub second_at : List ℕ → ℕ → ℕ → Side → ℕ → Option Row
second_at s i start side value =
    let u = digits_at s 13 i 0 in
    if u.to == i then None else
    if not (slice_index s u.to == 10) then None else
    Some (record {
      event = record { start = micros start; end = micros u.value; kind = Byte; side = side; value = value };
      to = u.to + 1;
    })

unfoldable pub times_at : List ℕ → ℕ → Side → ℕ → Option Row
times_at s i side value =
    let t = digits_at s 13 i 0 in
    if t.to == i then None else
    if not (slice_index s t.to == 0x20) then None else
    second_at s (t.to + 1) t.value side value

-- the letter B and the spaces
unfoldable pub has_words : List ℕ → ℕ → Bool
has_words s i = slice_index s i == 0x42 && slice_index s (i + 1) == 0x20 && slice_index s (i + 3) == 0x20 && slice_index s (i + 6) == 0x20

-- the line that stands at i
unfoldable pub row_at : List ℕ → ℕ → Option Row
row_at s i =
    if not (has_words s i) then None else
    if same_side (side_by (slice_index s (i + 2))) Nobody then None else
    if nat_lt 15 (hex_of (slice_index s (i + 4))) then None else
    if nat_lt 15 (hex_of (slice_index s (i + 5))) then None else
    times_at s (i + 7) (side_by (slice_index s (i + 2))) (hex_of (slice_index s (i + 4)) * 16 + hex_of (slice_index s (i + 5)))

-- 36 bytes are more than any line of a byte has
unfoldable pub row_of : List ℕ → ℕ → Option Row
row_of s i = if nat_le (i + 36) (length s) then row_at s i else None

unfoldable pub row_got : Row → Got
row_got q = record { line = Some q.event; reading = fresh_reading; at = q.to }
