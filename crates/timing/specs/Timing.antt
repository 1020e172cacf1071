-- Timing windows and timing codes, in document 01's order (document 01, "Timing"; ISO 14230-2, clause 4.5.1, tables 3 to 5).
-- Departures from ISO 14230-2:1999. The normal set is its table 3; the extended set is document 01's own profile and decides over its table 4.
-- Its table 5 prints 83 600 ms for FE: by its own rule, and document 01's, FE is 14 times 6,400 ms, 89,600. Clause 4.5.2 (a reply 7F xx 78 stretches
-- P2 max) is no rule of document 01, and none here.
-- Assumes nothing.
use Rattle.std.specs.Prelude.{ℕ, ◌+◌, ◌*◌, ◌/◌, ◌%◌, Bool, ◌&&◌, ◌||◌, not, eqb, leb, if◌then◌else◌, Result}
use Rattle.std.specs.Result.{result_unwrap_or}
use Rattle.base.specs.Numbers.{taken, bad_timing}
use Rattle.base.specs.Refusals.{no_of}
use Rattle.base.specs.declared.Refusal.{Refusal}
use Rattle.keys.specs.Keys.{is_extended}
use Rattle.keys.specs.Editions.{edition_of}
use Rattle.keys.specs.declared.Pair.{Pair}
use Rattle.keys.specs.declared.Edition.{Edition}
use Rattle.keys.specs.declared.Edition.TheVariants.{Iso14230, Car08, Car94}
use Rattle.units.specs.Units.{HalfMs, Step25, micros, half_ms, half_by, step250_by, byte_of, micros_of_half, micros_of_250, half_of, steps25_of, steps250_of, is_earlier, is_same}
use Rattle.units.specs.declared.Micros.{Micros}
use Rattle.timing.specs.declared.Limit.{Limit}
use Rattle.timing.specs.declared.Windows.{Windows}
use Rattle.timing.specs.declared.Codes.{Codes}
use Rattle.timing.specs.Answers.{Decoded, Encoded}

-- The end of a window is a time, or no limit. No limit is a value of its own: it stands as the greatest number that a `Micros` holds, and a
-- definition that puts an end before or after a time asks `is_unlimited` first.
abbrev pub until_time : Micros → Limit
until_time m = record { 0 = m }

abbrev pub no_limit : Limit
no_limit = until_time (micros 18_446_744_073_709_551_615)

unfoldable pub is_unlimited : Limit → Bool
is_unlimited l = eqb l.0.0 18_446_744_073_709_551_615

-- its time, for who shows it: 0 of no limit, whose number nobody sees
unfoldable pub time_of : Limit → Micros
time_of l = if is_unlimited l then micros 0 else l.0

-- | ms                            | P1      | P2         | P3           | P4      |
-- | normal (ISO 14230-2, table 3) | 0 to 20 | 25 to 50   | 55 to 5,000  | 5 to 20 |
-- | extended (document 01's own)  | 0 to 20 | 0 to 1,000 | 5.5 to 5,000 | 5 to 20 |
-- No code changes P1 or P4 max, so a set is the other five.
abbrev pub normal_set : Windows
normal_set = record {
  p2min = micros 25_000;
  p2max = until_time (micros 50_000);
  p3min = micros 55_000;
  p3max = until_time (micros 5_000_000);
  p4min = micros 5_000;
}

abbrev pub extended_set : Windows
extended_set = record {
  p2min = micros 0;
  p2max = until_time (micros 1_000_000);
  p3min = micros 5_500;
  p3max = until_time (micros 5_000_000);
  p4min = micros 5_000;
}

-- the set that KB1 names
unfoldable pub named_set : ℕ → Windows
named_set kb1 = if is_extended kb1 then extended_set else normal_set

-- "P2 is 25 to 50 ms for 08 08 and 0 to 50 for 94 94; P1, P3 and P4 are the normal ones." (document 02, "Five"): for 08 08 that is the normal set, and for 94
-- 94 ..
abbrev pub quick_set : Windows
quick_set = record {
  p2min = micros 0;
  p2max = until_time (micros 50_000);
  p3min = micros 55_000;
  p3max = until_time (micros 5_000_000);
  p4min = micros 5_000;
}

-- the set that key bytes name: KB1's, or the car's
abbrev pub set_in : Edition → ℕ → Windows
set_in Iso14230 kb1 = named_set kb1
set_in Car08 kb1 = normal_set
set_in Car94 kb1 = quick_set

unfoldable pub set_of : Pair → Windows
set_of pair = set_in (edition_of pair) pair.kb1

-- How long the line is idle, from the mark on, before the first address or wake-up. (After what else it is asked: `off`, phases/specs/Phases.antt. Other times:
-- moves/specs/Moves.antt.)
abbrev pub idle_at_power_on : Micros
idle_at_power_on = micros 300_000

-- "Minima count 0.5 ms."
unfoldable pub min_of : ℕ → Micros
min_of code = micros_of_half (half_by code)

-- "P3 max counts 250 ms, FF is no limit."
unfoldable pub p3_max_of : ℕ → Limit
p3_max_of code = if eqb code 0xFF then no_limit else until_time (micros_of_250 (step250_by code))

-- "P2 max: 01 to F0 count 25 ms, F1 to FE give 6,400 ms times the low four bits, FF no limit, 00 not allowed": in half milliseconds, so 50 and
-- 12,800 of them, and 0 for the two codes that give no number. 00 is then a maximum of 0, and no minimum is below it.
unfoldable pub p2_half : ℕ → HalfMs
p2_half code = half_ms (if leb code 0xF0 then 50 * code else if leb code 0xFE then 12_800 * (code % 16) else 0)

unfoldable pub p2_max_of : ℕ → Limit
p2_max_of code = if eqb code 0xFF then no_limit else until_time (micros_of_half (p2_half code))

-- "Five code bytes: P2 min, P2 max, P3 min, P3 max, P4 min."
unfoldable pub windows_by : Codes → Windows
windows_by c = record {
  p2min = min_of c.p2min;
  p2max = p2_max_of c.p2max;
  p3min = min_of c.p3min;
  p3max = p3_max_of c.p3max;
  p4min = min_of c.p4min;
}

-- "Allowed: each min below its max (P4 max stays 20 ms), and P3 min above P4 min." No limit is above every min.
unfoldable pub is_below : Micros → Limit → Bool
is_below m l = is_unlimited l || is_earlier m l.0

abbrev pub p4max : Micros
p4max = micros 20_000

unfoldable pub is_allowed : Windows → Bool
is_allowed w =
    is_below w.p2min w.p2max
    && is_below w.p3min w.p3max
    && is_earlier w.p4min p4max
    && is_earlier w.p4min w.p3min

-- "Codes become windows and windows codes": the windows they stand for if these are allowed, else 10
abbrev pub not_decoded : Decoded
not_decoded = record {
  no = bad_timing;
  windows = record {
    p2min = micros 0;
    p2max = until_time (micros 0);
    p3min = micros 0;
    p3max = until_time (micros 0);
    p4min = micros 0;
  };
}

-- the result of `windows_of` in these numbers
abbrev pub answer_decoded : Result Windows Refusal → Decoded
answer_decoded r = record { no = no_of r; windows = result_unwrap_or r not_decoded.windows }

unfoldable pub decoded_of : Codes → Decoded
decoded_of c = if is_allowed (windows_by c) then record { no = taken; windows = windows_by c } else not_decoded

-- The one code that can give a time: its whole steps, as far as a byte goes. Whether it does give it is asked by `same_windows`.
unfoldable pub min_code : Micros → ℕ
min_code m = byte_of (half_of m).0

-- 6,400 ms are 256 steps of 25 ms
unfoldable pub p2_steps_code : Step25 → ℕ
p2_steps_code s = if leb s.0 0xF0 then s.0 else if leb (s.0 / 256) 14 then 0xF0 + s.0 / 256 else 0xFF

unfoldable pub p2_code : Limit → ℕ
p2_code l = if is_unlimited l then 0xFF else p2_steps_code (steps25_of l.0)

unfoldable pub p3_code : Limit → ℕ
p3_code l = if is_unlimited l then 0xFF else byte_of (steps250_of l.0).0

unfoldable pub codes_by : Windows → Codes
codes_by w = record {
  p2min = min_code w.p2min;
  p2max = p2_code w.p2max;
  p3min = min_code w.p3min;
  p3max = p3_code w.p3max;
  p4min = min_code w.p4min;
}

unfoldable pub same_windows : Windows → Windows → Bool
same_windows a b =
    is_same a.p2min b.p2min
    && is_same a.p2max.0 b.p2max.0
    && is_same a.p3min b.p3min
    && is_same a.p3max.0 b.p3max.0
    && is_same a.p4min b.p4min

-- "Codes become windows and windows codes; a window no code gives is 10": codes that give these windows back, if they are allowed, else 10
abbrev pub not_encoded : Encoded
not_encoded = record { no = bad_timing; codes = record { p2min = 0; p2max = 0; p3min = 0; p3max = 0; p4min = 0 } }

-- the result of `codes_of` in these numbers
abbrev pub answer_encoded : Result Codes Refusal → Encoded
answer_encoded r = record { no = no_of r; codes = result_unwrap_or r not_encoded.codes }

unfoldable pub encoded_of : Windows → Encoded
encoded_of w =
    if is_allowed w && same_windows (windows_by (codes_by w)) w then record { no = taken; codes = codes_by w } else not_encoded

-- "All windows include both ends." And from "Events and what the link does": passed is strict, and "An unlimited window never passes."
unfoldable pub is_passed : Limit → Micros → Bool
is_passed l gap = not (is_unlimited l) && is_earlier l.0 gap
