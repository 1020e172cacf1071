-- Microseconds, and the steps of 0.5, 25 and 250 ms that timing codes count in (document 01, "Timing"; the resolutions of ISO 14230-2, tables 3 and 5).
-- "Code steps and microseconds stay apart until this rule converts one into the other": this file is that rule, and the only one.
-- Each conversion is defined once, over the length w of a step in microseconds, and named at the three lengths.
-- Assumes nothing.
use Rattle.std.specs.Prelude.{ℕ, ◌-◌, ◌*◌, ◌/◌, Bool, eqb, leb, ltb, if◌then◌else◌}
use Rattle.units.specs.declared.Micros.{Micros}
use Rattle.units.specs.declared.Steps.{Steps}

-- steps of 0.5, 25 and 250 ms
abbrev pub HalfMs : Type 0
HalfMs = Steps 500

abbrev pub Step25 : Type 0
Step25 = Steps 25_000

abbrev pub Step250 : Type 0
Step250 = Steps 250_000

-- so many microseconds, so many steps
abbrev pub micros : ℕ → Micros
micros n = record { 0 = n }

abbrev pub steps : (w : ℕ) → ℕ → Steps w
steps w n = record { 0 = n }

abbrev pub half_ms : ℕ → HalfMs
half_ms = steps 500

abbrev pub step25 : ℕ → Step25
step25 = steps 25_000

abbrev pub step250 : ℕ → Step250
step250 = steps 250_000

-- a code byte counts steps, and so many steps are counted by one code byte: by the greatest where no byte counts so many
abbrev pub steps_by : (w : ℕ) → ℕ → Steps w
steps_by w code = steps w code

abbrev pub half_by : ℕ → HalfMs
half_by = steps_by 500

abbrev pub step250_by : ℕ → Step250
step250_by = steps_by 250_000

unfoldable pub byte_of : ℕ → ℕ
byte_of n = if leb n 255 then n else 255

-- steps become microseconds
abbrev pub micros_of : (w : ℕ) → Steps w → Micros
micros_of w s = micros (s.0 * w)

abbrev pub micros_of_half : HalfMs → Micros
micros_of_half = micros_of 500

abbrev pub micros_of_25 : Step25 → Micros
micros_of_25 = micros_of 25_000

abbrev pub micros_of_250 : Step250 → Micros
micros_of_250 = micros_of 250_000

-- microseconds become steps: the whole steps of w microseconds in v, or the most that 32 bits hold. So many steps, as microseconds and back, are
-- so many steps (`steps_back`); whether v is so many steps exactly is seen by turning them back. Steps of no length count nothing: v / 0 is 0.
unfoldable pub whole_steps : ℕ → ℕ → ℕ
whole_steps w v = if leb (v / w) 4_294_967_295 then v / w else 4_294_967_295

abbrev pub steps_of : (w : ℕ) → Micros → Steps w
steps_of w m = steps w (whole_steps w m.0)

abbrev pub half_of : Micros → HalfMs
half_of = steps_of 500

abbrev pub steps25_of : Micros → Step25
steps25_of = steps_of 25_000

abbrev pub steps250_of : Micros → Step250
steps250_of = steps_of 250_000

-- one time against another
abbrev pub is_earlier : Micros → Micros → Bool
is_earlier a b = ltb a.0 b.0

abbrev pub is_same : Micros → Micros → Bool
is_same a b = eqb a.0 b.0

-- "Gaps run from the end of a byte to the start of the next, in microseconds": from one time to a later one, and 0 where it is not later
abbrev pub gap_of : Micros → Micros → Micros
gap_of from to = micros (to.0 - from.0)
