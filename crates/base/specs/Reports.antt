-- The paper's numbers of reports and of their reasons, each given once (document 01, "Events and what the link does").
-- Assumes nothing.
use Rattle.std.specs.Prelude.{ℕ}

-- "Reports: 1 frame, 2 damage, 3 connected, 4 failed, 5 outside byte, 6 no reply, 7 down, 8 not idle"
abbrev pub frame_report : ℕ
frame_report = 1

abbrev pub damage_report : ℕ
damage_report = 2

abbrev pub connected_report : ℕ
connected_report = 3

abbrev pub failed_report : ℕ
failed_report = 4

abbrev pub outside_report : ℕ
outside_report = 5

abbrev pub no_reply_report : ℕ
no_reply_report = 6

abbrev pub down_report : ℕ
down_report = 7

abbrev pub not_idle_report : ℕ
not_idle_report = 8

-- "reason 0 where none is named"
abbrev pub no_reason : ℕ
no_reason = 0

-- ---- reasons of damage
-- "20 ms passed since the mark with a message held"
abbrev pub broken_off : ℕ
broken_off = 1

-- closed by A, W or D: "a held message as report 2 reason 2", "initialization as report 4 reason 2"
abbrev pub closed : ℕ
closed = 2

-- the first byte of a message early
abbrev pub early : ℕ
early = 3

-- the first byte of a message stray
abbrev pub stray : ℕ
stray = 4

-- "mode 01"
abbrev pub mode_one : ℕ
mode_one = 5

-- "form not announced or functional under extended timing"
abbrev pub wrong_form : ℕ
wrong_form = 6

-- "other side"
abbrev pub other_side : ℕ
other_side = 7

-- "a length place KB1 doesn't announce"; "length byte 0"
abbrev pub wrong_length : ℕ
wrong_length = 8

-- "wrong checksum"
abbrev pub wrong_sum : ℕ
wrong_sum = 9

-- ---- reasons of a failed initialization (and `closed`)
-- "the present window's end passed"
abbrev pub window_over : ℕ
window_over = 1

-- "Low for 24 to 26 ms, else report 4 reason 3 at once"
abbrev pub wrong_low : ℕ
wrong_low = 3

-- "Check side (reason 4)"
abbrev pub wrong_side : ℕ
wrong_side = 4

-- "early (5)"
abbrev pub too_early : ℕ
too_early = 5

-- "value or structure (6)"
abbrev pub misfit : ℕ
misfit = 6

-- ---- reasons of down
-- a stop that the unit answered
abbrev pub stopped : ℕ
stopped = 1

-- "P3 max passed"
abbrev pub idle_over : ℕ
idle_over = 2

-- "3 for D"
abbrev pub dropped : ℕ
dropped = 3

-- "reason 4 for A or W"
abbrev pub restarted : ℕ
restarted = 4
