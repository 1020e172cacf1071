-- The numbers that a caller may get back (document 01, "Numbers a caller may get back").
-- "Where several apply, the smallest number is given": each definition that refuses asks its tests in the order of these numbers (of a slice that is
-- empty, and so has no form, its length first).
-- "Beside a refusal every other number is 0": the refused answers (`not_built`, `not_read`, `not_decoded`, `not_encoded`, `refused_by`) hold zeros.
-- Assumes nothing.
use Rattle.std.specs.Prelude.{ℕ}

-- taken
abbrev pub taken : ℕ
taken = 0

-- event kind or side unknown; line that can't be read
abbrev pub unknown : ℕ
unknown = 1

-- a time above 4,000,000,000,000 microseconds
abbrev pub too_late : ℕ
too_late = 2

-- start after end, or start before the link's clock
abbrev pub out_of_order : ℕ
out_of_order = 3

-- 4,000,000,000 events already taken, or a lent count above that number
abbrev pub too_many : ℕ
too_many = 4

-- key bytes not good
abbrev pub bad_keys : ℕ
bad_keys = 5

-- form above 2, not announced, mode 01, or functional under extended timing; of building also a choice above 2
abbrev pub bad_form : ℕ
bad_form = 6

-- length; of building also a place chosen for it that is not announced or does not hold it
abbrev pub bad_length : ℕ
bad_length = 7

-- lent buffer shorter than the frame
abbrev pub no_room : ℕ
no_room = 8

-- checksum
abbrev pub bad_checksum : ℕ
bad_checksum = 9

-- timing codes or windows not allowed
abbrev pub bad_timing : ℕ
bad_timing = 10
