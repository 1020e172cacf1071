-- A refusal has one of the paper's numbers, and what was not refused has the number 0 (document 01, "Numbers a caller may get back").
-- Assumes nothing.
use Rattle.std.specs.Prelude.{ℕ, Result, Ok, Err}
use Rattle.base.specs.Numbers.{taken, unknown, too_late, out_of_order, too_many, bad_keys, bad_form, bad_length, no_room, bad_checksum, bad_timing}
use Rattle.base.specs.declared.Refusal.{Refusal}
use Rattle.base.specs.declared.Refusal.TheVariants.{Unknown, TooLate, OutOfOrder, TooMany, BadKeys, BadForm, BadLength, NoRoom, BadChecksum, BadTiming}

unfoldable pub number_of : Refusal → ℕ
number_of Unknown = unknown
number_of TooLate = too_late
number_of OutOfOrder = out_of_order
number_of TooMany = too_many
number_of BadKeys = bad_keys
number_of BadForm = bad_form
number_of BadLength = bad_length
number_of NoRoom = no_room
number_of BadChecksum = bad_checksum
number_of BadTiming = bad_timing

-- the number of an answer that may be a refusal
unfoldable pub no_of : {A : Type 0} → Result A Refusal → ℕ
no_of (Ok _) = taken
no_of (Err why) = number_of why
