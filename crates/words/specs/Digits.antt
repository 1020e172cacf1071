-- Digits, read from bytes and written as bytes. Assumes nothing.
use Rattle.std.specs.Prelude.{ℕ, ◌+◌, ◌-◌, ◌*◌, ◌/◌, ◌%◌, Bool, ◌&&◌, Option, Some, None, List, get_or, leb, ltb, if◌then◌else◌}

unfoldable pub is_digit : ℕ → Bool
is_digit b = leb 0x30 b && leb b 0x39

unfoldable pub is_capital : ℕ → Bool
is_capital b = leb 0x41 b && leb b 0x46

-- "Hex digits are 0 to 9 and A to F": the value of one, and 16 of any other byte
unfoldable pub hex_of : ℕ → ℕ
hex_of b = if is_digit b then b - 0x30 else if is_capital b then b - 0x37 else 16

-- a value that stands, and none in place of 16
abbrev pub below_16 : ℕ → Option ℕ
below_16 n = if ltb 15 n then None else Some n

-- what `hex` answers of a byte: its value, if it is a hex digit
abbrev pub digit_of : ℕ → Option ℕ
digit_of b = below_16 (hex_of b)

-- ---- those of a question and its answer: "either case is read, upper case is written" (README, "Questions")
-- a to f as A to F, and any other byte as it is
unfoldable pub raised_of : ℕ → ℕ
raised_of b = if leb 0x61 b && leb b 0x66 then b - 0x20 else b

-- the value of a hex digit of either case, and 16 of any other byte
unfoldable pub either_of : ℕ → ℕ
either_of b = hex_of (raised_of b)

unfoldable pub is_hex : ℕ → Bool
is_hex b = ltb (either_of b) 16

-- the byte that two hex digits are (a byte that is none counts as 0)
unfoldable pub pair_of : ℕ → ℕ → ℕ
pair_of b c = either_of b % 16 * 16 + either_of c % 16

-- the byte that the two hex digits at the front are, where two stand there
unfoldable pub front_byte : List ℕ → Option ℕ
front_byte s = if is_hex (get_or s 0 0) && is_hex (get_or s 1 0) then Some (pair_of (get_or s 0 0) (get_or s 1 0)) else None

-- the last hex digit of a number, as it is written
unfoldable pub glyph_of : ℕ → ℕ
glyph_of n = if ltb (n % 16) 10 then 48 + n % 16 else 55 + n % 16

-- the two digits of a byte
abbrev pub high_of : ℕ → ℕ
high_of x = glyph_of (x / 16)

abbrev pub low_of : ℕ → ℕ
low_of x = glyph_of x
