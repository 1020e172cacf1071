-- Sums that stay where they belong. Assumes nothing.
use Rattle.std.specs.Prelude.{ℕ, ◌+◌, ◌-◌, ◌%◌, leb, if◌then◌else◌}

-- of bytes, "modulo 256"
unfoldable pub byte_sum : ℕ → ℕ → ℕ
byte_sum a b = (a + b) % 256

-- of counts: exact as far as 64 bits go, which is further than any history does, and then the greatest number that they hold
abbrev pub greatest : ℕ
greatest = 18_446_744_073_709_551_615

unfoldable pub count_sum : ℕ → ℕ → ℕ
count_sum a b = if leb b (greatest - a) then a + b else greatest
