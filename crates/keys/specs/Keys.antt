-- Key bytes: what KB1 announces, which forms it takes, and which pairs are good (document 01, "Key bytes"; ISO 14230-2, clause 5.2.4.1).
-- Assumes nothing.
use Rattle.std.specs.Prelude.{ℕ, ◌+◌, ◌/◌, ◌%◌, Bool, false, ◌&&◌, ◌||◌, not, List, [], ◌∷◌, eqb}
use Rattle.keys.specs.declared.Form.{Form}
use Rattle.keys.specs.declared.Form.TheVariants.{Plain, Physical, Functional, Foreign}
use Rattle.keys.specs.declared.Pair.{Pair}

-- the bits of a byte, 0 or 1 each
abbrev pub bit0 : ℕ → ℕ
bit0 x = x % 2

abbrev pub bit1 : ℕ → ℕ
bit1 x = x / 2 % 2

abbrev pub bit2 : ℕ → ℕ
bit2 x = x / 4 % 2

abbrev pub bit3 : ℕ → ℕ
bit3 x = x / 8 % 2

abbrev pub bit4 : ℕ → ℕ
bit4 x = x / 16 % 2

abbrev pub bit5 : ℕ → ℕ
bit5 x = x / 32 % 2

abbrev pub bit6 : ℕ → ℕ
bit6 x = x / 64 % 2

abbrev pub bit7 : ℕ → ℕ
bit7 x = x / 128 % 2

-- how many of a byte's bits are ones
abbrev pub ones : ℕ → ℕ
ones x = bit0 x + bit1 x + bit2 x + bit3 x + bit4 x + bit5 x + bit6 x + bit7 x

-- "bits 0 (length in format byte) and 1 (extra length byte)"
unfoldable pub length_in_format : ℕ → Bool
length_in_format kb1 = eqb (bit0 kb1) 1

unfoldable pub extra_length : ℕ → Bool
extra_length kb1 = eqb (bit1 kb1) 1

-- "bits 2 (no addresses) and 3 (target and source)"
unfoldable pub no_addresses : ℕ → Bool
no_addresses kb1 = eqb (bit2 kb1) 1

unfoldable pub with_addresses : ℕ → Bool
with_addresses kb1 = eqb (bit3 kb1) 1

-- "bits 4 (extended) and 5 (normal)"
unfoldable pub is_extended : ℕ → Bool
is_extended kb1 = eqb (bit4 kb1) 1

-- "Good: KB2 is 8F; KB1 has an odd number of ones, bit 6 set, exactly one of bits 4 (extended) and 5 (normal) set, at least one of bits 0
-- (length in format byte) and 1 (extra length byte), at least one of bits 2 (no addresses) and 3 (target and source)."
unfoldable pub good_pair : ℕ → ℕ → Bool
good_pair kb1 kb2 =
    eqb kb2 0x8F
    && eqb (ones kb1 % 2) 1
    && eqb (bit6 kb1) 1
    && eqb (bit4 kb1 + bit5 kb1) 1
    && (length_in_format kb1 || extra_length kb1)
    && (no_addresses kb1 || with_addresses kb1)

-- of KB1 and KB2 as one value
abbrev pub pair_of : ℕ → ℕ → Pair
pair_of kb1 kb2 = record { kb1 = kb1; kb2 = kb2 }

abbrev pub is_good : Pair → Bool
is_good pair = good_pair pair.kb1 pair.kb2

-- "These are the 18 values D5 D6 57 D9 DA 5B 5D 5E DF E5 E6 67 E9 EA 6B 6D 6E EF."
unfoldable pub eighteen : List ℕ
eighteen =
    0xD5 ∷ 0xD6 ∷ 0x57 ∷ 0xD9 ∷ 0xDA ∷ 0x5B ∷ 0x5D ∷ 0x5E ∷ 0xDF
    ∷ 0xE5 ∷ 0xE6 ∷ 0x67 ∷ 0xE9 ∷ 0xEA ∷ 0x6B ∷ 0x6D ∷ 0x6E ∷ 0xEF ∷ []

-- whether a number is one of a list
unfoldable pub is_in : ℕ → List ℕ → Bool
is_in x [] = false
is_in x (y ∷ ys) = eqb x y || is_in x ys

-- The forms that KB1 takes: one that carries no addresses by bit 2, one that does by bit 3, functional only without extended timing
-- ("functional under extended timing (KB1 bit 4, whatever windows are in force)" is refused). A foreign form, mode 01 or above 2, is never taken.
unfoldable pub takes_form : ℕ → Form → Bool
takes_form kb1 Plain = no_addresses kb1
takes_form kb1 Physical = with_addresses kb1
takes_form kb1 Functional = with_addresses kb1 && not (is_extended kb1)
takes_form kb1 Foreign = false
