-- When building, reading and timing codes get which number (document 01, "Numbers a caller may get back"; document 02, Two), as conditions.
-- Assumes nothing.
use Rattle.std.specs.Prelude.{ℕ, ◌+◌, ◌-◌, ◌/◌, ◌%◌, ◌≤◌, ◌<◌, ◌≡◌, true, false, List, ◌↔◌, ◌⊎◌, eqb, leb, length, get_or, take, if◌then◌else◌}
use Rattle.units.specs.declared.Micros.{Micros}
use Rattle.keys.specs.Keys.{good_pair, length_in_format, extra_length, no_addresses, with_addresses, is_extended}
use Rattle.timing.specs.Timing.{no_limit}
use Rattle.timing.specs.declared.Limit.{Limit}
use Rattle.timing.specs.declared.Windows.{Windows}
use Rattle.frame.specs.Layout.{total}
use Rattle.frame.specs.Build.{size_of}
use Rattle.frame.specs.Read.{format_byte}
use Rattle.frame.specs.declared.Plan.{Plan}
use Rattle.demands.specs.Refusals.{Not}

-- 5: "key bytes not good"
abbrev pub BadKeys : ℕ → ℕ → Type 0
BadKeys kb1 kb2 = good_pair kb1 kb2 ≡ false

-- ---- building
-- 6: "form above 2, not announced, .. or functional under extended timing (KB1 bit 4, whatever windows are in force)", of a form by its number,
-- "0 none, 1 physical, 2 functional"
abbrev pub BadForm : ℕ → ℕ → Type 0
BadForm kb1 form =
    (2 < form)
    ⊎ ((form ≡ 0) × (no_addresses kb1 ≡ false))
    ⊎ ((form ≡ 1) × (with_addresses kb1 ≡ false))
    ⊎ ((form ≡ 2) × (with_addresses kb1 ≡ false))
    ⊎ ((form ≡ 2) × (is_extended kb1 ≡ true))

-- 6 also "for a choice above 2" of the length's place, "shortest as now (0), in the format byte (1), or in the extra byte (2)"
abbrev pub BadChoice : ℕ → Type 0
BadChoice choice = 2 < choice

abbrev pub BadPlan : Plan → Type 0
BadPlan p = BadChoice p.choice ⊎ BadForm p.pair.kb1 p.form

-- 7: "Length 1 to 63 goes in the format byte if KB1 bit 0 is set; otherwise lengths 1 to 255 take the extra byte if bit 1 is set; all else is 7."
abbrev pub GoesInFormat : ℕ → ℕ → Type 0
GoesInFormat kb1 n = (length_in_format kb1 ≡ true) × (1 ≤ n) × (n ≤ 63)

abbrev pub TakesExtra : ℕ → ℕ → Type 0
TakesExtra kb1 n = (extra_length kb1 ≡ true) × (1 ≤ n) × (n ≤ 255)

-- the lengths that have a place by the choice; all else is 7, also "a length form chosen but not announced or a length above 63 chosen for the format byte":
-- there is no falling back
abbrev pub HasPlace : ℕ → ℕ → ℕ → Type 0
HasPlace choice kb1 n =
    ((choice ≡ 0) × (GoesInFormat kb1 n ⊎ TakesExtra kb1 n))
    ⊎ ((choice ≡ 1) × GoesInFormat kb1 n)
    ⊎ ((choice ≡ 2) × TakesExtra kb1 n)

abbrev pub BadLength : Plan → ℕ → Type 0
BadLength p n = Not (HasPlace p.choice p.pair.kb1 n)

-- 8: "lent buffer shorter than the frame", which n bytes of data make, with their length in the place chosen
abbrev pub NoRoom : Plan → ℕ → ℕ → Type 0
NoRoom p n room = room < size_of p n

-- THE NUMBER OF BUILDING from n bytes of data into a buffer of `room` bytes: each exactly when its condition holds and that of no smaller one does.
pub record BuildNumbered (p : Plan) (n room no : ℕ) : Type 0 where
  pub five : (no ≡ 5) ↔ BadKeys p.pair.kb1 p.pair.kb2
  pub six : (no ≡ 6) ↔ (Not (BadKeys p.pair.kb1 p.pair.kb2) × BadPlan p)
  pub seven : (no ≡ 7) ↔ (Not (BadKeys p.pair.kb1 p.pair.kb2) × Not (BadPlan p) × BadLength p n)
  pub eight : (no ≡ 8) ↔ (Not (BadKeys p.pair.kb1 p.pair.kb2) × Not (BadPlan p) × Not (BadLength p n) × NoRoom p n room)
  pub built : (no ≡ 0) ↔ (Not (BadKeys p.pair.kb1 p.pair.kb2) × Not (BadPlan p) × Not (BadLength p n) × Not (NoRoom p n room))
  pub no_other : (no ≡ 0) ⊎ ((5 ≤ no) × (no ≤ 8))

-- ---- reading
-- "top two bits 00 no addresses, 01 CARB, 10 physical, 11 functional; low six bits the length, or 0 for an extra length byte"
abbrev pub mode_of : List ℕ → ℕ
mode_of s = format_byte s / 64

abbrev pub low_six : List ℕ → ℕ
low_six s = format_byte s % 64

-- "Then target and source in modes 10 and 11, then the extra length byte if any": how many addresses there are, and the byte after them, 0 where the
-- slice has none
abbrev pub addresses_in : List ℕ → ℕ
addresses_in s = if leb 2 (mode_of s) then 2 else 0

abbrev pub extra_byte : List ℕ → ℕ
extra_byte s = get_or s (1 + addresses_in s) 0

-- 6: "not announced, mode 01, or functional under extended timing"; "a format byte is judged for form even if the rest is missing", and an empty slice
-- has none
abbrev pub BadMode : ℕ → List ℕ → Type 0
BadMode kb1 s =
    (1 ≤ length s)
    × ((mode_of s ≡ 1)
    ⊎ ((mode_of s ≡ 0) × (no_addresses kb1 ≡ false))
    ⊎ ((2 ≤ mode_of s) × (with_addresses kb1 ≡ false))
    ⊎ ((3 ≤ mode_of s) × (is_extended kb1 ≡ true)))

-- 7: "a length in the format byte without KB1 bit 0, or an extra length byte without bit 1"
abbrev pub NotPlaced : ℕ → List ℕ → Type 0
NotPlaced kb1 s = (Not (low_six s ≡ 0) × (length_in_format kb1 ≡ false)) ⊎ ((low_six s ≡ 0) × (extra_length kb1 ≡ false))

-- so many bytes the header says that the frame has: format byte, addresses, extra length byte if any, data, and the checksum
abbrev pub size_said : List ℕ → ℕ
size_said s = if eqb (low_six s) 0 then 1 + addresses_in s + 1 + extra_byte s + 1 else 1 + addresses_in s + low_six s + 1

-- 7: "An empty frame to be read is 7 if the key bytes are good"; "a length byte of 0, or a slice longer or shorter than the header says, is 7"
abbrev pub BadSlice : ℕ → List ℕ → Type 0
BadSlice kb1 s = (length s ≡ 0) ⊎ NotPlaced kb1 s ⊎ ((low_six s ≡ 0) × (extra_byte s ≡ 0)) ⊎ Not (length s ≡ size_said s)

-- 9: "checksum: the sum of all bytes before it, modulo 256"
abbrev pub BadSum : List ℕ → Type 0
BadSum s = Not (get_or s (length s - 1) 0 ≡ total (take (length s - 1) s) % 256)

-- THE NUMBER OF READING a slice: each exactly when its condition holds and that of no smaller one does.
pub record ReadNumbered (kb1 kb2 : ℕ) (s : List ℕ) (no : ℕ) : Type 0 where
  pub five : (no ≡ 5) ↔ BadKeys kb1 kb2
  pub six : (no ≡ 6) ↔ (Not (BadKeys kb1 kb2) × BadMode kb1 s)
  pub seven : (no ≡ 7) ↔ (Not (BadKeys kb1 kb2) × Not (BadMode kb1 s) × BadSlice kb1 s)
  pub nine : (no ≡ 9) ↔ (Not (BadKeys kb1 kb2) × Not (BadMode kb1 s) × Not (BadSlice kb1 s) × BadSum s)
  pub read : (no ≡ 0) ↔ (Not (BadKeys kb1 kb2) × Not (BadMode kb1 s) × Not (BadSlice kb1 s) × Not (BadSum s))
  pub no_other : (no ≡ 0) ⊎ ((5 ≤ no) × (no ≤ 7)) ⊎ (no ≡ 9)

-- ---- what is built
-- a frame that has the length n in the low six bits of its format byte; or in the extra byte: the low six bits are 0, and it stands after the addresses
abbrev pub InFormatByte : ℕ → List ℕ → Type 0
InFormatByte n frame = low_six frame ≡ n

abbrev pub InExtraByte : ℕ → List ℕ → Type 0
InExtraByte n frame = (low_six frame ≡ 0) × (extra_byte frame ≡ n)

-- WHERE A FRAME THAT WAS BUILT HAS THE LENGTH of its n data bytes, by the choice
pub record LengthPlaced (choice kb1 n : ℕ) (frame : List ℕ) : Type 0 where
  pub chosen : Not (BadChoice choice)
  -- 0: "Length 1 to 63 goes in the format byte if KB1 bit 0 is set; otherwise lengths 1 to 255 take the extra byte if bit 1 is set"
  pub short : choice ≡ 0 → GoesInFormat kb1 n → InFormatByte n frame
  pub long : choice ≡ 0 → Not (GoesInFormat kb1 n) → TakesExtra kb1 n × InExtraByte n frame
  -- "in the format byte (1), or in the extra byte (2)"
  pub in_format : choice ≡ 1 → GoesInFormat kb1 n × InFormatByte n frame
  pub in_extra : choice ≡ 2 → TakesExtra kb1 n × InExtraByte n frame

-- ---- timing
-- a min below its max; no limit is above every min
abbrev pub Below : Micros → Limit → Type 0
Below min max = (max ≡ no_limit) ⊎ (min.0 < max.0.0)

-- "Allowed: each min below its max (P4 max stays 20 ms), and P3 min above P4 min."
pub record Allowed (w : Windows) : Type 0 where
  pub p2 : Below w.p2min w.p2max
  pub p3 : Below w.p3min w.p3max
  pub p4 : w.p4min.0 < 20_000
  pub p3_above_p4 : w.p4min.0 < w.p3min.0
