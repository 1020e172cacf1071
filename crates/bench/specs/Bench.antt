-- The values on the bench that are proved of the definitions (document 01, "Values on the bench", and values for document 02's Two): a single table, and
-- the single statement that each of its rows holds. Assumes nothing.
use Rattle.std.specs.Prelude.{◌≡◌, true, false, List, [], ◌∷◌, ℕ, ◌-◌, ◌*◌, length}
use Rattle.base.specs.Numbers.{taken, bad_keys, bad_form, bad_length, no_room}
use Rattle.keys.specs.Keys.{good_pair, pair_of}
use Rattle.units.specs.Units.{micros}
use Rattle.timing.specs.Answers.{Decoded}
use Rattle.timing.specs.Timing.{until_time, normal_set, p2_max_of, not_decoded, decoded_of}
use Rattle.timing.specs.declared.Codes.{Codes}
use Rattle.starts.specs.Starts.{complement as inverse}
use Rattle.frame.specs.Build.{shortest, in_format_byte, in_extra_byte, planned, not_built, built_of}
use Rattle.frame.specs.Read.{not_read, read_of, data_of}
use Rattle.frame.specs.declared.Plan.{Plan}

abbrev pub plan : ℕ → ℕ → ℕ → ℕ → ℕ → ℕ → Plan
plan choice kb1 kb2 form target source = record { choice = choice; pair = pair_of kb1 kb2; form = form; target = target; source = source }

abbrev pub codes : ℕ → ℕ → ℕ → ℕ → ℕ → Codes
codes p2min p2max p3min p3max p4min = record { p2min = p2min; p2max = p2max; p3min = p3min; p3max = p3max; p4min = p4min }

pub data Row : Type 0 where
  -- this plan makes these bytes of this data, and they read back
  frame : Plan → List ℕ → List ℕ → Row
  -- this plan for so many bytes and this room is refused with this number
  refused : Plan → ℕ → ℕ → ℕ → Row
  -- these key bytes are good; these are 5, whatever is read or built
  good : ℕ → ℕ → Row
  five : ℕ → ℕ → Row
  -- 255 minus the first, as the slow start answers it, is the second
  complement : ℕ → ℕ → Row
  -- this code of P2 max is so many milliseconds; this one is refused beside any other codes
  p2max : ℕ → ℕ → Row
  p2max_refused : ℕ → Row
  -- what these codes become
  becomes : Codes → Decoded → Row

-- what a row says
unfoldable pub Says : Row → Type 0
Says (frame p bytes made) =
    (built_of p (length bytes) (length made) ≡ record { no = taken; len = length made })
    × (planned p bytes ≡ made)
    × (read_of p.pair.kb1 p.pair.kb2 made
    ≡ record { no = taken; form = p.form; target = p.target; source = p.source; start = length made - length bytes - 1; len = length bytes })
    × (data_of p.pair.kb1 p.pair.kb2 made ≡ bytes)
Says (refused p n room k) = built_of p n room ≡ not_built k
Says (good kb1 kb2) = good_pair kb1 kb2 ≡ true
Says (five kb1 kb2) =
    (good_pair kb1 kb2 ≡ false)
    × ((s : List ℕ) → read_of kb1 kb2 s ≡ not_read bad_keys)
    × ((choice form target source n room : ℕ) → built_of (plan choice kb1 kb2 form target source) n room ≡ not_built bad_keys)
Says (complement x y) = inverse x ≡ y
Says (p2max code ms) = p2_max_of code ≡ until_time (micros (ms * 1_000))
Says (p2max_refused code) = (a b c d : ℕ) → decoded_of (codes a code b c d) ≡ not_decoded
Says (becomes c d) = decoded_of c ≡ d

-- "the three frames above; EF 8F good, 6F 8F and D0 8F are 5; 255 minus 33 is CC and minus 8F is 70 (hex); P2 max F0 6,000, F1 6,400, 00
-- refused; codes 32 02 6E 14 0A are the normal set, with 0A as third byte 10". After the three frames come those of document 02's Two: 1A 90 for 28 from F1
-- under each choice; by choice 2 with one byte of room less, and in form 0; 64 bytes for the format byte; a place chosen that is not announced, twice; a
-- choice above 2 beside no data and no room.
unfoldable pub table : List Row
table =
    frame (plan shortest 0xEF 0x8F 1 0x11 0xF1) (0x81 ∷ []) (0x81 ∷ 0x11 ∷ 0xF1 ∷ 0x81 ∷ 0x04 ∷ [])
    ∷ frame (plan shortest 0xEF 0x8F 1 0xF1 0x11) (0xC1 ∷ 0xEF ∷ 0x8F ∷ []) (0x83 ∷ 0xF1 ∷ 0x11 ∷ 0xC1 ∷ 0xEF ∷ 0x8F ∷ 0xC4 ∷ [])
    ∷ frame (plan shortest 0xEF 0x8F 0 0 0) (0x3E ∷ []) (0x01 ∷ 0x3E ∷ 0x3F ∷ [])
    ∷ frame (plan shortest 0xEF 0x8F 1 0x28 0xF1) (0x1A ∷ 0x90 ∷ []) (0x82 ∷ 0x28 ∷ 0xF1 ∷ 0x1A ∷ 0x90 ∷ 0x45 ∷ [])
    ∷ frame (plan in_format_byte 0xEF 0x8F 1 0x28 0xF1) (0x1A ∷ 0x90 ∷ []) (0x82 ∷ 0x28 ∷ 0xF1 ∷ 0x1A ∷ 0x90 ∷ 0x45 ∷ [])
    ∷ frame (plan in_extra_byte 0xEF 0x8F 1 0x28 0xF1) (0x1A ∷ 0x90 ∷ []) (0x80 ∷ 0x28 ∷ 0xF1 ∷ 0x02 ∷ 0x1A ∷ 0x90 ∷ 0x45 ∷ [])
    ∷ refused (plan in_extra_byte 0xEF 0x8F 1 0x28 0xF1) 2 6 no_room
    ∷ frame (plan in_extra_byte 0xEF 0x8F 0 0 0) (0x1A ∷ 0x90 ∷ []) (0x00 ∷ 0x02 ∷ 0x1A ∷ 0x90 ∷ 0xAC ∷ [])
    ∷ refused (plan in_format_byte 0xEF 0x8F 1 0x28 0xF1) 64 300 bad_length
    ∷ refused (plan in_format_byte 0xEA 0x8F 1 0x28 0xF1) 2 300 bad_length
    ∷ refused (plan in_extra_byte 0xE9 0x8F 1 0x28 0xF1) 2 300 bad_length
    ∷ refused (plan 3 0xEF 0x8F 1 0x28 0xF1) 0 0 bad_form
    ∷ good 0xEF 0x8F
    ∷ five 0x6F 0x8F
    ∷ five 0xD0 0x8F
    ∷ complement 0x33 0xCC
    ∷ complement 0x8F 0x70
    ∷ p2max 0xF0 6_000
    ∷ p2max 0xF1 6_400
    ∷ p2max_refused 0x00
    ∷ becomes (codes 0x32 0x02 0x6E 0x14 0x0A) (record { no = taken; windows = normal_set })
    ∷ becomes (codes 0x32 0x02 0x0A 0x14 0x0A) not_decoded
    ∷ []

-- the statement: each row holds
unfoldable pub Every : List Row → Type 0
Every [] = Unit {0}
Every (r ∷ rs) = Says r × Every rs
