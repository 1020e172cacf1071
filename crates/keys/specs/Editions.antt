-- Which edition a unit speaks, by its pair of key bytes (document 02, "Five"; ISO 9141-2, clause 6). Only the link asks for it: `good_pair` knows no car, and so
-- neither do `build` and `read`.
-- Assumes nothing.
use Rattle.std.specs.Prelude.{ℕ, Bool, true, false, ◌&&◌, ◌||◌, eqb, if◌then◌else◌}
use Rattle.keys.specs.Keys.{is_good}
use Rattle.keys.specs.declared.Pair.{Pair}
use Rattle.keys.specs.declared.Edition.{Edition}
use Rattle.keys.specs.declared.Edition.TheVariants.{Iso14230, Car08, Car94}

-- "Half our users' cars answer address 33 with 08 08 or 94 94": the two editions of a car, and document 01's
unfoldable pub edition_of : Pair → Edition
edition_of pair =
    if eqb pair.kb1 0x08 && eqb pair.kb2 0x08 then Car08 else
    if eqb pair.kb1 0x94 && eqb pair.kb2 0x94 then Car94 else Iso14230

unfoldable pub is_car : Edition → Bool
is_car Iso14230 = false
is_car Car08 = true
is_car Car94 = true

-- whose unit may answer at once: "under 94 94 a unit byte after a held tester message ends it too"
unfoldable pub is_quick : Edition → Bool
is_quick Iso14230 = false
is_quick Car08 = false
is_quick Car94 = true

-- "an address other than 33 with 08 08 or 94 94 still fails": the pairs that are right in a slow start from this address
abbrev pub car_address : ℕ
car_address = 0x33

unfoldable pub is_slow_pair : ℕ → Pair → Bool
is_slow_pair address pair = is_good pair || eqb address car_address && is_car (edition_of pair)
