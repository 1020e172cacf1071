-- Building a frame into a lent buffer (document 01, "Frames"; document 02, Two: the length's place is chosen). Assumes nothing.
use Rattle.std.specs.Prelude.{◌≡◌, ℕ, ◌+◌, ◌≤◌, Bool, ◌&&◌, not, Option, Some, None, Result, Ok, Err, List, ◌++◌, length, take, drop, eqb, leb, ltb, if◌then◌else◌}
use Rattle.base.specs.Numbers.{taken, bad_keys, bad_form, bad_length, no_room}
use Rattle.base.specs.Refusals.{number_of}
use Rattle.base.specs.declared.Refusal.{Refusal}
use Rattle.keys.specs.Keys.{good_pair, takes_form, length_in_format, extra_length}
use Rattle.keys.specs.declared.Form.{Form}
use Rattle.frame.specs.Layout.{form_numbered, head_size, frame_of, is_nowhere}
use Rattle.frame.specs.declared.Place.{Place}
use Rattle.frame.specs.declared.Place.TheVariants.{Format, Extra}
use Rattle.frame.specs.declared.Plan.{Plan}
use Rattle.frame.specs.Answers.{Built}

-- "Length 1 to 63 goes in the format byte if KB1 bit 0 is set; otherwise lengths 1 to 255 take the extra byte if bit 1 is set; all else is 7."
unfoldable pub place_for : ℕ → ℕ → Option Place
place_for kb1 n =
    if length_in_format kb1 && (leb 1 n && leb n 63) then Some Format else
    if extra_length kb1 && (leb 1 n && leb n 255) then Some Extra else None

-- the choices: "shortest as now (0), in the format byte (1), or in the extra byte (2)"; one above the last is 6
abbrev pub shortest : ℕ
shortest = 0

abbrev pub in_format_byte : ℕ
in_format_byte = 1

abbrev pub in_extra_byte : ℕ
in_extra_byte = 2

-- one place and no other: there, if KB1 announces it, for lengths from 1 to what it holds
unfoldable pub only_in : Place → Bool → ℕ → ℕ → Option Place
only_in place announced n most = if announced && (leb 1 n && leb n most) then Some place else None

-- The place of a length by the choice. "Shortest keeps 01's answers"; of the others "a length form chosen but not announced or a length above 63 chosen
-- for the format byte" has none, and is 7. A choice above 2 has none either; it is 6.
unfoldable pub place_chosen : ℕ → ℕ → ℕ → Option Place
place_chosen choice kb1 n =
    if eqb choice shortest then place_for kb1 n else
    if eqb choice in_format_byte then only_in Format (length_in_format kb1) n 63 else
    if eqb choice in_extra_byte then only_in Extra (extra_length kb1) n 255 else None

-- "Building takes key bytes, form (0 none, 1 physical, 2 functional), addresses, data", and a choice: where the length of n bytes goes under a plan, the
-- frame that it makes of them, and its size
abbrev pub place_in : Plan → ℕ → Option Place
place_in p n = place_chosen p.choice p.pair.kb1 n

unfoldable pub planned : Plan → List ℕ → List ℕ
planned p bytes = frame_of (form_numbered p.form) (place_in p (length bytes)) p.target p.source bytes

unfoldable pub size_of : Plan → ℕ → ℕ
size_of p n = head_size (form_numbered p.form) (place_in p n) + n + 1

-- the answer's number for n bytes and a buffer of so many: 5; 6, also "for a choice above 2"; 7; 8, by the frame as chosen
unfoldable pub build_no : Plan → ℕ → ℕ → ℕ
build_no p n room =
    if not (good_pair p.pair.kb1 p.pair.kb2) then bad_keys else
    if ltb in_extra_byte p.choice then bad_form else
    if not (takes_form p.pair.kb1 (form_numbered p.form)) then bad_form else
    if is_nowhere (place_in p n) then bad_length else
    if ltb room (size_of p n) then no_room else taken

abbrev pub not_built : ℕ → Built
not_built k = record { no = k; len = 0 }

-- the answer of `build` in the paper's numbers
abbrev pub built_as : Result ℕ Refusal → Built
built_as (Ok n) = record { no = taken; len = n }
built_as (Err why) = not_built (number_of why)

unfoldable pub built_of : Plan → ℕ → ℕ → Built
built_of p n room =
    if eqb (build_no p n room) taken then record { no = taken; len = size_of p n } else not_built (build_no p n room)

-- bytes in place of as many others from an index on; and at the front
abbrev pub put : ℕ → List ℕ → List ℕ → List ℕ
put at s out = take at out ++ (s ++ drop (at + length s) out)

unfoldable pub over : List ℕ → List ℕ → List ℕ
over p out = p ++ drop (length p) out

-- "Building writes the frame at the front of the buffer and nothing behind it"; a refusal writes nothing
unfoldable pub buffer_after : Plan → List ℕ → List ℕ → List ℕ
buffer_after p bytes out = if eqb (build_no p (length bytes) (length out)) taken then over (planned p bytes) out else out

-- what `build` promises: its answer, and what the lent buffer holds
pub record Builds (p : Plan) (bytes out : List ℕ) (r : Built) (after : List ℕ) : Type 0 where
  pub answer : r ≡ built_of p (length bytes) (length out)
  pub memory : after ≡ buffer_after p bytes out

-- what writing a frame asks of its place and its buffer: it is asked only where `build_no` is 0
pub record Writable (form : Form) (place : Option Place) (n room : ℕ) : Type 0 where
  pub byte : n ≤ 255
  pub short : place ≡ Some Format → n ≤ 63
  pub fits : head_size form place + n + 1 ≤ room
