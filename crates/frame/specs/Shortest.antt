-- Document 01's builder, which knew no choice: what `build` promised before document 02's Two, word for word (the types are today's: a plan holds its key
-- bytes as a `pair`), with `place_for`, `not_built` and `over`, which stayed in Build.antt. It puts the length where the frame is shortest, and looks at no
-- choice. `build` is proved to answer so under the choice 0 (proofs/Shortest.antt). Assumes nothing.
use Rattle.std.specs.Prelude.{◌≡◌, ℕ, ◌+◌, not, List, length, eqb, ltb, if◌then◌else◌}
use Rattle.base.specs.Numbers.{taken, bad_keys, bad_form, bad_length, no_room}
use Rattle.keys.specs.Keys.{good_pair, takes_form}
use Rattle.frame.specs.Layout.{form_numbered, head_size, frame_of, is_nowhere}
use Rattle.frame.specs.Build.{place_for, not_built, over}
use Rattle.frame.specs.declared.Plan.{Plan}
use Rattle.frame.specs.Answers.{Built}

-- "Building takes key bytes, form (0 none, 1 physical, 2 functional), addresses, data": the frame that a plan makes of n bytes, and its size
unfoldable pub shortest_frame : Plan → List ℕ → List ℕ
shortest_frame p bytes = frame_of (form_numbered p.form) (place_for p.pair.kb1 (length bytes)) p.target p.source bytes

unfoldable pub shortest_size : Plan → ℕ → ℕ
shortest_size p n = head_size (form_numbered p.form) (place_for p.pair.kb1 n) + n + 1

-- the answer's number for n bytes and a buffer of so many
unfoldable pub shortest_no : Plan → ℕ → ℕ → ℕ
shortest_no p n room =
    if not (good_pair p.pair.kb1 p.pair.kb2) then bad_keys else
    if not (takes_form p.pair.kb1 (form_numbered p.form)) then bad_form else
    if is_nowhere (place_for p.pair.kb1 n) then bad_length else
    if ltb room (shortest_size p n) then no_room else taken

unfoldable pub shortest_built : Plan → ℕ → ℕ → Built
shortest_built p n room =
    if eqb (shortest_no p n room) taken then record { no = taken; len = shortest_size p n } else not_built (shortest_no p n room)

-- "Building writes the frame at the front of the buffer and nothing behind it"; a refusal writes nothing
unfoldable pub shortest_after : Plan → List ℕ → List ℕ → List ℕ
shortest_after p bytes out = if eqb (shortest_no p (length bytes) (length out)) taken then over (shortest_frame p bytes) out else out

-- what it promised: its answer, and what the lent buffer holds
pub record BuildsShortest (p : Plan) (bytes out : List ℕ) (r : Built) (after : List ℕ) : Type 0 where
  pub answer : r ≡ shortest_built p (length bytes) (length out)
  pub memory : after ≡ shortest_after p bytes out
