-- The lines of an input (document 01, "The listing": "The program reads one event a line from standard input"; "the last line feed may be missing").
-- Assumes nothing.
use Rattle.std.specs.Prelude.{ℕ, List, [], ◌∷◌, eqb, if◌then◌else◌}
use Rattle.lines.specs.Getting.{line_feed}

-- a byte in front of the first line; where there is none, it is a line of its own
abbrev pub on_first : ℕ → List (List ℕ) → List (List ℕ)
on_first b [] = (b ∷ []) ∷ []
on_first b (l ∷ ls) = (b ∷ l) ∷ ls

-- The lines of an input: what stands in front of each line feed, and what stands after the last one, if that is not empty. An empty input has none;
-- a line feed alone has one, which is empty.
unfoldable pub lines_of : List ℕ → List (List ℕ)
lines_of [] = []
lines_of (b ∷ bs) = if eqb b line_feed then [] ∷ lines_of bs else on_first b (lines_of bs)
