-- Lines out of a part of the input, which may begin and end within a line. Assumes nothing.
use Rattle.std.specs.Prelude.{ℕ, ◌+◌, List, [], ◌∷◌, Some, None, ◌==◌, if◌then◌else◌}
use Rattle.lines.specs.Lines.{fresh_reading, read_byte, event_of}
use Rattle.lines.specs.declared.Reading.{Reading}
use Rattle.lines.specs.declared.Got.{Got}

abbrev pub line_feed : ℕ
line_feed = 10

-- the line ended in front of `at`
unfoldable pub ended : Reading → ℕ → Got
ended r at = record { line = Some (event_of r); reading = fresh_reading; at = at }

-- the part ended in front of `at`
unfoldable pub cut_off : Reading → ℕ → Got
cut_off r at = record { line = None; reading = r; at = at }

-- The rest of a line of which r was read: up to its line feed, or to the part's end. The bytes stand at `at` and after.
unfoldable pub got_of : Reading → List ℕ → ℕ → Got
got_of r [] at = cut_off r at
got_of r (b ∷ bs) at = if b == line_feed then ended r (at + 1) else got_of (read_byte r b) bs (at + 1)
