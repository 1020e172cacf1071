-- The history of an input, and what is written for it (document 01, "The listing"). Assumes nothing.
use Rattle.std.specs.Prelude.{ℕ, List, [], ◌∷◌, ◌++◌}
use Rattle.lines.specs.Lines.{line_of}
use Rattle.listing.specs.Listing.{answer_text}
use Rattle.listing.specs.InputLines.{lines_of}
use Rattle.demands.specs.Logs.{Log, none, ◌▷◌}
use Rattle.demands.specs.Ours.{our_answer}

-- The history of an input: one event for each of its lines, in order. A line that can't be read gives an event of no kind, which is refused.
unfoldable pub history_by : Log → List (List ℕ) → Log
history_by es [] = es
history_by es (l ∷ ls) = history_by (es ▷ line_of l) ls

abbrev pub history_of : List ℕ → Log
history_of input = history_by none (lines_of input)

-- what is written for events: "a line per report", "`refused N` for a refused line"
unfoldable pub said_for : Log → List ℕ
said_for none = []
said_for (es ▷ e) = said_for es ++ answer_text (our_answer es e)
