-- The text of a listing's lines (document 01, "The listing"), each byte a number. Assumes nothing.
use Rattle.std.specs.Prelude.{ℕ, ◌+◌, ◌*◌, List, [], ◌∷◌, ◌++◌}
use Rattle.words.specs.Writing.{space, line_feed, number_text, number_most}
use Rattle.reports.specs.Reporting.{places}
use Rattle.reports.specs.declared.Report.{Report}
use Rattle.reports.specs.declared.Counts.{Counts}

-- numbers with a space after each
unfoldable pub spaced_text : List ℕ → List ℕ
spaced_text [] = []
spaced_text (n ∷ ns) = number_text n space ++ spaced_text ns

-- a line of numbers: a space between two, a line feed after the last
unfoldable pub line_text : List ℕ → List ℕ
line_text [] = []
line_text (n ∷ []) = number_text n line_feed
line_text (n ∷ m ∷ ns) = number_text n space ++ line_text (m ∷ ns)

-- "a header": `report reason first bytes time` (one line; below, a word of it to a line)
unfoldable pub head_text : List ℕ
head_text =
    (114 ∷ 101 ∷ 112 ∷ 111 ∷ 114 ∷ 116 ∷ space ∷ [])
    ++ ((114 ∷ 101 ∷ 97 ∷ 115 ∷ 111 ∷ 110 ∷ space ∷ [])
    ++ ((102 ∷ 105 ∷ 114 ∷ 115 ∷ 116 ∷ space ∷ [])
    ++ ((98 ∷ 121 ∷ 116 ∷ 101 ∷ 115 ∷ space ∷ [])
    ++ (116 ∷ 105 ∷ 109 ∷ 101 ∷ line_feed ∷ []))))

-- "a line per report (number, reason, index of first byte from 0 or of the next byte where none, bytes, event's end time)"
unfoldable pub report_text : Report → List ℕ
report_text x = line_text (x.number ∷ x.reason ∷ x.first ∷ x.bytes ∷ x.time.0 ∷ [])

-- the reports of an event, a line for each
unfoldable pub reports_text : List Report → List ℕ
reports_text [] = []
reports_text (x ∷ xs) = report_text x ++ reports_text xs

-- "`refused N` for a refused line"
unfoldable pub refused_text : ℕ → List ℕ
refused_text n = (114 ∷ 101 ∷ 102 ∷ 117 ∷ 115 ∷ 101 ∷ 100 ∷ space ∷ []) ++ line_text (n ∷ [])

-- "an end line of the seven counts and the bytes held": `end`, and the eight numbers
unfoldable pub end_text : Counts → ℕ → List ℕ
end_text c held =
    (101 ∷ 110 ∷ 100 ∷ space ∷ [])
    ++ line_text (c.heard ∷ c.framed ∷ c.damaged ∷ c.started ∷ c.outside ∷ c.frames ∷ c.damages ∷ held ∷ [])

-- ---- the room for these texts, the most bytes that each has
-- the header: as many as it has
abbrev pub head_most : ℕ
head_most = 31

-- a report's line: five numbers
abbrev pub line_most : ℕ
line_most = 5 * number_most

-- the lines of an event's reports: one for each place
abbrev pub reports_most : ℕ
reports_most = places * line_most

-- a refusal's line: the word with its space, and a number
abbrev pub refused_most : ℕ
refused_most = 8 + number_most

-- the end line: the word with its space, and eight numbers
abbrev pub end_most : ℕ
end_most = 4 + 8 * number_most
