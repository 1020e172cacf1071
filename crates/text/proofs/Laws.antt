-- How long the texts are. Assumes nothing.
use Prim.Native.Nat.{ℕ, ◌*◌, ◌≤◌}
use mathlib.Core.List.{List, [], ◌∷◌}
use lib.ListN.{length, length-append}
use native.Mathlib.Omega.{arith}
use Rattle.reports.specs.Reporting.{listed}
use Rattle.reports.proofs.Places.{listed_few}
use Rattle.reports.specs.declared.Report.{Report}
use Rattle.reports.specs.declared.Reports.{Reports}
use Rattle.reports.specs.declared.Counts.{Counts}
use Rattle.words.specs.Writing.{space, line_feed, number_most}
use Rattle.words.proofs.Written.{number_small}
use Rattle.text.specs.Text.{line_text, head_text, report_text, reports_text, refused_text, end_text}
use Rattle.text.specs.Text.{head_most, line_most, reports_most, refused_most, end_most}

pub line_small : (ns : List ℕ) → length (line_text ns) ≤ length ns * number_most
unfolding line_text
line_small [] = omega arith
line_small (n ∷ []) = omega (arith, number_small n line_feed)
line_small (n ∷ m ∷ ns) = rw (length-append) (omega (arith, number_small n space, line_small (m ∷ ns)))

pub head_small : length head_text ≤ head_most
unfolding head_text
head_small = omega arith

pub report_small : (x : Report) → length (report_text x) ≤ line_most
unfolding report_text
report_small x = line_small (x.number ∷ x.reason ∷ x.first ∷ x.bytes ∷ x.time.0 ∷ [])

lines_small : (xs : List Report) → length (reports_text xs) ≤ length xs * line_most
unfolding reports_text
lines_small [] = omega arith
lines_small (x ∷ xs) = rw (length-append (report_text x) (reports_text xs)) (omega (arith, report_small x, lines_small xs))

pub reports_small : (rs : Reports) → length (reports_text (listed rs)) ≤ reports_most
reports_small rs = omega (arith, lines_small (listed rs), listed_few rs)

pub refused_small : (n : ℕ) → length (refused_text n) ≤ refused_most
unfolding refused_text
refused_small n = omega (arith, line_small (n ∷ []))

pub end_small : (c : Counts) (held : ℕ) → length (end_text c held) ≤ end_most
unfolding end_text
end_small c held = omega (arith, line_small (c.heard ∷ c.framed ∷ c.damaged ∷ c.started ∷ c.outside ∷ c.frames ∷ c.damages ∷ held ∷ []))
