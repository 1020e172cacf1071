-- The answers of a step in the paper's numbers (document 01, "Numbers a caller may get back"): the number, 0 where the event is taken, the link after it and
-- its reports. "Beside a refusal every other number is 0, and link, counts and buffers keep their contents." Assumes nothing.
use Rattle.std.specs.Prelude.{ℕ, Result, Ok, Err}
use Rattle.base.specs.Numbers.{taken, unknown}
use Rattle.base.specs.Refusals.{number_of}
use Rattle.base.specs.declared.Refusal.{Refusal}
use Rattle.reports.specs.Reporting.{no_reports}
use Rattle.reports.specs.declared.Reports.{Reports}
use Rattle.reports.specs.declared.Counts.{Counts}
use Rattle.link.specs.declared.Link.{Link}
use Rattle.link.specs.declared.Answer.{Answer as Taken}
use Rattle.link.specs.declared.Stepped.{Stepped as Moved}

-- what an event is answered with: the link after it, its reports, its number
pub record Answer : Type 0 where
  pub link : Link
  pub reports : Reports
  pub no : ℕ

-- a step: the answer, and the counts after it
pub record Stepped : Type 0 where
  pub answer : Answer
  pub counts : Counts

-- the result of `respond` in these numbers, by the link that it was asked of
abbrev pub answered_as : Link → Result Taken Refusal → Answer
answered_as l (Ok a) = record { link = a.link; reports = a.reports; no = taken }
answered_as l (Err why) = record { link = l; reports = no_reports; no = number_of why }

-- the result of `step`, by the link and the counts
abbrev pub stepped_as : Link → Counts → Result Moved Refusal → Stepped
stepped_as l c (Ok s) = record { answer = answered_as l (Ok s.answer); counts = s.counts }
stepped_as l c (Err why) = record { answer = answered_as l (Err why); counts = c }

-- an answer that may be a refusal of any kind, in these numbers: who counts asks only whether the event was taken
abbrev pub counted_as : {R : Type 0} → Link → Result Taken R → Answer
counted_as l (Ok a) = record { link = a.link; reports = a.reports; no = taken }
counted_as l (Err _) = record { link = l; reports = no_reports; no = unknown }
