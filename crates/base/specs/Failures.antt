-- A reason of a failed initialization has one of the paper's numbers (document 01, "Events and what the link does").
-- Assumes nothing.
use Rattle.std.specs.Prelude.{ℕ, Result, Ok, Err}
use Rattle.base.specs.Reports.{no_reason, window_over, closed, wrong_low, wrong_side, too_early, misfit}
use Rattle.base.specs.declared.reason.Failure.{Failure}
use Rattle.base.specs.declared.reason.Failure.TheVariants.{WindowOver, Closed, WrongLow, WrongSide, TooEarly, Misfit}

unfoldable pub failure_number : Failure → ℕ
failure_number WindowOver = window_over
failure_number Closed = closed
failure_number WrongLow = wrong_low
failure_number WrongSide = wrong_side
failure_number TooEarly = too_early
failure_number Misfit = misfit

-- the number of an answer that may be a failure
unfoldable pub failure_no : {A : Type 0} → Result A Failure → ℕ
failure_no (Ok _) = no_reason
failure_no (Err why) = failure_number why
