-- A reason of damage, and a reason of down, has one of the paper's numbers (document 01, "Events and what the link does").
-- Assumes nothing.
use Rattle.std.specs.Prelude.{ℕ, Option, Some, None}
use Rattle.base.specs.Reports.{no_reason, broken_off, closed, early, stray, mode_one, wrong_form, other_side, wrong_length, wrong_sum}
use Rattle.base.specs.Reports.{stopped, idle_over, dropped, restarted}
use Rattle.base.specs.declared.reason.Damage.{Damage}
use Rattle.base.specs.declared.reason.Damage.TheVariants.{BrokenOff, Closed, Early, Stray, ModeOne, WrongForm, OtherSide, WrongLength, WrongSum}
use Rattle.base.specs.declared.reason.Down.{Down}
use Rattle.base.specs.declared.reason.Down.TheVariants.{Stopped, IdleOver, Dropped, Restarted}

unfoldable pub damage_number : Damage → ℕ
damage_number BrokenOff = broken_off
damage_number Closed = closed
damage_number Early = early
damage_number Stray = stray
damage_number ModeOne = mode_one
damage_number WrongForm = wrong_form
damage_number OtherSide = other_side
damage_number WrongLength = wrong_length
damage_number WrongSum = wrong_sum

unfoldable pub down_number : Down → ℕ
down_number Stopped = stopped
down_number IdleOver = idle_over
down_number Dropped = dropped
down_number Restarted = restarted

-- the number of a reason of damage, if there is one
unfoldable pub why_of : Option Damage → ℕ
why_of None = no_reason
why_of (Some why) = damage_number why
