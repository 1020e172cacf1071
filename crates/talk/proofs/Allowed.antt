-- The windows of allowed codes, else those in force, as a result has them. Assumes nothing.
use mathlib.Core.Path.{◌≡◌, refl, ap}
use mathlib.Core.Bool.{true, false}
use lib.Dec.{eqb}
use Rattle.std.specs.Prelude.{Result, Ok, Err}
use Rattle.std.specs.Result.{result_unwrap_or}
use Rattle.base.specs.Refusals.{no_of}
use Rattle.base.specs.declared.Refusal.{Refusal}
use Rattle.timing.specs.Answers.{Decoded}
use Rattle.timing.specs.Timing.{answer_decoded}
use Rattle.timing.specs.declared.Windows.{Windows}
use Rattle.base.proofs.Refusals.{refused}
use Rattle.talk.specs.Talk.{if_allowed}

as_result : (r : Result Windows Refusal) (w : Windows) → if_allowed (answer_decoded r) w ≡ result_unwrap_or r w
unfolding if_allowed no_of
as_result (Ok windows) w = refl
as_result (Err why) w = rw (refused why) refl

pub allowed_or : (r : Result Windows Refusal) (d : Decoded) (w : Windows) → answer_decoded r ≡ d → if_allowed d w ≡ result_unwrap_or r w
allowed_or r d w e = rw (← e) (as_result r w)
