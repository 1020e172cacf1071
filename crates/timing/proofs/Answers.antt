-- The answers in the paper's numbers tell any two results apart. Assumes nothing.
use mathlib.Core.Path.{◌≡◌, ap}
use Rattle.std.specs.Prelude.{Result}
use Rattle.base.specs.declared.Refusal.{Refusal}
use Rattle.base.proofs.Refusals.{one_result}
use Rattle.timing.specs.Answers.{Decoded, Encoded}
use Rattle.timing.specs.Timing.{answer_decoded, answer_encoded}
use Rattle.timing.specs.declared.Windows.{Windows}
use Rattle.timing.specs.declared.Codes.{Codes}

pub one_decoded : (r s : Result Windows Refusal) → answer_decoded r ≡ answer_decoded s → r ≡ s
one_decoded r s e = one_result _ r s (ap (λ (d : Decoded). d.no) e) (ap (λ (d : Decoded). d.windows) e)

pub one_encoded : (r s : Result Codes Refusal) → answer_encoded r ≡ answer_encoded s → r ≡ s
one_encoded r s e = one_result _ r s (ap (λ (d : Encoded). d.no) e) (ap (λ (d : Encoded). d.codes) e)
