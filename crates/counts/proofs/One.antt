-- Any two answers, with the counts that they leave, that meet the promise of a step are equal; and so are any two results of a step with counts of the caller's own. Assumes nothing.
use mathlib.Core.Path.{◌≡◌, sym, ◌∙◌}
use Rattle.std.specs.Prelude.{Result}
use Rattle.base.specs.declared.Refusal.{Refusal}
use Rattle.base.proofs.One.{Only}
use Rattle.events.specs.declared.Event.{Event}
use Rattle.link.specs.Answers.{answered_as, stepped_as}
use Rattle.link.specs.Stepping.{step_of}
use Rattle.link.specs.declared.Link.{Link}
use Rattle.reports.specs.declared.Counts.{Counts}
use Rattle.link.specs.declared.Answer.{Answer}
use Rattle.link.specs.declared.Stepped.{Stepped}
use Rattle.link.proofs.Answered.{one_answer, one_step}
use Rattle.counts.specs.Lent.{Steps}

pub step : (l : Link) (c : Counts) (e : Event) → Only (λ (x : Result Answer Refusal × Counts). Steps l c e (answered_as l x.0) x.1)
step l c e x y p q = λ i. (one_answer l x.0 y.0 (p.answer ∙ sym q.answer) i, (p.counts ∙ sym q.counts) i)

pub step_owned : (l : Link) (c : Counts) (e : Event) → Only (λ (r : Result Stepped Refusal). stepped_as l c r ≡ step_of l c e)
step_owned l c e r s p q = one_step l c r s (p ∙ sym q)
