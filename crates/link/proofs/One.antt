-- Any two results that meet a public function's promise are equal. Assumes nothing.
use mathlib.Core.Bool.{Bool}
use mathlib.Core.Path.{◌≡◌, sym, ◌∙◌}
use Rattle.std.specs.Prelude.{Result}
use Rattle.base.specs.declared.Refusal.{Refusal}
use Rattle.base.proofs.One.{Only, only}
use Rattle.reports.specs.declared.Counts.{Counts}
use Rattle.events.specs.declared.Event.{Event}
use Rattle.link.specs.Answers.{answered_as, counted_as, stepped_as}
use Rattle.link.specs.declared.Link.{Link}
use Rattle.link.specs.declared.Answer.{Answer}
use Rattle.link.specs.declared.Stepped.{Stepped}
use Rattle.link.specs.Handling.{fresh_link}
use Rattle.link.specs.Stepping.{answer_of, counts_after, step_of}
use Rattle.link.specs.Running.{runs_on, ran_on}
use Rattle.link.proofs.Answered.{one_answer, one_step}

pub fresh : Only (λ (r : Link). r ≡ fresh_link)
fresh = only fresh_link

pub respond : (l : Link) (c : Counts) (e : Event) → Only (λ (r : Result Answer Refusal). answered_as l r ≡ answer_of l c e)
respond l c e r s p q = one_answer l r s (p ∙ sym q)

pub counted : {R : Type 0} (c : Counts) (a : Result Answer R) (e : Event) → Only (λ (r : Counts). r ≡ counts_after c (counted_as fresh_link a) e)
counted c a e = only (counts_after c (counted_as fresh_link a) e)

pub step : (l : Link) (c : Counts) (e : Event) → Only (λ (r : Result Stepped Refusal). stepped_as l c r ≡ step_of l c e)
step l c e r s p q = one_step l c r s (p ∙ sym q)

pub runs_on_lem : (l : Link) (c : Counts) (e : Event) → Only (λ (r : Bool). r ≡ runs_on l c e)
runs_on_lem l c e = only (runs_on l c e)

pub run_on : (l : Link) (e : Event) → Only (λ (r : Link). r ≡ ran_on l e)
run_on l e = only (ran_on l e)
