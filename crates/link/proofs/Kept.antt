-- WHAT EVERY RULE KEEPS, EVERY EVENT KEEPS. Assumes nothing.
use mathlib.Core.List.{List}
use mathlib.Core.Path.{subst, sym}
use lib.Dec.{eqb}
use Rattle.base.specs.Numbers.{taken}
use Rattle.base.proofs.Tests.{by_test}
use Rattle.units.specs.declared.Micros.{Micros}
use Rattle.events.specs.declared.Event.{Event}
use Rattle.phases.specs.declared.Phase.{Phase}
use Rattle.moves.specs.declared.Move.{Move}
use Rattle.moves.proofs.Rules.{Moment, Rule}
use Rattle.reports.specs.declared.Report.{Report}
use Rattle.reports.specs.declared.Counts.{Counts}
use Rattle.reports.specs.declared.Run.{Run}
use Rattle.link.specs.Handling.{begun, handled, link_after}
use Rattle.link.specs.Stepping.{number_of, refused_by, taken_by, answer_of, step_of}
use Rattle.link.specs.declared.Link.{Link}
use Rattle.link.specs.Answers.{Answer}
use Rattle.link.proofs.Walk.{moved_phase, event_walk}

module _ (J : Phase → Type 0) (keeps : (mark : Micros) (e : Event) (p : Phase) (k : Moment) (m : Move) → Rule mark e p k m → J p → J m.phase) where
  pub handled_keeps : (l : Link) (e : Event) → J l.phase → J (handled l e).phase
  unfolding handled begun
  handled_keeps l e g =
      let I : Moment → Run → List Report → Type 0 = λ k r xs. J r.phase in
      event_walk l.mark e I (λ k r xs m u i. subst J (sym (moved_phase r m)) (keeps l.mark e r.phase k m u i)) (λ r xs i. i) (λ r xs i. i) (λ r xs i. i) (λ r xs i. i)
      (begun l e) g

  pub step_keeps : (l : Link) (c : Counts) (e : Event) → J l.phase → J (step_of l c e).answer.link.phase
  unfolding step_of answer_of taken_by refused_by link_after
  step_keeps l c e g = by_test (λ (a : Answer). J a.link.phase) (eqb (number_of l c e) taken) (λ _. handled_keeps l e g) (λ _. g)
