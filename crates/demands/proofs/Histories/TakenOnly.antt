-- REFUSED EVENTS MAY BE LEFT OUT: after the events taken alone a link is what it is after all of them (`taken_same`), has made the same reports
-- (`reports_same`) and makes the same to the next event (`next_same`). An event that is refused changes nothing, and which are refused is said of the events;
-- so it holds of any link that meets demand 1 (`demand_passes`), and of ours. Assumes nothing.
use mathlib.Core.List.{List, ◌++◌, append-nil}
use mathlib.Core.Path.{◌≡◌, refl, sym, ap, ◌∙◌}
use borrow.Author.Tests.{eqb-false}
use lib.Dec.{eqb}
use Rattle.base.specs.Numbers.{taken}
use Rattle.base.proofs.Tests.{by_test}
use Rattle.events.specs.declared.Event.{Event}
use Rattle.reports.specs.declared.Report.{Report}
use Rattle.demands.specs.Logs.{Log, none, ◌▷◌, number_after, taken_of}
use Rattle.demands.specs.Refusals.{Not}
use Rattle.demands.specs.Histories.{Machine, Host, kept, after, answer_to, reports_to, reports_of, AsBefore}
use Rattle.demands.specs.DemandOne.{DemandOne}
use Rattle.demands.specs.Ours.{ours}
use Rattle.demands.proofs.Numbers.Answering.{refused_as_before, history_numbers}

-- the events taken are all taken again
pub taken_twice : (es : Log) → taken_of (taken_of es) ≡ taken_of es
unfolding taken_of
taken_twice none = refl
taken_twice (es ▷ e) =
    by_test (λ (log : Log). taken_of log ≡ log) (eqb (number_after (taken_of es) e) taken) {x = taken_of es ▷ e} {y = taken_of es}
    (λ t. rw (taken_twice es, t) refl) (λ _. taken_twice es)

-- a link that passes over what the events taken refuse
abbrev pub PassesOver : Machine → Type 0
PassesOver m = (es : Log) (e : Event) → Not (number_after (taken_of es) e ≡ taken) → AsBefore (after m es).link (after m es).counts (answer_to m es e)

pub demand_passes : (m : Machine) → DemandOne m → PassesOver m
demand_passes m D es e n = D.refused_as_before (after m es).link (after m es).counts e (λ q. n (sym (D.history_numbers es e) ∙ q))

pub ours_passes : PassesOver ours
ours_passes es e n = refused_as_before (after ours es).link (after ours es).counts e (λ q. n (sym (history_numbers es e) ∙ q))

module _ (m : Machine) (passes : PassesOver m) where
  -- THE LINK AND ITS COUNTS
  pub taken_same : (es : Log) → after m (taken_of es) ≡ after m es
  unfolding taken_of after
  taken_same none = refl
  taken_same (es ▷ e) =
      by_test (λ (log : Log). after m log ≡ after m (es ▷ e)) (eqb (number_after (taken_of es) e) taken) {x = taken_of es ▷ e} {y = taken_of es}
      (λ _. ap (λ (h : Host m.Inner). kept (m.step h.link h.counts e)) (taken_same es))
      (λ f.
      let b = passes es e (eqb-false (number_after (taken_of es) e) taken f) in
      taken_same es ∙ (λ i. record { link = sym b.link i; counts = sym b.counts i }))

  -- the reports of the next event
  pub next_same : (es : Log) (e : Event) → reports_to m (taken_of es) e ≡ reports_to m es e
  next_same es e = ap (λ (h : Host m.Inner). (m.step h.link h.counts e).reports) (taken_same es)

  -- ALL REPORTS
  pub reports_same : (es : Log) → reports_of m (taken_of es) ≡ reports_of m es
  unfolding taken_of reports_of
  reports_same none = refl
  reports_same (es ▷ e) =
      by_test (λ (log : Log). reports_of m log ≡ reports_of m (es ▷ e)) (eqb (number_after (taken_of es) e) taken) {x = taken_of es ▷ e} {y = taken_of es}
      (λ _ i. reports_same es i ++ next_same es e i)
      (λ f.
      let b = passes es e (eqb-false (number_after (taken_of es) e) taken f) in
      reports_same es ∙ sym (append-nil (reports_of m es)) ∙ ap (λ (rs : List Report). reports_of m es ++ rs) (sym b.reports))
