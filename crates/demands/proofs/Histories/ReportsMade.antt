-- The reports of an event, after any events: one that is refused makes none, and each report of one that is taken has its cause, which makes it (`cause_each`).
-- Assumes nothing.
use Prim.Native.Nat.{ℕ}
use mathlib.Core.Bool.{Bool, true, false}
use mathlib.Core.List.{[]}
use mathlib.Core.Path.{◌≡◌, refl, sym, ap, ◌∙◌, subst}
use borrow.Author.Tests.{eqb-true, eqb-false}
use lib.Dec.{eqb}
use Rattle.base.specs.Numbers.{taken}
use Rattle.events.specs.declared.Event.{Event}
use Rattle.reports.specs.Reporting.{listed}
use Rattle.reports.specs.declared.Report.{Report}
use Rattle.link.specs.Stepping.{refused_by}
use Rattle.link.specs.declared.Link.{Link}
use Rattle.link.specs.Answers.{Answer}
use Rattle.link.specs.Telling.{handled_tells}
use Rattle.link.proofs.Long.{Long, fresh_long, step_long}
use Rattle.link.proofs.Four.{four_enough}
use Rattle.demands.specs.Logs.{Log, none, ◌▷◌, number_after, taken_of}
use Rattle.demands.specs.Histories.{after, reports_to, Says, Among, Tells}
use Rattle.demands.proofs.Histories.Basics.{answer_refused}
use Rattle.demands.proofs.Connecting.ConnectsExactly.{reports_taken}
use Rattle.demands.proofs.Moves.ReportsInList.{not_among, says_speaks, tells_says}
use Rattle.demands.proofs.Moves.Causes.{Cause, cause_each}
use Rattle.demands.specs.Ours.{ours}

pub reports_made : (es : Log) (e : Event) → number_after (taken_of es) e ≡ taken → reports_to ours es e ≡ handled_tells (after ours es).link e
reports_made es e q = reports_taken es e q ∙ four_enough (after ours es).link e

pub none_refused : (es : Log) (e : Event) → (number_after (taken_of es) e ≡ taken → ⊥) → reports_to ours es e ≡ []
unfolding refused_by listed
none_refused es e q = ap (λ (a : Answer). listed a.reports) (answer_refused es e q)

pub taken_by_report : (es : Log) (e : Event) (x : Report) → Among x (reports_to ours es e) → number_after (taken_of es) e ≡ taken
taken_by_report es e x i = by_number (eqb (number_after (taken_of es) e) taken) refl
  where
    by_number : (b : Bool) → eqb (number_after (taken_of es) e) taken ≡ b → number_after (taken_of es) e ≡ taken
    by_number true n = eqb-true (number_after (taken_of es) e) taken n
    by_number false n = absurd (not_among (subst (Among x) (none_refused es e (eqb-false (number_after (taken_of es) e) taken n)) i))

-- ---- and their causes
pub long_of : (es : Log) → Long (after ours es).link.phase
unfolding after
long_of none = fresh_long
long_of (es ▷ e) = step_long (after ours es).link (after ours es).counts e (long_of es)

module _ (es : Log) (e : Event) where
  abbrev here : Link
  here = (after ours es).link

  abbrev pub CauseAt : ℕ → ℕ → Type 0
  CauseAt = Cause here e

  pub cause_at : (x : Report) → Among x (reports_to ours es e) → CauseAt x.number x.reason
  cause_at x i = cause_each here e x (subst (Among x) (reports_made es e (taken_by_report es e x i)) i)

  pub made_at : (number reason : ℕ) → number_after (taken_of es) e ≡ taken → Tells number reason (handled_tells here e) → Tells number reason (reports_to ours es e)
  made_at number reason n t = subst (Tells number reason) (sym (reports_made es e n)) t

  -- a report of this number and reason: the event is taken, and there is a cause
  pub record Caused (number reason : ℕ) : Type 0 where
    pub number_is : number_after (taken_of es) e ≡ taken
    pub cause : CauseAt number reason

  pub tells_caused : (number reason : ℕ) → Tells number reason (reports_to ours es e) → Caused number reason
  tells_caused number reason t = record {
    number_is = taken_by_report es e t.report t.made;
    cause = subst (λ (k : ℕ). CauseAt number k) t.reason_is (subst (λ (n : ℕ). CauseAt n t.report.reason) t.number_is (cause_at t.report t.made));
  }

  -- a report of this number
  pub record Spoken (number : ℕ) : Type 0 where
    pub reason : ℕ
    pub caused : Caused number reason

  pub says_caused : (number : ℕ) → Says number (reports_to ours es e) → Spoken number
  says_caused number s =
      let x = says_speaks number (reports_to ours es e) s in
      record {
        reason = x.report.reason;
        caused = tells_caused number x.report.reason (record { report = x.report; made = x.made; number_is = x.number_is; reason_is = refl });
      }

  pub says_made : (number reason : ℕ) → number_after (taken_of es) e ≡ taken → Tells number reason (handled_tells here e) → Says number (reports_to ours es e)
  says_made number reason n t = tells_says number reason (reports_to ours es e) (made_at number reason n t)
