-- Demand 1's work: an event's number by its conditions, for any link and after any events; and that a refused event changes nothing.
-- Assumes nothing.
use Prim.Native.Nat.{ℕ, ◌≤◌}
use mathlib.Core.Logic.{⊎_elim}
use mathlib.Core.Path.{◌≡◌, refl, sym, ap, subst, ◌∙◌}
use native.Mathlib.Omega.{arith}
use borrow.Author.Tests.{ne_eqb}
use Rattle.base.specs.Numbers.{taken}
use Rattle.units.specs.declared.Micros.{Micros}
use Rattle.reports.specs.Reporting.{no_reports, listed}
use Rattle.events.specs.Events.{is_other, is_byte, is_nobody, is_unknown, is_too_late, is_out_of_order, refusal}
use Rattle.events.specs.declared.Event.{Event}
use Rattle.reports.specs.Counting.{zero_counts, is_full}
use Rattle.reports.specs.declared.Counts.{Counts}
use Rattle.link.specs.Handling.{fresh_link}
use Rattle.link.specs.Stepping.{number_of, refused_by, counts_after, step_of}
use Rattle.link.specs.Answers.{Answer}
use Rattle.link.specs.declared.Link.{Link}
use Rattle.demands.specs.Logs.{Log, clock_of, count_of, number_after, taken_of}
use Rattle.demands.specs.Refusals.{Not, Unknown, TooLate, Above, Numbered}
use Rattle.demands.specs.Histories.{after, reports_of, AsBefore}
use Rattle.demands.specs.DemandOne.{some_event}
use Rattle.demands.proofs.Numbers.Numbering.{zero_small, small_not_above, number_numbered, log_numbered}
use Rattle.demands.proofs.Histories.Invariant.{kept_of, kept_small, refused_answer, number_answered}
use Rattle.demands.proofs.Histories.Basics as basics
use Rattle.demands.specs.Ours.{told_by, ours, our_answer}

pub numbered : (l : Link) (c : Counts) (e : Event) → Numbered l.clock l.taken c e (step_of l c e).answer.no
unfolding step_of
numbered l c e = subst (Numbered l.clock l.taken c e) (sym (number_answered l c e)) (number_numbered l c e)

pub refused_as_before : (l : Link) (c : Counts) (e : Event) → Not ((step_of l c e).answer.no ≡ 0) → AsBefore l c (told_by (step_of l c e))
unfolding step_of refused_by counts_after listed
refused_as_before l c e h =
    let q = ne_eqb (number_of l c e) taken (λ p. h (number_answered l c e ∙ p)) in
    rw (refused_answer l c e q, q) (record { link = refl; counts = refl; reports = refl })

pub refused_zeros : (l : Link) (c : Counts) (e : Event) → Not ((step_of l c e).answer.no ≡ 0) → (step_of l c e).answer.reports ≡ no_reports
unfolding step_of refused_by
refused_zeros l c e h =
    let q = ne_eqb (number_of l c e) taken (λ p. h (number_answered l c e ∙ p)) in
    ap (λ (a : Answer). a.reports) (refused_answer l c e q)

pub fresh_takes : (e : Event) → Not (Unknown e) → Not (TooLate e) → e.start.0 ≤ e.end.0 → (step_of fresh_link zero_counts e).answer.no ≡ 0
unfolding fresh_link
fresh_takes e known early forward =
    (numbered fresh_link zero_counts e).taken.1
    (known, early, ⊎_elim (λ h. omega arith) (λ h. omega arith), ⊎_elim (λ h. omega arith) (small_not_above zero_counts zero_small))

pub some_event_taken : (step_of fresh_link zero_counts some_event).answer.no ≡ 0
unfolding step_of number_of refusal is_unknown is_other is_byte is_nobody is_too_late is_out_of_order is_full fresh_link zero_counts
some_event_taken = number_answered fresh_link zero_counts some_event

-- after any events, with any lent counts
pub numbered_behind : (es : Log) (c : Counts) (e : Event)
    → Numbered (clock_of (taken_of es)) (count_of (taken_of es)) c e (step_of (after ours es).link c e).answer.no
numbered_behind es c e =
    let b = basics.basics es in
    let l = (after ours es).link in
    subst (λ (n : ℕ). Numbered (clock_of (taken_of es)) n c e (step_of l c e).answer.no) b.events
    (subst (λ (k : Micros). Numbered k l.taken c e (step_of l c e).answer.no) b.clock (numbered l c e))

pub history_numbers : (es : Log) (e : Event) → (our_answer es e).no ≡ number_after (taken_of es) e
history_numbers es e = basics.numbers_by_history es e

pub history_numbered : (es : Log) (e : Event)
    → Numbered (clock_of (taken_of es)) (count_of (taken_of es)) zero_counts e (our_answer es e).no
history_numbered es e =
    subst (Numbered (clock_of (taken_of es)) (count_of (taken_of es)) zero_counts e) (sym (history_numbers es e)) (log_numbered (taken_of es) e)

pub never_above : (es : Log) → Not (Above (after ours es).counts)
never_above es = small_not_above (after ours es).counts (kept_small (after ours es) (taken_of es) (reports_of ours es) (kept_of es))
