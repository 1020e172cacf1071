-- Counts that are lent, whatever they are: an event that is taken with them is taken with the counts of the history too, and the link's reports and what it is
-- then come from the event alone (`lent_alike`); the counts grow by what the event brings, for they were no greater than 4,000,000,000 (`lent_counts`).
-- Assumes nothing.
use Prim.Native.Nat.{ℕ}
use mathlib.Core.List.{List, [], ◌∷◌}
use mathlib.Core.Logic.{inl, inr, ⊎_elim}
use mathlib.Core.Path.{◌≡◌, sym, ap, ◌∙◌}
use borrow.Author.Tests.{eq-eqb}
use Rattle.std.specs.Prelude.{if◌then◌else◌}
use Rattle.base.specs.Numbers.{taken}
use Rattle.events.specs.Events.{is_byte}
use Rattle.events.specs.declared.Event.{Event}
use Rattle.reports.specs.Reporting.{listed}
use Rattle.reports.specs.Counting.{zero_counts}
use Rattle.reports.specs.declared.Report.{Report}
use Rattle.reports.specs.declared.Counts.{Counts}
use Rattle.link.specs.Handling.{handled}
use Rattle.link.specs.Stepping.{number_of, taken_by, answer_of, counts_after, step_of}
use Rattle.link.specs.Answers.{Answer}
use Rattle.link.specs.declared.Link.{Link}
use Rattle.demands.specs.Logs.{Log, none, ◌▷◌, heard_of, taken_of}
use Rattle.demands.specs.Refusals.{Numbered}
use Rattle.demands.specs.Histories.{after, answer_with, reports_to}
use Rattle.demands.specs.Accounts.{counts_of, added}
use Rattle.demands.specs.Ours.{ours}
use Rattle.demands.proofs.Numbers.Numbering.{zero_small, small_not_above, not_above_small}
use Rattle.demands.proofs.Histories.Counting.{counted_lent}
use Rattle.demands.proofs.Histories.Invariant.{kept_of, handled_tiles, taken_answer, number_answered}
use Rattle.demands.proofs.Numbers.Answering.{numbered_behind, history_numbers, history_numbered}

-- an event that is taken with some counts lent is taken with those of a history
pub taken_own : {clock : _} {events : ℕ} {c : Counts} {e : Event} {n k : ℕ} → Numbered clock events c e n → Numbered clock events zero_counts e k → n ≡ 0 → k ≡ 0
taken_own x y q =
    let t = x.taken.0 q in
    y.taken.1 (t.0, t.1, t.2, ⊎_elim (λ h. t.3 (inl h)) (small_not_above zero_counts zero_small))

module _ (es : Log) (c : Counts) (e : Event) (q : (answer_with ours es c e).no ≡ taken) where
  abbrev l : Link
  l = (after ours es).link

  abbrev own : Counts
  own = (after ours es).counts

  own_taken : (answer_with ours es own e).no ≡ taken
  own_taken = taken_own (numbered_behind es c e) (history_numbered es e) q

  answer_is : (d : Counts) → (answer_with ours es d e).no ≡ taken → answer_of l d e ≡ taken_by l e
  unfolding step_of
  answer_is d h = taken_answer l d e (eq-eqb (number_of l d e) taken (sym (number_answered l d e) ∙ h))

  pub lent_alike : ((answer_with ours es c e).reports ≡ reports_to ours es e) × ((answer_with ours es c e).link ≡ (after ours (es ▷ e)).link)
  unfolding step_of after
  lent_alike =
      let same : answer_of l c e ≡ answer_of l own e = answer_is c q ∙ sym (answer_is own own_taken) in
      (ap (λ (a : Answer). listed a.reports) same, ap (λ (a : Answer). a.link) same)

  pub lent_counts : (answer_with ours es c e).counts ≡ added c (counts_of (heard_of (none ▷ e)) (answer_with ours es c e).reports)
  unfolding step_of counts_after taken_by heard_of
  lent_counts =
      let a = answer_is c q in
      let t = handled_tiles (after ours es) (taken_of es) _ e (kept_of es) (sym (history_numbers es e) ∙ own_taken) in
      let small = not_above_small c (λ h. ((numbered_behind es c e).taken.0 q).3 (inr h)) in
      let brings : List Report → Counts = λ rs. added c (counts_of (if is_byte e.kind then e.value ∷ [] else []) rs) in
      ap (λ (x : Answer). counts_after c x e) a
      ∙ counted_lent c (is_byte e.kind) e.value (handled l e).reports l.named (handled l e).named small t.tiled t.few
      ∙ ap (λ (x : Answer). brings (listed x.reports)) (sym a)
