-- Which bytes a report 4 of our link names: all that were held for reasons 1 and 2, none for 3, and these and the failing byte for 4, 5 and 6. While an
-- initialization lasts, nothing is named, so what is held before the event is held still when it fails; and a start that is judged follows a closing, after
-- which nothing is held.
-- Assumes nothing.
use Prim.Native.Nat.{ℕ, ◌+◌, ◌-◌, ◌<◌}
use mathlib.Core.List.{List}
use mathlib.Core.Path.{◌≡◌, refl, ap, ◌∙◌, subst}
use mathlib.Core.Logic.{⊎_elim}
use native.Mathlib.Omega.{arith}
use lib.Dec.{eqb, leb}
use Rattle.std.specs.Prelude.{if◌then◌else◌}
use Rattle.base.specs.Sums.{greatest}
use Rattle.base.specs.Reports.{failed_report, window_over, closed, wrong_low, wrong_side, too_early, misfit}
use Rattle.events.specs.declared.Event.{Event}
use Rattle.phases.specs.Phases.{is_starting}
use Rattle.phases.specs.declared.State.{State}
use Rattle.phases.specs.declared.State.TheVariants.{Starting}
use Rattle.moves.specs.declared.Move.{Move}
use Rattle.moves.proofs.Rules.{Moment, Rule, rests, ends_right, breaks_off, waited, idled, expires, cuts_off, aborts, leaves, starts_slow, starts_fast, hurries, low, drops}
use Rattle.moves.proofs.Rules.{cut_right, cut_wrong, strays, misses, connects, goes_on, opens, errs, breaks, frames, grows, stops}
use Rattle.reports.specs.Reporting.{names_bytes, report_of}
use Rattle.reports.specs.declared.Report.{Report}
use Rattle.reports.specs.declared.Run.{Run}
use Rattle.link.specs.declared.Link.{Link}
use Rattle.link.specs.Telling.{tells, handled_tells}
use Rattle.listing.specs.Listing.{held_of}
use Rattle.demands.specs.Logs.{Log}
use Rattle.demands.specs.Histories.{after, reports_to, Among}
use Rattle.demands.specs.Accounts.{held_in}
use Rattle.demands.proofs.Histories.Holding.{Holds, Same}
use Rattle.demands.proofs.Histories.Tiling.{HoldsIn, held_walk}
use Rattle.demands.proofs.Moves.ReportsInList.{Each, each_none, each_both, tells_each}
use Rattle.demands.proofs.Histories.Invariant.{kept_of}
use Rattle.demands.proofs.Connecting.Judging.{misjudged}
use Rattle.demands.proofs.Accounts.Accounted.{accounted}
use Rattle.demands.proofs.Histories.ReportsMade.{reports_made, taken_by_report}
use Rattle.demands.specs.Orders.{NamesFailed}
use Rattle.demands.specs.Ours.{ours}

-- so many bytes by the reason, with so many held before the event
unfoldable failed_bytes : ℕ → ℕ → ℕ
failed_bytes reason held = if leb reason 2 then held else if eqb reason 3 then 0 else held + 1

-- the same in demand 2's words
names_failed : (held : ℕ) (r : Report) → r.bytes ≡ failed_bytes r.reason held → NamesFailed held r
unfolding failed_bytes
names_failed held r e =
    let by : (k : ℕ) → r.reason ≡ k → r.bytes ≡ failed_bytes k held = λ k q. e ∙ ap (λ (x : ℕ). failed_bytes x held) q in
    record {
      ended = ⊎_elim (by window_over) (by closed);
      low = by wrong_low;
      joined = ⊎_elim (by wrong_side) (⊎_elim (by too_early) (by misfit));
    }

module _ (l : Link) (e : Event) where
  abbrev held : ℕ
  held = l.heard - l.named

  abbrev Four : Report → Type 0
  Four r = r.number ≡ failed_report → r.bytes ≡ failed_bytes r.reason held

  same : {st : State} (n : ℕ) → st ≡ Starting → Same l.named (is_starting st) n → n ≡ l.named
  unfolding is_starting
  same n s g = subst (λ (x : State). Same l.named (is_starting x) n) s g

  -- the report of each rule
  rule_four : (k : Moment) (r : Run) (m : Move) → Rule l.mark e r.phase k m → HoldsIn l k r → Four (report_of r m.number m.reason)
  unfolding report_of names_bytes failed_bytes is_starting
  rule_four k r m (rests u) g z = absurd (omega arith)
  rule_four k r m (ends_right h s w) g z = absurd (omega arith)
  rule_four k r m (breaks_off o s w) g z = absurd (omega arith)
  rule_four k r m (waited q f t) g z = absurd (omega arith)
  rule_four k r m (idled q f t) g z = absurd (omega arith)
  rule_four k r m (expires s o) g z = let x = same r.named s g.2 in omega (arith, x, g.1)
  rule_four k r m (cuts_off o) g z = absurd (omega arith)
  rule_four k r m (aborts s) g z = let x = same r.named s g.2 in omega (arith, x, g.1)
  rule_four k r m (leaves c q) g z = absurd (omega arith)
  rule_four k r m (drops d x) g z = absurd (omega arith)
  rule_four k r m (starts_slow a i) g z = absurd (omega arith)
  rule_four k r m (starts_fast w i o) g z = absurd (omega arith)
  rule_four k r m (hurries s i) g z = absurd (omega arith)
  rule_four k r m (low w i o) g z = omega (arith, g.2)
  rule_four k r m (cut_right c w) g z = absurd (omega arith)
  rule_four k r m (cut_wrong c w) g z = absurd (omega arith)
  rule_four k r m (strays d) g z = absurd (omega arith)
  rule_four k r m (misses s v) g z =
      let x = same r.named s g.2 in
      let o = subst (λ (st : State). Holds st r.named l.heard) s g.0 in
      let n = misjudged (λ (j : ℕ). failed_bytes j held ≡ held + 1) refl refl refl _ _ _ _ v in
      omega (arith, x, o, g.1, n)
  rule_four k r m (connects s v t) g z = absurd (omega arith)
  rule_four k r m (goes_on s v t) g z = absurd (omega arith)
  rule_four k r m (opens q w) g z = absurd (omega arith)
  rule_four k r m (errs q w) g z = absurd (omega arith)
  rule_four k r m (breaks h w) g z = absurd (omega arith)
  rule_four k r m (frames h w s) g z = absurd (omega arith)
  rule_four k r m (grows h w s) g z = absurd (omega arith)
  rule_four k r m (stops q w) g z = absurd (omega arith)

  handled_four : Holds l.phase.state l.named l.heard → l.heard < greatest → Each Four (handled_tells l e)
  handled_four g few =
      let J : Run → List Report → Type 0 = λ r xs. Each Four xs in
      (held_walk l e few J (λ k r xs m u h f. each_both Four xs (tells r m) f (tells_each Four r m (λ _. rule_four k r m u h))) (λ r xs f. f) g
      (each_none Four)).1

pub failed_names_lem : (es : Log) (e : Event) (r : Report) → Among r (reports_to ours es e) → r.number ≡ failed_report → NamesFailed (held_in ours es) r
unfolding held_of
failed_names_lem es e r i n =
    let k = kept_of es in
    let made = subst (Among r) (reports_made es e (taken_by_report es e r i)) i in
    let x = handled_four (after ours es).link e k.holds (omega (arith, k.heard, k.few, k.bound)) r made n in
    names_failed (held_in ours es) r (x ∙ ap (failed_bytes r.reason) (accounted es).held)
