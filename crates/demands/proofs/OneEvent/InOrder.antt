-- The reports of an event stand in the order of the rules, and no rule reports twice (`in_order`), on any link. The moments come in that order: up to each, the
-- rules used are among the first so many (`bound`), and a report that is made there has its rule's place above these (`rule_climbs`). One place is taken by several
-- moments: a report 2 is made by passing time, by closing or as a byte comes, a report 1 by passing time, as a byte comes or by the byte. While something is open
-- still, no rule has been used at all.
-- Assumes nothing.
use Prim.Native.Nat.{ℕ, ◌≤◌, ◌<◌}
use mathlib.Core.Bool.{Bool, true, false, ◌&&◌}
use mathlib.Core.List.{List, [], ◌∷◌, ◌++◌, append-nil}
use mathlib.Core.Path.{◌≡◌, refl, sym, ap, subst}
use native.Mathlib.Omega.{arith}
use borrow.Author.Tests.{eqb-true, eqb-false, leb-true, ltb-true}
use lib.Dec.{eqb, ltb, leb}
use Rattle.std.specs.Prelude.{if◌then◌else◌}
use Rattle.base.specs.Numbers.{taken}
use Rattle.base.specs.Reports.{failed_report, down_report}
use Rattle.base.proofs.Tests.{and_split}
use Rattle.units.specs.declared.Micros.{Micros}
use Rattle.events.specs.declared.Event.{Event}
use Rattle.phases.specs.Phases.{is_open, down, talking, settled}
use Rattle.phases.specs.declared.Phase.{Phase}
use Rattle.moves.specs.declared.Move.{Move}
use Rattle.moves.proofs.Rules.{Moment, at_silence, at_p2, at_p3, at_window, at_closing, at_leaving, at_start, at_cut, at_hearing, at_byte, at_stop, at_end_lem, next, drops}
use Rattle.moves.proofs.Rules.{Closes, by_drop, by_address, by_wake_up, Rule, rests, ends_right, breaks_off, waited, idled, expires, cuts_off, aborts, leaves}
use Rattle.moves.proofs.Rules.{starts_slow, starts_fast, hurries, low, cut_right, cut_wrong, cut_held, strays, misses, connects, goes_on, opens, errs, breaks, frames, grows, stops}
use Rattle.reports.specs.Reporting.{report_of, moved}
use Rattle.reports.specs.declared.Report.{Report}
use Rattle.reports.specs.declared.Run.{Run}
use Rattle.link.specs.Handling.{begun}
use Rattle.link.specs.declared.Link.{Link}
use Rattle.link.specs.Telling.{tells, handled_tells}
use Rattle.link.proofs.Walk.{moved_phase, event_walk}
use Rattle.demands.specs.Logs.{Log, number_after, taken_of}
use Rattle.demands.specs.Histories.{after, reports_to}
use Rattle.demands.specs.Orders.{rule_of, InOrder}
use Rattle.demands.specs.Ours.{ours}
use Rattle.phases.proofs.StateTests.{held_is}
use Rattle.demands.proofs.Histories.Holding.{framed_quiet}
use Rattle.demands.proofs.Connecting.Judging.{misjudged}
use Rattle.demands.proofs.Histories.ReportsMade.{reports_made, none_refused}

abbrev rule : Report → ℕ
rule r = rule_of r.number r.reason

-- reports whose rules go up after the rule a, and end at most at the rule b
data Up : ℕ → ℕ → List Report → Type 0 where
  none : {a b : ℕ} → a ≤ b → Up a b []
  more : {a b : ℕ} {r : Report} {rs : List Report} → a < rule r → Up (rule r) b rs → Up a b (r ∷ rs)

upper : {a b c : ℕ} {xs : List Report} → Up a b xs → b ≤ c → Up a c xs
upper {a} {b} {c} (none h) k = none {a = a} {b = c} (omega arith)
upper (more h u) k = more h (upper u k)

up_one : {a b c : ℕ} {xs : List Report} (x : Report) → Up a b xs → b < rule x → rule x ≤ c → Up a c (xs ++ (x ∷ []))
up_one {a} {b} {c} x (none h) k j = let g : a < rule x = omega arith in more g (none j)
up_one x (more h u) k j = more h (up_one x u k j)

up_order : {a b : ℕ} {xs : List Report} → Up a b xs → InOrder a xs
up_order (none h) = InOrder.none
up_order (more k u) = InOrder.next k (up_order u)

-- a move climbs from the bound a to the bound b
abbrev climbs_by : Bool → ℕ → ℕ → ℕ → Bool
climbs_by true a b place = leb a b
climbs_by false a b place = ltb a place && leb place b

abbrev Climbs : ℕ → ℕ → Move → Type 0
Climbs a b m = climbs_by (eqb m.number 0) a b (rule_of m.number m.reason) ≡ true

up_by : (still : Bool) (a b : ℕ) (xs : List Report) (x : Report) → climbs_by still a b (rule x) ≡ true → Up 0 a xs
    → Up 0 b (xs ++ (if still then [] else x ∷ []))
up_by true a b xs x c u = subst (Up 0 b) (sym (append-nil xs)) (upper u (leb-true a b c))
up_by false a b xs x c u = let d = and_split (ltb a (rule x)) (leb (rule x) b) c in up_one x u (ltb-true a (rule x) d.0) (leb-true (rule x) b d.1)

-- ---- THE RULES THAT MAY HAVE BEEN USED up to a moment; o says whether something is open
abbrev bound : Moment → Bool → ℕ
bound at_silence o = 0
bound at_p2 o = if o then 0 else 1
bound at_p3 o = if o then 0 else 2
bound at_window o = if o then 0 else 3
bound at_closing o = if o then 0 else 4
bound at_leaving o = 5
bound at_start o = 6
bound at_cut o = if o then 0 else 4
bound at_hearing o = if o then 0 else 8
bound at_byte o = if o then 0 else 8
bound at_stop o = 9
bound at_end_lem o = 10

rest_climbs : (k : Moment) (o : Bool) → leb (bound k o) (bound (next k) o) ≡ true
unfolding next
rest_climbs at_silence true = refl
rest_climbs at_silence false = refl
rest_climbs at_p2 true = refl
rest_climbs at_p2 false = refl
rest_climbs at_p3 true = refl
rest_climbs at_p3 false = refl
rest_climbs at_window true = refl
rest_climbs at_window false = refl
rest_climbs at_closing true = refl
rest_climbs at_closing false = refl
rest_climbs at_leaving o = refl
rest_climbs at_start o = refl
rest_climbs at_cut true = refl
rest_climbs at_cut false = refl
rest_climbs at_hearing true = refl
rest_climbs at_hearing false = refl
rest_climbs at_byte true = refl
rest_climbs at_byte false = refl
rest_climbs at_stop o = refl
rest_climbs at_end_lem o = refl

closing_most : (o : Bool) → bound at_closing o ≤ 4
closing_most true = omega arith
closing_most false = omega arith

leaves_sixth : {e : Event} {reason : ℕ} → Closes e reason → rule_of down_report reason ≡ 6
unfolding rule_of
leaves_sixth (by_drop k) = refl
leaves_sixth (by_address k) = refl
leaves_sixth (by_wake_up k) = refl

rule_climbs : (mark : Micros) (e : Event) (p : Phase) (k : Moment) (m : Move) → Rule mark e p k m
    → Climbs (bound k (is_open p.state)) (bound (next k) (is_open m.phase.state)) m
unfolding next rule_of is_open down settled talking
rule_climbs mark e p k m (rests u) = rest_climbs k (is_open p.state)
rule_climbs mark e p k m (ends_right h s r) = rw (ap is_open (framed_quiet p)) refl
rule_climbs mark e p k m (breaks_off o s r) = refl
rule_climbs mark e p k m (waited q f t) = rw q
rule_climbs mark e p k m (idled q f t) = rw q
rule_climbs mark e p k m (expires s o) = rw s
rule_climbs mark e p k m (cuts_off o) = rw o
rule_climbs mark e p k m (aborts s) = rw s
rule_climbs mark e p k m (leaves c q) = rw (leaves_sixth c)
rule_climbs mark e p k m (drops d x) = refl
rule_climbs mark e p k m (starts_slow a i) = refl
rule_climbs mark e p k m (starts_fast w i l) = refl
rule_climbs mark e p k m (hurries s i) = refl
rule_climbs mark e p k m (low w i l) = refl
rule_climbs mark e p k m (cut_right c r) = rw ((held_is (cut_held mark e p c)).1, ap is_open (framed_quiet p)) refl
rule_climbs mark e p k m (cut_wrong c r) = rw (held_is (cut_held mark e p c)).1 refl
rule_climbs mark e p k m (strays d) = rw d
rule_climbs mark e p k m (misses s v) = rw (ap is_open s, misjudged (λ (j : ℕ). rule_of failed_report j ≡ 9) refl refl refl _ _ _ _ v)
rule_climbs mark e p k m (connects s v l) = rw s
rule_climbs mark e p k m (goes_on s v l) = rw s
rule_climbs mark e p k m (opens q r) = rw q
rule_climbs mark e p k m (errs q r) = rw q
rule_climbs mark e p k m (breaks h r) = rw h
rule_climbs mark e p k m (frames h r s) = rw h
rule_climbs mark e p k m (grows h r s) = rw h
rule_climbs mark e p k m (stops q r) = refl

-- ---- all of an event
module _ (l : Link) (e : Event) where
  abbrev Ordered : Moment → Run → List Report → Type 0
  Ordered k r xs = Up 0 (bound k (is_open r.phase.state)) xs

  moves : (k : Moment) (r : Run) (xs : List Report) (m : Move) → Rule l.mark e r.phase k m → Ordered k r xs
      → Ordered (next k) (moved r m) (xs ++ tells r m)
  unfolding tells report_of
  moves k r xs m u i =
      rw (moved_phase r m) (up_by (eqb m.number 0) _ _ xs (report_of r m.number m.reason) (rule_climbs l.mark e r.phase k m u) i)

  handled_order : InOrder 0 (handled_tells l e)
  unfolding handled_tells
  handled_order =
      let few : (r : Run) → bound at_closing (is_open r.phase.state) ≤ 4 = λ r. closing_most (is_open r.phase.state) in
      up_order (event_walk l.mark e Ordered moves (λ r xs i. i) (λ r xs i. i) (λ r xs i. upper i (omega arith))
      (λ r xs i. upper i (omega (arith, few r))) (begun l e) (none (omega arith)))

-- IN ORDER
pub in_order : (es : Log) (e : Event) → InOrder 0 (reports_to ours es e)
in_order es e = by_number (eqb (number_after (taken_of es) e) taken) refl
  where
    by_number : (b : Bool) → eqb (number_after (taken_of es) e) taken ≡ b → InOrder 0 (reports_to ours es e)
    by_number true n = subst (InOrder 0) (sym (reports_made es e (eqb-true _ taken n))) (handled_order (after ours es).link e)
    by_number false n = subst (InOrder 0) (sym (none_refused es e (eqb-false _ taken n))) InOrder.none
