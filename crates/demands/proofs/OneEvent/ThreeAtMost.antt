-- No event fills more than the places for reports, since no move appends beyond them (that none of its reports is lost there is `none_lost`); and unless a car's
-- session lasts, none fills more than three (`three_at_most`).
-- Assumes nothing.
use Prim.Native.Nat.{◌≤◌}
use mathlib.Core.Bool.{Bool, true, false, ◌&&◌, false≢true}
use mathlib.Core.List.{List}
use mathlib.Core.Path.{◌≡◌, refl, sym, ap, ◌∙◌, subst}
use native.Mathlib.Omega.{arith}
use borrow.Author.Tests.{eqb-true, eqb-false}
use lib.Dec.{eqb}
use lib.ListN.{length}
use Rattle.base.specs.Numbers.{taken}
use Rattle.base.specs.Reports.{no_reason}
use Rattle.base.proofs.Tests.{and_split, by_test}
use Rattle.events.specs.declared.Event.{Event}
use Rattle.talk.specs.Talk.{end_reason}
use Rattle.phases.specs.Phases.{is_held}
use Rattle.moves.specs.Moves.{is_right}
use Rattle.moves.specs.declared.Move.{Move}
use Rattle.moves.proofs.Rules.{Moment}
use Rattle.reports.specs.Reporting.{places, told, moved, listed}
use Rattle.reports.specs.declared.Report.{Report}
use Rattle.reports.specs.declared.Reports.{Reports}
use Rattle.reports.specs.declared.Counts.{Counts}
use Rattle.reports.specs.declared.Run.{Run}
use Rattle.reports.proofs.Places.{appended_few, listed_most}
use Rattle.link.specs.Handling.{begun, handled}
use Rattle.link.specs.Stepping.{number_of, refused_by, taken_by, answer_of, step_of}
use Rattle.link.specs.declared.Link.{Link}
use Rattle.link.specs.Answers.{Answer}
use Rattle.link.proofs.Walk.{event_walk}
use Rattle.link.proofs.Four.{three_enough}
use Rattle.link.proofs.CarLinks.{right_free}
use Rattle.demands.specs.Histories.{after, reports_to}
use Rattle.demands.specs.Logs.{Log, InBytes, number_after, taken_of}
use Rattle.demands.specs.Sessions.{Talk, Session}
use Rattle.demands.specs.Ours.{ours}
use Rattle.demands.specs.Editions.{of_car}
use Rattle.demands.proofs.Histories.ReportsMade.{none_refused}
use Rattle.demands.proofs.Sessions.SessionExactly.{session_exactly, session_link}
use Rattle.demands.proofs.Moves.Causes.{false_of}
use Rattle.demands.proofs.Histories.CarsFit.{fitting_of}
use Rattle.demands.proofs.Histories.Basics.{answer_taken}

abbrev Placed : Reports → Type 0
Placed rs = rs.n ≤ places

moved_placed : (r : Run) (m : Move) → Placed r.reports → Placed (moved r m).reports
unfolding moved told
moved_placed r m h = by_test (λ (s : Run). Placed s.reports) (eqb m.number 0) (λ _. h) (λ _. appended_few r.reports _ h)

handled_placed : (l : Link) (e : Event) → Placed (handled l e).reports
unfolding handled begun
handled_placed l e =
    let I : Moment → Run → List Report → Type 0 = λ k r xs. Placed r.reports in
    event_walk l.mark e I (λ k r xs m u h. moved_placed r m h) (λ r xs h. h) (λ r xs h. h) (λ r xs h. h) (λ r xs h. h) (begun l e) (omega arith)

-- of any link, for any counts and any event
pub step_placed : (l : Link) (c : Counts) (e : Event) → (step_of l c e).answer.reports.n ≤ places
unfolding step_of answer_of taken_by refused_by
step_placed l c e =
    by_test (λ (a : Answer). Placed a.reports) (eqb (number_of l c e) taken) (λ _. handled_placed l e) (λ _. omega arith)

-- NO MORE THAN THREE unless a car's session lasts: then no message held is right as it stands, or none is held
not_free : (es : Log) → InBytes es → ((t : Talk) → Session ours es t → of_car t.pair ≡ false)
    → is_right (after ours es).link.phase ≡ false
unfolding is_right
not_free es b n =
    let p = (after ours es).link.phase in
    false_of (is_held p.state && eqb (end_reason p.message) no_reason)
    (λ r.
    let x = (fitting_of es).free (right_free p.message (and_split (is_held p.state) _ r).1) in
    let s = (session_exactly es b).0 x.0 in
    false≢true (sym (n s.talk s.session) ∙ (sym (ap of_car (session_link es s.talk b s.session).pair) ∙ x.1)))

pub three_at_most : (es : Log) (e : Event) → InBytes es → ((t : Talk) → Session ours es t → of_car t.pair ≡ false) → length (reports_to ours es e) ≤ 3
unfolding taken_by
three_at_most es e b n = by_number (eqb (number_after (taken_of es) e) taken) refl
  where
    by_number : (c : Bool) → eqb (number_after (taken_of es) e) taken ≡ c → length (reports_to ours es e) ≤ 3
    by_number true c =
        let l = (after ours es).link in
        let few = three_enough l e (not_free es b n) in
        let most = listed_most (handled l e).reports in
        subst (λ (a : Answer). length (listed a.reports) ≤ 3) (sym (answer_taken es e (eqb-true _ taken c))) (omega arith)
    by_number false c = subst (λ (rs : List Report). length rs ≤ 3) (sym (none_refused es e (eqb-false _ taken c))) (omega arith)
