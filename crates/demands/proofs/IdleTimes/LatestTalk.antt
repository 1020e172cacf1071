-- The windows in force, told by reports alone: in a session the latest session is that one (`latest_is`), and so a connected link has the windows that the latest
-- session says (`windows_link`). A report 3 is made alone, and none is made in a session.
-- Assumes nothing.
use mathlib.Core.Bool.{Bool, true, false, ◌||◌, false≢true}
use mathlib.Core.List.{List, [], ◌∷◌}
use mathlib.Core.Path.{◌≡◌, refl, sym, ap, ◌∙◌}
use borrow.Author.Tests.{eqb-true, eqb-false, eq-eqb}
use lib.Dec.{eqb}
use Rattle.base.specs.Numbers.{taken}
use Rattle.base.specs.Reports.{connected_report}
use Rattle.events.specs.declared.Event.{Event}
use Rattle.phases.specs.Phases.{is_connected}
use Rattle.reports.specs.declared.Report.{Report}
use Rattle.demands.specs.Logs.{Log, ◌▷◌, heard_of, number_after, taken_of, InBytes}
use Rattle.demands.specs.Histories.{after, reports_to, is_among, folded}
use Rattle.demands.specs.Accounts.{named_by}
use Rattle.demands.specs.Sessions.{Talk, opened_by, after_report, talk_after, Session, opens, lasts, in_force}
use Rattle.demands.specs.Idle.{latest_after, latest_talk}
use Rattle.demands.specs.Ours.{ours}
use Rattle.demands.proofs.Histories.TakenOnly.{ours_passes, next_same}
use Rattle.demands.proofs.Moves.Causes.{false_of}
use Rattle.demands.proofs.Connecting.ConnectsExactly.{log_taken, log_refused, completes_connects, own_connects_exactly}
use Rattle.demands.proofs.Connecting.ConnectedReport.{own_connects_names}
use Rattle.demands.proofs.Connecting.BecomesConnected.{completes_becomes}
use Rattle.demands.proofs.Connecting.KeyBytes.{ours_opens}
use Rattle.demands.proofs.Sessions.SessionExactly.{session_link, session_exactly}

-- ---- one report 3, or none
both_false : (a b : Bool) → (a || b) ≡ false → (a ≡ false) × (b ≡ false)
both_false true b h = absurd (false≢true (sym h))
both_false false b h = (refl, h)

no_third : (log : Log) (t : Talk) (rs : List Report) → is_among connected_report rs ≡ false → folded (latest_after log) t rs ≡ talk_after t log rs
unfolding folded latest_after talk_after is_among
no_third log t [] n = refl
no_third log t (r ∷ rs) n =
    let x = both_false (eqb r.number connected_report) (is_among connected_report rs) n in
    rw x.0 (no_third log (after_report t log r) rs x.1)

one_third : (log : Log) (t : Talk) (r : Report) → r.number ≡ connected_report → folded (latest_after log) t (r ∷ []) ≡ opened_by (named_by (heard_of log) r)
unfolding folded latest_after
one_third log t r n = rw (eq-eqb r.number connected_report n)

-- ---- an event that is taken, and one that is refused
module _ (es : Log) (e : Event) where
  latest_taken : number_after (taken_of es) e ≡ taken
      → latest_talk ours (taken_of (es ▷ e)) ≡ folded (latest_after (taken_of (es ▷ e))) (latest_talk ours (taken_of es)) (reports_to ours es e)
  unfolding latest_talk
  latest_taken q =
      let l = log_taken es e q in
      ap (latest_talk ours) l ∙ ap (folded (latest_after (taken_of es ▷ e)) (latest_talk ours (taken_of es))) (next_same ours ours_passes es e)
      ∙ sym (ap (λ (log : Log). folded (latest_after log) (latest_talk ours (taken_of es)) (reports_to ours es e)) l)

  none_third : (t : Talk) → InBytes es → Session ours es t → is_among connected_report (reports_to ours es e) ≡ false
  none_third t b s =
      false_of (is_among connected_report (reports_to ours es e))
      (λ k.
      let x = (own_connects_exactly es e).0 k in
      let c = completes_becomes (after ours es).link e ((completes_connects es e x.0).1 x.1) in
      false≢true (sym c.0 ∙ (session_link es t b s).connected))

  latest_next : (c : Bool) (t : Talk) → eqb (number_after (taken_of es) e) taken ≡ c → InBytes es → Session ours es t → latest_talk ours (taken_of es) ≡ t
      → latest_talk ours (taken_of (es ▷ e)) ≡ talk_after t (taken_of (es ▷ e)) (reports_to ours es e)
  unfolding talk_after
  latest_next true t n b s i =
      latest_taken (eqb-true _ _ n) ∙ ap (λ (u : Talk). folded (latest_after (taken_of (es ▷ e))) u (reports_to ours es e)) i
      ∙ no_third (taken_of (es ▷ e)) t (reports_to ours es e) (none_third t b s)
  latest_next false t n b s i =
      ap (latest_talk ours) (log_refused es e n) ∙ i
      ∙ sym (ap (talk_after t (taken_of (es ▷ e))) (ours_passes es e (eqb-false _ _ n)).reports)

-- THE LATEST SESSION IS THE ONE THAT LASTS
latest_is : {es : Log} {t : Talk} → InBytes es → Session ours es t → latest_talk ours (taken_of es) ≡ t
unfolding InBytes
latest_is b (opens {es = es} {e = e} {r = r} a n) =
    let x = ours_opens es e r a n in
    let one : reports_to ours es e ≡ (r ∷ []) = (own_connects_names es e x.number x.connects).reports ∙ ap (λ (q : Report). (q ∷ [])) (sym x.only) in
    latest_taken es e x.number ∙ ap (folded (latest_after (taken_of (es ▷ e))) (latest_talk ours (taken_of es))) one
    ∙ one_third (taken_of (es ▷ e)) (latest_talk ours (taken_of es)) r n
latest_is b (lasts {es = es} {e = e} {t = t} s n) =
    latest_next es e (eqb (number_after (taken_of es) e) taken) t refl b.0 s (latest_is b.0 s)

-- THE WINDOWS OF A CONNECTED LINK
pub windows_link : (es : Log) → InBytes es → is_connected (after ours es).link.phase.state ≡ true
    → (after ours es).link.phase.windows ≡ in_force (latest_talk ours (taken_of es))
windows_link es b c =
    let x = (session_exactly es b).0 c in
    (session_link es x.talk b x.session).windows ∙ ap in_force (sym (latest_is b x.session))
