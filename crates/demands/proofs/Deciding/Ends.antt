-- Reports 5, 6 and 7 of a link that meets the demands are those of any other, after events that both have reported alike.
-- Each is made exactly on a condition over events and earlier reports (demand 2), and such conditions hold for both links alike (Agree.antt).
-- Assumes nothing.
use Prim.Native.Nat.{ℕ, ◌≤◌, zero, suc}
use mathlib.Core.Logic.{inl, inr, ⊎_elim}
use mathlib.Core.Path.{◌≡◌, refl, sym, ◌∙◌, subst}
use native.Mathlib.Omega.{arith}
use Rattle.base.specs.Reports.{outside_report, no_reply_report, down_report, window_over, idle_over, stopped, dropped, restarted}
use Rattle.reports.specs.declared.Report.{Report}
use Rattle.demands.specs.Refusals.{Not}
use Rattle.demands.specs.Histories.{Among, Tells}
use Rattle.demands.specs.Sessions.{Talk, Session, NoReply, IdleOver, reply_once_ended}
use Rattle.demands.specs.Endings.{Downs}
use Rattle.demands.proofs.Moves.ReportsInList.{says_speaks, tells_says, among_says}
use Rattle.demands.proofs.Deciding.Agree.{session_move, stop_move, idle_over_lem, reply_same}
use Rattle.demands.proofs.Deciding.SameList.{Has}
use Rattle.demands.proofs.Deciding.Messages.{frames_same}
use Rattle.demands.proofs.Deciding.Sharing.{Both, turned, before, here, there, formed_here, formed_there, like, like_plain}
use Rattle.demands.proofs.Deciding.Starts.{starts_too, fails_too}

module _ (B : Both) where
  session_too : (k : Talk) → Session B.s B.es k → Session B.t B.es k
  session_too k x = session_move B.s B.t B.es k B.agree x

  -- the reply that may come once what was held has ended
  replies : (k : Talk) → reply_once_ended B.s B.es B.e k ≡ reply_once_ended B.t B.es B.e k
  replies k = reply_same B.s B.t B.es B.e k B.agree (frames_same B)

  -- ---- 6
  pub six : (r : Report) → Among r (here B) → r.number ≡ no_reply_report → Has r (there B)
  six r i n =
      let y = B.D.two.only_in_session B.es B.e (before B) (inl (among_says no_reply_report i n)) in
      let z = (B.D.two.no_reply_exactly B.es B.e y.talk (before B) y.session).0 (among_says no_reply_report i n) in
      let w : NoReply B.t B.es B.e y.talk = (sym (replies y.talk) ∙ z.1.0, z.1.1) in
      let says = (B.E.two.no_reply_exactly B.es B.e y.talk (before B) (session_too y.talk y.session)).1 (z.0, w) in
      let x = says_speaks no_reply_report (there B) says in
      like_plain B r x.report i x.made (x.number_is ∙ sym n) (inr (inr (inr (inl n)))) (inr (inr (inr (inl x.number_is))))
      ((formed_here B r i).none (inl n) ∙ sym ((formed_there B x.report x.made).none (inl x.number_is)))

  -- ---- 7, by its reason
  abbrev Moves : ℕ → Type 0
  Moves k = Tells down_report k (here B) → Tells down_report k (there B)

  module _ (k : Talk) (session : Session B.s B.es k) where
    downs_here : Downs B.s B.es B.e k
    downs_here = B.D.two.downs_exactly B.es B.e k (before B) session

    downs_there : Downs B.t B.es B.e k
    downs_there = B.E.two.downs_exactly B.es B.e k (before B) (session_too k session)

    idles : IdleOver B.s B.es B.e k ≡ IdleOver B.t B.es B.e k
    idles = idle_over_lem B.s B.t B.es B.e k (replies k)

    idle : Moves idle_over
    idle x = let y = downs_here.idle.0 x in downs_there.idle.1 (y.0, subst (λ (X : Type 0). X) idles y.1)

    drops : Moves dropped
    drops x = let y = downs_here.dropped.0 x in downs_there.dropped.1 (y.0, y.1, subst (λ (X : Type 0). Not X) idles y.2)

    restarts : Moves restarted
    restarts x = let y = downs_here.restarted.0 x in downs_there.restarted.1 (y.0, y.1, subst (λ (X : Type 0). Not X) idles y.2)

    halts : Moves stopped
    halts x =
        let w = (B.D.two.stops_exactly B.es B.e k B.in_bytes session).0 x in
        (B.E.two.stops_exactly B.es B.e k B.in_bytes (session_too k session)).1 (stop_move B.s B.t B.es B.e k B.agree w)

    by_reason : (n : ℕ) → (1 ≤ n) × (n ≤ 4) → Moves n
    by_reason zero h x = absurd (omega arith)
    by_reason (suc zero) h x = halts x
    by_reason (suc (suc zero)) h x = idle x
    by_reason (suc (suc (suc zero))) h x = drops x
    by_reason (suc (suc (suc (suc zero)))) h x = restarts x
    by_reason (suc (suc (suc (suc (suc n))))) h x = absurd (omega arith)

  pub downs_too : (n : ℕ) → (1 ≤ n) × (n ≤ 4) → Moves n
  downs_too n h x =
      let y = B.D.two.only_in_session B.es B.e (before B) (inr (tells_says down_report n (here B) x)) in
      by_reason y.talk y.session n h x

  pub seven : (r : Report) → Among r (here B) → r.number ≡ down_report → Has r (there B)
  seven r i n =
      let f = formed_here B r i in
      let y = downs_too r.reason (f.down n) (record { report = r; made = i; number_is = n; reason_is = refl }) in
      like B r i (record { report = y.report; made = y.made; number_is = y.number_is ∙ sym n; reason_is = y.reason_is })
      (f.none (inr (inl n)) ∙ sym ((formed_there B y.report y.made).none (inr (inl y.number_is))))

module _ (B : Both) where
  -- ---- 5
  pub five : (r : Report) → Among r (here B) → r.number ≡ outside_report → Has r (there B)
  five r i n =
      let x = (B.D.two.outside_exactly B.es B.e (before B)).0 (among_says outside_report i n) in
      let says = (B.E.two.outside_exactly B.es B.e (before B)).1 (
        x.0,
        x.1,
        ⊎_elim (λ o. inl ((λ z. o.0 (record { talk = z.talk; session = session_too (turned B) z.talk z.session })), (λ z. o.1 (starts_too (turned B) z))))
            (λ o. inr (⊎_elim (λ w. inl (fails_too B window_over (omega arith, omega arith) (λ z. omega arith) w)) (λ w. inr (downs_too B idle_over (omega arith, omega arith) w)) o))
            x.2,
      ) in
      let y = says_speaks outside_report (there B) says in
      like_plain B r y.report i y.made (y.number_is ∙ sym n) (inr (inr (inl n))) (inr (inr (inl y.number_is)))
      ((formed_here B r i).one n ∙ sym ((formed_there B y.report y.made).one y.number_is))
