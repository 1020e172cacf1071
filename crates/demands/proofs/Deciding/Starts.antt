-- Reports 3 and 4 of a link that meets the demands, but for those of a wrong low, are those of any other, after events that both have reported alike.
-- Each is made exactly on a condition over events and earlier reports (demand 2), and such conditions hold for both links alike (Agree.antt).
-- Assumes nothing.
use Prim.Native.Nat.{ℕ, ◌≤◌, zero, suc}
use mathlib.Core.Logic.{⊎_elim}
use mathlib.Core.Path.{◌≡◌, refl, sym, ◌∙◌, subst}
use native.Mathlib.Omega.{arith}
use Rattle.base.specs.Reports.{connected_report, failed_report, closed, window_over, wrong_low, wrong_side, too_early, misfit}
use Rattle.reports.specs.declared.Report.{Report}
use Rattle.demands.specs.Logs.{taken_of}
use Rattle.demands.specs.Refusals.{Not}
use Rattle.demands.specs.Histories.{Among, Tells}
use Rattle.demands.specs.Endings.{Starting}
use Rattle.demands.specs.Failing.{UnderWay, Fails}
use Rattle.demands.proofs.Moves.ReportsInList.{among_says}
use Rattle.demands.proofs.Deciding.Agree.{connects_move, agree_taken, starting_move}
use Rattle.demands.proofs.Deciding.SameList.{Has}
use Rattle.demands.proofs.Deciding.Fixed.{starting_decided}
use Rattle.demands.proofs.Deciding.Sharing.{Both, turned, before, passes_here, passes_there, here, there}

module _ (B : Both) where
  pub starts_too : Starting B.s B.es → Starting B.t B.es
  starts_too x = starting_move B.s B.t (passes_here B) (passes_there B) B.es B.agree x

  -- ---- 3
  pub three : (r : Report) → Among r (here B) → r.number ≡ connected_report → Has r (there B)
  three r i n =
      let x = (B.D.two.connects_exactly B.es B.e (before B)).0 (among_says connected_report i n) in
      let c = connects_move B.s B.t (taken_of B.es) B.e (agree_taken B.s B.t (passes_here B) (passes_there B) B.es B.agree) x.1 in
      let p = (B.D.two.connects_names B.es B.e (before B) x.0 x.1).reports in
      let q = (B.E.two.connects_names B.es B.e (before B) x.0 c).reports in
      record { report = r; made = subst (Among r) (p ∙ sym q) i; like = record { number = refl; reason = refl; bytes = refl; time = refl } }

  -- ---- 4, by its reason, but for a wrong low, which asks for the idle time (IdleAsked.antt)
  abbrev pub Fails4 : ℕ → Type 0
  Fails4 k = Tells failed_report k (here B) → Tells failed_report k (there B)

  module _ (st : Starting B.s B.es) where
    u : UnderWay (taken_of B.es)
    u = B.D.two.under_way B.es (before B) st

    fails_here : Fails B.s B.es B.e u
    fails_here = B.D.two.fails_exactly B.es B.e (before B) st u

    fails_there : Fails B.t B.es B.e u
    fails_there = B.E.two.fails_exactly B.es B.e (before B) (starts_too st) u

    pub over : Fails4 window_over
    over x = fails_there.over.1 (fails_here.over.0 x)

    side : Fails4 wrong_side
    side x = fails_there.side.1 (fails_here.side.0 x)

    early : Fails4 too_early
    early x = fails_there.early.1 (fails_here.early.0 x)

    value : Fails4 misfit
    value x = fails_there.value.1 (fails_here.value.0 x)

  was_starting : (k : ℕ) → Tells failed_report k (here B) → Not (k ≡ wrong_low) → Starting B.s B.es
  was_starting k x n = ⊎_elim (λ st. st) (λ no. absurd (n (B.D.two.never_else B.es B.e k (before B) no x))) (starting_decided B.s B.es)

module _ (B : Both) where
  closes : Fails4 B closed
  closes x =
      let y = (B.D.two.closed_start_exactly B.es B.e (before B)).0 x in
      let st = starts_too B y.1 in
      (B.E.two.closed_start_exactly B.es B.e (before B)).1 (y.0, st, y.2, (λ z. y.3 (over (turned B) st z)))

  by_reason : (k : ℕ) → (1 ≤ k) × (k ≤ 6) → Not (k ≡ wrong_low) → Starting B.s B.es → Fails4 B k
  by_reason zero h n st x = absurd (omega arith)
  by_reason (suc zero) h n st x = over B st x
  by_reason (suc (suc zero)) h n st x = closes x
  by_reason (suc (suc (suc zero))) h n st x = absurd (n refl)
  by_reason (suc (suc (suc (suc zero)))) h n st x = side B st x
  by_reason (suc (suc (suc (suc (suc zero))))) h n st x = early B st x
  by_reason (suc (suc (suc (suc (suc (suc zero)))))) h n st x = value B st x
  by_reason (suc (suc (suc (suc (suc (suc (suc k))))))) h n st x = absurd (omega arith)

  pub fails_too : (k : ℕ) → (1 ≤ k) × (k ≤ 6) → Not (k ≡ wrong_low) → Fails4 B k
  fails_too k h n x = by_reason k h n (was_starting B k x n) x
