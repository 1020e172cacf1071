-- A link that is not connected reports no frame and no damage: what a rule makes of either is open, and so connected, and no event connects a link before it
-- reports the byte that does (`cause_each`).
-- Assumes nothing.
use Prim.Native.Nat.{ℕ}
use mathlib.Core.Bool.{false, false≢true}
use mathlib.Core.Path.{◌≡◌, ◌∙◌, sym, subst}
use Rattle.base.specs.Reports.{frame_report, damage_report}
use Rattle.events.specs.declared.Event.{Event}
use Rattle.phases.specs.Phases.{is_connected}
use Rattle.reports.specs.declared.Report.{Report}
use Rattle.demands.specs.Logs.{Log}
use Rattle.demands.specs.Histories.{after, reports_to}
use Rattle.demands.proofs.Moves.ReportsInList.{Each}
use Rattle.demands.proofs.Histories.ReportsMade.{CauseAt, cause_at}
use Rattle.demands.specs.Ours.{ours}

-- neither 1 nor 2
abbrev pub Other12 : Report → Type 0
Other12 x = (x.number ≡ frame_report → ⊥) × (x.number ≡ damage_report → ⊥)

-- A LINK THAT IS NOT CONNECTED REPORTS NEITHER
pub none_unconnected : (es : Log) (e : Event) → is_connected (after ours es).link.phase.state ≡ false → Each Other12 (reports_to ours es e)
none_unconnected es e c x i = (
  λ n. false≢true (sym c ∙ (subst (λ (k : ℕ). CauseAt es e k x.reason) n (cause_at es e x i)).0),
  λ n. false≢true (sym c ∙ subst (λ (k : ℕ). CauseAt es e k x.reason) n (cause_at es e x i)),
)
