-- Demand 2 in the link's own words: a link that was not connected is connected after an event exactly if the event is taken and completes a good
-- initialization. (That no rule but the one of the last byte connects a link is `rises` in Causes.)
-- Assumes nothing.
use mathlib.Core.Bool.{Bool, true, false, false≢true}
use mathlib.Core.Logic.{◌↔◌, ⊎_elim}
use mathlib.Core.Path.{◌≡◌, ◌∙◌, refl, sym, ap}
use lib.Dec.{eqb}
use borrow.Author.Tests.{eqb-true, eqb-false}
use Rattle.base.specs.Numbers.{taken}
use Rattle.events.specs.declared.Event.{Event}
use Rattle.phases.specs.Phases.{is_connected, connected}
use Rattle.phases.proofs.StateTests.{starting_apart}
use Rattle.reports.specs.Reporting.{told}
use Rattle.reports.specs.declared.Run.{Run}
use Rattle.link.specs.Handling.{handled, link_after}
use Rattle.link.specs.declared.Link.{Link}
use Rattle.demands.specs.Logs.{Log, ◌▷◌, number_after, taken_of}
use Rattle.demands.specs.Histories.{after}
use Rattle.demands.specs.Connecting.{ConnectsBy}
use Rattle.demands.proofs.Moves.Entering.{Completes}
use Rattle.demands.proofs.Moves.Causes.{rises}
use Rattle.demands.proofs.Moves.Completing.{completes_run}
use Rattle.demands.proofs.Connecting.Running.{own_until}
use Rattle.demands.proofs.Connecting.ConnectsExactly.{link_taken, link_refused, completes_connects}
use Rattle.demands.specs.Ours.{ours}

-- ---- an event
module _ (l : Link) (e : Event) where
  becomes_completes : is_connected l.phase.state ≡ false → is_connected (handled l e).phase.state ≡ true → Completes l e
  becomes_completes c h = ⊎_elim (λ u. absurd (false≢true (sym c ∙ u))) (λ x. x) (rises l e h)

  pub completes_becomes : Completes l e → (is_connected l.phase.state ≡ false) × (is_connected (handled l e).phase.state ≡ true)
  unfolding told connected is_connected
  completes_becomes c = (
    (starting_apart l.phase.state c.was).0,
    ap (λ (x : Run). is_connected x.phase.state) (completes_run l e c),
  )

-- ---- after events
module _ (es : Log) (e : Event) where
  phase_taken : number_after (taken_of es) e ≡ taken → (after ours (es ▷ e)).link.phase.state ≡ (handled (after ours es).link e).phase.state
  unfolding link_after
  phase_taken q = ap (λ (l : Link). l.phase.state) (link_taken es e q)

  becomes_by : (b : Bool) → eqb (number_after (taken_of es) e) taken ≡ b → is_connected (after ours es).link.phase.state ≡ false
      → is_connected (after ours (es ▷ e)).link.phase.state ≡ true → (number_after (taken_of es) e ≡ taken) × ConnectsBy own_until (taken_of es) e
  becomes_by true q c h =
      let t = eqb-true _ _ q in
      (t, (completes_connects es e t).0 (becomes_completes (after ours es).link e c (sym (ap is_connected (phase_taken t)) ∙ h)))
  becomes_by false q c h =
      absurd (false≢true (sym c ∙ (sym (ap (λ (l : Link). is_connected l.phase.state) (link_refused es e (eqb-false _ _ q))) ∙ h)))

-- THE THEOREM, by our own link's idle time
pub own_becomes_exactly : (es : Log) (e : Event)
    → ((is_connected (after ours es).link.phase.state ≡ false) × (is_connected (after ours (es ▷ e)).link.phase.state ≡ true))
    ↔ ((number_after (taken_of es) e ≡ taken) × ConnectsBy own_until (taken_of es) e)
own_becomes_exactly es e = (
  (λ h. becomes_by es e (eqb (number_after (taken_of es) e) taken) refl h.0 h.1),
  (λ c. let b = completes_becomes (after ours es).link e ((completes_connects es e c.0).1 c.1) in
      (b.0, ap is_connected (phase_taken es e c.0) ∙ b.1)),
)
