-- What an event leaves of a session (`Ends`): it is over where a report 7 is made, and then the link is not connected; else it goes on as the reports say. A tick
-- leaves it as passing time did, and after A, W and D it is over.
-- Assumes nothing.
use mathlib.Core.Bool.{true, false, false≢true}
use mathlib.Core.List.{List, ◌++◌}
use mathlib.Core.Path.{◌≡◌, refl, sym, ap, ◌∙◌, subst}
use native.Mathlib.Omega.{arith}
use lib.Dec.{eqb}
use Rattle.base.specs.Reports.{down_report}
use Rattle.units.specs.declared.Micros.{Micros}
use Rattle.events.specs.declared.Event.{Event}
use Rattle.phases.specs.Phases.{is_open, is_connected, down, starting}
use Rattle.phases.specs.declared.State.TheVariants.{Down}
use Rattle.phases.specs.declared.Phase.{Phase}
use Rattle.phases.proofs.StateTests.{open_or_quiet, down_unconnected}
use Rattle.moves.specs.declared.Move.{Move}
use Rattle.moves.proofs.Rules.{at_leaving, at_start, Rule, rests, leaves, starts_slow, starts_fast, hurries, low, drops}
use Rattle.reports.specs.Reporting.{report_of, moved}
use Rattle.reports.specs.declared.Report.{Report}
use Rattle.reports.specs.declared.Run.{Run}
use Rattle.link.specs.Telling.{tells}
use Rattle.link.proofs.Walk.{moved_phase}
use Rattle.demands.specs.Logs.{Log, ◌▷◌, heard_in}
use Rattle.demands.specs.Histories.{after, is_among}
use Rattle.demands.specs.Sessions.{Talk, Session}
use Rattle.demands.proofs.Moves.ReportsInList.{Each, each_both, tells_each}
use Rattle.demands.proofs.Sessions.SessionLasts.{At, SpeaksOn, at_more, Told, told_alike, talked, plain, Passes, up, gone, says_first, says_second, says_none, talked_both}
use Rattle.demands.specs.Ours.{ours}

module _ (es : Log) (e : Event) (all : List Report) where
  pub data Ends (t : Talk) (rs : List Report) (r : Run) : Type 0 where
    still_up : is_among down_report rs ≡ false → Each (Told es e all t) rs
        → (Session ours (es ▷ e) (talked es e all t rs) → (after ours (es ▷ e)).link.named ≡ r.named
        → At (es ▷ e) (talked es e all t rs) r.phase r.named r.heard) → Ends t rs r
    over : is_among down_report rs ≡ true → Each (Told es e all t) rs → is_connected r.phase.state ≡ false → Ends t rs r

  -- after passing time
  pub behind : (t : Talk) (rs ss : List Report) (r s : Run) → Passes es e all t rs r
      → ((u : Talk) → At es u r.phase r.named r.heard → Ends u ss s)
      → (r.phase.state ≡ Down → Each (Told es e all t) ss × (is_connected s.phase.state ≡ false)) → Ends t (rs ++ ss) s
  behind t rs ss r s (up v l n f q a) g d = on (g v a)
    where
      on : Ends v ss s → Ends t (rs ++ ss) s
      on (still_up k h b) =
          let p = talked_both es e all t v rs ss q in
          still_up (says_none es e all rs ss n k) (each_both (Told es e all t) rs ss f (told_alike es e all l ss h))
          (λ v n. subst (λ (u : Talk). At (es ▷ e) u s.phase s.named s.heard) (sym p) (b (subst (Session ours (es ▷ e)) p v) n))
      on (over k h c) = over (says_second es e all rs ss k) (each_both (Told es e all t) rs ss f (told_alike es e all l ss h)) c
  behind t rs ss r s (gone n f q) g d =
      let x = d q in
      over (says_first es e all rs ss n) (each_both (Told es e all t) rs ss f x.0) x.1

  -- ---- A TICK
  pub tick_ends : (t : Talk) (rs : List Report) (r : Run) → heard_in (es ▷ e) ≡ heard_in es
      → (is_open r.phase.state ≡ true → (u : Talk) → SpeaksOn es e u) → Passes es e all t rs r → Ends t rs r
  tick_ends t rs r q f (up v l n g x a) =
      still_up n g (λ _ _. subst (λ (u : Talk). At (es ▷ e) u r.phase r.named r.heard) (sym x)
      (at_more es e v r.phase r.named q r.heard (λ o. f o v) a))
  tick_ends t rs r q f (gone n g x) = over n g (down_unconnected x)

  -- ---- A, W AND D: with nothing open, what is connected is left ..
  pub record Gone (t : Talk) (rs : List Report) (r : Run) : Type 0 where
    pub said : is_among down_report rs ≡ true
    pub each : Each (Told es e all t) rs
    pub off : is_connected r.phase.state ≡ false

  left_off : (mark : Micros) (p : Phase) (m : Move) → Rule mark e p at_leaving m → is_open p.state ≡ false → is_connected m.phase.state ≡ true → ⊥
  unfolding down is_connected
  left_off mark p m (rests u) o c = false≢true (sym u.0 ∙ open_or_quiet p.state c o)
  left_off mark p m (leaves k q) o c = false≢true c
  left_off mark p m (drops d k) o c = false≢true c

  pub leaves_gone : (mark : Micros) (t : Talk) (rs : List Report) (r : Run) (m : Move) → Rule mark e r.phase at_leaving m → is_open r.phase.state ≡ false
      → Passes es e all t (rs ++ tells r m) (moved r m) → Gone t (rs ++ tells r m) (moved r m)
  leaves_gone mark t rs r m u o (up v l n f q a) =
      absurd (left_off mark r.phase m u o (sym (ap (λ (p : Phase). is_connected p.state) (moved_phase r m)) ∙ a.fits.connected))
  leaves_gone mark t rs r m u o (gone n f q) = record { said = n; each = f; off = down_unconnected q }

  -- .. and a start connects nothing
  start_rule : (mark : Micros) (r : Run) (m : Move) → Rule mark e r.phase at_start m
      → (is_connected m.phase.state ≡ false) × ((t : Talk) → eqb m.number 0 ≡ false → Told es e all t (report_of r m.number m.reason))
  unfolding down starting is_connected report_of
  start_rule mark r m (rests u) = absurd u
  start_rule mark r m (starts_slow k i) = (refl, λ t z. absurd (false≢true (sym z)))
  start_rule mark r m (starts_fast k i g) = (refl, λ t z. absurd (false≢true (sym z)))
  start_rule mark r m (hurries s i) = (refl, λ t _. plain es e all t _ (λ n. omega arith) (λ n. omega arith) (λ n. absurd (omega arith)))
  start_rule mark r m (low k i g) = (refl, λ t _. plain es e all t _ (λ n. omega arith) (λ n. omega arith) (λ n. absurd (omega arith)))

  pub start_ends : (mark : Micros) (t : Talk) (rs : List Report) (r : Run) (m : Move) → Rule mark e r.phase at_start m → Gone t rs r
      → Ends t (rs ++ tells r m) (moved r m)
  start_ends mark t rs r m u g =
      let x = start_rule mark r m u in
      over (says_first es e all rs (tells r m) g.said) (each_both (Told es e all t) rs (tells r m) g.each (tells_each (Told es e all t) r m (x.1 t)))
      (ap (λ (p : Phase). is_connected p.state) (moved_phase r m) ∙ x.0)
