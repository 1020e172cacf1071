-- A byte that time has left nothing open before: it opens a message or damage, and makes no report. And a byte that goes on with what is open names nothing,
-- or itself too.
-- Assumes nothing.
use Prim.Native.Nat.{ℕ}
use mathlib.Core.Bool.{Bool, true, false, ◌&&◌}
use mathlib.Core.List.{[], ◌++◌, append_assoc, List, append-nil}
use mathlib.Core.Path.{◌≡◌, refl, ap, ◌∙◌, sym}
use mathlib.Core.Logic.{◌⊎◌, inl, inr, ⊎_elim}
use lib.Dec.{eqb}
use Rattle.base.specs.Reports.{no_reason}
use Rattle.base.specs.Sums.{count_sum}
use Rattle.base.proofs.Tests.{by_test}
use Rattle.units.specs.Units.{gap_of}
use Rattle.units.specs.declared.Micros.{Micros}
use Rattle.events.specs.declared.Event.{Event}
use Rattle.talk.specs.Talk.{is_stopped}
use Rattle.phases.specs.Phases.{is_quiet, talking, holding, damaged}
use Rattle.phases.specs.declared.Phase.{Phase}
use Rattle.phases.proofs.StateTests.{is_quiet_lem, open_unquiet, held_open}
use Rattle.moves.specs.Moves.{still, reason_at_first, after_byte, after_stop, is_cut_in, before_byte}
use Rattle.moves.specs.declared.Move.{Move}
use Rattle.moves.proofs.Rules.{at_byte, Rule, opens, errs}
use Rattle.reports.specs.Reporting.{names_bytes, told, moved}
use Rattle.reports.specs.declared.Run.{Run}
use Rattle.link.specs.Handling.{hearing, byte_heard}
use Rattle.link.specs.Telling.{tells, byte_tells}
use Rattle.demands.proofs.Histories.Tiling.{moved_heard}
use Rattle.demands.proofs.Moves.Completing.{first_tells, then_tells, uncut_tells, uncut_heard, heard_move, heard_tells, held_cuts}
use Rattle.reports.specs.declared.Report.{Report}

-- ---- A FIRST BYTE makes no report
module _ (s : Run) (e : Event) (mark : Micros) (quiet : is_quiet s.phase.state ≡ true) where
  record Opens : Type 0 where
    to : Phase
    rule : Rule mark e s.phase at_byte (still to)
    loud : (is_quiet to.state && is_stopped to.request) ≡ false

  opens_by : (b : Bool) → eqb (reason_at_first s.phase e.side e.value (gap_of mark e.start)) no_reason ≡ b → Opens
  unfolding holding damaged talking is_quiet
  opens_by true r = record { to = _; rule = opens (is_quiet_lem s.phase.state quiet) r; loud = refl }
  opens_by false r = record { to = _; rule = errs (is_quiet_lem s.phase.state quiet) r; loud = refl }

  first : Opens
  first = opens_by _ refl

  uncut : is_cut_in s.phase e.side ≡ false
  uncut = held_cuts mark e s.phase (λ h. open_unquiet s.phase.state (held_open s.phase.state h) quiet)

  pub first_silent : byte_tells s e mark ≡ []
  unfolding tells
  first_silent = heard_tells s e mark uncut (still first.to) first.rule first.loud

  pub first_named : (byte_heard s e mark).named ≡ s.named
  unfolding moved
  first_named = ap (λ (x : Run). x.named) (heard_move s e mark uncut (still first.to) first.rule first.loud)

-- ---- A BYTE THAT COMES, and finds nothing open once it has come: all that is told is what it ended
module _ (s : Run) (e : Event) (mark : Micros) where
  abbrev pub come : Run
  come = moved s (before_byte s.phase e.side)

  module _ (quiet : is_quiet come.phase.state ≡ true) where
    none_then : first_tells come e mark come ++ then_tells come e mark come ≡ []
    none_then = sym (uncut_tells come e mark (uncut come e mark quiet)) ∙ first_silent come e mark quiet

    pub come_silent : byte_tells s e mark ≡ tells s (before_byte s.phase e.side)
    unfolding byte_tells
    come_silent =
        append_assoc (tells s (before_byte s.phase e.side)) (first_tells come e mark come) (then_tells come e mark come)
        ∙ ap (λ (xs : List Report). tells s (before_byte s.phase e.side) ++ xs) none_then ∙ append-nil _

    pub come_named : (byte_heard s e mark).named ≡ come.named
    unfolding byte_heard
    come_named = ap (λ (x : Run). x.named) (sym (uncut_heard come e mark (uncut come e mark quiet))) ∙ first_named come e mark quiet

-- ---- ANY BYTE names nothing, or all before it, or all up to itself; and where it does not cut in, nothing or all up to itself
moved_named : (r : Run) (m : Move) → ((moved r m).named ≡ r.named) ⊎ ((moved r m).named ≡ r.heard)
unfolding moved told
moved_named r m =
    by_test (λ (s : Run). (s.named ≡ r.named) ⊎ (s.named ≡ r.heard)) (eqb m.number 0) (λ _. inl refl)
    (λ _. by_test (λ (n : ℕ). (n ≡ r.named) ⊎ (n ≡ r.heard)) (names_bytes m.number) (λ _. inr refl) (λ _. inl refl))

pub byte_named : (s : Run) (e : Event) (mark : Micros) → is_cut_in s.phase e.side ≡ false
    → ((byte_heard s e mark).named ≡ s.named) ⊎ ((byte_heard s e mark).named ≡ count_sum s.heard 1)
unfolding byte_heard before_byte moved
byte_named s e mark n =
    let m1 = after_byte s.phase e.side e.value mark e.start in
    let r1 = moved (hearing s) m1 in
    rw n
    (⊎_elim (λ x. ⊎_elim (λ y. inl (x ∙ y)) (λ y. inr (x ∙ y)) (moved_named (hearing s) m1)) (λ x. inr (x ∙ moved_heard (hearing s) m1))
    (moved_named r1 (after_stop r1.phase)))
