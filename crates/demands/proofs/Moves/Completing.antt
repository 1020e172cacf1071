-- What an event makes of an initialization, on any link: the run that it leads to where it starts one, where a byte lets it go on or completes it, and where it
-- waits. The byte that completes it is answered with report 3 and no other, and report 3 is made by nothing else.
-- Assumes nothing.
use Prim.Native.Nat.{ℕ}
use mathlib.Core.Bool.{true, false, ◌&&◌}
use mathlib.Core.List.{◌++◌, append-nil, List, []}
use mathlib.Core.Logic.{◌⊎◌, inl, inr}
use mathlib.Core.Path.{◌≡◌, ◌∙◌, refl, sym, ap, subst}
use borrow.Author.Tests.{eq-eqb}
use Rattle.base.specs.Reports.{no_reason, connected_report, restarted}
use Rattle.units.specs.Units.{micros}
use Rattle.units.specs.declared.Micros.{Micros}
use Rattle.events.specs.declared.Kind.{Kind}
use Rattle.events.specs.declared.Kind.TheVariants.{Address, WakeUp, Byte, Tick, Other}
use Rattle.events.specs.declared.Event.{Event}
use Rattle.starts.specs.Starts.{is_last, onward, slow_start, fast_start}
use Rattle.starts.specs.declared.Start.{Start}
use Rattle.talk.specs.Talk.{is_stopped}
use Rattle.phases.specs.Phases.{is_quiet, starting, connected, is_held, is_starting}
use Rattle.phases.specs.declared.Phase.{Phase}
use Rattle.phases.proofs.StateTests.{is_starting_lem}
use Rattle.moves.specs.Moves.{still, makes, starting_slow, is_good_low, starting_fast, after_byte, after_stop, is_cut_in, before_byte}
use Rattle.phases.proofs.StateTests.{open_connected, held_open, never_starting, held_is}
use Rattle.moves.specs.declared.Move.{Move}
use Rattle.moves.proofs.Rules.{at_byte, Rule, rests, starts_slow, starts_fast, connects, goes_on, by_slow, by_fast, by_byte, by_stop, one_move, cut_held}
use Rattle.reports.specs.Reporting.{report_of, appended, listed, told, with_phase, moved}
use Rattle.reports.specs.declared.Report.{Report}
use Rattle.reports.specs.declared.Run.{Run}
use Rattle.link.specs.Handling.{passed, shut, hearing, byte_heard, acted_by, acted, begun, handled}
use Rattle.link.specs.declared.Link.{Link}
use Rattle.link.specs.Telling.{tells, byte_tells, handled_tells}
use Rattle.link.proofs.Walk.{moved_phase}
use Rattle.link.proofs.Four.{four_enough}
use Rattle.demands.specs.Histories.{is_among, Says}
use Rattle.demands.proofs.Moves.ReportsInList.{says_speaks}
use Rattle.demands.proofs.Moves.Entering.{In, Open, passed_open, judges, Completes, has_idled}
use Rattle.demands.proofs.Moves.Causes.{Cause, cause_each, false_of}

-- ---- what an event does, by its kind
module _ (r : Run) (e : Event) (mark : Micros) where
  acted_slow : e.kind ≡ Address → acted r e mark ≡ moved (shut r restarted) (starting_slow (shut r restarted).phase.idle e.value mark e.start)
  unfolding acted
  acted_slow k = ap (λ (x : Kind). acted_by x r e mark) k

  acted_fast : e.kind ≡ WakeUp → acted r e mark ≡ moved (shut r restarted) (starting_fast (shut r restarted).phase.idle mark e.start e.end)
  unfolding acted
  acted_fast k = ap (λ (x : Kind). acted_by x r e mark) k

  pub acted_byte : e.kind ≡ Byte → acted r e mark ≡ byte_heard r e mark
  unfolding acted
  acted_byte k = ap (λ (x : Kind). acted_by x r e mark) k

  pub acted_tick : e.kind ≡ Tick → acted r e mark ≡ r
  unfolding acted
  acted_tick k = ap (λ (x : Kind). acted_by x r e mark) k

  acted_other : e.kind ≡ Other → acted r e mark ≡ r
  unfolding acted
  acted_other k = ap (λ (x : Kind). acted_by x r e mark) k

  -- ---- a byte that does not cut in
  still_there : (s : Run) → moved s (still s.phase) ≡ s
  unfolding moved
  still_there s = refl

  -- what the byte's rule tells, and a stop after it
  abbrev pub first_tells : Run → List Report
  first_tells s = tells (hearing s) (after_byte s.phase e.side e.value mark e.start)

  abbrev pub then_tells : Run → List Report
  then_tells s = let r2 = moved (hearing s) (after_byte s.phase e.side e.value mark e.start) in tells r2 (after_stop r2.phase)

  module _ (whole : is_cut_in r.phase e.side ≡ false) where
    -- nothing ends before it
    uncut : moved r (before_byte r.phase e.side) ≡ r
    unfolding before_byte
    uncut = rw whole (still_there r)

    quiet_cut : tells r (before_byte r.phase e.side) ≡ []
    unfolding before_byte tells
    quiet_cut = rw whole refl

    pub uncut_tells : byte_tells r e mark ≡ first_tells r ++ then_tells r
    unfolding byte_tells
    uncut_tells =
        ap (λ (xs : List Report). xs ++ first_tells (moved r (before_byte r.phase e.side)) ++ then_tells (moved r (before_byte r.phase e.side))) quiet_cut
        ∙ ap (λ (s : Run). first_tells s ++ then_tells s) uncut

    pub uncut_heard : byte_heard r e mark
        ≡ (let r2 = moved (hearing r) (after_byte r.phase e.side e.value mark e.start) in moved r2 (after_stop r2.phase))
    unfolding byte_heard
    uncut_heard =
        ap (λ (s : Run). let r2 = moved (hearing s) (after_byte s.phase e.side e.value mark e.start) in moved r2 (after_stop r2.phase)) uncut

  -- a byte after which no stop comes: its own move is all
  module _ (whole : is_cut_in r.phase e.side ≡ false) (m : Move) (u : Rule mark e r.phase at_byte m) (n : (is_quiet m.phase.state && is_stopped m.phase.request) ≡ false) where
    abbrev r1 : Run
    r1 = moved (hearing r) (after_byte r.phase e.side e.value mark e.start)

    move_is : after_byte r.phase e.side e.value mark e.start ≡ m
    move_is = one_move mark e r.phase (by_byte mark e r.phase) u

    no_stop : after_stop r1.phase ≡ still r1.phase
    no_stop =
        let q = moved_phase (hearing r) _ ∙ ap (λ (x : Move). x.phase) move_is in
        one_move mark e r1.phase (by_stop mark e r1.phase) (rests (ap (λ (x : Phase). is_quiet x.state && is_stopped x.request) q ∙ n))

    none_told : (s : Run) → tells (hearing r) m ++ tells s (still s.phase) ≡ tells (hearing r) m
    unfolding tells
    none_told s = append-nil (tells (hearing r) m)

    pub heard_move : byte_heard r e mark ≡ moved (hearing r) m
    heard_move =
        uncut_heard whole ∙ ap (moved r1) no_stop ∙ still_there r1 ∙ ap (moved (hearing r)) move_is

    pub heard_tells : byte_tells r e mark ≡ tells (hearing r) m
    heard_tells =
        uncut_tells whole
        ∙ ap (λ (x : Move). tells (hearing r) (after_byte r.phase e.side e.value mark e.start) ++ tells r1 x) no_stop
        ∙ ap (λ (x : Move). tells (hearing r) x ++ tells r1 (still r1.phase)) move_is ∙ none_told r1

-- a byte cuts in only where a message is held
pub held_cuts : (mark : Micros) (e : Event) (p : Phase) → (is_held p.state ≡ true → ⊥) → is_cut_in p e.side ≡ false
held_cuts mark e p n = false_of (is_cut_in p e.side) (λ c. n (held_is (cut_held mark e p c)).0)

starting_uncut : (mark : Micros) (e : Event) (p : Phase) → is_starting p.state ≡ true → is_cut_in p e.side ≡ false
starting_uncut mark e p i =
    held_cuts mark e p (λ h. never_starting p.state (open_connected p.state (held_open p.state h)) i)

-- ---- the runs that an event leads to
abbrev pub connecting : Start → Move
connecting s = makes connected_report no_reason (connected s)

module _ (l : Link) (e : Event) where
  abbrev r : Run
  r = passed (begun l e) l.mark e.start

  -- it starts an initialization
  pub slow_run : e.kind ≡ Address → has_idled l e ≡ true → handled l e ≡ with_phase (shut r restarted) (starting (micros 0) (slow_start e.value))
  unfolding handled moved
  slow_run k i = acted_slow r e l.mark k ∙ ap (moved (shut r restarted)) (one_move _ e _ (by_slow _ e (shut r restarted).phase k) (starts_slow k i))

  pub fast_run : e.kind ≡ WakeUp → has_idled l e ≡ true → is_good_low e.start e.end ≡ true
      → handled l e ≡ with_phase (shut r restarted) (starting e.start fast_start)
  unfolding handled moved
  fast_run k i g = acted_fast r e l.mark k ∙ ap (moved (shut r restarted)) (one_move _ e _ (by_fast _ e (shut r restarted).phase k) (starts_fast k i g))

  -- it finds one with its window open
  module _ (i : In l.phase) (o : Open l.phase l.mark e.start) where
    stays : r ≡ begun l e
    unfolding begun
    stays = passed_open (begun l e) l.mark e.start i o

    pub wait_run : (e.kind ≡ Tick) ⊎ (e.kind ≡ Other) → handled l e ≡ begun l e
    unfolding handled
    wait_run (inl k) = acted_tick r e l.mark k ∙ stays
    wait_run (inr k) = acted_other r e l.mark k ∙ stays

    byte_run : e.kind ≡ Byte → handled l e ≡ byte_heard (begun l e) e l.mark
    unfolding handled
    byte_run k = acted_byte r e l.mark k ∙ ap (λ (x : Run). byte_heard x e l.mark) stays

    pub right_run : e.kind ≡ Byte → judges l e l.phase ≡ no_reason → is_last l.phase.start.stage ≡ false
        → handled l e ≡ with_phase (hearing (begun l e)) (starting l.phase.fall (onward l.phase.start e.value))
    unfolding begun moved starting is_quiet
    right_run k v z =
        byte_run k ∙ heard_move (begun l e) e l.mark (starting_uncut l.mark e l.phase i) _ (goes_on (is_starting_lem l.phase.state i) (eq-eqb (judges l e l.phase) no_reason v) z) refl

  pub completes_run : Completes l e → handled l e ≡ told (hearing (begun l e)) (connecting l.phase.start)
  unfolding begun moved connected is_quiet is_stopped
  completes_run c =
      byte_run c.was c.window c.byte
      ∙ heard_move (begun l e) e l.mark (starting_uncut l.mark e l.phase c.was) _ (connects (is_starting_lem l.phase.state c.was) (eq-eqb (judges l e l.phase) no_reason c.right) c.last) refl

  pub completes_says : Completes l e → Says connected_report (listed (handled l e).reports)
  unfolding told begun appended listed report_of is_among
  completes_says c = ap (λ (x : Run). is_among connected_report (listed x.reports)) (completes_run c)

  -- REPORT 3 IS MADE BY SUCH A BYTE, AND BY NOTHING ELSE
  pub says_completes : Says connected_report (listed (handled l e).reports) → Completes l e
  says_completes s =
      let x = says_speaks connected_report (handled_tells l e) (sym (ap (is_among connected_report) (four_enough l e)) ∙ s) in
      subst (λ (n : ℕ). Cause l e n x.report.reason) x.number_is (cause_each l e x.report x.made)
