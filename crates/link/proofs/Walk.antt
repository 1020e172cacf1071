-- AN EVENT, MOVE BY MOVE. What holds before an event, and goes on to hold from each of its moves to the next, holds after it: `I` says what holds at each
-- moment, of the run so far and of the reports made so far; each rule leads from one moment to the next (`moves`), and so do a byte that comes (`comes`) and is
-- heard (`hears`), and an event that ends early, a tick (`ends`) or a drop (`leaves`). `Kept` is what this says of a link's phase alone. The walks `..-by` also say which events come
-- to a moment (`Reached`), and what a start finds (`Here`).
-- Assumes nothing.
use Prim.Native.Nat.{ℕ}
use mathlib.Core.List.{List, [], ◌++◌, append_assoc, append-nil}
use mathlib.Core.Logic.{◌⊎◌, inl, inr}
use mathlib.Core.Path.{◌≡◌, ◌∙◌, refl, sym, ap, subst}
use lib.Dec.{eqb}
use Rattle.base.specs.Reports.{dropped, restarted}
use Rattle.base.proofs.Tests.{by_test}
use Rattle.units.specs.Units.{gap_of}
use Rattle.units.specs.declared.Micros.{Micros}
use Rattle.events.specs.declared.Kind.{Kind}
use Rattle.events.specs.declared.Kind.TheVariants.{Address, WakeUp, Byte, Tick, Drop, Other}
use Rattle.events.specs.declared.Event.{Event}
use Rattle.moves.specs.Moves.{after_silence, after_p2, after_p3, after_window, closing, leaving, starting_slow, starting_fast, before_byte, after_byte, after_stop}
use Rattle.phases.specs.declared.Phase.{Phase}
use Rattle.moves.specs.declared.Move.{Move}
use Rattle.moves.proofs.Rules.{Moment, at_silence, at_p2, at_p3, at_window, at_closing, at_leaving, at_start, at_cut, at_hearing, at_byte, at_stop, at_end_lem, next}
use Rattle.moves.proofs.Rules.{Closes, by_drop, by_address, by_wake_up, Rule}
use Rattle.moves.proofs.Rules.{by_silence, by_p2, by_p3, by_window, by_closing, by_leaving, by_slow, by_fast, by_cut, by_byte, by_stop}
use Rattle.reports.specs.Reporting.{told, moved}
use Rattle.reports.specs.declared.Report.{Report}
use Rattle.reports.specs.declared.Run.{Run}
use Rattle.link.specs.Handling.{passed, shut, hearing, byte_heard, acted_by, acted}
use Rattle.link.specs.Telling.{tells, passed_tells, shut_tells, byte_tells, acted_tells}

-- a move leads to its phase
pub moved_phase : (r : Run) (m : Move) → (moved r m).phase ≡ m.phase
unfolding moved told
moved_phase r m = by_test (λ (s : Run). s.phase ≡ m.phase) (eqb m.number 0) (λ _. refl) (λ _. refl)

-- the events that come to a moment: to those of passing time each, to the others A, W and D, A and W, or a byte
abbrev pub Reached : Event → Moment → Type 0
Reached e at_silence = Unit {0}
Reached e at_p2 = Unit {0}
Reached e at_p3 = Unit {0}
Reached e at_window = Unit {0}
Reached e at_closing = ((e.kind ≡ Address) ⊎ (e.kind ≡ WakeUp)) ⊎ (e.kind ≡ Drop)
Reached e at_leaving = ((e.kind ≡ Address) ⊎ (e.kind ≡ WakeUp)) ⊎ (e.kind ≡ Drop)
Reached e at_start = (e.kind ≡ Address) ⊎ (e.kind ≡ WakeUp)
Reached e at_cut = e.kind ≡ Byte
Reached e at_hearing = e.kind ≡ Byte
Reached e at_byte = e.kind ≡ Byte
Reached e at_stop = e.kind ≡ Byte
Reached e at_end_lem = Unit {0}

closer : {e : Event} {reason : ℕ} → Closes e reason → Reached e at_closing
closer (by_drop k) = inr k
closer (by_address k) = inl (inl k)
closer (by_wake_up k) = inl (inr k)

-- the moments before a start is judged
abbrev pub BeforeStart : Moment → Type 0
BeforeStart at_silence = Unit {0}
BeforeStart at_p2 = Unit {0}
BeforeStart at_p3 = Unit {0}
BeforeStart at_window = Unit {0}
BeforeStart at_closing = Unit {0}
BeforeStart at_leaving = Unit {0}
BeforeStart at_start = ⊥
BeforeStart at_cut = ⊥
BeforeStart at_hearing = ⊥
BeforeStart at_byte = ⊥
BeforeStart at_stop = ⊥
BeforeStart at_end_lem = ⊥

-- what a start finds: the phase that time and closing have left of this run
abbrev pub Here : Run → Moment → Phase → Type 0
Here r at_silence p = Unit {0}
Here r at_p2 p = Unit {0}
Here r at_p3 p = Unit {0}
Here r at_window p = Unit {0}
Here r at_closing p = Unit {0}
Here r at_leaving p = Unit {0}
Here r at_start p = p ≡ (shut r restarted).phase
Here r at_cut p = Unit {0}
Here r at_hearing p = Unit {0}
Here r at_byte p = Unit {0}
Here r at_stop p = Unit {0}
Here r at_end_lem p = Unit {0}

module _ (mark : Micros) (e : Event) (before : Run) (I : Moment → Run → List Report → Type 0)
    (moves : (k : Moment) → Reached e k → (r : Run) → Here (passed before mark e.start) k r.phase → (xs : List Report) (m : Move)
    → Rule mark e r.phase k m → I k r xs → I (next k) (moved r m) (xs ++ tells r m)) where
  -- what time leaves
  abbrev run : Run
  run = passed before mark e.start

  -- time passes
  pub time_walk_by : I at_silence before [] → I at_closing run (passed_tells before mark e.start)
  unfolding passed passed_tells next
  time_walk_by i0 =
      let gap = gap_of mark e.start in
      let m1 = after_silence before.phase gap in
      let r1 = moved before m1 in
      let i1 = moves at_silence tt before tt [] m1 (by_silence mark e before.phase) i0 in
      let m2 = after_p2 r1.phase gap in
      let r2 = moved r1 m2 in
      let i2 = moves at_p2 tt r1 tt _ m2 (by_p2 mark e r1.phase) i1 in
      let m3 = after_p3 r2.phase gap in
      let r3 = moved r2 m3 in
      let i3 = moves at_p3 tt r2 tt _ m3 (by_p3 mark e r2.phase) i2 in
      moves at_window tt r3 tt _ (after_window r3.phase mark e.start) (by_window mark e r3.phase) i3

  -- A, W or D closes what is open
  pub shut_walk_by : (r : Run) (xs : List Report) (reason : ℕ) → Closes e reason → I at_closing r xs → I at_start (shut r reason) (xs ++ shut_tells r reason)
  unfolding shut shut_tells next
  shut_walk_by r xs reason c i =
      let m1 = closing r.phase in
      let r1 = moved r m1 in
      let m2 = leaving r1.phase reason in
      let i1 = moves at_closing (closer c) r tt xs m1 (by_closing mark e r.phase) i in
      subst (I at_start (moved r1 m2)) (append_assoc xs (tells r m1) (tells r1 m2)) (moves at_leaving (closer c) r1 tt _ m2 (by_leaving mark e r1.phase c) i1)

  start_walk : (xs : List Report) (m : Move) → Closes e restarted → Reached e at_start → Rule mark e (shut run restarted).phase at_start m → I at_closing run xs
      → I at_end_lem (moved (shut run restarted) m) (xs ++ (shut_tells run restarted ++ tells (shut run restarted) m))
  unfolding next
  start_walk xs m c a u i =
      let s = shut run restarted in
      subst (I at_end_lem (moved s m)) (append_assoc xs (shut_tells run restarted) (tells s m)) (moves at_start a s refl _ m u (shut_walk_by run xs restarted c i))

  module _ (comes : e.kind ≡ Byte → (r : Run) (xs : List Report) → I at_closing r xs → I at_cut r xs)
      (hears : e.kind ≡ Byte → (r : Run) (xs : List Report) → I at_hearing r xs → I at_byte (hearing r) xs)
      (leaves : e.kind ≡ Drop → (r : Run) (xs : List Report) → I at_start r xs → I at_end_lem r xs)
      (ends : (e.kind ≡ Tick) ⊎ (e.kind ≡ Other) → (r : Run) (xs : List Report) → I at_closing r xs → I at_end_lem r xs) where
    -- a byte is heard
    byte_walk : e.kind ≡ Byte → (xs : List Report) → I at_closing run xs → I at_end_lem (byte_heard run e mark) (xs ++ byte_tells run e mark)
    unfolding byte_heard byte_tells next
    byte_walk k xs i =
        let m1 = before_byte run.phase e.side in
        let r1 = moved run m1 in
        let m2 = after_byte r1.phase e.side e.value mark e.start in
        let r2 = moved (hearing r1) m2 in
        let m3 = after_stop r2.phase in
        let i1 = moves at_cut k run tt xs m1 (by_cut mark e run.phase) (comes k run xs i) in
        let i2 = moves at_byte k (hearing r1) tt _ m2 (by_byte mark e r1.phase) (hears k r1 _ i1) in
        let i3 = moves at_stop k r2 tt _ m3 (by_stop mark e r2.phase) i2 in
        let said = ap (λ (ys : List Report). ys ++ tells r2 m3) (append_assoc xs (tells run m1) (tells (hearing r1) m2)) in
        subst (I at_end_lem (moved r2 m3)) (said ∙ append_assoc xs (tells run m1 ++ tells (hearing r1) m2) (tells r2 m3)) i3

    acts : (k : Kind) (xs : List Report) → e.kind ≡ k → I at_closing run xs → I at_end_lem (acted_by k run e mark) (xs ++ acted_tells k run e mark)
    acts Address xs k i =
        let p = (shut run restarted).phase in
        start_walk xs (starting_slow p.idle e.value mark e.start) (by_address k) (inl k) (by_slow mark e p k) i
    acts WakeUp xs k i =
        let p = (shut run restarted).phase in
        start_walk xs (starting_fast p.idle mark e.start e.end) (by_wake_up k) (inr k) (by_fast mark e p k) i
    acts Byte xs k i = byte_walk k xs i
    acts Tick xs k i = subst (I at_end_lem run) (sym (append-nil xs)) (ends (inl k) run xs i)
    acts Drop xs k i = leaves k (shut run dropped) _ (shut_walk_by run xs dropped (by_drop k) i)
    acts Other xs k i = subst (I at_end_lem run) (sym (append-nil xs)) (ends (inr k) run xs i)

    -- the event acts on what time has left
    pub act_walk_by : (xs : List Report) → I at_closing run xs → I at_end_lem (acted run e mark) (xs ++ acted_tells e.kind run e mark)
    unfolding acted
    act_walk_by xs i = acts e.kind xs refl i

    -- FROM BEFORE AN EVENT TO AFTER IT, with the reports of all its moves
    pub event_walk_by : I at_silence before [] → I at_end_lem (acted run e mark) (passed_tells before mark e.start ++ acted_tells e.kind run e mark)
    event_walk_by i = act_walk_by _ (time_walk_by i)

-- the same, for what may be known without the event's kind
module _ (mark : Micros) (e : Event) (I : Moment → Run → List Report → Type 0)
    (moves : (k : Moment) (r : Run) (xs : List Report) (m : Move) → Rule mark e r.phase k m → I k r xs → I (next k) (moved r m) (xs ++ tells r m)) where
  pub time_walk : (r : Run) → I at_silence r [] → I at_closing (passed r mark e.start) (passed_tells r mark e.start)
  time_walk r i = time_walk_by mark e r I (λ k _ s _. moves k s) i

  pub shut_walk : (r : Run) (xs : List Report) (reason : ℕ) → Closes e reason → I at_closing r xs → I at_start (shut r reason) (xs ++ shut_tells r reason)
  shut_walk r xs reason c i = shut_walk_by mark e r I (λ k _ s _. moves k s) r xs reason c i

  module _ (comes : (r : Run) (xs : List Report) → I at_closing r xs → I at_cut r xs)
      (hears : (r : Run) (xs : List Report) → I at_hearing r xs → I at_byte (hearing r) xs)
      (leaves : (r : Run) (xs : List Report) → I at_start r xs → I at_end_lem r xs)
      (ends : (r : Run) (xs : List Report) → I at_closing r xs → I at_end_lem r xs) where
    pub event_walk : (r : Run) → I at_silence r []
        → I at_end_lem (acted (passed r mark e.start) e mark) (passed_tells r mark e.start ++ acted_tells e.kind (passed r mark e.start) e mark)
    event_walk r i = event_walk_by mark e r I (λ k _ s _. moves k s) (λ _. comes) (λ _. hears) (λ _. leaves) (λ _. ends) i
