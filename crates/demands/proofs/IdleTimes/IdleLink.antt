-- THE IDLE TIME OF A HISTORY IS THE LINK'S. Our link, while it is down, has the idle time that the history says (`idle_link`), and judges an address or wake-up that
-- is taken by the one that the history asks (`asked_link`). Both are an event's moments walked through, the rules' reports folded as they come.
-- Assumes nothing.
use Prim.Native.Nat.{ℕ}
use mathlib.Core.Bool.{Bool, true, false, ◌&&◌}
use mathlib.Core.List.{List, [], ◌∷◌, ◌++◌}
use mathlib.Core.Logic.{◌⊎◌, inl, inr}
use mathlib.Core.Path.{◌≡◌, refl, sym, ap, ◌∙◌}
use borrow.Author.Tests.{eqb-true, eqb-false}
use lib.Dec.{eqb}
use Rattle.std.specs.Prelude.{if◌then◌else◌}
use Rattle.base.specs.Numbers.{taken}
use Rattle.base.specs.Reports.{failed_report, wrong_low}
use Rattle.base.proofs.Tests.{by_test}
use Rattle.units.specs.declared.Micros.{Micros}
use Rattle.timing.specs.Timing.{idle_at_power_on}
use Rattle.timing.specs.declared.Windows.{Windows}
use Rattle.events.specs.declared.Kind.{Kind}
use Rattle.events.specs.declared.Kind.TheVariants.{Byte, Tick, Drop, Other}
use Rattle.events.specs.declared.Event.{Event}
use Rattle.phases.specs.Phases.{down}
use Rattle.moves.specs.declared.Move.{Move}
use Rattle.moves.proofs.Rules.{Moment, at_silence, at_p2, at_p3, at_window, at_closing, at_leaving, at_start, at_cut, at_hearing, at_byte, at_stop, at_end_lem, next, Rule}
use Rattle.moves.proofs.Rules.{rests, starts_slow, starts_fast, hurries, low}
use Rattle.reports.specs.Reporting.{report_of, listed, moved}
use Rattle.reports.specs.declared.Report.{Report}
use Rattle.reports.specs.declared.Run.{Run}
use Rattle.link.specs.Handling.{fresh_link, passed, begun, handled, link_after}
use Rattle.link.specs.Telling.{tells, handled_tells}
use Rattle.link.specs.declared.Link.{Link}
use Rattle.link.proofs.Walk.{moved_phase, Reached, Here, BeforeStart, event_walk_by}
use Rattle.link.proofs.Four.{four_enough}
use Rattle.demands.specs.Logs.{Log, none, ◌▷◌, number_after, taken_of, InBytes}
use Rattle.demands.specs.Histories.{after, reports_to, folded}
use Rattle.demands.specs.Endings.{Starter}
use Rattle.demands.specs.Idle.{p3min_in, idle_after, is_drop, idle_in, asked_after, idle_asked}
use Rattle.demands.proofs.Histories.CarsFit.{fitting_of}
use Rattle.demands.specs.Ours.{ours}
use Rattle.demands.proofs.Histories.TakenOnly.{ours_passes, next_same}
use Rattle.demands.proofs.Moves.Entering.{judging}
use Rattle.demands.proofs.Moves.Causes.{no_closer, drop_starts}
use Rattle.demands.proofs.Connecting.ConnectsExactly.{link_taken, link_refused, log_taken, log_refused, reports_taken}
use Rattle.demands.proofs.IdleTimes.LatestTalk.{windows_link}
use Rattle.demands.proofs.IdleTimes.IdleRules.{IdleAt, Force, At, early_rule, undropped, idle_rule}

-- ---- reports folded as they come
folded_on : (each : Micros → Report → Micros) (s : Micros) (xs ys : List Report) → folded each s (xs ++ ys) ≡ folded each (folded each s xs) ys
unfolding folded
folded_on each s [] ys = refl
folded_on each s (x ∷ xs) ys = folded_on each (each s x) xs ys

abbrev is_low_report : Report → Bool
is_low_report x = eqb x.number failed_report && eqb x.reason wrong_low

-- by a step that leaves what `idle_after` does, but perhaps at a wrong low
module _ (p3 : Micros) (each : Micros → Report → Micros) (same : (s : Micros) (x : Report) → is_low_report x ≡ false → each s x ≡ idle_after p3 s x) where
  nothing_left : (r : Run) (s : Micros) (reason : ℕ) → each s (report_of r 0 reason) ≡ s
  unfolding report_of idle_after
  nothing_left r s reason = same s (report_of r 0 reason) refl

  folded_move : (r : Run) (m : Move) (s : Micros) (xs : List Report)
      → folded each s (xs ++ tells r m) ≡ each (folded each s xs) (report_of r m.number m.reason)
  unfolding tells folded
  folded_move r m s xs =
      let t = folded each s xs in
      folded_on each s xs (tells r m)
      ∙ by_test (λ (ys : List Report). folded each t ys ≡ each t (report_of r m.number m.reason)) (eqb m.number 0) {x = []}
      {y = report_of r m.number m.reason ∷ []}
      (λ z. sym (ap (λ (n : ℕ). each t (report_of r n m.reason)) (eqb-true m.number 0 z) ∙ nothing_left r t m.reason)) (λ _. refl)

  -- up to a start
  early_moves : (mark : Micros) (e : Event) (s : Micros) (k : Moment) → BeforeStart k → (r : Run) (xs : List Report) (m : Move) → Rule mark e r.phase k m
      → At mark e p3 k r.phase (folded each s xs) → At mark e p3 (next k) (moved r m).phase (folded each s (xs ++ tells r m))
  unfolding report_of
  early_moves mark e s k a r xs m u i =
      let x = early_rule mark e p3 k a r m (folded each s xs) u i in
      rw (moved_phase r m, folded_move r m s xs, same (folded each s xs) (report_of r m.number m.reason) x.1) x.0

drop_is : {k : Kind} → k ≡ Drop → is_drop k ≡ true
unfolding is_drop
drop_is k = ap is_drop k

-- ---- ONE EVENT, on a link that has this idle time while it is down, and this P3 min in force while it is connected
module _ (l : Link) (e : Event) (p3 s : Micros) (idle : IdleAt s l.phase) (force : Force l.mark e p3 l.phase) where
  abbrev Found : Moment → Run → Type 0
  Found k r = Here (passed (begun l e) l.mark e.start) k r.phase

  -- the idle time after it
  abbrev sum : List Report → Micros
  sum xs = folded (idle_after p3) s xs

  abbrev I : Moment → Run → List Report → Type 0
  I k r xs = At l.mark e p3 k r.phase (sum xs)

  moves : (k : Moment) → Reached e k → (r : Run) → Found k r → (xs : List Report) (m : Move) → Rule l.mark e r.phase k m → I k r xs
      → I (next k) (moved r m) (xs ++ tells r m)
  moves k w r h xs m u i =
      rw (moved_phase r m, folded_move p3 (idle_after p3) (λ _ _ _. refl) r m s xs) (idle_rule l.mark e p3 k w r m (sum xs) u i)

  ends : (e.kind ≡ Tick) ⊎ (e.kind ≡ Other) → (r : Run) (xs : List Report) → I at_closing r xs → I at_end_lem r xs
  ends (inl k) r xs i = undropped l.mark e p3 r.phase (sum xs) (λ d. no_closer e Tick refl k (inr d)) i.0
  ends (inr k) r xs i = undropped l.mark e p3 r.phase (sum xs) (λ d. no_closer e Other refl k (inr d)) i.0

  event_idle : IdleAt (if is_drop e.kind then idle_at_power_on else folded (idle_after p3) s (listed (handled l e).reports)) (handled l e).phase
  unfolding handled handled_tells begun folded
  event_idle =
      rw (four_enough l e)
      (event_walk_by l.mark e (begun l e) I moves (λ _ r xs i. i) (λ _ r xs i. i) (λ k r xs i. rw (drop_is k) (i.1 k)) ends (idle, force))

  -- the idle time that a start is judged by
  module _ (starter : Starter e) where
    abbrev asked : List Report → Micros
    asked xs = folded (asked_after p3) s xs

    asked_same : (t : Micros) (x : Report) → is_low_report x ≡ false → asked_after p3 t x ≡ idle_after p3 t x
    unfolding asked_after
    asked_same t x n = rw n

    abbrev K : Moment → Run → List Report → Type 0
    K at_silence r xs = At l.mark e p3 at_silence r.phase (asked xs)
    K at_p2 r xs = At l.mark e p3 at_p2 r.phase (asked xs)
    K at_p3 r xs = At l.mark e p3 at_p3 r.phase (asked xs)
    K at_window r xs = At l.mark e p3 at_window r.phase (asked xs)
    K at_closing r xs = At l.mark e p3 at_closing r.phase (asked xs)
    K at_leaving r xs = At l.mark e p3 at_leaving r.phase (asked xs)
    K at_start r xs = At l.mark e p3 at_start r.phase (asked xs)
    K at_cut r xs = Unit {0}
    K at_hearing r xs = Unit {0}
    K at_byte r xs = Unit {0}
    K at_stop r xs = Unit {0}
    K at_end_lem r xs = (judging l e).idle ≡ asked xs

    no_byte : e.kind ≡ Byte → ⊥
    no_byte k = no_closer e Byte refl k (inl starter)

    asks : (k : Moment) → BeforeStart k → (r : Run) (xs : List Report) (m : Move) → Rule l.mark e r.phase k m
        → At l.mark e p3 k r.phase (asked xs) → At l.mark e p3 (next k) (moved r m).phase (asked (xs ++ tells r m))
    asks k a r xs m u i = early_moves p3 (asked_after p3) asked_same l.mark e s k a r xs m u i

    -- its own report, 8 or one of a wrong low, comes after
    start_asks : (r : Run) (m : Move) (t : Micros) → Rule l.mark e r.phase at_start m → asked_after p3 t (report_of r m.number m.reason) ≡ t
    unfolding asked_after idle_after report_of
    start_asks r m t (rests u) = absurd u
    start_asks r m t (starts_slow k i) = refl
    start_asks r m t (starts_fast k i g) = refl
    start_asks r m t (hurries a i) = refl
    start_asks r m t (low k i g) = refl

    judges : (k : Moment) → Reached e k → (r : Run) → Found k r → (xs : List Report) (m : Move) → Rule l.mark e r.phase k m → K k r xs
        → K (next k) (moved r m) (xs ++ tells r m)
    unfolding next
    judges at_silence w r h xs m u i = asks at_silence tt r xs m u i
    judges at_p2 w r h xs m u i = asks at_p2 tt r xs m u i
    judges at_p3 w r h xs m u i = asks at_p3 tt r xs m u i
    judges at_window w r h xs m u i = asks at_window tt r xs m u i
    judges at_closing w r h xs m u i = asks at_closing tt r xs m u i
    judges at_leaving w r h xs m u i = asks at_leaving tt r xs m u i
    judges at_start w r h xs m u i =
        sym (ap (λ p. p.idle) h) ∙ (i.0 w).1 ∙ sym (start_asks r m (asked xs) u) ∙ sym (folded_move p3 (asked_after p3) asked_same r m s xs)
    judges at_cut w r h xs m u i = tt
    judges at_hearing w r h xs m u i = tt
    judges at_byte w r h xs m u i = tt
    judges at_stop w r h xs m u i = absurd (no_byte w)
    judges at_end_lem w r h xs m (rests u) i = absurd u

    judged_idle : (judging l e).idle ≡ folded (asked_after p3) s (listed (handled l e).reports)
    unfolding handled handled_tells begun folded
    judged_idle =
        rw (four_enough l e)
        (event_walk_by l.mark e (begun l e) K judges (λ _ r xs i. tt) (λ _ r xs i. tt) (λ k r xs i. absurd (drop_starts e k starter))
        (λ k r xs i. absurd (no_tick k)) (idle, force))
      where
        no_tick : (e.kind ≡ Tick) ⊎ (e.kind ≡ Other) → ⊥
        no_tick (inl k) = no_closer e Tick refl k (inl starter)
        no_tick (inr k) = no_closer e Other refl k (inl starter)

-- ---- A HISTORY
in_force : (es : Log) (e : Event) → InBytes es → Force (after ours es).link.mark e (p3min_in ours (taken_of es)) (after ours es).link.phase
unfolding p3min_in
in_force es e b = (λ c. ap (λ (w : Windows). w.p3min) (windows_link es b c), fitting_of es)

module _ (es : Log) (e : Event) (b : InBytes es) (h : IdleAt (idle_in ours (taken_of es)) (after ours es).link.phase) where
  abbrev l : Link
  l = (after ours es).link

  -- its reports, by the events taken alone
  made : number_after (taken_of es) e ≡ taken → reports_to ours (taken_of es) e ≡ listed (handled l e).reports
  made q = next_same ours ours_passes es e ∙ reports_taken es e q

  idle_by : (c : Bool) → eqb (number_after (taken_of es) e) taken ≡ c → IdleAt (idle_in ours (taken_of (es ▷ e))) (after ours (es ▷ e)).link.phase
  unfolding idle_in link_after
  idle_by true n =
      let q = eqb-true _ _ n in
      rw (log_taken es e q, link_taken es e q, made q) (event_idle l e (p3min_in ours (taken_of es)) (idle_in ours (taken_of es)) h (in_force es e b))
  idle_by false n = rw (log_refused es e n, link_refused es e (eqb-false _ _ n)) h

-- THE IDLE TIME OF A LINK THAT IS DOWN
pub idle_link : (es : Log) → InBytes es → IdleAt (idle_in ours (taken_of es)) (after ours es).link.phase
unfolding InBytes after taken_of fresh_link idle_in down
idle_link none b = λ _. refl
idle_link (es ▷ e) b = idle_by es e b.0 (idle_link es b.0) (eqb (number_after (taken_of es) e) taken) refl

-- THE IDLE TIME THAT A START IS JUDGED BY
pub asked_link : (es : Log) (e : Event) → InBytes es → number_after (taken_of es) e ≡ taken → Starter e
    → (judging (after ours es).link e).idle ≡ idle_asked ours (taken_of es) e
unfolding idle_asked
asked_link es e b q a =
    judged_idle (after ours es).link e (p3min_in ours (taken_of es)) (idle_in ours (taken_of es)) (idle_link es b) (in_force es e b) a
    ∙ sym (ap (folded (asked_after (p3min_in ours (taken_of es))) (idle_in ours (taken_of es))) (made es e b (idle_link es b) q))
