-- THE IDLE TIME, RULE BY RULE, on any link that has P3 min p3 in force. While a link is down it has the idle time that its reports so far have left (`IdleAt`): so it is
-- at each moment of an event (`idle_rule`); up to a start no report is one of a wrong low (`early_rule`). A stop is answered by a frame that changes no window, so
-- that P3 min is then still the one from before the event.
-- Assumes nothing.
use Prim.Native.Nat.{ℕ}
use mathlib.Core.Bool.{Bool, true, false, ◌&&◌, false≢true}
use mathlib.Core.Logic.{inr}
use mathlib.Core.Path.{◌≡◌, refl, sym, ap, ◌∙◌}
use lib.Dec.{eqb}
use Rattle.std.specs.Prelude.{if◌then◌else◌}
use Rattle.base.specs.Reports.{failed_report, down_report, wrong_low, dropped, no_reason}
use Rattle.base.proofs.Tests.{by_test}
use Rattle.units.specs.declared.Micros.{Micros}
use Rattle.timing.specs.Timing.{idle_at_power_on}
use Rattle.timing.specs.declared.Windows.{Windows}
use Rattle.keys.specs.declared.Pair.{Pair}
use Rattle.events.specs.Events.{is_tester}
use Rattle.events.specs.declared.Kind.{Kind}
use Rattle.events.specs.declared.Kind.TheVariants.{Address, WakeUp, Byte, Tick, Drop, Other}
use Rattle.events.specs.declared.Event.{Event}
use Rattle.talk.specs.Talk.{is_effective, windows_for, windows_after, spent, request_after, is_stopped, end_reason}
use Rattle.talk.specs.declared.Request.{Request}
use Rattle.talk.specs.declared.Request.TheVariants.{Ordinary, Stop, OwnTiming, NewTiming, Stopped}
use Rattle.talk.specs.declared.Message.{Message}
use Rattle.phases.specs.Phases.{is_down, is_starting, is_quiet, is_open, is_connected, down, starting, connected, talking, holding, damaged, settled, timed}
use Rattle.phases.specs.Phases.{asked, answered, framed}
use Rattle.phases.specs.declared.State.{State}
use Rattle.phases.specs.declared.State.TheVariants.{Down, Starting, Quiet, Held, Damage}
use Rattle.phases.specs.declared.Phase.{Phase}
use Rattle.phases.proofs.StateTests.{open_connected}
use Rattle.moves.specs.declared.Move.{Move}
use Rattle.moves.proofs.Rules.{Moment, at_silence, at_p2, at_p3, at_window, at_closing, at_leaving, at_start, at_cut, at_hearing, at_byte, at_stop, at_end_lem, next}
use Rattle.moves.proofs.Rules.{Closes, by_drop, by_address, by_wake_up, reason_of, Rule, rests, ends_right, breaks_off, waited, idled, expires, cuts_off, aborts, leaves, drops}
use Rattle.moves.proofs.Rules.{starts_slow, starts_fast, hurries, low, cut_right, cut_wrong, cut_held, strays, misses, connects, goes_on, opens, errs, breaks, frames, grows, stops}
use Rattle.link.proofs.CarLinks.{Fitting, rule_fitting}
use Rattle.demands.proofs.Histories.CarsFit.{framed_windows, right_asks}
use Rattle.reports.specs.Reporting.{report_of}
use Rattle.reports.specs.declared.Run.{Run}
use Rattle.link.proofs.Walk.{Reached, BeforeStart}
use Rattle.demands.specs.Endings.{Starter}
use Rattle.demands.specs.Idle.{idle_after, is_drop}
use Rattle.demands.proofs.Moves.Causes.{no_closer, drop_starts}

-- while it is down, a link has this idle time
abbrev pub IdleAt : Micros → Phase → Type 0
IdleAt s p = is_down p.state ≡ true → p.idle ≡ s

kind_drops : (k : Kind) → (k ≡ Drop → ⊥) → is_drop k ≡ false
unfolding is_drop
kind_drops Address n = refl
kind_drops WakeUp n = refl
kind_drops Byte n = refl
kind_drops Tick n = refl
kind_drops Drop n = absurd (n refl)
kind_drops Other n = refl

-- a frame that leaves the link stopped leaves its windows
stop_keeps : (q : Request) (m : Message) (pair : Pair) (seven : ℕ) (w : Windows) → is_stopped (request_after q m) ≡ true → windows_after q m pair seven w ≡ w
unfolding request_after windows_after windows_for spent is_stopped is_effective
stop_keeps Ordinary m pair seven w s = refl
stop_keeps Stop m pair seven w s = by_test (λ (x : Windows). x ≡ w) (is_effective Stop m) (λ _. refl) (λ _. refl)
stop_keeps OwnTiming m pair seven w s =
    by_test (λ (q : Request). is_stopped q ≡ true → windows_after OwnTiming m pair seven w ≡ w) (is_effective OwnTiming m) {x = Ordinary} {y = OwnTiming}
    (λ _ z. absurd (false≢true z)) (λ _ z. absurd (false≢true z)) s
stop_keeps NewTiming m pair seven w s =
    by_test (λ (q : Request). is_stopped q ≡ true → windows_after NewTiming m pair seven w ≡ w) (is_effective NewTiming m) {x = Ordinary} {y = NewTiming}
    (λ _ z. absurd (false≢true z)) (λ _ z. absurd (false≢true z)) s
stop_keeps Stopped m pair seven w s = refl

module _ (mark : Micros) (e : Event) (p3 : Micros) where
  -- P3 min in force, of a link on which a car's frames change nothing
  abbrev pub Force : Phase → Type 0
  Force p = (is_connected p.state ≡ true → p.windows.p3min ≡ p3) × Fitting p

  -- WHAT HOLDS AT EACH MOMENT of an event, of the phase that the link has come to and the idle time that the reports so far have left
  abbrev pub At : Moment → Phase → Micros → Type 0
  At at_silence p s = IdleAt s p × Force p
  At at_p2 p s = IdleAt s p × Force p
  At at_p3 p s = IdleAt s p × Force p
  At at_window p s = IdleAt s p × Force p
  At at_closing p s = IdleAt s p × Force p
  At at_leaving p s = IdleAt s p × (is_open p.state ≡ false) × (is_starting p.state ≡ false)
  At at_start p s = (Starter e → (is_down p.state ≡ true) × (p.idle ≡ s)) × (e.kind ≡ Drop → IdleAt idle_at_power_on p)
  At at_cut p s = IdleAt s p × Force p
  At at_hearing p s = IdleAt s p × Force p
  At at_byte p s = IdleAt s p × Force p
  At at_stop p s = IdleAt s p × (is_stopped p.request ≡ true → p.windows.p3min ≡ p3)
  At at_end_lem p s = IdleAt (if is_drop e.kind then idle_at_power_on else s) p

  -- what a move's report leaves
  abbrev pub left_by : Run → Move → Micros → Micros
  left_by r m s = idle_after p3 s (report_of r m.number m.reason)

  abbrev pub is_low : Move → Bool
  is_low m = eqb m.number failed_report && eqb m.reason wrong_low

  abbrev Keeps : Moment → Type 0
  Keeps k = (r : Run) (m : Move) (s : Micros) → Rule mark e r.phase k m → At k r.phase s → At (next k) m.phase (left_by r m s)

  -- ---- up to a start: none of these reports is one of a wrong low
  abbrev KeepsEarly : Moment → Type 0
  KeepsEarly k = (r : Run) (m : Move) (s : Micros) → Rule mark e r.phase k m → At k r.phase s
      → At (next k) m.phase (left_by r m s) × (is_low m ≡ false)

  framed_up : (p : Phase) → is_down (framed p).state ≡ false
  unfolding framed asked answered timed talking is_down
  framed_up p = by_test (λ (q : Phase). is_down q.state ≡ false) (is_tester p.message.side) {x = asked p} {y = answered p} (λ _. refl) (λ _. refl)

  -- a car's frame leaves the windows
  framed_at : {s : Micros} (r : Run) → r.phase.state ≡ Held → eqb (end_reason r.phase.message) no_reason ≡ true → Force r.phase → Fitting (framed r.phase)
      → IdleAt s (framed r.phase) × Force (framed r.phase)
  unfolding is_connected
  framed_at r h w f g =
      let p = r.phase in
      let q = (right_asks p f.1 w).1 in
      (λ d. absurd (false≢true (sym (framed_up p) ∙ d)), (λ _. ap (λ (v : Windows). v.p3min) (framed_windows p q) ∙ f.0 (ap is_connected h), g))

  silence_rule : KeepsEarly at_silence
  unfolding next idle_after report_of settled talking is_down
  silence_rule r m s (rests u) i = (i, refl)
  silence_rule r m s (ends_right h x w) i = (framed_at r h w i.1 (rule_fitting mark e r.phase at_silence m (ends_right h x w) i.1.1), refl)
  silence_rule r m s (breaks_off o x w) i =
      ((λ d. absurd (false≢true d), (λ _. i.1.0 (open_connected r.phase.state o), rule_fitting mark e r.phase at_silence m (breaks_off o x w) i.1.1)), refl)

  p2_rule : KeepsEarly at_p2
  unfolding next idle_after report_of settled talking is_down is_connected
  p2_rule r m s (rests u) i = (i, refl)
  p2_rule r m s (waited q f x) i =
      ((λ d. absurd (false≢true d), (λ _. i.1.0 (ap is_connected q), rule_fitting mark e r.phase at_p2 m (waited q f x) i.1.1)), refl)

  p3_rule : KeepsEarly at_p3
  unfolding next idle_after report_of down is_connected
  p3_rule r m s (rests u) i = (i, refl)
  p3_rule r m s (idled q f x) i = ((λ d. refl, (λ c. absurd (false≢true c), rule_fitting mark e r.phase at_p3 m (idled q f x) i.1.1)), refl)

  window_rule : KeepsEarly at_window
  unfolding next idle_after report_of down is_connected
  window_rule r m s (rests u) i = (i, refl)
  window_rule r m s (expires x o) i = ((λ d. refl, (λ c. absurd (false≢true c), rule_fitting mark e r.phase at_window m (expires x o) i.1.1)), refl)

  closing_rule : KeepsEarly at_closing
  unfolding next idle_after report_of settled talking down is_down is_open is_starting
  closing_rule r m s (rests u) i = ((i.0, u.0, u.1), refl)
  closing_rule r m s (cuts_off o) i = ((λ d. absurd (false≢true d), refl, refl), refl)
  closing_rule r m s (aborts x) i = ((λ d. refl, refl, refl), refl)

  -- with nothing open, neither in an initialization nor connected
  is_off : (st : State) → is_open st ≡ false → is_starting st ≡ false → is_quiet st ≡ false → is_down st ≡ true
  unfolding is_open is_starting is_quiet is_down
  is_off Down o x q = refl
  is_off Starting o x q = absurd (false≢true (sym x))
  is_off Quiet o x q = absurd (false≢true (sym q))
  is_off Held o x q = absurd (false≢true (sym o))
  is_off Damage o x q = absurd (false≢true (sym o))

  drop_moves : (b : Bool) → (b && eqb (reason_of e.kind) dropped) ≡ false → e.kind ≡ Drop → b ≡ true → ⊥
  drop_moves true u k d = false≢true (sym u ∙ ap (λ x. eqb (reason_of x) dropped) k)
  drop_moves false u k d = false≢true d

  closes_left : (r : Run) (s : Micros) {reason : ℕ} → Closes e reason → idle_at_power_on ≡ idle_after p3 s (report_of r down_report reason)
  unfolding idle_after report_of
  closes_left r s (by_drop k) = refl
  closes_left r s (by_address k) = refl
  closes_left r s (by_wake_up k) = refl

  leaving_rule : KeepsEarly at_leaving
  unfolding next idle_after report_of down is_down
  leaving_rule r m s (rests u) i =
      let d = is_off r.phase.state i.1 i.2 u.0 in
      ((λ _. (d, i.0 d), λ k x. absurd (drop_moves (is_down r.phase.state) u.1 k x)), refl)
  leaving_rule r m s (leaves c q) i = ((λ _. (refl, closes_left r s c), λ _ _. refl), refl)
  leaving_rule r m s (drops d k) i = ((λ a. absurd (drop_starts e k a), λ _ _. refl), refl)

  pub early_rule : (k : Moment) → BeforeStart k → KeepsEarly k
  early_rule at_silence a = silence_rule
  early_rule at_p2 a = p2_rule
  early_rule at_p3 a = p3_rule
  early_rule at_window a = window_rule
  early_rule at_closing a = closing_rule
  early_rule at_leaving a = leaving_rule
  early_rule at_start a = absurd a
  early_rule at_cut a = absurd a
  early_rule at_hearing a = absurd a
  early_rule at_byte a = absurd a
  early_rule at_stop a = absurd a
  early_rule at_end_lem a = absurd a

  -- ---- a start
  abbrev KeepsLast : Moment → Type 0
  KeepsLast k = (r : Run) (m : Move) (s : Micros) → Rule mark e r.phase k m → At k r.phase s → IdleAt (left_by r m s) m.phase

  start_rule : KeepsLast at_start
  unfolding idle_after report_of starting down is_down
  start_rule r m s (rests u) i = absurd u
  start_rule r m s (starts_slow k x) i = λ d. absurd (false≢true d)
  start_rule r m s (starts_fast k x g) i = λ d. absurd (false≢true d)
  start_rule r m s (hurries a x) i = λ _. (i.0 a).1
  start_rule r m s (low k x g) i = λ _. refl

  -- ---- a byte, and a stop
  framed_stops : (p : Phase) → (is_connected p.state ≡ true → p.windows.p3min ≡ p3) → is_connected p.state ≡ true → is_stopped (framed p).request ≡ true → (framed p).windows.p3min ≡ p3
  unfolding framed asked answered timed talking
  framed_stops p f c =
      by_test (λ (q : Phase). is_stopped q.request ≡ true → q.windows.p3min ≡ p3) (is_tester p.message.side) {x = asked p} {y = answered p} (λ _ _. f c)
      (λ _ s. ap (λ (w : Windows). w.p3min) (stop_keeps p.request p.message p.start.pair p.asked p.windows s) ∙ f c)

  byte_rule : Keeps at_byte
  unfolding next idle_after report_of down starting connected holding damaged talking is_down is_connected is_stopped
  byte_rule r m s (rests d) i = (i.0, λ _. i.1.0 (ap is_connected d))
  byte_rule r m s (strays d) i = (λ _. i.0 (ap is_down d), λ x. absurd (false≢true x))
  byte_rule r m s (misses x v) i = (λ _. refl, λ x. absurd (false≢true x))
  byte_rule r m s (connects x v z) i = (λ d. absurd (false≢true d), λ x. absurd (false≢true x))
  byte_rule r m s (goes_on x v z) i = (λ d. absurd (false≢true d), λ x. absurd (false≢true x))
  byte_rule r m s (opens q x) i = (λ d. absurd (false≢true d), λ _. i.1.0 (ap is_connected q))
  byte_rule r m s (errs q x) i = (λ d. absurd (false≢true d), λ _. i.1.0 (ap is_connected q))
  byte_rule r m s (breaks h x) i = (λ d. absurd (false≢true d), λ _. i.1.0 (ap is_connected h))
  byte_rule r m s (grows h x z) i = (λ d. absurd (false≢true d), λ _. i.1.0 (ap is_connected h))
  byte_rule r m s (frames h x z) i = (λ d. absurd (false≢true (sym (framed_up r.phase) ∙ d)), framed_stops r.phase i.1.0 (ap is_connected h))

  cut_rule : Keeps at_cut
  unfolding next idle_after report_of settled talking is_down is_connected
  cut_rule r m s (rests u) i = i
  cut_rule r m s (cut_right c w) i =
      framed_at r (cut_held mark e r.phase c) w i.1 (rule_fitting mark e r.phase at_cut m (cut_right c w) i.1.1)
  cut_rule r m s (cut_wrong c w) i =
      (λ d. absurd (false≢true d), (λ _. i.1.0 (ap is_connected (cut_held mark e r.phase c)), rule_fitting mark e r.phase at_cut m (cut_wrong c w) i.1.1))

  stop_rule : KeepsLast at_stop
  unfolding idle_after report_of down
  stop_rule r m s (rests u) i = i.0
  stop_rule r m s (stops q x) i = λ _. i.1 x

  -- ---- EACH RULE, at its moment
  pub undropped : (p : Phase) (s : Micros) → (e.kind ≡ Drop → ⊥) → IdleAt s p → At at_end_lem p s
  undropped p s n i = rw (kind_drops e.kind n) i

  pub idle_rule : (k : Moment) → Reached e k → Keeps k
  unfolding next
  idle_rule at_silence w r m s u i = (silence_rule r m s u i).0
  idle_rule at_p2 w r m s u i = (p2_rule r m s u i).0
  idle_rule at_p3 w r m s u i = (p3_rule r m s u i).0
  idle_rule at_window w r m s u i = (window_rule r m s u i).0
  idle_rule at_closing w r m s u i = (closing_rule r m s u i).0
  idle_rule at_leaving w r m s u i = (leaving_rule r m s u i).0
  idle_rule at_start w r m s u i = undropped m.phase (left_by r m s) (λ d. drop_starts e d w) (start_rule r m s u i)
  idle_rule at_cut w r m s u i = cut_rule r m s u i
  idle_rule at_hearing w r m s (rests u) i = absurd u
  idle_rule at_byte w r m s u i = byte_rule r m s u i
  idle_rule at_stop w r m s u i = undropped m.phase (left_by r m s) (λ d. no_closer e Byte refl w (inr d)) (stop_rule r m s u i)
  idle_rule at_end_lem w r m s (rests u) i = absurd u
