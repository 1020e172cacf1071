-- The initialization of a history and the link's: the link is in one exactly if the history is. So a byte is outside exactly where neither an
-- initialization nor a session lasts, or where it ended as time passed to the byte; and an initialization is closed exactly by A, W or D that finds it
-- with its window open.
-- Assumes nothing.
use Prim.Native.Nat.{ℕ}
use mathlib.Core.Bool.{Bool, true, false, false≢true}
use mathlib.Core.Path.{◌≡◌, refl, sym, ap, ◌∙◌}
use mathlib.Core.Logic.{◌↔◌, ◌⊎◌, inl, inr}
use native.Mathlib.Omega.{arith}
use borrow.Author.Tests.{eqb-true, eqb-false}
use lib.Dec.{eqb}
use Rattle.base.specs.Numbers.{taken}
use Rattle.base.specs.Reports.{connected_report, failed_report, outside_report, down_report, no_reason, closed, window_over, idle_over}
use Rattle.units.specs.Units.{gap_of}
use Rattle.units.specs.declared.Micros.{Micros}
use Rattle.events.specs.Events.{is_byte}
use Rattle.events.specs.declared.Kind.{Kind}
use Rattle.events.specs.declared.Kind.TheVariants.{Address, WakeUp, Byte, Tick, Drop, Other}
use Rattle.events.specs.declared.Event.{Event}
use Rattle.starts.specs.Starts.{is_over, is_last}
use Rattle.starts.specs.declared.Start.{Start}
use Rattle.phases.specs.Phases.{is_starting, is_connected, down, starting}
use Rattle.phases.specs.declared.State.{State}
use Rattle.phases.specs.declared.State.TheVariants.{Down}
use Rattle.phases.specs.declared.Phase.{Phase}
use Rattle.phases.proofs.StateTests.{else_down, never_starting}
use Rattle.moves.specs.Moves.{since_origin, is_good_low}
use Rattle.reports.specs.declared.Run.{Run}
use Rattle.link.specs.Handling.{fresh_link, begun, handled, link_after}
use Rattle.link.specs.declared.Link.{Link}
use Rattle.demands.specs.Sessions.{SomeSession}
use Rattle.demands.specs.Logs.{Log, none, ◌▷◌, number_after, taken_of, InBytes}
use Rattle.demands.specs.Refusals.{Not}
use Rattle.demands.specs.Histories.{after, reports_to, Says, Tells}
use Rattle.demands.specs.Endings.{Starter, NotIdle, WrongLow, Starting, starts, goes_on}
use Rattle.demands.proofs.Moves.Entering.{In, carried, Open, judges, Leads, begins_slow, begins_fast, grows, waits, has_idled}
use Rattle.demands.proofs.Moves.TimePasses.{Over, Idled, IsDown}
use Rattle.demands.proofs.Moves.Causes.{Closer, no_closer, no_byte, false_of, Fails, runs_out, closes, falls_short, wrong, of_over, of_closed, leads}
use Rattle.demands.proofs.Moves.Causes.{idles_made, over_made, closed_made, outside_made, wrong_made, last_made}
use Rattle.demands.proofs.Moves.Completing.{slow_run, fast_run, wait_run, right_run}
use Rattle.demands.proofs.Connecting.BecomesConnected.{completes_becomes}
use Rattle.demands.proofs.Connecting.ConnectsExactly.{link_taken, link_refused}
use Rattle.demands.proofs.Histories.ReportsMade.{long_of, tells_caused, says_caused, made_at, says_made}
use Rattle.demands.proofs.Sessions.SessionExactly.{session_exactly}
use Rattle.demands.proofs.Endings.DownsExactly.{wrong_low_lem, link_not_idle, link_idle}
use Rattle.demands.specs.Ours.{ours}

no_wake_up : (e : Event) → e.kind ≡ Address → e.kind ≡ WakeUp → ⊥
no_wake_up e a w = let z : ◌≡◌ {A = ℕ} 0 1 = cc in omega arith

-- where the window is open, nothing closes and no byte is wrong, no report 4 has a cause
pub lets_none : (l : Link) (e : Event) → (Closer e → ⊥) → (e.kind ≡ Byte → judges l e l.phase ≡ no_reason) → (Over l.phase l.mark e.start → ⊥) → {k : ℕ}
    → Fails l e k → ⊥
lets_none l e c j n (runs_out o) = n o
lets_none l e c j n (closes i o d) = c d
lets_none l e c j n (falls_short w d g) = c (inl (inr w))
lets_none l e c j n (wrong i o b m) = let z = j b in omega arith

starting_in : (fall : Micros) (s : Start) → In (starting fall s)
unfolding starting is_starting
starting_in fall s = refl

-- ---- after events
module _ (es : Log) (e : Event) (bytes : InBytes es) where
  abbrev here : Link
  here = (after ours es).link

  abbrev next : Phase
  next = (after ours (es ▷ e)).link.phase

  phase_taken : number_after (taken_of es) e ≡ taken → next ≡ (handled here e).phase
  unfolding link_after
  phase_taken n = ap (λ (l : Link). l.phase) (link_taken es e n)

  phase_refused : (number_after (taken_of es) e ≡ taken → ⊥) → next ≡ here.phase
  phase_refused n = ap (λ (l : Link). l.phase) (link_refused es e n)

  -- one that is taken
  module _ (n : number_after (taken_of es) e ≡ taken) where
    no_success : In (handled here e).phase → Says connected_report (reports_to ours es e) → ⊥
    no_success i s = never_starting (handled here e).phase.state (completes_becomes here e (says_caused es e connected_report s).caused.cause).1 i

    starting_taken : (In here.phase → Starting ours es) → In (handled here e).phase → Starting ours (es ▷ e)
    unfolding is_byte
    starting_taken f i = by_way (handled here e).phase (leads here e i)
      where
        -- it goes on
        on : (Closer e → ⊥) → (e.kind ≡ Byte → judges here e here.phase ≡ no_reason) → In here.phase → Open here.phase here.mark e.start
            → Starting ours (es ▷ e)
        on c j q o =
            goes_on (f q) (no_success i) (λ s. lets_none here e c j (λ x. false≢true (sym o ∙ x.1)) (says_caused es e failed_report s).caused.cause)

        by_way : (q : Phase) → Leads here e q → Starting ours (es ▷ e)
        by_way q (begins_slow k d) = starts n (inl k) (λ x. false≢true (sym ((link_not_idle es e bytes n (inl k)).1 x.1) ∙ d)) (λ x. no_wake_up e k x.0)
        by_way q (begins_fast k d g) =
            starts n (inr k) (λ x. false≢true (sym ((link_not_idle es e bytes n (inr k)).1 x.1) ∙ d)) (λ x. false≢true (sym ((wrong_low_lem e).1 x.2) ∙ g))
        by_way q (grows k w o j z) = on (no_closer e Byte refl k) (λ _. j) w o
        by_way q (waits (inl k) w o) = on (no_closer e Tick refl k) (λ b. absurd (no_byte e Tick refl k b)) w o
        by_way q (waits (inr k) w o) = on (no_closer e Other refl k) (λ b. absurd (no_byte e Other refl k b)) w o

    started_taken : Starter e → Not (NotIdle ours (taken_of es) e) → Not (WrongLow ours (taken_of es) e) → In (handled here e).phase
    started_taken s i w = by_kind s
      where
        idle_by : (b : Bool) → has_idled here e ≡ b → has_idled here e ≡ true
        idle_by true q = q
        idle_by false q = absurd (i (s, (link_not_idle es e bytes n s).0 q))

        idle : has_idled here e ≡ true
        idle = idle_by (has_idled here e) refl

        good : e.kind ≡ WakeUp → (b : Bool) → is_good_low e.start e.end ≡ b → is_good_low e.start e.end ≡ true
        good k true q = q
        good k false q = absurd (w (k, (link_idle es e bytes n s).0 idle, (wrong_low_lem e).0 q))

        by_kind : Starter e → In (handled here e).phase
        by_kind (inl k) = carried _ _ (sym (ap (λ (x : Run). x.phase) (slow_run here e k idle))) (starting_in _ _)
        by_kind (inr k) = carried _ _ (sym (ap (λ (x : Run). x.phase) (fast_run here e k idle (good k (is_good_low e.start e.end) refl)))) (starting_in _ _)

    goes_taken : In here.phase → Not (Says connected_report (reports_to ours es e)) → Not (Says failed_report (reports_to ours es e)) → In (handled here e).phase
    unfolding begun
    goes_taken i f g = by_kind e.kind refl
      where
        lasts : Over here.phase here.mark e.start → ⊥
        lasts o = g (says_made es e failed_report window_over n (over_made here e o))

        window : Open here.phase here.mark e.start
        window = false_of (is_over here.phase.start (since_origin here.phase here.mark e.start)) (λ o. lasts (i, o))

        unclosed : Closer e → ⊥
        unclosed c = g (says_made es e failed_report closed n (closed_made here e i lasts c))

        last_by : e.kind ≡ Byte → judges here e here.phase ≡ no_reason → (b : Bool) → is_last here.phase.start.stage ≡ b → In (handled here e).phase
        last_by k x true z = absurd (f (says_made es e connected_report no_reason n (last_made here e k i lasts x z)))
        last_by k x false z = carried _ _ (sym (ap (λ (y : Run). y.phase) (right_run here e i window k x z))) (starting_in _ _)

        right_by : e.kind ≡ Byte → (b : Bool) → eqb (judges here e here.phase) no_reason ≡ b → In (handled here e).phase
        right_by k true z = last_by k (eqb-true (judges here e here.phase) no_reason z) (is_last here.phase.start.stage) refl
        right_by k false z = absurd (g (says_made es e failed_report (judges here e here.phase) n (wrong_made here e k i lasts z)))

        waits_on : (e.kind ≡ Tick) ⊎ (e.kind ≡ Other) → In (handled here e).phase
        waits_on k = carried _ _ (sym (ap (λ (y : Run). y.phase) (wait_run here e i window k))) i

        by_kind : (k : Kind) → e.kind ≡ k → In (handled here e).phase
        by_kind Address k = absurd (unclosed (inl (inl k)))
        by_kind WakeUp k = absurd (unclosed (inl (inr k)))
        by_kind Byte k = right_by k (eqb (judges here e here.phase) no_reason) refl
        by_kind Tick k = waits_on (inl k)
        by_kind Drop k = absurd (unclosed (inr k))
        by_kind Other k = waits_on (inr k)

  -- any
  starting_more : (In here.phase → Starting ours es) → In next → Starting ours (es ▷ e)
  starting_more f i = by_number (eqb (number_after (taken_of es) e) taken) refl
    where
      by_number : (b : Bool) → eqb (number_after (taken_of es) e) taken ≡ b → Starting ours (es ▷ e)
      by_number true n =
          let k = eqb-true (number_after (taken_of es) e) taken n in
          starting_taken k f (carried _ _ (phase_taken k) i)
      by_number false n =
          let k = eqb-false (number_after (taken_of es) e) taken n in
          goes_on (f (carried _ _ (phase_refused k) i)) (λ s. k (says_caused es e connected_report s).caused.number_is)
          (λ s. k (says_caused es e failed_report s).caused.number_is)

  goes_more : In here.phase → Not (Says connected_report (reports_to ours es e)) → Not (Says failed_report (reports_to ours es e)) → In next
  goes_more i f g = by_number (eqb (number_after (taken_of es) e) taken) refl
    where
      by_number : (b : Bool) → eqb (number_after (taken_of es) e) taken ≡ b → In next
      by_number true n =
          let k = eqb-true (number_after (taken_of es) e) taken n in
          carried _ _ (sym (phase_taken k)) (goes_taken k i f g)
      by_number false n = carried _ _ (sym (phase_refused (eqb-false (number_after (taken_of es) e) taken n))) i

fresh_out : In (after ours none).link.phase → ⊥
unfolding after fresh_link down is_starting
fresh_out i = false≢true i

starting_of : (es : Log) → InBytes es → In (after ours es).link.phase → Starting ours es
unfolding InBytes
starting_of none b i = absurd (fresh_out i)
starting_of (es ▷ e) b i = starting_more es e b.0 (λ j. starting_of es b.0 j) i

of_starting : {es : Log} → InBytes es → Starting ours es → In (after ours es).link.phase
unfolding InBytes
of_starting b (starts {es = es} {e = e} n s i w) = carried _ _ (sym (phase_taken es e b.0 n)) (started_taken es e b.0 n s i w)
of_starting b (goes_on {es = es} {e = e} s f g) = goes_more es e b.0 (of_starting b.0 s) f g

-- IN AN INITIALIZATION
pub starting_exactly : (es : Log) → InBytes es → (is_starting (after ours es).link.phase.state ≡ true) ↔ Starting ours es
starting_exactly es b = (λ i. starting_of es b i, λ s. of_starting b s)

-- ---- neither in a session nor in an initialization
down_off : (st : State) → st ≡ Down → (is_connected st ≡ false) × (is_starting st ≡ false)
unfolding is_connected is_starting
down_off st q = (ap is_connected q, ap is_starting q)

down_exactly : (es : Log) → InBytes es → ((after ours es).link.phase.state ≡ Down) ↔ (Not (SomeSession ours es) × Not (Starting ours es))
down_exactly es b =
    let st = (after ours es).link.phase.state in (
      λ d.
          let x = down_off st d in
          (λ s. false≢true (sym x.0 ∙ (session_exactly es b).1 s), λ s. false≢true (sym x.1 ∙ (starting_exactly es b).1 s)),
      λ x. else_down st (false_of (is_connected st) (λ c. x.0 ((session_exactly es b).0 c))) (false_of (is_starting st) (λ c. x.1 ((starting_exactly es b).0 c))),
    )

-- ---- the present window's end passed, and P3 max passed, as the event's reports say it
module _ (es : Log) (e : Event) where
  abbrev l : Link
  l = (after ours es).link

  pub over_told : Tells failed_report window_over (reports_to ours es e) → Over l.phase l.mark e.start
  over_told t = of_over l e (tells_caused es e failed_report window_over t).cause refl

  idle_told : Tells down_report idle_over (reports_to ours es e) → Idled l.phase (gap_of l.mark e.start)
  idle_told t = (tells_caused es e down_report idle_over t).cause.1

  -- down, as the history says it
  abbrev Gone : Type 0
  Gone =
      (Not (SomeSession ours es) × Not (Starting ours es))
      ⊎ Tells failed_report window_over (reports_to ours es e)
      ⊎ Tells down_report idle_over (reports_to ours es e)

  gone_of : InBytes es → number_after (taken_of es) e ≡ taken → IsDown l.mark e l.phase → Gone
  gone_of b n (inl d) = inl ((down_exactly es b).0 d)
  gone_of b n (inr (inl o)) = inr (inl (made_at es e failed_report window_over n (over_made l e o)))
  gone_of b n (inr (inr i)) = inr (inr (made_at es e down_report idle_over n (idles_made l e (long_of es) i)))

  of_gone : InBytes es → Gone → IsDown l.mark e l.phase
  of_gone b (inl d) = inl ((down_exactly es b).1 d)
  of_gone b (inr (inl t)) = inr (inl (over_told t))
  of_gone b (inr (inr t)) = inr (inr (idle_told t))

-- OUTSIDE
pub outside_exactly : (es : Log) (e : Event) → InBytes es
    → Says outside_report (reports_to ours es e)
    ↔ ((number_after (taken_of es) e ≡ taken)
    × (e.kind ≡ Byte)
    × ((Not (SomeSession ours es) × Not (Starting ours es))
    ⊎ Tells failed_report window_over (reports_to ours es e)
    ⊎ Tells down_report idle_over (reports_to ours es e)))
outside_exactly es e b = (
  λ s.
      let x = (says_caused es e outside_report s).caused in
      (x.number_is, x.cause.1, gone_of es e b x.number_is x.cause.0),
  λ x. says_made es e outside_report no_reason x.0 (outside_made (l es e) e (long_of es) (of_gone es e b x.2) x.1),
)

-- CLOSED
pub closed_start_exactly : (es : Log) (e : Event) → InBytes es
    → Tells failed_report closed (reports_to ours es e)
    ↔ ((number_after (taken_of es) e ≡ taken) × Starting ours es × (Starter e ⊎ (e.kind ≡ Drop)) × Not (Tells failed_report window_over (reports_to ours es e)))
closed_start_exactly es e b = (
  λ t.
      let x = tells_caused es e failed_report closed t in
      let c = of_closed (l es e) e x.cause refl in
      (x.number_is, (starting_exactly es b).0 c.0, c.2, λ o. c.1 (over_told es e o)),
  λ x.
      made_at es e failed_report closed x.0
      (closed_made (l es e) e ((starting_exactly es b).1 x.1) (λ o. x.3 (made_at es e failed_report window_over x.0 (over_made (l es e) e o))) x.2),
)
