-- An initialization under way fails exactly as document 01 says: by its window's end, by the side, the start and the value of a byte, in that order; a
-- byte that is right lets it go on, and the last one connects. For the link is at the stage that the start and the bytes after it lead to, and the place
-- that is due is the one that this stage means. Outside of one, a report 4 is of a wrong low only.
-- Assumes nothing.
use Prim.Native.Nat.{ℕ, ◌≤◌, ◌<◌}
use mathlib.Core.Bool.{Bool, true, false, not, false≢true}
use mathlib.Core.Path.{◌≡◌, ◌∙◌, refl, sym, ap, ap₂, subst}
use mathlib.Core.Logic.{◌↔◌, inl, inr, ⊎_elim}
use native.Mathlib.Omega.{arith}
use lib.Dec.{eqb}
use borrow.Author.Tests.{ltb-true, lt-ltb, ne_eqb}
use Rattle.std.specs.Prelude.{if◌then◌else◌}
use Rattle.base.specs.Numbers.{taken}
use Rattle.base.specs.Reports.{connected_report, failed_report, no_reason, window_over, wrong_low, wrong_side, too_early, misfit}
use Rattle.base.proofs.Tests.{by_test}
use Rattle.units.specs.Units.{gap_of}
use Rattle.units.specs.declared.Micros.{Micros}
use Rattle.events.specs.Events.{is_byte, same_side}
use Rattle.events.specs.declared.Kind.{Kind}
use Rattle.events.specs.declared.Kind.TheVariants.{Address, WakeUp, Byte, Tick, Drop, Other}
use Rattle.events.specs.declared.Event.{Event}
use Rattle.starts.specs.Starts.{due_at, origin_of, fits, is_from, is_early, judged, is_over, after_format, onward_at, onward, is_last, slow_start, fast_start}
use Rattle.starts.specs.declared.Stage.{Stage}
use Rattle.starts.specs.declared.Stage.TheVariants.{Sync, FirstKey, SecondKey, KeyBack, AddressBack}
use Rattle.starts.specs.declared.Stage.TheVariants.{AskFormat, AskTarget, AskSource, AskService, AskSum}
use Rattle.starts.specs.declared.Stage.TheVariants.{Format, Target, Source, LongTarget, LongSource, Length, Service, KeyOne, KeyTwo, Sum}
use Rattle.starts.specs.declared.Start.{Start}
use Rattle.phases.specs.Phases.{starting}
use Rattle.phases.specs.declared.Phase.{Phase}
use Rattle.moves.specs.Moves.{since_origin}
use Rattle.link.specs.Telling.{handled_tells}
use Rattle.link.specs.declared.Link.{Link}
use Rattle.demands.specs.Logs.{Log, none, ◌▷◌, number_after, taken_of, events_of, InBytes}
use Rattle.demands.specs.Refusals.{Not}
use Rattle.demands.specs.Histories.{after, reports_to, is_among, Says, Tells}
use Rattle.demands.specs.Connecting.{Since, here, tick, byte}
use Rattle.demands.specs.Endings.{Starter, Starting, goes_on}
use Rattle.demands.specs.Starts.{is_address, due, due_from}
use Rattle.demands.specs.Failing.{UnderWay, due_now, from, WindowOver, SideDue, TooEarly, ValueFits, AllRight, ends_here, ByteInTime, Fails}
use Rattle.demands.proofs.Histories.Basics.{basics}
use Rattle.demands.proofs.Moves.Entering.{In, judges}
use Rattle.demands.proofs.Moves.Completing.{completes_says}
use Rattle.demands.proofs.Connecting.Judging.{judged_by, side_is, is_side}
use Rattle.demands.proofs.Connecting.Waking.{good_low}
use Rattle.demands.proofs.Connecting.Staged.{Means, means}
use Rattle.demands.proofs.Connecting.SlowStart.{slow_place}
use Rattle.demands.proofs.Connecting.FastStart.{fast_place}
use Rattle.demands.proofs.Connecting.ConnectsExactly.{behind, inv_of, reports_taken}
use Rattle.demands.proofs.Moves.TimePasses.{Over}
use Rattle.demands.proofs.Moves.Causes.{is_closer, no_closer, no_byte, false_of, runs_out, closes, falls_short, wrong, over_made, wrong_made}
use Rattle.demands.proofs.Moves.Causes.{Fails as FailsBy}
use Rattle.demands.proofs.Histories.ReportsMade.{tells_caused, says_caused, made_at}
use Rattle.demands.proofs.Endings.StartingExactly.{lets_none, starting_exactly, over_told}
use Rattle.demands.proofs.Connecting.Running.{first_by, fall_by, start_on, phase_on, last_end, Starts, own_until, Runs, runs_starts, runs_mark, since_mark}
use Rattle.demands.specs.Ours.{ours}

-- ---- a log has no two initializations under way
pub data Same (a : Event) (before bs : Log) : Event → Log → Log → Type 0 where
  same_way : Same a before bs a before bs

more_same : {a c : Event} {before earlier bs cs : Log} (e : Event) → Same a before bs c earlier cs → Same a before (bs ▷ e) c earlier (cs ▷ e)
more_same e same_way = same_way

pub since_only : {a c : Event} {before earlier log bs cs : Log} → Starter a → Starter c → Since a before log bs → Since c earlier log cs → Same a before bs c earlier cs
unfolding is_byte
since_only s t here here = same_way
since_only {a = a} s t here (tick k w) = absurd (no_closer a Tick refl k (inl s))
since_only {a = a} s t here (byte k w) = absurd (no_closer a Byte refl k (inl s))
since_only {c = c} s t (tick j v) here = absurd (no_closer c Tick refl j (inl t))
since_only s t (tick j v) (tick k w) = since_only s t v w
since_only s t (tick {e = e} j v) (byte k w) = absurd (no_byte e Tick refl j k)
since_only {c = c} s t (byte j v) here = absurd (no_closer c Byte refl j (inl t))
since_only s t (byte {e = e} j v) (tick k w) = absurd (no_byte e Tick refl k j)
since_only s t (byte {e = e} j v) (byte k w) = more_same e (since_only s t v w)

-- ---- what is due next, as the link's phase has it: the place that its stage means, ..
due_at_lem : (m : ℕ) (a : Event) (bs : Log) → Starter a → Runs m a bs → Means (start_on a bs) (due a (events_of bs))
due_at_lem m a bs s r =
    subst (Means (start_on a bs)) (sym (⊎_elim (λ k. slow_place m a bs k r) (λ k. fast_place m a bs k r) s)) (means (start_on a bs))

-- .. timed from the fall or the end of the byte before: no byte leads to the tester's first one
after_format_lem : (v : ℕ) → (due_at (after_format v)).opening ≡ false
unfolding after_format due_at
after_format_lem v =
    by_test (λ (x : Stage). (due_at x).opening ≡ false) (eqb v 0x83) {x = Target} (λ _. refl)
    (λ _. by_test (λ (x : Stage). (due_at x).opening ≡ false) (eqb v 0x80) {x = LongTarget} (λ _. refl)
    (λ _. by_test (λ (x : Stage). (due_at x).opening ≡ false) (eqb v 0x00) {x = Length} {y = Service} (λ _. refl) (λ _. refl)))

opens_none : (stage : Stage) (s : Start) (v : ℕ) → (due_at (onward_at stage s v).stage).opening ≡ false
unfolding due_at
opens_none Sync s v = refl
opens_none FirstKey s v = refl
opens_none SecondKey s v = refl
opens_none KeyBack s v = refl
opens_none AddressBack s v = refl
opens_none AskFormat s v = refl
opens_none AskTarget s v = refl
opens_none AskSource s v = refl
opens_none AskService s v = refl
opens_none AskSum s v = refl
opens_none Format s v = after_format_lem v
opens_none Target s v = refl
opens_none Source s v = refl
opens_none LongTarget s v = refl
opens_none LongSource s v = refl
opens_none Length s v = refl
opens_none Service s v = refl
opens_none KeyOne s v = refl
opens_none KeyTwo s v = refl
opens_none Sum s v = refl

from_same : (a : Event) (bs : Log) → Starter a → origin_of (start_on a bs).stage (fall_by a.kind a.start) (last_end a bs) ≡ due_from a bs
unfolding origin_of start_on due_from is_address slow_start fast_start due_at onward
from_same a none (inl k) =
    ap (λ (x : Kind). origin_of (first_by x a.value).stage (fall_by x a.start) a.end) k ∙ sym (ap (λ (x : Kind). if is_address x then a.end else a.start) k)
from_same a none (inr k) =
    ap (λ (x : Kind). origin_of (first_by x a.value).stage (fall_by x a.start) a.end) k ∙ sym (ap (λ (x : Kind). if is_address x then a.end else a.start) k)
from_same a (bs ▷ b) s = rw (opens_none (start_on a bs).stage (start_on a bs) b.value) refl

-- a wake-up falls before it rises
starts_first : (k : Kind) (m : ℕ) (a : Event) → a.kind ≡ k → Starts k m a → (due_from a none).0 ≤ a.end.0
unfolding due_from is_address
starts_first Address m a k s = omega (arith, ap (λ (x : Kind). (if is_address x then a.end else a.start).0) k)
starts_first WakeUp m a k s = omega (arith, ap (λ (x : Kind). (if is_address x then a.end else a.start).0) k, ((good_low a).0 s.1).0)
starts_first Byte m a k s = absurd s
starts_first Tick m a k s = absurd s
starts_first Drop m a k s = absurd s
starts_first Other m a k s = absurd s

from_first : (m : ℕ) (a : Event) (bs : Log) → Runs m a bs → (due_from a bs).0 ≤ (last_end a bs).0
unfolding due_from
from_first m a none r = starts_first a.kind m a refl r
from_first m a (bs ▷ b) r = omega arith

starter_by : (k : Kind) (m : ℕ) (a : Event) → a.kind ≡ k → Starts k m a → Starter a
starter_by Address m a k s = inl k
starter_by WakeUp m a k s = inr k
starter_by Byte m a k s = absurd s
starter_by Tick m a k s = absurd s
starter_by Drop m a k s = absurd s
starter_by Other m a k s = absurd s

starter_of : (m : ℕ) (a : Event) (bs : Log) → Runs m a bs → Starter a
starter_of m a bs r = starter_by a.kind m a refl (runs_starts m a bs r)

-- ---- the tests of a byte, one by one
abbrev verdict : Bool → Bool → Bool → ℕ
verdict a b c = if not a then wrong_side else if b then too_early else if c then no_reason else misfit

verdict_side : (a b c : Bool) → verdict a b c ≡ wrong_side → a ≡ false
verdict_side false b c q = refl
verdict_side true true c q = absurd (omega arith)
verdict_side true false true q = absurd (omega arith)
verdict_side true false false q = absurd (omega arith)

verdict_early : (a b c : Bool) → verdict a b c ≡ too_early → (a ≡ true) × (b ≡ true)
verdict_early false b c q = absurd (omega arith)
verdict_early true true c q = (refl, refl)
verdict_early true false true q = absurd (omega arith)
verdict_early true false false q = absurd (omega arith)

verdict_value : (a b c : Bool) → verdict a b c ≡ misfit → (a ≡ true) × (b ≡ false) × (c ≡ false)
verdict_value false b c q = absurd (omega arith)
verdict_value true true c q = absurd (omega arith)
verdict_value true false true q = absurd (omega arith)
verdict_value true false false q = (refl, refl, refl)

-- the cause of a report 4 whose reason is above that of a wrong low
wrong_by : (l : Link) (e : Event) {k : ℕ} → FailsBy l e k → wrong_low < k
    → (Over l.phase l.mark e.start → ⊥) × (e.kind ≡ Byte) × (judges l e l.phase ≡ k)
wrong_by l e (runs_out o) h = absurd (omega arith)
wrong_by l e (closes i o c) h = absurd (omega arith)
wrong_by l e (falls_short w i g) h = absurd (omega arith)
wrong_by l e (wrong i o b m) h = (o, b, refl)

-- ---- where the link is: at what the start and the bytes have come to
pub under_way : (es : Log) → InBytes es → Starting ours es → UnderWay (taken_of es)
under_way es b s =
    let g = (inv_of es).forth ((starting_exactly es b).1 s) in
    record { start = g.start; before = g.before; bytes = g.bytes; starter = starter_of (own_until g.before g.start) g.start g.bytes g.runs; since = g.since }

runs_same : {a c : Event} {before earlier bs cs : Log} {p : Phase} → Same a before bs c earlier cs → Runs (own_until before a) a bs → p ≡ phase_on a bs
    → Runs (own_until earlier c) c cs × (p ≡ phase_on c cs)
runs_same same_way r q = (r, q)

module _ (es : Log) (in_bytes : InBytes es) (s : Starting ours es) (u : UnderWay (taken_of es)) where
  abbrev l : Link
  l = (after ours es).link

  inside : In l.phase
  inside = (starting_exactly es in_bytes).1 s

  runs_at : Runs (own_until u.before u.start) u.start u.bytes × (l.phase ≡ phase_on u.start u.bytes)
  runs_at =
      let g = (inv_of es).forth inside in
      runs_same (since_only (starter_of (own_until g.before g.start) g.start g.bytes g.runs) u.starter g.since u.since) g.runs g.phase

  mark_at : l.mark ≡ last_end u.start u.bytes
  mark_at = (basics es).mark ∙ since_mark (runs_mark (own_until u.before u.start) u.start u.bytes runs_at.0) u.since

  abbrev so_far : Start
  so_far = start_on u.start u.bytes

  start_at : l.phase.start ≡ so_far
  unfolding starting
  start_at = ap (λ (p : Phase). p.start) runs_at.1

  due_now_lem : Means so_far (due_now u)
  due_now_lem = due_at_lem (own_until u.before u.start) u.start u.bytes u.starter runs_at.0

  module _ (e : Event) where
    abbrev gap : Micros
    gap = gap_of (from u) e.start

    gap_at : since_origin l.phase l.mark e.start ≡ gap
    unfolding starting since_origin
    gap_at =
        ap₂ (λ (p : Phase) (m : Micros). since_origin p m e.start) runs_at.1 mark_at
        ∙ ap (λ (x : Micros). gap_of x e.start) (from_same u.start u.bytes u.starter)

    over_at : (is_over l.phase.start (since_origin l.phase l.mark e.start) ≡ true) ↔ WindowOver u e
    unfolding is_over
    over_at =
        let q = ap₂ is_over start_at gap_at in
        let late = (due_at so_far.stage).latest.0 in
        let d = due_now_lem.latest in (
          λ o. let h = ltb-true late gap.0 (sym q ∙ o) in omega arith,
          λ o. q ∙ lt-ltb late gap.0 (omega (arith, o)),
        )

    judged_at : judges l e l.phase ≡ judged so_far e.side e.value gap
    judged_at = ap₂ (λ (x : Start) (y : Micros). judged x e.side e.value y) start_at gap_at

    side_at : (is_from so_far e.side ≡ true) ↔ SideDue u e
    unfolding is_from
    side_at = (
      λ h. side_is e.side (due_at so_far.stage).side h ∙ due_now_lem.side,
      λ q. ap (same_side e.side) (due_now_lem.side ∙ sym q) ∙ is_side e.side,
    )

    early_at : number_after (taken_of es) e ≡ taken → (is_early so_far gap ≡ true) ↔ TooEarly u e
    unfolding is_early
    early_at n =
        let b = behind es e n in
        let first = from_first (own_until u.before u.start) u.start u.bytes runs_at.0 in
        let soon = (due_at so_far.stage).earliest.0 in
        let d = due_now_lem.earliest in
        let o : (from u).0 ≤ e.start.0 = omega (arith, first, ap (λ (x : Micros). x.0) mark_at, b.order, b.later) in (
          λ t. let h = ltb-true gap.0 soon t in omega arith,
          λ t. lt-ltb gap.0 soon (omega (arith, t)),
        )

    value_at : (fits so_far e.value ≡ true) ↔ ValueFits u e
    value_at = due_now_lem.value e.value

    -- ---- a byte that finds the window open is judged by what is due
    wrong_told : (k : ℕ) → wrong_low < k → Tells failed_report k (reports_to ours es e) → ByteInTime es u e × (judged so_far e.side e.value gap ≡ k)
    wrong_told k h t =
        let x = tells_caused es e failed_report k t in
        let w = wrong_by l e x.cause h in
        ((x.number_is, w.1, λ o. w.0 (inside, over_at.1 o)), sym judged_at ∙ w.2)

    told_wrong : (k : ℕ) → wrong_low < k → ByteInTime es u e → judged so_far e.side e.value gap ≡ k → Tells failed_report k (reports_to ours es e)
    told_wrong k h x j =
        let q = judged_at ∙ j in
        let z : eqb (judges l e l.phase) no_reason ≡ false = ne_eqb (judges l e l.phase) no_reason (λ r. omega (arith, q, r, h)) in
        made_at es e failed_report k x.0
        (subst (λ (m : ℕ). Tells failed_report m (handled_tells l e)) q (wrong_made l e x.1 inside (λ o. x.2 (over_at.0 o.1)) z))

    -- ---- the reasons, one by one
    fails_over : Tells failed_report window_over (reports_to ours es e) ↔ ((number_after (taken_of es) e ≡ taken) × WindowOver u e)
    fails_over = (
      λ t. ((tells_caused es e failed_report window_over t).number_is, over_at.0 (over_told es e t).1),
      λ x. made_at es e failed_report window_over x.0 (over_made l e (inside, over_at.1 x.1)),
    )

    fails_side : Tells failed_report wrong_side (reports_to ours es e) ↔ (ByteInTime es u e × Not (SideDue u e))
    unfolding judged
    fails_side = (
      λ t.
          let w = wrong_told wrong_side (omega arith) t in
          let j = verdict_side (is_from so_far e.side) (is_early so_far gap) (fits so_far e.value) w.1 in
          (w.0, λ d. false≢true (sym j ∙ side_at.1 d)),
      λ x. told_wrong wrong_side (omega arith) x.0 (rw (false_of (is_from so_far e.side) (λ d. x.1 (side_at.0 d))) refl),
    )

    fails_early : Tells failed_report too_early (reports_to ours es e) ↔ (ByteInTime es u e × SideDue u e × TooEarly u e)
    unfolding judged
    fails_early = (
      λ t.
          let w = wrong_told too_early (omega arith) t in
          let j = verdict_early (is_from so_far e.side) (is_early so_far gap) (fits so_far e.value) w.1 in
          (w.0, side_at.0 j.0, (early_at w.0.0).0 j.1),
      λ x. told_wrong too_early (omega arith) x.0 (rw (side_at.1 x.1, (early_at x.0.0).1 x.2) refl),
    )

    fails_value : Tells failed_report misfit (reports_to ours es e) ↔ (ByteInTime es u e × SideDue u e × Not (TooEarly u e) × Not (ValueFits u e))
    unfolding judged
    fails_value = (
      λ t.
          let w = wrong_told misfit (omega arith) t in
          let j = verdict_value (is_from so_far e.side) (is_early so_far gap) (fits so_far e.value) w.1 in
          (w.0, side_at.0 j.0, λ d. false≢true (sym j.1 ∙ (early_at w.0.0).1 d), λ f. false≢true (sym j.2 ∙ value_at.1 f)),
      λ x.
          told_wrong misfit (omega arith) x.0
          (rw (
            side_at.1 x.1,
            false_of (is_early so_far gap) (λ d. x.2 ((early_at x.0.0).0 d)),
            false_of (fits so_far e.value) (λ f. x.3 (value_at.0 f)),
          ) refl),
    )

    -- ---- a byte that is right
    right_at : ByteInTime es u e → AllRight u e → judged so_far e.side e.value gap ≡ no_reason
    unfolding judged
    right_at x r = rw (side_at.1 r.0, false_of (is_early so_far gap) (λ d. r.1 ((early_at x.0).0 d)), value_at.1 r.2) refl

    right_of : number_after (taken_of es) e ≡ taken → judged so_far e.side e.value gap ≡ no_reason → AllRight u e
    unfolding judged
    right_of n q =
        let j = judged_by (is_from so_far e.side) (is_early so_far gap) (fits so_far e.value) q in
        (side_at.0 j.0, λ d. false≢true (sym j.1 ∙ (early_at n).1 d), value_at.0 j.2)

    last_at : is_last l.phase.start.stage ≡ ends_here u
    last_at = ap (λ (x : Start). is_last x.stage) start_at ∙ due_now_lem.last

    succeeds : Says connected_report (reports_to ours es e) ↔ (ByteInTime es u e × AllRight u e × (ends_here u ≡ true))
    succeeds = (
      λ t.
          let x = (says_caused es e connected_report t).caused in
          let n = x.number_is in
          let c = x.cause in
          ((n, c.byte, λ o. false≢true (sym c.window ∙ over_at.1 o)), right_of n (sym judged_at ∙ c.right), sym last_at ∙ c.last),
      λ x.
          ap (is_among connected_report) (reports_taken es e x.0.0)
          ∙ completes_says l e (record {
            byte = x.0.1;
            was = inside;
            window = false_of (is_over l.phase.start (since_origin l.phase l.mark e.start)) (λ o. x.0.2 (over_at.0 o));
            right = judged_at ∙ right_at x.0 x.1;
            last = last_at ∙ x.2;
          }),
    )

    -- no report 4 where the window is open, nothing closes and no byte is wrong
    no_failure : Not (WindowOver u e) → (is_closer e.kind ≡ false) → (e.kind ≡ Byte → judged so_far e.side e.value gap ≡ no_reason)
        → Says failed_report (reports_to ours es e) → ⊥
    no_failure n c j t =
        lets_none l e (no_closer e e.kind c refl) (λ b. judged_at ∙ j b) (λ o. n (over_at.0 o.1)) (says_caused es e failed_report t).caused.cause

    goes_by : ByteInTime es u e → AllRight u e → ends_here u ≡ false → Starting ours (es ▷ e)
    goes_by x r z =
        goes_on s (λ t. false≢true (sym z ∙ (succeeds.0 t).2)) (no_failure x.2 (ap is_closer x.1) (λ _. right_at x r))

    waits_by : number_after (taken_of es) e ≡ taken → e.kind ≡ Tick → Not (WindowOver u e) → Starting ours (es ▷ e)
    unfolding is_byte
    waits_by n k o =
        goes_on s (λ t. no_byte e Tick refl k (succeeds.0 t).0.1) (no_failure o (ap is_closer k) (λ b. absurd (no_byte e Tick refl k b)))

-- HOW IT FAILS
pub fails_exactly : (es : Log) (e : Event) → InBytes es → Starting ours es → (u : UnderWay (taken_of es)) → Fails ours es e u
fails_exactly es e b s u = record {
  over = fails_over es b s u e;
  side = fails_side es b s u e;
  early = fails_early es b s u e;
  value = fails_value es b s u e;
  connects = succeeds es b s u e;
  goes = goes_by es b s u e;
  waits = waits_by es b s u e;
}

-- ---- outside of an initialization
low_only : (es : Log) (e : Event) {k : ℕ} → InBytes es → Not (Starting ours es) → FailsBy (after ours es).link e k → k ≡ wrong_low
low_only es e b n (runs_out o) = absurd (n ((starting_exactly es b).0 o.0))
low_only es e b n (closes i o c) = absurd (n ((starting_exactly es b).0 i))
low_only es e b n (falls_short w i g) = refl
low_only es e b n (wrong i o k m) = absurd (n ((starting_exactly es b).0 i))

pub never_else : (es : Log) (e : Event) (k : ℕ) → InBytes es → Not (Starting ours es) → Tells failed_report k (reports_to ours es e) → k ≡ wrong_low
never_else es e k b n t = low_only es e b n (tells_caused es e failed_report k t).cause
