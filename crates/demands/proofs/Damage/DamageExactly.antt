-- Report 2, after any events from a fresh link: it names all that is held, and it is made in a session exactly if something is held and 20 ms have passed
-- since the mark, or A, W or D comes.
-- Assumes nothing.
use Prim.Native.Nat.{ℕ, ◌+◌, ◌-◌, ◌<◌}
use mathlib.Core.Bool.{Bool, true, false, false≢true, ◌||◌, ◌&&◌}
use mathlib.Core.List.{[]}
use mathlib.Core.Path.{◌≡◌, refl, sym, ap, ◌∙◌, subst}
use mathlib.Core.Logic.{◌↔◌, ◌⊎◌, inl, inr, ⊎_elim}
use native.Mathlib.Omega.{arith}
use lib.ListN.{length}
use Rattle.std.specs.Prelude.{if◌then◌else◌}
use Rattle.base.specs.Numbers.{taken}
use Rattle.base.specs.Reports.{damage_report, closed, no_reason}
use Rattle.units.specs.Units.{gap_of}
use Rattle.units.specs.declared.Micros.{Micros}
use Rattle.events.specs.declared.Kind.TheVariants.{Drop, Byte}
use Rattle.events.specs.declared.Event.{Event}
use Rattle.phases.specs.Phases.{is_open, down, talking, settled, is_held}
use Rattle.phases.proofs.StateTests.{open_or, is_held_lem}
use Rattle.moves.specs.Moves.{loss_reason, is_silent, is_right, is_cut_in}
use Rattle.moves.specs.declared.Move.{Move}
use Rattle.moves.proofs.Rules.{Moment, at_silence, at_p2, at_p3, at_window, at_closing, at_leaving, at_start, at_cut, at_hearing, at_byte, at_stop, at_end_lem, next, drops, ends_right}
use Rattle.moves.proofs.Rules.{Rule, rests, breaks_off, waited, idled, expires, cuts_off, aborts, leaves, starts_slow, starts_fast, hurries, low, cut_right}
use Rattle.moves.proofs.Rules.{strays, misses, connects, goes_on, opens, errs, breaks, frames, grows, stops, cut_wrong, cut_held}
use Rattle.reports.specs.Reporting.{names_bytes, report_of, told, moved}
use Rattle.reports.specs.declared.Report.{Report}
use Rattle.reports.specs.declared.Run.{Run}
use Rattle.link.specs.Handling.{begun}
use Rattle.link.specs.declared.Link.{Link}
use Rattle.link.proofs.Long.{Long}
use Rattle.link.proofs.Walk.{Reached, event_walk_by}
use Rattle.link.specs.Telling.{tells, handled_tells}
use Rattle.listing.specs.Listing.{held_of}
use Rattle.demands.specs.Logs.{Log, heard_in, number_after, taken_of, InBytes}
use Rattle.demands.specs.Histories.{after, reports_to, Says, Among, Tells}
use Rattle.demands.specs.Accounts.{held_in}
use Rattle.demands.specs.Sessions.{Talk, Session, gap_before}
use Rattle.demands.specs.Endings.{Starter}
use Rattle.demands.proofs.Histories.Basics.{basics, held_is}
use Rattle.demands.proofs.Moves.ReportsInList.{Each, each_none, each_both, says_speaks, tells_each}
use Rattle.demands.proofs.Moves.TimePasses.{off_second}
use Rattle.demands.proofs.Moves.Causes.{Closer, no_closer, false_of, broken_made, cut_made, cut_wrong_made}
use Rattle.demands.proofs.Histories.ReportsMade.{long_of, reports_made, taken_by_report, says_made}
use Rattle.demands.proofs.Sessions.SessionExactly.{session_link}
use Rattle.demands.proofs.Endings.DownsExactly.{quiet_holds, same_gap}
use Rattle.demands.proofs.Sessions.OpeningByte.{silent_is, open_holds, speaks_car, right_here, speaks_held}
use Rattle.demands.proofs.Sessions.SessionLasts.{held_loss, tester_is, unit_is}
use Rattle.demands.proofs.Histories.Holding.{framed_quiet}
use Rattle.demands.specs.Messages.{CutsIn, EndsRight, Interrupts}
use Rattle.demands.proofs.Sessions.CarMessages.{quick_car}
use Rattle.demands.specs.Editions.{of_quick_car}
use Rattle.phases.proofs.StateTests.{held_is as held_is_state}
use Rattle.demands.specs.Refusals.{Not}
use Rattle.demands.specs.Ours.{ours}
use Rattle.phases.specs.declared.Phase.{Phase}
use Rattle.talk.specs.Talk.{end_reason}
use Rattle.events.specs.Events.{is_byte, is_tester, is_unit}
use Rattle.phases.specs.declared.State.TheVariants.{Held}
use lib.Dec.{eqb}
use Rattle.base.proofs.Tests.{and_split}
use Prim.Native.String.{[]}

-- ---- AN EVENT THAT IS TAKEN
-- why a report 2 is made of it: what is open has ended, and not in a frame; the event closes it; or its byte ends it
pub data Losing (l : Link) (e : Event) : Type 0 where
  by_gap : is_silent (gap_of l.mark e.start) ≡ true → is_right l.phase ≡ false → Losing l e
  by_closer : is_silent (gap_of l.mark e.start) ≡ false → Closer e → Losing l e
  by_byte : is_silent (gap_of l.mark e.start) ≡ false → e.kind ≡ Byte → is_cut_in l.phase e.side ≡ true
      → eqb (end_reason l.phase.message) no_reason ≡ false → Losing l e

-- the reason of a message held
abbrev pub held_why : Link → Event → ℕ
held_why l e = if is_silent (gap_of l.mark e.start) || is_byte e.kind then end_reason l.phase.message else closed

-- a report 2: something is open; all that is held is named; the reason is that of damage, or of a message held
pub record Loses (l : Link) (e : Event) (x : Report) : Type 0 where
  pub open_there : is_open l.phase.state ≡ true
  pub why : Losing l e
  pub index : x.first ≡ l.named
  pub size : x.bytes ≡ l.heard - l.named
  pub reason : x.reason ≡ loss_reason l.phase (held_why l e)

module _ (l : Link) (e : Event) where
  abbrev r : Run
  r = begun l e

  abbrev gap : Micros
  gap = gap_of l.mark e.start

  loses : (k : ℕ) → Losing l e → loss_reason l.phase (held_why l e) ≡ k → is_open l.phase.state ≡ true → Loses l e (report_of r damage_report k)
  unfolding report_of names_bytes begun
  loses k w q o = record { open_there = o; why = w; index = refl; size = refl; reason = sym q }

  -- of a run that is as the event found it
  loses_at : (s : Run) (k : Phase → ℕ) → s ≡ r → Losing l e → loss_reason l.phase (held_why l e) ≡ k l.phase → is_open s.phase.state ≡ true
      → Loses l e (report_of s damage_report (k s.phase))
  unfolding begun
  loses_at s k same w q = subst (λ (x : Run). is_open x.phase.state ≡ true → Loses l e (report_of x damage_report (k x.phase))) (sym same) (loses (k l.phase) w q)

  silent_why : is_silent gap ≡ true → held_why l e ≡ end_reason l.phase.message
  silent_why h = rw h refl

  byte_why : e.kind ≡ Byte → held_why l e ≡ end_reason l.phase.message
  unfolding is_byte
  byte_why k = rw (ap is_byte k) (by_silence (is_silent gap))
    where
      by_silence : (c : Bool) → (if c || true then end_reason l.phase.message else closed) ≡ end_reason l.phase.message
      by_silence true = refl
      by_silence false = refl

  closer_why : is_silent gap ≡ false → Closer e → held_why l e ≡ closed
  unfolding is_byte
  closer_why h c = rw (h, false_of (is_byte e.kind) (λ z. no_closer_byte z c)) refl
    where
      no_closer_byte : is_byte e.kind ≡ true → Closer e → ⊥
      no_closer_byte z (inl (inl k)) = false≢true (sym (ap is_byte k) ∙ z)
      no_closer_byte z (inl (inr k)) = false≢true (sym (ap is_byte k) ∙ z)
      no_closer_byte z (inr k) = false≢true (sym (ap is_byte k) ∙ z)

  -- while time passes, what is open is as the event found it
  abbrev Same : Run → Type 0
  Same s = is_open s.phase.state ≡ true → (s ≡ r) × (is_silent gap ≡ false)

  abbrev S : Moment → Run → Type 0
  S at_silence s = s ≡ r
  S at_p2 s = Same s
  S at_p3 s = Same s
  S at_window s = Same s
  S at_closing s = Same s
  S at_leaving s = Unit {0}
  S at_start s = Unit {0}
  S at_cut s = Same s
  S at_hearing s = Unit {0}
  S at_byte s = Unit {0}
  S at_stop s = Unit {0}
  S at_end_lem s = Unit {0}

  -- a rule that makes a report 2 ends what is open or closes it
  abbrev Damages : Run → Move → Type 0
  Damages s m = m.number ≡ damage_report → Loses l e (report_of s m.number m.reason)

  rule : (k : Moment) → Reached e k → (s : Run) (m : Move) → Rule l.mark e s.phase k m → S k s → S (next k) (moved s m) × Damages s m
  unfolding next moved told settled talking down is_open begun
  rule at_silence w s m (rests u) q = (λ o. (q, off_second (is_open s.phase.state) (is_silent gap) u o), λ z. absurd (omega arith))
  rule at_silence w s m (ends_right h x y) q =
      (λ a. absurd (false≢true (sym (ap is_open (framed_quiet s.phase)) ∙ a)), λ z. absurd (omega arith))
  rule at_silence w s m (breaks_off o x y) q = (
    λ a. absurd (false≢true a),
    λ _. loses_at s (λ (p : Phase). loss_reason p (end_reason p.message)) q
        (by_gap x (sym (ap (λ (u : Run). is_right u.phase) q) ∙ y)) (ap (loss_reason l.phase) (silent_why x)) o,
  )
  rule at_p2 w s m (rests u) f = (f, λ z. absurd (omega arith))
  rule at_p2 w s m (waited q a x) f = (λ o. absurd (false≢true o), λ z. absurd (omega arith))
  rule at_p3 w s m (rests u) f = (f, λ z. absurd (omega arith))
  rule at_p3 w s m (idled q a x) f = (λ o. absurd (false≢true o), λ z. absurd (omega arith))
  rule at_window w s m (rests u) f = (f, λ z. absurd (omega arith))
  rule at_window w s m (expires q x) f = (λ o. absurd (false≢true o), λ z. absurd (omega arith))
  rule at_closing w s m (rests u) f = (tt, λ z. absurd (omega arith))
  rule at_closing w s m (cuts_off o) f = (tt, λ _. let x = f o in loses_at s (λ (p : Phase). loss_reason p closed) x.0 (by_closer x.1 w) (ap (loss_reason l.phase) (closer_why x.1 w)) o)
  rule at_closing w s m (aborts x) f = (tt, λ z. absurd (omega arith))
  rule at_leaving w s m (rests u) f = (tt, λ z. absurd (omega arith))
  rule at_leaving w s m (leaves c x) f = (tt, λ z. absurd (omega arith))
  rule at_leaving w s m (drops d x) f = (tt, λ z. absurd (omega arith))
  rule at_start w s m (rests u) f = absurd u
  rule at_start w s m (starts_slow a i) f = (tt, λ z. absurd (omega arith))
  rule at_start w s m (starts_fast a i g) f = (tt, λ z. absurd (omega arith))
  rule at_start w s m (hurries a i) f = (tt, λ z. absurd (omega arith))
  rule at_start w s m (low a i g) f = (tt, λ z. absurd (omega arith))
  rule at_cut w s m (rests u) f = (tt, λ z. absurd (omega arith))
  rule at_cut w s m (cut_right c y) f = (tt, λ z. absurd (omega arith))
  rule at_cut w s m (cut_wrong c y) f = (
    tt,
    λ _.
        let h = cut_held l.mark e s.phase c in
        let x = f (held_is_state h).1 in
        let p = ap (λ (u : Run). u.phase) x.0 in
        let own : l.phase.state ≡ Held = sym (ap (λ (q : Phase). q.state) p) ∙ h in
        loses_at s (λ (q : Phase). end_reason q.message) x.0
        (by_byte x.1 w (sym (ap (λ (q : Phase). is_cut_in q e.side) p) ∙ c) (sym (ap (λ (q : Phase). eqb (end_reason q.message) no_reason) p) ∙ y))
        (held_loss l.phase (held_why l e) (held_is_state own).0 ∙ byte_why w) (held_is_state h).1,
  )
  rule at_hearing w s m (rests u) f = absurd u
  rule at_byte w s m (rests u) f = (tt, λ z. absurd (omega arith))
  rule at_byte w s m (strays d) f = (tt, λ z. absurd (omega arith))
  rule at_byte w s m (misses a v) f = (tt, λ z. absurd (omega arith))
  rule at_byte w s m (connects a v x) f = (tt, λ z. absurd (omega arith))
  rule at_byte w s m (goes_on a v x) f = (tt, λ z. absurd (omega arith))
  rule at_byte w s m (opens q x) f = (tt, λ z. absurd (omega arith))
  rule at_byte w s m (errs q x) f = (tt, λ z. absurd (omega arith))
  rule at_byte w s m (breaks q x) f = (tt, λ z. absurd (omega arith))
  rule at_byte w s m (frames q x y) f = (tt, λ z. absurd (omega arith))
  rule at_byte w s m (grows q x y) f = (tt, λ z. absurd (omega arith))
  rule at_stop w s m (rests u) f = (tt, λ z. absurd (omega arith))
  rule at_stop w s m (stops q x) f = (tt, λ z. absurd (omega arith))
  rule at_end_lem w s m (rests u) f = absurd u

  abbrev IsLoss : Report → Type 0
  IsLoss x = x.number ≡ damage_report → Loses l e x

  all_loses : Each IsLoss (handled_tells l e)
  unfolding handled_tells report_of
  all_loses =
      (event_walk_by l.mark e r (λ k s xs. S k s × Each IsLoss xs)
      (λ k w s _ xs m u i. let x = rule k w s m u i.0 in (x.0, each_both IsLoss xs (tells s m) i.1 (tells_each IsLoss s m (λ _. x.1))))
      (λ _ s xs i. i) (λ _ s xs i. (tt, i.1)) (λ _ s xs i. (tt, i.1)) (λ _ s xs i. (tt, i.1)) (refl, each_none IsLoss)).1

  -- ---- and the other way round
  record Lost : Type 0 where
    reason : ℕ
    told : Tells damage_report reason (handled_tells l e)

  lost : Long l.phase → is_open l.phase.state ≡ true → Losing l e → Lost
  lost g o (by_gap h r) = record { reason = _; told = broken_made l e o h r }
  lost g o (by_closer h c) = record { reason = _; told = cut_made l e g o h c }
  lost g o (by_byte h k c r) = record { reason = _; told = cut_wrong_made l e g k c h r }

-- ---- after events
module _ (es : Log) (e : Event) where
  abbrev here : Link
  here = (after ours es).link

  pub damage_at : (x : Report) → Among x (reports_to ours es e) → x.number ≡ damage_report → Loses here e x
  damage_at x i n = all_loses here e x (subst (Among x) (reports_made es e (taken_by_report es e x i)) i) n

-- IT NAMES ALL THAT IS HELD
pub damage_names : (es : Log) (e : Event) (r : Report) → Among r (reports_to ours es e) → r.number ≡ damage_report
    → (r.bytes ≡ held_in ours es) × (r.first + r.bytes ≡ length (heard_in es))
unfolding held_of
damage_names es e r i n =
    let d = damage_at es e r i n in
    let b = basics es in
    let h = held_is es in
    let index = d.index in
    let size = d.size in
    (omega arith, omega (arith, b.heard, b.named))

-- ---- a message that a byte cuts into, by the history
held_cut : (es : Log) (e : Event) (t : Talk) → InBytes es → Session ours es t → is_cut_in (after ours es).link.phase e.side ≡ true → e.kind ≡ Byte
    → Interrupts ours es e
unfolding is_cut_in
held_cut es e t b s c k =
    let l = (after ours es).link in
    let h = cut_held l.mark e l.phase c in
    let m = speaks_held es t b s h in
    let y = and_split (is_held l.phase.state && is_tester l.phase.message.side && is_unit e.side) _ c in
    let z = and_split (is_held l.phase.state && is_tester l.phase.message.side) _ y.0 in
    let v = and_split (is_held l.phase.state) _ z.0 in
    record {
      talk = m.talk;
      first = m.first;
      bytes = m.bytes;
      message = m.message;
      cuts = (ap of_quick_car m.pair ∙ y.1, sym m.whose ∙ tester_is es e [] l.mark l.phase.message.side v.1, k, unit_is es e [] l.mark e.side z.1);
    }

-- ---- a car's message that is right and over
module _ (es : Log) (e : Event) (t : Talk) (b : InBytes es) (s : Session ours es t) where
  abbrev own : Link
  own = (after ours es).link

  abbrev since : Micros
  since = gap_of own.mark e.start

  silent : (is_silent since ≡ true) ↔ (20_000 < (gap_before (taken_of es) e).0)
  silent = (
    λ h. subst (λ (g : Micros). 20_000 < g.0) (same_gap es e t b s) ((silent_is since).0 h),
    λ h. (silent_is since).1 (subst (λ (g : Micros). 20_000 < g.0) (sym (same_gap es e t b s)) h),
  )

  opened : 0 < held_in ours es → is_open own.phase.state ≡ true
  opened h =
      open_or (is_open own.phase.state ≡ true) own.phase.state (session_link es t b s).connected (λ o. o)
      (λ q. let z = quiet_holds es e t b s q in absurd (omega arith))

  -- by the history, the link has judged it so; it holds it, and a byte that cuts in is one to the link
  ends_here : EndsRight ours es e → (own.phase.state ≡ Held) × (eqb (end_reason own.phase.message) no_reason ≡ true)
  ends_here x =
      let h = speaks_car x.talk x.first es x.bytes b x.message x.over.0 in
      (h.held, h.right x.frame)

  cut_by : (u : Talk) (f : Event) → own.phase.state ≡ Held → own.phase.message.side ≡ f.side → own.phase.start.pair ≡ u.pair → CutsIn u f e
      → is_cut_in own.phase e.side ≡ true
  unfolding is_cut_in is_tester is_unit
  cut_by u f h w p c = rw ((held_is_state h).0, ap is_tester (w ∙ c.1), ap is_unit c.3) (ap of_quick_car p ∙ c.0)

  -- by the link, and so by the history
  here_ends : own.phase.state ≡ Held → eqb (end_reason own.phase.message) no_reason ≡ true
      → (is_silent since ≡ true) ⊎ ((is_cut_in own.phase e.side ≡ true) × (e.kind ≡ Byte)) → EndsRight ours es e
  unfolding is_cut_in
  here_ends h r o =
      let x = right_here es e t b s h r in
      record {
        talk = x.talk;
        first = x.first;
        bytes = x.bytes;
        message = x.message;
        over = (
          x.car,
          ⊎_elim (λ g. inl (silent.0 g))
              (λ c.
              let y = and_split (is_held own.phase.state && is_tester own.phase.message.side && is_unit e.side) _ c.0 in
              let z = and_split (is_held own.phase.state && is_tester own.phase.message.side) _ y.0 in
              let v = and_split (is_held own.phase.state) _ z.0 in
              inr (
                ap of_quick_car x.pair ∙ y.1,
                sym x.whose ∙ tester_is es e [] own.mark own.phase.message.side v.1,
                c.1,
                unit_is es e [] own.mark e.side z.1,
              )) o,
        );
        frame = x.frame;
      }

  -- what is not to end in a frame is not right
  not_right : Not (EndsRight ours es e) → is_silent since ≡ true → is_right own.phase ≡ false
  unfolding is_right
  not_right n g =
      false_of (is_right own.phase)
      (λ r. let x = and_split (is_held own.phase.state) _ r in n (here_ends (is_held_lem own.phase.state x.0) x.1 (inl g)))

  losing : Not (EndsRight ours es e) → (20_000 < (gap_before (taken_of es) e).0) ⊎ Starter e ⊎ (e.kind ≡ Drop) ⊎ Interrupts ours es e → Losing own e
  losing n w = by_silence (is_silent since) refl
    where
      by_cut : is_silent since ≡ false → Interrupts ours es e → Losing own e
      by_cut g x =
          let car = quick_car x.talk.pair x.cuts.0 in
          let h = speaks_car x.talk x.first es x.bytes b x.message car in
          let c = cut_by x.talk x.first h.held h.whose h.pair x.cuts in
          by_byte g x.cuts.2 c (false_of (eqb (end_reason own.phase.message) no_reason) (λ r. n (here_ends h.held r (inr (c, x.cuts.2)))))

      by_silence : (c : Bool) → is_silent since ≡ c → Losing own e
      by_silence true g = by_gap g (not_right n g)
      by_silence false g =
          ⊎_elim (λ x. absurd (false≢true (sym g ∙ silent.1 x)))
          (⊎_elim (λ x. by_closer g (inl x)) (⊎_elim (λ x. by_closer g (inr x)) (λ x. by_cut g x))) w

  -- and the other way round
  loses_not : Losing own e → Not (EndsRight ours es e)
  unfolding is_right
  loses_not (by_gap g r) x = let y = ends_here x in false≢true (sym r ∙ rw (held_is_state y.0).0 y.1)
  loses_not (by_closer g c) x =
      ⊎_elim (λ z. false≢true (sym g ∙ silent.1 z)) (λ z. no_closer e Byte refl z.2 c) x.over.1
  loses_not (by_byte g k c r) x = false≢true (sym r ∙ (ends_here x).1)

  loses_by : Losing own e → (20_000 < (gap_before (taken_of es) e).0) ⊎ Starter e ⊎ (e.kind ≡ Drop) ⊎ Interrupts ours es e
  loses_by (by_gap g r) = inl (silent.0 g)
  loses_by (by_closer g c) = inr (⊎_elim (λ x. inl x) (λ x. inr (inl x)) c)
  loses_by (by_byte g k c r) = inr (inr (inr (held_cut es e t b s c k)))

-- IT IS MADE exactly where what is held has ended, and not in a frame, or is closed
pub damage_exactly : (es : Log) (e : Event) (t : Talk) → InBytes es → Session ours es t
    → Says damage_report (reports_to ours es e)
    ↔ ((number_after (taken_of es) e ≡ taken) × (0 < held_in ours es) × Not (EndsRight ours es e)
    × ((20_000 < (gap_before (taken_of es) e).0) ⊎ Starter e ⊎ (e.kind ≡ Drop) ⊎ Interrupts ours es e))
damage_exactly es e t b s = (
  λ x.
      let y = says_speaks damage_report (reports_to ours es e) x in
      let d = damage_at es e y.report y.made y.number_is in
      (taken_by_report es e y.report y.made, open_holds es d.open_there, loses_not es e t b s d.why, loses_by es e t b s d.why),
  λ x.
      let y = lost (after ours es).link e (long_of es) (opened es e t b s x.1) (losing es e t b s x.2 x.3) in
      says_made es e damage_report y.reason x.0 y.told,
)
