-- After any events from a fresh link: report 8 is made exactly by an address or wake-up that was not idle long enough, report 4 reason 3 exactly by a
-- wake-up of a wrong low, report 6 exactly where a first reply stayed out, and report 7 by its reason exactly where P3 max passed, at a drop, and at a
-- restart; 6 and 7 come in a session only. (Report 7 reason 1 is `stops_exactly`.)
-- Assumes nothing.
use Prim.Native.Nat.{ℕ, zero, suc, ◌+◌, ◌≤◌, ◌<◌}
use mathlib.Core.Bool.{Bool, true, false, ◌&&◌, false≢true}
use mathlib.Core.List.{List, [], ◌∷◌}
use mathlib.Core.Path.{◌≡◌, refl, sym, ap, ◌∙◌, subst}
use mathlib.Core.Logic.{◌↔◌, ◌⊎◌, inl, inr, ⊎_elim}
use native.Mathlib.Omega.{arith}
use borrow.Author.Tests.{ne_eqb}
use lib.Dec.{eqb}
use lib.ListN.{length, drop, length-drop}
use Rattle.base.specs.Numbers.{taken}
use Rattle.base.specs.Reports.{frame_report, failed_report, no_reply_report, down_report, not_idle_report, no_reason, wrong_low, idle_over, dropped, restarted}
use Rattle.base.proofs.Tests.{and_split, by_test}
use Rattle.units.specs.Units.{gap_of}
use Rattle.units.specs.declared.Micros.{Micros}
use Rattle.timing.specs.Timing.{is_passed}
use Rattle.timing.specs.declared.Limit.{Limit}
use Rattle.timing.specs.declared.Windows.{Windows}
use Rattle.events.specs.declared.Event.{Event}
use Rattle.talk.specs.Talk.{is_first, end_reason}
use Rattle.talk.specs.declared.Reply.{Reply}
use Rattle.talk.specs.declared.Reply.TheVariants.{Never, First, Further}
use Rattle.phases.specs.Phases.{is_quiet, is_open, is_connected, talking, settled}
use Rattle.phases.specs.declared.Phase.{Phase}
use Rattle.phases.specs.declared.State.TheVariants.{Held}
use Rattle.moves.specs.Moves.{is_silent, is_right, is_good_low}
use Rattle.moves.proofs.Rules.{cut_held}
use Rattle.timing.proofs.Least.{LongEnough}
use Rattle.link.proofs.Long.{Long}
use Rattle.link.specs.declared.Link.{Link}
use Rattle.listing.specs.Listing.{held_of}
use Rattle.phases.proofs.StateTests.{open_or, quiet_shut}
use Rattle.phases.proofs.StateTests.{held_is as held_is_state}
use Rattle.demands.specs.Logs.{Log, bytes_of, last_side, heard_in, number_after, taken_of, InBytes}
use Rattle.demands.specs.Idle.{idle_until}
use Rattle.demands.specs.Refusals.{Not}
use Rattle.demands.specs.Histories.{after, reports_to, is_among, Says, Tells}
use Rattle.demands.specs.Starts.{Low}
use Rattle.demands.specs.Sessions.{Talk, Session, in_force, gap_before, SomeSession, reply_to, reply_once_ended, NoReply, IdleOver}
use Rattle.demands.specs.Editions.{of_car}
use Rattle.demands.specs.Accounts.{held_in}
use Rattle.demands.specs.Endings.{Starter, NotIdle, WrongLow, Downs}
use Rattle.demands.proofs.Connecting.Waking.{not_idle_time, idle_time, good_low}
use Rattle.demands.proofs.Histories.Holding.{holds_some, holds_none}
use Rattle.demands.proofs.Histories.Invariant.{kept_of}
use Rattle.demands.proofs.Histories.Basics.{basics, held_is}
use Rattle.demands.proofs.Sessions.SessionExactly.{session_link, session_exactly}
use Rattle.demands.proofs.Connecting.ConnectsExactly.{behind}
use Rattle.demands.proofs.IdleTimes.IdleLink.{asked_link}
use Rattle.demands.proofs.Moves.Entering.{judging, has_idled}
use Rattle.demands.proofs.Moves.TimePasses.{Waited, Idled, Lasts, quieted, Silence, in_time, broken_off, framed_then, silence, same_up, open_same, long_silent, waited_up}
use Rattle.demands.proofs.Histories.CarsFit.{fitting_of, framed_reply, framed_windows, right_asks}
use Rattle.demands.proofs.Histories.BytesAsEvents.{same_length}
use Rattle.demands.proofs.Sessions.CarMessages.{sum_no_car}
use Rattle.demands.proofs.Sessions.SessionEvent.{session_at}
use Rattle.demands.proofs.Moves.Causes.{FrameBy, by_gap, by_cut, by_sum, of_low, right_made, waits_made, idles_made, dropped_made, restarted_made, not_idle_made, low_made}
use Rattle.demands.proofs.Histories.ReportsMade.{long_of, tells_caused, says_caused, made_at, says_made}
use Rattle.demands.specs.Ours.{ours}
use Rattle.demands.specs.Beside.{IsIn}

-- ---- low long enough
pub wrong_low_lem : (e : Event) → (is_good_low e.start e.end ≡ false) ↔ Not (Low e)
wrong_low_lem e = (λ f w. false≢true (sym f ∙ (good_low e).1 w), by_test_of (is_good_low e.start e.end) refl)
  where
    by_test_of : (b : Bool) → is_good_low e.start e.end ≡ b → Not (Low e) → is_good_low e.start e.end ≡ false
    by_test_of true g n = absurd (n ((good_low e).0 g))
    by_test_of false g n = g

-- the time from which the link lets a start come is the history's
module _ (es : Log) (e : Event) (b : InBytes es) (q : number_after (taken_of es) e ≡ taken) (a : Starter e) where
  abbrev now : Link
  now = (after ours es).link

  same_time : now.mark.0 + (judging now e).idle.0 ≡ idle_until ours (taken_of es) e
  same_time = omega (arith, ap (λ (m : Micros). m.0) (basics es).mark, ap (λ (m : Micros). m.0) (asked_link es e b q a))

  in_order : now.mark.0 ≤ e.start.0
  in_order = let t = behind es e q in omega (arith, t.order, t.later)

  pub link_not_idle : (has_idled now e ≡ false) ↔ (e.start.0 < idle_until ours (taken_of es) e)
  link_not_idle =
      let t = not_idle_time (judging now e).idle now.mark e.start in_order in
      (λ i. omega (arith, same_time, t.0 i), λ h. t.1 (omega (arith, same_time, h)))

  pub link_idle : (has_idled now e ≡ true) ↔ (idle_until ours (taken_of es) e ≤ e.start.0)
  link_idle =
      let t = idle_time (judging now e).idle now.mark e.start in_order in
      (λ i. omega (arith, same_time, t.0 i), λ h. t.1 (omega (arith, same_time, h)))

-- NOT IDLE
pub not_idle_exactly : (es : Log) (e : Event) → InBytes es
    → Says not_idle_report (reports_to ours es e) ↔ ((number_after (taken_of es) e ≡ taken) × NotIdle ours (taken_of es) e)
not_idle_exactly es e b = (
  λ s.
      let x = (says_caused es e not_idle_report s).caused in
      (x.number_is, (x.cause.0, (link_not_idle es e b x.number_is x.cause.0).0 x.cause.1)),
  λ c.
      let i = (link_not_idle es e b c.0 c.1.0).1 c.1.1 in
      says_made es e not_idle_report no_reason c.0 (not_idle_made (after ours es).link e c.1.0 i),
)

-- A WRONG LOW
pub wrong_low_exactly : (es : Log) (e : Event) → InBytes es
    → Tells failed_report wrong_low (reports_to ours es e) ↔ ((number_after (taken_of es) e ≡ taken) × WrongLow ours (taken_of es) e)
wrong_low_exactly es e b = (
  λ s.
      let x = tells_caused es e failed_report wrong_low s in
      let c = of_low _ e x.cause refl in
      (x.number_is, (c.0, (link_idle es e b x.number_is (inr c.0)).0 c.1, (wrong_low_lem e).0 c.2)),
  λ c.
      made_at es e failed_report wrong_low c.0
      (low_made (after ours es).link e c.1.0 ((link_idle es e b c.0 (inr c.1.0)).1 c.1.1) ((wrong_low_lem e).1 c.1.2)),
)

-- ---- in a session: the reply, the windows and the bytes held are the link's
last_drop : (n : ℕ) (l : List Event) → n < length l → last_side (drop n l) ≡ last_side l
unfolding last_side
last_drop zero l h = refl
last_drop (suc n) [] h = absurd (omega arith)
last_drop (suc n) (b ∷ []) h = absurd (omega arith)
last_drop (suc n) (b ∷ c ∷ l) h = last_drop n (c ∷ l) (omega arith)

first_is : (reply : Reply) → is_first reply ≡ true → reply ≡ First
unfolding is_first
first_is Never f = absurd (false≢true f)
first_is First f = refl
first_is Further f = absurd (false≢true f)

is_first_lem : (reply : Reply) → reply ≡ First → is_first reply ≡ true
unfolding is_first
is_first_lem reply q = ap is_first q

module _ (es : Log) (e : Event) (t : Talk) (b : InBytes es) (s : Session ours es t) where
  abbrev l : Link
  l = (after ours es).link

  abbrev held : ℕ
  held = held_in ours es

  abbrev gap : Micros
  gap = gap_before (taken_of es) e

  is_in : IsIn t l
  is_in = session_link es t b s

  pub quiet_holds : is_quiet l.phase.state ≡ true → held ≡ 0
  unfolding held_of
  quiet_holds q =
      let i = held_is es in
      let x = quiet_shut l.phase.state q in
      let n = holds_none l.phase.state l.named l.heard x.0 x.1 (kept_of es).holds in
      omega arith

  pub holds_quiet : held ≡ 0 → is_quiet l.phase.state ≡ true
  unfolding held_of
  holds_quiet z =
      let i = held_is es in
      open_or (is_quiet l.phase.state ≡ true) l.phase.state is_in.connected
      (λ o. let n = holds_some l.phase.state l.named l.heard o (kept_of es).holds in absurd (omega arith)) (λ q. q)

  pub replied : l.phase.reply ≡ t.reply
  replied = is_in.reply

  pub same_gap : gap_of l.mark e.start ≡ gap
  same_gap = ap (λ (x : Micros). gap_of x e.start) (basics es).mark

  -- ---- what silence leaves, by the session: its windows, and the reply that may come once what was held has ended
  abbrev p : Phase
  p = l.phase

  abbrev own : Micros
  own = gap_of l.mark e.start

  -- while something is held, the last byte heard is its message's
  pub held_last : (h : p.state ≡ Held) → last_side (bytes_of (taken_of es)) ≡ p.message.side
  held_last h =
      let o = (session_at b s).opened (held_is_state h).1 in
      let x = o.held (held_is_state h).0 in
      let n = ap length x.bytes in
      let m = length-drop l.named (heard_in es) in
      let k = same_length (taken_of es) in
      sym (last_drop l.named (bytes_of (taken_of es)) (omega arith)) ∙ x.last ∙ sym x.whose

  -- a report 1 in a car's session is one of a message that was right as it ended
  pub right_framed : of_car t.pair ≡ true → Says frame_report (reports_to ours es e)
      → (p.state ≡ Held) × (eqb (end_reason p.message) no_reason ≡ true) × ((is_silent own ≡ true) ⊎ (is_silent own ≡ false))
  right_framed c x = by_cause (says_caused es e frame_report x).caused.cause.1
    where
      by_cause : FrameBy l e → (p.state ≡ Held) × (eqb (end_reason p.message) no_reason ≡ true) × ((is_silent own ≡ true) ⊎ (is_silent own ≡ false))
      by_cause (by_gap h r g) = (h, r, inl g)
      by_cause (by_cut r k g y) = (cut_held l.mark e p k, r, inr g)
      by_cause (by_sum h z g y) =
          let o = (session_at b s).opened (held_is_state h).1 in
          let x = o.held (held_is_state h).0 in
          let n = sum_no_car p.start.pair o.byte.side o.byte.side x.head x.rest p.message x.gone z in
          absurd (false≢true (sym n ∙ (ap of_car is_in.pair ∙ c)))

  module _ (number : number_after (taken_of es) e ≡ taken) where
    -- a car's right message that silence ends is reported
    framed_says : p.state ≡ Held → is_silent own ≡ true → eqb (end_reason p.message) no_reason ≡ true → Says frame_report (reports_to ours es e)
    framed_says h g r = says_made es e frame_report no_reason number (right_made l e h g r)

    pub holds_more : is_open p.state ≡ true → eqb held 0 ≡ false
    unfolding held_of
    holds_more o =
        let i = held_is es in
        let n = holds_some p.state l.named l.heard o (kept_of es).holds in
        ne_eqb held 0 (λ z. omega arith)

    right_is : (p.state ≡ Held) × (eqb (end_reason p.message) no_reason ≡ true) × ((is_silent own ≡ true) ⊎ (is_silent own ≡ false)) → is_right p ≡ true
    unfolding is_right
    right_is f = rw (held_is_state f.0).0 f.1

    pub once_ended : {q : Phase} → Silence l.mark e p q → (q.windows ≡ in_force t) × (is_quiet q.state ≡ true → q.reply ≡ reply_once_ended ours es e t)
    unfolding settled talking reply_once_ended
    once_ended (in_time f) = (is_in.windows, λ k. replied ∙ sym (rw (quiet_holds k) refl))
    once_ended (broken_off o g r) = (
      is_in.windows,
      λ _. sym (rw (holds_more o)
          (by_test (λ (x : Reply). x ≡ Never) (of_car t.pair && is_among frame_report (reports_to ours es e)) {x = reply_to (last_side (bytes_of (taken_of es)))} {y = Never}
          (λ z.
          let y = and_split (of_car t.pair) _ z in
          let f = right_framed y.0 y.1 in
          absurd (false≢true (sym r ∙ right_is f)))
          (λ _. refl))),
    )
    once_ended (framed_then h g r) =
        let x = right_asks p (fitting_of es) r in
        let c = sym (ap of_car is_in.pair) ∙ x.0 in (
          framed_windows p x.1 ∙ is_in.windows,
          λ _. framed_reply p ∙ sym (rw (holds_more (held_is_state h).1, c, framed_says h g r, held_last h) refl),
        )

    -- what silence leaves
    abbrev left : Phase
    left = quieted l.mark e p

    windows_are : left.windows ≡ in_force t
    windows_are = (once_ended (silence l.mark e p)).0

    pub reply_is : is_quiet left.state ≡ true → left.reply ≡ reply_once_ended ours es e t
    reply_is = (once_ended (silence l.mark e p)).1

    same_passed : (limit : Windows → Limit) → is_passed (limit left.windows) own ≡ is_passed (limit (in_force t)) gap
    same_passed limit = ap (λ (w : Windows). is_passed (limit w) own) windows_are ∙ ap (is_passed (limit (in_force t))) same_gap

    pub same_p2 : is_passed left.windows.p2max own ≡ is_passed (in_force t).p2max gap
    same_p2 = same_passed (λ (w : Windows). w.p2max)

    same_p3 : is_passed left.windows.p3max own ≡ is_passed (in_force t).p3max gap
    same_p3 = same_passed (λ (w : Windows). w.p3max)

    left_up : is_connected left.state ≡ true
    left_up = same_up l.mark e p (silence l.mark e p) ∙ is_in.connected

    -- what is open is so in time, and neither limit has passed
    long_left : is_open left.state ≡ true → LongEnough left.windows × (is_silent own ≡ false)
    long_left o =
        let x = open_same l.mark e p (silence l.mark e p) o in
        (subst Long (sym x.0) (long_of es) left_up, x.1)

    pub late_p2 : is_open left.state ≡ true → is_passed left.windows.p2max own ≡ true → ⊥
    late_p2 o h = let x = long_left o in false≢true (sym x.1 ∙ long_silent left.windows.p2max own (omega (arith, x.0.p2max_long)) h)

    late_p3 : is_open left.state ≡ true → is_passed left.windows.p3max own ≡ true → ⊥
    late_p3 o h = let x = long_left o in false≢true (sym x.1 ∙ long_silent left.windows.p3max own (omega (arith, x.0.p3max_long)) h)

    pub waited_is : Waited p own ↔ NoReply ours es e t
    waited_is = (
      λ w. (sym (reply_is w.0) ∙ first_is left.reply w.1, sym same_p2 ∙ w.2),
      λ n. open_or (Waited p own) left.state left_up (λ o. absurd (late_p2 o (same_p2 ∙ n.1)))
          (λ k. (k, is_first_lem left.reply (reply_is k ∙ n.0), same_p2 ∙ n.1)),
    )

    idle_quiet : Idled p own → is_quiet left.state ≡ true
    idle_quiet i = open_or (is_quiet left.state ≡ true) left.state left_up (λ o. absurd (late_p3 o i.1)) (λ k. k)

    pub idled_is : Idled p own ↔ IdleOver ours es e t
    idled_is = (
      λ i. (sym same_p3 ∙ i.1, λ z. let k = idle_quiet i in sym same_p2 ∙ i.2 k (is_first_lem left.reply (reply_is k ∙ z))),
      λ i. (left_up, same_p3 ∙ i.0, λ k f. same_p2 ∙ i.1 (sym (reply_is k) ∙ first_is left.reply f)),
    )

-- NO REPLY
pub no_reply_exactly : (es : Log) (e : Event) (t : Talk) → InBytes es → Session ours es t
    → Says no_reply_report (reports_to ours es e)
    ↔ ((number_after (taken_of es) e ≡ taken) × NoReply ours es e t)
no_reply_exactly es e t b s = (
  λ x.
      let c = (says_caused es e no_reply_report x).caused in
      (c.number_is, (waited_is es e t b s c.number_is).0 c.cause),
  λ x. says_made es e no_reply_report no_reason x.0 (waits_made (after ours es).link e ((waited_is es e t b s x.0).1 x.1)),
)

-- DOWN: by P3 max, by a drop, by an address or wake-up
module _ (es : Log) (e : Event) (t : Talk) (b : InBytes es) (s : Session ours es t) (n : number_after (taken_of es) e ≡ taken) where
  abbrev here : Link
  here = (after ours es).link

  -- P3 max has not passed, by the link and by the history
  stays_up : Lasts here.mark e here.phase → Not (IdleOver ours es e t)
  stays_up f i = f (long_of es) ((idled_is es e t b s n).1 i)

  up_stays : Not (IdleOver ours es e t) → Idled here.phase (gap_of here.mark e.start) → ⊥
  up_stays f i = f ((idled_is es e t b s n).0 i)

pub downs_exactly : (es : Log) (e : Event) (t : Talk) → InBytes es → Session ours es t → Downs ours es e t
downs_exactly es e t b s =
    let l = (after ours es).link in
    let up = (session_link es t b s).connected in
    record {
      idle = (
        λ x. let c = tells_caused es e down_report idle_over x in (c.number_is, (idled_is es e t b s c.number_is).0 c.cause.1),
        λ x. made_at es e down_report idle_over x.0 (idles_made l e (long_of es) ((idled_is es e t b s x.0).1 x.1)),
      );
      dropped = (
        λ x. let c = tells_caused es e down_report dropped x in (c.number_is, c.cause.1.1, stays_up es e t b s c.number_is c.cause.1.0),
        λ x. made_at es e down_report dropped x.0 (dropped_made l e up (up_stays es e t b s x.0 x.2) x.1),
      );
      restarted = (
        λ x. let c = tells_caused es e down_report restarted x in (c.number_is, c.cause.1.1, stays_up es e t b s c.number_is c.cause.1.0),
        λ x. made_at es e down_report restarted x.0 (restarted_made l e up (up_stays es e t b s x.0 x.2) x.1),
      );
    }

-- BOTH IN A SESSION ONLY
pub only_in_session : (es : Log) (e : Event) → InBytes es
    → Says no_reply_report (reports_to ours es e) ⊎ Says down_report (reports_to ours es e) → SomeSession ours es
only_in_session es e b x =
    (session_exactly es b).0
    (⊎_elim (λ w. waited_up (after ours es).link.mark e (after ours es).link.phase (says_caused es e no_reply_report w).caused.cause)
    (λ d. (says_caused es e down_report d).caused.cause.0) x)
