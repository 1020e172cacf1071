-- The first byte of a message by the session before it. What its event reports of the time before it leaves the session with the reply that `reply_at`
-- says, and names all bytes before it and no other (`opening`); and each byte that a message of the link starts with opens one in this sense (`came`).
-- So reports 1 and 2 are told by the history before the first byte (`frames_exactly`, `turns_exactly`), and so is a stop (`stops_exactly`).
-- Assumes nothing.
use Prim.Native.Nat.{ℕ, ◌<◌}
use mathlib.Core.Bool.{Bool, true, false, ◌&&◌, false≢true}
use mathlib.Core.List.{List, [], ◌∷◌, ◌++◌}
use mathlib.Core.Path.{◌≡◌, refl, sym, ap, ◌∙◌, subst, subst₂}
use mathlib.Core.Logic.{◌↔◌, ◌⊎◌, inl, inr, ⊎_elim}
use native.Mathlib.Omega.{arith}
use borrow.Author.Tests.{ltb-true, lt-ltb}
use lib.ListN.{length}
use Rattle.std.specs.Prelude.{if◌then◌else◌}
use Rattle.base.specs.Numbers.{taken}
use Rattle.base.specs.Reports.{frame_report, damage_report, down_report, no_reason, stopped, idle_over, early, stray}
use lib.Dec.{eqb}
use Rattle.base.proofs.Tests.{and_split, by_test}
use Rattle.units.specs.Units.{gap_of}
use Rattle.units.specs.declared.Micros.{Micros}
use Rattle.keys.specs.declared.Pair.{Pair}
use Rattle.timing.specs.Timing.{is_passed}
use Rattle.timing.specs.declared.Windows.{Windows}
use Rattle.frame.specs.Read.{data_of}
use Rattle.events.specs.Events.{is_byte}
use Rattle.events.specs.declared.Kind.{Kind}
use Rattle.events.specs.declared.Kind.TheVariants.{Byte}
use Rattle.events.specs.declared.Side.TheVariants.{Tester, Unit}
use Rattle.events.specs.declared.Event.{Event}
use Rattle.talk.specs.Talk.{is_first, end_reason}
use Rattle.talk.specs.declared.Reply.{Reply}
use Rattle.talk.specs.declared.Reply.TheVariants.{Never, First}
use Rattle.phases.specs.Phases.{is_quiet, is_open, talking, settled}
use Rattle.phases.specs.declared.State.TheVariants.{Held}
use Rattle.phases.specs.declared.Phase.{Phase}
use Rattle.phases.proofs.StateTests.{open_or, quiet_shut, down_is, open_unquiet, held_open, held_is as held_is_state}
use Rattle.moves.specs.Moves.{is_silent, is_cut_in, before_byte}
use Rattle.moves.specs.declared.Move.{Move}
use Rattle.moves.proofs.Rules.{at_cut, cut_right, cut_wrong, cut_held, one_move}
use Rattle.moves.proofs.Rules.{by_cut as by_cut_rule}
use Rattle.reports.specs.declared.Report.{Report}
use Rattle.reports.specs.declared.Run.{Run}
use Rattle.link.specs.Handling.{passed, byte_heard, acted, begun, handled, link_after}
use Rattle.link.specs.Stepping.{taken_by}
use Rattle.link.specs.declared.Link.{Link}
use Rattle.link.specs.Answers.{Answer}
use Rattle.link.specs.Telling.{tells, passed_tells, acted_tells, handled_tells}
use Rattle.link.proofs.Walk.{moved_phase}
use Rattle.reports.specs.Reporting.{moved}
use Rattle.demands.specs.Logs.{Log, ◌▷◌, bytes_of, last_side, heard_in, number_after, taken_of, InBytes, Begins, whole, more}
use Rattle.demands.specs.Histories.{after, reports_to, Says, is_among, Among, Tells}
use Rattle.demands.specs.Accounts.{held_in}
use Rattle.demands.specs.Connecting.{ConnectsBy}
use Rattle.demands.specs.Sessions.{stops, pending_in, Talk, talk_after, Session, opens, lasts, in_force, gap_before, OpensIn}
use Rattle.demands.specs.Sessions.{reply_to, reply_once_ended, reply_at, Turns}
use Rattle.demands.specs.Editions.{of_car, of_quick_car, is_frame, ends_itself}
use Rattle.demands.specs.Refusals.{Not}
use Rattle.demands.specs.Messages.{Speaks, begins, refused, waits, grows, EndsInFrame, ReportsFrame}
use Rattle.demands.specs.Endings.{AnswersStop}
use Rattle.listing.specs.Listing.{held_of}
use Rattle.demands.proofs.Histories.Holding.{holds_some}
use Rattle.demands.proofs.Histories.Tiling.{sum_is}
use Rattle.demands.proofs.Histories.Invariant.{kept_of}
use Rattle.demands.proofs.Histories.Basics.{basics, held_is, answer_taken, calm}
use Rattle.demands.proofs.Connecting.Running.{own_until}
use Rattle.demands.proofs.Connecting.ConnectedReport.{own_connects_link}
use Rattle.demands.proofs.Connecting.KeyBytes.{ours_opens}
use Rattle.demands.proofs.Moves.Completing.{acted_byte, held_cuts}
use Rattle.demands.proofs.Histories.BytesHeard.{byte_longer}
use Rattle.demands.proofs.Moves.StillOpen.{open_stays}
use Rattle.demands.proofs.Sessions.AfterFirstByte as inner
use Rattle.demands.proofs.Sessions.SessionLasts.{Alike, Passes, up, gone, next, cut_rule, passed_step, cuts_by}
use Rattle.demands.proofs.Sessions.SessionEvent.{run_at, AtLink, session_at}
use Rattle.demands.proofs.Sessions.FramesRead.{turns_behind, stops_behind}
use Rattle.demands.proofs.Sessions.FramesExactly.{frames_behind, HoldsCar, holds_car}
use Rattle.demands.proofs.Sessions.CarMessages.{car_data, never_stops, car_verdict}
use Rattle.demands.proofs.Histories.CarsFit.{fitting_of, framed_reply, right_asks}
use Rattle.demands.proofs.Histories.Holding.{framed_quiet}
use Rattle.demands.proofs.Histories.ReportsMade.{long_of, reports_made, says_made}
use Rattle.demands.proofs.Moves.ReportsInList.{tells_says}
use Rattle.demands.proofs.Moves.TimePasses.{Idled, quieted, silence, still_same, ended_quiet}
use Rattle.demands.proofs.Moves.TimePasses.{quiet_left as quiet_after}
use Rattle.demands.proofs.Moves.Causes.{false_of, cut_right_made}
use Rattle.demands.proofs.Moves.Causes.{left as left_by}
use Rattle.demands.proofs.Endings.DownsExactly.{quiet_holds, holds_quiet, same_gap, held_last, right_framed, holds_more, reply_is, same_p2, late_p2, idled_is, downs_exactly}
use Rattle.demands.proofs.Moves.ByteReports.{come, come_silent, come_named, byte_named}
use Rattle.demands.specs.Ours.{ours}

and_none : (a : Bool) → (a && false) ≡ false
and_none true = refl
and_none false = refl

-- the reply that may come when the byte b comes after these events
abbrev pub reply_of : Log → Event → Talk → Reply
reply_of before b t = reply_at ours before b t

-- ---- silence in numbers
pub silent_is : (gap : Micros) → (is_silent gap ≡ true) ↔ (20_000 < gap.0)
unfolding is_silent
silent_is gap = (λ s. ltb-true 20_000 gap.0 s, λ s. lt-ltb 20_000 gap.0 s)

-- while something is open, bytes are held
pub open_holds : (es : Log) → is_open (after ours es).link.phase.state ≡ true → 0 < held_in ours es
unfolding held_of
open_holds es p =
    let l = (after ours es).link in
    let n = holds_some l.phase.state l.named l.heard p (kept_of es).holds in
    let h = held_is es in
    omega arith

-- ---- what opening a message is, by the reports of the byte's event: they leave the session with this reply that may come, and name all bytes before it
pub record Opening (before : Log) (b : Event) (t : Talk) : Type 0 where
  pub up : is_among down_report (reports_to ours before b) ≡ false
  pub alike : Alike t (talk_after t (taken_of (before ▷ b)) (reports_to ours before b))
  pub reply : (talk_after t (taken_of (before ▷ b)) (reports_to ours before b)).reply ≡ reply_of before b t
  pub alone : (after ours (before ▷ b)).link.named ≡ length (heard_in before)

module _ (before : Log) (b : Event) (t : Talk) (i : InBytes before) (o : OpensIn ours before b t) where
  abbrev l : Link
  l = (after ours before).link

  abbrev gap : Micros
  gap = gap_of l.mark b.start

  abbrev s : Run
  s = passed (begun l b) l.mark b.start

  at_link : AtLink before t
  at_link = session_at i o.session

  not_idled : Idled l.phase gap → ⊥
  not_idled x = o.lasts ((idled_is before b t i o.session o.number).0 x)

  -- the byte has come: nothing is open
  record Left (q : Phase) : Type 0 where
    quiet : is_quiet q.state ≡ true
    reply : q.reply ≡ reply_of before b t

  -- ---- by time
  abbrev quiet_then : Phase
  quiet_then = quieted l.mark b l.phase

  -- the link's test is the history's
  abbrev StaysOut : Bool
  StaysOut = is_first quiet_then.reply && is_passed quiet_then.windows.p2max gap

  time_reply : is_quiet quiet_then.state ≡ true → (c : Bool) → StaysOut ≡ c → (if c then Never else quiet_then.reply) ≡ reply_of before b t
  unfolding reply_at
  time_reply k c h =
      let r = reply_is before b t i o.session o.number k in
      let same : StaysOut ≡ (is_first (reply_once_ended ours before b t) && is_passed (in_force t).p2max (gap_before (taken_of before) b))
      = (λ j. is_first (r j) && same_p2 before b t i o.session o.number j) in
      ap (λ (x : Reply). if c then Never else x) r ∙ sym (rw (sym same ∙ h) refl)

  by_time : is_quiet quiet_then.state ≡ true → Left s.phase
  unfolding settled talking is_quiet
  by_time k =
      ⊎_elim
      (λ x.
      let w = x.0 in
      subst Left (sym x.1) (record { quiet = refl; reply = time_reply k true (rw (w.1, w.2) refl) }))
      (λ x.
      let out : StaysOut ≡ false = false_of StaysOut (λ z. let y = and_split (is_first quiet_then.reply) _ z in x.0 (k, y.0, y.1)) in
      subst Left (sym x.1) (record { quiet = k; reply = time_reply k false out }))
      (quiet_after l.mark b l.phase (left_by l b) k not_idled)

  -- ---- by the byte itself, in time
  module _ (p : is_open l.phase.state ≡ true) (near : is_silent gap ≡ false) where
    same_run : s ≡ begun l b
    unfolding begun
    same_run = open_stays (begun l b) l.mark b.start p near

    -- only this byte is held after it
    one_held : held_in ours (before ▷ b) ≡ 1
    one_held =
        ⊎_elim (λ z. absurd (false≢true (sym (quiet_shut l.phase.state (holds_quiet before b t i o.session z)).0 ∙ p)))
        (⊎_elim (λ z. absurd (false≢true (sym near ∙ (silent_is gap).1 (subst (λ (g : Micros). 20_000 < g.0) (sym (same_gap before b t i o.session)) z))))
        (λ z. z.2)) o.alone

    -- and so it cuts in
    goes_on : (after ours (before ▷ b)).link.named ≡ (byte_heard (begun l b) b l.mark).named
    unfolding after taken_by link_after handled begun
    goes_on =
        ap (λ (x : Answer). x.link.named) (answer_taken before b o.number)
        ∙ ap (λ (x : Run). (acted x b l.mark).named) (open_stays (begun l b) l.mark b.start p near)
        ∙ ap (λ (x : Run). x.named) (acted_byte (begun l b) b l.mark o.kind)

    cuts : is_cut_in l.phase b.side ≡ true
    unfolding begun held_of
    cuts = by_cut (is_cut_in l.phase b.side) refl
      where
        by_cut : (c : Bool) → is_cut_in l.phase b.side ≡ c → c ≡ true
        by_cut true c = refl
        by_cut false c =
            let n = holds_some l.phase.state l.named l.heard p (kept_of before).holds in
            let x = basics before in
            let y = basics (before ▷ b) in
            let h = held_is (before ▷ b) in
            let w = byte_longer before b o.number o.kind in
            let k = sum_is l.heard 1 (omega (arith, x.heard, x.few, x.bound)) in
            absurd (⊎_elim (λ z. omega (arith, one_held, goes_on, x.heard, y.heard)) (λ z. omega (arith, one_held, goes_on, x.heard, y.heard))
            (byte_named (begun l b) b l.mark c))

    held_then : l.phase.state ≡ Held
    held_then = cut_held l.mark b l.phase cuts

    -- P2 max has not passed
    not_late : is_passed (in_force t).p2max (gap_before (taken_of before) b) ≡ false
    not_late =
        false_of (is_passed (in_force t).p2max (gap_before (taken_of before) b))
        (λ z.
        let q = still_same l.mark b l.phase (silence l.mark b l.phase) (λ _. near) in
        late_p2 before b t i o.session o.number (ap (λ (x : Phase). is_open x.state) q ∙ p) (same_p2 before b t i o.session o.number ∙ z))

    cut_reply : (reply : Reply) → reply_once_ended ours before b t ≡ reply → reply_of before b t ≡ reply
    unfolding reply_at
    cut_reply reply q = rw (not_late, and_none (is_first (reply_once_ended ours before b t))) q

    -- it ends in a frame, or as damage
    ended_reply : (c : Bool) → eqb (end_reason l.phase.message) no_reason ≡ c
        → reply_once_ended ours before b t ≡ (if c then reply_to l.phase.message.side else Never)
    unfolding reply_once_ended
    ended_reply true r =
        let car = sym (ap of_car at_link.fits.pair) ∙ (right_asks l.phase (fitting_of before) r).0 in
        let says = says_made before b frame_report no_reason o.number (cut_right_made l b (long_of before) o.kind cuts near r) in
        rw (holds_more before b t i o.session o.number p, car, says, held_last before b t i o.session held_then) refl
    ended_reply false r =
        rw (holds_more before b t i o.session o.number p)
        (by_test (λ (x : Reply). x ≡ Never) (of_car t.pair && is_among frame_report (reports_to ours before b))
        {x = reply_to (last_side (bytes_of (taken_of before)))} {y = Never}
        (λ z.
        let y = and_split (of_car t.pair) _ z in
        absurd (false≢true (sym r ∙ (right_framed before b t i o.session y.0 y.1).1)))
        (λ _. refl))

    cut_left : (c : Bool) → eqb (end_reason l.phase.message) no_reason ≡ c → Left (before_byte l.phase b.side).phase
    unfolding settled talking is_quiet
    cut_left true r =
        subst (λ (m : Move). Left m.phase) (one_move _ b l.phase (cut_right cuts r) (by_cut_rule l.mark b l.phase))
        (record { quiet = ap is_quiet (framed_quiet l.phase); reply = framed_reply l.phase ∙ sym (cut_reply _ (ended_reply true r)) })
    cut_left false r =
        subst (λ (m : Move). Left m.phase) (one_move _ b l.phase (cut_wrong cuts r) (by_cut_rule l.mark b l.phase))
        (record { quiet = refl; reply = sym (cut_reply Never (ended_reply false r)) })

  -- ---- either way
  abbrev came_to : Run
  came_to = come s b l.mark

  uncut_then : Left s.phase → Left came_to.phase
  unfolding before_byte moved
  uncut_then x =
      let c = held_cuts l.mark b s.phase (λ h. open_unquiet s.phase.state (held_open s.phase.state h) x.quiet) in
      rw c x

  cut_then : (q : Phase) → s.phase ≡ q → Left (before_byte q b.side).phase → Left came_to.phase
  cut_then q e x =
      subst Left (sym (moved_phase s (before_byte s.phase b.side) ∙ ap (λ (y : Phase). (before_byte y b.side).phase) e)) x

  left : Left came_to.phase
  unfolding begun
  left =
      open_or (Left came_to.phase) l.phase.state at_link.fits.connected
      (λ p. by_silence p (is_silent gap) refl)
      (λ q. uncut_then (by_time (ap (λ (x : Phase). is_quiet x.state)
      (still_same l.mark b l.phase (silence l.mark b l.phase) (λ p. absurd (open_unquiet l.phase.state p q))) ∙ q)))
    where
      by_silence : is_open l.phase.state ≡ true → (c : Bool) → is_silent gap ≡ c → Left came_to.phase
      by_silence p true c = uncut_then (by_time (ended_quiet l.mark b l.phase (silence l.mark b l.phase) p c))
      by_silence p false c = cut_then l.phase (ap (λ (x : Run). x.phase) (same_run p c)) (cut_left p c _ refl)

  -- and the byte makes no report
  abbrev passing : List Report
  passing = passed_tells (begun l b) l.mark b.start

  abbrev ending : List Report
  ending = tells s (before_byte s.phase b.side)

  reports_are : reports_to ours before b ≡ passing ++ ending
  unfolding handled_tells
  reports_are =
      reports_made before b o.number
      ∙ ap (λ (k : Kind). passing ++ acted_tells k s b l.mark) o.kind
      ∙ ap (λ (rs : List Report). passing ++ rs) (come_silent s b l.mark left.quiet)

  named_is : (after ours (before ▷ b)).link.named ≡ came_to.named
  unfolding after taken_by link_after handled
  named_is =
      ap (λ (x : Answer). x.link.named) (answer_taken before b o.number)
      ∙ ap (λ (x : Run). x.named) (acted_byte s b l.mark o.kind)
      ∙ come_named s b l.mark left.quiet

  passes : Passes before b (reports_to ours before b) t (passing ++ ending) came_to
  unfolding begun
  passes =
      next before b (reports_to ours before b) l.mark at_cut (cut_rule before b (reports_to ours before b) l.mark o.number o.kind) refl t passing s
      (before_byte s.phase b.side) (by_cut_rule l.mark b s.phase)
      (passed_step before b (reports_to ours before b) t (begun l b) l.mark o.number (basics before).mark at_link)

  pub opening : Opening before b t
  opening = by_way passes
    where
      by_way : Passes before b (reports_to ours before b) t (passing ++ ending) came_to → Opening before b t
      by_way (up u a n f q x) =
          let z : talk_after t (taken_of (before ▷ b)) (reports_to ours before b) ≡ u = ap (talk_after t (taken_of (before ▷ b))) reports_are ∙ q in
          record {
            up = ap (is_among down_report) reports_are ∙ n;
            alike = subst (Alike t) (sym z) a;
            reply = ap (λ (v : Talk). v.reply) z ∙ sym x.fits.reply ∙ left.reply;
            alone = named_is ∙ x.calm left.quiet ∙ x.bytes;
          }
      by_way (gone n f q) = absurd (false≢true (sym (down_is q).1 ∙ left.quiet))

  -- so it is a first byte of the session after it
  abbrev pub after_it : Talk
  after_it = talk_after t (taken_of (before ▷ b)) (reports_to ours before b)

  pub first_behind : inner.FirstOf after_it before b
  first_behind = record {
    session = lasts o.session (λ z. false≢true (sym opening.up ∙ z));
    kind = o.kind;
    number = o.number;
    alone = opening.alone;
  }

-- ---- early and stray go by the windows in force and the reply that may come
abbrev pub StrayBy : Windows → Reply → Micros → Event → Type 0
StrayBy w reply gap b = (b.side ≡ Unit) × ((reply ≡ Never) ⊎ (is_passed w.p2max gap ≡ true))

abbrev pub EarlyBy : Windows → Reply → Micros → Event → Type 0
EarlyBy w reply gap b =
    ((b.side ≡ Tester) × ((reply ≡ First) ⊎ (gap.0 < w.p3min.0)))
    ⊎ ((b.side ≡ Unit) × Not (StrayBy w reply gap b) × (gap.0 < w.p2min.0))

-- ---- THE OTHER WAY ROUND: a first byte of the session after it opens a message in the one before it
pub record Came (before : Log) (b : Event) (u : Talk) : Type 0 where
  pub talk : Talk
  pub opens : OpensIn ours before b talk
  pub alike : Alike talk u
  pub reply : u.reply ≡ reply_of before b talk

-- a byte that completes an initialization is named by its report
not_connecting : (before : Log) (b : Event) → number_after (taken_of before) b ≡ taken → b.kind ≡ Byte → is_quiet (after ours (before ▷ b)).link.phase.state ≡ true
    → (after ours (before ▷ b)).link.named ≡ length (heard_in before) → ⊥
not_connecting before b n k q a =
    let x = quiet_shut (after ours (before ▷ b)).link.phase.state q in
    let c = calm (before ▷ b) x.0 x.1 in
    let h = (basics (before ▷ b)).heard in
    let y = byte_longer before b n k in
    omega arith

connected_quiet : (before : Log) (b : Event) → number_after (taken_of before) b ≡ taken → ConnectsBy own_until (taken_of before) b
    → is_quiet (after ours (before ▷ b)).link.phase.state ≡ true
unfolding after is_quiet
connected_quiet before b n c = ap is_quiet (own_connects_link before b n c).state

module _ (before : Log) (b : Event) (t : Talk) (i : InBytes before) (session : Session ours before t) (up : Says down_report (reports_to ours before b) → ⊥)
    (kind : b.kind ≡ Byte) (number : number_after (taken_of before) b ≡ taken) (alone : (after ours (before ▷ b)).link.named ≡ length (heard_in before)) where
  abbrev here : Link
  here = (after ours before).link

  -- a byte that comes in time goes on with what is open
  goes_on_then : is_open here.phase.state ≡ true → is_silent (gap_of here.mark b.start) ≡ false
      → (after ours (before ▷ b)).link.named ≡ (byte_heard (begun here b) b here.mark).named
  unfolding after taken_by link_after handled begun
  goes_on_then o s =
      ap (λ (x : Answer). x.link.named) (answer_taken before b number)
      ∙ ap (λ (x : Run). (acted x b here.mark).named) (open_stays (begun here b) here.mark b.start o s)
      ∙ ap (λ (x : Run). x.named) (acted_byte (begun here b) b here.mark kind)

  not_later : is_open here.phase.state ≡ true → is_silent (gap_of here.mark b.start) ≡ false → is_cut_in here.phase b.side ≡ false → ⊥
  unfolding begun
  not_later o s c =
      let g = goes_on_then o s in
      let n = holds_some here.phase.state here.named here.heard o (kept_of before).holds in
      let x = basics before in
      let k = sum_is here.heard 1 (omega (arith, x.heard, x.few, x.bound)) in
      ⊎_elim (λ z. omega (arith, x.heard)) (λ z. omega (arith, x.heard)) (byte_named (begun here b) b here.mark c)

  -- it may have cut in: then only it is held
  one_left : held_in ours (before ▷ b) ≡ 1
  unfolding held_of
  one_left =
      let h = held_is (before ▷ b) in
      let y = basics (before ▷ b) in
      let w = byte_longer before b number kind in
      omega (arith, alone, y.heard)

  abbrev Alone : Type 0
  Alone = (held_in ours before ≡ 0) ⊎ (20_000 < (gap_before (taken_of before) b).0)
      ⊎ ((of_quick_car t.pair ≡ true) × (b.side ≡ Unit) × (held_in ours (before ▷ b) ≡ 1))

  was_alone : Alone
  was_alone =
      open_or Alone here.phase.state (session_at i session).fits.connected
      (λ o. by_silence o (is_silent (gap_of here.mark b.start)) refl) (λ q. inl (quiet_holds before b t i session q))
    where
      by_cut : is_open here.phase.state ≡ true → is_silent (gap_of here.mark b.start) ≡ false → (c : Bool) → is_cut_in here.phase b.side ≡ c → Alone
      by_cut o s true c =
          let x = cuts_by before b (reports_to ours before b) here.mark t (run_at here) (session_at i session) c kind in
          inr (inr (x.0, x.1, one_left))
      by_cut o s false c = absurd (not_later o s c)

      by_silence : is_open here.phase.state ≡ true → (c : Bool) → is_silent (gap_of here.mark b.start) ≡ c → Alone
      by_silence o true s = inr (inl (subst (λ (g : Micros). 20_000 < g.0) (same_gap before b t i session) ((silent_is (gap_of here.mark b.start)).0 s)))
      by_silence o false s = by_cut o s (is_cut_in here.phase b.side) refl

  opened_in : OpensIn ours before b t
  opened_in = record {
    session = session;
    kind = kind;
    number = number;
    alone = was_alone;
    lasts = λ x. up (tells_says down_report idle_over (reports_to ours before b) ((downs_exactly before b t i session).idle.1 (number, x)));
  }

came_by : (before : Log) (b : Event) (u : Talk) → InBytes before → Session ours (before ▷ b) u → b.kind ≡ Byte → number_after (taken_of before) b ≡ taken
    → (after ours (before ▷ b)).link.named ≡ length (heard_in before) → Came before b u
came_by before b u i (opens {r = r} w n) k m a =
    let x = ours_opens before b r w n in
    absurd (not_connecting before b m k (connected_quiet before b x.number x.connects) a)
came_by before b u i (lasts {t = t} front stays) k m a =
    let o = opened_in before b t i front stays k m a in
    let x = opening before b t i o in
    record { talk = t; opens = o; alike = x.alike; reply = x.reply }

pub came : (before : Log) (b : Event) (u : Talk) → InBytes before → inner.FirstOf u before b → Came before b u
came before b u i f = came_by before b u i f.session f.kind f.number f.alone

-- ---- EARLY OR STRAY
begins_bytes : {front es : Log} → Begins front es → InBytes es → InBytes front
unfolding InBytes
begins_bytes whole i = i
begins_bytes (more b) i = begins_bytes b i.0

pub front_bytes : {before es : Log} {b : Event} → Begins (before ▷ b) es → InBytes es → InBytes before
unfolding InBytes
front_bytes x i = (begins_bytes x i).0

turned_in : (es : Log) (r : Report) → InBytes es → inner.Turned es r → Turns ours es r
turned_in es r i x =
    let c = came x.before x.byte x.talk (front_bytes x.begins i) x.first in
    let gap = gap_before (taken_of x.before) x.byte in
    record {
      first = record { before = x.before; byte = x.byte; talk = c.talk; begins = x.begins; opens = c.opens; index = x.index };
      early = subst₂ (λ (w : Windows) (k : Reply). ((r.number ≡ damage_report) × (r.reason ≡ early)) ↔ EarlyBy w k gap x.byte) c.alike.windows c.reply
          x.early;
      stray = subst₂ (λ (w : Windows) (k : Reply). ((r.number ≡ damage_report) × (r.reason ≡ stray)) ↔ StrayBy w k gap x.byte) c.alike.windows c.reply
          x.stray;
    }

-- A MESSAGE'S FIRST BYTE WAS EARLY OR STRAY exactly if its report says so
pub turns_exactly : (es : Log) (e : Event) (r : Report) → InBytes (es ▷ e) → Among r (reports_to ours es e)
    → (r.number ≡ frame_report) ⊎ (r.number ≡ damage_report) → Turns ours (es ▷ e) r
turns_exactly es e r i a n = turned_in (es ▷ e) r i (turns_behind es e r i a n)

-- ---- A MESSAGE by the session before its first byte and by the one after it: their key bytes and windows are the same
record Said (t : Talk) (b : Event) (log : Log) (bytes : List ℕ) : Type 0 where
  talk : Talk
  pair : talk.pair ≡ t.pair
  spoken : Speaks ours talk b log bytes

said_first : (before : Log) (b : Event) (u : Talk) → inner.Starts u before b → Came before b u → Said u b (before ▷ b) (b.value ∷ [])
said_first before b u s c =
    let gap = gap_before (taken_of before) b in
    record {
      talk = c.talk;
      pair = sym c.alike.pair;
      spoken = begins (record {
        opens = c.opens;
        timely = subst₂ (λ (w : Windows) (k : Reply). EarlyBy w k gap b → ⊥) c.alike.windows c.reply s.timely;
        expected = subst₂ (λ (w : Windows) (k : Reply). StrayBy w k gap b → ⊥) c.alike.windows c.reply s.expected;
      });
    }

other_pair : {p q : Pair} (bytes : List ℕ) → p ≡ q → (ends_itself q bytes ≡ true → ⊥) → ends_itself p bytes ≡ true → ⊥
other_pair bytes e n x = n (sym (ap (λ (k : Pair). ends_itself k bytes) e) ∙ x)

said : {t : Talk} {b : Event} {log : Log} {bytes : List ℕ} → InBytes log → inner.Speaking t b log bytes → Said t b log bytes
unfolding InBytes
said {t = t} {b = b} i (inner.begins {before = before} s) = said_first before b t s (came before b t i.0 s.first)
said i (inner.refused s n) = let x = said i.0 s in record { talk = x.talk; pair = x.pair; spoken = refused x.spoken n }
said i (inner.waits s n k m) = let x = said i.0 s in record { talk = x.talk; pair = x.pair; spoken = waits x.spoken n k m }
said i (inner.grows {bytes = front} s r n k d m) =
    let x = said i.0 s in record { talk = x.talk; pair = x.pair; spoken = grows x.spoken (other_pair front x.pair r) n k d m }

pub record Heard (t : Talk) (b : Event) (log : Log) (bytes : List ℕ) : Type 0 where
  pub talk : Talk
  pub pair : talk.pair ≡ t.pair
  pub spoken : inner.Speaking talk b log bytes

pub heard : {t : Talk} {b : Event} {log : Log} {bytes : List ℕ} → InBytes log → Speaks ours t b log bytes → Heard t b log bytes
unfolding InBytes
heard {t = t} {b = b} i (begins {before = before} o) =
    let x = opening before b t i.0 o.opens in
    let gap = gap_before (taken_of before) b in
    record {
      talk = after_it before b t i.0 o.opens;
      pair = x.alike.pair;
      spoken = inner.begins (record {
        first = first_behind before b t i.0 o.opens;
        timely = subst₂ (λ (w : Windows) (k : Reply). EarlyBy w k gap b → ⊥) (sym x.alike.windows) (sym x.reply) o.timely;
        expected = subst₂ (λ (w : Windows) (k : Reply). StrayBy w k gap b → ⊥) (sym x.alike.windows) (sym x.reply) o.expected;
      });
    }
heard i (refused s n) = let x = heard i.0 s in record { talk = x.talk; pair = x.pair; spoken = inner.refused x.spoken n }
heard i (waits s n k m) = let x = heard i.0 s in record { talk = x.talk; pair = x.pair; spoken = inner.waits x.spoken n k m }
heard i (grows {bytes = front} s r n k d m) =
    let x = heard i.0 s in record { talk = x.talk; pair = x.pair; spoken = inner.grows x.spoken (other_pair front x.pair r) n k d m }

-- whether a message is over goes by its key bytes
abbrev OverBy : Pair → Event → Log → Event → Type 0
OverBy pair b es e =
    (of_car pair ≡ true)
    × ((20_000 < (gap_before (taken_of es) e).0) ⊎ ((of_quick_car pair ≡ true) × (b.side ≡ Tester) × (e.kind ≡ Byte) × (e.side ≡ Unit)))

-- A FRAME IS REPORTED exactly if a byte ends a message of the session in it, or a car's message that is one is over, and the report names its bytes
pub frames_exactly : (es : Log) (e : Event) (bytes : List ℕ) → InBytes (es ▷ e)
    → ReportsFrame (heard_in (es ▷ e)) (reports_to ours es e) bytes ↔ EndsInFrame ours es e bytes
unfolding InBytes
frames_exactly es e bytes i = (
  λ r. let x = (frames_behind es e bytes i).0 r in
      ⊎_elim
      (λ y. let m = said i y.0 in
      record {
        talk = m.talk;
        first = x.first;
        number = x.number;
        frame = ap (λ (k : Pair). is_frame k x.first.side bytes) m.pair ∙ x.frame;
        ends = inl (m.spoken, y.1, ap (λ (k : Pair). ends_itself k bytes) m.pair ∙ y.2);
      })
      (λ y. let m = said i.0 y.0 in
      record {
        talk = m.talk;
        first = x.first;
        number = x.number;
        frame = ap (λ (k : Pair). is_frame k x.first.side bytes) m.pair ∙ x.frame;
        ends = inr (m.spoken, subst (λ (k : Pair). OverBy k x.first es e) (sym m.pair) y.1);
      })
      x.ends,
  λ x. (frames_behind es e bytes i).1
      (⊎_elim
      (λ y. let m = heard i y.0 in
      record {
        talk = m.talk;
        first = x.first;
        number = x.number;
        frame = ap (λ (k : Pair). is_frame k x.first.side bytes) m.pair ∙ x.frame;
        ends = inl (m.spoken, y.1, ap (λ (k : Pair). ends_itself k bytes) m.pair ∙ y.2);
      })
      (λ y. let m = heard i.0 y.0 in
      record {
        talk = m.talk;
        first = x.first;
        number = x.number;
        frame = ap (λ (k : Pair). is_frame k x.first.side bytes) m.pair ∙ x.frame;
        ends = inr (m.spoken, subst (λ (k : Pair). OverBy k x.first es e) (sym m.pair) y.1);
      })
      x.ends),
)

-- ---- what a car's message that goes on says of the link, and what the link says of it
pub speaks_car : (t : Talk) (b : Event) (es : Log) (bytes : List ℕ) → InBytes es → Speaks ours t b es bytes → of_car t.pair ≡ true → HoldsCar t b es bytes
speaks_car t b es bytes i s c =
    let m = heard i s in
    let x = holds_car m.talk b es bytes i m.spoken (ap of_car m.pair ∙ c) in
    record {
      held = x.held;
      whose = x.whose;
      pair = x.pair ∙ m.pair;
      right = λ r. x.right (ap (λ (k : Pair). is_frame k b.side bytes) m.pair ∙ r);
    }

-- a message that the link holds is one of the history
pub record HeldHere (es : Log) : Type 0 where
  pub talk : Talk
  pub first : Event
  pub bytes : List ℕ
  pub message : Speaks ours talk first es bytes
  pub whose : (after ours es).link.phase.message.side ≡ first.side
  pub pair : talk.pair ≡ (after ours es).link.phase.start.pair

pub speaks_held : (es : Log) (t : Talk) → InBytes es → Session ours es t → (after ours es).link.phase.state ≡ Held → HeldHere es
speaks_held es t i s h =
    let a = session_at i s in
    let front = a.opened (held_is_state h).1 in
    let x = front.held (held_is_state h).0 in
    let m = said i x.spoken in
    record {
      talk = m.talk;
      first = front.byte;
      bytes = x.head ∷ x.rest;
      message = m.spoken;
      whose = x.whose;
      pair = m.pair ∙ sym a.fits.pair;
    }

-- a message that the link holds and has judged to be right
pub record RightHere (es : Log) (e : Event) : Type 0 where
  pub talk : Talk
  pub first : Event
  pub bytes : List ℕ
  pub message : Speaks ours talk first es bytes
  pub whose : (after ours es).link.phase.message.side ≡ first.side
  pub pair : talk.pair ≡ (after ours es).link.phase.start.pair
  pub car : of_car talk.pair ≡ true
  pub frame : is_frame talk.pair first.side bytes ≡ true

pub right_here : (es : Log) (e : Event) (t : Talk) → InBytes es → Session ours es t → (after ours es).link.phase.state ≡ Held
    → eqb (end_reason (after ours es).link.phase.message) no_reason ≡ true → RightHere es e
unfolding is_frame
right_here es e t i s h r =
    let p = (after ours es).link.phase in
    let a = session_at i s in
    let front = a.opened (held_is_state h).1 in
    let x = front.held (held_is_state h).0 in
    let m = said i x.spoken in
    let own = (right_asks p (fitting_of es) r).0 in
    let q : m.talk.pair ≡ p.start.pair = m.pair ∙ sym a.fits.pair in
    let c : of_car m.talk.pair ≡ true = ap of_car q ∙ own in
    let v = car_verdict p.start.pair front.byte.side x.head x.rest p.message x.gone own in
    record {
      talk = m.talk;
      first = front.byte;
      bytes = x.head ∷ x.rest;
      message = m.spoken;
      whose = x.whose;
      pair = q;
      car = c;
      frame = rw c (ap (λ (k : ℕ). eqb k no_reason) (sym v) ∙ r);
    }

-- ---- THE LINK IS STOPPED exactly by a message of the unit that ends in a frame and answers a stop
-- a message's bytes come from one side
speaks_side : {t : Talk} {b e : Event} {es : Log} {bytes : List ℕ} → Speaks ours t b (es ▷ e) bytes → e.kind ≡ Byte → number_after (taken_of es) e ≡ taken
    → e.side ≡ b.side
unfolding is_byte
speaks_side (begins o) k n = refl
speaks_side (refused s x) k n = absurd (x n)
speaks_side (waits s x t i) k n = absurd (false≢true (sym (ap is_byte t) ∙ ap is_byte k))
speaks_side (grows s r x y d i) k n = d

-- a car's frame stops nothing
no_car_stop : (es : Log) (e : Event) (t : Talk) (b : Event) (u : Talk) (bytes q : List ℕ) → InBytes es → Session ours es t → Speaks ours u b es bytes → of_car u.pair ≡ true
    → stops q (data_of t.pair.kb1 t.pair.kb2 bytes) ≡ true → ⊥
no_car_stop es e t b u bytes q i s m c z =
    let x = speaks_car u b es bytes i m c in
    let k : of_car t.pair ≡ true = ap of_car (sym (session_at i s).fits.pair ∙ x.pair) ∙ c in
    false≢true (sym (never_stops q) ∙ (sym (ap (stops q) (car_data t.pair bytes k)) ∙ z))

pub stops_exactly : (es : Log) (e : Event) (t : Talk) → InBytes (es ▷ e) → Session ours es t
    → Tells down_report stopped (reports_to ours es e) ↔ AnswersStop ours t es e
unfolding InBytes
stops_exactly es e t i s = (
  λ x.
      let a = (stops_behind es e t i s).0 x in
      let f = (frames_exactly es e _ i).0 (record { report = a.report; made = a.made; number = a.number; names = refl }) in
      record {
        bytes = _;
        ends = f;
        unit = ⊎_elim (λ y. sym (speaks_side y.0 y.1 f.number) ∙ a.unit)
            (λ y. absurd (no_car_stop es e t f.first f.talk _ _ i.0 s y.0 y.1.0 a.stop)) f.ends;
        stop = a.stop;
      },
  λ x.
      let f = x.ends in
      let r = (frames_exactly es e x.bytes i).1 f in
      let stop = ap (λ (l : List ℕ). stops (pending_in t.pair t.frames) (data_of t.pair.kb1 t.pair.kb2 l)) r.names ∙ x.stop in
      (stops_behind es e t i s).1
      (record {
        report = r.report;
        made = r.made;
        number = r.number;
        unit = ⊎_elim (λ y. speaks_side y.0 y.1 f.number ∙ x.unit)
            (λ y. absurd (no_car_stop es e t f.first f.talk _ _ i.0 s y.0 y.1.0 x.stop)) f.ends;
        stop = stop;
      }),
)
