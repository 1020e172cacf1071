-- THE RULES as one data type. At each moment of an event's handling (`Moment`, in document 01's order) the link makes one move, and `Rule` says which moves it
-- can be: none, or that of a rule, with the condition on which the rule makes it. Each definition of Moves.antt is proved here to make one of them, so that
-- what is to be shown of every move of a link is shown by the cases of `Rule`; no other proof need take the definitions apart for it.
-- Assumes nothing.
use Prim.Native.Nat.{ℕ}
use mathlib.Core.Bool.{true, false, not, ◌&&◌}
use mathlib.Core.Logic.{◌⊎◌, inl, inr}
use mathlib.Core.Path.{◌≡◌, refl, sym, ap, ◌∙◌, subst}
use native.Mathlib.Omega.{arith}
use borrow.Author.Tests.{eqb-true, not-true, not-false}
use lib.Dec.{eqb}
use Rattle.base.specs.Reports.{frame_report, damage_report, connected_report, failed_report, outside_report, no_reply_report, down_report, not_idle_report}
use Rattle.base.specs.Reports.{no_reason, closed, window_over, wrong_low, stopped, idle_over, dropped, restarted}
use Rattle.base.proofs.Tests.{and_split, by_test}
use Rattle.units.specs.Units.{micros, gap_of}
use Rattle.units.specs.declared.Micros.{Micros}
use Rattle.timing.specs.Timing.{is_passed}
use Rattle.events.specs.declared.Kind.{Kind}
use Rattle.events.specs.declared.Kind.TheVariants.{Address, WakeUp, Byte, Tick, Drop, Other}
use Rattle.events.specs.declared.Event.{Event}
use Rattle.starts.specs.Starts.{judged, is_over, is_last, onward, slow_start, fast_start}
use Rattle.talk.specs.Talk.{is_first, begun_by, later_reason, end_reason, is_sum, grown, is_stopped}
use Rattle.phases.specs.Phases.{is_down, is_starting, is_quiet, is_held, is_open, down, off, starting, connected, holding, damaged, settled, framed}
use Rattle.phases.specs.declared.State.{State}
use Rattle.phases.specs.declared.State.TheVariants.{Down, Starting, Quiet, Held, Damage}
use Rattle.phases.specs.declared.Phase.{Phase}
use Rattle.phases.proofs.StateTests.{is_down_lem, is_starting_lem, is_quiet_lem, is_held_lem, starting_apart, down_is, quiet_is, held_is, starting_is}
use Rattle.moves.specs.Moves.{still, makes, loss_reason, is_right, ended, is_silent, after_silence, is_cut_in, before_byte, after_p2, after_p3, since_origin, after_window, closing, leaving}
use Rattle.moves.specs.Moves.{is_idle, starting_slow, is_good_low, starting_fast, start_byte, reason_at_first, first_byte, later_byte, byte_in, after_byte, after_stop}
use Rattle.moves.specs.declared.Move.{Move}

-- the moments of an event's handling, each the one before a rule is asked: time passes (four), what is open is closed, a connected link is left, a start is judged;
-- or a byte comes and may end what is held, is heard, acts, and then a stop is looked for; and the end
pub data Moment : Type 0 where
  at_silence : Moment
  at_p2 : Moment
  at_p3 : Moment
  at_window : Moment
  at_closing : Moment
  at_leaving : Moment
  at_start : Moment
  at_cut : Moment
  at_hearing : Moment
  at_byte : Moment
  at_stop : Moment
  at_end_lem : Moment

unfoldable pub next : Moment → Moment
next at_silence = at_p2
next at_p2 = at_p3
next at_p3 = at_window
next at_window = at_closing
next at_closing = at_leaving
next at_leaving = at_start
next at_start = at_end_lem
next at_cut = at_hearing
next at_hearing = at_byte
next at_byte = at_stop
next at_stop = at_end_lem
next at_end_lem = at_end_lem

-- an event that closes what is open, and the reason that a connected link is then left for
pub data Closes (e : Event) : ℕ → Type 0 where
  by_drop : e.kind ≡ Drop → Closes e dropped
  by_address : e.kind ≡ Address → Closes e restarted
  by_wake_up : e.kind ≡ WakeUp → Closes e restarted

abbrev pub reason_of : Kind → ℕ
reason_of Drop = dropped
reason_of Address = restarted
reason_of WakeUp = restarted
reason_of Byte = no_reason
reason_of Tick = no_reason
reason_of Other = no_reason

closes_for : {e : Event} {reason : ℕ} → Closes e reason → reason ≡ reason_of e.kind
closes_for (by_drop k) = sym (ap reason_of k)
closes_for (by_address k) = sym (ap reason_of k)
closes_for (by_wake_up k) = sym (ap reason_of k)

drop_of : {e : Event} {reason : ℕ} → Closes e reason → reason ≡ dropped → e.kind ≡ Drop
drop_of (by_drop k) z = k
drop_of (by_address k) z = absurd (omega arith)
drop_of (by_wake_up k) z = absurd (omega arith)

module _ (mark : Micros) (e : Event) (p : Phase) where
  abbrev gap : Micros
  gap = gap_of mark e.start

  -- how long after its origin an initialization's byte comes, and what it is judged to be
  abbrev since : Micros
  since = since_origin p mark e.start

  abbrev verdict : ℕ
  verdict = judged p.start e.side e.value since

  -- no rule applies
  abbrev pub Unmoved : Moment → Type 0
  Unmoved at_silence = (is_open p.state && is_silent gap) ≡ false
  Unmoved at_p2 = (is_quiet p.state && is_first p.reply && is_passed p.windows.p2max gap) ≡ false
  Unmoved at_p3 = (is_quiet p.state && not (is_first p.reply) && is_passed p.windows.p3max gap) ≡ false
  Unmoved at_window = (is_starting p.state && is_over p.start since) ≡ false
  Unmoved at_closing = (is_open p.state ≡ false) × (is_starting p.state ≡ false)
  Unmoved at_leaving = (is_quiet p.state ≡ false) × ((is_down p.state && eqb (reason_of e.kind) dropped) ≡ false)
  Unmoved at_start = ⊥
  Unmoved at_cut = is_cut_in p e.side ≡ false
  Unmoved at_hearing = ⊥
  Unmoved at_byte = p.state ≡ Damage
  Unmoved at_stop = (is_quiet p.state && is_stopped p.request) ≡ false
  Unmoved at_end_lem = ⊥

  pub data Rule : Moment → Move → Type 0 where
    rests : {k : Moment} → Unmoved k → Rule k (still p)
    -- time passes
    ends_right : p.state ≡ Held → is_silent gap ≡ true → eqb (end_reason p.message) no_reason ≡ true → Rule at_silence (makes frame_report no_reason (framed p))
    breaks_off : is_open p.state ≡ true → is_silent gap ≡ true → is_right p ≡ false
        → Rule at_silence (makes damage_report (loss_reason p (end_reason p.message)) (settled p))
    waited : p.state ≡ Quiet → is_first p.reply ≡ true → is_passed p.windows.p2max gap ≡ true
        → Rule at_p2 (makes no_reply_report no_reason (settled p))
    idled : p.state ≡ Quiet → is_first p.reply ≡ false → is_passed p.windows.p3max gap ≡ true → Rule at_p3 (makes down_report idle_over (down (micros 0)))
    expires : p.state ≡ Starting → is_over p.start since ≡ true → Rule at_window (makes failed_report window_over off)
    -- A, W or D closes
    cuts_off : is_open p.state ≡ true → Rule at_closing (makes damage_report (loss_reason p closed) (settled p))
    aborts : p.state ≡ Starting → Rule at_closing (makes failed_report closed off)
    leaves : {reason : ℕ} → Closes e reason → p.state ≡ Quiet → Rule at_leaving (makes down_report reason off)
    drops : p.state ≡ Down → e.kind ≡ Drop → Rule at_leaving (still off)
    -- a start
    starts_slow : e.kind ≡ Address → is_idle p.idle mark e.start ≡ true → Rule at_start (still (starting (micros 0) (slow_start e.value)))
    starts_fast : e.kind ≡ WakeUp → is_idle p.idle mark e.start ≡ true → is_good_low e.start e.end ≡ true
        → Rule at_start (still (starting e.start fast_start))
    hurries : (e.kind ≡ Address) ⊎ (e.kind ≡ WakeUp) → is_idle p.idle mark e.start ≡ false → Rule at_start (makes not_idle_report no_reason (down p.idle))
    low : e.kind ≡ WakeUp → is_idle p.idle mark e.start ≡ true → is_good_low e.start e.end ≡ false → Rule at_start (makes failed_report wrong_low off)
    -- a byte cuts in
    cut_right : is_cut_in p e.side ≡ true → eqb (end_reason p.message) no_reason ≡ true → Rule at_cut (makes frame_report no_reason (framed p))
    cut_wrong : is_cut_in p e.side ≡ true → eqb (end_reason p.message) no_reason ≡ false
        → Rule at_cut (makes damage_report (end_reason p.message) (settled p))
    -- a byte of a link that is down, of an initialization, ..
    strays : p.state ≡ Down → Rule at_byte (makes outside_report no_reason (down p.idle))
    misses : p.state ≡ Starting → eqb verdict no_reason ≡ false → Rule at_byte (makes failed_report verdict off)
    connects : p.state ≡ Starting → eqb verdict no_reason ≡ true → is_last p.start.stage ≡ true
        → Rule at_byte (makes connected_report no_reason (connected p.start))
    goes_on : p.state ≡ Starting → eqb verdict no_reason ≡ true → is_last p.start.stage ≡ false
        → Rule at_byte (still (starting p.fall (onward p.start e.value)))
    -- .. the first of a message, ..
    opens : p.state ≡ Quiet → eqb (reason_at_first p e.side e.value gap) no_reason ≡ true → Rule at_byte (still (holding p (begun_by p.start.pair e.side e.value)))
    errs : p.state ≡ Quiet → eqb (reason_at_first p e.side e.value gap) no_reason ≡ false
        → Rule at_byte (still (damaged p (reason_at_first p e.side e.value gap)))
    -- .. and a later one
    breaks : p.state ≡ Held → eqb (later_reason p.message e.side e.value) no_reason ≡ false
        → Rule at_byte (still (damaged p (later_reason p.message e.side e.value)))
    frames : p.state ≡ Held → eqb (later_reason p.message e.side e.value) no_reason ≡ true → is_sum p.message.part ≡ true
        → Rule at_byte (makes frame_report no_reason (framed p))
    grows : p.state ≡ Held → eqb (later_reason p.message e.side e.value) no_reason ≡ true → is_sum p.message.part ≡ false
        → Rule at_byte (still (holding p (grown p.message e.value)))
    -- a stop
    stops : p.state ≡ Quiet → is_stopped p.request ≡ true → Rule at_stop (makes down_report stopped (down p.windows.p3min))

  -- ---- time passes
  by_end : is_open p.state ≡ true → is_silent gap ≡ true → Rule at_silence (ended p)
  unfolding ended is_right
  by_end o s =
      by_test (Rule at_silence) (is_right p) (λ t. let x = and_split (is_held p.state) _ t in ends_right (is_held_lem _ x.0) s x.1) (breaks_off o s)

  pub by_silence : Rule at_silence (after_silence p gap)
  unfolding after_silence
  by_silence = by_test (Rule at_silence) (is_open p.state && is_silent gap) (λ t. let x = and_split _ _ t in by_end x.0 x.1) rests

  -- a byte that cuts in finds a message held
  pub cut_held : is_cut_in p e.side ≡ true → p.state ≡ Held
  unfolding is_cut_in
  cut_held t = is_held_lem _ (and_split (is_held p.state) _ (and_split _ _ (and_split _ _ t).0).0).0

  by_cut_end : is_cut_in p e.side ≡ true → Rule at_cut (ended p)
  unfolding ended is_right loss_reason
  by_cut_end t =
      rw (held_is (cut_held t)).0
      (by_test (Rule at_cut) (eqb (end_reason p.message) no_reason) (cut_right t) (cut_wrong t))

  pub by_cut : Rule at_cut (before_byte p e.side)
  unfolding before_byte
  by_cut = by_test (Rule at_cut) (is_cut_in p e.side) by_cut_end rests

  pub by_p2 : Rule at_p2 (after_p2 p gap)
  unfolding after_p2
  by_p2 =
      by_test (Rule at_p2) (is_quiet p.state && is_first p.reply && is_passed p.windows.p2max gap)
      (λ t. let x = and_split _ _ t in
      let y = and_split _ _ x.0 in
      waited (is_quiet_lem _ y.0) y.1 x.1) rests

  pub by_p3 : Rule at_p3 (after_p3 p gap)
  unfolding after_p3
  by_p3 =
      by_test (Rule at_p3) (is_quiet p.state && not (is_first p.reply) && is_passed p.windows.p3max gap)
      (λ t. let x = and_split _ _ t in
      let y = and_split _ _ x.0 in
      idled (is_quiet_lem _ y.0) (not-true (is_first p.reply) y.1) x.1) rests

  pub by_window : Rule at_window (after_window p mark e.start)
  unfolding after_window
  by_window =
      by_test (Rule at_window) (is_starting p.state && is_over p.start since) (λ t. let x = and_split _ _ t in expires (is_starting_lem _ x.0) x.1) rests

  -- ---- A, W or D closes
  pub by_closing : Rule at_closing (closing p)
  unfolding closing
  by_closing =
      by_test (Rule at_closing) (is_open p.state) cuts_off (λ o. by_test (Rule at_closing) (is_starting p.state) (λ s. aborts (is_starting_lem _ s)) (λ s. rests (o, s)))

  pub by_leaving : {reason : ℕ} → Closes e reason → Rule at_leaving (leaving p reason)
  unfolding leaving
  by_leaving {reason = reason} c =
      by_test (Rule at_leaving) (is_quiet p.state) (λ q. leaves c (is_quiet_lem _ q))
      (λ q. by_test (Rule at_leaving) (is_down p.state && eqb reason dropped)
      (λ t. let x = and_split _ _ t in drops (is_down_lem _ x.0) (drop_of c (eqb-true reason dropped x.1)))
      (λ f. rests (q, subst (λ (k : ℕ). (is_down p.state && eqb k dropped) ≡ false) (closes_for c) f)))

  -- ---- a start
  pub by_slow : e.kind ≡ Address → Rule at_start (starting_slow p.idle e.value mark e.start)
  unfolding starting_slow
  by_slow k = by_test (Rule at_start) (is_idle p.idle mark e.start) (starts_slow k) (hurries (inl k))

  pub by_fast : e.kind ≡ WakeUp → Rule at_start (starting_fast p.idle mark e.start e.end)
  unfolding starting_fast
  by_fast k =
      let idle = is_idle p.idle mark e.start in
      by_test (Rule at_start) (not idle) (λ t. hurries (inr k) (not-true idle t))
      (λ f. let i = not-false idle f in by_test (Rule at_start) (is_good_low e.start e.end) (starts_fast k i) (low k i))

  -- ---- a byte
  by_start : p.state ≡ Starting → Rule at_byte (start_byte p e.side e.value since)
  unfolding start_byte
  by_start s =
      by_test (Rule at_byte) (not (eqb verdict no_reason)) (λ t. misses s (not-true (eqb verdict no_reason) t))
      (λ f. let r = not-false (eqb verdict no_reason) f in by_test (Rule at_byte) (is_last p.start.stage) (connects s r) (goes_on s r))

  by_first : p.state ≡ Quiet → Rule at_byte (still (first_byte p e.side e.value gap))
  unfolding first_byte
  by_first q = by_test (λ (x : Phase). Rule at_byte (still x)) (eqb (reason_at_first p e.side e.value gap) no_reason) (opens q) (errs q)

  by_later : p.state ≡ Held → Rule at_byte (later_byte p e.side e.value)
  unfolding later_byte
  by_later h =
      let wrong = eqb (later_reason p.message e.side e.value) no_reason in
      by_test (Rule at_byte) (not wrong) (λ t. breaks h (not-true wrong t))
      (λ f. let r = not-false wrong f in by_test (Rule at_byte) (is_sum p.message.part) (frames h r) (grows h r))

  by_state : (st : State) → p.state ≡ st → Rule at_byte (byte_in st p e.side e.value mark e.start)
  by_state Down q = strays q
  by_state Starting q = by_start q
  by_state Quiet q = by_first q
  by_state Held q = by_later q
  by_state Damage q = rests q

  pub by_byte : Rule at_byte (after_byte p e.side e.value mark e.start)
  unfolding after_byte
  by_byte = by_state p.state refl

  pub by_stop : Rule at_stop (after_stop p)
  unfolding after_stop
  by_stop = by_test (Rule at_stop) (is_quiet p.state && is_stopped p.request) (λ t. let x = and_split _ _ t in stops (is_quiet_lem _ x.0) x.1) rests

  -- ---- AT EACH MOMENT ONE MOVE: the one that the definitions make, whichever rule it is told by
  abbrev start_of : Kind → Move
  start_of Address = starting_slow p.idle e.value mark e.start
  start_of WakeUp = starting_fast p.idle mark e.start e.end
  start_of Byte = still p
  start_of Tick = still p
  start_of Drop = still p
  start_of Other = still p

  abbrev pub move_at : Moment → Move
  move_at at_silence = after_silence p gap
  move_at at_p2 = after_p2 p gap
  move_at at_p3 = after_p3 p gap
  move_at at_window = after_window p mark e.start
  move_at at_closing = closing p
  move_at at_leaving = leaving p (reason_of e.kind)
  move_at at_start = start_of e.kind
  move_at at_cut = before_byte p e.side
  move_at at_hearing = still p
  move_at at_byte = after_byte p e.side e.value mark e.start
  move_at at_stop = after_stop p
  move_at at_end_lem = still p

  byte_of : (st : State) → p.state ≡ st → byte_in st p e.side e.value mark e.start ≡ move_at at_byte
  unfolding after_byte
  byte_of st q = sym (ap (λ (x : State). byte_in x p e.side e.value mark e.start) q)

  rests_at : (k : Moment) → Unmoved k → still p ≡ move_at k
  unfolding after_silence before_byte after_p2 after_p3 after_window closing leaving after_stop
  rests_at at_silence u = rw u refl
  rests_at at_p2 u = rw u refl
  rests_at at_p3 u = rw u refl
  rests_at at_window u = rw u refl
  rests_at at_closing u = rw (u.0, u.1) refl
  rests_at at_leaving u = rw (u.0, u.1) refl
  rests_at at_start u = absurd u
  rests_at at_cut u = rw u refl
  rests_at at_hearing u = absurd u
  rests_at at_byte u = byte_of Damage u
  rests_at at_stop u = rw u refl
  rests_at at_end_lem u = absurd u

  pub is_move : {k : Moment} {m : Move} → Rule k m → m ≡ move_at k
  unfolding after_silence before_byte ended is_right loss_reason after_p2 after_p3 after_window closing leaving starting_slow starting_fast start_byte first_byte later_byte after_stop
  is_move (rests {k = k} u) = rests_at k u
  is_move (ends_right h s r) = rw ((held_is h).1, s, (held_is h).0, r) refl
  is_move (breaks_off o s r) = rw (o, s, r) refl
  is_move (cut_right c r) = rw (c, (held_is (cut_held c)).0, r) refl
  is_move (cut_wrong c r) = rw (c, (held_is (cut_held c)).0, r) refl
  is_move (waited q f t) = rw (quiet_is q, f, t) refl
  is_move (idled q f t) = rw (quiet_is q, f, t) refl
  is_move (expires s o) = rw (starting_is s, o) refl
  is_move (cuts_off o) = rw o refl
  is_move (aborts s) = rw ((starting_apart p.state (starting_is s)).1, starting_is s) refl
  is_move (leaves c q) = ap (λ (r : ℕ). makes down_report r off) (closes_for c) ∙ rw (quiet_is q) refl
  is_move (drops d k) = rw ((down_is d).1, (down_is d).0, ap reason_of k) refl
  is_move (starts_slow k i) = rw (ap start_of k, i) refl
  is_move (starts_fast k i l) = rw (ap start_of k, i, l) refl
  is_move (hurries (inl k) i) = rw (ap start_of k, i) refl
  is_move (hurries (inr k) i) = rw (ap start_of k, i) refl
  is_move (low k i l) = rw (ap start_of k, i, l) refl
  is_move (strays d) = byte_of Down d
  is_move (misses s v) = rw v refl ∙ byte_of Starting s
  is_move (connects s v l) = rw (v, l) refl ∙ byte_of Starting s
  is_move (goes_on s v l) = rw (v, l) refl ∙ byte_of Starting s
  is_move (opens q r) = rw r refl ∙ byte_of Quiet q
  is_move (errs q r) = rw r refl ∙ byte_of Quiet q
  is_move (breaks h r) = rw r refl ∙ byte_of Held h
  is_move (frames h r s) = rw (r, s) refl ∙ byte_of Held h
  is_move (grows h r s) = rw (r, s) refl ∙ byte_of Held h
  is_move (stops q r) = rw (quiet_is q, r) refl

  pub one_move : {k : Moment} {m n : Move} → Rule k m → Rule k n → m ≡ n
  one_move u v = is_move u ∙ sym (is_move v)
