-- Four places are enough, on any link: no report of an event is lost; and three are where no message held is right as it stands, as none of a 14230 link is. At each
-- moment so many places may still be needed (`need`): by what is open, for a start or a byte, for a stop. Each rule pays for its report out of them.
-- Assumes nothing.
use Prim.Native.Nat.{ℕ, ◌+◌, ◌≤◌}
use mathlib.Core.Bool.{Bool, true, false, ◌&&◌, false≢true}
use mathlib.Core.List.{List, ◌++◌, append-nil}
use mathlib.Core.Path.{◌≡◌, ◌∙◌, refl, sym, ap}
use native.Mathlib.Omega.{arith}
use lib.Dec.{eqb}
use Rattle.std.specs.Prelude.{if◌then◌else◌}
use Rattle.base.specs.Reports.{no_reason}
use Rattle.base.proofs.Tests.{by_test}
use Rattle.units.specs.declared.Micros.{Micros}
use Rattle.events.specs.Events.{is_tester}
use Rattle.events.specs.declared.Event.{Event}
use Rattle.talk.specs.Talk.{is_first, end_reason}
use Rattle.talk.specs.declared.Reply.{Reply}
use Rattle.talk.specs.declared.Reply.TheVariants.{First, Further}
use Rattle.phases.specs.Phases.{is_held, is_open, down, starting, connected, talking, holding, damaged, settled, asked, answered, timed, framed}
use Rattle.phases.specs.declared.State.{State}
use Rattle.phases.specs.declared.State.TheVariants.{Down, Starting, Quiet, Held, Damage}
use Rattle.phases.specs.declared.Phase.{Phase}
use Rattle.phases.proofs.StateTests.{held_is}
use Rattle.moves.specs.Moves.{is_right}
use Rattle.moves.specs.declared.Move.{Move}
use Rattle.moves.proofs.Rules.{Moment, at_silence, at_p2, at_p3, at_window, at_closing, at_leaving, at_start, at_cut, at_hearing, at_byte, at_stop, at_end_lem, next}
use Rattle.moves.proofs.Rules.{Rule, Unmoved, rests, ends_right, breaks_off, waited, idled, expires, cuts_off, aborts, leaves, drops, starts_slow, starts_fast, hurries, low}
use Rattle.moves.proofs.Rules.{cut_right, cut_wrong, cut_held, strays, misses, connects, goes_on, opens, errs, breaks, frames, grows, stops}
use Rattle.reports.specs.Reporting.{places, listed, report_of, told, moved}
use Rattle.reports.specs.declared.Report.{Report}
use Rattle.reports.specs.declared.Run.{Run}
use Rattle.reports.proofs.Places.{placed}
use Rattle.link.specs.Handling.{begun, handled}
use Rattle.link.specs.Telling.{tells, handled_tells}
use Rattle.link.specs.declared.Link.{Link}
use Rattle.link.proofs.Walk.{moved_phase, event_walk}

-- ---- a move makes one report or none
abbrev made : Move → ℕ
made m = if eqb m.number 0 then 0 else 1

record Made (r : Run) (m : Move) : Type 0 where
  grows : listed (moved r m).reports ≡ listed r.reports ++ tells r m
  count : (moved r m).reports.n ≡ r.reports.n + made m

made_by : (b : Bool) (r : Run) (m : Move) → eqb m.number 0 ≡ b → r.reports.n + made m ≤ places → Made r m
unfolding moved told tells
made_by true r m e h = record { grows = rw e (sym (append-nil (listed r.reports))); count = rw e (omega arith) }
made_by false r m e h =
    let k : r.reports.n + 1 ≤ places = rw e at h in
    let p = placed r.reports (report_of r m.number m.reason) (omega arith) in
    record { grows = rw e p.last; count = rw e p.more }

-- ---- THE PLACES THAT MAY STILL BE NEEDED: as time passes and A, W or D closes (a message or damage ends and then the link is left; a first reply stays out and
-- then the link is idle; an initialization fails; and where the message was right, its frame comes before the reply stays out) ..
unfoldable to_end : State → Reply → Bool → ℕ
to_end Down reply right = 0
to_end Starting reply right = 1
to_end Quiet reply right = if is_first reply then 2 else 1
to_end Held reply right = if right then 3 else 2
to_end Damage reply right = 2

-- .. for a stop, after a byte that leaves nothing open ..
unfoldable to_stop : State → ℕ
to_stop Down = 0
to_stop Starting = 0
to_stop Quiet = 1
to_stop Held = 0
to_stop Damage = 0

-- .. and in all, with one for a start or a byte
unfoldable need_in : Moment → State → Reply → Bool → ℕ
need_in at_silence st reply right = to_end st reply right + 1
need_in at_p2 st reply right = to_end st reply right + 1
need_in at_p3 st reply right = to_end st reply right + 1
need_in at_window st reply right = to_end st reply right + 1
need_in at_closing st reply right = to_end st reply right + 1
need_in at_leaving st reply right = to_end st reply right + 1
need_in at_start st reply right = 1
need_in at_cut st reply right = to_end st reply right + 1
need_in at_hearing st reply right = to_end st reply right + 1
need_in at_byte st reply right = to_end st reply right + 1
need_in at_stop st reply right = to_stop st
need_in at_end_lem st reply right = 0

-- whether what is held is right as it stands
abbrev right : Phase → Bool
right p = eqb (end_reason p.message) no_reason

abbrev need : Moment → Phase → ℕ
need k p = need_in k p.state p.reply (right p)

-- two at most, and three for a message that is right
to_end_most : (st : State) (reply : Reply) (right : Bool) → to_end st reply right ≤ (if right then 3 else 2)
unfolding to_end
to_end_most Down reply true = omega arith
to_end_most Down reply false = omega arith
to_end_most Starting reply true = omega arith
to_end_most Starting reply false = omega arith
to_end_most Quiet reply true = by_test (λ (k : ℕ). k ≤ 3) (is_first reply) (λ _. omega arith) (λ _. omega arith)
to_end_most Quiet reply false = by_test (λ (k : ℕ). k ≤ 2) (is_first reply) (λ _. omega arith) (λ _. omega arith)
to_end_most Held reply true = omega arith
to_end_most Held reply false = omega arith
to_end_most Damage reply true = omega arith
to_end_most Damage reply false = omega arith

most_three : (right : Bool) → (if right then 3 else 2) ≤ 3
most_three true = omega arith
most_three false = omega arith

to_stop_most : (st : State) → to_stop st ≤ 1
unfolding to_stop
to_stop_most Down = omega arith
to_stop_most Starting = omega arith
to_stop_most Quiet = omega arith
to_stop_most Held = omega arith
to_stop_most Damage = omega arith

open_two : (st : State) (reply : Reply) (right : Bool) → is_open st ≡ true → 2 ≤ to_end st reply right
unfolding is_open to_end
open_two Down reply right o = absurd (false≢true o)
open_two Starting reply right o = absurd (false≢true o)
open_two Quiet reply right o = absurd (false≢true o)
open_two Held reply true o = omega arith
open_two Held reply false o = omega arith
open_two Damage reply right o = omega arith

quiet_some : (reply : Reply) (right : Bool) → 1 ≤ to_end Quiet reply right
unfolding to_end
quiet_some reply right = by_test (λ (k : ℕ). 1 ≤ k) (is_first reply) (λ _. omega arith) (λ _. omega arith)

quiet_two : (reply : Reply) (right : Bool) → to_end Quiet reply right ≤ 2
unfolding to_end
quiet_two reply right = by_test (λ (k : ℕ). k ≤ 2) (is_first reply) (λ _. omega arith) (λ _. omega arith)

two_most : (st : State) (reply : Reply) (right : Bool) → (is_held st && right) ≡ false → to_end st reply right ≤ 2
unfolding to_end is_held
two_most Down reply right n = omega arith
two_most Starting reply right n = omega arith
two_most Quiet reply right n = quiet_two reply right
two_most Held reply true n = absurd (false≢true (sym n))
two_most Held reply false n = omega arith
two_most Damage reply right n = omega arith

-- ---- EACH RULE PAYS for its report, and for what may be needed after it
abbrev Pays : Phase → Moment → Move → Type 0
Pays p k m = made m + need (next k) m.phase ≤ need k p

module _ (mark : Micros) (e : Event) (p : Phase) where
  rest_pays : (k : Moment) → Unmoved mark e p k → 0 + need (next k) p ≤ need k p
  unfolding need_in next to_stop
  rest_pays at_silence u = omega arith
  rest_pays at_p2 u = omega arith
  rest_pays at_p3 u = omega arith
  rest_pays at_window u = omega arith
  rest_pays at_closing u = omega arith
  rest_pays at_leaving u = omega arith
  rest_pays at_start u = absurd u
  rest_pays at_cut u = omega arith
  rest_pays at_hearing u = absurd u
  rest_pays at_byte u = omega (arith, ap to_stop u)
  rest_pays at_stop u = omega arith
  rest_pays at_end_lem u = absurd u

  -- in a state that the rule names
  is : {st : State} → p.state ≡ st → to_end p.state p.reply (right p) ≡ to_end st p.reply (right p)
  is q = ap (λ (st : State). to_end st p.reply (right p)) q

  -- a message held that is right has three, and what its frame leaves two at most
  right_three : p.state ≡ Held → right p ≡ true → to_end p.state p.reply (right p) ≡ 3
  unfolding to_end
  right_three h r = rw (is h, r) refl

  open_some : is_open p.state ≡ true → 2 ≤ to_end p.state p.reply (right p)
  open_some o = open_two p.state p.reply (right p) o

  framed_two : to_end (framed p).state (framed p).reply (right (framed p)) ≤ 2
  unfolding framed asked answered timed talking
  framed_two =
      by_test (λ (q : Phase). to_end q.state q.reply (right q) ≤ 2) (is_tester p.message.side) {x = asked p} {y = answered p}
      (λ _. quiet_two First (right p)) (λ _. quiet_two Further (right p))

  pays : (k : Moment) (m : Move) → Rule mark e p k m → Pays p k m
  unfolding need_in next to_end to_stop is_first down starting connected settled talking holding damaged
  pays k m (rests u) = rest_pays k u
  pays k m (ends_right h s r) = omega (arith, right_three h r, framed_two)
  pays k m (breaks_off o s r) = omega (arith, open_some o)
  pays k m (waited q f t) = omega (arith, is q, ap {B = ℕ} (λ (b : Bool). if b then 2 else 1) f)
  pays k m (idled q f t) = omega (arith, is q, quiet_some p.reply (right p))
  pays k m (expires s o) = omega (arith, is s)
  pays k m (cuts_off o) = omega (arith, open_some o)
  pays k m (aborts s) = omega (arith, is s)
  pays k m (leaves c q) = omega (arith, is q, quiet_some p.reply (right p))
  pays k m (drops d x) = omega arith
  pays k m (starts_slow a i) = omega arith
  pays k m (starts_fast w i l) = omega arith
  pays k m (hurries s i) = omega arith
  pays k m (low w i l) = omega arith
  pays k m (cut_right c r) = omega (arith, right_three (cut_held mark e p c) r, framed_two)
  pays k m (cut_wrong c r) = omega (arith, open_some (held_is (cut_held mark e p c)).1)
  pays k m (strays d) = omega arith
  pays k m (misses s v) = omega arith
  pays k m (connects s v l) = omega (arith, is s)
  pays k m (goes_on s v l) = omega arith
  pays k m (opens q r) = omega arith
  pays k m (errs q r) = omega arith
  pays k m (breaks h r) = omega arith
  pays k m (frames h r s) = omega (arith, open_some (held_is h).1, to_stop_most (framed p).state)
  pays k m (grows h r s) = omega arith
  pays k m (stops q r) = omega (arith, ap to_stop q)

-- ---- so there is room at every moment, in so many places as are needed at first
record Roomy (most : ℕ) (k : Moment) (r : Run) (xs : List Report) : Type 0 where
  all : listed r.reports ≡ xs
  room : r.reports.n + need k r.phase ≤ most

module _ (most : ℕ) (few : most ≤ places) where
  moved_roomy : (mark : Micros) (e : Event) (k : Moment) (r : Run) (xs : List Report) (m : Move) → Rule mark e r.phase k m → Roomy most k r xs
      → Roomy most (next k) (moved r m) (xs ++ tells r m)
  moved_roomy mark e k r xs m u i =
      let y = pays mark e r.phase k m u in
      let g = made_by (eqb m.number 0) r m refl (omega (arith, i.room)) in
      record {
        all = g.grows ∙ ap (λ (l : List Report). l ++ tells r m) i.all;
        room = omega (arith, i.room, y, g.count, ap (need (next k)) (moved_phase r m));
      }

  handled_roomy : (l : Link) (e : Event) → need at_silence l.phase ≤ most → Roomy most at_end_lem (handled l e) (handled_tells l e)
  unfolding handled handled_tells begun listed need_in
  handled_roomy l e h =
      event_walk l.mark e (Roomy most) (moved_roomy l.mark e)
      (λ r xs i. record { all = i.all; room = i.room }) (λ r xs i. record { all = i.all; room = i.room })
      (λ r xs i. record { all = i.all; room = omega (arith, i.room) }) (λ r xs i. record { all = i.all; room = omega (arith, i.room) })
      (begun l e) (record { all = refl; room = omega arith })

-- FOUR PLACES ARE ENOUGH: on any link, for any event, the reports in them are those of all its moves, in order; ..
pub four_enough : (l : Link) (e : Event) → listed (handled l e).reports ≡ handled_tells l e
unfolding need_in
four_enough l e =
    let t = to_end_most l.phase.state l.phase.reply (right l.phase) in
    (handled_roomy 4 (omega arith) l e (omega (arith, t, most_three (right l.phase)))).all

-- .. and no more than three are made where no message is held that is right as it stands
pub three_enough : (l : Link) (e : Event) → is_right l.phase ≡ false → (handled l e).reports.n ≤ 3
unfolding need_in is_right
three_enough l e r =
    let t = two_most l.phase.state l.phase.reply (right l.phase) r in
    let x = (handled_roomy 3 (omega arith) l e (omega (arith, t))).room in
    omega arith
