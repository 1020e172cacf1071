-- Why the two rules on P2 max and P3 max may rest while something is open. While connected, the windows in force are long enough, whatever events
-- came: P2 max is at least 25 ms and P3 max at least 250 ms. A message or damage ends when 20 ms have passed since the mark, and that is looked at
-- first; so while something is still open, neither has passed, and the rules as document 01 says them, whatever is open, give the same.
-- Assumes nothing.
use Prim.Native.Nat.{ℕ, ◌≤◌}
use mathlib.Core.Bool.{Bool, true, false, not, ◌&&◌, false≢true}
use mathlib.Core.Path.{◌≡◌, refl, sym, ap, subst}
use native.Mathlib.Omega.{arith}
use borrow.Author.Tests.{eqb-true, le-ltb, ltb-false}
use lib.Dec.{eqb}
use Rattle.std.specs.Prelude.{if◌then◌else◌}
use Rattle.base.specs.Numbers.{taken}
use Rattle.base.specs.Reports.{no_reply_report, down_report, no_reason, idle_over}
use Rattle.base.proofs.Tests.{by_test}
use Rattle.keys.specs.declared.Pair.{Pair}
use Rattle.units.specs.Units.{micros, gap_of}
use Rattle.units.specs.declared.Micros.{Micros}
use Rattle.timing.specs.Timing.{is_unlimited, is_passed, decoded_of}
use Rattle.timing.specs.Coded.{Bytes}
use Rattle.timing.specs.declared.Limit.{Limit}
use Rattle.timing.specs.declared.Windows.{Windows}
use Rattle.timing.proofs.Least.{LongEnough, codes_long, set_long}
use Rattle.events.specs.Events.{is_tester}
use Rattle.events.specs.declared.Kind.TheVariants.{Tick}
use Rattle.events.specs.declared.Side.TheVariants.{Nobody}
use Rattle.events.specs.declared.Event.{Event}
use Rattle.starts.specs.declared.Start.{Start}
use Rattle.talk.specs.Talk.{is_first, is_effective, codes_in, if_allowed, windows_for, windows_after}
use Rattle.talk.specs.declared.Request.{Request}
use Rattle.talk.specs.declared.Request.TheVariants.{Ordinary, Stop, OwnTiming, NewTiming, Stopped}
use Rattle.talk.specs.declared.Message.{Message}
use Rattle.phases.specs.Phases.{is_quiet, is_open, is_connected, down, starting, connected, talking, holding, damaged, settled, timed, asked, answered, framed}
use Rattle.phases.specs.declared.State.{State}
use Rattle.phases.specs.declared.State.TheVariants.{Down, Starting, Quiet, Held, Damage}
use Rattle.phases.specs.declared.Phase.{Phase}
use Rattle.phases.proofs.StateTests.{open_connected}
use Rattle.moves.specs.Moves.{still, makes, is_silent, after_silence, after_p2, after_p3, after_window}
use Rattle.moves.specs.declared.Move.{Move}
use Rattle.moves.proofs.Rules.{Moment, at_silence, at_p2, at_p3, at_window, Rule, rests, ends_right, breaks_off, waited, idled, expires, cuts_off, aborts, leaves, drops}
use Rattle.moves.proofs.Rules.{starts_slow, starts_fast, hurries, low, cut_right, cut_wrong, cut_held, strays, misses, connects, goes_on, opens, errs, breaks, frames, grows, stops}
use Rattle.moves.proofs.Rules.{by_silence, by_p2, by_p3, by_window}
use Rattle.reports.specs.Reporting.{moved}
use Rattle.reports.specs.declared.Counts.{Counts}
use Rattle.reports.specs.declared.Run.{Run}
use Rattle.link.specs.Handling.{fresh_link, passed}
use Rattle.link.specs.Stepping.{step_of}
use Rattle.link.specs.declared.Link.{Link}
use Rattle.link.proofs.Ways.{off_right}
use Rattle.link.proofs.Walk.{moved_phase}
use Rattle.link.proofs.Kept.{step_keeps}

-- THE INVARIANT: while connected, the windows in force are long enough
abbrev pub Long : Phase → Type 0
Long p = is_connected p.state ≡ true → LongEnough p.windows

-- ---- the phases that a move leads to
down_long : (idle : Micros) → Long (down idle)
unfolding down is_connected
down_long idle h = absurd (false≢true h)

starting_long : (fall : Micros) (start : Start) → Long (starting fall start)
unfolding starting is_connected
starting_long fall start h = absurd (false≢true h)

connected_long : (start : Start) → Long (connected start)
unfolding connected
connected_long start h = set_long start.pair

settled_long : (p : Phase) → Long p → is_connected p.state ≡ true → Long (settled p)
unfolding settled talking
settled_long p g c h = g c

holding_long : (p : Phase) (m : Message) → Long p → is_connected p.state ≡ true → Long (holding p m)
unfolding holding talking
holding_long p m g c h = g c

damaged_long : (p : Phase) (why : ℕ) → Long p → is_connected p.state ≡ true → Long (damaged p why)
unfolding damaged talking
damaged_long p why g c h = g c

asked_long : (p : Phase) → Long p → is_connected p.state ≡ true → Long (asked p)
unfolding asked timed
asked_long p g c h = g c

-- a request that takes effect leaves windows that are long enough: KB1's set, allowed codes, or the old ones
codes_bytes : (seven : ℕ) → Bytes (codes_in seven)
unfolding codes_in
codes_bytes seven = record {
  p2min_byte = omega arith;
  p2max_byte = omega arith;
  p3min_byte = omega arith;
  p3max_byte = omega arith;
  p4min_byte = omega arith;
}

allowed_long : (seven : ℕ) (w : Windows) → LongEnough w → LongEnough (if_allowed (decoded_of (codes_in seven)) w)
unfolding if_allowed
allowed_long seven w g =
    by_test LongEnough (eqb (decoded_of (codes_in seven)).no taken) {x = (decoded_of (codes_in seven)).windows} {y = w}
    (λ t. codes_long (codes_in seven) (codes_bytes seven) (eqb-true (decoded_of (codes_in seven)).no taken t)) (λ _. g)

windows_for_lem : (request : Request) (pair : Pair) (seven : ℕ) (w : Windows) → LongEnough w → LongEnough (windows_for request pair seven w)
unfolding windows_for
windows_for_lem Ordinary pair seven w g = g
windows_for_lem Stop pair seven w g = g
windows_for_lem OwnTiming pair seven w g = set_long pair
windows_for_lem NewTiming pair seven w g = allowed_long seven w g
windows_for_lem Stopped pair seven w g = g

windows_after_lem : (request : Request) (m : Message) (pair : Pair) (seven : ℕ) (w : Windows) → LongEnough w → LongEnough (windows_after request m pair seven w)
unfolding windows_after
windows_after_lem request m pair seven w g =
    by_test LongEnough (is_effective request m) {x = windows_for request pair seven w} {y = w} (λ _. windows_for_lem request pair seven w g) (λ _. g)

answered_long : (p : Phase) → Long p → is_connected p.state ≡ true → Long (answered p)
unfolding answered timed
answered_long p g c h = windows_after_lem p.request p.message p.start.pair p.asked p.windows (g c)

framed_long : (p : Phase) → Long p → is_connected p.state ≡ true → Long (framed p)
unfolding framed
framed_long p g c =
    by_test Long (is_tester p.message.side) {x = asked p} {y = answered p} (λ _. asked_long p g c) (λ _. answered_long p g c)

-- ---- each rule keeps the invariant
rule_long : (mark : Micros) (e : Event) (p : Phase) (k : Moment) (m : Move) → Rule mark e p k m → Long p → Long m.phase
unfolding is_connected
rule_long mark e p k m (rests u) g = g
rule_long mark e p k m (ends_right h s r) g = framed_long p g (ap is_connected h)
rule_long mark e p k m (breaks_off o s r) g = settled_long p g (open_connected p.state o)
rule_long mark e p k m (waited q f t) g = settled_long p g (ap is_connected q)
rule_long mark e p k m (idled q f t) g = down_long _
rule_long mark e p k m (expires s o) g = down_long _
rule_long mark e p k m (cuts_off o) g = settled_long p g (open_connected p.state o)
rule_long mark e p k m (aborts s) g = down_long _
rule_long mark e p k m (leaves c q) g = down_long _
rule_long mark e p k m (drops d x) g = down_long _
rule_long mark e p k m (starts_slow a i) g = starting_long _ _
rule_long mark e p k m (starts_fast w i l) g = starting_long _ _
rule_long mark e p k m (hurries s i) g = down_long _
rule_long mark e p k m (low w i l) g = down_long _
rule_long mark e p k m (cut_right c r) g = framed_long p g (ap is_connected (cut_held mark e p c))
rule_long mark e p k m (cut_wrong c r) g = settled_long p g (ap is_connected (cut_held mark e p c))
rule_long mark e p k m (strays d) g = down_long _
rule_long mark e p k m (misses s v) g = down_long _
rule_long mark e p k m (connects s v l) g = connected_long p.start
rule_long mark e p k m (goes_on s v l) g = starting_long _ _
rule_long mark e p k m (opens q r) g = holding_long p _ g (ap is_connected q)
rule_long mark e p k m (errs q r) g = damaged_long p _ g (ap is_connected q)
rule_long mark e p k m (breaks h r) g = damaged_long p _ g (ap is_connected h)
rule_long mark e p k m (frames h r s) g = framed_long p g (ap is_connected h)
rule_long mark e p k m (grows h r s) g = holding_long p _ g (ap is_connected h)
rule_long mark e p k m (stops q r) g = down_long _

-- IT HOLDS OF A FRESH LINK ..
pub fresh_long : Long fresh_link.phase
unfolding fresh_link
fresh_long = down_long _

-- .. AND EVERY STEP KEEPS IT, for any counts and any event
pub step_long : (l : Link) (c : Counts) (e : Event) → Long l.phase → Long (step_of l c e).answer.link.phase
step_long l c e g = step_keeps Long rule_long l c e g

-- ---- the two rules as document 01 says them, whatever is open
-- "First reply awaited and P2 max passed: report 6; no reply is expected."
unfoldable pub paper_p2 : Phase → Micros → Move
paper_p2 p gap =
    if is_connected p.state && is_first p.reply && is_passed p.windows.p2max gap then makes no_reply_report no_reason (settled p) else still p

-- "Then, connected, no first reply awaited, P3 max passed: report 7 reason 2, down."
unfoldable pub paper_p3 : Phase → Micros → Move
paper_p3 p gap =
    if is_connected p.state && not (is_first p.reply) && is_passed p.windows.p3max gap then makes down_report idle_over (down (micros 0)) else still p

-- time passes by them
unfoldable pub paper_passed : Run → Micros → Micros → Run
paper_passed r mark start =
    let r1 = moved r (after_silence r.phase (gap_of mark start)) in
    let r2 = moved r1 (paper_p2 r1.phase (gap_of mark start)) in
    let r3 = moved r2 (paper_p3 r2.phase (gap_of mark start)) in
    moved r3 (after_window r3.phase mark start)

-- ---- while something is still open, 20 ms have not passed since the mark
abbrev pub Recent : Phase → Micros → Type 0
Recent p gap = is_open p.state ≡ true → is_silent gap ≡ false

settled_recent : (p : Phase) (gap : Micros) → Recent (settled p) gap
unfolding settled talking is_open
settled_recent p gap o = absurd (false≢true o)

framed_recent : (p : Phase) (gap : Micros) → Recent (framed p) gap
unfolding framed asked answered timed talking is_open
framed_recent p gap =
    by_test (λ (q : Phase). Recent q gap) (is_tester p.message.side) {x = asked p} {y = answered p} (λ _ o. absurd (false≢true o)) (λ _ o. absurd (false≢true o))

down_recent : (idle gap : Micros) → Recent (down idle) gap
unfolding down is_open
down_recent idle gap o = absurd (false≢true o)

off_second : (a b : Bool) → (a && b) ≡ false → a ≡ true → b ≡ false
off_second true b e t = e
off_second false b e t = absurd (false≢true t)

-- time that passes, as a tick then would let it
abbrev pub tick_at : Micros → Event
tick_at start = record { start = start; end = start; kind = Tick; side = Nobody; value = 0 }

module _ (mark start : Micros) where
  abbrev gap : Micros
  gap = gap_of mark start

  abbrev At : Phase → Moment → Move → Type 0
  At p k m = Rule mark (tick_at start) p k m

  recent_1 : (p : Phase) (m : Move) → At p at_silence m → Recent m.phase gap
  recent_1 p m (rests u) = off_second (is_open p.state) (is_silent gap) u
  recent_1 p m (ends_right h s r) = framed_recent p gap
  recent_1 p m (breaks_off o s r) = settled_recent p gap

  recent_2 : (p : Phase) (m : Move) → At p at_p2 m → Recent p gap → Recent m.phase gap
  recent_2 p m (rests u) g = g
  recent_2 p m (waited q f t) g = settled_recent p gap

  recent_3 : (p : Phase) (m : Move) → At p at_p3 m → Recent p gap → Recent m.phase gap
  recent_3 p m (rests u) g = g
  recent_3 p m (idled q f t) g = down_recent _ gap

  recent_4 : (p : Phase) (m : Move) → At p at_window m → Recent p gap → Recent m.phase gap
  recent_4 p m (rests u) g = g
  recent_4 p m (expires s o) g = down_recent _ gap

  moved_recent : (r : Run) (m : Move) → Recent m.phase gap → Recent (moved r m).phase gap
  moved_recent r m g = subst (λ (p : Phase). Recent p gap) (sym (moved_phase r m)) g

  moved_long : (r : Run) (m : Move) (k : Moment) → At r.phase k m → Long r.phase → Long (moved r m).phase
  moved_long r m k u g = subst Long (sym (moved_phase r m)) (rule_long mark (tick_at start) r.phase k m u g)

  pub passed_recent : (r : Run) → Recent (passed r mark start).phase gap
  unfolding passed
  passed_recent r =
      let r1 = moved r (after_silence r.phase gap) in
      let r2 = moved r1 (after_p2 r1.phase gap) in
      let r3 = moved r2 (after_p3 r2.phase gap) in
      let g1 = moved_recent r _ (recent_1 r.phase _ (by_silence mark (tick_at start) r.phase)) in
      let g2 = moved_recent r1 _ (recent_2 r1.phase _ (by_p2 mark (tick_at start) r1.phase) g1) in
      let g3 = moved_recent r2 _ (recent_3 r2.phase _ (by_p3 mark (tick_at start) r2.phase) g2) in
      moved_recent r3 (after_window r3.phase mark start) (recent_4 r3.phase _ (by_window mark (tick_at start) r3.phase) g3)

-- ---- so neither has a limit of 20 ms or more, and the two tests agree
not_passed : (l : Limit) (gap : Micros) → 20_000 ≤ l.0.0 → is_silent gap ≡ false → is_passed l gap ≡ false
unfolding is_passed is_silent
not_passed l gap h s =
    off_right (not (is_unlimited l)) _ (le-ltb l.0.0 gap.0 (let t = ltb-false 20_000 gap.0 s in omega arith))

same_test : (st : State) (first over : Bool) → (is_open st ≡ true → over ≡ false) → (is_quiet st && first && over) ≡ (is_connected st && first && over)
unfolding is_open is_quiet is_connected
same_test Down first over h = refl
same_test Starting first over h = refl
same_test Quiet first over h = refl
same_test Held first over h = sym (off_right first over (h refl))
same_test Damage first over h = sym (off_right first over (h refl))

pub quiet_enough_2 : (p : Phase) (gap : Micros) → Long p → Recent p gap → after_p2 p gap ≡ paper_p2 p gap
unfolding after_p2 paper_p2
quiet_enough_2 p gap g s =
    ap (λ (b : Bool). if b then makes no_reply_report no_reason (settled p) else still p)
    (same_test p.state (is_first p.reply) (is_passed p.windows.p2max gap)
    (λ o. let w = g (open_connected p.state o) in not_passed p.windows.p2max gap (omega (arith, w.p2max_long)) (s o)))

pub quiet_enough_3 : (p : Phase) (gap : Micros) → Long p → Recent p gap → after_p3 p gap ≡ paper_p3 p gap
unfolding after_p3 paper_p3
quiet_enough_3 p gap g s =
    ap (λ (b : Bool). if b then makes down_report idle_over (down (micros 0)) else still p)
    (same_test p.state (not (is_first p.reply)) (is_passed p.windows.p3max gap)
    (λ o. let w = g (open_connected p.state o) in not_passed p.windows.p3max gap (omega (arith, w.p3max_long)) (s o)))

-- NO HISTORY CAN TELL: on a link with long windows, as every history leaves it, time passes as by the rules that do not ask what is open
pub no_history_tells : (r : Run) (mark start : Micros) → Long r.phase → passed r mark start ≡ paper_passed r mark start
unfolding passed paper_passed
no_history_tells r mark start g =
    let gap = gap_of mark start in
    let m1 = after_silence r.phase gap in
    let u1 = by_silence mark (tick_at start) r.phase in
    let r1 = moved r m1 in
    let g1 = moved_long mark start r m1 at_silence u1 g in
    let s1 = moved_recent mark start r m1 (recent_1 mark start r.phase m1 u1) in
    let m2 = after_p2 r1.phase gap in
    let u2 = by_p2 mark (tick_at start) r1.phase in
    let g2 = moved_long mark start r1 m2 at_p2 u2 g1 in
    let s2 = moved_recent mark start r1 m2 (recent_2 mark start r1.phase m2 u2 s1) in
    rw (quiet_enough_3 (moved r1 m2).phase gap g2 s2, quiet_enough_2 r1.phase gap g1 s1) refl
