-- NO RULE OF A 14230 LINK HAS CHANGED with document 02's request "Five", on cars. The first half keeps the texts from before that request, word for word: each
-- definition that has changed, and each that stands on one, under its name with `old` in front. The second half proves that for a link whose pair is no car's each
-- of them is today's, and so is the step (`same_step`), unless the event is a second key byte that completes 08 08 or 94 94 after address 33.
-- Assumes nothing.
use Prim.Native.Nat.{ℕ, zero, suc, ◌≤◌}
use mathlib.Core.Bool.{Bool, true, false, not, ◌&&◌, ◌||◌, false≢true}
use mathlib.Core.List.{List, [], ◌∷◌}
use mathlib.Core.Path.{◌≡◌, ◌∙◌, refl, sym, ap, subst}
use native.Mathlib.Omega.{arith}
use borrow.Author.Tests.{eqb-true}
use lib.Dec.{eqb, ltb}
use lib.ListN.{length, take, get_or, set, length-set}
use Rattle.std.specs.Prelude.{if◌then◌else◌}
use Rattle.base.specs.Numbers.{taken}
use Rattle.base.specs.Reports.{frame_report, damage_report, connected_report, failed_report, outside_report}
use Rattle.base.specs.Reports.{no_reason, broken_off, other_side, wrong_length, wrong_sum, wrong_side, too_early, misfit, dropped, restarted}
use Rattle.base.proofs.Tests.{and_split, by_test}
use Rattle.units.specs.Units.{micros, gap_of}
use Rattle.units.specs.declared.Micros.{Micros}
use Rattle.keys.specs.Keys.{is_extended, good_pair, pair_of, is_good}
use Rattle.keys.specs.Editions.{edition_of, is_car, is_quick, car_address, is_slow_pair}
use Rattle.keys.specs.declared.Pair.{Pair}
use Rattle.keys.specs.declared.Edition.{Edition}
use Rattle.keys.specs.declared.Edition.TheVariants.{Iso14230, Car08, Car94}
use Rattle.timing.specs.Timing.{normal_set, extended_set, named_set, set_in, set_of, decoded_of}
use Rattle.timing.specs.declared.Windows.{Windows}
use Rattle.events.specs.Events.{is_byte, is_tester, same_side}
use Rattle.events.specs.declared.Kind.{Kind}
use Rattle.events.specs.declared.Kind.TheVariants.{Address, WakeUp, Byte, Tick, Drop, Other}
use Rattle.events.specs.declared.Side.{Side}
use Rattle.events.specs.declared.Event.{Event}
use Rattle.starts.specs.Starts.{complement, is_reply_format, fits_at, fits, is_from, is_early, judged, is_last, onward, no_start}
use Rattle.starts.specs.declared.Stage.{Stage}
use Rattle.starts.specs.declared.Stage.TheVariants.{Sync, FirstKey, SecondKey, KeyBack, AddressBack}
use Rattle.starts.specs.declared.Stage.TheVariants.{AskFormat, AskTarget, AskSource, AskService, AskSum}
use Rattle.starts.specs.declared.Stage.TheVariants.{Format, Target, Source, LongTarget, LongSource, Length, Service, KeyOne, KeyTwo, Sum}
use Rattle.starts.specs.declared.Start.{Start}
use Rattle.talk.specs.Talk.{turn_reason, head_reason, frame_reason, first_reason, after_addresses, begun, begun_by, part_reason, later_reason, is_sum, is_free, end_reason}
use Rattle.talk.specs.Talk.{with_part, with_length, with_data, grown_at, grown, is_effective, codes_in, if_allowed, windows_for, windows_after, request_after}
use Rattle.talk.specs.declared.Reply.{Reply}
use Rattle.talk.specs.declared.Reply.TheVariants.{Never, Further}
use Rattle.talk.specs.declared.Request.{Request}
use Rattle.talk.specs.declared.Request.TheVariants.{Ordinary, Stop, OwnTiming, NewTiming, Stopped}
use Rattle.talk.specs.declared.Part.{Part}
use Rattle.talk.specs.declared.Part.TheVariants.{Target as PartTarget, Source as PartSource, Length as PartLength, Data, Sum as PartSum, Free}
use Rattle.talk.specs.declared.Message.{Message}
use Rattle.phases.specs.Phases.{is_starting, is_held, is_open, no_message, down, off, starting, connected, talking, holding, damaged, settled}
use Rattle.phases.specs.Phases.{timed, asked, answered, framed}
use Rattle.phases.specs.declared.State.{State}
use Rattle.phases.specs.declared.State.TheVariants.{Down, Starting, Quiet, Held, Damage}
use Rattle.phases.specs.declared.Phase.{Phase}
use Rattle.moves.specs.Moves.{still, makes, is_silent, loss_reason, is_right, ended, after_silence, after_p2, after_p3, since_origin, after_window, closing, leaving}
use Rattle.moves.specs.Moves.{starting_slow, starting_fast, is_cut_in, before_byte, start_byte, reason_at_first, first_byte, later_byte, byte_in, after_byte, after_stop}
use Rattle.moves.specs.declared.Move.{Move}
use Rattle.moves.proofs.Rules.{at_silence, at_p2, at_p3, at_window, Rule, rests, ends_right, breaks_off, waited, idled, expires}
use Rattle.moves.proofs.Rules.{by_silence, by_p2, by_p3, by_window}
use Rattle.reports.specs.Reporting.{places, no_report, names_bytes, report_of, appended, listed, told, with_phase, moved}
use Rattle.reports.specs.Counting.{counted_all, counted_byte, counted_event}
use Rattle.reports.specs.declared.Report.{Report}
use Rattle.reports.specs.declared.Reports.{Reports}
use Rattle.reports.specs.declared.Counts.{Counts}
use Rattle.reports.specs.declared.Run.{Run}
use Rattle.link.specs.Handling.{passed, shut, hearing, byte_heard, acted_by, acted, handled, link_after}
use Rattle.link.specs.Handling.{begun as begins}
use Rattle.link.specs.Stepping.{number_of, refused_by, taken_by, answer_of, counts_after, step_of}
use Rattle.link.specs.declared.Link.{Link}
use Rattle.link.specs.Answers.{Answer, Stepped}
use Rattle.link.proofs.Ways.{off_right}
use Rattle.link.proofs.Walk.{moved_phase}
use Rattle.link.proofs.Four.{three_enough}

-- ======== THE OLD TEXTS. The types are today's: a message's next byte may be one part more (`Free`), and there is one place more for a report, the fourth. No rule
-- here makes the one or fills the other. (`no_reports` is today's, with all four empty.)

-- ---- timing
unfoldable pub old_set_of : Pair → Windows
old_set_of pair = if is_extended pair.kb1 then extended_set else normal_set

-- ---- starts
abbrev pub old_fits_at : Stage → Start → ℕ → Bool
old_fits_at Sync s v = eqb v 0x55
old_fits_at FirstKey s v = true
old_fits_at SecondKey s v = good_pair s.pair.kb1 v
old_fits_at KeyBack s v = eqb v (complement s.pair.kb2)
old_fits_at AddressBack s v = eqb v (complement s.address)
old_fits_at AskFormat s v = (eqb v 0x81 || eqb v 0xC1)
old_fits_at AskTarget s v = true
old_fits_at AskSource s v = true
old_fits_at AskService s v = eqb v 0x81
old_fits_at AskSum s v = eqb v s.sum
old_fits_at Format s v = is_reply_format v
old_fits_at Target s v = true
old_fits_at Source s v = true
old_fits_at LongTarget s v = true
old_fits_at LongSource s v = true
old_fits_at Length s v = eqb v 0x03
old_fits_at Service s v = eqb v 0xC1
old_fits_at KeyOne s v = true
old_fits_at KeyTwo s v = true
old_fits_at Sum s v = (eqb v s.sum && is_good s.pair)

unfoldable pub old_fits : Start → ℕ → Bool
old_fits s v = old_fits_at s.stage s v

unfoldable pub old_judged : Start → Side → ℕ → Micros → ℕ
old_judged s side v gap =
    if not (is_from s side) then wrong_side else
    if is_early s gap then too_early else
    if old_fits s v then no_reason else misfit

-- ---- talk
unfoldable pub old_first_reason : Pair → Reply → Windows → Side → ℕ → Micros → ℕ
old_first_reason pair reply w side f gap =
    if eqb (turn_reason reply w side gap) no_reason then head_reason pair.kb1 f else turn_reason reply w side gap

-- (There was no part `Free`. What the next three say of it is asked nowhere below.)
abbrev pub old_part_reason : Part → Message → ℕ → ℕ
old_part_reason PartTarget m v = no_reason
old_part_reason PartSource m v = no_reason
old_part_reason PartLength m v = if eqb v 0 then wrong_length else no_reason
old_part_reason Data m v = no_reason
old_part_reason PartSum m v = if eqb v m.sum then no_reason else wrong_sum
old_part_reason Free m v = no_reason

unfoldable pub old_is_sum : Part → Bool
old_is_sum PartTarget = false
old_is_sum PartSource = false
old_is_sum PartLength = false
old_is_sum Data = false
old_is_sum PartSum = true
old_is_sum Free = false

abbrev pub old_grown_at : Part → Message → ℕ → Message
old_grown_at PartTarget m v = with_part m PartSource v
old_grown_at PartSource m v = with_part m (after_addresses m.extra) v
old_grown_at PartLength m v = with_length m v
old_grown_at Data m v = with_data m v
old_grown_at PartSum m v = with_part m PartSum v
old_grown_at Free m v = m

unfoldable pub old_later_reason : Message → Side → ℕ → ℕ
old_later_reason m side v = if not (same_side side m.side) then other_side else old_part_reason m.part m v

abbrev pub old_end_reason : Pair → ℕ
old_end_reason pair = broken_off

unfoldable pub old_grown : Message → ℕ → Message
old_grown m v = old_grown_at m.part m v

unfoldable pub old_windows_for : Request → Pair → ℕ → Windows → Windows
old_windows_for Ordinary pair seven w = w
old_windows_for Stop pair seven w = w
old_windows_for OwnTiming pair seven w = old_set_of pair
old_windows_for NewTiming pair seven w = if_allowed (decoded_of (codes_in seven)) w
old_windows_for Stopped pair seven w = w

unfoldable pub old_windows_after : Request → Message → Pair → ℕ → Windows → Windows
old_windows_after request m pair seven w = if is_effective request m then old_windows_for request pair seven w else w

-- ---- phases
unfoldable pub old_connected : Start → Phase
old_connected start = record {
  windows = old_set_of start.pair;
  message = no_message;
  idle = micros 0;
  fall = micros 0;
  asked = 0;
  state = Quiet;
  reply = Never;
  request = Ordinary;
  start = start;
}

unfoldable pub old_answered : Phase → Phase
old_answered p =
    timed (talking p Quiet Further p.message) (old_windows_after p.request p.message p.start.pair p.asked p.windows) p.asked
    (request_after p.request p.message)

unfoldable pub old_framed : Phase → Phase
old_framed p = if is_tester p.message.side then asked p else old_answered p

-- ---- moves
abbrev pub old_ended : Phase → Move
old_ended p = makes damage_report (loss_reason p (old_end_reason p.start.pair)) (settled p)

unfoldable pub old_after_silence : Phase → Micros → Move
old_after_silence p gap = if is_open p.state && is_silent gap then old_ended p else still p

unfoldable pub old_start_byte : Phase → Side → ℕ → Micros → Move
old_start_byte p side v gap =
    if not (eqb (old_judged p.start side v gap) no_reason) then makes failed_report (old_judged p.start side v gap) off else
    if is_last p.start.stage then makes connected_report no_reason (old_connected p.start) else
    still (starting p.fall (onward p.start v))

unfoldable pub old_reason_at_first : Phase → Side → ℕ → Micros → ℕ
old_reason_at_first p side v gap = old_first_reason p.start.pair p.reply p.windows side v gap

unfoldable pub old_first_byte : Phase → Side → ℕ → Micros → Phase
old_first_byte p side v gap =
    if eqb (old_reason_at_first p side v gap) no_reason then holding p (begun side v) else damaged p (old_reason_at_first p side v gap)

unfoldable pub old_later_byte : Phase → Side → ℕ → Move
old_later_byte p side v =
    if not (eqb (old_later_reason p.message side v) no_reason) then still (damaged p (old_later_reason p.message side v)) else
    if old_is_sum p.message.part then makes frame_report no_reason (old_framed p) else
    still (holding p (old_grown p.message v))

abbrev pub old_byte_in : State → Phase → Side → ℕ → Micros → Micros → Move
old_byte_in Down p side v mark start = makes outside_report no_reason (down p.idle)
old_byte_in Starting p side v mark start = old_start_byte p side v (since_origin p mark start)
old_byte_in Quiet p side v mark start = still (old_first_byte p side v (gap_of mark start))
old_byte_in Held p side v mark start = old_later_byte p side v
old_byte_in Damage p side v mark start = still p

unfoldable pub old_after_byte : Phase → Side → ℕ → Micros → Micros → Move
old_after_byte p side v mark start = old_byte_in p.state p side v mark start

-- ---- reports: three places, and the fourth stays as it is. (The places are a list today, which the old text had by name.)
abbrev in_place : ℕ → Reports → Report → List Report
in_place i rs r = set rs.places i r

abbrev still_full : (i : ℕ) (rs : Reports) (r : Report) → length (in_place i rs r) ≡ 4
still_full i rs r = length-set rs.places i r ∙ rs.full

unfoldable pub old_appended : Reports → Report → Reports
old_appended rs r =
    if eqb rs.n 0 then record { places = in_place 0 rs r; n = 1; full = still_full 0 rs r } else
    if eqb rs.n 1 then record { places = in_place 1 rs r; n = 2; full = still_full 1 rs r } else
    if eqb rs.n 2 then record { places = in_place 2 rs r; n = 3; full = still_full 2 rs r } else rs

abbrev pub old_in_places : Reports → List Report
old_in_places rs = get_or rs.places 0 no_report ∷ get_or rs.places 1 no_report ∷ get_or rs.places 2 no_report ∷ []

unfoldable pub old_listed : Reports → List Report
old_listed rs = take rs.n (old_in_places rs)

unfoldable pub old_told : Run → Move → Run
old_told r m = record {
  phase = m.phase;
  heard = r.heard;
  named = if names_bytes m.number then r.heard else r.named;
  time = r.time;
  reports = old_appended r.reports (report_of r m.number m.reason);
}

unfoldable pub old_moved : Run → Move → Run
old_moved r m = if eqb m.number 0 then with_phase r m.phase else old_told r m

unfoldable pub old_counted_event : Counts → Bool → Reports → Counts
old_counted_event c hears rs = counted_all (counted_byte c hears) (old_listed rs)

-- ---- link
unfoldable pub old_passed : Run → Micros → Micros → Run
old_passed r mark start =
    let r1 = old_moved r (old_after_silence r.phase (gap_of mark start)) in
    let r2 = old_moved r1 (after_p2 r1.phase (gap_of mark start)) in
    let r3 = old_moved r2 (after_p3 r2.phase (gap_of mark start)) in
    old_moved r3 (after_window r3.phase mark start)

unfoldable pub old_shut : Run → ℕ → Run
old_shut r reason =
    let r1 = old_moved r (closing r.phase) in
    old_moved r1 (leaving r1.phase reason)

unfoldable pub old_byte_heard : Run → Event → Micros → Run
old_byte_heard r e mark =
    let r1 = old_moved (hearing r) (old_after_byte r.phase e.side e.value mark e.start) in
    old_moved r1 (after_stop r1.phase)

abbrev pub old_acted_by : Kind → Run → Event → Micros → Run
old_acted_by Address r e mark =
    let r1 = old_shut r restarted in
    old_moved r1 (starting_slow r1.phase.idle e.value mark e.start)
old_acted_by WakeUp r e mark =
    let r1 = old_shut r restarted in
    old_moved r1 (starting_fast r1.phase.idle mark e.start e.end)
old_acted_by Byte r e mark = old_byte_heard r e mark
old_acted_by Tick r e mark = r
old_acted_by Drop r e mark = old_shut r dropped
old_acted_by Other r e mark = r

unfoldable pub old_acted : Run → Event → Micros → Run
old_acted r e mark = old_acted_by e.kind r e mark

unfoldable pub old_handled : Link → Event → Run
old_handled l e = old_acted (old_passed (begins l e) l.mark e.start) e l.mark

unfoldable pub old_taken_by : Link → Event → Answer
old_taken_by l e = record { link = link_after l e (old_handled l e); reports = (old_handled l e).reports; no = taken }

unfoldable pub old_answer_of : Link → Counts → Event → Answer
old_answer_of l c e = if eqb (number_of l c e) taken then old_taken_by l e else refused_by l (number_of l c e)

unfoldable pub old_counts_after : Counts → Answer → Event → Counts
old_counts_after c a e = if eqb a.no taken then old_counted_event c (is_byte e.kind) a.reports else c

unfoldable pub old_step_of : Link → Counts → Event → Stepped
old_step_of l c e = record { answer = old_answer_of l c e; counts = old_counts_after c (old_answer_of l c e) e }

-- ======== EACH IS TODAY'S, where the pair is no car's
-- ---- timing
set_in_lem : (edition : Edition) (kb1 : ℕ) → is_car edition ≡ false → set_in edition kb1 ≡ (if is_extended kb1 then extended_set else normal_set)
unfolding is_car named_set
set_in_lem Iso14230 kb1 n = refl
set_in_lem Car08 kb1 n = absurd (false≢true (sym n))
set_in_lem Car94 kb1 n = absurd (false≢true (sym n))

-- the windows that key bytes name
pub same_set : (pair : Pair) → is_car (edition_of pair) ≡ false → set_of pair ≡ old_set_of pair
unfolding set_of old_set_of
same_set pair n = set_in_lem (edition_of pair) pair.kb1 n

-- ---- starts: THE EXCEPTION, a byte that is the second key byte and completes 08 08 or 94 94 after address 33
pub record CarKey (s : Start) (v : ℕ) : Type 0 where
  pub second : s.stage ≡ SecondKey
  pub after : s.address ≡ 0x33
  pub pair : is_car (edition_of (pair_of s.pair.kb1 v)) ≡ true

no_or : (a b : Bool) → (b ≡ true → ⊥) → (a || b) ≡ a
no_or true b f = refl
no_or false true f = absurd (f refl)
no_or false false f = refl

fits_at_lem : (stage : Stage) (s : Start) (v : ℕ) → s.stage ≡ stage → (CarKey s v → ⊥) → fits_at stage s v ≡ old_fits_at stage s v
unfolding is_slow_pair
fits_at_lem Sync s v q f = refl
fits_at_lem FirstKey s v q f = refl
fits_at_lem SecondKey s v q f =
    no_or (good_pair s.pair.kb1 v) (eqb s.address car_address && is_car (edition_of (pair_of s.pair.kb1 v)))
    (λ t. let x = and_split (eqb s.address car_address) _ t in f (record { second = q; after = eqb-true _ _ x.0; pair = x.1 }))
fits_at_lem KeyBack s v q f = refl
fits_at_lem AddressBack s v q f = refl
fits_at_lem AskFormat s v q f = refl
fits_at_lem AskTarget s v q f = refl
fits_at_lem AskSource s v q f = refl
fits_at_lem AskService s v q f = refl
fits_at_lem AskSum s v q f = refl
fits_at_lem Format s v q f = refl
fits_at_lem Target s v q f = refl
fits_at_lem Source s v q f = refl
fits_at_lem LongTarget s v q f = refl
fits_at_lem LongSource s v q f = refl
fits_at_lem Length s v q f = refl
fits_at_lem Service s v q f = refl
fits_at_lem KeyOne s v q f = refl
fits_at_lem KeyTwo s v q f = refl
fits_at_lem Sum s v q f = refl

-- any other byte of an initialization fits as before, ..
pub same_fits : (s : Start) (v : ℕ) → (CarKey s v → ⊥) → fits s v ≡ old_fits s v
unfolding fits old_fits
same_fits s v f = fits_at_lem s.stage s v refl f

-- .. and is judged as before
pub same_judged : (s : Start) (side : Side) (v : ℕ) (gap : Micros) → (CarKey s v → ⊥) → judged s side v gap ≡ old_judged s side v gap
unfolding judged old_judged
same_judged s side v gap f = rw (same_fits s v f) refl

-- ---- talk: what the first byte of a message is damage for, and the message that it begins
pub same_first_reason : (pair : Pair) (reply : Reply) (w : Windows) (side : Side) (f : ℕ) (gap : Micros) → is_car (edition_of pair) ≡ false
    → first_reason pair reply w side f gap ≡ old_first_reason pair reply w side f gap
unfolding first_reason frame_reason old_first_reason
same_first_reason pair reply w side f gap n = rw n refl

pub same_begun : (pair : Pair) (side : Side) (f : ℕ) → is_car (edition_of pair) ≡ false → begun_by pair side f ≡ begun side f
unfolding begun_by
same_begun pair side f n = rw n refl

-- a later byte: what it is damage for, whether it is the last, and the message with it
pub same_part_reason : (part : Part) (m : Message) (v : ℕ) → is_free part ≡ false → part_reason part m v ≡ old_part_reason part m v
unfolding is_free
same_part_reason PartTarget m v n = refl
same_part_reason PartSource m v n = refl
same_part_reason PartLength m v n = refl
same_part_reason Data m v n = refl
same_part_reason PartSum m v n = refl
same_part_reason Free m v n = absurd (false≢true (sym n))

pub same_later_reason : (m : Message) (side : Side) (v : ℕ) → is_free m.part ≡ false → later_reason m side v ≡ old_later_reason m side v
unfolding later_reason old_later_reason
same_later_reason m side v n = rw (same_part_reason m.part m v n) refl

pub same_is_sum : (part : Part) → is_free part ≡ false → is_sum part ≡ old_is_sum part
unfolding is_free is_sum old_is_sum
same_is_sum PartTarget n = refl
same_is_sum PartSource n = refl
same_is_sum PartLength n = refl
same_is_sum Data n = refl
same_is_sum PartSum n = refl
same_is_sum Free n = absurd (false≢true (sym n))

-- the reason of a message that has ended too soon, whatever the pair
pub same_end : (m : Message) (pair : Pair) → is_free m.part ≡ false → end_reason m ≡ old_end_reason pair
unfolding end_reason
same_end m pair n = rw n refl

grown_at_lem : (part : Part) (m : Message) (v : ℕ) → is_free part ≡ false → grown_at part m v ≡ old_grown_at part m v
unfolding is_free
grown_at_lem PartTarget m v n = refl
grown_at_lem PartSource m v n = refl
grown_at_lem PartLength m v n = refl
grown_at_lem Data m v n = refl
grown_at_lem PartSum m v n = refl
grown_at_lem Free m v n = absurd (false≢true (sym n))

pub same_grown : (m : Message) (v : ℕ) → is_free m.part ≡ false → grown m v ≡ old_grown m v
unfolding grown old_grown
same_grown m v n = grown_at_lem m.part m v n

-- the windows after a unit frame
pub same_windows_for : (request : Request) (pair : Pair) (seven : ℕ) (w : Windows) → is_car (edition_of pair) ≡ false
    → windows_for request pair seven w ≡ old_windows_for request pair seven w
unfolding windows_for old_windows_for
same_windows_for Ordinary pair seven w n = refl
same_windows_for Stop pair seven w n = refl
same_windows_for OwnTiming pair seven w n = same_set pair n
same_windows_for NewTiming pair seven w n = refl
same_windows_for Stopped pair seven w n = refl

pub same_windows_after : (request : Request) (m : Message) (pair : Pair) (seven : ℕ) (w : Windows) → is_car (edition_of pair) ≡ false
    → windows_after request m pair seven w ≡ old_windows_after request m pair seven w
unfolding windows_after old_windows_after
same_windows_after request m pair seven w n = rw (same_windows_for request pair seven w n) refl

-- ---- phases. OF A 14230 LINK the pair is no car's, and neither is the message (which of a link that a history leaves follows: CarLinks.antt)
pub record Of14230 (p : Phase) : Type 0 where
  pub pair : is_car (edition_of p.start.pair) ≡ false
  pub part : is_free p.message.part ≡ false

-- a link that an initialization has connected, and one after a frame
pub same_connected : (start : Start) → is_car (edition_of start.pair) ≡ false → connected start ≡ old_connected start
unfolding connected old_connected
same_connected start n = rw (same_set start.pair n) refl

pub same_answered : (p : Phase) → is_car (edition_of p.start.pair) ≡ false → answered p ≡ old_answered p
unfolding answered old_answered
same_answered p n = rw (same_windows_after p.request p.message p.start.pair p.asked p.windows n) refl

pub same_framed : (p : Phase) → is_car (edition_of p.start.pair) ≡ false → framed p ≡ old_framed p
unfolding framed old_framed
same_framed p n = rw (same_answered p n) refl

-- ---- moves: 20 ms have passed
pub same_ended : (p : Phase) → is_free p.message.part ≡ false → ended p ≡ old_ended p
unfolding ended is_right
same_ended p n = rw (same_end p.message p.start.pair n, off_right (is_held p.state) (eqb broken_off no_reason) refl) refl

pub same_silence : (p : Phase) (gap : Micros) → is_free p.message.part ≡ false → after_silence p gap ≡ old_after_silence p gap
unfolding after_silence old_after_silence
same_silence p gap n = rw (same_ended p n) refl

-- no byte cuts in: this rule is new, and moves no 14230 link
not_quick : (edition : Edition) → is_car edition ≡ false → is_quick edition ≡ false
unfolding is_car is_quick
not_quick Iso14230 n = refl
not_quick Car08 n = refl
not_quick Car94 n = absurd (false≢true (sym n))

pub never_cut : (p : Phase) (side : Side) → is_car (edition_of p.start.pair) ≡ false → before_byte p side ≡ still p
unfolding before_byte is_cut_in
never_cut p side n = rw (not_quick (edition_of p.start.pair) n, off_right _ false refl) refl

-- a byte of an initialization, the first of a message, a later one, and any
pub same_start_byte : (p : Phase) (side : Side) (v : ℕ) (gap : Micros) → is_car (edition_of p.start.pair) ≡ false → (CarKey p.start v → ⊥)
    → start_byte p side v gap ≡ old_start_byte p side v gap
unfolding start_byte old_start_byte
same_start_byte p side v gap n f = rw (same_judged p.start side v gap f, same_connected p.start n) refl

pub same_first_byte : (p : Phase) (side : Side) (v : ℕ) (gap : Micros) → is_car (edition_of p.start.pair) ≡ false
    → first_byte p side v gap ≡ old_first_byte p side v gap
unfolding first_byte old_first_byte reason_at_first old_reason_at_first
same_first_byte p side v gap n =
    rw (same_first_reason p.start.pair p.reply p.windows side v gap n, same_begun p.start.pair side v n) refl

pub same_later_byte : (p : Phase) (side : Side) (v : ℕ) → Of14230 p → later_byte p side v ≡ old_later_byte p side v
unfolding later_byte old_later_byte
same_later_byte p side v g =
    rw (same_later_reason p.message side v g.part, same_is_sum p.message.part g.part, same_framed p g.pair, same_grown p.message v g.part) refl

byte_in_lem : (st : State) (p : Phase) (side : Side) (v : ℕ) (mark start : Micros) → Of14230 p → (st ≡ Starting → CarKey p.start v → ⊥)
    → byte_in st p side v mark start ≡ old_byte_in st p side v mark start
byte_in_lem Down p side v mark start g f = refl
byte_in_lem Starting p side v mark start g f = same_start_byte p side v (since_origin p mark start) g.pair (f refl)
byte_in_lem Quiet p side v mark start g f = ap still (same_first_byte p side v (gap_of mark start) g.pair)
byte_in_lem Held p side v mark start g f = same_later_byte p side v g
byte_in_lem Damage p side v mark start g f = refl

pub same_byte : (p : Phase) (side : Side) (v : ℕ) (mark start : Micros) → Of14230 p → (p.state ≡ Starting → CarKey p.start v → ⊥)
    → after_byte p side v mark start ≡ old_after_byte p side v mark start
unfolding after_byte old_after_byte
same_byte p side v mark start g f = byte_in_lem p.state p side v mark start g f

-- ---- reports: three places serve as four do where no more than three are filled. No move takes a report back, so it is enough to know that of the last one.
abbrev NoFewer : Reports → Reports → Type 0
NoFewer rs ss = rs.n ≤ ss.n

appended_more : (rs : Reports) (x : Report) → NoFewer rs (appended rs x)
unfolding appended
appended_more rs x = by_test (NoFewer rs) (ltb rs.n places) (λ _. omega arith) (λ _. omega arith)

abbrev four_places : (ps : List Report) → length ps ≡ 4 → ℕ → Reports
four_places ps full n = record { places = ps; n = n; full = full }

appended_at : (ps : List Report) (full : length ps ≡ 4) (x : Report) (n : ℕ) → (appended (four_places ps full n) x).n ≤ 3
    → appended (four_places ps full n) x ≡ old_appended (four_places ps full n) x
unfolding appended old_appended
appended_at ps full x zero h = refl
appended_at ps full x (suc zero) h = refl
appended_at ps full x (suc (suc zero)) h = refl
appended_at ps full x (suc (suc (suc zero))) h = absurd (omega arith)
appended_at ps full x (suc (suc (suc (suc n)))) h = absurd (omega (arith, appended_more (four_places ps full (suc (suc (suc (suc n))))) x))

pub same_appended : (rs : Reports) (x : Report) → (appended rs x).n ≤ 3 → appended rs x ≡ old_appended rs x
same_appended rs x h = appended_at rs.places rs.full x rs.n h

moved_more : (r : Run) (m : Move) → NoFewer r.reports (moved r m).reports
unfolding moved told
moved_more r m =
    by_test (λ (s : Run). NoFewer r.reports s.reports) (eqb m.number 0) {x = with_phase r m.phase} {y = told r m}
    (λ _. omega arith) (λ _. appended_more r.reports (report_of r m.number m.reason))

moved_by : (b : Bool) (r : Run) (m : Move) → eqb m.number 0 ≡ b → (moved r m).reports.n ≤ 3 → moved r m ≡ old_moved r m
unfolding moved old_moved told old_told
moved_by true r m q h = rw q refl
moved_by false r m q h =
    let k : (appended r.reports (report_of r m.number m.reason)).n ≤ 3 = rw q at h in
    rw (q, same_appended r.reports (report_of r m.number m.reason) k) refl

pub same_moved : (r : Run) (m : Move) → (moved r m).reports.n ≤ 3 → moved r m ≡ old_moved r m
same_moved r m h = moved_by (eqb m.number 0) r m refl h

listed_in : (a b c d : Report) (n : ℕ) → n ≤ 3 → take n (a ∷ b ∷ c ∷ d ∷ []) ≡ take n (a ∷ b ∷ c ∷ [])
listed_in a b c d zero h = refl
listed_in a b c d (suc zero) h = refl
listed_in a b c d (suc (suc zero)) h = refl
listed_in a b c d (suc (suc (suc zero))) h = refl
listed_in a b c d (suc (suc (suc (suc n)))) h = absurd (omega arith)

listed_at : (ps : List Report) (full : length ps ≡ 4) (n : ℕ) → n ≤ 3 → listed (four_places ps full n) ≡ old_listed (four_places ps full n)
unfolding listed old_listed
listed_at (a ∷ b ∷ c ∷ d ∷ []) full n h = listed_in a b c d n h
listed_at [] full n h = absurd (omega (arith, full))
listed_at (a ∷ []) full n h = absurd (omega (arith, full))
listed_at (a ∷ b ∷ []) full n h = absurd (omega (arith, full))
listed_at (a ∷ b ∷ c ∷ []) full n h = absurd (omega (arith, full))
listed_at (a ∷ b ∷ c ∷ d ∷ e ∷ ps) full n h = absurd (omega (arith, full))

-- the reports of an event, and how they are counted
pub same_listed : (rs : Reports) → rs.n ≤ 3 → listed rs ≡ old_listed rs
same_listed rs h = listed_at rs.places rs.full rs.n h

pub same_counted : (c : Counts) (hears : Bool) (rs : Reports) → rs.n ≤ 3 → counted_event c hears rs ≡ old_counted_event c hears rs
unfolding counted_event old_counted_event
same_counted c hears rs h = rw (same_listed rs h) refl

-- ---- link
-- a move after another: the two rules agree on the phase that the move is made from
then_moved : (f g : Phase → Move) (r s : Run) → (moved r (f r.phase)).reports.n ≤ 3 → f r.phase ≡ g r.phase → r ≡ s
    → moved r (f r.phase) ≡ old_moved s (g s.phase)
then_moved f g r s h q t = same_moved r (f r.phase) h ∙ ap (old_moved r) q ∙ ap (λ (x : Run). old_moved x (g x.phase)) t

-- time passes
pub same_passed : (r : Run) (mark start : Micros) → is_free r.phase.message.part ≡ false → (passed r mark start).reports.n ≤ 3
    → passed r mark start ≡ old_passed r mark start
unfolding passed old_passed
same_passed r mark start n h =
    let gap = gap_of mark start in
    let r1 = moved r (after_silence r.phase gap) in
    let m2 = after_p2 r1.phase gap in
    let r2 = moved r1 m2 in
    let m3 = after_p3 r2.phase gap in
    let r3 = moved r2 m3 in
    let m4 = after_window r3.phase mark start in
    let h3 : r3.reports.n ≤ 3 = omega (arith, moved_more r3 m4) in
    let h2 : r2.reports.n ≤ 3 = omega (arith, moved_more r2 m3) in
    let h1 : r1.reports.n ≤ 3 = omega (arith, moved_more r1 m2) in
    let q1 = then_moved (λ p. after_silence p gap) (λ p. old_after_silence p gap) r r h1 (same_silence r.phase gap n) refl in
    let q2 = then_moved (λ p. after_p2 p gap) (λ p. after_p2 p gap) r1 _ h2 refl q1 in
    let q3 = then_moved (λ p. after_p3 p gap) (λ p. after_p3 p gap) r2 _ h3 refl q2 in
    then_moved (λ p. after_window p mark start) (λ p. after_window p mark start) r3 _ h refl q3

-- A, W or D closes what is open
pub same_shut : (r : Run) (reason : ℕ) → (shut r reason).reports.n ≤ 3 → shut r reason ≡ old_shut r reason
unfolding shut old_shut
same_shut r reason h =
    let r1 = moved r (closing r.phase) in
    let h1 : r1.reports.n ≤ 3 = omega (arith, moved_more r1 (leaving r1.phase reason)) in
    then_moved (λ p. leaving p reason) (λ p. leaving p reason) r1 _ h refl (then_moved closing closing r r h1 refl refl)

-- a byte that does not cut in: it is heard, and acts
abbrev uncut : Run → Event → Micros → Run
uncut r e mark =
    let r1 = moved (hearing r) (after_byte r.phase e.side e.value mark e.start) in
    moved r1 (after_stop r1.phase)

heard_uncut : (r : Run) (e : Event) (mark : Micros) → is_car (edition_of r.phase.start.pair) ≡ false → byte_heard r e mark ≡ uncut r e mark
unfolding byte_heard moved
heard_uncut r e mark n = rw (never_cut r.phase e.side n) refl

same_uncut : (r : Run) (e : Event) (mark : Micros) → Of14230 r.phase → (r.phase.state ≡ Starting → CarKey r.phase.start e.value → ⊥)
    → (uncut r e mark).reports.n ≤ 3 → uncut r e mark ≡ old_byte_heard r e mark
unfolding old_byte_heard
same_uncut r e mark g f h =
    let m1 = after_byte r.phase e.side e.value mark e.start in
    let r1 = moved (hearing r) m1 in
    let h1 : r1.reports.n ≤ 3 = omega (arith, moved_more r1 (after_stop r1.phase)) in
    let q1 = same_moved (hearing r) m1 h1 ∙ ap (old_moved (hearing r)) (same_byte r.phase e.side e.value mark e.start g f) in
    then_moved after_stop after_stop r1 _ h refl q1

pub same_heard : (r : Run) (e : Event) (mark : Micros) → Of14230 r.phase → (r.phase.state ≡ Starting → CarKey r.phase.start e.value → ⊥)
    → (byte_heard r e mark).reports.n ≤ 3 → byte_heard r e mark ≡ old_byte_heard r e mark
same_heard r e mark g f h =
    let q = heard_uncut r e mark g.pair in
    q ∙ same_uncut r e mark g f (subst (λ (x : Run). x.reports.n ≤ 3) q h)

-- the event acts
pub same_acts : (k : Kind) (r : Run) (e : Event) (mark : Micros) → Of14230 r.phase
    → (k ≡ Byte → r.phase.state ≡ Starting → CarKey r.phase.start e.value → ⊥)
    → (acted_by k r e mark).reports.n ≤ 3 → acted_by k r e mark ≡ old_acted_by k r e mark
same_acts Address r e mark g f h =
    let s = shut r restarted in
    let m = starting_slow s.phase.idle e.value mark e.start in
    then_moved (λ p. starting_slow p.idle e.value mark e.start) (λ p. starting_slow p.idle e.value mark e.start) s _ h refl
    (same_shut r restarted (omega (arith, moved_more s m)))
same_acts WakeUp r e mark g f h =
    let s = shut r restarted in
    let m = starting_fast s.phase.idle mark e.start e.end in
    then_moved (λ p. starting_fast p.idle mark e.start e.end) (λ p. starting_fast p.idle mark e.start e.end) s _ h refl
    (same_shut r restarted (omega (arith, moved_more s m)))
same_acts Byte r e mark g f h = same_heard r e mark g (f refl) h
same_acts Tick r e mark g f h = refl
same_acts Drop r e mark g f h = same_shut r dropped h
same_acts Other r e mark g f h = refl

-- ---- what time leaves of a 14230 link is one still; and if it is in an initialization, it is as it was
record Left (p q : Phase) : Type 0 where
  of14230 : Of14230 q
  same : q.state ≡ Starting → q ≡ p

not_starting : (st : State) → is_starting st ≡ false → st ≡ Starting → ⊥
unfolding is_starting
not_starting st n q = false≢true (sym n ∙ ap is_starting q)

module _ (p : Phase) where
  down_left : (idle : Micros) → Left p (down idle)
  unfolding down no_start edition_of is_car is_free is_starting
  down_left idle = record { of14230 = record { pair = refl; part = refl }; same = λ q. absurd (not_starting Down refl q) }

  settled_left : (q : Phase) → Of14230 q → Left p (settled q)
  unfolding settled talking is_starting
  settled_left q g = record { of14230 = record { pair = g.pair; part = g.part }; same = λ t. absurd (not_starting Quiet refl t) }

  framed_left : (q : Phase) → Of14230 q → Left p (framed q)
  unfolding framed asked answered timed talking is_starting
  framed_left q g =
      by_test (Left p) (is_tester q.message.side) {x = asked q} {y = answered q}
      (λ _. record { of14230 = record { pair = g.pair; part = g.part }; same = λ t. absurd (not_starting Quiet refl t) })
      (λ _. record { of14230 = record { pair = g.pair; part = g.part }; same = λ t. absurd (not_starting Quiet refl t) })

  module _ (mark : Micros) (e : Event) where
    left_1 : (q : Phase) (m : Move) → Rule mark e q at_silence m → Left p q → Left p m.phase
    left_1 q m (rests u) g = g
    left_1 q m (ends_right h s r) g = framed_left q g.of14230
    left_1 q m (breaks_off o s r) g = settled_left q g.of14230

    left_2 : (q : Phase) (m : Move) → Rule mark e q at_p2 m → Left p q → Left p m.phase
    left_2 q m (rests u) g = g
    left_2 q m (waited k f t) g = settled_left q g.of14230

    left_3 : (q : Phase) (m : Move) → Rule mark e q at_p3 m → Left p q → Left p m.phase
    left_3 q m (rests u) g = g
    left_3 q m (idled k f t) g = down_left _

    left_4 : (q : Phase) (m : Move) → Rule mark e q at_window m → Left p q → Left p m.phase
    left_4 q m (rests u) g = g
    left_4 q m (expires s o) g = down_left _

    moved_left : (r : Run) (m : Move) → Left p m.phase → Left p (moved r m).phase
    moved_left r m g = subst (Left p) (sym (moved_phase r m)) g

    passed_left : (r : Run) → Left p r.phase → Left p (passed r mark e.start).phase
    unfolding passed
    passed_left r g =
        let gap = gap_of mark e.start in
        let r1 = moved r (after_silence r.phase gap) in
        let r2 = moved r1 (after_p2 r1.phase gap) in
        let r3 = moved r2 (after_p3 r2.phase gap) in
        let g1 = moved_left r _ (left_1 r.phase _ (by_silence mark e r.phase) g) in
        let g2 = moved_left r1 _ (left_2 r1.phase _ (by_p2 mark e r1.phase) g1) in
        let g3 = moved_left r2 _ (left_3 r2.phase _ (by_p3 mark e r2.phase) g2) in
        moved_left r3 (after_window r3.phase mark e.start) (left_4 r3.phase _ (by_window mark e r3.phase) g3)

-- ---- no more than three reports are made
shut_more : (r : Run) (reason : ℕ) → NoFewer r.reports (shut r reason).reports
unfolding shut
shut_more r reason =
    let r1 = moved r (closing r.phase) in
    omega (arith, moved_more r (closing r.phase), moved_more r1 (leaving r1.phase reason))

heard_more : (r : Run) (e : Event) (mark : Micros) → NoFewer r.reports (byte_heard r e mark).reports
unfolding byte_heard
heard_more r e mark =
    let m1 = before_byte r.phase e.side in
    let r1 = moved r m1 in
    let m2 = after_byte r1.phase e.side e.value mark e.start in
    let r2 = moved (hearing r1) m2 in
    omega (arith, moved_more r m1, moved_more (hearing r1) m2, moved_more r2 (after_stop r2.phase))

acts_more : (k : Kind) (r : Run) (e : Event) (mark : Micros) → NoFewer r.reports (acted_by k r e mark).reports
acts_more Address r e mark =
    let s = shut r restarted in
    omega (arith, shut_more r restarted, moved_more s (starting_slow s.phase.idle e.value mark e.start))
acts_more WakeUp r e mark =
    let s = shut r restarted in
    omega (arith, shut_more r restarted, moved_more s (starting_fast s.phase.idle mark e.start e.end))
acts_more Byte r e mark = heard_more r e mark
acts_more Tick r e mark = omega arith
acts_more Drop r e mark = shut_more r dropped
acts_more Other r e mark = omega arith

-- THE EXCEPTION, of a link and an event: a byte, in an initialization, that is the second key byte and completes a car's pair after address 33
pub record CompletesCar (l : Link) (e : Event) : Type 0 where
  pub byte : e.kind ≡ Byte
  pub state : l.phase.state ≡ Starting
  pub key : CarKey l.phase.start e.value

-- a byte that finds an initialization finds it as the link had it
spared : (l : Link) (e : Event) (q : Phase) → Left l.phase q → (CompletesCar l e → ⊥) → e.kind ≡ Byte → q.state ≡ Starting → CarKey q.start e.value → ⊥
spared l e q w f k s c =
    let z : q ≡ l.phase = w.same s in
    f (record { byte = k; state = ap (λ (p : Phase). p.state) (sym z) ∙ s; key = subst (λ (p : Phase). CarKey p.start e.value) z c })

few : (l : Link) (e : Event) → Of14230 l.phase → (handled l e).reports.n ≤ 3
unfolding is_right
few l e g =
    three_enough l e
    (off_right (is_held l.phase.state) _ (ap (λ (k : ℕ). eqb k no_reason) (same_end l.phase.message l.phase.start.pair g.part)))

-- the event is handled, and answered
pub same_handled : (l : Link) (e : Event) → Of14230 l.phase → (CompletesCar l e → ⊥) → handled l e ≡ old_handled l e
unfolding handled old_handled acted old_acted begins
same_handled l e g f =
    let r = begins l e in
    let t = passed r l.mark e.start in
    let g0 : Left l.phase r.phase = record { of14230 = g; same = λ _. refl } in
    let w = passed_left l.phase l.mark e r g0 in
    let h : (acted_by e.kind t e l.mark).reports.n ≤ 3 = few l e g in
    let h1 : t.reports.n ≤ 3 = omega (arith, acts_more e.kind t e l.mark) in
    same_acts e.kind t e l.mark w.of14230 (spared l e t.phase w f) h
    ∙ ap (λ (x : Run). old_acted_by e.kind x e l.mark) (same_passed r l.mark e.start g.part h1)

pub same_taken : (l : Link) (e : Event) → Of14230 l.phase → (CompletesCar l e → ⊥) → taken_by l e ≡ old_taken_by l e
unfolding taken_by old_taken_by
same_taken l e g f = rw (same_handled l e g f) refl

pub same_answer : (l : Link) (c : Counts) (e : Event) → Of14230 l.phase → (CompletesCar l e → ⊥) → answer_of l c e ≡ old_answer_of l c e
unfolding answer_of old_answer_of
same_answer l c e g f = rw (same_taken l e g f) refl

answer_few : (l : Link) (c : Counts) (e : Event) → Of14230 l.phase → (answer_of l c e).reports.n ≤ 3
unfolding answer_of taken_by refused_by
answer_few l c e g = by_test (λ (a : Answer). a.reports.n ≤ 3) (eqb (number_of l c e) taken) (λ _. few l e g) (λ _. omega arith)

pub same_counts : (c : Counts) (a : Answer) (e : Event) → a.reports.n ≤ 3 → counts_after c a e ≡ old_counts_after c a e
unfolding counts_after old_counts_after
same_counts c a e h = rw (same_counted c (is_byte e.kind) a.reports h) refl

-- THE STEP IS THE ONE FROM BEFORE: of a 14230 link, for any counts and any event but a second key byte that completes a car's pair after address 33
pub same_step : (l : Link) (c : Counts) (e : Event) → Of14230 l.phase → (CompletesCar l e → ⊥) → step_of l c e ≡ old_step_of l c e
unfolding step_of old_step_of
same_step l c e g f = rw (same_counts c (answer_of l c e) e (answer_few l c e g), same_answer l c e g f) refl
