-- A byte heard in a session: it opens a message or damage, goes on with it, or ends a message in a frame; what the link then keeps is what the session
-- says (`Ends`), and a unit frame that answers a stop ends the session.
-- Assumes nothing.
use Prim.Native.Nat.{ℕ, ◌+◌, ◌-◌, ◌≤◌, ◌<◌}
use mathlib.Core.Bool.{Bool, true, false, not, ◌||◌, false≢true}
use mathlib.Core.List.{List, [], ◌∷◌, ◌++◌, append-nil, append_assoc}
use mathlib.Core.Path.{◌≡◌, refl, sym, ap, ap₂, ◌∙◌, subst}
use mathlib.Core.Logic.{◌↔◌, inl, ⊎_elim}
use native.Mathlib.Omega.{arith}
use borrow.Author.Tests.{eq-eqb, eqb-true, eqb-false}
use lib.Dec.{eqb}
use lib.ListN.{length, get_or, take, drop, length-append, length-drop}
use lib.Seq.{take_all, drop-append-le, drop_at, get_or-drop}
use Rattle.std.specs.Prelude.{if◌then◌else◌}
use Rattle.base.specs.Numbers.{taken}
use Rattle.base.specs.Sums.{count_sum}
use Rattle.base.specs.Reports.{frame_report, outside_report, down_report, no_reason, early, stray, other_side, stopped}
use Rattle.base.proofs.Tests.{by_test}
use Rattle.units.specs.Units.{gap_of}
use Rattle.units.specs.declared.Micros.{Micros}
use Rattle.timing.specs.Timing.{set_of, decoded_of}
use Rattle.timing.specs.declared.Windows.{Windows}
use Rattle.keys.specs.declared.Pair.{Pair}
use Rattle.frame.specs.Read.{data_of}
use Rattle.events.specs.Events.{is_tester, is_nobody, same_side}
use Rattle.events.specs.declared.Kind.TheVariants.{Byte}
use Rattle.events.specs.declared.Side.{Side}
use Rattle.events.specs.declared.Side.TheVariants.{Tester, Unit, Nobody}
use Rattle.events.specs.declared.Event.{Event}
use Rattle.talk.specs.Cars.{car_grown, car_begun}
use Rattle.talk.specs.Talk.{head_reason, first_reason, begun, begun_by, part_reason, later_reason, is_sum, grown, with_data, request_of, is_exactly}
use Rattle.talk.specs.Talk.{asks_codes, if_allowed, request_after, is_stopped}
use Rattle.talk.specs.declared.Part.{Part}
use Rattle.talk.specs.declared.Part.TheVariants.{Target, Source, Length, Data, Sum, Free}
use Rattle.talk.specs.declared.Request.{Request}
use Rattle.talk.specs.declared.Request.TheVariants.{Ordinary, Stop, OwnTiming, NewTiming}
use Rattle.talk.specs.declared.Message.{Message}
use Rattle.talk.specs.Messages.{ends_in, is_message}
use Rattle.phases.specs.Phases.{is_quiet, is_held, is_open, is_connected, down, talking, holding, damaged, timed, asked, answered, framed}
use Rattle.phases.specs.declared.State.TheVariants.{Quiet, Damage, Down}
use Rattle.phases.specs.declared.Phase.{Phase}
use Rattle.phases.proofs.StateTests.{quiet_is}
use Rattle.moves.specs.Moves.{still, makes, loss_reason, reason_at_first}
use Rattle.moves.specs.declared.Move.{Move}
use Rattle.moves.proofs.Rules.{at_byte, at_stop, Rule, rests, strays, misses, connects, goes_on, opens, errs, breaks, frames, one_move}
use Rattle.moves.proofs.Rules.{stops as stopped_by}
use Rattle.moves.proofs.Rules.{grows as lengthens}
use Rattle.reports.specs.Reporting.{names_bytes, report_of, told, moved}
use Rattle.reports.specs.declared.Report.{Report}
use Rattle.reports.specs.declared.Run.{Run}
use Rattle.link.specs.Handling.{hearing}
use Rattle.link.specs.Telling.{tells}
use Rattle.demands.specs.Logs.{last_side, Log, ◌▷◌, mark_of, bytes_of, heard_in, number_after, taken_of, whole, more}
use Rattle.demands.specs.Editions.{of_car, is_frame, ends_itself}
use Rattle.demands.specs.Histories.{after, is_among, Among, first, later, Tells}
use Rattle.demands.specs.Accounts.{named_by, bytes_named}
use Rattle.demands.specs.Sessions.{Frame, Frames, ◌▸◌, stops, resets, retimes, codes_in, pending_in, windows_in, Talk, after_report}
use Rattle.demands.specs.Sessions.{frame_named, reply_to, talk_after, Session, in_force, gap_before, Stray, Early}
use Rattle.demands.proofs.Sessions.MessageData.{Carries, Kept, begun as gone_none, on, gone_by, gone_ends, ends_now, kept_asked, message_carries, GoneOn, pair_good, message_ends, ends_frame}
use Rattle.demands.proofs.Sessions.CarMessages.{sum_no_car}
use Rattle.demands.proofs.Sessions.MessageData.{reply_windows_lem, reply_request, reply_stops}
use Rattle.demands.specs.Messages.{InTime}
use Rattle.demands.proofs.Histories.BytesAsEvents.{talk_behind, value_reason, talk_reason, same_length, byte_events, head_wrong, head_right, later_wrong, later_right}
use Rattle.demands.proofs.Sessions.AfterFirstByte.{FirstOf, Speaking, begins, grows}
use Rattle.demands.proofs.Histories.Tiling.{sum_is}
use Rattle.demands.proofs.Histories.BytesHeard.{Bytes, byte_longer, begins_longer}
use Rattle.demands.proofs.Moves.ReportsInList.{Each, each_none, each_one, each_both}
use Rattle.demands.proofs.Damage.StrayOrEarly.{same_is, has_side, first_early, first_stray, first_else, first_head, later_elsewhere}
use Rattle.demands.proofs.Moves.TimePasses.{off_second}
use Rattle.demands.proofs.Sessions.SessionLasts.{held_loss, Fits, Holds, reason_with, Opened, At, Told, plain, turned}
use Rattle.demands.proofs.Sessions.SessionEnds.{Ends, still_up, over}
use Rattle.demands.specs.Ours.{ours}

-- ---- small laws
pub within : (n : ℕ) (l : List ℕ) (x : ℕ) (xs : List ℕ) → drop n l ≡ x ∷ xs → n ≤ length l
within n l x xs q = let z = ap length q in let y = length-drop n l in omega arith

pub grown_side : (m : Message) (v : ℕ) → (grown m v).side ≡ m.side
unfolding grown with_data car_grown
grown_side m v = by_part m.part refl
  where
    by_part : (part : Part) → m.part ≡ part → (grown m v).side ≡ m.side
    by_part Target q = rw q
    by_part Source q = rw q
    by_part Length q = rw q
    by_part Data q = rw q
    by_part Sum q = rw q
    by_part Free q = rw q

pub begun_side : (pair : Pair) (side : Side) (v : ℕ) → (begun_by pair side v).side ≡ side
unfolding begun_by begun car_begun car_grown
begun_side pair side v = by_test (λ (m : Message). m.side ≡ side) (of_car pair) {x = car_begun side v} {y = begun side v} (λ _. refl) (λ _. refl)

later_side : (m : Message) (side : Side) (v : ℕ) → later_reason m side v ≡ no_reason → side ≡ m.side
unfolding later_reason
later_side m side v q = by_same (same_side side m.side) refl q
  where
    by_same : (b : Bool) → same_side side m.side ≡ b → (if not b then other_side else part_reason m.part m v) ≡ no_reason → side ≡ m.side
    by_same true s r = same_is side m.side s
    by_same false s r = absurd (omega arith)

unit_side : (side : Side) → is_tester side ≡ false → is_nobody side ≡ false → side ≡ Unit
unfolding is_tester is_nobody
unit_side Tester t n = absurd (false≢true (sym t))
unit_side Unit t n = refl
unit_side Nobody t n = absurd (false≢true (sym n))

tester_unit : (side : Side) → is_tester side ≡ true → side ≡ Unit → ⊥
unfolding is_tester
tester_unit side t u = false≢true (sym (ap is_tester u) ∙ t)

request_not : (m : Message) → is_stopped (request_of m) ≡ false
unfolding request_of is_stopped
request_not m =
    by_test (λ (q : Request). is_stopped q ≡ false) (eqb m.first 0x82) {x = Stop} (λ _. refl)
    (λ _. by_test (λ (q : Request). is_stopped q ≡ false) (is_exactly m (0x83 ∷ 0x01 ∷ [])) {x = OwnTiming} (λ _. refl)
    (λ _. by_test (λ (q : Request). is_stopped q ≡ false) (asks_codes m) {x = NewTiming} {y = Ordinary} (λ _. refl) (λ _. refl)))

-- a frame more: what is pending, and the windows in force
windows_asked : (pair : Pair) (fs : Frames) (f : Frame) → is_tester f.side ≡ true → windows_in pair (fs ▸ f) ≡ windows_in pair fs
unfolding windows_in
windows_asked pair fs f c = rw c

pending_asked : (pair : Pair) (fs : Frames) (f : Frame) → is_tester f.side ≡ true → pending_in pair (fs ▸ f) ≡ data_of pair.kb1 pair.kb2 f.bytes
unfolding pending_in
pending_asked pair fs f c = rw c

abbrev reply_windows : Pair → Windows → List ℕ → List ℕ → Windows
reply_windows pair w q a = if resets q a then set_of pair else if retimes q a then if_allowed (decoded_of (codes_in q)) w else w

abbrev pending_by : List ℕ → List ℕ → List ℕ
pending_by q a = if stops q a || resets q a || retimes q a then [] else q

windows_answered : (pair : Pair) (fs : Frames) (f : Frame) → is_tester f.side ≡ false
    → windows_in pair (fs ▸ f) ≡ reply_windows pair (windows_in pair fs) (pending_in pair fs) (data_of pair.kb1 pair.kb2 f.bytes)
unfolding windows_in
windows_answered pair fs f c = rw c

pending_answered : (pair : Pair) (fs : Frames) (f : Frame) → is_tester f.side ≡ false
    → pending_in pair (fs ▸ f)
    ≡ pending_by (pending_in pair fs) (data_of pair.kb1 pair.kb2 f.bytes)
unfolding pending_in
pending_answered pair fs f c = rw c

-- whose the last of bytes is
side_last : (l : List Event) (e : Event) → last_side (l ++ (e ∷ [])) ≡ e.side
unfolding last_side
side_last [] e = refl
side_last (b ∷ []) e = refl
side_last (b ∷ c ∷ l) e = side_last (c ∷ l) e

-- ---- a byte e, after es
module _ (es : Log) (e : Event) (all : List Report) (kind : e.kind ≡ Byte) (number : number_after (taken_of es) e ≡ taken)
    (one_more : heard_in (es ▷ e) ≡ heard_in es ++ (e.value ∷ [])) (room : length (heard_in es) ≤ 4_000_000_000)
    (before_byte : Bytes (heard_in es)) (byte : Bytes (heard_in (es ▷ e))) (mark : Micros) (mark_is : mark ≡ mark_of (taken_of es)) where
  sided : is_nobody e.side ≡ false
  sided = has_side (taken_of es) e number kind

  heard_more : (heard : ℕ) → heard ≡ length (heard_in es) → count_sum heard 1 ≡ length (heard_in (es ▷ e))
  heard_more heard q =
      let c = sum_is heard 1 (omega arith) in
      let z = ap length one_more in
      let y = length-append (heard_in es) (e.value ∷ []) in
      omega arith

  -- the byte's move m, and then that of a stop, n
  abbrev pub heard_tells : Run → Move → Move → List Report
  heard_tells r m n = tells (hearing r) m ++ tells (moved (hearing r) m) n

  abbrev pub heard_run : Run → Move → Move → Run
  heard_run r m n = moved (moved (hearing r) m) n

  abbrev Heard : Talk → Run → Move → Type 0
  Heard t r m = (n : Move) → Rule mark e (moved (hearing r) m).phase at_stop n → Each (λ (x : Report). Among x all) (heard_tells r m n)
      → Ends es e all t (heard_tells r m n) (heard_run r m n)

  -- a byte that makes no report
  silent_byte : (t : Talk) (r : Run) (q : Phase) → is_quiet q.state ≡ false
      → (Session ours (es ▷ e) t → (after ours (es ▷ e)).link.named ≡ r.named → At (es ▷ e) t q r.named (count_sum r.heard 1))
      → Heard t r (still q)
  unfolding tells moved is_among talk_after
  silent_byte t r q l f n (rests u) _ = still_up refl (each_none (Told es e all t)) f
  silent_byte t r q l f n (stopped_by s x) _ = absurd (false≢true (sym l ∙ quiet_is s))

  -- ---- the first byte of a message
  module _ (t : Talk) (p : Phase) (named heard : ℕ) (a : At es t p named heard) (quiet : is_quiet p.state ≡ true) (s : Session ours (es ▷ e) t)
      (last : (after ours (es ▷ e)).link.named ≡ named) where
    abbrev reason : ℕ
    reason = reason_at_first p e.side e.value (gap_of mark e.start)

    reason_is : reason ≡ first_reason p.start.pair t.reply (in_force t) e.side e.value (gap_before (taken_of es) e)
    unfolding reason_at_first
    reason_is i = first_reason p.start.pair (a.fits.reply i) (a.fits.windows i) e.side e.value (gap_of (mark_is i) e.start)

    reason_by : reason ≡ first_reason t.pair t.reply (in_force t) e.side e.value (gap_before (taken_of es) e)
    reason_by = reason_is ∙ ap (λ (k : Pair). first_reason k t.reply (in_force t) e.side e.value (gap_before (taken_of es) e)) a.fits.pair

    reason_early : (k : ℕ) → k ≡ reason → (k ≡ early) ↔ Early t t.reply (gap_before (taken_of es) e) e
    reason_early k q = rw (q ∙ reason_is) (first_early t (gap_before (taken_of es) e) e sided p.start.pair)

    reason_stray : (k : ℕ) → k ≡ reason → (k ≡ stray) ↔ Stray t t.reply (gap_before (taken_of es) e) e
    reason_stray k q = rw (q ∙ reason_is) (first_stray t (gap_before (taken_of es) e) e sided p.start.pair)

    named_is : length (heard_in es) ≡ named
    named_is = sym a.bytes ∙ sym (a.calm quiet)

    -- the bytes from it on
    first_event : (bs : List Event) → drop named (bytes_of (taken_of (es ▷ e))) ++ bs ≡ e ∷ bs
    first_event bs =
        ap (λ (l : List Event). drop named l ++ bs) (byte_events es e number kind)
        ∙ ap (λ (l : List Event). l ++ bs) (drop_at (bytes_of (taken_of es)) (e ∷ []) named (same_length (taken_of es) ∙ named_is))

    opening : FirstOf t es e
    opening = record { session = s; kind = kind; number = number; alone = last ∙ sym named_is }

    first_held : reason ≡ no_reason → At (es ▷ e) t (holding p (begun_by p.start.pair e.side e.value)) named (count_sum heard 1)
    unfolding holding talking is_connected is_quiet loss_reason is_held reason_at_first last_side
    first_held z =
        let f = a.fits in
        record {
          fits = record { connected = refl; good = f.good; pair = f.pair; windows = f.windows; reply = f.reply; kept = f.kept };
          bytes = heard_more heard a.bytes;
          calm = λ q. absurd (false≢true q);
          opened = λ _. record {
            before = es;
            byte = e;
            begins = whole;
            first = opening;
            index = named_is;
            hasty = reason_early no_reason (sym z);
            astray = reason_stray no_reason (sym z);
            fresh = λ _ _. refl;
            reasoned = λ _ _ bs.
                ap (talk_reason t.pair) (first_event bs) ∙ head_right t.pair e bs (first_head t.pair t.reply (in_force t) e.side e.value
                (gap_before (taken_of es) e) (sym reason_by ∙ z))
                ∙ ap (λ (k : Pair). talk_behind (begun_by k e.side e.value) bs) (sym a.fits.pair);
            against = λ h. absurd (false≢true (sym h));
            held = λ _. record {
              head = e.value;
              rest = [];
              bytes = ap (drop named) one_more ∙ drop_at (heard_in es) (e.value ∷ []) named named_is;
              right = first_head p.start.pair p.reply p.windows e.side e.value (gap_of mark e.start) z;
              gone = gone_none;
              whose = begun_side p.start.pair e.side e.value;
              last = ap last_side (sym (append-nil (drop named (bytes_of (taken_of (es ▷ e))))) ∙ first_event []);
              spoken = begins (record {
                first = opening;
                timely = λ q. let k = (reason_early no_reason (sym z)).1 q in omega arith;
                expected = λ q. let k = (reason_stray no_reason (sym z)).1 q in omega arith;
              });
            };
          };
        }

    first_damaged : (reason ≡ no_reason → ⊥) → At (es ▷ e) t (damaged p reason) named (count_sum heard 1)
    unfolding damaged talking is_connected is_quiet loss_reason is_held
    first_damaged n =
        let f = a.fits in
        record {
          fits = record { connected = refl; good = f.good; pair = f.pair; windows = f.windows; reply = f.reply; kept = f.kept };
          bytes = heard_more heard a.bytes;
          calm = λ q. absurd (false≢true q);
          opened = λ _. record {
            before = es;
            byte = e;
            begins = whole;
            first = opening;
            index = named_is;
            hasty = reason_early reason refl;
            astray = reason_stray reason refl;
            fresh = λ _ z. absurd (n (reason_by ∙ z));
            reasoned = λ x y bs.
                let q = reason_by ∙ first_else t (gap_before (taken_of es) e) e sided t.pair x y in
                ap (talk_reason t.pair) (first_event bs) ∙ head_wrong t.pair e bs (λ z. n (q ∙ z)) ∙ sym q;
            against = λ _. n;
            held = λ h. absurd (false≢true h);
          };
        }

  -- ---- a later byte
  -- it joins the bytes that are open
  one_event : (t : Talk) (p : Phase) (named : ℕ) → Opened es t p named
      → drop named (bytes_of (taken_of (es ▷ e))) ≡ drop named (bytes_of (taken_of es)) ++ (e ∷ [])
  one_event t p named o =
      let longer = begins_longer o.begins in
      let first = byte_longer o.before o.byte o.first.number o.first.kind in
      let size = same_length (taken_of es) in
      let index = o.index in
      ap (drop named) (byte_events es e number kind) ∙ drop-append-le named (bytes_of (taken_of es)) (e ∷ []) (omega arith)

  -- what is open goes on
  still_open : (t : Talk) (p q : Phase) (named : ℕ) (o : Opened es t p named) → ((loss_reason q no_reason ≡ early) ↔ (loss_reason p no_reason ≡ early))
      → ((loss_reason q no_reason ≡ stray) ↔ (loss_reason p no_reason ≡ stray)) → ((bs : List Event) → reason_with p (e ∷ bs) ≡ reason_with q bs)
      → (is_held q.state ≡ false → q.message.why ≡ no_reason → ⊥) → (is_held q.state ≡ true → Holds (es ▷ e) t o.byte q named)
      → Opened (es ▷ e) t q named
  still_open t p q named o f g k n h = record {
    before = o.before;
    byte = o.byte;
    begins = more o.begins;
    first = o.first;
    index = o.index;
    hasty = (λ x. o.hasty.0 (f.0 x), λ x. f.1 (o.hasty.1 x));
    astray = (λ x. o.astray.0 (g.0 x), λ x. g.1 (o.astray.1 x));
    fresh = λ one.
        let longer = begins_longer o.begins in
        let first = byte_longer o.before o.byte o.first.number o.first.kind in
        let size = ap length one_more in
        let more = length-append (heard_in es) (e.value ∷ []) in
        let index = o.index in
        absurd (omega arith);
    reasoned = λ x y bs.
        ap (λ (l : List Event). talk_reason t.pair (l ++ bs)) (one_event t p named o)
        ∙ ap (talk_reason t.pair) (append_assoc (drop named (bytes_of (taken_of es))) (e ∷ []) bs)
        ∙ o.reasoned x y (e ∷ bs) ∙ k bs;
    against = n;
    held = h;
  }

  -- damage is skipped
  skipped_at : (t : Talk) (p : Phase) (named heard : ℕ) → At es t p named heard → p.state ≡ Damage → At (es ▷ e) t p named (count_sum heard 1)
  unfolding is_quiet is_open is_held
  skipped_at t p named heard a st = record {
    fits = a.fits;
    bytes = heard_more heard a.bytes;
    calm = λ q. absurd (false≢true (sym (ap is_quiet st) ∙ q));
    opened = λ o. still_open t p p named (a.opened o) (λ x. x, λ x. x) (λ x. x, λ x. x) (λ _. rw (ap is_held st) refl) (a.opened o).against
        (λ h. absurd (false≢true (sym (ap is_held st) ∙ h)));
  }

  -- a message goes on, is damaged, or ends
  module _ (t : Talk) (r : Run) (a : At es t r.phase r.named r.heard) (o : Opened es t r.phase r.named)
      (h : is_held r.phase.state ≡ true)
      (near : InTime (taken_of es) e) where
    abbrev wrong : ℕ
    wrong = later_reason r.phase.message e.side e.value

    same_reason : (k n : ℕ) → (k ≡ n → ⊥) → (no_reason ≡ n → ⊥) → (k ≡ n) ↔ (loss_reason r.phase no_reason ≡ n)
    same_reason k n x y = (λ q. absurd (x q), λ q. absurd (y (sym (held_loss r.phase no_reason h) ∙ q)))

    held_reason : (bs : List Event) → reason_with r.phase bs ≡ talk_behind r.phase.message bs
    held_reason bs = rw h refl

    later_damaged : (wrong ≡ no_reason → ⊥) → At (es ▷ e) t (damaged r.phase wrong) r.named (count_sum r.heard 1)
    unfolding damaged talking is_connected is_quiet is_held loss_reason
    later_damaged n =
        let f = a.fits in
        let x = later_elsewhere r.phase.message e.side e.value in
        record {
          fits = record { connected = refl; good = f.good; pair = f.pair; windows = f.windows; reply = f.reply; kept = f.kept };
          bytes = heard_more r.heard a.bytes;
          calm = λ q. absurd (false≢true q);
          opened = λ _. still_open t r.phase (damaged r.phase wrong) r.named o
              (same_reason wrong early x.0 (λ z. omega arith)) (same_reason wrong stray x.1 (λ z. omega arith))
              (λ bs. held_reason (e ∷ bs) ∙ later_wrong r.phase.message e bs n) (λ _. n) (λ y. absurd (false≢true y));
        }

    abbrev held : Holds es t o.byte r.phase r.named
    held = o.held h

    -- its bytes, with this one
    abbrev slice : List ℕ
    slice = held.head ∷ (held.rest ++ (e.value ∷ []))

    slice_is : drop r.named (heard_in (es ▷ e)) ≡ slice
    slice_is =
        ap (drop r.named) one_more
        ∙ drop-append-le r.named (heard_in es) (e.value ∷ []) (within r.named (heard_in es) held.head held.rest held.bytes)
        ∙ ap (λ (l : List ℕ). l ++ (e.value ∷ [])) held.bytes

    -- on a 14230 link its head is right, and it went on as such
    right_head : of_car t.pair ≡ false → eqb (head_reason t.pair.kb1 held.head) no_reason ≡ true
    unfolding value_reason
    right_head n =
        eq-eqb (head_reason t.pair.kb1 held.head) no_reason
        (sym (rw n refl) ∙ (sym (ap (λ (k : Pair). value_reason k held.head) a.fits.pair) ∙ held.right))

    gone_frame : of_car t.pair ≡ false → GoneOn o.byte.side (begun o.byte.side held.head) held.rest r.phase.message
    unfolding begun_by
    gone_frame n =
        subst (λ (m : Message). GoneOn o.byte.side m held.rest r.phase.message)
        (ap (λ (k : Pair). begun_by k o.byte.side held.head) a.fits.pair ∙ rw n refl) held.gone

    side_is : wrong ≡ no_reason → e.side ≡ o.byte.side
    side_is w = later_side r.phase.message e.side e.value w ∙ held.whose

    right_is : wrong ≡ no_reason → later_reason r.phase.message o.byte.side e.value ≡ no_reason
    right_is w = sym (ap (λ (x : Side). later_reason r.phase.message x e.value) (side_is w)) ∙ w

    -- the message so far is not yet one that `read` takes, and so goes on
    front_byte : Bytes (held.head ∷ held.rest)
    front_byte i = subst (λ (l : List ℕ). get_or l i 0 < 256) held.bytes (rw (get_or-drop r.named (heard_in es) i 0) (before_byte (r.named + i)))

    not_yet : ends_itself t.pair (held.head ∷ held.rest) ≡ true → ⊥
    not_yet q =
        let side = o.byte.side in
        let n = (ends_frame t.pair side (held.head ∷ held.rest) q).1 in
        let m = message_ends t.pair side (held.head ∷ held.rest) a.fits.good n front_byte ∙ q in
        let k = ap (ends_in side (begun side held.head)) (sym (append-nil held.rest))
        ∙ gone_ends side (begun side held.head) r.phase.message held.rest [] (gone_frame n) in
        false≢true (sym (rw (right_head n) k) ∙ m)

    speaks_on : wrong ≡ no_reason → Speaking t o.byte (es ▷ e) slice
    speaks_on w = grows held.spoken not_yet number kind (side_is w) near

    later_held : wrong ≡ no_reason → is_sum r.phase.message.part ≡ false
        → At (es ▷ e) t (holding r.phase (grown r.phase.message e.value)) r.named (count_sum r.heard 1)
    unfolding holding talking is_connected is_quiet is_held loss_reason
    later_held w n =
        let f = a.fits in
        record {
          fits = record { connected = refl; good = f.good; pair = f.pair; windows = f.windows; reply = f.reply; kept = f.kept };
          bytes = heard_more r.heard a.bytes;
          calm = λ q. absurd (false≢true q);
          opened = λ _. still_open t r.phase (holding r.phase (grown r.phase.message e.value)) r.named o
              (same_reason no_reason early (λ z. omega arith) (λ z. omega arith)) (same_reason no_reason stray (λ z. omega arith) (λ z. omega arith))
              (λ bs. held_reason (e ∷ bs) ∙ later_right r.phase.message e bs w) (λ z. absurd (false≢true (sym z)))
              (λ _. record {
                head = held.head;
                rest = held.rest ++ (e.value ∷ []);
                bytes = slice_is;
                right = held.right;
                gone = on e.value held.gone (right_is w) n;
                whose = grown_side r.phase.message e.value ∙ held.whose;
                last = ap last_side (one_event t r.phase r.named o) ∙ side_last (drop r.named (bytes_of (taken_of es))) e ∙ side_is w;
                spoken = speaks_on w;
              });
        }

    -- ---- the last byte of a message: a frame
    module _ (w : wrong ≡ no_reason) (last : is_sum r.phase.message.part ≡ true) where
      no_car : of_car t.pair ≡ false
      no_car =
          sym (ap of_car a.fits.pair)
          ∙ sum_no_car r.phase.start.pair o.byte.side o.byte.side held.head held.rest r.phase.message held.gone last

      abbrev x : Report
      x = report_of (hearing r) frame_report no_reason

      abbrev framed_bytes : List ℕ
      framed_bytes = named_by (heard_in (es ▷ e)) x

      abbrev latest : List ℕ
      latest = pending_in t.pair t.frames

      -- it names the message's bytes
      names : framed_bytes ≡ slice
      unfolding named_by report_of names_bytes
      names =
          let size = ap length slice_is in
          let gap = length-drop r.named (heard_in (es ▷ e)) in
          let more = heard_more r.heard a.bytes in
          ap (take (count_sum r.heard 1 - r.named)) slice_is ∙ take_all (count_sum r.heard 1 - r.named) slice (omega arith)

      -- and this byte is the last of them
      abbrev fr : Frame
      fr = frame_named (taken_of (es ▷ e)) x

      whose : fr.side ≡ e.side
      unfolding bytes_named report_of names_bytes
      whose =
          let size = count_sum r.heard 1 - r.named in
          let front = drop r.named (bytes_of (taken_of es)) in
          let one = one_event t r.phase r.named o in
          let left = length-drop r.named (bytes_of (taken_of (es ▷ e))) in
          let enough : length (front ++ (e ∷ [])) ≤ size
          = omega (arith, heard_more r.heard a.bytes, same_length (taken_of (es ▷ e)), ap length one, left) in
          ap (λ (l : List Event). last_side (take size l)) one ∙ ap last_side (take_all size (front ++ (e ∷ [])) enough) ∙ side_last front e

      slice_byte : (i : ℕ) → get_or slice i 0 < 256
      slice_byte i = subst (λ (l : List ℕ). get_or l i 0 < 256) slice_is (rw (get_or-drop r.named (heard_in (es ▷ e)) i 0) (byte (r.named + i)))

      -- they are a message that ends here, so `read` takes them
      message : is_message t.pair.kb1 o.byte.side slice ≡ true
      message =
          rw (right_head no_car)
          (gone_ends o.byte.side (begun o.byte.side held.head) r.phase.message held.rest (e.value ∷ []) (gone_frame no_car)
          ∙ ends_now o.byte.side r.phase.message e.value (right_is w) last)

      ends_here : ends_itself t.pair framed_bytes ≡ true
      ends_here =
          ap (ends_itself t.pair) names ∙ sym (message_ends t.pair o.byte.side slice a.fits.good no_car slice_byte) ∙ message

      reads : (side : Side) → is_frame t.pair side framed_bytes ≡ true
      reads side = (ends_frame t.pair side framed_bytes ends_here).0

      carries : Carries r.phase.message (data_of t.pair.kb1 t.pair.kb2 framed_bytes)
      carries =
          let c = message_carries t.pair.kb1 t.pair.kb2 o.byte.side held.head held.rest e.value
          (pair_good t.pair a.fits.good no_car) slice_byte message in
          let d = subst (λ (m : Message). Carries m (data_of t.pair.kb1 t.pair.kb2 slice))
          (sym (gone_by o.byte.side (begun o.byte.side held.head) r.phase.message held.rest (gone_frame no_car))) c in
          subst (λ (l : List ℕ). Carries r.phase.message (data_of t.pair.kb1 t.pair.kb2 l)) (sym names) d

      -- the talk with this frame
      abbrev with_frame : Talk
      with_frame = record {
        pair = t.pair;
        frames = t.frames ▸ fr;
        reply = reply_to fr.side;
      }

      asked_fits : is_tester fr.side ≡ true → Fits with_frame (asked r.phase)
      unfolding asked timed talking is_connected reply_to
      asked_fits c =
          let f = a.fits in
          let d = data_of t.pair.kb1 t.pair.kb2 framed_bytes in
          record {
            connected = refl;
            good = f.good;
            pair = f.pair;
            windows = f.windows ∙ sym (windows_asked t.pair t.frames fr c);
            reply = rw c refl;
            kept = subst (Kept (request_of r.phase.message) r.phase.message.seven) (sym (pending_asked t.pair t.frames fr c))
                (kept_asked r.phase.message d carries);
          }

      answered_fits : is_tester fr.side ≡ false → stops latest (data_of t.pair.kb1 t.pair.kb2 framed_bytes) ≡ false → Fits with_frame (answered r.phase)
      unfolding answered timed talking is_connected reply_to
      answered_fits c z =
          let f = a.fits in
          let p = r.phase in
          let d = data_of t.pair.kb1 t.pair.kb2 framed_bytes in
          record {
            connected = refl;
            good = f.good;
            pair = f.pair;
            windows = reply_windows_lem p.request p.asked p.start.pair latest d p.message p.windows f.kept carries
                ∙ ap₂ (λ (k : Pair) (v : Windows). reply_windows k v latest d) f.pair f.windows
                ∙ sym (windows_answered t.pair t.frames fr c);
            reply = rw c refl;
            kept = subst (Kept (request_after p.request p.message) p.asked) (sym (pending_answered t.pair t.frames fr c))
                (reply_request p.request p.asked latest d p.message f.kept carries z);
          }

      -- what is shown of its report
      abbrev Stops : Type 0
      Stops = stops latest (data_of t.pair.kb1 t.pair.kb2 framed_bytes) ≡ true

      frame_told : (e.side ≡ Unit → Stops → Tells down_report stopped all) → Told es e all t x
      unfolding report_of names_bytes
      frame_told f =
          let never : (k : ℕ) → (no_reason ≡ k → ⊥) → loss_reason r.phase no_reason ≡ k → ⊥
          = λ k n q. n (sym (held_loss r.phase no_reason h) ∙ q) in
          record {
            reads = λ _. reads fr.side;
            spoken = λ _. record {
              talk = t;
              first = o.byte;
              number = number;
              frame = reads o.byte.side;
              ends = inl (subst (Speaking t o.byte (es ▷ e)) (sym names) (speaks_on w), kind, ends_here);
            };
            turns = λ _. turned es e all t r.phase r.named x o refl
                (λ q. absurd (let z = q.0 in omega arith), λ q. absurd (never early (λ z. omega arith) q))
                (λ q. absurd (let z = q.0 in omega arith), λ q. absurd (never stray (λ z. omega arith) q));
            answers = λ n. absurd (omega arith);
            stops = λ _ u z. f u z;
          }

      abbrev behind_frame : Phase → Run
      behind_frame q = moved (hearing r) (makes frame_report no_reason q)

      abbrev y : Phase → Report
      y q = report_of (behind_frame q) down_report stopped

      stop_told : (q : Phase) → Among x all → e.side ≡ Unit → Stops → Told es e all t (y q)
      unfolding report_of
      stop_told q i u z = record {
        reads = λ n. absurd (omega arith);
        spoken = λ n. absurd (omega arith);
        turns = λ n. absurd (⊎_elim (λ k. omega arith) (λ k. omega arith) n);
        answers = λ _ _. record { report = x; made = i; number = refl; unit = u; stop = z };
        stops = λ n. absurd (omega arith);
      }

      -- the session goes on with it
      frame_at : (q : Phase) → q.state ≡ Quiet → Fits with_frame q → At (es ▷ e) with_frame q (count_sum r.heard 1) (count_sum r.heard 1)
      unfolding is_open
      frame_at q st f = record {
        fits = f;
        bytes = heard_more r.heard a.bytes;
        calm = λ _. refl;
        opened = λ z. absurd (false≢true (sym (ap is_open st) ∙ z));
      }

      frame_on : (q : Phase) → q.state ≡ Quiet → Fits with_frame q → (e.side ≡ Unit → Stops → ⊥)
          → Ends es e all t (tells (hearing r) (makes frame_report no_reason q) ++ tells (behind_frame q) (still q)) (moved (behind_frame q) (still q))
      unfolding tells moved told report_of names_bytes is_among talk_after after_report
      frame_on q st f n =
          still_up refl (each_both (Told es e all t) (x ∷ []) [] (each_one (Told es e all t) x (frame_told (λ u z. absurd (n u z))))
          (each_none (Told es e all t)))
          (λ _ _. frame_at q st f)

      frame_over : (q : Phase) → e.side ≡ Unit → Stops
          → Each (λ (z : Report). Among z all)
          (tells (hearing r) (makes frame_report no_reason q) ++ tells (behind_frame q) (makes down_report stopped (down q.windows.p3min)))
          → Ends es e all t (tells (hearing r) (makes frame_report no_reason q) ++ tells (behind_frame q) (makes down_report stopped (down q.windows.p3min)))
          (moved (behind_frame q) (makes down_report stopped (down q.windows.p3min)))
      unfolding tells moved told report_of is_among down is_connected
      frame_over q u z i =
          over refl
          (each_both (Told es e all t) (x ∷ []) (y q ∷ [])
          (each_one (Told es e all t) x (frame_told (λ _ _. record { report = y q; made = i (y q) (later first); number_is = refl; reason_is = refl })))
          (each_one (Told es e all t) (y q) (stop_told q (i x first) u z))) refl

      -- by whether a stop was answered
      frame_by : (q : Phase) → q.state ≡ Quiet → (is_stopped q.request ≡ true → (e.side ≡ Unit) × Stops)
          → (is_stopped q.request ≡ false → Fits with_frame q × (e.side ≡ Unit → Stops → ⊥)) → Heard t r (makes frame_report no_reason q)
      unfolding moved told
      frame_by q st f g n (rests u) _ = let k = g (off_second (is_quiet q.state) (is_stopped q.request) u (quiet_is st)) in frame_on q st k.0 k.1
      frame_by q st f g n (stopped_by s x) i = let k = f x in frame_over q k.0 k.1 i

      frame_asked : is_tester e.side ≡ true → Heard t r (makes frame_report no_reason (asked r.phase))
      unfolding asked timed talking
      frame_asked c =
          frame_by (asked r.phase) refl (λ s. absurd (false≢true (sym (request_not r.phase.message) ∙ s)))
          (λ _. (asked_fits (ap is_tester whose ∙ c), λ u _. tester_unit e.side c u))

      frame_answered : is_tester e.side ≡ false → Heard t r (makes frame_report no_reason (answered r.phase))
      unfolding answered timed talking
      frame_answered c =
          let p = r.phase in
          let d = data_of t.pair.kb1 t.pair.kb2 framed_bytes in
          let k = reply_stops p.request p.asked latest d p.message a.fits.kept carries in
          frame_by (answered p) refl (λ s. (unit_side e.side c sided, sym k ∙ s))
          (λ s. (answered_fits (ap is_tester whose ∙ c) (sym k ∙ s), λ _ z. false≢true (sym s ∙ (k ∙ z))))

      frame_ends : Heard t r (makes frame_report no_reason (framed r.phase))
      unfolding framed
      frame_ends =
          let s = ap is_tester (later_side r.phase.message e.side e.value w) in
          by_test (λ (q : Phase). Heard t r (makes frame_report no_reason q)) (is_tester r.phase.message.side)
          {x = asked r.phase} {y = answered r.phase} (λ c. frame_asked (s ∙ c)) (λ c. frame_answered (s ∙ c))

  -- ---- ANY BYTE OF A SESSION
  pub byte_ends : (t : Talk) (r : Run) (m : Move) → Rule mark e r.phase at_byte m → (is_open r.phase.state ≡ true → InTime (taken_of es) e)
      → At es t r.phase r.named r.heard → Heard t r m
  unfolding holding damaged talking is_connected is_quiet is_held is_open
  byte_ends t r m (rests d) f a = silent_byte t r r.phase (ap is_quiet d) (λ _ _. skipped_at t r.phase r.named r.heard a d)
  byte_ends t r m (strays d) f a = absurd (false≢true (sym (ap is_connected d) ∙ a.fits.connected))
  byte_ends t r m (misses d v) f a = absurd (false≢true (sym (ap is_connected d) ∙ a.fits.connected))
  byte_ends t r m (connects d v z) f a = absurd (false≢true (sym (ap is_connected d) ∙ a.fits.connected))
  byte_ends t r m (goes_on d v z) f a = absurd (false≢true (sym (ap is_connected d) ∙ a.fits.connected))
  byte_ends t r m (opens q w) f a =
      silent_byte t r m.phase refl (λ s n. first_held t r.phase r.named r.heard a (quiet_is q) s n (eqb-true _ no_reason w))
  byte_ends t r m (errs q w) f a =
      silent_byte t r m.phase refl (λ s n. first_damaged t r.phase r.named r.heard a (quiet_is q) s n (eqb-false _ no_reason w))
  byte_ends t r m (breaks h w) f a =
      silent_byte t r m.phase refl (λ _ _. later_damaged t r a (a.opened (ap is_open h)) (ap is_held h) (f (ap is_open h)) (eqb-false _ no_reason w))
  byte_ends t r m (frames h w z) f a = frame_ends t r a (a.opened (ap is_open h)) (ap is_held h) (f (ap is_open h)) (eqb-true _ no_reason w) z
  byte_ends t r m (lengthens h w z) f a =
      silent_byte t r m.phase refl (λ _ _. later_held t r a (a.opened (ap is_open h)) (ap is_held h) (f (ap is_open h)) (eqb-true _ no_reason w) z)

  -- a byte of a link that is down
  abbrev Outside : Talk → Run → Move → Type 0
  Outside t r m = (n : Move) → Rule mark e (moved (hearing r) m).phase at_stop n
      → Each (Told es e all t) (heard_tells r m n) × (is_connected (heard_run r m n).phase.state ≡ false)

  outside : (t : Talk) (r : Run) → Outside t r (makes outside_report no_reason (down r.phase.idle))
  unfolding tells moved told report_of down is_quiet is_connected
  outside t r n (rests u) = (
    each_both (Told es e all t) (_ ∷ []) []
        (each_one (Told es e all t) _ (plain es e all t _ (λ n. omega arith) (λ n. omega arith) (λ n. absurd (omega arith))))
        (each_none (Told es e all t)),
    refl,
  )
  outside t r n (stopped_by s x) = absurd (false≢true (ap is_quiet s))

  pub byte_outside : (t : Talk) (r : Run) (m : Move) → Rule mark e r.phase at_byte m → r.phase.state ≡ Down → Outside t r m
  byte_outside t r m u q = subst (Outside t r) (one_move mark e r.phase (strays q) u) (outside t r)
