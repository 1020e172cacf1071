-- A message of the history and the link's: while it goes on, the link holds it, or no byte more can make it a frame (`stands`). So a byte with which
-- `read` takes its bytes is reported as a frame, and a car's message that is right and over is (`frames_behind`).
-- Assumes nothing.
use Prim.Native.Nat.{ℕ, ◌+◌, ◌-◌, ◌≤◌, ◌<◌}
use mathlib.Core.Bool.{Bool, true, false, not, ◌&&◌, false≢true}
use mathlib.Core.List.{List, [], ◌∷◌, ◌++◌, append_assoc}
use mathlib.Core.Path.{◌≡◌, refl, sym, ap, ◌∙◌, subst, subst₂}
use mathlib.Core.Logic.{◌↔◌, ◌⊎◌, inl, inr, ⊎_elim}
use native.Mathlib.Omega.{arith}
use borrow.Author.Tests.{eq-eqb, ne_eqb, eqb-true, lt-ltb}
use lib.Dec.{eqb}
use lib.ListN.{length, take, drop, length-drop}
use lib.Seq.{take_all, drop_at, drop-append-le, append_snoc}
use Rattle.std.specs.Prelude.{if◌then◌else◌}
use Rattle.base.specs.Numbers.{taken}
use Rattle.base.specs.Sums.{count_sum}
use Rattle.base.specs.Reports.{frame_report, down_report, no_reason}
use Rattle.base.proofs.Tests.{and_split, by_test}
use Rattle.units.specs.Units.{gap_of}
use Rattle.units.specs.declared.Micros.{Micros}
use Rattle.keys.specs.declared.Pair.{Pair}
use Rattle.events.specs.Events.{is_byte, is_tester, is_unit, is_nobody, same_side}
use Rattle.events.specs.declared.Side.TheVariants.{Tester, Unit, Nobody}
use Rattle.events.specs.declared.Kind.{Kind}
use Rattle.events.specs.declared.Kind.TheVariants.{Byte, Tick}
use Rattle.events.specs.declared.Side.{Side}
use Rattle.events.specs.declared.Event.{Event}
use Rattle.talk.specs.Talk.{head_reason, first_reason, begun, begun_by, later_reason, is_sum, end_reason, grown, is_stopped}
use Rattle.talk.specs.declared.Part.{Part}
use Rattle.talk.specs.declared.Message.{Message}
use Rattle.talk.specs.Messages.{ends_in, is_message}
use Rattle.phases.specs.Phases.{is_quiet, is_held, is_open, talking, holding, framed}
use Rattle.phases.specs.declared.Phase.{Phase}
use Rattle.phases.proofs.StateTests.{is_held_lem, open_or_quiet, held_open}
use Rattle.phases.specs.declared.State.TheVariants.{Held}
use Rattle.moves.specs.Moves.{still, makes, is_silent, after_silence, is_cut_in, before_byte}
use Rattle.moves.specs.declared.Move.{Move}
use Rattle.moves.proofs.Rules.{at_byte, Rule, frames, ends_right, cut_right, by_silence, by_cut, by_byte, one_move}
use Rattle.moves.proofs.Rules.{grows as lengthens}
use Rattle.reports.specs.Reporting.{no_reports, listed, names_bytes, report_of, with_phase, moved}
use Rattle.reports.specs.declared.Report.{Report}
use Rattle.reports.specs.declared.Run.{Run}
use Rattle.link.specs.Handling.{passed, hearing, byte_heard, acted, handled, link_after}
use Rattle.link.specs.Handling.{begun as begins_run}
use Rattle.link.specs.Stepping.{refused_by, taken_by}
use Rattle.link.specs.declared.Link.{Link}
use Rattle.link.specs.Answers.{Answer}
use Rattle.link.specs.Telling.{tells, passed_tells, byte_tells, acted_tells, handled_tells}
use Rattle.link.proofs.Four.{four_enough}
use Rattle.demands.specs.Logs.{Log, ◌▷◌, values_of, heard_in, number_after, taken_of, InBytes, Begins, whole, more}
use Rattle.demands.specs.Editions.{of_car, of_quick_car, is_link_pair, car_fault, is_frame, ends_itself}
use Rattle.demands.specs.Histories.{after, reports_to, is_among, Among, first}
use Rattle.demands.specs.Accounts.{named_by}
use Rattle.demands.specs.Sessions.{Talk, talk_after, Session, lasts, in_force, gap_before}
use Rattle.demands.specs.Messages.{InTime, CutsIn, IsOver, ReportsFrame}
use Rattle.demands.proofs.Sessions.AfterFirstByte.{Starts, Speaking, begins, refused, waits, grows, Finishes}
use Rattle.demands.proofs.Histories.Basics.{basics, answer_taken, answer_refused}
use Rattle.demands.proofs.Sessions.MessageData.{GoneOn, gone_ends, ends_now, message_ends, ends_frame}
use Rattle.demands.proofs.Sessions.CarMessages.{car_blank, sum_no_car, car_verdict}
use Rattle.demands.proofs.Histories.BytesAsEvents.{value_reason, heard_grows, grows as grows_on}
use Rattle.demands.proofs.Moves.Causes.{false_of}
use Rattle.demands.proofs.Histories.Tiling.{sum_is}
use Rattle.demands.proofs.Moves.Completing.{acted_byte, acted_tick, heard_move, uncut_tells}
use Rattle.demands.proofs.Histories.BytesHeard.{Bytes, bytes_both, bytes_one, byte_more, byte_longer, other_more, refused_more, begins_longer}
use Rattle.demands.proofs.Moves.StillOpen.{in_time, open_stays}
use Rattle.demands.proofs.Moves.ReportsInList.{among_left, among_right}
use Rattle.demands.proofs.Damage.StrayOrEarly.{has_side, first_none}
use Rattle.demands.proofs.Sessions.SessionLasts.{part_before, Holds, Opened}
use Rattle.demands.proofs.Sessions.SessionByte.{within, grown_side}
use Rattle.demands.proofs.Sessions.SessionEvent.{AtLink, session_at}
use Rattle.demands.proofs.Sessions.FramesRead.{frames_end}
use Rattle.demands.specs.Ours.{ours}

same_self : (side : Side) → same_side side side ≡ true
unfolding same_side is_tester is_unit is_nobody
same_self Tester = refl
same_self Unit = refl
same_self Nobody = refl

tester_apart : (side : Side) → is_tester side ≡ true → is_unit side ≡ true → ⊥
unfolding is_tester is_unit
tester_apart Tester t u = false≢true u
tester_apart Unit t u = false≢true t
tester_apart Nobody t u = false≢true t

front_in : (es : Log) (e : Event) → InBytes (es ▷ e) → InBytes es
unfolding InBytes
front_in es e i = i.0

-- ---- a message's bytes, and its session's key bytes
speaks_good : {t : Talk} {b : Event} {log : Log} {bytes : List ℕ} → InBytes log → Speaking t b log bytes → is_link_pair t.pair ≡ true
unfolding InBytes
speaks_good i (begins o) = (session_at i o.first.session).fits.good
speaks_good i (refused s n) = speaks_good i.0 s
speaks_good i (waits s n k m) = speaks_good i.0 s
speaks_good i (grows s r n k d m) = speaks_good i.0 s

speaks_bytes : {t : Talk} {b : Event} {log : Log} {bytes : List ℕ} → InBytes log → Speaking t b log bytes → Bytes bytes
unfolding InBytes
speaks_bytes {b = b} i (begins o) = bytes_one b.value i.1
speaks_bytes i (refused s n) = speaks_bytes i.0 s
speaks_bytes i (waits s n k m) = speaks_bytes i.0 s
speaks_bytes i (grows {bytes = bytes} {e = e} s r n k d m) = bytes_both bytes (e.value ∷ []) (speaks_bytes i.0 s) (bytes_one e.value i.1)

-- ---- an event that makes no report and leaves the link in this phase
record Unmoved (es : Log) (e : Event) (q : Phase) : Type 0 where
  silent : reports_to ours es e ≡ []
  phase : (after ours (es ▷ e)).link.phase ≡ q
  named : (after ours (es ▷ e)).link.named ≡ (after ours es).link.named

refused_unmoved : (es : Log) (e : Event) → (number_after (taken_of es) e ≡ taken → ⊥) → Unmoved es e (after ours es).link.phase
unfolding after refused_by listed
refused_unmoved es e n =
    let a = answer_refused es e n in
    record {
      silent = ap (λ (x : Answer). listed x.reports) a;
      phase = ap (λ (x : Answer). x.link.phase) a;
      named = ap (λ (x : Answer). x.link.named) a;
    }

taken_unmoved : (es : Log) (e : Event) (r : Run) → number_after (taken_of es) e ≡ taken → handled (after ours es).link e ≡ r
    → r.reports ≡ no_reports
    → r.named ≡ (after ours es).link.named → Unmoved es e r.phase
unfolding after taken_by link_after listed
taken_unmoved es e r n h s m =
    let a = answer_taken es e n in
    record {
      silent = ap (λ (x : Answer). listed x.reports) a ∙ ap (λ (x : Run). listed x.reports) h ∙ ap listed s;
      phase = ap (λ (x : Answer). x.link.phase) a ∙ ap (λ (x : Run). x.phase) h;
      named = ap (λ (x : Answer). x.link.named) a ∙ ap (λ (x : Run). x.named) h ∙ m;
    }

session_on : (es : Log) (e : Event) (t : Talk) (q : Phase) → Unmoved es e q → Session ours es t → Session ours (es ▷ e) t
unfolding talk_after is_among
session_on es e t q u s =
    subst (λ (rs : List Report). Session ours (es ▷ e) (talk_after t (taken_of (es ▷ e)) rs)) u.silent
    (lasts s (λ z. false≢true (subst (λ (rs : List Report). is_among down_report rs ≡ true) u.silent z)))

-- ---- the link holds a message
record Standing (log : Log) (t : Talk) (b : Event) (bytes : List ℕ) : Type 0 where
  session : Session ours log t
  held : is_held (after ours log).link.phase.state ≡ true
  heard : drop (after ours log).link.named (heard_in log) ≡ bytes
  whose : (after ours log).link.phase.message.side ≡ b.side

stand_on : (log : Log) (e : Event) (t : Talk) (b : Event) (bytes : List ℕ) → heard_in (log ▷ e) ≡ heard_in log
    → Unmoved log e (after ours log).link.phase
    → Standing log t b bytes → Standing (log ▷ e) t b bytes
stand_on log e t b bytes q u s = record {
  session = session_on log e t _ u s.session;
  held = ap (λ (p : Phase). is_held p.state) u.phase ∙ s.held;
  heard = (λ i. drop (u.named i) (q i)) ∙ s.heard;
  whose = ap (λ (p : Phase). p.message.side) u.phase ∙ s.whose;
}

-- a byte that ends a message in a frame
ends_last : (side : Side) (m : Message) (v : ℕ) → ends_in side m (v ∷ []) ≡ true → (later_reason m side v ≡ no_reason) × (is_sum m.part ≡ true)
ends_last side m v q = by_tests (eqb (later_reason m side v) no_reason) (is_sum m.part) refl refl q
  where
    by_tests : (x y : Bool) → eqb (later_reason m side v) no_reason ≡ x → is_sum m.part ≡ y
        → (if not x then false else if y then true else false) ≡ true
        → (later_reason m side v ≡ no_reason) × (is_sum m.part ≡ true)
    by_tests true true x y q = (eqb-true (later_reason m side v) no_reason x, y)
    by_tests true false x y q = absurd (false≢true q)
    by_tests false y x z q = absurd (false≢true q)

-- time passes in time
module _ (log : Log) (e : Event) (t : Talk) (b : Event) (bytes : List ℕ) (s : Standing log t b bytes) (near : InTime (taken_of log) e) where
  abbrev link : Link
  link = (after ours log).link

  stays : passed (begins_run link e) link.mark e.start ≡ begins_run link e
  unfolding begins_run
  stays =
      let n = subst (λ (m : Micros). e.start.0 ≤ m.0 + 20_000) (sym (basics log).mark) near in
      open_stays (begins_run link e) link.mark e.start (held_open link.phase.state s.held) (in_time link.mark e.start n)

  ticked : e.kind ≡ Tick → handled link e ≡ begins_run link e
  unfolding handled
  ticked k = ap (λ (r : Run). acted r e link.mark) stays ∙ acted_tick (begins_run link e) e link.mark k

  tick_unmoved : number_after (taken_of log) e ≡ taken → e.kind ≡ Tick → Unmoved log e link.phase
  unfolding begins_run
  tick_unmoved n k = taken_unmoved log e (begins_run link e) n (ticked k) refl refl

  -- a byte of the same side
  module _ (i : InBytes log) (n : number_after (taken_of log) e ≡ taken) (k : e.kind ≡ Byte) (d : e.side ≡ b.side) where
    opened : Opened log t link.phase link.named
    opened = (session_at i s.session).opened (held_open link.phase.state s.held)

    abbrev holds : Holds log t opened.byte link.phase link.named
    holds = opened.held s.held

    abbrev message : Message
    message = link.phase.message

    bytes_are : bytes ≡ holds.head ∷ holds.rest
    bytes_are = sym s.heard ∙ holds.bytes

    side_is : b.side ≡ opened.byte.side
    side_is = sym s.whose ∙ holds.whose

    -- on a 14230 link
    module _ (nc : of_car t.pair ≡ false) where
      right_head : eqb (head_reason t.pair.kb1 holds.head) no_reason ≡ true
      unfolding value_reason
      right_head =
          eq-eqb (head_reason t.pair.kb1 holds.head) no_reason
          (sym (rw nc refl) ∙ (sym (ap (λ (x : Pair). value_reason x holds.head) (session_at i s.session).fits.pair) ∙ holds.right))

      gone_frame : GoneOn opened.byte.side (begun opened.byte.side holds.head) holds.rest message
      unfolding begun_by
      gone_frame =
          subst (λ (m : Message). GoneOn opened.byte.side m holds.rest message)
          (ap (λ (x : Pair). begun_by x opened.byte.side holds.head) (session_at i s.session).fits.pair ∙ rw nc refl) holds.gone

      -- what the whole message does is what its rest does
      rest_does : (ws : List ℕ) → is_message t.pair.kb1 b.side (bytes ++ ws) ≡ ends_in b.side message ws
      rest_does ws =
          let side = opened.byte.side in
          let whole_is : is_message t.pair.kb1 side (holds.head ∷ (holds.rest ++ ws)) ≡ ends_in side message ws
          = rw right_head (gone_ends side (begun side holds.head) message holds.rest ws gone_frame) in
          (λ j. is_message t.pair.kb1 (side_is j) (bytes_are j ++ ws)) ∙ whole_is ∙ (λ j. ends_in (sym side_is j) message ws)

      one_more : (ws : List ℕ) → is_message t.pair.kb1 b.side ((bytes ++ (e.value ∷ [])) ++ ws) ≡ ends_in b.side message (e.value ∷ ws)
      one_more ws = ap (is_message t.pair.kb1 b.side) (append_snoc bytes e.value ws) ∙ rest_does (e.value ∷ ws)

      -- a wrong byte: nothing makes it a frame
      wrong_ends : eqb (later_reason message b.side e.value) no_reason ≡ false → (ws : List ℕ)
          → is_message t.pair.kb1 b.side ((bytes ++ (e.value ∷ [])) ++ ws) ≡ false
      wrong_ends w ws = one_more ws ∙ rw w refl

      -- the checksum: `read` takes it
      sum_reads : Bytes (bytes ++ (e.value ∷ [])) → is_link_pair t.pair ≡ true → later_reason message b.side e.value ≡ no_reason
          → is_sum message.part ≡ true → ends_itself t.pair (bytes ++ (e.value ∷ [])) ≡ true
      sum_reads f g w l =
          sym (message_ends t.pair b.side (bytes ++ (e.value ∷ [])) g nc f)
          ∙ rest_does (e.value ∷ []) ∙ ends_now b.side message e.value w l

    -- a checksum is in no message of a car, and no byte of its side is wrong in one
    sum_apart : is_sum message.part ≡ true → of_car t.pair ≡ false
    sum_apart l =
        sym (ap of_car (session_at i s.session).fits.pair)
        ∙ sum_no_car link.phase.start.pair opened.byte.side opened.byte.side holds.head holds.rest message holds.gone l

    car_right : of_car t.pair ≡ true → eqb (later_reason message b.side e.value) no_reason ≡ false → ⊥
    unfolding later_reason
    car_right c w =
        let own = ap of_car (session_at i s.session).fits.pair ∙ c in
        let blank = car_blank link.phase.start.pair opened.byte.side opened.byte.side holds.head holds.rest message holds.gone own in
        false≢true (sym w ∙ rw (ap (λ (x : Side). same_side b.side x) s.whose, same_self b.side, blank.part) refl)

    -- any other: it goes on
    later_is : later_reason message e.side e.value ≡ later_reason message b.side e.value
    later_is = ap (λ (x : Side). later_reason message x e.value) d

    abbrev At : Move → Type 0
    At m = Rule link.mark e link.phase at_byte m

    right_byte : later_reason message b.side e.value ≡ no_reason → eqb (later_reason message e.side e.value) no_reason ≡ true
    right_byte w = eq-eqb (later_reason message e.side e.value) no_reason (later_is ∙ w)

    byte_run : handled link e ≡ byte_heard (begins_run link e) e link.mark
    unfolding handled
    byte_run = ap (λ (r : Run). acted r e link.mark) stays ∙ acted_byte (begins_run link e) e link.mark k

    -- it does not cut in
    uncut : is_cut_in link.phase e.side ≡ false
    unfolding is_cut_in
    uncut =
        false_of (is_cut_in link.phase e.side)
        (λ c.
        let x = and_split _ _ c in
        let y = and_split _ _ x.0 in
        let z = and_split (is_held link.phase.state) _ y.0 in
        tester_apart e.side (ap is_tester (d ∙ sym s.whose) ∙ z.1) y.1)

    byte_unmoved : (q : Phase) → At (still q) → is_quiet q.state ≡ false → Unmoved log e q
    unfolding begins_run moved
    byte_unmoved q u h =
        taken_unmoved log e (with_phase (hearing (begins_run link e)) q) n
        (byte_run ∙ heard_move (begins_run link e) e link.mark uncut (still q) u (ap (λ (c : Bool). c && is_stopped q.request) h)) refl refl

    goes_on : later_reason message b.side e.value ≡ no_reason → is_sum message.part ≡ false → Standing (log ▷ e) t b (bytes ++ (e.value ∷ []))
    unfolding holding talking is_quiet is_held
    goes_on w l =
        let q = holding link.phase (grown message e.value) in
        let u = byte_unmoved q (lengthens (is_held_lem link.phase.state s.held) (right_byte w) l) refl in
        record {
          session = session_on log e t q u s.session;
          held = ap (λ (p : Phase). is_held p.state) u.phase;
          heard = (λ j. drop (u.named j) (byte_more log e n k j))
              ∙ drop-append-le link.named (heard_in log) (e.value ∷ [])
              (within link.named (heard_in log) holds.head holds.rest holds.bytes)
              ∙ ap (λ (x : List ℕ). x ++ (e.value ∷ [])) s.heard;
          whose = ap (λ (p : Phase). p.message.side) u.phase ∙ grown_side message e.value ∙ s.whose;
        }

    -- a byte with which `read` takes the message: it is the checksum, and makes the report
    abbrev report : Report
    report = report_of (hearing (begins_run link e)) frame_report no_reason

    among_byte : At (makes frame_report no_reason (framed link.phase)) → Among report (byte_tells (begins_run link e) e link.mark)
    unfolding begins_run tells
    among_byte m =
        subst (Among report) (sym (uncut_tells (begins_run link e) e link.mark uncut))
        (among_left _ (subst (λ (x : Move). Among report (tells (hearing (begins_run link e)) x)) (one_move _ e link.phase m (by_byte _ e link.phase)) first))

    among_all : At (makes frame_report no_reason (framed link.phase)) → Among report (handled_tells link e)
    unfolding handled_tells
    among_all m =
        let r = begins_run link e in
        subst₂ (λ (x : Run) (y : Kind). Among report (passed_tells r link.mark e.start ++ acted_tells y x e link.mark)) (sym stays) (sym k)
        (among_right (passed_tells r link.mark e.start) (among_byte m))

    all_reports : reports_to ours log e ≡ handled_tells link e
    unfolding taken_by
    all_reports = ap (λ (x : Answer). listed x.reports) (answer_taken log e n) ∙ four_enough link e

    frame_names : named_by (heard_in (log ▷ e)) report ≡ bytes ++ (e.value ∷ [])
    unfolding named_by report_of names_bytes begins_run
    frame_names =
        let x = basics log in
        let one = byte_longer log e n k in
        let more = sum_is link.heard 1 (omega (arith, x.heard, x.few, x.bound)) in
        let size = length-drop link.named (heard_in (log ▷ e)) in
        let all = take_all (count_sum link.heard 1 - link.named) (drop link.named (heard_in (log ▷ e))) (omega (arith, x.heard)) in
        all ∙ ap (drop link.named) (byte_more log e n k)
        ∙ drop-append-le link.named (heard_in log) (e.value ∷ []) (within link.named (heard_in log) holds.head holds.rest holds.bytes)
        ∙ ap (λ (x : List ℕ). x ++ (e.value ∷ [])) s.heard

    frame_made : Bytes (bytes ++ (e.value ∷ [])) → is_link_pair t.pair ≡ true
        → ends_itself t.pair (bytes ++ (e.value ∷ [])) ≡ true
        → ReportsFrame (heard_in (log ▷ e)) (reports_to ours log e) (bytes ++ (e.value ∷ []))
    unfolding report_of
    frame_made f g r =
        let nc = (ends_frame t.pair b.side (bytes ++ (e.value ∷ [])) r).1 in
        let whole_is = message_ends t.pair b.side (bytes ++ (e.value ∷ [])) g nc f ∙ r in
        let x = ends_last b.side message e.value (sym (rest_does nc (e.value ∷ [])) ∙ whole_is) in
        record {
          report = report;
          made = subst (Among report) (sym all_reports) (among_all (frames (is_held_lem link.phase.state s.held) (right_byte x.0) x.1));
          number = refl;
          names = frame_names;
        }

-- ---- how a message stands: the link holds it; nothing makes it a frame; it is one
data Stands (t : Talk) (b : Event) (log : Log) (bytes : List ℕ) : Type 0 where
  open_still : Standing log t b bytes → Stands t b log bytes
  hopeless : of_car t.pair ≡ false → ((ws : List ℕ) → is_message t.pair.kb1 b.side (bytes ++ ws) ≡ false) → Stands t b log bytes
  done : ends_itself t.pair bytes ≡ true → Stands t b log bytes

-- ---- its first byte
-- a byte with as many bytes before it as the last one has is the last one
last_one : {log before : Log} {c b : Event} → Begins (log ▷ c) (before ▷ b) → number_after (taken_of log) c ≡ taken → c.kind ≡ Byte
    → length (heard_in log) ≡ length (heard_in before) → (log ≡ before) × (c ≡ b)
last_one whole n k q = (refl, refl)
last_one {log = log} {c = c} (more m) n k q = absurd (let x = begins_longer m in let y = byte_longer log c n k in omega arith)

module _ (t : Talk) (before : Log) (b : Event) (i : InBytes (before ▷ b)) (o : Starts t before b) where
  abbrev behind : Link
  behind = (after ours (before ▷ b)).link

  at_first : AtLink (before ▷ b) t
  at_first = session_at i o.first.session

  named_first : behind.named ≡ length (heard_in before)
  named_first = o.first.alone

  -- it is open
  open_first : is_open behind.phase.state ≡ true
  open_first = by_state (is_open behind.phase.state) refl
    where
      by_state : (c : Bool) → is_open behind.phase.state ≡ c → c ≡ true
      by_state true c = refl
      by_state false c =
          let x = at_first.calm (open_or_quiet behind.phase.state at_first.fits.connected c) in
          let y = byte_longer before b o.first.number o.first.kind in
          let z = at_first.bytes in
          absurd (omega (arith, named_first))

  first_opened : Opened (before ▷ b) t behind.phase behind.named
  first_opened = at_first.opened open_first

  first_is : (first_opened.before ≡ before) × (first_opened.byte ≡ b)
  first_is = last_one first_opened.begins first_opened.first.number first_opened.first.kind (first_opened.index ∙ named_first)

  -- with a right head it is held
  held_first : value_reason t.pair b.value ≡ no_reason → is_held behind.phase.state ≡ true
  held_first h =
      let none = first_none t (gap_before (taken_of before) b) b (has_side (taken_of before) b o.first.number o.first.kind) t.pair o.timely
      o.expected h in
      let p = first_is in
      first_opened.fresh (byte_longer before b o.first.number o.first.kind ∙ ap (λ (x : ℕ). x + 1) (sym named_first))
      ((λ j. first_reason t.pair t.reply (in_force t) (p.1 j).side (p.1 j).value (gap_before (taken_of (p.0 j)) (p.1 j))) ∙ none)

  first_stands : Stands t b (before ▷ b) (b.value ∷ [])
  unfolding value_reason
  first_stands = by_head (of_car t.pair) (eqb (head_reason t.pair.kb1 b.value) no_reason) refl refl
    where
      stands_open : value_reason t.pair b.value ≡ no_reason → Stands t b (before ▷ b) (b.value ∷ [])
      stands_open v =
          let h = held_first v in
          open_still (record {
            session = o.first.session;
            held = h;
            heard = ap (drop behind.named) (byte_more before b o.first.number o.first.kind) ∙ drop_at (heard_in before) (b.value ∷ []) behind.named
                (sym named_first);
            whose = (first_opened.held h).whose ∙ ap (λ (x : Event). x.side) first_is.1;
          })

      by_head : (k c : Bool) → of_car t.pair ≡ k → eqb (head_reason t.pair.kb1 b.value) no_reason ≡ c → Stands t b (before ▷ b) (b.value ∷ [])
      by_head true c k q = stands_open (rw k refl)
      by_head false true k q = stands_open (rw k (eqb-true (head_reason t.pair.kb1 b.value) no_reason q))
      by_head false false k q = hopeless k (λ ws. rw q refl)

-- ---- and so on
on_stands : (t : Talk) (b : Event) (log : Log) (e : Event) (bytes : List ℕ) → heard_in (log ▷ e) ≡ heard_in log
    → (Standing log t b bytes → Unmoved log e (after ours log).link.phase) → Stands t b log bytes → Stands t b (log ▷ e) bytes
on_stands t b log e bytes q u (open_still s) = open_still (stand_on log e t b bytes q (u s) s)
on_stands t b log e bytes q u (hopeless n f) = hopeless n f
on_stands t b log e bytes q u (done r) = done r

grow_stands : (t : Talk) (b : Event) (log : Log) (e : Event) (bytes : List ℕ) → InBytes log → Bytes (bytes ++ (e.value ∷ []))
    → is_link_pair t.pair ≡ true
    → (ends_itself t.pair bytes ≡ true → ⊥) → number_after (taken_of log) e ≡ taken → e.kind ≡ Byte → e.side ≡ b.side
    → InTime (taken_of log) e
    → Stands t b log bytes → Stands t b (log ▷ e) (bytes ++ (e.value ∷ []))
grow_stands t b log e bytes i f g r n k d m (open_still s) = by_tests (eqb later no_reason) (is_sum part) refl refl
  where
    later : ℕ
    later = later_reason (after ours log).link.phase.message b.side e.value

    part : Part
    part = (after ours log).link.phase.message.part

    by_tests : (x y : Bool) → eqb later no_reason ≡ x → is_sum part ≡ y → Stands t b (log ▷ e) (bytes ++ (e.value ∷ []))
    by_tests true true x y = done (sum_reads log e t b bytes s m i n k d (sum_apart log e t b bytes s m i n k d y) f g (eqb-true later no_reason x) y)
    by_tests true false x y = open_still (goes_on log e t b bytes s m i n k d (eqb-true later no_reason x) y)
    by_tests false y x z = by_car (of_car t.pair) refl
      where
        by_car : (c : Bool) → of_car t.pair ≡ c → Stands t b (log ▷ e) (bytes ++ (e.value ∷ []))
        by_car true c = absurd (car_right log e t b bytes s m i n k d c x)
        by_car false c = hopeless c (wrong_ends log e t b bytes s m i n k d c x)
grow_stands t b log e bytes i f g r n k d m (hopeless nc h) =
    hopeless nc (λ ws. ap (is_message t.pair.kb1 b.side) (append_assoc bytes (e.value ∷ []) ws) ∙ h ((e.value ∷ []) ++ ws))
grow_stands t b log e bytes i f g r n k d m (done q) = absurd (r q)

stands : {t : Talk} {b : Event} {log : Log} {bytes : List ℕ} → InBytes log → Speaking t b log bytes → Stands t b log bytes
unfolding InBytes is_byte
stands {t = t} {b = b} i (begins {before = before} o) = first_stands t before b i o
stands {t = t} {b = b} i (refused {log = log} {bytes = bytes} {e = e} s n) =
    on_stands t b log e bytes (refused_more log e (ne_eqb (number_after (taken_of log) e) taken n)) (λ _. refused_unmoved log e n) (stands i.0 s)
stands {t = t} {b = b} i (waits {log = log} {bytes = bytes} {e = e} s n k m) =
    on_stands t b log e bytes (other_more log e n (ap is_byte k)) (λ x. tick_unmoved log e t b bytes x m n k) (stands i.0 s)
stands {t = t} {b = b} i (grows {log = log} {bytes = bytes} {e = e} s r n k d m) =
    grow_stands t b log e bytes i.0 (speaks_bytes {t = t} {b = b} {log = log ▷ e} i (grows s r n k d m)) (speaks_good i.0 s) r n k d m
    (stands i.0 s)

-- ---- the last byte
alone_never : (t : Talk) (b : Event) → is_link_pair t.pair ≡ true → Bytes (b.value ∷ [])
    → ends_itself t.pair (b.value ∷ []) ≡ true → ⊥
alone_never t b g f r =
    let m = message_ends t.pair b.side (b.value ∷ []) g (ends_frame t.pair b.side (b.value ∷ []) r).1 f ∙ r in
    false≢true (by_test (λ (x : Bool). false ≡ x) (eqb (head_reason t.pair.kb1 b.value) no_reason) {x = false} {y = false} (λ _. refl) (λ _. refl) ∙ m)

tick_byte : (k : Kind) → k ≡ Tick → k ≡ Byte → ⊥
tick_byte k t b = let z : ◌≡◌ {A = ℕ} 0 1 = cc in omega arith

last_reports : (es : Log) (e : Event) (t : Talk) (b : Event) (bytes : List ℕ) → InBytes (es ▷ e) → Speaking t b (es ▷ e) bytes → e.kind ≡ Byte
    → number_after (taken_of es) e ≡ taken → ends_itself t.pair bytes ≡ true → ReportsFrame (heard_in (es ▷ e)) (reports_to ours es e) bytes
unfolding InBytes
last_reports es e t b bytes i (begins o) k n r = absurd (alone_never t e (session_at i o.first.session).fits.good (bytes_one e.value i.1) r)
last_reports es e t b bytes i (refused s m) k n r = absurd (m n)
last_reports es e t b bytes i (waits s m j d) k n r = absurd (tick_byte e.kind j k)
last_reports es e t b bytes i (grows {bytes = front} s q m j d near) k n r = by_stand (stands i.0 s)
  where
    good : is_link_pair t.pair ≡ true
    good = speaks_good i.0 s

    all_bytes : Bytes (front ++ (e.value ∷ []))
    all_bytes = bytes_both front (e.value ∷ []) (speaks_bytes i.0 s) (bytes_one e.value i.1)

    by_stand : Stands t b es front → ReportsFrame (heard_in (es ▷ e)) (reports_to ours es e) (front ++ (e.value ∷ []))
    by_stand (open_still x) = frame_made es e t b front x near i.0 n k d all_bytes good r
    by_stand (hopeless nc f) =
        absurd (false≢true (sym (f (e.value ∷ [])) ∙ message_ends t.pair b.side (front ++ (e.value ∷ [])) good nc all_bytes ∙ r))
    by_stand (done x) = absurd (q x)

-- ---- a car's message that the link holds: it has judged it as its bytes are
judged_by : (es : Log) (t : Talk) (b : Event) (bytes : List ℕ) → InBytes es → Standing es t b bytes → of_car t.pair ≡ true → is_frame t.pair b.side bytes ≡ true
    → eqb (end_reason (after ours es).link.phase.message) no_reason ≡ true
unfolding is_frame
judged_by es t b bytes i s car right =
    let p = (after ours es).link.phase in
    let a = session_at i s.session in
    let front = a.opened (held_open p.state s.held) in
    let kept = front.held s.held in
    let own = ap of_car a.fits.pair ∙ car in
    let v = car_verdict p.start.pair front.byte.side kept.head kept.rest p.message kept.gone own in
    let sides : b.side ≡ front.byte.side = sym s.whose ∙ kept.whose in
    let fault : eqb (car_fault b.side bytes) no_reason ≡ true = sym (rw car refl) ∙ right in
    ap (λ (k : ℕ). eqb k no_reason) (v ∙ sym (λ j. car_fault (sides j) ((sym s.heard ∙ kept.bytes) j))) ∙ fault

-- ---- a car's message that is right, and over: it is reported before the event acts
module _ (es : Log) (e : Event) (t : Talk) (b : Event) (bytes : List ℕ) (i : InBytes es) (s : Standing es t b bytes) (number : number_after (taken_of es) e ≡ taken)
    (car : of_car t.pair ≡ true) (right : is_frame t.pair b.side bytes ≡ true) where
  abbrev here : Link
  here = (after ours es).link

  abbrev run : Run
  run = begins_run here e

  abbrev told : Report
  told = report_of run frame_report no_reason

  held_now : here.phase.state ≡ Held
  held_now = is_held_lem here.phase.state s.held

  at_here : AtLink es t
  at_here = session_at i s.session

  abbrev kept : Holds es t (at_here.opened (held_open here.phase.state s.held)).byte here.phase here.named
  kept = (at_here.opened (held_open here.phase.state s.held)).held s.held

  judged_right : eqb (end_reason here.phase.message) no_reason ≡ true
  judged_right = judged_by es t b bytes i s car right

  -- it names these bytes
  told_names : named_by (heard_in (es ▷ e)) told ≡ bytes
  unfolding named_by report_of names_bytes begins_run
  told_names =
      let n = ap length kept.bytes in
      let m = length-drop here.named (heard_in es) in
      ap (λ (l : List ℕ). take (here.heard - here.named) (drop here.named l)) (heard_grows es e)
      ∙ ap (λ (k : ℕ). take (k - here.named) (drop here.named (heard_in es ++ values_of (grows_on es e).tail))) (basics es).heard
      ∙ part_before (heard_in es) (values_of (grows_on es e).tail) here.named (omega arith) ∙ s.heard

  told_first : (m : Move) → m ≡ makes frame_report no_reason (framed here.phase) → Among told (tells run m)
  unfolding tells
  told_first m q = subst (λ (x : Move). Among told (tells run x)) (sym q) first

  by_time : is_silent (gap_of here.mark e.start) ≡ true → Among told (handled_tells here e)
  unfolding handled_tells passed_tells begins_run
  by_time g =
      among_left _ (among_left _ (among_left _ (among_left _
      (told_first (after_silence here.phase (gap_of here.mark e.start))
      (one_move _ e here.phase (by_silence here.mark e here.phase) (ends_right held_now g judged_right))))))

  by_byte_cut : is_silent (gap_of here.mark e.start) ≡ false → e.kind ≡ Byte → is_cut_in here.phase e.side ≡ true → Among told (handled_tells here e)
  unfolding handled_tells byte_tells begins_run
  by_byte_cut g k c =
      let stay = open_stays run here.mark e.start (held_open here.phase.state s.held) g in
      subst₂ (λ (x : Run) (y : Kind). Among told (passed_tells run here.mark e.start ++ acted_tells y x e here.mark)) (sym stay) (sym k)
      (among_right (passed_tells run here.mark e.start)
      (among_left _ (among_left _ (told_first (before_byte here.phase e.side)
      (one_move _ e here.phase (by_cut here.mark e here.phase) (cut_right c judged_right))))))

  told_made : Among told (handled_tells here e) → ReportsFrame (heard_in (es ▷ e)) (reports_to ours es e) bytes
  unfolding taken_by report_of
  told_made m = record {
    report = told;
    made = subst (Among told) (sym (ap (λ (x : Answer). listed x.reports) (answer_taken es e number) ∙ four_enough here e)) m;
    number = refl;
    names = told_names;
  }

  silent_gap : is_silent (gap_of here.mark e.start) ≡ is_silent (gap_before (taken_of es) e)
  silent_gap = ap (λ (m : Micros). is_silent (gap_of m e.start)) (basics es).mark

  cuts_in : CutsIn t b e → is_cut_in here.phase e.side ≡ true
  unfolding is_cut_in is_tester is_unit
  cuts_in c =
      rw (s.held, ap is_tester (s.whose ∙ c.1), ap is_unit c.3) (ap of_quick_car at_here.fits.pair ∙ c.0)

  over_made : (20_000 < (gap_before (taken_of es) e).0) ⊎ CutsIn t b e → ReportsFrame (heard_in (es ▷ e)) (reports_to ours es e) bytes
  unfolding is_silent
  over_made (inl g) = told_made (by_time (silent_gap ∙ lt-ltb 20_000 (gap_before (taken_of es) e).0 g))
  over_made (inr c) = by_silent (is_silent (gap_of here.mark e.start)) refl
    where
      by_silent : (x : Bool) → is_silent (gap_of here.mark e.start) ≡ x → ReportsFrame (heard_in (es ▷ e)) (reports_to ours es e) bytes
      by_silent true x = told_made (by_time x)
      by_silent false x = told_made (by_byte_cut x c.2 (cuts_in c))

over_reports : (es : Log) (e : Event) (t : Talk) (b : Event) (bytes : List ℕ) → InBytes es → Speaking t b es bytes → number_after (taken_of es) e ≡ taken
    → is_frame t.pair b.side bytes ≡ true → IsOver t b es e → ReportsFrame (heard_in (es ▷ e)) (reports_to ours es e) bytes
over_reports es e t b bytes i s n r o = by_stand (stands i s)
  where
    by_stand : Stands t b es bytes → ReportsFrame (heard_in (es ▷ e)) (reports_to ours es e) bytes
    by_stand (open_still x) = over_made es e t b bytes i x n o.0 r o.1
    by_stand (hopeless nc f) = absurd (false≢true (sym nc ∙ o.0))
    by_stand (done q) = absurd (false≢true (sym (ends_frame t.pair b.side bytes q).1 ∙ o.0))

-- ---- what a car's message that goes on says of the link: it holds it, with its key bytes, and has judged it as its bytes are
pub record HoldsCar (t : Talk) (b : Event) (es : Log) (bytes : List ℕ) : Type 0 where
  pub held : (after ours es).link.phase.state ≡ Held
  pub whose : (after ours es).link.phase.message.side ≡ b.side
  pub pair : (after ours es).link.phase.start.pair ≡ t.pair
  pub right : is_frame t.pair b.side bytes ≡ true → eqb (end_reason (after ours es).link.phase.message) no_reason ≡ true

pub holds_car : (t : Talk) (b : Event) (es : Log) (bytes : List ℕ) → InBytes es → Speaking t b es bytes → of_car t.pair ≡ true → HoldsCar t b es bytes
holds_car t b es bytes i s c = by_stand (stands i s)
  where
    by_stand : Stands t b es bytes → HoldsCar t b es bytes
    by_stand (open_still x) = record {
      held = is_held_lem (after ours es).link.phase.state x.held;
      whose = x.whose;
      pair = (session_at i x.session).fits.pair;
      right = λ r. judged_by es t b bytes i x c r;
    }
    by_stand (hopeless nc f) = absurd (false≢true (sym nc ∙ c))
    by_stand (done q) = absurd (false≢true (sym (ends_frame t.pair b.side bytes q).1 ∙ c))

-- A FRAME IS REPORTED exactly if a byte ends a message in bytes that `read` takes, or a car's message is right and over, and the report names these bytes; by the
-- session after the message's first byte (`frames_exactly` in `Opening`)
pub frames_behind : (es : Log) (e : Event) (bytes : List ℕ) → InBytes (es ▷ e)
    → ReportsFrame (heard_in (es ▷ e)) (reports_to ours es e) bytes ↔ Finishes es e bytes
frames_behind es e bytes i = (
  λ x. subst (Finishes es e) x.names (frames_end es e x.report i x.made x.number),
  λ x. ⊎_elim (λ y. last_reports es e x.talk x.first bytes i y.0 y.1 x.number y.2)
      (λ y. over_reports es e x.talk x.first bytes (front_in es e i) y.0 x.number x.frame y.1) x.ends,
)
