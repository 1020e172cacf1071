-- A session going on: what the link of a session keeps (`At`), and that it keeps it while time passes (`passed_step`) and as a byte comes (`cut_rule`). Of each
-- report made on the way it is shown what `Shows` says.
-- Assumes nothing.
use Prim.Native.Nat.{ℕ, ◌+◌, ◌-◌, ◌≤◌, ◌<◌}
use mathlib.Core.Bool.{Bool, true, false, ◌||◌, false≢true, ◌&&◌}
use mathlib.Core.List.{List, [], ◌∷◌, ◌++◌, append-nil}
use mathlib.Core.Path.{◌≡◌, refl, sym, ap, ◌∙◌, subst, subst₂}
use mathlib.Core.Logic.{◌↔◌, ◌⊎◌, inl, inr, ⊎_elim}
use native.Mathlib.Omega.{arith}
use lib.Dec.{eqb}
use lib.ListN.{length, take, drop, length-drop}
use lib.Seq.{drop-append-le, take_at}
use Rattle.std.specs.Prelude.{if◌then◌else◌}
use Rattle.base.specs.Reports.{frame_report, damage_report, no_reply_report, down_report, no_reason, closed, early, stray, stopped, idle_over, dropped}
use Rattle.base.specs.Numbers.{taken}
use Rattle.base.proofs.Tests.{and_split, by_test}
use borrow.Author.Tests.{ltb-true}
use Rattle.units.specs.Units.{micros, gap_of}
use Rattle.units.specs.declared.Micros.{Micros}
use Rattle.keys.specs.declared.Pair.{Pair}
use Rattle.timing.specs.Timing.{idle_at_power_on}
use Rattle.frame.specs.Read.{data_of}
use Rattle.events.specs.declared.Side.{Side}
use Rattle.events.specs.Events.{is_tester, is_unit}
use Rattle.events.specs.declared.Kind.TheVariants.{Byte}
use Rattle.events.specs.declared.Side.TheVariants.{Tester, Unit, Nobody}
use Rattle.events.specs.declared.Event.{Event}
use Rattle.talk.specs.Talk.{first_reason, begun_by, end_reason, is_effective, windows_after, request_after}
use Rattle.talk.specs.declared.Request.{Request}
use Rattle.talk.specs.declared.Request.TheVariants.{Ordinary}
use Rattle.talk.specs.declared.Reply.{Reply}
use Rattle.talk.specs.declared.Reply.TheVariants.{Never}
use Rattle.phases.specs.Phases.{is_down, is_starting, is_quiet, is_held, is_open, is_connected, down, off, talking, settled, timed, asked, answered, framed}
use Rattle.phases.specs.declared.State.TheVariants.{Down, Held}
use Rattle.phases.specs.declared.Phase.{Phase}
use Rattle.phases.proofs.StateTests.{never_starting, down_unconnected, quiet_is, held_is, starting_is}
use Rattle.moves.specs.Moves.{still, makes, is_silent, loss_reason, after_silence, is_cut_in, before_byte, after_p2, after_p3, after_window, closing, leaving}
use Rattle.moves.specs.declared.Move.{Move}
use Rattle.moves.proofs.Rules.{Moment, at_silence, at_p2, at_p3, at_window, at_closing, at_leaving, at_start, at_cut, at_hearing, at_byte, at_stop, at_end_lem}
use Rattle.moves.proofs.Rules.{Closes, by_drop, by_address, by_wake_up, reason_of, Rule, rests}
use Rattle.moves.proofs.Rules.{ends_right, breaks_off, cut_right, cut_wrong, cut_held, waited, idled, expires, cuts_off, aborts, leaves, drops, by_silence, by_p2, by_p3, by_window, move_at, is_move}
use Rattle.reports.specs.Reporting.{names_bytes, report_of, told, moved}
use Rattle.reports.specs.declared.Report.{Report}
use Rattle.reports.specs.declared.Run.{Run}
use Rattle.link.specs.Handling.{passed}
use Rattle.link.specs.Telling.{tells, passed_tells}
use Rattle.link.proofs.Walk.{moved_phase}
use Rattle.link.proofs.CarLinks.{Blank, blank_request, right_free}
use Rattle.demands.specs.Logs.{Log, ◌▷◌, mark_of, bytes_of, values_of, last_side, heard_in, number_after, taken_of, Begins, more}
use Rattle.demands.specs.Refusals.{Not}
use Rattle.demands.specs.Editions.{of_car, of_quick_car, is_link_pair, is_frame}
use Rattle.demands.specs.Histories.{is_among, Among, Tells}
use Rattle.demands.specs.Accounts.{named_by, bytes_named}
use Rattle.demands.specs.Messages.{CutsIn}
use Rattle.demands.specs.Sessions.{Frame, ◌▸◌, same, stops, pending_in, Talk, frame_named, reply_to, after_report, talk_after, in_force, gap_before, Stray, Early}
use Rattle.demands.proofs.Histories.BytesAsEvents.{talk_behind, value_reason, talk_reason, same_length, same_events, grows, heard_grows}
use Rattle.demands.proofs.Sessions.AfterFirstByte.{FirstOf, Speaking, Finishes, Turned}
use Rattle.demands.proofs.Histories.Holding.{framed_quiet}
use Rattle.demands.proofs.Moves.Completing.{held_cuts}
use Rattle.demands.proofs.Sessions.MessageData.{request_by, Kept, GoneOn, kept_none}
use Rattle.demands.proofs.Sessions.CarMessages.{car_data, never_stops, car_pending, car_windows, free_car, car_blank, car_verdict, end_elsewhere}
use Rattle.demands.proofs.Moves.ReportsInList.{Each, each_none, each_one, each_both, says_both, talk_both}

-- a part of a list that ends before what is put after it
pub part_before : {A : Type 0} (l tail : List A) (n : ℕ) → n ≤ length l → take (length l - n) (drop n (l ++ tail)) ≡ drop n l
part_before l tail n h =
    ap (take (length l - n)) (drop-append-le n l tail h) ∙ take_at (drop n l) tail (length l - n) (length-drop n l)

pub held_loss : (p : Phase) (why : ℕ) → is_held p.state ≡ true → loss_reason p why ≡ why
unfolding loss_reason
held_loss p why h = rw h

-- ---- what the link of a session keeps
-- its phase has what the talk says
pub record Fits (t : Talk) (p : Phase) : Type 0 where
  pub connected : is_connected p.state ≡ true
  pub good : is_link_pair t.pair ≡ true
  pub pair : p.start.pair ≡ t.pair
  pub windows : p.windows ≡ in_force t
  pub reply : p.reply ≡ t.reply
  pub kept : Kept p.request p.asked (pending_in t.pair t.frames)

-- a message held, from its first byte b on: the bytes after that went on with it
pub record Holds (es : Log) (t : Talk) (b : Event) (p : Phase) (named : ℕ) : Type 0 where
  pub head : ℕ
  pub rest : List ℕ
  pub bytes : drop named (heard_in es) ≡ head ∷ rest
  pub right : value_reason p.start.pair head ≡ no_reason
  pub gone : GoneOn b.side (begun_by p.start.pair b.side head) rest p.message
  pub whose : p.message.side ≡ b.side
  pub last : last_side (drop named (bytes_of (taken_of es))) ≡ b.side
  pub spoken : Speaking t b es (head ∷ rest)

-- the reason that a phase gives for what is open, however its bytes go on: that of the damage, or the one that a held message gets from them
abbrev pub reason_with : Phase → List Event → ℕ
reason_with p bs = if is_held p.state then talk_behind p.message bs else p.message.why

-- A message held or damage: its first byte, and whether that was early or stray; no report was made since, so that the session is the present one.
-- While it is the only byte, a message is held if there is no reason against it. Damage has a reason; where the first byte was neither
-- early nor stray, it is the one that the bytes give.
pub record Opened (es : Log) (t : Talk) (p : Phase) (named : ℕ) : Type 0 where
  pub before : Log
  pub byte : Event
  pub begins : Begins (before ▷ byte) es
  pub first : FirstOf t before byte
  pub index : length (heard_in before) ≡ named
  pub hasty : (loss_reason p no_reason ≡ early) ↔ Early t t.reply (gap_before (taken_of before) byte) byte
  pub astray : (loss_reason p no_reason ≡ stray) ↔ Stray t t.reply (gap_before (taken_of before) byte) byte
  pub fresh : length (heard_in es) ≡ named + 1
      → first_reason t.pair t.reply (in_force t) byte.side byte.value (gap_before (taken_of before) byte) ≡ no_reason
      → is_held p.state ≡ true
  pub reasoned : Not (Early t t.reply (gap_before (taken_of before) byte) byte) → Not (Stray t t.reply (gap_before (taken_of before) byte) byte)
      → (bs : List Event) → talk_reason t.pair (drop named (bytes_of (taken_of es)) ++ bs) ≡ reason_with p bs
  pub against : is_held p.state ≡ false → Not (p.message.why ≡ no_reason)
  pub held : is_held p.state ≡ true → Holds es t byte p named

-- a phase with bytes named and heard, after es in the session t
pub record At (es : Log) (t : Talk) (p : Phase) (named heard : ℕ) : Type 0 where
  pub fits : Fits t p
  pub bytes : heard ≡ length (heard_in es)
  pub calm : is_quiet p.state ≡ true → named ≡ heard
  pub opened : is_open p.state ≡ true → Opened es t p named

-- an event that is no byte heard, and leaves a message open, changes nothing of this
abbrev pub SpeaksOn : Log → Event → Talk → Type 0
SpeaksOn es e t = (b : Event) (bytes : List ℕ) → Speaking t b es bytes → Speaking t b (es ▷ e) bytes

module _ (es : Log) (e : Event) (t : Talk) (p : Phase) (named : ℕ) (same : heard_in (es ▷ e) ≡ heard_in es) where
  holds_more : (b : Event) → SpeaksOn es e t → Holds es t b p named → Holds (es ▷ e) t b p named
  holds_more b f h = record {
    head = h.head;
    rest = h.rest;
    bytes = ap (drop named) same ∙ h.bytes;
    right = h.right;
    gone = h.gone;
    whose = h.whose;
    last = ap (λ (l : List Event). last_side (drop named l)) (same_events es e same) ∙ h.last;
    spoken = f b (h.head ∷ h.rest) h.spoken;
  }

  opened_more : SpeaksOn es e t → Opened es t p named → Opened (es ▷ e) t p named
  opened_more f o = record {
    before = o.before;
    byte = o.byte;
    begins = more o.begins;
    first = o.first;
    index = o.index;
    hasty = o.hasty;
    astray = o.astray;
    fresh = λ n. o.fresh (sym (ap length same) ∙ n);
    reasoned = λ x y bs. ap (λ (l : List Event). talk_reason t.pair (drop named l ++ bs)) (same_events es e same) ∙ o.reasoned x y bs;
    against = o.against;
    held = λ h. holds_more o.byte f (o.held h);
  }

  pub at_more : (heard : ℕ) → (is_open p.state ≡ true → SpeaksOn es e t) → At es t p named heard → At (es ▷ e) t p named heard
  at_more heard f a = record {
    fits = a.fits;
    bytes = a.bytes ∙ sym (ap length same);
    calm = a.calm;
    opened = λ o. opened_more (f o) (a.opened o);
  }

-- ---- what is shown of a report of an event
-- among these reports of an event from this side is a frame from the unit that answers a stop, where `latest` is the data of the latest tester frame
pub record Answers (pair : Pair) (latest : List ℕ) (side : Side) (heard : List ℕ) (rs : List Report) : Type 0 where
  pub report : Report
  pub made : Among report rs
  pub number : report.number ≡ frame_report
  pub unit : side ≡ Unit
  pub stop : stops latest (data_of pair.kb1 pair.kb2 (named_by heard report)) ≡ true

-- a report of the event e after es, in a session with these key bytes and this latest request; `all` are the event's reports
pub record Shows (es : Log) (e : Event) (pair : Pair) (latest : List ℕ) (all : List Report) (x : Report) : Type 0 where
  pub reads : x.number ≡ frame_report → is_frame pair (frame_named (taken_of (es ▷ e)) x).side (named_by (heard_in (es ▷ e)) x) ≡ true
  pub spoken : x.number ≡ frame_report → Finishes es e (named_by (heard_in (es ▷ e)) x)
  pub turns : (x.number ≡ frame_report) ⊎ (x.number ≡ damage_report) → Turned (es ▷ e) x
  pub answers : x.number ≡ down_report → x.reason ≡ stopped → Answers pair latest e.side (heard_in (es ▷ e)) all
  pub stops : x.number ≡ frame_report → e.side ≡ Unit → stops latest (data_of pair.kb1 pair.kb2 (named_by (heard_in (es ▷ e)) x)) ≡ true
      → Tells down_report stopped all

-- a talk with this reply
abbrev pub with_reply : Talk → Reply → Talk
with_reply t reply = record { pair = t.pair; frames = t.frames; reply = reply }

-- the session goes on, with the same key bytes, the same latest request and the same windows in force: a car's may have a frame more
pub record Alike (t u : Talk) : Type 0 where
  pub pair : u.pair ≡ t.pair
  pub latest : pending_in u.pair u.frames ≡ pending_in t.pair t.frames
  pub windows : in_force u ≡ in_force t

pub alike_reply : (t : Talk) (reply : Reply) → Alike t (with_reply t reply)
alike_reply t reply = record { pair = refl; latest = refl; windows = refl }

pub alike_both : {t u v : Talk} → Alike t u → Alike u v → Alike t v
alike_both a b = record { pair = b.pair ∙ a.pair; latest = b.latest ∙ a.latest; windows = b.windows ∙ a.windows }

-- ---- the reports of an event e after es, move by move
module _ (es : Log) (e : Event) (all : List Report) where
  abbrev pub Told : Talk → Report → Type 0
  Told t x = Shows es e t.pair (pending_in t.pair t.frames) all x

  pub told_alike : {t u : Talk} → Alike t u → (rs : List Report) → Each (Told u) rs → Each (Told t) rs
  told_alike a rs f x i = subst₂ (λ (pair : Pair) (latest : List ℕ). Shows es e pair latest all x) a.pair a.latest (f x i)

  abbrev pub talked : Talk → List Report → Talk
  talked t rs = talk_after t (taken_of (es ▷ e)) rs

  -- of most reports nothing is to be shown
  pub plain : (t : Talk) (x : Report) → (x.number ≡ frame_report → ⊥) → (x.number ≡ damage_report → ⊥)
      → (x.number ≡ down_report → x.reason ≡ stopped → ⊥) → Told t x
  plain t x f d s = record {
    reads = λ n. absurd (f n);
    spoken = λ n. absurd (f n);
    turns = λ n. absurd (⊎_elim f d n);
    answers = λ n r. absurd (s n r);
    stops = λ n u r. absurd (f n);
  }

  -- after some of its reports the session goes on; or it is over
  pub data Passes (t : Talk) (rs : List Report) (r : Run) : Type 0 where
    up : (u : Talk) → Alike t u → is_among down_report rs ≡ false → Each (Told t) rs → talked t rs ≡ u
        → At es u r.phase r.named r.heard → Passes t rs r
    gone : is_among down_report rs ≡ true → Each (Told t) rs → r.phase.state ≡ Down → Passes t rs r

  -- a move that makes no report
  stays : (t : Talk) (r : Run) → At es t r.phase r.named r.heard → Passes t (tells r (still r.phase)) (moved r (still r.phase))
  unfolding tells moved is_among talk_after
  stays t r a = up t (alike_reply t t.reply) refl (each_none (Told t)) refl a

  -- nothing is open, and no reply is expected
  settled_at : (t : Talk) (p : Phase) (named named' heard : ℕ) → At es t p named heard → named' ≡ heard
      → At es (with_reply t Never) (settled p) named' heard
  unfolding settled talking is_connected is_open
  settled_at t p named named' heard a q =
      let f = a.fits in
      record {
        fits = record { connected = refl; good = f.good; pair = f.pair; windows = f.windows; reply = refl; kept = f.kept };
        bytes = a.bytes;
        calm = λ _. q;
        opened = λ o. absurd (false≢true o);
      }

  -- ---- a report 2
  pub same_loss : (p : Phase) (why k : ℕ) → (is_held p.state ≡ true → why ≡ k → ⊥) → (no_reason ≡ k → ⊥) → (loss_reason p why ≡ k) ↔ (loss_reason p no_reason ≡ k)
  unfolding loss_reason
  same_loss p why k h z = by_held (is_held p.state) refl
    where
      by_held : (b : Bool) → is_held p.state ≡ b → ((if b then why else p.message.why) ≡ k) ↔ ((if b then no_reason else p.message.why) ≡ k)
      by_held true c = (λ q. absurd (h c q), λ q. absurd (z q))
      by_held false c = (λ q. q, λ q. q)

  -- a report that names what is open from its first byte on
  pub turned : (t : Talk) (p : Phase) (named : ℕ) (x : Report) → Opened es t p named → x.first ≡ named
      → (((x.number ≡ damage_report) × (x.reason ≡ early)) ↔ (loss_reason p no_reason ≡ early))
      → (((x.number ≡ damage_report) × (x.reason ≡ stray)) ↔ (loss_reason p no_reason ≡ stray)) → Turned (es ▷ e) x
  turned t p named x o n f g = record {
    before = o.before;
    byte = o.byte;
    talk = t;
    begins = more o.begins;
    first = o.first;
    index = o.index ∙ sym n;
    early = (λ q. o.hasty.0 (f.0 q), λ q. f.1 (o.hasty.1 q));
    stray = (λ q. o.astray.0 (g.0 q), λ q. g.1 (o.astray.1 q));
  }

  damage_told : (t : Talk) (r : Run) (why : ℕ) → (is_held r.phase.state ≡ true → why ≡ early → ⊥) → (is_held r.phase.state ≡ true → why ≡ stray → ⊥) → Opened es t r.phase r.named
      → Told t (report_of r damage_report (loss_reason r.phase why))
  unfolding report_of names_bytes
  damage_told t r why h k o =
      let f = same_loss r.phase why early h (λ z. omega arith) in
      let g = same_loss r.phase why stray k (λ z. omega arith) in
      record {
        reads = λ n. absurd (omega arith);
        spoken = λ n. absurd (omega arith);
        turns = λ _. turned t r.phase r.named (report_of r damage_report (loss_reason r.phase why)) o refl
            (λ q. f.0 q.1, λ q. (refl, f.1 q)) (λ q. g.0 q.1, λ q. (refl, g.1 q));
        answers = λ n. absurd (omega arith);
        stops = λ n. absurd (omega arith);
      }

  pub damage_ends : (t : Talk) (r : Run) (why : ℕ) → (is_held r.phase.state ≡ true → why ≡ early → ⊥) → (is_held r.phase.state ≡ true → why ≡ stray → ⊥) → At es t r.phase r.named r.heard
      → is_open r.phase.state ≡ true
      → Passes t (tells r (makes damage_report (loss_reason r.phase why) (settled r.phase)))
      (moved r (makes damage_report (loss_reason r.phase why) (settled r.phase)))
  unfolding tells moved told report_of names_bytes is_among talk_after after_report
  damage_ends t r why h k a o =
      up (with_reply t Never) (alike_reply t Never) refl (each_one (Told t) _ (damage_told t r why h k (a.opened o))) refl
      (settled_at t r.phase r.named r.heard r.heard a refl)

  -- what has ended, and not in a frame
  ended_ends : (t : Talk) (r : Run) → At es t r.phase r.named r.heard → is_open r.phase.state ≡ true
      → Passes t (tells r (makes damage_report (loss_reason r.phase (end_reason r.phase.message)) (settled r.phase)))
      (moved r (makes damage_report (loss_reason r.phase (end_reason r.phase.message)) (settled r.phase)))
  ended_ends t r a o =
      let x : is_held r.phase.state ≡ true → Holds es t (a.opened o).byte r.phase r.named = (a.opened o).held in
      damage_ends t r (end_reason r.phase.message) (λ h. let y = x h in (end_elsewhere r.phase.start.pair _ y.head y.rest r.phase.message y.gone).0)
      (λ h. let y = x h in (end_elsewhere r.phase.start.pair _ y.head y.rest r.phase.message y.gone).1) a o

  -- ---- a report 1 of a message that is right as it ends: a car's
  module _ (t : Talk) (r : Run) (a : At es t r.phase r.named r.heard) (h : r.phase.state ≡ Held)
      (w : eqb (end_reason r.phase.message) no_reason ≡ true) (number : number_after (taken_of es) e ≡ taken)
      (over : (b : Event) → b.side ≡ r.phase.message.side → (20_000 < (gap_before (taken_of es) e).0) ⊎ CutsIn t b e) where
    abbrev p : Phase
    p = r.phase

    abbrev o : Opened es t p r.named
    o = a.opened (held_is h).1

    abbrev held : Holds es t o.byte p r.named
    held = o.held (held_is h).0

    abbrev side : Side
    side = o.byte.side

    abbrev bytes : List ℕ
    bytes = held.head ∷ held.rest

    own_car : of_car p.start.pair ≡ true
    own_car = free_car p.start.pair side side held.head held.rest p.message held.gone (right_free p.message w)

    car : of_car t.pair ≡ true
    car = sym (ap of_car a.fits.pair) ∙ own_car

    blank : Blank p.message
    blank = car_blank p.start.pair side side held.head held.rest p.message held.gone own_car

    abbrev x : Report
    x = report_of r frame_report no_reason

    -- it names what was held
    inside : r.named ≤ length (heard_in es)
    inside = let z = ap length held.bytes in let y = length-drop r.named (heard_in es) in omega arith

    names : named_by (heard_in (es ▷ e)) x ≡ bytes
    unfolding named_by report_of names_bytes
    names =
        ap (λ (l : List ℕ). take (r.heard - r.named) (drop r.named l)) (heard_grows es e)
        ∙ ap (λ (n : ℕ). take (n - r.named) (drop r.named (heard_in es ++ values_of (grows es e).tail))) a.bytes
        ∙ part_before (heard_in es) (values_of (grows es e).tail) r.named inside ∙ held.bytes

    abbrev fr : Frame
    fr = frame_named (taken_of (es ▷ e)) x

    whose : fr.side ≡ side
    unfolding bytes_named report_of names_bytes
    whose =
        let size = same_length (taken_of es) in
        ap (λ (l : List Event). last_side (take (r.heard - r.named) (drop r.named l))) (grows es e).events
        ∙ ap (λ (n : ℕ). last_side (take (n - r.named) (drop r.named (bytes_of (taken_of es) ++ (grows es e).tail)))) (a.bytes ∙ sym size)
        ∙ ap last_side (part_before (bytes_of (taken_of es)) (grows es e).tail r.named (omega (arith, inside))) ∙ held.last

    -- they are a frame
    frame_is : is_frame t.pair side bytes ≡ true
    unfolding is_frame
    frame_is =
        rw car
        (ap (λ (k : ℕ). eqb k no_reason) (sym (car_verdict p.start.pair side held.head held.rest p.message held.gone own_car)) ∙ w)

    abbrev with_frame : Talk
    with_frame = record { pair = t.pair; frames = t.frames ▸ fr; reply = reply_to fr.side }

    alike_frame : Alike t with_frame
    alike_frame = record {
      pair = refl;
      latest = car_pending t.pair (t.frames ▸ fr) car ∙ sym (car_pending t.pair t.frames car);
      windows = car_windows t.pair t.frames fr car;
    }

    ordinary : p.request ≡ Ordinary
    unfolding request_by same
    ordinary = a.fits.kept.request_is ∙ ap request_by (car_pending t.pair t.frames car)

    kept_then : {q : Request} {seven : ℕ} → q ≡ Ordinary → Kept q seven (pending_in t.pair (t.frames ▸ fr))
    kept_then {q = q} {seven = seven} z =
        subst₂ (λ (k : Request) (l : List ℕ). Kept k seven l) (sym z) (sym (car_pending t.pair (t.frames ▸ fr) car)) (kept_none seven)

    same_tester : is_tester p.message.side ≡ is_tester fr.side
    same_tester = ap is_tester (held.whose ∙ sym whose)

    framed_at : is_tester p.message.side ≡ true → Fits with_frame (asked p)
    unfolding asked timed talking is_connected reply_to
    framed_at c =
        let f = a.fits in
        record {
          connected = refl;
          good = f.good;
          pair = f.pair;
          windows = f.windows ∙ sym (car_windows t.pair t.frames fr car);
          reply = rw (sym same_tester ∙ c) refl;
          kept = kept_then (blank_request p.message blank);
        }

    framed_by : is_tester p.message.side ≡ false → Fits with_frame (answered p)
    unfolding answered timed talking is_connected reply_to windows_after request_after is_effective
    framed_by c =
        let f = a.fits in
        record {
          connected = refl;
          good = f.good;
          pair = f.pair;
          windows = ap (λ (k : Request). windows_after k p.message p.start.pair p.asked p.windows) ordinary
              ∙ (f.windows ∙ sym (car_windows t.pair t.frames fr car));
          reply = rw (sym same_tester ∙ c) refl;
          kept = kept_then (ap (λ (k : Request). request_after k p.message) ordinary);
        }

    frame_fits : Fits with_frame (framed p)
    unfolding framed
    frame_fits = by_test (Fits with_frame) (is_tester p.message.side) {x = asked p} {y = answered p} framed_at framed_by

    frame_at : At es with_frame (framed p) r.heard r.heard
    unfolding is_open
    frame_at = record {
      fits = frame_fits;
      bytes = a.bytes;
      calm = λ _. refl;
      opened = λ z. absurd (false≢true (sym (ap is_open (framed_quiet p)) ∙ z));
    }

    frame_told : Told t x
    unfolding report_of names_bytes
    frame_told =
        let never : (k : ℕ) → (no_reason ≡ k → ⊥) → loss_reason p no_reason ≡ k → ⊥
        = λ k n q. n (sym (held_loss p no_reason (held_is h).0) ∙ q) in
        record {
          reads = λ _. subst₂ (λ (s : Side) (l : List ℕ). is_frame t.pair s l ≡ true) (sym whose) (sym names) frame_is;
          spoken = λ _. subst (Finishes es e) (sym names)
              (record { talk = t; first = o.byte; number = number; frame = frame_is; ends = inr (held.spoken, (car, over o.byte (sym held.whose))) });
          turns = λ _. turned t p r.named x o refl
              (λ q. absurd (let z = q.0 in omega arith), λ q. absurd (never early (λ z. omega arith) q))
              (λ q. absurd (let z = q.0 in omega arith), λ q. absurd (never stray (λ z. omega arith) q));
          answers = λ n. absurd (omega arith);
          stops = λ _ _ z.
              let d = car_data t.pair (named_by (heard_in (es ▷ e)) x) car in
              absurd (false≢true (sym (never_stops (pending_in t.pair t.frames)) ∙ (sym (ap (stops (pending_in t.pair t.frames)) d) ∙ z)));
        }

    right_ends : Passes t (tells r (makes frame_report no_reason (framed p))) (moved r (makes frame_report no_reason (framed p)))
    unfolding tells moved told names_bytes is_among talk_after after_report report_of
    right_ends = up with_frame alike_frame refl (each_one (Told t) x frame_told) refl frame_at

  -- ---- reports 6 and 7
  no_reply : (t : Talk) (r : Run) → At es t r.phase r.named r.heard → is_quiet r.phase.state ≡ true
      → Passes t (tells r (makes no_reply_report no_reason (settled r.phase))) (moved r (makes no_reply_report no_reason (settled r.phase)))
  unfolding tells moved told report_of names_bytes is_among talk_after after_report
  no_reply t r a q =
      up (with_reply t Never) (alike_reply t Never) refl (each_one (Told t) _ (plain t _ (λ n. omega arith) (λ n. omega arith) (λ n. absurd (omega arith)))) refl
      (settled_at t r.phase r.named r.named r.heard a (a.calm q))

  goes_down : (t : Talk) (r : Run) (reason : ℕ) (idle : Micros) → (reason ≡ stopped → ⊥)
      → Passes t (tells r (makes down_report reason (down idle))) (moved r (makes down_report reason (down idle)))
  unfolding tells moved told report_of is_among down
  goes_down t r reason idle h = gone refl (each_one (Told t) _ (plain t _ (λ n. omega arith) (λ n. omega arith) (λ n. h))) refl

  -- ---- THE RULES up to where all that is open is closed, in a session
  module _ (mark : Micros) where
    abbrev pub Moves : Moment → Type 0
    Moves k = (t : Talk) (r : Run) (m : Move) → Rule mark e r.phase k m → At es t r.phase r.named r.heard → Passes t (tells r m) (moved r m)

    over_gap : mark ≡ mark_of (taken_of es) → is_silent (gap_of mark e.start) ≡ true → 20_000 < (gap_before (taken_of es) e).0
    unfolding is_silent
    over_gap q s = subst (λ (m : Micros). 20_000 < (gap_of m e.start).0) q (ltb-true 20_000 (gap_of mark e.start).0 s)

    -- the unit's byte cuts in
    pub tester_is : (side : Side) → is_tester side ≡ true → side ≡ Tester
    unfolding is_tester
    tester_is Tester t = refl
    tester_is Unit t = absurd (false≢true t)
    tester_is Nobody t = absurd (false≢true t)

    pub unit_is : (side : Side) → is_unit side ≡ true → side ≡ Unit
    unfolding is_unit
    unit_is Tester t = absurd (false≢true t)
    unit_is Unit t = refl
    unit_is Nobody t = absurd (false≢true t)

    cuts_in : (t : Talk) (r : Run) → At es t r.phase r.named r.heard → is_cut_in r.phase e.side ≡ true → e.kind ≡ Byte → (b : Event)
        → b.side ≡ r.phase.message.side → CutsIn t b e
    unfolding is_cut_in
    cuts_in t r a c k b s =
        let x = and_split _ _ c in
        let y = and_split _ _ x.0 in
        let z = and_split (is_held r.phase.state) _ y.0 in
        (sym (ap of_quick_car a.fits.pair) ∙ x.1, s ∙ tester_is _ z.1, k, unit_is _ y.1)

    pub cuts_by : (t : Talk) (r : Run) → At es t r.phase r.named r.heard → is_cut_in r.phase e.side ≡ true → e.kind ≡ Byte
        → (of_quick_car t.pair ≡ true) × (e.side ≡ Unit)
    unfolding is_cut_in
    cuts_by t r a c k =
        let x = and_split (is_held r.phase.state && is_tester r.phase.message.side && is_unit e.side) _ c in
        let y = and_split (is_held r.phase.state && is_tester r.phase.message.side) _ x.0 in
        (sym (ap of_quick_car a.fits.pair) ∙ x.1, unit_is _ y.1)

    silence_rule : number_after (taken_of es) e ≡ taken → mark ≡ mark_of (taken_of es) → Moves at_silence
    silence_rule n q t r m (rests u) a = stays t r a
    silence_rule n q t r m (ends_right h s w) a = right_ends t r a h w n (λ _ _. inl (over_gap q s))
    silence_rule n q t r m (breaks_off o s w) a = ended_ends t r a o

    -- a byte comes
    pub cut_rule : number_after (taken_of es) e ≡ taken → e.kind ≡ Byte → Moves at_cut
    cut_rule n k t r m (rests u) a = stays t r a
    cut_rule n k t r m (cut_right c w) a =
        let h = cut_held mark e r.phase c in
        right_ends t r a h w n (λ b x. inr (cuts_in t r a c k b x))
    cut_rule n k t r m (cut_wrong c w) a =
        let h = cut_held mark e r.phase c in
        subst (λ (why : ℕ). Passes t (tells r (makes damage_report why (settled r.phase))) (moved r (makes damage_report why (settled r.phase))))
        (held_loss r.phase (end_reason r.phase.message) (held_is h).0) (ended_ends t r a (held_is h).1)

    p2_rule : Moves at_p2
    p2_rule t r m (rests u) a = stays t r a
    p2_rule t r m (waited q f s) a = no_reply t r a (quiet_is q)

    p3_rule : Moves at_p3
    p3_rule t r m (rests u) a = stays t r a
    p3_rule t r m (idled q f s) a = goes_down t r idle_over (micros 0) (λ z. omega arith)

    window_rule : Moves at_window
    window_rule t r m (rests u) a = stays t r a
    window_rule t r m (expires s o) a = absurd (never_starting r.phase.state a.fits.connected (starting_is s))

    pub closing_rule : Moves at_closing
    closing_rule t r m (rests u) a = stays t r a
    closing_rule t r m (cuts_off o) a = damage_ends t r closed (λ _ z. omega arith) (λ _ z. omega arith) a o
    closing_rule t r m (aborts s) a = absurd (never_starting r.phase.state a.fits.connected (starting_is s))

    not_stopped : {reason : ℕ} → Closes e reason → reason ≡ stopped → ⊥
    not_stopped (by_drop k) z = omega arith
    not_stopped (by_address k) z = omega arith
    not_stopped (by_wake_up k) z = omega arith

    pub leaving_rule : Moves at_leaving
    leaving_rule t r m (rests u) a = stays t r a
    leaving_rule t r m (leaves c q) a = goes_down t r _ idle_at_power_on (not_stopped c)
    leaving_rule t r m (drops d k) a = absurd (false≢true (sym (down_unconnected d) ∙ a.fits.connected))

  -- ---- one move after another
  or_first : (a b : Bool) → a ≡ true → (a || b) ≡ true
  or_first true b h = refl
  or_first false b h = absurd (false≢true h)

  or_none : (a b : Bool) → a ≡ false → b ≡ false → (a || b) ≡ false
  or_none a b h k = rw (h, k) refl

  or_second : (a b : Bool) → b ≡ true → (a || b) ≡ true
  or_second true b h = refl
  or_second false b h = h

  pub says_first : (rs ss : List Report) → is_among down_report rs ≡ true → is_among down_report (rs ++ ss) ≡ true
  says_first rs ss h = says_both down_report rs ss ∙ or_first (is_among down_report rs) (is_among down_report ss) h

  pub says_second : (rs ss : List Report) → is_among down_report ss ≡ true → is_among down_report (rs ++ ss) ≡ true
  says_second rs ss h = says_both down_report rs ss ∙ or_second (is_among down_report rs) (is_among down_report ss) h

  pub says_none : (rs ss : List Report) → is_among down_report rs ≡ false → is_among down_report ss ≡ false → is_among down_report (rs ++ ss) ≡ false
  says_none rs ss h k = says_both down_report rs ss ∙ or_none (is_among down_report rs) (is_among down_report ss) h k

  pub talked_both : (t u : Talk) (rs ss : List Report) → talked t rs ≡ u → talked t (rs ++ ss) ≡ talked u ss
  talked_both t u rs ss q = talk_both t (taken_of (es ▷ e)) rs ss ∙ ap (λ (v : Talk). talked v ss) q

  -- the moments at which a link that is down rests
  abbrev rests_down : Moment → Bool
  rests_down at_silence = true
  rests_down at_p2 = true
  rests_down at_p3 = true
  rests_down at_window = true
  rests_down at_closing = true
  rests_down at_leaving = true
  rests_down at_start = false
  rests_down at_cut = true
  rests_down at_hearing = false
  rests_down at_byte = false
  rests_down at_stop = false
  rests_down at_end_lem = false

  -- up to a start, a link that is down makes no report and stays down
  abbrev StaysDown : Move → Type 0
  StaysDown m = (eqb m.number 0 ≡ true) × (m.phase.state ≡ Down)

  down_rests : (mark : Micros) (k : Moment) (p : Phase) → rests_down k ≡ true → p.state ≡ Down → StaysDown (move_at mark e p k)
  unfolding is_open is_held is_quiet is_starting down after_silence after_p2 after_p3 after_window closing leaving before_byte
  down_rests mark at_silence p b d = rw (ap is_open d) (refl, d)
  down_rests mark at_p2 p b d = rw (ap is_quiet d) (refl, d)
  down_rests mark at_p3 p b d = rw (ap is_quiet d) (refl, d)
  down_rests mark at_window p b d = rw (ap is_starting d) (refl, d)
  down_rests mark at_closing p b d = rw (ap is_open d, ap is_starting d) (refl, d)
  down_rests mark at_leaving p b d =
      rw (ap is_quiet d)
      (by_test StaysDown (is_down p.state && eqb (reason_of e.kind) dropped) {x = still off} {y = still p} (λ _. (refl, refl)) (λ _. (refl, d)))
  down_rests mark at_start p b d = absurd (false≢true b)
  down_rests mark at_cut p b d = rw (held_cuts mark e p (λ h. absurd (false≢true (sym (ap is_held d) ∙ h)))) (refl, d)
  down_rests mark at_hearing p b d = absurd (false≢true b)
  down_rests mark at_byte p b d = absurd (false≢true b)
  down_rests mark at_stop p b d = absurd (false≢true b)
  down_rests mark at_end_lem p b d = absurd (false≢true b)

  none_told : (r : Run) (m : Move) → eqb m.number 0 ≡ true → tells r m ≡ []
  unfolding tells
  none_told r m z = rw z refl

  pub next : (mark : Micros) (k : Moment) → Moves mark k → rests_down k ≡ true → (t : Talk) (rs : List Report) (r : Run) (m : Move)
      → Rule mark e r.phase k m → Passes t rs r → Passes t (rs ++ tells r m) (moved r m)
  next mark k f d t rs r m u (up v l n g q a) = on (f v r m u a)
    where
      on : Passes v (tells r m) (moved r m) → Passes t (rs ++ tells r m) (moved r m)
      on (up w i o h p b) =
          up w (alike_both l i) (says_none rs (tells r m) n o) (each_both (Told t) rs (tells r m) g (told_alike l (tells r m) h))
          (talked_both t v rs (tells r m) q ∙ p) b
      on (gone o h p) = gone (says_second rs (tells r m) o) (each_both (Told t) rs (tells r m) g (told_alike l (tells r m) h)) p
  next mark k f d t rs r m u (gone n g q) =
      let x = subst StaysDown (sym (is_move mark e r.phase u)) (down_rests mark k r.phase d q) in
      subst (λ (xs : List Report). Passes t xs (moved r m)) (sym (ap (λ (xs : List Report). rs ++ xs) (none_told r m x.0) ∙ append-nil rs))
      (gone n g (ap (λ (p : Phase). p.state) (moved_phase r m) ∙ x.1))

  -- TIME PASSES IN A SESSION
  pub passed_step : (t : Talk) (r : Run) (mark : Micros) → number_after (taken_of es) e ≡ taken → mark ≡ mark_of (taken_of es) → At es t r.phase r.named r.heard
      → Passes t (passed_tells r mark e.start) (passed r mark e.start)
  unfolding passed_tells passed
  passed_step t r mark n q a =
      let gap = gap_of mark e.start in
      let r1 = moved r (after_silence r.phase gap) in
      let r2 = moved r1 (after_p2 r1.phase gap) in
      let r3 = moved r2 (after_p3 r2.phase gap) in
      let s1 = silence_rule mark n q t r _ (by_silence mark e r.phase) a in
      let s2 = next mark at_p2 (p2_rule mark) refl t _ r1 _ (by_p2 mark e r1.phase) s1 in
      let s3 = next mark at_p3 (p3_rule mark) refl t _ r2 _ (by_p3 mark e r2.phase) s2 in
      next mark at_window (window_rule mark) refl t _ r3 _ (by_window mark e r3.phase) s3
