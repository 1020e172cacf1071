-- What is said of a history by a link's reports is the same for two links that reported alike so far (`Agree`): bytes held, sessions, the idle time before a start,
-- initializations, first bytes, messages. Assumes nothing.
use Prim.Native.Nat.{ℕ, ◌+◌, ◌-◌, ◌≤◌, ◌<◌}
use mathlib.Core.List.{List, ◌++◌}
use mathlib.Core.Logic.{⊎_elim, inl, inr}
use mathlib.Core.Path.{◌≡◌, refl, sym, ap, ◌∙◌, subst}
use lib.Dec.{eqb}
use lib.ListN.{length}
use Rattle.std.specs.Prelude.{if◌then◌else◌}
use Rattle.base.specs.Numbers.{taken}
use Rattle.base.specs.Reports.{connected_report, failed_report, down_report, frame_report}
use Rattle.base.proofs.Tests.{by_test}
use Rattle.timing.specs.Timing.{idle_at_power_on, is_passed}
use Rattle.events.specs.declared.Event.{Event}
use Rattle.reports.specs.declared.Report.{Report}
use Rattle.demands.specs.Logs.{Log, none, ◌▷◌, mark_of, heard_in, number_after, taken_of, Begins, whole, more, last_side, bytes_of}
use Rattle.demands.specs.Refusals.{Not}
use Rattle.demands.specs.Histories.{Machine, reports_to, reports_of, folded, Says, Among, is_among}
use Rattle.demands.specs.Accounts.{named_in, held_in}
use Rattle.demands.specs.Sessions.{Talk, in_force, talk_after, Session, opens, lasts, OpensIn, EarlyAt, StrayAt, gap_before, IdleOver, Early, Stray, reply_at}
use Rattle.demands.specs.Idle.{latest_after, latest_talk, p3min_in, idle_after, is_drop, idle_in, asked_after, idle_asked, idle_until}
use Rattle.demands.specs.Connecting.{Since, here, tick, byte, Connects}
use Rattle.demands.specs.Endings.{Starting, starts, goes_on, AnswersStop}
use Rattle.demands.specs.Messages.{OpensMessage, Speaks, begins, refused, waits, grows, EndsInFrame, EndsRight, Interrupts}
use Rattle.demands.proofs.Histories.TakenOnly.{PassesOver, next_same}
use Rattle.demands.proofs.IdleTimes.AskedTime.{timed}
use Rattle.demands.specs.Sessions.{reply_once_ended, reply_to}
use Rattle.talk.specs.declared.Reply.{Reply}
use Rattle.demands.specs.Editions.{of_car, of_quick_car}
use mathlib.Core.Bool.{false, true, ◌&&◌, false≢true}
use Rattle.talk.specs.Talk.{is_first}
use Rattle.talk.specs.declared.Reply.TheVariants.{Never, First}
use Rattle.demands.proofs.Sessions.MessageData.{ends_frame}
use Rattle.demands.proofs.Sessions.CarMessages.{quick_car}

unfoldable pub Agree : Machine → Machine → Log → Type 0
Agree s t none = Unit {0}
Agree s t (es ▷ e) = Agree s t es × (reports_to s es e ≡ reports_to t es e)

module _ (s t : Machine) where
  pub reports_same : (es : Log) → Agree s t es → reports_of s es ≡ reports_of t es
  unfolding Agree reports_of
  reports_same none a = refl
  reports_same (es ▷ e) a =
      ap (λ (rs : List Report). rs ++ reports_to s es e) (reports_same es a.0) ∙ ap (λ (rs : List Report). reports_of t es ++ rs) a.1

  pub held_same : (es : Log) → Agree s t es → held_in s es ≡ held_in t es
  unfolding held_in
  held_same es a = ap (λ (rs : List Report). length (heard_in es) - named_in rs) (reports_same es a)

  pub front_whole : (es before : Log) (b : Event) → Begins (before ▷ b) es → Agree s t es → Agree s t (before ▷ b)
  unfolding Agree
  front_whole none before b g a = elim g [ ]
  front_whole (es ▷ e) before b whole a = a
  front_whole (es ▷ e) before b (more g) a = front_whole es before b g a.0

  pub front : (es before : Log) (b : Event) → Begins (before ▷ b) es → Agree s t es → Agree s t before
  unfolding Agree
  front none before b g a = elim g [ ]
  front (es ▷ e) before b whole a = a.0
  front (es ▷ e) before b (more g) a = front es before b g a.0

  pub session_move : (es : Log) (k : Talk) → Agree s t es → Session s es k → Session t es k
  unfolding Agree
  session_move none k a x = elim x [ ]
  session_move (es ▷ e) k a (opens {r = r} i n) = opens (subst (Among r) a.1 i) n
  session_move (es ▷ e) k a (lasts {t = j} z n) =
      subst (λ (rs : List Report). Session t (es ▷ e) (talk_after j (taken_of (es ▷ e)) rs)) (sym a.1)
      (lasts (session_move es j a.0 z) (subst (λ (rs : List Report). Not (Says down_report rs)) a.1 n))

  -- ---- the idle time
  talk_same : (log : Log) → Agree s t log → latest_talk s log ≡ latest_talk t log
  unfolding Agree latest_talk
  talk_same none a = refl
  talk_same (log ▷ e) a =
      ap (λ (k : Talk). folded (latest_after (log ▷ e)) k (reports_to s log e)) (talk_same log a.0)
      ∙ ap (folded (latest_after (log ▷ e)) (latest_talk t log)) a.1

  pub p3min_same : (log : Log) → Agree s t log → p3min_in s log ≡ p3min_in t log
  unfolding p3min_in
  p3min_same log a = ap (λ (k : Talk). (in_force k).p3min) (talk_same log a)

  pub idle_same : (log : Log) → Agree s t log → idle_in s log ≡ idle_in t log
  unfolding Agree idle_in
  idle_same none a = refl
  idle_same (log ▷ e) a =
      λ i. if is_drop e.kind then idle_at_power_on else folded (idle_after (p3min_same log a.0 i)) (idle_same log a.0 i) (a.1 i)

  pub until_same : (log : Log) (e : Event) → Agree s t (log ▷ e) → idle_until s log e ≡ idle_until t log e
  unfolding Agree idle_asked
  until_same log e a i = (mark_of log).0 + (folded (asked_after (p3min_same log a.0 i)) (idle_same log a.0 i) (a.1 i)).0

  -- ---- an initialization that is completed, on a log
  pub since_agree : {a : Event} {before log bs : Log} → Since a before log bs → Agree s t log → Agree s t (before ▷ a)
  unfolding Agree
  since_agree here g = g
  since_agree (tick k z) g = since_agree z g.0
  since_agree (byte k z) g = since_agree z g.0

  abbrev pub connects_move : (log : Log) (e : Event) → Agree s t log → Connects s log e → Connects t log e
  connects_move log e a c = timed log e c (until_same c.before c.start (since_agree c.since a))

  -- ---- refused events passed over
  module _ (passes : PassesOver s) (passes' : PassesOver t) where
    pub next_agrees : (es : Log) (e : Event) → reports_to s es e ≡ reports_to t es e → reports_to s (taken_of es) e ≡ reports_to t (taken_of es) e
    next_agrees es e q = next_same s passes es e ∙ q ∙ sym (next_same t passes' es e)

    pub agree_taken : (es : Log) → Agree s t es → Agree s t (taken_of es)
    unfolding Agree taken_of
    agree_taken none a = tt
    agree_taken (es ▷ e) a =
        by_test (Agree s t) (eqb (number_after (taken_of es) e) taken) {x = taken_of es ▷ e} {y = taken_of es} (λ _. (agree_taken es a.0, next_agrees es e a.1))
        (λ _. agree_taken es a.0)

    pub starting_move : (es : Log) → Agree s t es → Starting s es → Starting t es
    unfolding Agree
    starting_move none a x = elim x [ ]
    starting_move (es ▷ e) a (starts n x i w) =
        let q = until_same (taken_of es) e (agree_taken es a.0, next_agrees es e a.1) in
        starts n x (λ y. i (y.0, subst (λ (k : ℕ). e.start.0 < k) (sym q) y.1)) (λ y. w (y.0, subst (λ (k : ℕ). k ≤ e.start.0) (sym q) y.1, y.2))
    starting_move (es ▷ e) a (goes_on z c f) =
        goes_on (starting_move es a.0 z) (subst (λ (rs : List Report). Not (Says connected_report rs)) a.1 c)
        (subst (λ (rs : List Report). Not (Says failed_report rs)) a.1 f)

  -- ---- a byte after events that were answered alike: what is said of it, by the reports of the bytes before it
  pub record Near (es : Log) (b : Event) (k : Talk) : Type 0 where
    pub held : held_in s es ≡ held_in t es
    pub reply : reply_once_ended s es b k ≡ reply_once_ended t es b k
    pub quick : of_quick_car k.pair ≡ true → held_in s (es ▷ b) ≡ held_in t (es ▷ b)

  -- where its event was answered alike too, ..
  pub near_agree : (es : Log) (b : Event) (k : Talk) → Agree s t (es ▷ b) → Near es b k
  unfolding Agree reply_once_ended
  near_agree es b k a = record {
    held = held_same es a.0;
    reply = λ i. if eqb (held_same es a.0 i) 0 then k.reply else
        if of_car k.pair && is_among frame_report (a.1 i) then reply_to (last_side (bytes_of (taken_of es))) else Never;
    quick = λ _. held_same (es ▷ b) a;
  }

  -- .. or its frames, and else no byte of a quick car is asked for, as in 14230
  pub reply_same : (es : Log) (b : Event) (k : Talk) → Agree s t es → is_among frame_report (reports_to s es b) ≡ is_among frame_report (reports_to t es b)
      → reply_once_ended s es b k ≡ reply_once_ended t es b k
  unfolding reply_once_ended
  reply_same es b k a f i =
      if eqb (held_same es a i) 0 then k.reply else if of_car k.pair && f i then reply_to (last_side (bytes_of (taken_of es))) else Never

  near_frame : (es : Log) (b : Event) (k : Talk) → Agree s t es → of_car k.pair ≡ false → Near es b k
  unfolding reply_once_ended
  near_frame es b k a n = record {
    held = held_same es a;
    reply = rw n (ap (λ (h : ℕ). if eqb h 0 then k.reply else Never) (held_same es a));
    quick = λ q. absurd (false≢true (sym n ∙ quick_car k.pair q));
  }

  -- P3 max passes alike
  abbrev IdleBy : Reply → Log → Event → Talk → Type 0
  IdleBy reply es b k =
      let gap = gap_before (taken_of es) b in
      (is_passed (in_force k).p3max gap ≡ true) × (reply ≡ First → is_passed (in_force k).p2max gap ≡ true)

  pub idle_over_lem : (es : Log) (b : Event) (k : Talk) → reply_once_ended s es b k ≡ reply_once_ended t es b k → IdleOver s es b k ≡ IdleOver t es b k
  idle_over_lem es b k q = ap (λ (r : Reply). IdleBy r es b k) q

  pub opens_move : (es : Log) (b : Event) (k : Talk) → Agree s t es → Near es b k → OpensIn s es b k → OpensIn t es b k
  opens_move es b k a near o = record {
    session = session_move es k a o.session;
    kind = o.kind;
    number = o.number;
    alone = ⊎_elim (λ z. inl (sym near.held ∙ z)) (⊎_elim (λ z. inr (inl z)) (λ z. inr (inr (z.0, z.1, sym (near.quick z.0) ∙ z.2)))) o.alone;
    lasts = subst (λ (X : Type 0). Not X) (idle_over_lem es b k near.reply) o.lasts;
  }

  abbrev reply_by : Reply → Log → Event → Talk → Reply
  reply_by reply es b k = if is_first reply && is_passed (in_force k).p2max (gap_before (taken_of es) b) then Never else reply

  pub early_same : (es : Log) (b : Event) (k : Talk) → Near es b k → EarlyAt s es b k ≡ EarlyAt t es b k
  unfolding reply_at
  early_same es b k near = ap (λ (r : Reply). Early k (reply_by r es b k) (gap_before (taken_of es) b) b) near.reply

  pub stray_same : (es : Log) (b : Event) (k : Talk) → Near es b k → StrayAt s es b k ≡ StrayAt t es b k
  unfolding reply_at
  stray_same es b k near = ap (λ (r : Reply). Stray k (reply_by r es b k) (gap_before (taken_of es) b) b) near.reply

  opens_message : (es : Log) (b : Event) (k : Talk) → Agree s t es → Near es b k → OpensMessage s k es b → OpensMessage t k es b
  opens_message es b k a near m = record {
    opens = opens_move es b k a near m.opens;
    timely = subst (λ (X : Type 0). Not X) (early_same es b k near) m.timely;
    expected = subst (λ (X : Type 0). Not X) (stray_same es b k near) m.expected;
  }

  pub speaks_move : (es : Log) (k : Talk) (b : Event) (bytes : List ℕ) → Agree s t es → Speaks s k b es bytes → Speaks t k b es bytes
  unfolding Agree
  speaks_move none k b bytes a x = elim x [ ]
  speaks_move (es ▷ e) k b bytes a (begins m) = begins (opens_message es e k a.0 (near_agree es e k a) m)
  speaks_move (es ▷ e) k b bytes a (refused z n) = refused (speaks_move es k b bytes a.0 z) n
  speaks_move (es ▷ e) k b bytes a (waits z n t i) = waits (speaks_move es k b bytes a.0 z) n t i
  speaks_move (es ▷ e) k b bytes a (grows {bytes = bs} z r n y d i) = grows (speaks_move es k b bs a.0 z) r n y d i

  -- after events that were answered alike, whatever is said of the next, on a 14230 link
  pub speaks_next : (es : Log) (e : Event) (k : Talk) (b : Event) (bytes : List ℕ) → Agree s t es → of_car k.pair ≡ false → Speaks s k b (es ▷ e) bytes
      → Speaks t k b (es ▷ e) bytes
  speaks_next es e k b bytes a c (begins m) = begins (opens_message es e k a (near_frame es e k a c) m)
  speaks_next es e k b bytes a c (refused z n) = refused (speaks_move es k b bytes a z) n
  speaks_next es e k b bytes a c (waits z n t i) = waits (speaks_move es k b bytes a z) n t i
  speaks_next es e k b bytes a c (grows {bytes = bs} z r n y d i) = grows (speaks_move es k b bs a z) r n y d i

  pub ends_move : (es : Log) (e : Event) (bytes : List ℕ) → Agree s t es → EndsInFrame s es e bytes → EndsInFrame t es e bytes
  ends_move es e bytes a x = record {
    talk = x.talk;
    first = x.first;
    number = x.number;
    frame = x.frame;
    ends = ⊎_elim
        (λ y. inl (speaks_next es e x.talk x.first bytes a (ends_frame x.talk.pair x.first.side bytes y.2).1 y.0, y.1, y.2))
        (λ y. inr (speaks_move es x.talk x.first bytes a y.0, y.1)) x.ends;
  }

  pub right_move : (es : Log) (e : Event) → Agree s t es → EndsRight s es e → EndsRight t es e
  right_move es e a x = record {
    talk = x.talk;
    first = x.first;
    bytes = x.bytes;
    message = speaks_move es x.talk x.first x.bytes a x.message;
    over = x.over;
    frame = x.frame;
  }

  pub interrupts_move : (es : Log) (e : Event) → Agree s t es → Interrupts s es e → Interrupts t es e
  interrupts_move es e a x = record {
    talk = x.talk;
    first = x.first;
    bytes = x.bytes;
    message = speaks_move es x.talk x.first x.bytes a x.message;
    cuts = x.cuts;
  }

  pub stop_move : (es : Log) (e : Event) (k : Talk) → Agree s t es → AnswersStop s k es e → AnswersStop t k es e
  unfolding ends_move
  stop_move es e k a x = record { bytes = x.bytes; ends = ends_move es e x.bytes a x.ends; unit = x.unit; stop = x.stop }
