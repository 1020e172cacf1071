-- The reasons of report 2, after any events from a fresh link: 3 and 4 by its first byte, and otherwise the reason that the bytes which it names give; where
-- they give none, a message was held, and is broken off or closed.
-- Assumes nothing.
use Prim.Native.Nat.{ℕ, ◌+◌, ◌-◌, ◌<◌}
use mathlib.Core.Bool.{Bool, true, false, ◌||◌, false≢true}
use mathlib.Core.List.{[], ◌++◌, append-nil, ◌∷◌}
use mathlib.Core.Path.{◌≡◌, refl, sym, ap, ap₂, ◌∙◌, subst, subst₂}
use mathlib.Core.Logic.{◌↔◌, inr, ◌⊎◌, inl}
use native.Mathlib.Omega.{arith}
use lib.ListN.{take, drop, length-drop}
use lib.Seq.{take_all, get_or-drop}
use Rattle.std.specs.Prelude.{if◌then◌else◌}
use Rattle.base.specs.Reports.{damage_report, no_reason, closed, early, stray}
use Rattle.units.specs.Units.{gap_of}
use Rattle.units.specs.declared.Micros.{Micros}
use Rattle.events.specs.declared.Kind.TheVariants.{Address, WakeUp, Tick, Drop, Other}
use Rattle.events.specs.declared.Event.{Event}
use Rattle.phases.specs.Phases.{is_held}
use Rattle.moves.specs.Moves.{loss_reason, is_silent}
use Rattle.reports.specs.declared.Report.{Report}
use Rattle.link.specs.declared.Link.{Link}
use Rattle.demands.specs.Logs.{values_of, Log, ◌▷◌, bytes_of, heard_in, taken_of, InBytes, more, last_side}
use Rattle.demands.specs.Refusals.{Not}
use Rattle.demands.specs.Histories.{after, reports_to, Among}
use Rattle.demands.specs.Sessions.{Talk, SomeSession, gap_before, Early, Stray, Turns}
use Rattle.demands.specs.Accounts.{bytes_named}
use Rattle.demands.specs.Editions.{reason_at_end, of_car, car_fault}
use Rattle.demands.specs.Damage.{reason_in, GoesBy, Damaged}
use Rattle.demands.proofs.Histories.Basics.{basics}
use Rattle.demands.proofs.Histories.BytesAsEvents.{talk_behind, values_drop, same_values, same_length}
use Rattle.demands.proofs.Damage.Faults.{reasons_agree}
use Rattle.demands.proofs.Histories.BytesHeard.{Bytes, heard_bytes}
use Rattle.demands.proofs.Sessions.SessionLasts.{Holds, reason_with, Opened, same_loss}
use Rattle.demands.proofs.Sessions.SessionEvent.{session_at}
use Rattle.demands.proofs.Sessions.FramesRead.{comes_in}
use Rattle.demands.proofs.Endings.DownsExactly.{same_gap}
use Rattle.demands.proofs.Sessions.OpeningByte.{EarlyBy, StrayBy, silent_is, Came, came, front_bytes}
use Rattle.demands.proofs.Sessions.CarMessages.{free_car, car_verdict, end_elsewhere}
use Rattle.demands.proofs.Moves.Causes.{false_of}
use Rattle.demands.proofs.Damage.DamageExactly.{held_why, Loses, damage_at}
use Rattle.demands.specs.Ours.{ours}
use Rattle.events.specs.Events.{is_byte}
use Rattle.events.specs.declared.Kind.TheVariants.{Byte}
use Rattle.talk.specs.Talk.{end_reason, is_free}
use Rattle.events.specs.declared.Kind.{Kind}
use Rattle.timing.specs.declared.Windows.{Windows}
use Rattle.talk.specs.declared.Reply.{Reply}

-- ---- a phase's reason, by its bytes and by whether 20 ms have passed or a byte has come
held_ended : (l : Link) (e : Event) → (20_000 < (gap_of l.mark e.start).0) ⊎ (e.kind ≡ Byte) → held_why l e ≡ end_reason l.phase.message
unfolding is_byte
held_ended l e (inl h) = rw ((silent_is (gap_of l.mark e.start)).1 h) refl
held_ended l e (inr k) = rw (ap is_byte k) (by_silence (is_silent (gap_of l.mark e.start)))
  where
    by_silence : (c : Bool) → (if c || true then end_reason l.phase.message else closed) ≡ end_reason l.phase.message
    by_silence true = refl
    by_silence false = refl

byte_is : (k : Kind) → is_byte k ≡ true → k ≡ Byte
unfolding is_byte
byte_is Address h = absurd (false≢true h)
byte_is WakeUp h = absurd (false≢true h)
byte_is Byte h = refl
byte_is Tick h = absurd (false≢true h)
byte_is Drop h = absurd (false≢true h)
byte_is Other h = absurd (false≢true h)

held_closed : (l : Link) (e : Event) → Not (20_000 < (gap_of l.mark e.start).0) → Not (e.kind ≡ Byte) → held_why l e ≡ closed
held_closed l e n k =
    let g = false_of (is_silent (gap_of l.mark e.start)) (λ s. n ((silent_is (gap_of l.mark e.start)).0 s)) in
    let b = false_of (is_byte e.kind) (λ z. k (byte_is e.kind z)) in
    rw (g, b) refl

goes_by : (l : Link) (e : Event) (k at_end : ℕ) (r : Report) → k ≡ reason_with l.phase [] → (is_held l.phase.state ≡ false → Not (l.phase.message.why ≡ no_reason))
    → (is_held l.phase.state ≡ true → end_reason l.phase.message ≡ at_end)
    → r.reason ≡ loss_reason l.phase (held_why l e) → GoesBy k at_end e (gap_of l.mark e.start) r
unfolding talk_behind loss_reason
goes_by l e k at_end r q n d x = by_state (is_held l.phase.state) refl q x
  where
    by_state : (c : Bool) → is_held l.phase.state ≡ c → k ≡ (if c then no_reason else l.phase.message.why)
        → r.reason ≡ (if c then held_why l e else l.phase.message.why) → GoesBy k at_end e (gap_of l.mark e.start) r
    by_state true s q x = record {
      wrong = λ z. absurd (z q);
      ended = λ _ h. x ∙ held_ended l e h ∙ d s;
      closed = λ _ h b. x ∙ held_closed l e h b;
    }
    by_state false s q x = record { wrong = λ _. x ∙ sym q; ended = λ z. absurd (n s (sym q ∙ z)); closed = λ z. absurd (n s (sym q ∙ z)) }

-- ---- a report 2 of an event
module _ (es : Log) (e : Event) (r : Report) (i : InBytes (es ▷ e)) (a : Among r (reports_to ours es e)) (n : r.number ≡ damage_report) where
  abbrev l : Link
  l = (after ours es).link

  abbrev gap : Micros
  gap = gap_of l.mark e.start

  front : InBytes es
  unfolding InBytes
  front = i.0

  inside : SomeSession ours es
  inside = comes_in es e r i a (inr n)

  abbrev t : Talk
  t = inside.talk

  lost : Loses l e r
  lost = damage_at es e r a n

  opened : Opened es t l.phase l.named
  opened = (session_at front inside.session).opened lost.open_there

  opens : Came opened.before opened.byte t
  opens = came opened.before opened.byte t (front_bytes opened.begins front) opened.first

  abbrev first_gap : Micros
  first_gap = gap_before (taken_of opened.before) opened.byte

  -- a message that is held
  elsewhere : is_held l.phase.state ≡ true → (end_reason l.phase.message ≡ early → ⊥) × (end_reason l.phase.message ≡ stray → ⊥)
  elsewhere h =
      let x = opened.held h in
      end_elsewhere l.phase.start.pair opened.byte.side x.head x.rest l.phase.message x.gone

  -- its reason is 3 or 4 exactly if the phase has it
  held_not : (k : ℕ) → (is_held l.phase.state ≡ true → end_reason l.phase.message ≡ k → ⊥) → (closed ≡ k → ⊥) → is_held l.phase.state ≡ true → held_why l e ≡ k → ⊥
  held_not k f g h = by_why (is_silent gap || is_byte e.kind)
    where
      by_why : (c : Bool) → (if c then end_reason l.phase.message else closed) ≡ k → ⊥
      by_why true q = f h q
      by_why false q = g q

  same_reason : (k : ℕ) → (is_held l.phase.state ≡ true → end_reason l.phase.message ≡ k → ⊥) → (closed ≡ k → ⊥) → (no_reason ≡ k → ⊥)
      → ((r.number ≡ damage_report) × (r.reason ≡ k)) ↔ (loss_reason l.phase no_reason ≡ k)
  same_reason k f g h =
      let x = same_loss es e [] l.phase (held_why l e) k (held_not k f g) h in
      (λ q. x.0 (sym lost.reason ∙ q.1), λ q. (n, lost.reason ∙ x.1 q))

  turns : Turns ours (es ▷ e) r
  turns =
      let f = same_reason early (λ h. (elsewhere h).0) (λ z. omega arith) (λ z. omega arith) in
      let g = same_reason stray (λ h. (elsewhere h).1) (λ z. omega arith) (λ z. omega arith) in
      let b = opened.byte in
      record {
        first = record {
          before = opened.before;
          byte = b;
          talk = opens.talk;
          begins = more opened.begins;
          opens = opens.opens;
          index = opened.index ∙ sym lost.index;
        };
        early = subst₂ (λ (w : Windows) (k : Reply). ((r.number ≡ damage_report) × (r.reason ≡ early)) ↔ EarlyBy w k first_gap b) opens.alike.windows opens.reply
            (λ q. opened.hasty.0 (f.0 q), λ q. f.1 (opened.hasty.1 q));
        stray = subst₂ (λ (w : Windows) (k : Reply). ((r.number ≡ damage_report) × (r.reason ≡ stray)) ↔ StrayBy w k first_gap b) opens.alike.windows opens.reply
            (λ q. opened.astray.0 (g.0 q), λ q. g.1 (opened.astray.1 q));
      }

  -- the bytes that it names are those that are open
  names : bytes_named (bytes_of (taken_of es)) r ≡ drop l.named (bytes_of (taken_of es)) ++ []
  unfolding bytes_named
  names =
      let heard = bytes_of (taken_of es) in
      let size = same_length (taken_of es) in
      let rest = length-drop l.named heard in
      let b = (basics es).heard in
      ap₂ (λ (x y : ℕ). take x (drop y heard)) lost.size lost.index ∙ take_all (l.heard - l.named) (drop l.named heard) (omega arith)
      ∙ sym (append-nil (drop l.named heard))

  -- and so they are bytes, and give the reason that crates/talk's rules give
  named_bytes : Bytes (values_of (drop l.named (bytes_of (taken_of es)) ++ []))
  named_bytes k =
      rw (append-nil (drop l.named (bytes_of (taken_of es))), values_drop l.named (bytes_of (taken_of es)), same_values (taken_of es))
      (rw (get_or-drop l.named (heard_in es) k 0) (heard_bytes es front (l.named + k)))

  reason_of : Not (Early t t.reply first_gap opened.byte) → Not (Stray t t.reply first_gap opened.byte)
      → reason_in opens.talk.pair (bytes_named (bytes_of (taken_of es)) r) ≡ reason_with l.phase []
  reason_of f g =
      ap₂ reason_in (sym opens.alike.pair) names
      ∙ sym (reasons_agree t.pair (drop l.named (bytes_of (taken_of es)) ++ []) named_bytes) ∙ opened.reasoned f g []

  -- and a message that ends gets the reason that its bytes give then
  end_of : is_held l.phase.state ≡ true → end_reason l.phase.message ≡ reason_at_end opens.talk.pair (bytes_named (bytes_of (taken_of es)) r)
  unfolding reason_at_end end_reason
  end_of h = by_car (of_car t.pair) refl
    where
      x : Holds es t opened.byte l.phase l.named
      x = opened.held h

      own : l.phase.start.pair ≡ t.pair
      own = (session_at front inside.session).fits.pair

      pairs : opens.talk.pair ≡ t.pair
      pairs = sym opens.alike.pair

      named_values : values_of (bytes_named (bytes_of (taken_of es)) r) ≡ x.head ∷ x.rest
      named_values =
          ap values_of (names ∙ append-nil (drop l.named (bytes_of (taken_of es))))
          ∙ values_drop l.named (bytes_of (taken_of es)) ∙ ap (drop l.named) (same_values (taken_of es)) ∙ x.bytes

      named_side : last_side (bytes_named (bytes_of (taken_of es)) r) ≡ opened.byte.side
      named_side = ap last_side (names ∙ append-nil (drop l.named (bytes_of (taken_of es)))) ∙ x.last

      by_car : (c : Bool) → of_car t.pair ≡ c → end_reason l.phase.message ≡ reason_at_end opens.talk.pair (bytes_named (bytes_of (taken_of es)) r)
      by_car true c =
          car_verdict l.phase.start.pair opened.byte.side x.head x.rest l.phase.message x.gone (ap of_car own ∙ c)
          ∙ sym (rw (ap of_car pairs ∙ c) (λ j. car_fault (named_side j) (named_values j)))
      by_car false c =
          let n = false_of (is_free l.phase.message.part)
          (λ f. false≢true (sym c ∙ (sym (ap of_car own) ∙ free_car l.phase.start.pair opened.byte.side opened.byte.side x.head x.rest l.phase.message x.gone f))) in
          rw n (sym (rw (ap of_car pairs ∙ c) refl))

  reasons : Damaged ours es e r
  unfolding turns
  reasons = record {
    turns = turns;
    otherwise = λ f g.
        let bytes = bytes_named (bytes_of (taken_of es)) r in
        subst (λ (x : Micros). GoesBy (reason_in opens.talk.pair bytes) (reason_at_end opens.talk.pair bytes) e x r) (same_gap es e t front inside.session)
        (goes_by l e _ _ r
        (reason_of (λ q. f (subst₂ (λ (w : Windows) (k : Reply). EarlyBy w k first_gap opened.byte) opens.alike.windows opens.reply q))
        (λ q. g (subst₂ (λ (w : Windows) (k : Reply). StrayBy w k first_gap opened.byte) opens.alike.windows opens.reply q)))
        opened.against end_of lost.reason);
  }

-- WHY BYTES ARE DAMAGE
pub damage_reasons : (es : Log) (e : Event) (r : Report) → InBytes (es ▷ e) → Among r (reports_to ours es e) → r.number ≡ damage_report
    → Damaged ours es e r
damage_reasons es e r i a n = reasons es e r i a n
