-- WHY AN EVENT MAKES A REPORT, on any link: told by the phase that it finds and by the event, every report has a cause (`cause_each`), and every cause makes its
-- report (`..-made`). And where an event leads: to an initialization only as `Leads` says (`leads`), to a connected link only from one, or by the byte that
-- completes an initialization (`rises`). All of it is one invariant of an event's moments (`J`) that each rule keeps.
-- Assumes nothing.
use Prim.Native.Nat.{ℕ, ◌<◌}
use mathlib.Core.Bool.{Bool, true, false, not, false≢true}
use mathlib.Core.List.{List, ◌++◌}
use mathlib.Core.Path.{◌≡◌, refl, sym, ap, ◌∙◌, subst}
use mathlib.Core.Logic.{◌⊎◌, inl, inr}
use native.Mathlib.Omega.{arith}
use borrow.Author.Tests.{eqb-true, eq-eqb}
use lib.Dec.{eqb}
use Rattle.base.specs.Reports.{frame_report, damage_report, connected_report, failed_report, outside_report, no_reply_report, down_report, not_idle_report}
use Rattle.base.specs.Reports.{no_reason, closed, window_over, wrong_low, wrong_side, too_early, misfit, stopped, idle_over, dropped, restarted}
use Rattle.base.proofs.Tests.{by_test}
use Rattle.units.specs.Units.{micros, gap_of}
use Rattle.units.specs.declared.Micros.{Micros}
use Rattle.events.specs.Events.{is_tester, is_byte}
use Rattle.events.specs.declared.Kind.{Kind}
use Rattle.events.specs.declared.Kind.TheVariants.{Address, WakeUp, Byte, Tick, Drop, Other}
use Rattle.events.specs.declared.Event.{Event}
use Rattle.starts.specs.Starts.{fits, is_from, is_early, judged, is_over, is_last, onward}
use Rattle.talk.specs.Talk.{end_reason, is_sum, is_stopped}
use Rattle.phases.specs.Phases.{is_starting, is_quiet, is_open, is_connected, down, off, starting, connected, talking, holding, damaged, settled, timed, asked, answered, framed}
use Rattle.phases.specs.declared.State.TheVariants.{Quiet, Held}
use Rattle.phases.specs.declared.Phase.{Phase}
use Rattle.phases.proofs.StateTests.{is_starting_lem, is_quiet_lem, open_connected, quiet_connected, open_or_quiet, never_starting, quiet_is, held_is, starting_is}
use Rattle.moves.specs.Moves.{makes, loss_reason, is_right, is_silent, is_cut_in, since_origin, is_idle, is_good_low}
use Rattle.moves.specs.declared.Move.{Move}
use Rattle.moves.proofs.Rules.{Moment, at_silence, at_p2, at_p3, at_window, at_closing, at_leaving, at_start, at_cut, at_hearing, at_byte, at_stop, at_end_lem, next}
use Rattle.moves.proofs.Rules.{Closes, by_drop, by_address, by_wake_up, Rule, rests, ends_right, breaks_off, cuts_off, aborts, leaves, drops, starts_slow, starts_fast, hurries, low}
use Rattle.moves.proofs.Rules.{cut_right, cut_wrong, cut_held, strays, misses, connects, goes_on, opens, errs, breaks, frames, grows, stops, one_move}
use Rattle.reports.specs.declared.Report.{Report}
use Rattle.reports.specs.Reporting.{moved}
use Rattle.reports.specs.declared.Run.{Run}
use Rattle.link.specs.Handling.{passed, begun, handled}
use Rattle.link.specs.declared.Link.{Link}
use Rattle.link.specs.Telling.{tells, handled_tells}
use Rattle.link.proofs.Walk.{moved_phase, Reached, Here, time_walk_by, event_walk_by}
use Rattle.link.proofs.Long.{Long}
use Rattle.demands.specs.Histories.{Tells}
use Rattle.demands.specs.Endings.{Starter}
use Rattle.demands.proofs.Histories.Holding.{framed_quiet}
use Rattle.demands.proofs.Moves.ReportsInList.{each_none, each_both, tells_left, tells_right, move_tells, EachOf, Makes, silent, move_each}
use Rattle.demands.proofs.Moves.Entering.{In, Open, judges, Completes, judging, has_idled, Leads, begins_slow, begins_fast, waits}
use Rattle.demands.proofs.Moves.Entering.{grows as goes_further}
use Rattle.demands.proofs.Moves.TimePasses.{Waited, Idled, Over, Lasts, First, found, Second, Third, Fourth, Left, IsDown, due_second, due_third, due_fourth, idled_up}
use Rattle.demands.proofs.Moves.TimePasses.{Come, uncut, cut, up_come, in_come, down_come, open_come, still_in_come, is_down_come}
use Rattle.demands.proofs.Moves.TimePasses.{first_rule, second_rule, third_rule, fourth_rule, in_left, still_in, up_left, open_left, still_up, still_open}

-- ---- kinds apart
-- A, W or D
abbrev pub Closer : Event → Type 0
Closer e = Starter e ⊎ (e.kind ≡ Drop)

abbrev pub is_closer : Kind → Bool
is_closer Address = true
is_closer WakeUp = true
is_closer Byte = false
is_closer Tick = false
is_closer Drop = true
is_closer Other = false

pub no_closer : (e : Event) (k : Kind) → is_closer k ≡ false → e.kind ≡ k → Closer e → ⊥
no_closer e k x p (inl (inl q)) = false≢true (sym x ∙ (sym (ap is_closer p) ∙ ap is_closer q))
no_closer e k x p (inl (inr q)) = false≢true (sym x ∙ (sym (ap is_closer p) ∙ ap is_closer q))
no_closer e k x p (inr q) = false≢true (sym x ∙ (sym (ap is_closer p) ∙ ap is_closer q))

pub no_byte : (e : Event) (k : Kind) → is_byte k ≡ false → e.kind ≡ k → e.kind ≡ Byte → ⊥
unfolding is_byte
no_byte e k x p q = false≢true (sym x ∙ (sym (ap is_byte p) ∙ ap is_byte q))

pub drop_starts : (e : Event) → e.kind ≡ Drop → Starter e → ⊥
drop_starts e d (inl a) = let z : ◌≡◌ {A = ℕ} 0 1 = cc in omega arith
drop_starts e d (inr a) = let z : ◌≡◌ {A = ℕ} 0 1 = cc in omega arith

-- ---- tests
pub false_of : (b : Bool) → (b ≡ true → ⊥) → b ≡ false
false_of true n = absurd (n refl)
false_of false n = refl

abbrev When : Bool → Type 0 → Type 0 → Type 0
When true A B = A
When false A B = B

framed_apart : (p : Phase) → is_starting (framed p).state ≡ false
unfolding framed asked answered timed talking is_starting
framed_apart p =
    by_test (λ (q : Phase). is_starting q.state ≡ false) (is_tester p.message.side) {x = asked p} {y = answered p} (λ _. refl) (λ _. refl)

module _ (l : Link) (e : Event) where
  abbrev p : Phase
  p = l.phase

  abbrev gap : Micros
  gap = gap_of l.mark e.start

  abbrev Up : Phase → Type 0
  Up q = is_connected q.state ≡ true

  abbrev RanOut : Type 0
  RanOut = Over p l.mark e.start

  -- ---- THE CAUSES
  -- of a report 4, by its reason; a byte that fails gives the greater ones
  pub data Fails : ℕ → Type 0 where
    runs_out : RanOut → Fails window_over
    closes : In p → (RanOut → ⊥) → Closer e → Fails closed
    falls_short : e.kind ≡ WakeUp → has_idled l e ≡ true → is_good_low e.start e.end ≡ false → Fails wrong_low
    wrong : In p → (RanOut → ⊥) → e.kind ≡ Byte → wrong_low < judges l e p → Fails (judges l e p)

  pub of_over : {k : ℕ} → Fails k → k ≡ window_over → RanOut
  of_over (runs_out o) z = o
  of_over (closes i o c) z = absurd (omega arith)
  of_over (falls_short w i g) z = absurd (omega arith)
  of_over (wrong i o b h) z = absurd (omega arith)

  pub of_closed : {k : ℕ} → Fails k → k ≡ closed → In p × (RanOut → ⊥) × Closer e
  of_closed (runs_out o) z = absurd (omega arith)
  of_closed (closes i o c) z = (i, o, c)
  of_closed (falls_short w i g) z = absurd (omega arith)
  of_closed (wrong i o b h) z = absurd (omega arith)

  pub of_low : {k : ℕ} → Fails k → k ≡ wrong_low → (e.kind ≡ WakeUp) × (has_idled l e ≡ true) × (is_good_low e.start e.end ≡ false)
  of_low (runs_out o) z = absurd (omega arith)
  of_low (closes i o c) z = absurd (omega arith)
  of_low (falls_short w i g) z = (w, i, g)
  of_low (wrong i o b h) z = absurd (omega arith)

  -- of a report 1: a message that was right as it ended, by silence or by a byte that cuts in, or one whose checksum comes
  pub data FrameBy : Type 0 where
    by_gap : p.state ≡ Held → eqb (end_reason p.message) no_reason ≡ true → is_silent gap ≡ true → FrameBy
    by_cut : eqb (end_reason p.message) no_reason ≡ true → is_cut_in p e.side ≡ true → is_silent gap ≡ false → e.kind ≡ Byte → FrameBy
    by_sum : p.state ≡ Held → is_sum p.message.part ≡ true → is_silent gap ≡ false → e.kind ≡ Byte → FrameBy

  -- of a report 7, by its reason, on a connected link
  abbrev pub DownFor : ℕ → Type 0
  DownFor k =
      When (eqb k stopped) (Unit {0})
      (When (eqb k idle_over) (Idled p gap)
      (When (eqb k dropped) (Lasts l.mark e p × (e.kind ≡ Drop))
      (When (eqb k restarted) (Lasts l.mark e p × Starter e) ⊥)))

  -- of any, by its number
  abbrev pub Cause : ℕ → ℕ → Type 0
  Cause n k =
      When (eqb n frame_report) (Up p × FrameBy)
      (When (eqb n damage_report) (Up p)
      (When (eqb n connected_report) (Completes l e)
      (When (eqb n failed_report) (Fails k)
      (When (eqb n outside_report) (IsDown l.mark e p × (e.kind ≡ Byte))
      (When (eqb n no_reply_report) (Waited p gap)
      (When (eqb n down_report) (Up p × DownFor k)
      (When (eqb n not_idle_report) (Starter e × (has_idled l e ≡ false)) ⊥)))))))

  -- ---- WHAT HOLDS AT EACH MOMENT of the phase q that the link has come to
  -- what was open is closed: what is connected was so before
  record Shut (q : Phase) : Type 0 where
    out : In q → ⊥
    shut : is_open q.state ≡ false
    up : Up q → Up p × Lasts l.mark e p
    quiet : Up p → (Idled p gap → ⊥) → is_quiet q.state ≡ true

  abbrev IsOff : Phase → Type 0
  IsOff q = (In q → ⊥) × (Up q → ⊥)

  abbrev After : Phase → Type 0
  After q = (In q → Leads l e q) × (Up q → Up p ⊎ Completes l e)

  record Heard (q : Phase) : Type 0 where
    after : After q
    stops_up : q.state ≡ Quiet → is_stopped q.request ≡ true → Up p

  abbrev J : Moment → Phase → Type 0
  J at_silence q = First l.mark e p q
  J at_p2 q = Second l.mark e p q
  J at_p3 q = Third l.mark e p q
  J at_window q = Fourth l.mark e p q
  J at_closing q = Left l.mark e p q
  J at_leaving q = Shut q
  J at_start q = IsOff q
  J at_cut q = Left l.mark e p q
  J at_hearing q = Come l.mark e p q
  J at_byte q = Come l.mark e p q
  J at_stop q = Heard q
  J at_end_lem q = After q

  abbrev At : Moment → Phase → Move → Type 0
  At k q m = Rule l.mark e q k m

  -- ---- EACH RULE KEEPS IT, and its report has its cause
  closing_rule : (q : Phase) (m : Move) → Closer e → Left l.mark e p q → At at_closing q m → Shut m.phase × Makes Cause m
  unfolding down settled talking is_starting is_open is_connected is_quiet
  closing_rule q m c j (rests u) = (
    record { out = λ i. false≢true (sym u.1 ∙ i); shut = u.0; up = up_left _ e p j; quiet = λ a n. open_or_quiet q.state (still_up _ e p j a n) u.0 },
    silent Cause q,
  )
  closing_rule q m c j (cuts_off o) =
      let a = up_left _ e p j (open_connected q.state o) in
      (record { out = λ i. false≢true i; shut = refl; up = λ _. a; quiet = λ _ _. refl }, λ _. a.0)
  closing_rule q m c j (aborts s) =
      let x = in_left _ e p j (starting_is s) in (
        record {
          out = λ i. false≢true i;
          shut = refl;
          up = λ a. absurd (false≢true a);
          quiet = λ a n. absurd (never_starting q.state (still_up _ e p j a n) (starting_is s));
        },
        λ _. closes x.1 x.2 c,
      )

  downs_by : {reason : ℕ} → Closes e reason → Lasts l.mark e p → DownFor reason
  downs_by (by_drop k) n = (n, k)
  downs_by (by_address k) n = (n, inl k)
  downs_by (by_wake_up k) n = (n, inr k)

  leaving_rule : (q : Phase) (m : Move) → Shut q → At at_leaving q m → IsOff m.phase × Makes Cause m
  unfolding down is_starting is_connected
  leaving_rule q m j (rests u) = ((j.out, λ a. false≢true (sym u.0 ∙ open_or_quiet q.state a j.shut)), silent Cause q)
  leaving_rule q m j (leaves c k) =
      let x = j.up (quiet_connected q.state (quiet_is k)) in
      ((λ i. false≢true i, λ a. false≢true a), λ _. (x.0, downs_by c x.1))
  leaving_rule q m j (drops d k) = ((λ i. false≢true i, λ a. false≢true a), silent Cause m.phase)

  -- what is asked of the idle time of a start, by the phase that it finds
  found_idle : {q : Phase} {b : Bool} → q ≡ judging l e → is_idle q.idle l.mark e.start ≡ b → has_idled l e ≡ b
  found_idle h i = sym (ap (λ (x : Phase). is_idle x.idle l.mark e.start) h) ∙ i

  idle_found : {q : Phase} {b : Bool} → q ≡ judging l e → has_idled l e ≡ b → is_idle q.idle l.mark e.start ≡ b
  idle_found h i = ap (λ (x : Phase). is_idle x.idle l.mark e.start) h ∙ i

  start_rule : (q : Phase) (m : Move) → q ≡ judging l e → At at_start q m → After m.phase × Makes Cause m
  unfolding down starting is_starting is_connected
  start_rule q m h (rests u) = absurd u
  start_rule q m h (starts_slow k i) = ((λ _. begins_slow k (found_idle h i), λ a. absurd (false≢true a)), silent Cause m.phase)
  start_rule q m h (starts_fast k i g) = ((λ _. begins_fast k (found_idle h i) g, λ a. absurd (false≢true a)), silent Cause m.phase)
  start_rule q m h (hurries s i) = ((λ a. absurd (false≢true a), λ a. absurd (false≢true a)), λ _. (s, found_idle h i))
  start_rule q m h (low k i g) = ((λ a. absurd (false≢true a), λ a. absurd (false≢true a)), λ _. falls_short k (found_idle h i) g)

  -- a byte that fails its initialization does so for a reason of its own
  judged_above : (q : Phase) → eqb (judges l e q) no_reason ≡ false → wrong_low < judges l e q
  unfolding judged
  judged_above q =
      let s = q.start in
      let P : ℕ → Type 0 = λ k. eqb k no_reason ≡ false → wrong_low < k in
      by_test P (not (is_from s e.side)) {x = wrong_side} (λ _ _. omega arith)
      (λ _. by_test P (is_early s (since_origin q l.mark e.start)) {x = too_early} (λ _ _. omega arith)
      (λ _. by_test P (fits s e.value) {x = no_reason} {y = misfit} (λ _ z. absurd (false≢true (sym z))) (λ _ _. omega arith)))

  open_window : (RanOut → ⊥) → In p → Open p l.mark e.start
  open_window n i = false_of (is_over p.start (since_origin p l.mark e.start)) (λ o. n (i, o))

  heard_off : (idle : Micros) → Heard (down idle)
  unfolding down is_starting is_connected is_quiet
  heard_off idle = record { after = (λ i. absurd (false≢true i), λ a. absurd (false≢true a)); stops_up = λ q _. absurd (false≢true (ap is_quiet q)) }

  heard_up : (q : Phase) → is_starting q.state ≡ false → Up p → Heard q
  heard_up q s u = record { after = (λ i. absurd (false≢true (sym s ∙ i)), λ _. inl u); stops_up = λ _ _. u }

  -- a byte that cuts in ends what was held, of a link that was connected
  cut_rule : (q : Phase) (m : Move) → e.kind ≡ Byte → Left l.mark e p q → At at_cut q m → Come l.mark e p m.phase × Makes Cause m
  unfolding settled talking is_quiet
  cut_rule q m k j (rests u) = (uncut j, silent Cause q)
  cut_rule q m k j (cut_right c r) =
      let o = (held_is (cut_held l.mark e q c)).1 in
      let x = up_left _ e p j (open_connected q.state o) in
      let y = open_left _ e p j o in
      let by : FrameBy = by_cut (sym (ap (λ (z : Phase). eqb (end_reason z.message) no_reason) y.0) ∙ r) (sym (ap (λ (z : Phase). is_cut_in z e.side) y.0) ∙ c) y.1 k in
      (cut x.0 x.1 (ap is_quiet (framed_quiet q)), λ _. (x.0, by))
  cut_rule q m k j (cut_wrong c r) =
      let x = up_left _ e p j (open_connected q.state (held_is (cut_held l.mark e q c)).1) in
      (cut x.0 x.1 refl, λ _. x.0)

  byte_rule : (q : Phase) (m : Move) → e.kind ≡ Byte → Come l.mark e p q → At at_byte q m → Heard m.phase × Makes Cause m
  unfolding starting connected talking holding damaged is_starting is_connected is_quiet is_stopped
  byte_rule q m k j (rests d) = (heard_up q (ap is_starting d) (up_come _ e p j (ap is_connected d)).0, silent Cause q)
  byte_rule q m k j (strays d) = (heard_off q.idle, λ _. (down_come _ e p j d, k))
  byte_rule q m k j (misses s v) =
      let x = in_come _ e p j (starting_is s) in (
        heard_off _,
        λ _. subst (λ (y : Phase). eqb (judges l e y) no_reason ≡ false → Fails (judges l e y)) (sym x.0)
            (λ z. wrong x.1 x.2 k (judged_above p z)) v,
      )
  byte_rule q m k j (connects s v z) =
      let x = in_come _ e p j (starting_is s) in
      let c : Completes l e = record {
        byte = k;
        was = x.1;
        window = open_window x.2 x.1;
        right = sym (ap (judges l e) x.0) ∙ eqb-true (judges l e q) no_reason v;
        last = sym (ap (λ (y : Phase). is_last y.start.stage) x.0) ∙ z;
      } in
      (record { after = (λ i. absurd (false≢true i), λ _. inr c); stops_up = λ _ r. absurd (false≢true r) }, λ _. c)
  byte_rule q m k j (goes_on s v z) =
      let x = in_come _ e p j (starting_is s) in
      let g = goes_further k x.1 (open_window x.2 x.1) (sym (ap (judges l e) x.0) ∙ eqb-true (judges l e q) no_reason v)
      (sym (ap (λ (y : Phase). is_last y.start.stage) x.0) ∙ z) in (
        record {
          after = (
            λ _. subst (λ (y : Phase). Leads l e (starting y.fall (onward y.start e.value))) (sym x.0) g,
            λ a. absurd (false≢true a),
          );
          stops_up = λ b _. absurd (false≢true (ap is_quiet b));
        },
        silent Cause m.phase,
      )
  byte_rule q m k j (opens h r) = (heard_up m.phase refl (up_come _ e p j (ap is_connected h)).0, silent Cause m.phase)
  byte_rule q m k j (errs h r) = (heard_up m.phase refl (up_come _ e p j (ap is_connected h)).0, silent Cause m.phase)
  byte_rule q m k j (breaks h r) = (heard_up m.phase refl (up_come _ e p j (ap is_connected h)).0, silent Cause m.phase)
  byte_rule q m k j (grows h r z) = (heard_up m.phase refl (up_come _ e p j (ap is_connected h)).0, silent Cause m.phase)
  byte_rule q m k j (frames h r z) =
      let u = (up_come _ e p j (ap is_connected h)).0 in
      let y = open_come _ e p j (held_is h).1 in
      let by : FrameBy = by_sum (sym (ap (λ (x : Phase). x.state) y.0) ∙ h) (sym (ap (λ (x : Phase). is_sum x.message.part) y.0) ∙ z) y.1 k in
      (heard_up m.phase (framed_apart q) u, λ _. (u, by))

  stop_rule : (q : Phase) (m : Move) → Heard q → At at_stop q m → After m.phase × Makes Cause m
  unfolding down is_starting is_connected
  stop_rule q m j (rests u) = (j.after, silent Cause q)
  stop_rule q m j (stops h r) = ((λ i. absurd (false≢true i), λ a. absurd (false≢true a)), λ _. (j.stops_up h r, tt))

  abbrev Found : Moment → Phase → Type 0
  Found k q = Here (passed (begun l e) l.mark e.start) k q

  rule : (k : Moment) → Reached e k → (q : Phase) → Found k q → (m : Move) → At k q m → J k q → J (next k) m.phase × Makes Cause m
  unfolding next
  rule at_silence w q h m u j =
      first_rule _ e p Cause (λ o k. open_connected p.state o) (λ x s r. (open_connected p.state (held_is x).1, by_gap x r s)) q m j u
  rule at_p2 w q h m u j = second_rule _ e p Cause (λ x. x) q m j u
  rule at_p3 w q h m u j = third_rule _ e p Cause (λ i. (idled_up _ e p i, i)) q m j u
  rule at_window w q h m u j = fourth_rule _ e p Cause runs_out q m j u
  rule at_closing w q h m u j = closing_rule q m w j u
  rule at_leaving w q h m u j = leaving_rule q m j u
  rule at_start w q h m u j = start_rule q m h u
  rule at_cut w q h m u j = cut_rule q m w j u
  rule at_hearing w q h m (rests u) j = absurd u
  rule at_byte w q h m u j = byte_rule q m w j u
  rule at_stop w q h m u j = stop_rule q m j u
  rule at_end_lem w q h m (rests u) j = absurd u

  -- a drop ends when all is closed, a tick when time has passed
  leaves_on : (q : Phase) → IsOff q → After q
  leaves_on q o = (λ i. absurd (o.0 i), λ a. absurd (o.1 a))

  ends_on : (e.kind ≡ Tick) ⊎ (e.kind ≡ Other) → (q : Phase) → Left l.mark e p q → After q
  ends_on k q j = (
    λ i.
        let x = in_left _ e p j i in
        subst (Leads l e) (sym x.0) (waits k x.1 (open_window x.2 x.1)),
    λ a. inl (up_left _ e p j a).0,
  )

  -- ---- AN EVENT
  abbrev I : Moment → Run → List Report → Type 0
  I k r xs = J k r.phase × EachOf Cause xs

  keeps : (k : Moment) (r : Run) (m : Move) → J (next k) m.phase → J (next k) (moved r m).phase
  keeps k r m j = subst (J (next k)) (sym (moved_phase r m)) j

  moves : (k : Moment) → Reached e k → (r : Run) → Found k r.phase → (xs : List Report) (m : Move) → At k r.phase m → I k r xs
      → I (next k) (moved r m) (xs ++ tells r m)
  moves k w r h xs m u i =
      let x = rule k w r.phase h m u i.0 in
      (keeps k r m x.0, each_both (λ (y : Report). Cause y.number y.reason) xs (tells r m) i.1 (move_each Cause r m x.1))

  whole : I at_end_lem (handled l e) (handled_tells l e)
  unfolding handled handled_tells begun
  whole =
      event_walk_by l.mark e (begun l e) I moves (λ _ r xs i. i) (λ _ r xs i. i) (λ _ r xs i. (leaves_on r.phase i.0, i.1))
      (λ k r xs i. (ends_on k r.phase i.0, i.1)) (found, each_none (λ (y : Report). Cause y.number y.reason))

  -- EACH OF ITS REPORTS HAS A CAUSE
  pub cause_each : EachOf Cause (handled_tells l e)
  cause_each = whole.1

  -- WHERE IT LEADS
  pub leads : In (handled l e).phase → Leads l e (handled l e).phase
  leads = whole.0.0

  pub rises : is_connected (handled l e).phase.state ≡ true → (is_connected l.phase.state ≡ true) ⊎ Completes l e
  rises = whole.0.1

  -- what time leaves
  pub left : Left l.mark e l.phase (passed (begun l e) l.mark e.start).phase
  unfolding begun
  left = (time_walk_by l.mark e (begun l e) I moves (found, each_none (λ (y : Report). Cause y.number y.reason))).0

  -- ---- THE CAUSES MAKE THEIR REPORTS
  -- a report that is to come: now, by a rule, or at a later moment
  data Due (n s : ℕ) : Moment → Type 0 where
    now : {k : Moment} → Reached e k → (to : Phase → Phase) → ((q : Phase) → Found k q → J k q → At k q (makes n s (to q))) → Due n s k
    later : {k : Moment} → Reached e k → Due n s (next k) → Due n s k
    comes : e.kind ≡ Byte → Due n s at_cut → Due n s at_closing
    hears : Due n s at_byte → Due n s at_hearing

  module _ (n s : ℕ) (some : eqb n 0 ≡ false) where
    abbrev Made : Moment → Run → List Report → Type 0
    Made k r xs = J k r.phase × (Due n s k ⊎ Tells n s xs)

    none_heard : (q : Phase) (m : Move) → At at_hearing q m → ⊥
    none_heard q m (rests u) = u

    on : (k : Moment) → Reached e k → (r : Run) → Found k r.phase → (xs : List Report) (m : Move) → At k r.phase m → J k r.phase → Due n s k ⊎ Tells n s xs
        → Due n s (next k) ⊎ Tells n s (xs ++ tells r m)
    on k w r h xs m u j (inl (now v to f)) =
        inr (tells_right n s xs (tells r m) (move_tells r m n s (to r.phase) some (one_move _ e r.phase u (f r.phase h j))))
    on k w r h xs m u j (inl (later v d)) = inl d
    on k w r h xs m u j (inl (comes b d)) = absurd (no_closer e Byte refl b w)
    on k w r h xs m u j (inl (hears d)) = absurd (none_heard r.phase m u)
    on k w r h xs m u j (inr t) = inr (tells_left n s xs (tells r m) t)

    on_comes : e.kind ≡ Byte → (xs : List Report) → Due n s at_closing ⊎ Tells n s xs → Due n s at_cut ⊎ Tells n s xs
    on_comes b xs (inl (now v to f)) = absurd (no_closer e Byte refl b v)
    on_comes b xs (inl (later v d)) = absurd (no_closer e Byte refl b v)
    on_comes b xs (inl (comes _ d)) = inl d
    on_comes b xs (inr t) = inr t

    on_hears : (q : Phase) → J at_hearing q → (xs : List Report) → Due n s at_hearing ⊎ Tells n s xs → Due n s at_byte ⊎ Tells n s xs
    unfolding next
    on_hears q j xs (inl (now v to f)) = absurd (none_heard q (makes n s (to q)) (f q tt j))
    on_hears q j xs (inl (later v d)) = inl d
    on_hears q j xs (inl (hears d)) = inl d
    on_hears q j xs (inr t) = inr t

    on_drop : e.kind ≡ Drop → (xs : List Report) → Due n s at_start ⊎ Tells n s xs → Tells n s xs
    on_drop k xs (inl (now v to f)) = absurd (drop_starts e k v)
    on_drop k xs (inl (later v d)) = absurd (drop_starts e k v)
    on_drop k xs (inr t) = t

    on_tick : (k : Kind) → is_closer k ≡ false → is_byte k ≡ false → e.kind ≡ k → (xs : List Report) → Due n s at_closing ⊎ Tells n s xs → Tells n s xs
    on_tick k c b q xs (inl (now v to f)) = absurd (no_closer e k c q v)
    on_tick k c b q xs (inl (later v d)) = absurd (no_closer e k c q v)
    on_tick k c b q xs (inl (comes h d)) = absurd (no_byte e k b q h)
    on_tick k c b q xs (inr t) = t

    ticks : (e.kind ≡ Tick) ⊎ (e.kind ≡ Other) → (xs : List Report) → Due n s at_closing ⊎ Tells n s xs → Tells n s xs
    unfolding is_byte
    ticks (inl k) xs t = on_tick Tick refl refl k xs t
    ticks (inr k) xs t = on_tick Other refl refl k xs t

    no_rule : (q : Phase) (m : Move) → At at_end_lem q m → ⊥
    no_rule q m (rests u) = u

    never : (q : Phase) → After q → Due n s at_end_lem → ⊥
    unfolding next
    never q j (now v to f) = no_rule q (makes n s (to q)) (f q tt j)
    never q j (later v d) = never q j d

    in_the_end : (r : Run) (xs : List Report) → Made at_end_lem r xs → Tells n s xs
    in_the_end r xs (j, inl d) = absurd (never r.phase j d)
    in_the_end r xs (j, inr t) = t

    made : Due n s at_silence → Tells n s (handled_tells l e)
    unfolding handled handled_tells begun
    made d =
        in_the_end (handled l e) (handled_tells l e)
        (event_walk_by l.mark e (begun l e) Made (λ k w r h xs m u i. (keeps k r m (rule k w r.phase h m u i.0).0, on k w r h xs m u i.0 i.1))
        (λ b r xs i. (i.0, on_comes b xs i.1)) (λ b r xs i. (i.0, on_hears r.phase i.0 xs i.1)) (λ k r xs i. (leaves_on r.phase i.0, inr (on_drop k xs i.1)))
        (λ k r xs i. (ends_on k r.phase i.0, inr (ticks k xs i.1))) (found, inl d))

  acting : {n s : ℕ} → Due n s at_closing → Due n s at_silence
  unfolding next
  acting d = later tt (later tt (later tt (later tt d)))

  -- what is open ends as damage or in a frame: by silence, ..
  pub broken_made : is_open p.state ≡ true → is_silent gap ≡ true → is_right p ≡ false
      → Tells damage_report (loss_reason p (end_reason p.message)) (handled_tells l e)
  broken_made o s r = made damage_report (loss_reason p (end_reason p.message)) refl (now tt settled first)
    where
      first : (q : Phase) → Found at_silence q → First l.mark e p q → At at_silence q (makes damage_report (loss_reason p (end_reason p.message)) (settled q))
      first q _ found = breaks_off o s r

  pub right_made : p.state ≡ Held → is_silent gap ≡ true → eqb (end_reason p.message) no_reason ≡ true → Tells frame_report no_reason (handled_tells l e)
  right_made h s r = made frame_report no_reason refl (now tt framed first)
    where
      first : (q : Phase) → Found at_silence q → First l.mark e p q → At at_silence q (makes frame_report no_reason (framed q))
      first q _ found = ends_right h s r

  -- .. or by a byte that cuts in, before 20 ms have passed
  cuts : {n s : ℕ} → e.kind ≡ Byte → Due n s at_cut → Due n s at_silence
  cuts k d = acting (comes k d)

  pub cut_wrong_made : Long p → e.kind ≡ Byte → is_cut_in p e.side ≡ true → is_silent gap ≡ false → eqb (end_reason p.message) no_reason ≡ false
      → Tells damage_report (end_reason p.message) (handled_tells l e)
  cut_wrong_made g k c s r =
      made damage_report (end_reason p.message) refl
      (cuts k (now k settled (λ q _ j. subst (λ (y : Phase). At at_cut y (makes damage_report (end_reason p.message) (settled y)))
      (sym (still_open _ e p j g (held_is (cut_held l.mark e p c)).1 s)) (cut_wrong c r))))

  pub cut_right_made : Long p → e.kind ≡ Byte → is_cut_in p e.side ≡ true → is_silent gap ≡ false → eqb (end_reason p.message) no_reason ≡ true
      → Tells frame_report no_reason (handled_tells l e)
  cut_right_made g k c s r =
      made frame_report no_reason refl
      (cuts k (now k framed (λ q _ j. subst (λ (y : Phase). At at_cut y (makes frame_report no_reason (framed y)))
      (sym (still_open _ e p j g (held_is (cut_held l.mark e p c)).1 s)) (cut_right c r))))

  pub cut_made : Long p → is_open p.state ≡ true → is_silent gap ≡ false → Closer e → Tells damage_report (loss_reason p closed) (handled_tells l e)
  cut_made g o s c =
      made damage_report (loss_reason p closed) refl
      (acting (now c settled (λ q _ j. subst (λ (y : Phase). At at_closing y (makes damage_report (loss_reason p closed) (settled y))) (sym (still_open _ e p j g o s))
      (cuts_off o))))

  pub waits_made : Waited p gap → Tells no_reply_report no_reason (handled_tells l e)
  unfolding next
  waits_made w = made no_reply_report no_reason refl (later tt (now tt settled (λ q _ j. due_second _ e p j w)))

  pub idles_made : Long p → Idled p gap → Tells down_report idle_over (handled_tells l e)
  unfolding next
  idles_made g i = made down_report idle_over refl (later tt (later tt (now tt (λ _. down (micros 0)) (λ q _ j. due_third _ e p j g i))))

  pub over_made : RanOut → Tells failed_report window_over (handled_tells l e)
  unfolding next
  over_made o = made failed_report window_over refl (later tt (later tt (later tt (now tt (λ _. off) (λ q _ j. due_fourth _ e p j o)))))

  is_in : (q : Phase) → q ≡ p → In p → In q
  is_in q x i = ap (λ (y : Phase). is_starting y.state) x ∙ i

  pub closed_made : In p → (RanOut → ⊥) → Closer e → Tells failed_report closed (handled_tells l e)
  closed_made i n c =
      made failed_report closed refl (acting (now c (λ _. off) (λ q _ j. aborts (is_starting_lem q.state (is_in q (still_in _ e p j i n) i)))))

  leaves_made : {reason : ℕ} → Closes e reason → Closer e → Up p → (Idled p gap → ⊥) → Tells down_report reason (handled_tells l e)
  unfolding next
  leaves_made {reason = reason} c w u n =
      made down_report reason refl (acting (later w (now w (λ _. off) (λ q _ j. leaves c (is_quiet_lem q.state (j.quiet u n))))))

  pub dropped_made : Up p → (Idled p gap → ⊥) → e.kind ≡ Drop → Tells down_report dropped (handled_tells l e)
  dropped_made u n k = leaves_made (by_drop k) (inr k) u n

  pub restarted_made : Up p → (Idled p gap → ⊥) → Starter e → Tells down_report restarted (handled_tells l e)
  restarted_made u n (inl k) = leaves_made (by_address k) (inl (inl k)) u n
  restarted_made u n (inr k) = leaves_made (by_wake_up k) (inl (inr k)) u n

  pub not_idle_made : Starter e → has_idled l e ≡ false → Tells not_idle_report no_reason (handled_tells l e)
  unfolding next
  not_idle_made s i = made not_idle_report no_reason refl (acting (later (inl s) (later (inl s) (now s (λ (q : Phase). down q.idle) (λ q h j. hurries s (idle_found h i))))))

  pub low_made : e.kind ≡ WakeUp → has_idled l e ≡ true → is_good_low e.start e.end ≡ false → Tells failed_report wrong_low (handled_tells l e)
  unfolding next
  low_made k i g =
      made failed_report wrong_low refl (acting (later (inl (inr k)) (later (inl (inr k)) (now (inr k) (λ _. off) (λ q h j. low k (idle_found h i) g)))))

  -- a byte acts, once it has come and is heard
  hearing_due : {n s : ℕ} → e.kind ≡ Byte → Due n s at_byte → Due n s at_silence
  unfolding next
  hearing_due k d = acting (comes k (later k (hears d)))

  pub outside_made : Long p → IsDown l.mark e p → e.kind ≡ Byte → Tells outside_report no_reason (handled_tells l e)
  outside_made g d k = made outside_report no_reason refl (hearing_due k (now k (λ (q : Phase). down q.idle) (λ q _ j. strays (is_down_come _ e p j g d))))

  pub wrong_made : e.kind ≡ Byte → In p → (RanOut → ⊥) → eqb (judges l e p) no_reason ≡ false → Tells failed_report (judges l e p) (handled_tells l e)
  wrong_made k i n v =
      made failed_report (judges l e p) refl
      (hearing_due k (now k (λ _. off) (λ q _ j. subst (λ (y : Phase). At at_byte y (makes failed_report (judges l e p) off)) (sym (still_in_come _ e p j i n))
      (misses (is_starting_lem p.state i) v))))

  pub last_made : e.kind ≡ Byte → In p → (RanOut → ⊥) → judges l e p ≡ no_reason → is_last p.start.stage ≡ true
      → Tells connected_report no_reason (handled_tells l e)
  last_made k i n v z =
      made connected_report no_reason refl
      (hearing_due k (now k (λ (q : Phase). connected q.start) (λ q _ j. subst (λ (y : Phase). At at_byte y (makes connected_report no_reason (connected y.start)))
      (sym (still_in_come _ e p j i n)) (connects (is_starting_lem p.state i) (eq-eqb (judges l e p) no_reason v) z))))
