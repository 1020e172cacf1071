-- Each report of an event is one of the eight, with a reason where it has one, at the event's end, and names as many bytes as its number allows.
-- The bytes follow from what each state holds (Histories/Holding.antt); the reason is the rule's own, or that of a byte, or that of the damage being skipped, which
-- every rule keeps (`rule_fits`).
-- Assumes nothing.
use Prim.Native.Nat.{ℕ, ◌/◌, ◌≤◌, ◌<◌}
use mathlib.Core.Bool.{Bool, true, false, not, ◌||◌, false≢true, ◌&&◌}
use mathlib.Core.List.{List, ◌++◌}
use mathlib.Core.Path.{◌≡◌, refl, sym, ap, ◌∙◌, subst}
use mathlib.Core.Logic.{⊎_elim}
use native.Mathlib.Omega.{arith}
use borrow.Author.Tests.{eqb-false}
use lib.Dec.{eqb, leb}
use Rattle.std.specs.Prelude.{if◌then◌else◌}
use Rattle.base.specs.Sums.{greatest}
use Rattle.base.specs.Reports.{damage_report, failed_report, down_report, no_reason, closed}
use Rattle.base.proofs.Tests.{by_test}
use Rattle.units.specs.Units.{is_earlier}
use Rattle.units.specs.declared.Micros.{Micros}
use Rattle.keys.specs.Keys.{takes_form}
use Rattle.timing.specs.declared.Windows.{Windows}
use Rattle.frame.specs.Layout.{format_form}
use Rattle.events.specs.Events.{is_tester, same_side}
use Rattle.events.specs.declared.Side.{Side}
use Rattle.events.specs.declared.Event.{Event}
use Rattle.talk.specs.Talk.{is_first, tester_turn, is_stray, is_hasty, unit_turn, turn_reason, place_announced, head_reason, first_reason, frame_reason, grown}
use Rattle.talk.specs.Talk.{part_reason, later_reason, end_reason, is_free}
use Rattle.talk.specs.declared.Reply.{Reply}
use Rattle.talk.specs.declared.Part.{Part}
use Rattle.talk.specs.declared.Part.TheVariants.{Target, Source, Length, Data, Sum, Free}
use Rattle.talk.specs.declared.Message.{Message}
use Rattle.phases.specs.Phases.{is_held, is_open, down, starting, connected, talking, holding, damaged, settled, framed}
use Rattle.phases.specs.declared.State.{State}
use Rattle.phases.specs.declared.State.TheVariants.{Down, Starting, Quiet, Held, Damage}
use Rattle.phases.specs.declared.Phase.{Phase}
use Rattle.moves.specs.Moves.{loss_reason, reason_at_first, is_right}
use Rattle.moves.specs.declared.Move.{Move}
use Rattle.moves.proofs.Rules.{Moment, Closes, by_drop, by_address, by_wake_up, Rule, drops}
use Rattle.moves.proofs.Rules.{rests, ends_right, breaks_off, waited, idled, expires, cuts_off, aborts, leaves, starts_slow, starts_fast, hurries, low}
use Rattle.moves.proofs.Rules.{cut_right, cut_wrong, strays, misses, connects, goes_on, opens, errs, breaks, frames, grows, stops}
use Rattle.reports.specs.Reporting.{names_bytes, report_of, told, moved}
use Rattle.reports.specs.declared.Report.{Report}
use Rattle.reports.specs.declared.Run.{Run}
use Rattle.link.specs.Handling.{fresh_link, begun}
use Rattle.link.specs.declared.Link.{Link}
use Rattle.link.specs.Telling.{tells, handled_tells}
use Rattle.link.proofs.Walk.{moved_phase}
use Rattle.link.proofs.Kept.{step_keeps}
use Rattle.demands.specs.Logs.{Log, none, ◌▷◌}
use Rattle.demands.specs.Histories.{after, reports_to, Among}
use Rattle.demands.specs.Each.{Formed}
use Rattle.demands.proofs.Histories.Holding.{Holds, Names, frame, damage, success, failure, outside, no_reply, left, not_idle, framed_quiet}
use Rattle.demands.proofs.Histories.Tiling.{HoldsIn, rule_names, held_walk}
use Rattle.demands.proofs.Histories.Invariant.{kept_of}
use Rattle.demands.proofs.Connecting.Judging.{misjudged}
use Rattle.demands.proofs.Moves.ReportsInList.{Each, each_none, each_both, tells_each}
use Rattle.demands.proofs.Histories.ReportsMade.{reports_made, taken_by_report}
use Rattle.demands.specs.Ours.{ours}
use Rattle.keys.specs.Editions.{is_car, edition_of}
use Rattle.talk.specs.Cars.{car_reason, is_car_size}

-- ---- the reasons that a report has, by its number
abbrev least : ℕ → ℕ
least number = if eqb number damage_report || eqb number failed_report || eqb number down_report then 1 else 0

abbrev most : ℕ → ℕ
most number = if eqb number damage_report then 9 else if eqb number failed_report then 6 else if eqb number down_report then 4 else 0

abbrev Reasoned : ℕ → ℕ → Type 0
Reasoned number reason = (least number ≤ reason) × (reason ≤ most number)

-- ---- a report with one of them, which names what it may
module _ (r : Run) (reason : ℕ) where
  abbrev bytes : ℕ → ℕ
  bytes number = (report_of r number reason).bytes

  -- its number, and how many bytes: at least one, or one
  numbered : {number : ℕ} → Names r.named r.heard number
      → (1 ≤ number) × (number ≤ 8) × (leb number 3 ≡ true → 1 ≤ bytes number) × (eqb number 5 ≡ true → bytes number ≡ 1)
  unfolding report_of names_bytes
  numbered (frame g) = (omega arith, omega arith, λ _. omega arith, λ z. absurd (false≢true z))
  numbered (damage g) = (omega arith, omega arith, λ _. omega arith, λ z. absurd (false≢true z))
  numbered (success g) = (omega arith, omega arith, λ _. omega arith, λ z. absurd (false≢true z))
  numbered (failure g) = (omega arith, omega arith, λ z. absurd (false≢true z), λ z. absurd (false≢true z))
  numbered (outside g) = (omega arith, omega arith, λ z. absurd (false≢true z), λ _. omega arith)
  numbered (no_reply g) = (omega arith, omega arith, λ z. absurd (false≢true z), λ z. absurd (false≢true z))
  numbered (left g) = (omega arith, omega arith, λ z. absurd (false≢true z), λ z. absurd (false≢true z))
  numbered (not_idle g) = (omega arith, omega arith, λ z. absurd (false≢true z), λ z. absurd (false≢true z))

  formed : (e : Event) (number : ℕ) → r.time ≡ e.end → Names r.named r.heard number → Reasoned number reason → Formed e (report_of r number reason)
  unfolding report_of names_bytes
  formed e number t w k =
      let f = numbered w in
      let at : (x : ℕ) → number ≡ x → Reasoned x reason = λ x z. subst (λ (y : ℕ). Reasoned y reason) z k in
      let low : (x : ℕ) → number ≡ x → leb number 3 ≡ leb x 3 = λ x z. ap (λ (y : ℕ). leb y 3) z in
      let high : (x : ℕ) → number ≡ x → names_bytes number ≡ names_bytes x = λ x z. ap names_bytes z in
      let plain : (x : ℕ) → number ≡ x → most number ≡ most x = λ x z. ap most z in
      record {
        time = t;
        number = (f.0, f.1);
        no_reason_lem = λ z.
            let n : most number ≡ 0 = ⊎_elim (plain _) (⊎_elim (plain _) (⊎_elim (plain _) (⊎_elim (plain _) (plain _)))) z in
            omega (arith, k.1, n);
        damage = at damage_report;
        failed = at failed_report;
        down = at down_report;
        none = λ z. let n : names_bytes number ≡ false = ⊎_elim (high _) (⊎_elim (high _) (high _)) z in rw n refl;
        some = λ z. f.2 (⊎_elim (low _) (⊎_elim (low _) (low _)) z);
        one = λ z. f.3 (ap (λ (y : ℕ). eqb y 5) z);
      }

-- ---- reasons that the rules find
abbrev Lost : ℕ → Type 0
Lost k = (1 ≤ k) × (k ≤ 9)

lost : (k : ℕ) → eqb k no_reason ≡ false → k ≤ 9 → Lost k
lost k z h = let n = eqb-false k no_reason z in (omega (arith, n), h)

pick : (b : Bool) {x y : ℕ} → x ≤ 9 → y ≤ 9 → (if b then x else y) ≤ 9
pick true f g = f
pick false f g = g

turn_most : (reply : Reply) (w : Windows) (side : Side) (gap : Micros) → turn_reason reply w side gap ≤ 9
unfolding turn_reason tester_turn unit_turn
turn_most reply w side gap =
    pick (is_tester side) (pick (is_first reply || is_earlier gap w.p3min) (omega arith) (omega arith))
    (pick (is_stray reply w gap) (omega arith) (pick (is_hasty w gap) (omega arith) (omega arith)))

head_most : (kb1 f : ℕ) → head_reason kb1 f ≤ 9
unfolding head_reason
head_most kb1 f =
    pick (eqb (f / 64) 1) (omega arith)
    (pick (not (takes_form kb1 (format_form f))) (omega arith) (pick (place_announced kb1 f) (omega arith) (omega arith)))

first_most : (p : Phase) (side : Side) (v : ℕ) (gap : Micros) → reason_at_first p side v gap ≤ 9
unfolding reason_at_first first_reason frame_reason
first_most p side v gap =
    let turn = turn_most p.reply p.windows side gap in
    pick (is_car (edition_of p.start.pair)) turn (pick (eqb (turn_reason p.reply p.windows side gap) no_reason) (head_most _ v) turn)

part_most : (part : Part) (m : Message) (v : ℕ) → part_reason part m v ≤ 9
part_most Target m v = omega arith
part_most Source m v = omega arith
part_most Length m v = pick (eqb v 0) (omega arith) (omega arith)
part_most Data m v = omega arith
part_most Free m v = omega arith
part_most Sum m v = pick (eqb v m.sum) (omega arith) (omega arith)

later_most : (m : Message) (side : Side) (v : ℕ) → later_reason m side v ≤ 9
unfolding later_reason
later_most m side v = pick (not (same_side side m.side)) (omega arith) (part_most m.part m v)

closes_for : {e : Event} {reason : ℕ} → Closes e reason → (1 ≤ reason) × (reason ≤ 4)
closes_for (by_drop k) = (omega arith, omega arith)
closes_for (by_address k) = (omega arith, omega arith)
closes_for (by_wake_up k) = (omega arith, omega arith)

-- ---- damage that is being skipped has a reason
abbrev WordedIn : State → ℕ → Type 0
WordedIn Down why = Unit {0}
WordedIn Starting why = Unit {0}
WordedIn Quiet why = Unit {0}
WordedIn Held why = Unit {0}
WordedIn Damage why = Lost why

abbrev Worded : Phase → Type 0
Worded p = WordedIn p.state p.message.why

loss_in : (st : State) (reason why : ℕ) → is_open st ≡ true → WordedIn st why → Lost reason → Lost (if is_held st then reason else why)
unfolding is_open is_held
loss_in Down reason why o w k = absurd (false≢true o)
loss_in Starting reason why o w k = absurd (false≢true o)
loss_in Quiet reason why o w k = absurd (false≢true o)
loss_in Held reason why o w k = k
loss_in Damage reason why o w k = w

-- what a message held is damage for as it ends
end_most : (m : Message) → end_reason m ≤ 9
unfolding end_reason car_reason
end_most m =
    pick (is_free m.part)
    (pick (not (eqb m.why no_reason)) (omega arith) (pick (not (is_car_size m.at)) (omega arith) (pick (eqb m.length m.sum) (omega arith) (omega arith))))
    (omega arith)

framed_worded : (p : Phase) → Worded (framed p)
framed_worded p = subst (λ (x : State). WordedIn x (framed p).message.why) (sym (framed_quiet p)) tt

-- what is open and not right has a reason as it ends
ended_loss : (p : Phase) → is_open p.state ≡ true → is_right p ≡ false → Worded p → Lost (loss_reason p (end_reason p.message))
unfolding is_right loss_reason is_held is_open
ended_loss p o r w = by_state p.state o r w
  where
    by_state : (st : State) → is_open st ≡ true → (is_held st && eqb (end_reason p.message) no_reason) ≡ false → WordedIn st p.message.why
        → Lost (if is_held st then end_reason p.message else p.message.why)
    by_state Down o r w = absurd (false≢true o)
    by_state Starting o r w = absurd (false≢true o)
    by_state Quiet o r w = absurd (false≢true o)
    by_state Held o r w = lost (end_reason p.message) r (end_most p.message)
    by_state Damage o r w = w

-- ---- EACH RULE: the reason of its report, and the damage that it leaves
rule_fits : (mark : Micros) (e : Event) (p : Phase) (k : Moment) (m : Move) → Rule mark e p k m → Worded p
    → Reasoned m.number m.reason × Worded m.phase
unfolding loss_reason down starting connected settled holding damaged talking grown
rule_fits mark e p k m (rests u) w = ((omega arith, omega arith), w)
rule_fits mark e p k m (ends_right h s r) w = ((omega arith, omega arith), framed_worded p)
rule_fits mark e p k m (breaks_off o s r) w = (ended_loss p o r w, tt)
rule_fits mark e p k m (waited q f t) w = ((omega arith, omega arith), tt)
rule_fits mark e p k m (idled q f t) w = ((omega arith, omega arith), tt)
rule_fits mark e p k m (expires s o) w = ((omega arith, omega arith), tt)
rule_fits mark e p k m (cuts_off o) w = (loss_in p.state closed _ o w (omega arith, omega arith), tt)
rule_fits mark e p k m (aborts s) w = ((omega arith, omega arith), tt)
rule_fits mark e p k m (leaves c q) w = (closes_for c, tt)
rule_fits mark e p k m (drops d x) w = ((omega arith, omega arith), tt)
rule_fits mark e p k m (starts_slow a i) w = ((omega arith, omega arith), tt)
rule_fits mark e p k m (starts_fast a i l) w = ((omega arith, omega arith), tt)
rule_fits mark e p k m (hurries s i) w = ((omega arith, omega arith), tt)
rule_fits mark e p k m (low a i l) w = ((omega arith, omega arith), tt)
rule_fits mark e p k m (cut_right c r) w = ((omega arith, omega arith), framed_worded p)
rule_fits mark e p k m (cut_wrong c r) w = (lost _ r (end_most p.message), tt)
rule_fits mark e p k m (strays d) w = ((omega arith, omega arith), tt)
rule_fits mark e p k m (misses s v) w =
    (misjudged (λ (j : ℕ). (1 ≤ j) × (j ≤ 6)) (omega arith, omega arith) (omega arith, omega arith) (omega arith, omega arith) _ _ _ _ v, tt)
rule_fits mark e p k m (connects s v l) w = ((omega arith, omega arith), tt)
rule_fits mark e p k m (goes_on s v l) w = ((omega arith, omega arith), tt)
rule_fits mark e p k m (opens q r) w = ((omega arith, omega arith), tt)
rule_fits mark e p k m (errs q r) w = ((omega arith, omega arith), lost _ r (first_most p _ _ _))
rule_fits mark e p k m (breaks h r) w = ((omega arith, omega arith), lost _ r (later_most p.message _ _))
rule_fits mark e p k m (frames h r s) w = ((omega arith, omega arith), framed_worded p)
rule_fits mark e p k m (grows h r s) w = ((omega arith, omega arith), tt)
rule_fits mark e p k m (stops q r) w = ((omega arith, omega arith), tt)

moved_time : (r : Run) (m : Move) → (moved r m).time ≡ r.time
unfolding moved told
moved_time r m = by_test (λ (s : Run). s.time ≡ r.time) (eqb m.number 0) (λ _. refl) (λ _. refl)

-- ---- an event, on a link that holds what its state says and has a reason for its damage
module _ (l : Link) (e : Event) where
  abbrev Good : Run → List Report → Type 0
  Good r xs = Each (Formed e) xs × (r.time ≡ e.end) × Worded r.phase

  move_good : (k : Moment) (r : Run) (xs : List Report) (m : Move) → Rule l.mark e r.phase k m → HoldsIn l k r → Good r xs
      → Good (moved r m) (xs ++ tells r m)
  move_good k r xs m u g j =
      let f = rule_fits l.mark e r.phase k m u j.2 in (
        each_both (Formed e) xs (tells r m) j.0
            (tells_each (Formed e) r m (λ z. formed r m.reason e m.number j.1 (rule_names l e k r m u g z) f.0)),
        moved_time r m ∙ j.1,
        subst Worded (sym (moved_phase r m)) f.1,
      )

  handled_formed : l.heard < greatest → Holds l.phase.state l.named l.heard → Worded l.phase → Each (Formed e) (handled_tells l e)
  unfolding begun
  handled_formed few g w = (held_walk l e few Good move_good (λ r xs j. j) g (each_none (Formed e), refl, w)).1.0

-- ---- after any events
worded_of : (es : Log) → Worded (after ours es).link.phase
unfolding after fresh_link down
worded_of none = tt
worded_of (es ▷ e) = step_keeps Worded (λ mark e p k m u w. (rule_fits mark e p k m u w).1) (after ours es).link (after ours es).counts e (worded_of es)

-- EACH REPORT
pub each_formed : (es : Log) (e : Event) (r : Report) → Among r (reports_to ours es e) → Formed e r
each_formed es e r i =
    let k = kept_of es in
    handled_formed (after ours es).link e (omega (arith, k.heard, k.few, k.bound)) k.holds (worded_of es) r
    (subst (Among r) (reports_made es e (taken_by_report es e r i)) i)
