-- The first byte of a message gets the reason 3 or 4 by the link's rules exactly if it is early or stray in document 01's words; no other rule for the
-- bytes of a message gives these reasons.
-- Assumes nothing.
use Prim.Native.Nat.{ℕ, ◌/◌}
use mathlib.Core.Bool.{Bool, true, false, not, ◌&&◌, ◌||◌, false≢true, or-true}
use mathlib.Core.Path.{◌≡◌, refl, sym, ◌∙◌}
use mathlib.Core.Logic.{◌↔◌, ◌⊎◌, inl, inr, ⊎_elim}
use native.Mathlib.Omega.{arith}
use borrow.Author.Tests.{ltb-true, lt-ltb, eq-eqb, eqb-true, eqb-false}
use lib.Dec.{eqb}
use Rattle.std.specs.Prelude.{if◌then◌else◌}
use Rattle.base.specs.Numbers.{taken, unknown}
use Rattle.base.specs.Reports.{no_reason, early, stray, mode_one, wrong_form, wrong_length, wrong_sum, other_side}
use Rattle.base.proofs.Tests.{or_split, by_test}
use Rattle.units.specs.Units.{is_earlier}
use Rattle.units.specs.declared.Micros.{Micros}
use Rattle.keys.specs.Keys.{takes_form}
use Rattle.keys.specs.declared.Pair.{Pair}
use Rattle.timing.specs.Timing.{is_passed}
use Rattle.timing.specs.declared.Windows.{Windows}
use Rattle.frame.specs.Layout.{format_form}
use Rattle.events.specs.Events.{is_tester, is_unit, is_nobody, same_side, is_byte, is_other, is_unknown, refusal}
use Rattle.events.specs.declared.Kind.TheVariants.{Byte, Other}
use Rattle.events.specs.declared.Side.{Side}
use Rattle.events.specs.declared.Side.TheVariants.{Tester, Unit, Nobody}
use Rattle.events.specs.declared.Event.{Event}
use Rattle.talk.specs.Talk.{is_first, tester_turn, is_stray, is_hasty, unit_turn, turn_reason, place_announced, head_reason, frame_reason}
use Rattle.talk.specs.Talk.{first_reason, part_reason, later_reason}
use Rattle.talk.specs.declared.Reply.{Reply}
use Rattle.talk.specs.declared.Reply.TheVariants.{Never, First, Further}
use Rattle.talk.specs.declared.Part.{Part}
use Rattle.talk.specs.declared.Part.TheVariants.{Target, Source, Length, Data, Sum, Free}
use Rattle.talk.specs.declared.Message.{Message}
use Rattle.demands.specs.Logs.{Log, number_after}
use Rattle.demands.specs.Sessions.{Talk, in_force, Stray, Early}
use Rattle.demands.proofs.Histories.BytesAsEvents.{value_reason}
use Rattle.demands.specs.Editions.{of_car}

-- ---- choices
chosen : (b : Bool) (x y : ℕ) → (y ≡ x → ⊥) → (if b then x else y) ≡ x → b ≡ true
chosen true x y h e = refl
chosen false x y h e = absurd (h e)

passed_by : (b : Bool) (x y z : ℕ) → (x ≡ z → ⊥) → (if b then x else y) ≡ z → b ≡ false
passed_by true x y z h e = absurd (h e)
passed_by false x y z h e = refl

-- ---- sides and replies by name
not_unit : (side : Side) → side ≡ Tester → side ≡ Unit → ⊥
not_unit side t u = let z : ◌≡◌ {A = ℕ} 0 1 = cc in omega arith

first_is : (reply : Reply) → is_first reply ≡ true → reply ≡ First
unfolding is_first
first_is Never e = absurd (false≢true e)
first_is First e = refl
first_is Further e = absurd (false≢true e)

stray_by : (reply : Reply) (w : Windows) (gap : Micros) → (is_stray reply w gap ≡ true) ↔ ((reply ≡ Never) ⊎ (is_passed w.p2max gap ≡ true))
unfolding is_stray
stray_by Never w gap = (λ _. inl refl, λ _. refl)
stray_by First w gap = (λ p. inr p, ⊎_elim (λ n. cc) (λ p. p))
stray_by Further w gap = (λ p. inr p, ⊎_elim (λ n. cc) (λ p. p))

pub same_is : (a b : Side) → same_side a b ≡ true → a ≡ b
unfolding same_side is_tester is_unit is_nobody
same_is Tester Tester e = refl
same_is Tester Unit e = absurd (false≢true e)
same_is Tester Nobody e = absurd (false≢true e)
same_is Unit Tester e = absurd (false≢true e)
same_is Unit Unit e = refl
same_is Unit Nobody e = absurd (false≢true e)
same_is Nobody Tester e = absurd (false≢true e)
same_is Nobody Unit e = absurd (false≢true e)
same_is Nobody Nobody e = refl

-- an event that is taken has a known kind, and a byte a side
known : (log : Log) (e : Event) → number_after log e ≡ taken → is_unknown e ≡ false
unfolding number_after refusal
known log e h = passed_by (is_unknown e) unknown _ taken (λ z. omega arith) h

pub not_other : (log : Log) (e : Event) → number_after log e ≡ taken → e.kind ≡ Other → ⊥
unfolding is_unknown is_other
not_other log e h k = false≢true (sym (known log e h) ∙ (λ i. is_other (k i) || (is_byte (k i) && is_nobody e.side)))

pub has_side : (log : Log) (e : Event) → number_after log e ≡ taken → e.kind ≡ Byte → is_nobody e.side ≡ false
unfolding is_unknown is_byte is_other
has_side log e h k = by_side (is_nobody e.side) refl
  where
    by_side : (b : Bool) → is_nobody e.side ≡ b → b ≡ false
    by_side true s = sym (sym (known log e h) ∙ (λ i. is_other (k i) || (is_byte (k i) && s i)))
    by_side false s = refl

module _ (t : Talk) (gap : Micros) (b : Event) where
  -- ---- from the tester
  tester_early : b.side ≡ Tester → (tester_turn t.reply (in_force t) gap ≡ early) ↔ Early t t.reply gap b
  unfolding tester_turn is_first
  tester_early s = (
    λ e. inl (
      s,
      ⊎_elim (λ f. inl (first_is t.reply f)) (λ l. inr (ltb-true gap.0 (in_force t).p3min.0 l))
          (or_split (is_first t.reply) _ (chosen _ early no_reason (λ z. omega arith) e)),
    ),
    ⊎_elim (λ x. ⊎_elim (λ f. rw f) (λ l. rw (lt-ltb gap.0 (in_force t).p3min.0 l, or-true (is_first t.reply))) x.1)
        (λ x. absurd (not_unit b.side s x.0)),
  )

  tester_stray : b.side ≡ Tester → (tester_turn t.reply (in_force t) gap ≡ stray) ↔ Stray t t.reply gap b
  unfolding tester_turn
  tester_stray s = (
    λ e. absurd (never_four (is_first t.reply || _) e),
    λ x. absurd (not_unit b.side s x.0),
  )
    where
      never_four : (c : Bool) → (if c then early else no_reason) ≡ stray → ⊥
      never_four true e = omega arith
      never_four false e = omega arith

  -- ---- from the unit
  stray_is : (is_stray t.reply (in_force t) gap ≡ true) ↔ ((t.reply ≡ Never) ⊎ (is_passed (in_force t).p2max gap ≡ true))
  stray_is = stray_by t.reply (in_force t) gap

  unit_stray : b.side ≡ Unit → (unit_turn t.reply (in_force t) gap ≡ stray) ↔ Stray t t.reply gap b
  unfolding unit_turn
  unit_stray s = (
    λ e. (s, stray_is.0 (chosen (is_stray t.reply (in_force t) gap) stray _ (not_four (is_hasty (in_force t) gap)) e)),
    λ x. rw (stray_is.1 x.1),
  )
    where
      not_four : (c : Bool) → (if c then early else no_reason) ≡ stray → ⊥
      not_four true e = omega arith
      not_four false e = omega arith

  unit_early : b.side ≡ Unit → (unit_turn t.reply (in_force t) gap ≡ early) ↔ Early t t.reply gap b
  unfolding unit_turn is_hasty
  unit_early s = (
    λ e.
        let n = passed_by (is_stray t.reply (in_force t) gap) stray _ early (λ z. omega arith) e in
        let h : (if is_hasty (in_force t) gap then early else no_reason) ≡ early = rw n at e in
        inr (
          s,
          (λ x. absurd (false≢true (sym n ∙ stray_is.1 x.1))),
          ltb-true gap.0 (in_force t).p2min.0 (chosen (is_hasty (in_force t) gap) early no_reason (λ z. omega arith) h),
        ),
    ⊎_elim (λ x. absurd (not_unit b.side x.0 s))
        (λ x. by_stray (is_stray t.reply (in_force t) gap) refl x.1 (lt-ltb gap.0 (in_force t).p2min.0 x.2)),
  )
    where
      by_stray : (c : Bool) → is_stray t.reply (in_force t) gap ≡ c → (Stray t t.reply gap b → ⊥) → is_hasty (in_force t) gap ≡ true
          → (if c then stray else if is_hasty (in_force t) gap then early else no_reason) ≡ early
      by_stray true c n h = absurd (n (s, stray_is.0 c))
      by_stray false c n h = rw h

  -- ---- from either
  turn_early_by : (side : Side) → b.side ≡ side → is_nobody side ≡ false → (turn_reason t.reply (in_force t) side gap ≡ early) ↔ Early t t.reply gap b
  unfolding turn_reason is_tester is_nobody
  turn_early_by Tester s n = tester_early s
  turn_early_by Unit s n = unit_early s
  turn_early_by Nobody s n = absurd (false≢true (sym n))

  turn_stray_by : (side : Side) → b.side ≡ side → is_nobody side ≡ false → (turn_reason t.reply (in_force t) side gap ≡ stray) ↔ Stray t t.reply gap b
  unfolding turn_reason is_tester is_nobody
  turn_stray_by Tester s n = tester_stray s
  turn_stray_by Unit s n = unit_stray s
  turn_stray_by Nobody s n = absurd (false≢true (sym n))

-- ---- the other rules
-- neither 3 nor 4
abbrev Elsewhere : ℕ → Type 0
Elsewhere reason = (reason ≡ early → ⊥) × (reason ≡ stray → ⊥)

head_elsewhere : (kb1 f : ℕ) → Elsewhere (head_reason kb1 f)
unfolding head_reason
head_elsewhere kb1 f =
    by_test Elsewhere (eqb (f / 64) 1) {x = mode_one} (λ _. (λ z. omega arith, λ z. omega arith))
    (λ _. by_test Elsewhere (not (takes_form kb1 (format_form f))) {x = wrong_form} (λ _. (λ z. omega arith, λ z. omega arith))
    (λ _. by_test Elsewhere (place_announced kb1 f) {x = no_reason} {y = wrong_length} (λ _. (λ z. omega arith, λ z. omega arith))
    (λ _. (λ z. omega arith, λ z. omega arith))))

part_elsewhere : (part : Part) (m : Message) (v : ℕ) → Elsewhere (part_reason part m v)
part_elsewhere Target m v = (λ z. omega arith, λ z. omega arith)
part_elsewhere Source m v = (λ z. omega arith, λ z. omega arith)
part_elsewhere Length m v =
    by_test Elsewhere (eqb v 0) {x = wrong_length} {y = no_reason} (λ _. (λ z. omega arith, λ z. omega arith))
    (λ _. (λ z. omega arith, λ z. omega arith))
part_elsewhere Data m v = (λ z. omega arith, λ z. omega arith)
part_elsewhere Free m v = (λ z. omega arith, λ z. omega arith)
part_elsewhere Sum m v =
    by_test Elsewhere (eqb v m.sum) {x = no_reason} {y = wrong_sum} (λ _. (λ z. omega arith, λ z. omega arith))
    (λ _. (λ z. omega arith, λ z. omega arith))

pub later_elsewhere : (m : Message) (side : Side) (v : ℕ) → Elsewhere (later_reason m side v)
unfolding later_reason
later_elsewhere m side v =
    by_test Elsewhere (not (same_side side m.side)) {x = other_side} (λ _. (λ z. omega arith, λ z. omega arith)) (λ _. part_elsewhere m.part m v)

-- a first byte of either edition: early or stray, and else what its value says
pub first_by : (pair : Pair) (reply : Reply) (w : Windows) (side : Side) (f : ℕ) (gap : Micros)
    → first_reason pair reply w side f gap ≡ (if eqb (turn_reason reply w side gap) no_reason then value_reason pair f else turn_reason reply w side gap)
unfolding first_reason frame_reason value_reason
first_by pair reply w side f gap = by_car (of_car pair) (eqb (turn_reason reply w side gap) no_reason) refl
  where
    by_car : (c d : Bool) → eqb (turn_reason reply w side gap) no_reason ≡ d
        → (if c then turn_reason reply w side gap else if d then head_reason pair.kb1 f else turn_reason reply w side gap)
        ≡ (if d then if c then no_reason else head_reason pair.kb1 f else turn_reason reply w side gap)
    by_car true true z = eqb-true (turn_reason reply w side gap) no_reason z
    by_car true false z = refl
    by_car false d z = refl

value_elsewhere : (pair : Pair) (f : ℕ) → Elsewhere (value_reason pair f)
unfolding value_reason
value_elsewhere pair f =
    by_test Elsewhere (of_car pair) {x = no_reason} {y = head_reason pair.kb1 f} (λ _. (λ z. omega arith, λ z. omega arith)) (λ _. head_elsewhere pair.kb1 f)

-- THE REASON OF A FIRST BYTE is 3 exactly if it is early, and 4 exactly if it is stray
module _ (t : Talk) (gap : Micros) (b : Event) (sided : is_nobody b.side ≡ false) (pair : Pair) where
  reason_by : (k : ℕ) (c : Bool) → eqb (turn_reason t.reply (in_force t) b.side gap) no_reason ≡ c → (no_reason ≡ k → ⊥)
      → (value_reason pair b.value ≡ k → ⊥)
      → ((if c then value_reason pair b.value else turn_reason t.reply (in_force t) b.side gap) ≡ k) ↔
      (turn_reason t.reply (in_force t) b.side gap ≡ k)
  reason_by k true c n h = (λ e. absurd (h e), λ e. absurd (n (sym (eqb-true _ no_reason c) ∙ e)))
  reason_by k false c n h = (λ e. e, λ e. e)

  pub first_early : (first_reason pair t.reply (in_force t) b.side b.value gap ≡ early) ↔ Early t t.reply gap b
  first_early =
      rw (first_by pair t.reply (in_force t) b.side b.value gap)
      (let x = reason_by early _ refl (λ z. omega arith) (value_elsewhere pair b.value).0 in
      let y = turn_early_by t gap b b.side refl sided in
      (λ e. y.0 (x.0 e), λ e. x.1 (y.1 e)))

  pub first_stray : (first_reason pair t.reply (in_force t) b.side b.value gap ≡ stray) ↔ Stray t t.reply gap b
  first_stray =
      rw (first_by pair t.reply (in_force t) b.side b.value gap)
      (let x = reason_by stray _ refl (λ z. omega arith) (value_elsewhere pair b.value).1 in
      let y = turn_stray_by t gap b b.side refl sided in
      (λ e. y.0 (x.0 e), λ e. x.1 (y.1 e)))

-- neither early nor stray, it gets the reason of its head; and with a right head none
turn_else : (reply : Reply) (w : Windows) (side : Side) (gap : Micros) → (turn_reason reply w side gap ≡ early → ⊥)
    → (turn_reason reply w side gap ≡ stray → ⊥)
    → turn_reason reply w side gap ≡ no_reason
unfolding turn_reason tester_turn unit_turn
turn_else reply w side gap f g = by_tests (is_tester side) (is_first reply || is_earlier gap w.p3min) (is_stray reply w gap) (is_hasty w gap) f g
  where
    by_tests : (a b c d : Bool) → ((if a then if b then early else no_reason else if c then stray else if d then early else no_reason) ≡ early → ⊥)
        → ((if a then if b then early else no_reason else if c then stray else if d then early else no_reason) ≡ stray → ⊥)
        → (if a then if b then early else no_reason else if c then stray else if d then early else no_reason) ≡ no_reason
    by_tests true true c d f g = absurd (f refl)
    by_tests true false c d f g = refl
    by_tests false b true d f g = absurd (g refl)
    by_tests false b false true f g = absurd (f refl)
    by_tests false b false false f g = refl

pub first_else : (t : Talk) (gap : Micros) (b : Event) → is_nobody b.side ≡ false → (pair : Pair) → (Early t t.reply gap b → ⊥) → (Stray t t.reply gap b → ⊥)
    → first_reason pair t.reply (in_force t) b.side b.value gap ≡ value_reason pair b.value
first_else t gap b sided pair f g =
    let z = turn_else t.reply (in_force t) b.side gap (λ q. f ((turn_early_by t gap b b.side refl sided).0 q))
    (λ q. g ((turn_stray_by t gap b b.side refl sided).0 q)) in
    first_by pair t.reply (in_force t) b.side b.value gap ∙ rw (eq-eqb (turn_reason t.reply (in_force t) b.side gap) no_reason z) refl

pub first_none : (t : Talk) (gap : Micros) (b : Event) → is_nobody b.side ≡ false → (pair : Pair) → (Early t t.reply gap b → ⊥) → (Stray t t.reply gap b → ⊥)
    → value_reason pair b.value ≡ no_reason
    → first_reason pair t.reply (in_force t) b.side b.value gap ≡ no_reason
first_none t gap b sided pair f g h = first_else t gap b sided pair f g ∙ h

-- where a first byte gets no reason, its head gets none
pub first_head : (pair : Pair) (reply : Reply) (w : Windows) (side : Side) (f : ℕ) (gap : Micros) → first_reason pair reply w side f gap ≡ no_reason
    → value_reason pair f ≡ no_reason
first_head pair reply w side f gap e = by_turn (eqb (turn_reason reply w side gap) no_reason) refl (sym (first_by pair reply w side f gap) ∙ e)
  where
    by_turn : (c : Bool) → eqb (turn_reason reply w side gap) no_reason ≡ c → (if c then value_reason pair f else turn_reason reply w side gap) ≡ no_reason
        → value_reason pair f ≡ no_reason
    by_turn true c e = e
    by_turn false c e = absurd (eqb-false _ no_reason c e)
