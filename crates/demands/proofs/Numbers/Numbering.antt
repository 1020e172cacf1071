-- The tests by which the link refuses an event hold exactly when the conditions of its number do.
-- Each test compares two numbers, and holds exactly if the inequality of its condition does; the number is that of the first test that holds, so that of no smaller one.
-- Assumes nothing.
use Prim.Native.Nat.{ℕ, ◌≤◌, ◌<◌}
use mathlib.Core.Bool.{Bool, true, false, ◌&&◌, ◌||◌, false≢true}
use mathlib.Core.Logic.{◌↔◌, ◌⊎◌, inl, inr, ⊎_elim}
use mathlib.Core.Path.{◌≡◌, refl, sym, ap}
use native.Mathlib.Omega.{arith}
use borrow.Author.Tests.{ltb-true, lt-ltb, leb-true, le-leb, eqb-false}
use lib.Dec.{eqb, leb, ltb}
use Rattle.std.specs.Prelude.{if◌then◌else◌}
use Rattle.base.specs.Numbers.{taken, unknown, too_late, out_of_order, too_many}
use Rattle.units.specs.Units.{is_earlier}
use Rattle.units.specs.declared.Micros.{Micros}
use Rattle.events.specs.Events.{is_other, is_byte, is_nobody, is_unknown, latest, is_too_late, is_out_of_order, refusal}
use Rattle.events.specs.declared.Kind.{Kind}
use Rattle.events.specs.declared.Kind.TheVariants.{Address, WakeUp, Byte, Tick, Drop, Other}
use Rattle.events.specs.declared.Side.{Side}
use Rattle.events.specs.declared.Side.TheVariants.{Tester, Unit, Nobody}
use Rattle.events.specs.declared.Event.{Event}
use Rattle.reports.specs.Counting.{most, is_full, zero_counts}
use Rattle.reports.specs.declared.Counts.{Counts}
use Rattle.link.specs.Stepping.{number_of}
use Rattle.link.specs.declared.Link.{Link}
use Rattle.demands.specs.Logs.{Log, clock_of, count_of, number_after}
use Rattle.demands.specs.Refusals.{Not, Unknown, TooLate, OutOfOrder, Above, TooMany, Numbered}

-- ---- a test that holds exactly when a condition does
abbrev pub Decides : Bool → Type 0 → Type 0
Decides b P = (b ≡ true) ↔ P

-- of two, the second need hold only where the first does not
pub either_of : {P Q : Type 0} (a b : Bool) → Decides a P → (a ≡ false → Decides b Q) → Decides (a || b) (P ⊎ Q)
either_of true b p q = (λ _. inl (p.0 refl), λ _. refl)
either_of false b p q = (λ t. inr ((q refl).0 t), ⊎_elim (λ x. absurd (false≢true (p.1 x))) (λ y. (q refl).1 y))

either : {P Q : Type 0} (a b : Bool) → Decides a P → Decides b Q → Decides (a || b) (P ⊎ Q)
either a b p q = either_of a b p (λ _. q)

pub both : {P Q : Type 0} (a b : Bool) → Decides a P → Decides b Q → Decides (a && b) (P × Q)
both true b p q = (λ t. (p.0 refl, q.0 t), λ x. q.1 x.1)
both false b p q = (λ t. absurd (false≢true t), λ x. p.1 x.0)

below : (a b : ℕ) → Decides (ltb a b) (a < b)
below a b = (ltb-true a b, lt-ltb a b)

-- ---- the four conditions
other_is : (k : Kind) → is_other k ≡ true → k ≡ Other
unfolding is_other
other_is Address t = absurd (false≢true t)
other_is WakeUp t = absurd (false≢true t)
other_is Byte t = absurd (false≢true t)
other_is Tick t = absurd (false≢true t)
other_is Drop t = absurd (false≢true t)
other_is Other t = refl

byte_is : (k : Kind) → is_byte k ≡ true → k ≡ Byte
unfolding is_byte
byte_is Address t = absurd (false≢true t)
byte_is WakeUp t = absurd (false≢true t)
byte_is Byte t = refl
byte_is Tick t = absurd (false≢true t)
byte_is Drop t = absurd (false≢true t)
byte_is Other t = absurd (false≢true t)

nobody_is : (s : Side) → is_nobody s ≡ true → s ≡ Nobody
unfolding is_nobody
nobody_is Tester t = absurd (false≢true t)
nobody_is Unit t = absurd (false≢true t)
nobody_is Nobody t = refl

decides_unknown : (e : Event) → Decides (is_unknown e) (Unknown e)
unfolding is_unknown is_other is_byte is_nobody
decides_unknown e =
    either (is_other e.kind) (is_byte e.kind && is_nobody e.side) (other_is e.kind, ap is_other)
    (both (is_byte e.kind) (is_nobody e.side) (byte_is e.kind, ap is_byte) (nobody_is e.side, ap is_nobody))

decides_late : (e : Event) → Decides (is_too_late e) (TooLate e)
unfolding is_too_late
decides_late e = either (is_earlier latest e.start) (is_earlier latest e.end) (below _ _) (below _ _)

decides_order : (clock : Micros) (e : Event) → Decides (is_out_of_order clock e) (OutOfOrder clock e)
unfolding is_out_of_order
decides_order clock e = either (is_earlier e.end e.start) (is_earlier e.start clock) (below _ _) (below _ _)

right_by : (a b c d e f g h : Bool) → (a || b || c || d || e || f || g || h) ≡ (a || (b || (c || (d || (e || (f || (g || h)))))))
right_by true b c d e f g h = refl
right_by false true c d e f g h = refl
right_by false false true d e f g h = refl
right_by false false false true e f g h = refl
right_by false false false false true f g h = refl
right_by false false false false false true g h = refl
right_by false false false false false false true h = refl
right_by false false false false false false false h = refl

above_by : {P : Type 0} (a b : Bool) → a ≡ b → Decides b P → Decides a P
above_by a b e p = rw e p

decides_full : (events : ℕ) (c : Counts) → Decides (is_full events c) (TooMany events c)
unfolding is_full
decides_full events c =
    above_by _ _
    (right_by (leb most events) (ltb most c.heard) (ltb most c.framed) (ltb most c.damaged) (ltb most c.started) (ltb most c.outside)
    (ltb most c.frames) (ltb most c.damages))
    (either (leb most events) _ (leb-true most events, le-leb most events)
    (either (ltb most c.heard) _ (below _ _)
    (either (ltb most c.framed) _ (below _ _)
    (either (ltb most c.damaged) _ (below _ _)
    (either (ltb most c.started) _ (below _ _)
    (either (ltb most c.outside) _ (below _ _)
    (either (ltb most c.frames) (ltb most c.damages) (below _ _) (below _ _))))))))

-- ---- the number
pub meets : {P : Type 0} (n : ℕ) → P → (n ≡ n) ↔ P
meets n p = (λ _. p, λ _. refl)

pub misses : {P : Type 0} (n k : ℕ) → eqb n k ≡ false → Not P → (n ≡ k) ↔ P
misses n k e f = (λ q. absurd (eqb-false n k e q), λ p. absurd (f p))

pub off : {P : Type 0} → Decides false P → Not P
off d p = false≢true (d.1 p)

module _ (clock : Micros) (events : ℕ) (c : Counts) (e : Event) where
  numbered_by : (a b d f : Bool) → Decides a (Unknown e) → Decides b (TooLate e) → Decides d (OutOfOrder clock e) → Decides f (TooMany events c)
      → Numbered clock events c e (if a then unknown else if b then too_late else if d then out_of_order else if f then too_many else taken)
  numbered_by true b d f u l o m =
      let x = u.0 refl in
      record {
        one = meets 1 x;
        two = misses 1 2 refl (λ p. p.0 x);
        three = misses 1 3 refl (λ p. p.0 x);
        four = misses 1 4 refl (λ p. p.0 x);
        taken = misses 1 0 refl (λ p. p.0 x);
        no_other = omega arith;
      }
  numbered_by false true d f u l o m =
      let x = l.0 refl in
      record {
        one = misses 2 1 refl (off u);
        two = meets 2 (off u, x);
        three = misses 2 3 refl (λ p. p.1 x);
        four = misses 2 4 refl (λ p. p.1 x);
        taken = misses 2 0 refl (λ p. p.1 x);
        no_other = omega arith;
      }
  numbered_by false false true f u l o m =
      let x = o.0 refl in
      record {
        one = misses 3 1 refl (off u);
        two = misses 3 2 refl (λ p. off l p.1);
        three = meets 3 (off u, off l, x);
        four = misses 3 4 refl (λ p. p.2 x);
        taken = misses 3 0 refl (λ p. p.2 x);
        no_other = omega arith;
      }
  numbered_by false false false true u l o m =
      let x = m.0 refl in
      record {
        one = misses 4 1 refl (off u);
        two = misses 4 2 refl (λ p. off l p.1);
        three = misses 4 3 refl (λ p. off o p.2);
        four = meets 4 (off u, off l, off o, x);
        taken = misses 4 0 refl (λ p. p.3 x);
        no_other = omega arith;
      }
  numbered_by false false false false u l o m = record {
    one = misses 0 1 refl (off u);
    two = misses 0 2 refl (λ p. off l p.1);
    three = misses 0 3 refl (λ p. off o p.2);
    four = misses 0 4 refl (λ p. off m p.3);
    taken = meets 0 (off u, off l, off o, off m);
    no_other = omega arith;
  }

  -- the number that `refusal` gives, where `full` says whether 4 applies
  refusal_numbered : (full : Bool) → Decides full (TooMany events c) → Numbered clock events c e (refusal clock full e)
  unfolding refusal
  refusal_numbered full m =
      numbered_by (is_unknown e) (is_too_late e) (is_out_of_order clock e) full (decides_unknown e) (decides_late e) (decides_order clock e) m

-- ---- 1 to 4 of any link, with any counts
pub number_numbered : (l : Link) (c : Counts) (e : Event) → Numbered l.clock l.taken c e (number_of l c e)
unfolding number_of
number_numbered l c e = refusal_numbered l.clock l.taken c e (is_full l.taken c) (decides_full l.taken c)

-- ---- counts that are not above 4,000,000,000: then 4 asks for the number of events alone
pub record Small (c : Counts) : Type 0 where
  pub heard : c.heard ≤ 4_000_000_000
  pub framed : c.framed ≤ 4_000_000_000
  pub damaged : c.damaged ≤ 4_000_000_000
  pub started : c.started ≤ 4_000_000_000
  pub outside : c.outside ≤ 4_000_000_000
  pub frames : c.frames ≤ 4_000_000_000
  pub damages : c.damages ≤ 4_000_000_000

pub zero_small : Small zero_counts
unfolding zero_counts
zero_small = record {
  heard = omega arith;
  framed = omega arith;
  damaged = omega arith;
  started = omega arith;
  outside = omega arith;
  frames = omega arith;
  damages = omega arith;
}

pub small_not_above : (c : Counts) → Small c → Not (Above c)
small_not_above c s (inl h) = absurd (omega (arith, s.heard))
small_not_above c s (inr (inl h)) = absurd (omega (arith, s.framed))
small_not_above c s (inr (inr (inl h))) = absurd (omega (arith, s.damaged))
small_not_above c s (inr (inr (inr (inl h)))) = absurd (omega (arith, s.started))
small_not_above c s (inr (inr (inr (inr (inl h))))) = absurd (omega (arith, s.outside))
small_not_above c s (inr (inr (inr (inr (inr (inl h)))))) = absurd (omega (arith, s.frames))
small_not_above c s (inr (inr (inr (inr (inr (inr h)))))) = absurd (omega (arith, s.damages))

pub not_above_small : (c : Counts) → Not (Above c) → Small c
not_above_small c n =
    let a : 4_000_000_000 < c.heard → ⊥ = λ p. n (inl p) in
    let b : 4_000_000_000 < c.framed → ⊥ = λ p. n (inr (inl p)) in
    let d : 4_000_000_000 < c.damaged → ⊥ = λ p. n (inr (inr (inl p))) in
    let e : 4_000_000_000 < c.started → ⊥ = λ p. n (inr (inr (inr (inl p)))) in
    let f : 4_000_000_000 < c.outside → ⊥ = λ p. n (inr (inr (inr (inr (inl p))))) in
    let g : 4_000_000_000 < c.frames → ⊥ = λ p. n (inr (inr (inr (inr (inr (inl p)))))) in
    let h : 4_000_000_000 < c.damages → ⊥ = λ p. n (inr (inr (inr (inr (inr (inr p)))))) in
    record {
      heard = omega arith;
      framed = omega arith;
      damaged = omega arith;
      started = omega arith;
      outside = omega arith;
      frames = omega arith;
      damages = omega arith;
    }

decides_most : (events : ℕ) (c : Counts) → Small c → Decides (leb most events) (TooMany events c)
decides_most events c s = (λ t. inl (leb-true most events t), ⊎_elim (le-leb most events) (λ a. absurd (small_not_above c s a)))

one_test : {P : Type 0} (a b : Bool) → Decides a P → Decides b P → a ≡ b
one_test true b p q = sym (q.1 (p.0 refl))
one_test false true p q = p.1 (q.0 refl)
one_test false false p q = refl

pub small_full : (events : ℕ) (c : Counts) → Small c → is_full events c ≡ leb most events
small_full events c s = one_test (is_full events c) (leb most events) (decides_full events c) (decides_most events c s)

-- 1 to 4 after events taken
pub log_numbered : (log : Log) (e : Event) → Numbered (clock_of log) (count_of log) zero_counts e (number_after log e)
unfolding number_after
log_numbered log e =
    refusal_numbered (clock_of log) (count_of log) zero_counts e (leb most (count_of log)) (decides_most (count_of log) zero_counts zero_small)
