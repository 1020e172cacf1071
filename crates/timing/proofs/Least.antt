-- How short a window in force can be: P2 max is at least 25 ms and P3 max at least 250 ms, both above the 20 ms after which a message or damage
-- ends. That holds of the windows that allowed codes stand for, and of every set. No limit stands as the greatest number, and so counts as longer.
-- Assumes nothing.
use mathlib.Core.Path.{◌≡◌, refl}
use mathlib.Core.Bool.{Bool, true, ◌&&◌, ◌||◌}
use mathlib.Core.Logic.{⊎_elim}
use Prim.Native.Nat.{ℕ, ◌≤◌, ◌<◌}
use native.Mathlib.Omega.{arith}
use borrow.Author.Tests.{eqb-true, leb-true, ltb-true}
use lib.Dec.{eqb, leb, lit≤}
use Rattle.base.specs.Numbers.{taken}
use Rattle.base.proofs.Tests.{and_split, or_split, up_to, at_each, by_test}
use Rattle.keys.specs.Keys.{is_extended}
use Rattle.keys.specs.declared.Pair.{Pair}
use Rattle.keys.specs.Editions.{edition_of}
use Rattle.keys.specs.declared.Edition.{Edition}
use Rattle.keys.specs.declared.Edition.TheVariants.{Iso14230, Car08, Car94}
use Rattle.units.specs.Units.{is_earlier}
use Rattle.units.specs.declared.Micros.{Micros}
use Rattle.timing.specs.Timing.{is_unlimited, is_below, named_set, set_in, set_of, p4max, is_allowed, p2_half, p2_max_of, p3_max_of, windows_by, decoded_of}
use Rattle.timing.specs.Coded.{Bytes}
use Rattle.timing.specs.declared.Limit.{Limit}
use Rattle.timing.specs.declared.Windows.{Windows}
use Rattle.timing.specs.declared.Codes.{Codes}
use Rattle.timing.proofs.RoundTrip.{decoded_allowed, decoded_is}

pub record LongEnough (w : Windows) : Type 0 where
  pub p2max_long : 25_000 ≤ w.p2max.0.0
  pub p3max_long : 250_000 ≤ w.p3max.0.0

-- the first two conditions of allowed windows
mins_below : (w : Windows) → is_allowed w ≡ true → (is_below w.p2min w.p2max ≡ true) × (is_below w.p3min w.p3max ≡ true)
unfolding is_allowed
mins_below w a =
    let s = and_split (is_below w.p2min w.p2max && is_below w.p3min w.p3max && is_earlier w.p4min p4max) _ a in
    let t = and_split (is_below w.p2min w.p2max && is_below w.p3min w.p3max) _ s.0 in
    and_split (is_below w.p2min w.p2max) _ t.0

-- no minimum is below a maximum of 0
some : (m : Micros) (l : Limit) → is_below m l ≡ true → l.0.0 ≡ 0 → ⊥
unfolding is_below is_unlimited
some m l h z =
    ⊎_elim (λ u. let e = eqb-true l.0.0 18_446_744_073_709_551_615 u in omega arith)
    (λ b. let e = ltb-true m.0 l.0.0 b in omega arith) (or_split (is_unlimited l) (is_earlier m l.0) h)

-- a code gives a maximum of 0 or of at least so much: a test over the 256 codes, for both maxima
long : (ℕ → Limit) → ℕ → ℕ → Bool
long max_of least k = eqb (max_of k).0.0 0 || leb least (max_of k).0.0

long_enough : (max_of : ℕ → Limit) (least : ℕ) → up_to (long max_of least) 256 ≡ true → (k : ℕ) (m : Micros) → k < 256 → is_below m (max_of k) ≡ true
    → least ≤ (max_of k).0.0
unfolding long
long_enough max_of least t k m h b =
    ⊎_elim (λ z. absurd (some m (max_of k) b (eqb-true (max_of k).0.0 0 z))) (λ l. leb-true least (max_of k).0.0 l)
    (or_split (eqb (max_of k).0.0 0) (leb least (max_of k).0.0) (at_each (long max_of least) 256 t k h))

p2_long : (k : ℕ) (m : Micros) → k < 256 → is_below m (p2_max_of k) ≡ true → 25_000 ≤ (p2_max_of k).0.0
unfolding long p2_max_of p2_half
p2_long = long_enough p2_max_of 25_000 refl

p3_long : (k : ℕ) (m : Micros) → k < 256 → is_below m (p3_max_of k) ≡ true → 250_000 ≤ (p3_max_of k).0.0
unfolding long p3_max_of
p3_long = long_enough p3_max_of 250_000 refl

-- EVERY ALLOWED P2 MAX IS AT LEAST 25 MS, AND P3 MAX AT LEAST 250 MS
pub codes_long : (c : Codes) → Bytes c → (decoded_of c).no ≡ taken → LongEnough (decoded_of c).windows
unfolding windows_by
codes_long c b e =
    let a = decoded_allowed c e in
    let m = mins_below (windows_by c) a in
    rw (decoded_is c a)
    (record {
      p2max_long = p2_long c.p2max (windows_by c).p2min (omega (arith, b.p2max_byte)) m.0;
      p3max_long = p3_long c.p3max (windows_by c).p3min (omega (arith, b.p3max_byte)) m.1;
    })

named_long : (kb1 : ℕ) → LongEnough (named_set kb1)
unfolding named_set
named_long kb1 =
    by_test LongEnough (is_extended kb1) (λ _. record { p2max_long = lit≤ tt; p3max_long = lit≤ tt }) (λ _. record { p2max_long = lit≤ tt; p3max_long = lit≤ tt })

set_in_long : (edition : Edition) (kb1 : ℕ) → LongEnough (set_in edition kb1)
set_in_long Iso14230 kb1 = named_long kb1
set_in_long Car08 kb1 = record { p2max_long = lit≤ tt; p3max_long = lit≤ tt }
set_in_long Car94 kb1 = record { p2max_long = lit≤ tt; p3max_long = lit≤ tt }

pub set_long : (pair : Pair) → LongEnough (set_of pair)
unfolding set_of
set_long pair = set_in_long (edition_of pair) pair.kb1
