-- What good pairs are, by one test that antt computes over all 256 values of KB1, at KB2 8F; every other KB2 fails the first condition. Assumes nothing.
use mathlib.Core.Path.{◌≡◌, refl}
use mathlib.Core.Bool.{Bool, true, false, ◌&&◌}
use Prim.Native.Nat.{ℕ, ◌<◌}
use borrow.Author.Tests.{eqb-true}
use lib.Dec.{eqb}
use Rattle.std.proofs.lemmas.Bool.{agree_below, agree_below_at}
use Rattle.keys.specs.Keys.{good_pair}

-- a test that agrees at each KB1 with the pair of this KB1 and 8F says which pairs are good
pub good_by : (test : ℕ → Bool) → agree_below (λ k. good_pair k 0x8F) test 256 ≡ true → (kb1 kb2 : ℕ) → kb1 < 256
    → good_pair kb1 kb2 ≡ (eqb kb2 0x8F && test kb1)
unfolding good_pair
good_by test agrees kb1 kb2 h = by_kb2 (eqb kb2 0x8F) refl
  where
    by_kb2 : (b : Bool) → eqb kb2 0x8F ≡ b → good_pair kb1 kb2 ≡ (b && test kb1)
    by_kb2 true e = rw (eqb-true kb2 0x8F e) (agree_below_at (λ k. good_pair k 0x8F) test 256 kb1 agrees h)
    by_kb2 false e = rw e
