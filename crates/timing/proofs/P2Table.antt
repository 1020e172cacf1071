-- The rule of P2 max, proved over the whole table: one test that antt computes, and a lemma at each entry. Assumes nothing.
use mathlib.Core.Path.{◌≡◌, refl}
use mathlib.Core.Bool.{Bool}
use Prim.Native.Nat.{ℕ, ◌<◌}
use borrow.Author.Tests.{eqb-true}
use lib.Dec.{eqb}
use lib.ListN.{get_or}
use Rattle.base.proofs.Tests.{at_each}
use Rattle.timing.specs.Timing.{p2_half}
use Rattle.timing.specs.P2Table.{table}

-- entry k is what the rule gives for the code k
right : ℕ → Bool
right k = eqb (get_or table k 0) (p2_half k).0

pub rule : (k : ℕ) → k < 256 → get_or table k 0 ≡ (p2_half k).0
unfolding table right p2_half
rule k h = eqb-true (get_or table k 0) (p2_half k).0 (at_each right 256 refl k h)
