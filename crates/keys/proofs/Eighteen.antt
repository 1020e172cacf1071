-- The good pairs are the eighteen of document 01 and no other. Assumes nothing.
use mathlib.Core.Path.{◌≡◌, refl}
use mathlib.Core.Bool.{◌&&◌}
use Prim.Native.Nat.{ℕ, ◌<◌}
use lib.Dec.{eqb}
use Rattle.keys.specs.Keys.{good_pair, eighteen, is_in, length_in_format, extra_length, no_addresses, with_addresses}
use Rattle.keys.proofs.AllKeys.{good_by}

-- OVER ALL PAIRS of bytes (of KB2, over every number): good is one of the eighteen, with 8F
pub good_pairs : (kb1 kb2 : ℕ) → kb1 < 256 → good_pair kb1 kb2 ≡ (eqb kb2 0x8F && is_in kb1 eighteen)
unfolding good_pair length_in_format extra_length no_addresses with_addresses is_in eighteen
good_pairs = good_by (λ kb1. is_in kb1 eighteen) refl
