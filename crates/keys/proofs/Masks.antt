-- The conditions on KB1 as the code asks them, by masks and counts of ones. Assumes nothing.
use mathlib.Core.Path.{◌≡◌, refl}
use mathlib.Core.Bool.{Bool, ◌&&◌, not}
use Prim.Native.Nat.{ℕ, ◌<◌, ◌%◌}
use lib.Count.{ones, ones_in}
use lib.Dec.{eqb}
use Rattle.std.specs.Prelude.{bit_and}
use Rattle.std.proofs.lemmas.Bool.{agree_below_at}
use Rattle.keys.specs.Keys.{good_pair, length_in_format, extra_length, no_addresses, with_addresses, is_extended}
use Rattle.keys.proofs.AllKeys.{good_by}

-- whether one of a mask's bits is set
abbrev set : ℕ → ℕ → Bool
set mask kb1 = not (eqb (bit_and kb1 mask) 0)

abbrev asked : ℕ → Bool
asked kb1 = eqb (ones kb1 % 2) 1 && set 0x40 kb1 && eqb (ones (bit_and kb1 0x30)) 1 && set 0x03 kb1 && set 0x0C kb1

pub good_by_masks : (kb1 kb2 : ℕ) → kb1 < 256 → good_pair kb1 kb2 ≡ (eqb kb2 0x8F && asked kb1)
unfolding good_pair length_in_format extra_length no_addresses with_addresses ones ones_in
good_by_masks = good_by asked refl

pub extra_length_by_mask : (kb1 : ℕ) → kb1 < 256 → extra_length kb1 ≡ set 0x02 kb1
unfolding extra_length
extra_length_by_mask kb1 = agree_below_at extra_length (set 0x02) 256 kb1 refl

pub no_addresses_by_mask : (kb1 : ℕ) → kb1 < 256 → no_addresses kb1 ≡ set 0x04 kb1
unfolding no_addresses
no_addresses_by_mask kb1 = agree_below_at no_addresses (set 0x04) 256 kb1 refl

pub with_addresses_by_mask : (kb1 : ℕ) → kb1 < 256 → with_addresses kb1 ≡ set 0x08 kb1
unfolding with_addresses
with_addresses_by_mask kb1 = agree_below_at with_addresses (set 0x08) 256 kb1 refl

pub is_extended_by_mask : (kb1 : ℕ) → kb1 < 256 → is_extended kb1 ≡ set 0x10 kb1
unfolding is_extended
is_extended_by_mask kb1 = agree_below_at is_extended (set 0x10) 256 kb1 refl
