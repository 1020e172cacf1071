-- Where digits lie. Assumes nothing.
use Prim.Native.Nat.{ℕ, ◌≤◌}
use mathlib.Core.Path.{◌≡◌}
use mathlib.Core.Bool.{true}
use lib.Dec.{leb}
use borrow.Author.Tests.{leb-true}
use Rattle.base.proofs.Tests.{and_split}
use Rattle.words.specs.Digits.{is_digit, is_capital}

-- ---- where a digit lies
pub digit_within : (b : ℕ) → is_digit b ≡ true → (0x30 ≤ b) × (b ≤ 0x39)
unfolding is_digit
digit_within b e = let p = and_split (leb 0x30 b) (leb b 0x39) e in (leb-true 0x30 b p.0, leb-true b 0x39 p.1)

pub capital_within : (b : ℕ) → is_capital b ≡ true → (0x41 ≤ b) × (b ≤ 0x46)
unfolding is_capital
capital_within b e = let p = and_split (leb 0x41 b) (leb b 0x46) e in (leb-true 0x41 b p.0, leb-true b 0x46 p.1)
