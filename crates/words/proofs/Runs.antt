-- Laws of what is read byte by byte. Assumes nothing.
use Prim.Native.Nat.{ℕ, ◌+◌, ◌*◌, ◌-◌, ◌≤◌, ◌<◌}
use mathlib.Core.Path.{◌≡◌}
use mathlib.Core.Bool.{Bool, true, false}
use mathlib.Core.List.{List, [], ◌∷◌}
use lib.ListN.{length, get_or, drop, drop_of_length-le}
use lib.Seq.{drop-cons}
use native.Mathlib.Omega.{arith}
use native.Mathlib.Numerals.{add-one}
use Rattle.std.specs.Prelude.{if◌then◌else◌}
use Rattle.words.specs.Digits.{is_digit}
use Rattle.words.specs.Reading.{number_by}

-- a list from one of its places on
pub here : (s : List ℕ) (i : ℕ) → i < length s → drop i s ≡ get_or s i 0 ∷ drop (i + 1) s
here s i h = rw add-one (drop-cons s i 0 h)

-- ---- a number: with one digit more, ..
pub number_on : (n : ℕ) (s : List ℕ) (i : ℕ) → i < length s → is_digit (get_or s i 0) ≡ true
    → number_by n (drop i s) ≡ number_by (n * 10 + (get_or s i 0 - 0x30)) (drop (i + 1) s)
unfolding number_by
number_on n s i h e = rw (here s i h, e)

-- .. where no digit is next, ..
pub number_stop : (n : ℕ) (s : List ℕ) (i : ℕ) → i < length s → is_digit (get_or s i 0) ≡ false → number_by n (drop i s) ≡ n
unfolding number_by
number_stop n s i h e = rw (here s i h, e)

-- .. and at the end
pub number_end : (n : ℕ) (s : List ℕ) (i : ℕ) → length s ≤ i → number_by n (drop i s) ≡ n
unfolding number_by
number_end n s i h = rw (drop_of_length-le s {i = i} h)

-- digits never make a number less
grows_by : (t : Bool) (n m : ℕ) (k : ℕ) → n ≤ k → m ≤ n → m ≤ (if t then k else m)
grows_by true n m k h l = omega arith
grows_by false n m k h l = omega arith

number_grows : (n : ℕ) (bs : List ℕ) → n ≤ number_by n bs
unfolding number_by
number_grows n [] = omega arith
number_grows n (b ∷ bs) =
    grows_by (is_digit b) (n * 10 + (b - 0x30)) n (number_by (n * 10 + (b - 0x30)) bs) (number_grows (n * 10 + (b - 0x30)) bs) (omega arith)

-- so it is at least what one digit more makes of it
pub number_over : (n : ℕ) (s : List ℕ) (i : ℕ) → i < length s → is_digit (get_or s i 0) ≡ true
    → n * 10 + (get_or s i 0 - 0x30) ≤ number_by n (drop i s)
number_over n s i h e = rw (number_on n s i h e) (number_grows (n * 10 + (get_or s i 0 - 0x30)) (drop (i + 1) s))
