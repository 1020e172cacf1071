-- Which numbers are read, said without what the code keeps on the way: those after a space, of one digit or more, that are not above the bound.
-- Assumes nothing.
use Prim.Native.Nat.{ℕ, ◌+◌, ◌≤◌, ◌<◌}
use mathlib.Core.Path.{◌≡◌, refl}
use mathlib.Core.Bool.{Bool, true, false}
use mathlib.Core.List.{List}
use lib.Dec.{eqb, leb}
use lib.ListN.{drop}
use borrow.Author.Tests.{le-leb, lt-leb, eq-eqb, ne_eqb}
use native.Mathlib.Omega.{arith}
use Rattle.std.specs.Prelude.{Option, Some, None, option_and_then, if◌then◌else◌}
use Rattle.base.specs.Sums.{greatest}
use Rattle.words.specs.Digits.{is_digit}
use Rattle.words.specs.Reading.{start_of, run_of, number_by, held, number_in, number_at}
use Rattle.words.specs.declared.Word.{Word}

-- a number that is not above the bound is read, with all of its digits
pub number_taken : (s : List ℕ) (at most w : ℕ) → most ≤ greatest → start_of s at ≡ Some w → 0 < run_of is_digit (drop w s) → number_by 0 (drop w s) ≤ most
    → number_at s at most ≡ Some (record { value = number_by 0 (drop w s); to = w + run_of is_digit (drop w s) })
unfolding number_at number_in
number_taken s at most w m e p l =
    let n = number_by 0 (drop w s) in
    rw (e, ne_eqb (run_of is_digit (drop w s)) 0 (λ z. omega arith), le-leb n greatest (omega arith), le-leb n most l)

above_by : (a b : Bool) (n most to : ℕ) → eqb to 0 ≡ a → leb n greatest ≡ b → most < n → (w : ℕ)
    → ◌≡◌ {A = Option (Word ℕ)}
    (if eqb to 0 then None else option_and_then (λ k. if leb k most then Some (record { value = k; to = w }) else None) (held n)) None
above_by true b n most to f g h w = rw f
above_by false true n most to f g h w = rw (f, g, lt-leb n most h)
above_by false false n most to f g h w = rw (f, g)

-- one above it is not, ..
pub number_above : (s : List ℕ) (at most w : ℕ) → start_of s at ≡ Some w → most < number_by 0 (drop w s) → number_at s at most ≡ None
unfolding number_at number_in
number_above s at most w e h =
    let n = number_by 0 (drop w s) in
    let k = run_of is_digit (drop w s) in
    rw e (above_by (eqb k 0) (leb n greatest) n most k refl refl h (w + k))

-- .. nor is what has no digit, ..
pub number_none : (s : List ℕ) (at most w : ℕ) → start_of s at ≡ Some w → run_of is_digit (drop w s) ≡ 0 → number_at s at most ≡ None
unfolding number_at number_in
number_none s at most w e h = rw (e, eq-eqb (run_of is_digit (drop w s)) 0 h)

-- .. nor what no space stands before
pub number_unspaced : (s : List ℕ) (at most : ℕ) → start_of s at ≡ None → number_at s at most ≡ None
unfolding number_at
number_unspaced s at most h = rw h

-- a number is read where its word starts
pub number_by_lem : (s : List ℕ) (at most w : ℕ) → start_of s at ≡ Some w → number_at s at most ≡ number_in s most w
unfolding number_at
number_by_lem s at most w e = rw e refl

-- whether a word starts there or none: what is not read where one starts is not read, ..
wherever : (s : List ℕ) (at most : ℕ) (o : Option ℕ) → start_of s at ≡ o → ((w : ℕ) → start_of s at ≡ Some w → number_at s at most ≡ None) → number_at s at most ≡ None
wherever s at most None e h = number_unspaced s at most e
wherever s at most (Some w) e h = h w e

-- .. so a number above the bound, ..
pub number_too_great : (s : List ℕ) (at most : ℕ) → ((w : ℕ) → start_of s at ≡ Some w → most < number_by 0 (drop w s)) → number_at s at most ≡ None
number_too_great s at most h = wherever s at most (start_of s at) refl (λ w e. number_above s at most w e (h w e))

-- .. and no digit
pub number_no_digit : (s : List ℕ) (at most : ℕ) → ((w : ℕ) → start_of s at ≡ Some w → run_of is_digit (drop w s) ≡ 0) → number_at s at most ≡ None
number_no_digit s at most h = wherever s at most (start_of s at) refl (λ w e. number_none s at most w e (h w e))
