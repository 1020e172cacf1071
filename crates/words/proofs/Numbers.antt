-- The digits written are those of the number: read as a decimal number they give it back, and no zero stands in front. Assumes nothing.
use Prim.Native.Nat.{ℕ, zero, suc, ◌+◌, ◌*◌, ◌-◌, ◌/◌, ◌%◌, ◌≤◌, ◌<◌, ◌^◌}
use mathlib.Core.Path.{◌≡◌, refl, sym, ◌∙◌}
use mathlib.Core.Bool.{Bool, true, false, false≢true}
use mathlib.Core.List.{List, [], ◌∷◌, ◌++◌}
use lib.Dec.{ltb}
use lib.ListN.{length, get_or}
use borrow.Author.Tests.{ltb-true, ltb-false}
use native.Mathlib.Omega.{arith}
use native.Mathlib.Nat.{pow-succ'}
use Rattle.std.specs.Prelude.{if◌then◌else◌}
use Rattle.words.specs.Writing.{digit_count, digits_of}
use Rattle.words.proofs.Spelling.{count_end, length_digits}

-- what decimal digits say: each counts ten times what stands before it, and itself
unfoldable pub value_from : ℕ → List ℕ → ℕ
value_from v [] = v
value_from v (d ∷ ds) = value_from (v * 10 + (d - 48)) ds

unfoldable pub value_of : List ℕ → ℕ
value_of ds = value_from 0 ds

value_last : (v : ℕ) (ds : List ℕ) (d : ℕ) → value_from v (ds ++ (d ∷ [])) ≡ value_from v ds * 10 + (d - 48)
unfolding value_from
value_last v [] d = refl
value_last v (x ∷ ds) d = value_last (v * 10 + (x - 48)) ds d

tenth : (k n : ℕ) → n < 10 ^ suc k → n / 10 < 10 ^ k
tenth k n h = omega (arith, pow-succ' 10 k)

tenfold : (k n : ℕ) → n / 10 < 10 ^ k → n < 10 ^ suc k
tenfold k n h = omega (arith, pow-succ' 10 k)

value_digits : (k n : ℕ) → n < 10 ^ k → value_from 0 (digits_of k n) ≡ n
unfolding digits_of value_from
value_digits zero n h = omega arith
value_digits (suc k) n h =
    value_last 0 (digits_of k (n / 10)) (48 + n % 10)
    ∙ rw (value_digits k (n / 10) (tenth k n h)) (omega arith)

-- as many digits as counted are enough
enough_by : (b : Bool) (n p : ℕ) → (b ≡ true → n < 10) → (b ≡ false → n / 10 < 10 ^ p) → n < 10 ^ (if b then 1 else suc p)
enough_by true n p h k = h refl
enough_by false n p h k = tenfold p n (k refl)

enough : (f n : ℕ) → n < 10 ^ suc f → n < 10 ^ digit_count f n
unfolding digit_count
enough zero n h = h
enough (suc f) n h = enough_by (ltb n 10) n (digit_count f (n / 10)) (λ e. ltb-true n 10 e) (λ e. enough f (n / 10) (tenth (suc f) n h))

-- The digits written are those of the number.
pub number_reads : (n : ℕ) → n < 10 ^ 20 → value_of (digits_of (digit_count 19 n) n) ≡ n
unfolding value_of
number_reads n h = value_digits (digit_count 19 n) n (enough 19 n h)

-- the first digit
front : (xs ys : List ℕ) → 0 < length xs → get_or (xs ++ ys) 0 0 ≡ get_or xs 0 0
front [] ys h = absurd (omega arith)
front (x ∷ xs) ys h = refl

some_digits : (f n : ℕ) → 0 < digit_count f n
unfolding digit_count
some_digits zero n = omega arith
some_digits (suc f) n = some_by (ltb n 10) (digit_count f (n / 10))
  where
    some_by : (b : Bool) (p : ℕ) → 0 < (if b then 1 else suc p)
    some_by true p = omega arith
    some_by false p = omega arith

first_by : (b : Bool) (n p : ℕ) → 1 ≤ n → 0 < p → (b ≡ true → n < 10) → (b ≡ false → get_or (digits_of p (n / 10)) 0 0 ≡ 48 → ⊥)
    → get_or (digits_of (if b then 1 else suc p) n) 0 0 ≡ 48 → ⊥
unfolding digits_of
first_by true n p some pos h k e = let l = h refl in absurd (omega arith)
first_by false n p some pos h k e =
    k refl (sym (front (digits_of p (n / 10)) ((48 + n % 10) ∷ []) (rw (length_digits p (n / 10)) pos)) ∙ e)

first_digit : (f n : ℕ) → n < 10 ^ suc f → 1 ≤ n → get_or (digits_of (digit_count f n) n) 0 0 ≡ 48 → ⊥
unfolding digit_count
first_digit zero n h some e = first_by true n 1 some (omega arith) (λ _. h) (λ t. absurd (false≢true (sym t))) e
first_digit (suc f) n h some e =
    first_by (ltb n 10) n (digit_count f (n / 10)) some (some_digits f (n / 10)) (λ t. ltb-true n 10 t)
    (λ t. let l = ltb-false n 10 t in first_digit f (n / 10) (tenth (suc f) n h) (omega arith)) e

-- A number of two or more digits does not start with 0.
pub no_zero_in_front : (n : ℕ) → n < 10 ^ 20 → 2 ≤ length (digits_of (digit_count 19 n) n) → get_or (digits_of (digit_count 19 n) n) 0 0 ≡ 48 → ⊥
no_zero_in_front zero h two = let l = length_digits (digit_count 19 0) 0 in let p = count_end 19 0 (omega arith) in absurd (omega arith)
no_zero_in_front (suc n) h two = first_digit 19 (suc n) h (omega arith)
