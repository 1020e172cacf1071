-- For who calls: a number that was read is no more than was allowed; bytes that were read are no more than the buffer has room for, and it is as long as it
-- was. Assumes nothing.
use Prim.Native.Nat.{ℕ, ◌+◌, ◌*◌, ◌/◌, ◌%◌, ◌≤◌}
use mathlib.Core.Path.{◌≡◌, refl}
use mathlib.Core.Bool.{Bool, true, false, not, ◌||◌}
use mathlib.Core.List.{List}
use lib.Dec.{eqb, leb, ltb}
use lib.ListN.{length, drop, get_or}
use borrow.Author.Tests.{leb-true, ltb-false}
use native.Mathlib.Omega.{arith}
use Rattle.std.specs.Prelude.{Option, Some, None, IfSome, if◌then◌else◌}
use Rattle.std.specs.Option.{option_and_then}
use Rattle.words.specs.Digits.{is_digit, is_hex}
use Rattle.words.specs.Writing.{dash, put}
use Rattle.words.specs.Reading.{start_of, number_by, held, run_of, number_in, number_at, pairs_in, bytes_in, bytes_at, pairs, with_read, ReadsBytes}
use Rattle.words.specs.declared.Word.{Word}
use Rattle.words.proofs.Written.{length_put}
use Rattle.words.proofs.Pairs.{length_pairs}

-- a value that is this or less
abbrev pub Within : ℕ → Option (Word ℕ) → Type 0
Within most r = IfSome r (λ (x : Word ℕ). x.value ≤ most)

none_or : (t : Bool) (most : ℕ) (r : Option (Word ℕ)) → Within most r → Within most (if t then None else r)
none_or true most r p = tt
none_or false most r p = p

tested : (t : Bool) (n most to : ℕ) → leb n most ≡ t → Within most (if t then Some (record { value = n; to = to }) else None)
tested true n most to e = leb-true n most e
tested false n most to e = tt

number_held : (n : Option ℕ) (most to : ℕ) → Within most (option_and_then (λ (k : ℕ). if leb k most then Some (record { value = k; to = to }) else None) n)
number_held None most to = tt
number_held (Some k) most to = tested (leb k most) k most to refl

number_from : (s : List ℕ) (most : ℕ) (w : Option ℕ) → Within most (option_and_then (number_in s most) w)
unfolding number_in
number_from s most None = tt
number_from s most (Some w) =
    none_or (eqb (run_of is_digit (drop w s)) 0) most _ (number_held (held (number_by 0 (drop w s))) most (w + run_of is_digit (drop w s)))

pub number_fits : (s : List ℕ) (at most : ℕ) (r : Option (Word ℕ)) → r ≡ number_at s at most → Within most r
unfolding number_at
number_fits s at most r e = rw e (number_from s most (start_of s at))

half_within : (u : Bool) (n most to : ℕ) → ltb most (n / 2) ≡ u → Within most (if u then None else Some (record { value = n / 2; to = to }))
half_within true n most to e = tt
half_within false n most to e = ltb-false most (n / 2) e

pairs_within : (w n most : ℕ) → Within most (pairs_in w n most)
unfolding pairs_in
pairs_within w n most = none_or (eqb n 0 || not (eqb (n % 2) 0)) most _ (half_within (ltb most (n / 2)) n most (w + n) refl)

dash_or : (t : Bool) (most to : ℕ) (r : Option (Word ℕ)) → Within most r → Within most (if t then Some (record { value = 0; to = to }) else r)
dash_or true most to r p = omega arith
dash_or false most to r p = p

bytes_from : (s : List ℕ) (most : ℕ) (w : Option ℕ) → Within most (option_and_then (bytes_in s most) w)
unfolding bytes_in
bytes_from s most None = tt
bytes_from s most (Some w) =
    dash_or (eqb (get_or s w 0) dash) most (w + 1) _ (pairs_within w (run_of is_hex (drop w s)) most)

bytes_fit : (s : List ℕ) (at most : ℕ) → Within most (bytes_at s at most)
unfolding bytes_at
bytes_fit s at most = bytes_from s most (start_of s at)

kept : (s : List ℕ) (at : ℕ) (out : List ℕ) (r : Option (Word ℕ)) → Within (length out) r → length (with_read s at out r) ≡ length out
unfolding with_read
kept s at out None p = refl
kept s at out (Some r) p = length_put 0 (pairs r.value (drop (at + 1) s)) out (omega (arith, length_pairs r.value (drop (at + 1) s), p))

pub read_room : (s : List ℕ) (at : ℕ) (out : List ℕ) (r : Option (Word ℕ)) (after : List ℕ) → ReadsBytes s at out r after
    → Within (length after) r × (length after ≡ length out)
read_room s at out r after p =
    let fit = bytes_fit s at (length out) in
    let l : length after ≡ length out = rw p.memory (kept s at out (bytes_at s at (length out)) fit) in
    (rw (p.answer, l) fit, l)
