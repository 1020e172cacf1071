-- Words read at a place of a line. A word other than the first is read with the space before it, so that a place is where one word has ended and the
-- next begins with its space. At the place 0 no word has ended, and nothing is read there. In quotation marks: README, "Questions".
-- Assumes nothing.
use Rattle.std.specs.Prelude.{ℕ, zero, suc, ◌+◌, ◌-◌, ◌*◌, ◌/◌, ◌%◌, ◌≡◌, Bool, ◌&&◌, ◌||◌, not, List, [], ◌∷◌, ◌++◌, Option, Some, None, option_and_then, option_map, eqb, leb, ltb, length, get_or, drop, if◌then◌else◌}
use Rattle.std.specs.List.{starts_with, prefix_len}
use Rattle.base.specs.Sums.{greatest}
use Rattle.words.specs.Digits.{is_digit, is_hex, pair_of, front_byte}
use Rattle.words.specs.Writing.{space, dash, put}
use Rattle.words.specs.declared.Word.{Word}

-- "One space between words": where the next word starts after the one that ended at `at`
unfoldable pub start_of : List ℕ → ℕ → Option ℕ
start_of s at = if ltb 0 at && eqb (get_or s at 0) space then Some (at + 1) else None

-- the line ends there
unfoldable pub is_end : List ℕ → ℕ → Bool
is_end s at = ltb 0 at && eqb at (length s)

-- ---- letters
-- the place after these letters, at the front of a line and at a word's place. That the word ends with them is seen by what is read next, which begins
-- with a space, or by `is_end`.
unfoldable pub first_word : List ℕ → List ℕ → Option ℕ
first_word s name = if starts_with eqb s name then Some (length name) else None

unfoldable pub word_at : List ℕ → ℕ → List ℕ → Option ℕ
word_at s at name = option_and_then (λ w. option_map (λ n. w + n) (first_word (drop w s) name)) (start_of s at)

-- ---- "two hex digits"
unfoldable pub byte_at : List ℕ → ℕ → Option (Word ℕ)
byte_at s at = option_and_then (λ w. option_map (λ x. record { value = x; to = w + 2 }) (front_byte (drop w s))) (start_of s at)

-- how many bytes at the front meet a test
abbrev pub run_of : (ℕ → Bool) → List ℕ → ℕ
run_of test s = prefix_len test s

-- ---- "decimal numbers"
-- what the digits at the front say after n: each counts ten times what stands before it, and itself
unfoldable pub number_by : ℕ → List ℕ → ℕ
number_by n [] = n
number_by n (b ∷ bs) = if is_digit b then number_by (n * 10 + (b - 0x30)) bs else n

-- a number that 64 bits hold
abbrev pub held : ℕ → Option ℕ
held n = if leb n greatest then Some n else None

-- "a number that is too large for its place" is not read: one that is `most` or less is, if 64 bits hold it
unfoldable pub number_in : List ℕ → ℕ → ℕ → Option (Word ℕ)
number_in s most w =
    if eqb (run_of is_digit (drop w s)) 0 then None else
    option_and_then
    (λ n. if leb n most then Some (record { value = n; to = w + run_of is_digit (drop w s) }) else None)
    (held (number_by 0 (drop w s)))

unfoldable pub number_at : List ℕ → ℕ → ℕ → Option (Word ℕ)
number_at s at most = option_and_then (number_in s most) (start_of s at)

-- ---- "any number of pairs of them, or `-` for none"
-- how many bytes stand at w, `most` or fewer, and the place after them: by n digits, ..
unfoldable pub pairs_in : ℕ → ℕ → ℕ → Option (Word ℕ)
pairs_in w n most =
    if eqb n 0 || not (eqb (n % 2) 0) then None else
    if ltb most (n / 2) then None else Some (record { value = n / 2; to = w + n })

-- .. or by what stands there
unfoldable pub bytes_in : List ℕ → ℕ → ℕ → Option (Word ℕ)
bytes_in s most w =
    if eqb (get_or s w 0) dash then Some (record { value = 0; to = w + 1 }) else pairs_in w (run_of is_hex (drop w s)) most

unfoldable pub bytes_at : List ℕ → ℕ → ℕ → Option (Word ℕ)
bytes_at s at most = option_and_then (bytes_in s most) (start_of s at)

-- the first k of them
unfoldable pub pairs : ℕ → List ℕ → List ℕ
pairs zero d = []
pairs (suc k) d = pairs k d ++ (pair_of (get_or d (2 * k) 0) (get_or d (2 * k + 1) 0) ∷ [])

-- a buffer with so many bytes at its front that were read behind the space at `at`; where none were read, as it was
unfoldable pub with_read : List ℕ → ℕ → List ℕ → Option (Word ℕ) → List ℕ
with_read s at out None = out
with_read s at out (Some r) = put 0 (pairs r.value (drop (at + 1) s)) out

-- what `read_bytes` promises: its answer, and the lent buffer
pub record ReadsBytes (s : List ℕ) (at : ℕ) (out : List ℕ) (r : Option (Word ℕ)) (after : List ℕ) : Type 0 where
  pub answer : r ≡ bytes_at s at (length out)
  pub memory : after ≡ with_read s at out (bytes_at s at (length out))
