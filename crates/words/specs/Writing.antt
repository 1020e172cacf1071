-- Words written at a place of a lent buffer, each byte a number. Assumes nothing.
use Rattle.std.specs.Prelude.{ℕ, zero, suc, ◌+◌, ◌/◌, ◌%◌, ◌≤◌, ◌≡◌, Bool, List, [], ◌∷◌, ◌++◌, leb, ltb, length, take, drop, if◌then◌else◌}
use Rattle.words.specs.Digits.{high_of, low_of}

abbrev pub space : ℕ
space = 32

abbrev pub line_feed : ℕ
line_feed = 10

abbrev pub dash : ℕ
dash = 45

-- ---- decimal numbers
-- how many decimal digits n has, if it has f + 1 or fewer
unfoldable pub digit_count : ℕ → ℕ → ℕ
digit_count zero n = 1
digit_count (suc f) n = if ltb n 10 then 1 else suc (digit_count f (n / 10))

-- the last k decimal digits of n
unfoldable pub digits_of : ℕ → ℕ → List ℕ
digits_of zero n = []
digits_of (suc k) n = digits_of k (n / 10) ++ ((48 + n % 10) ∷ [])

-- a number of up to 20 digits with no zeros in front, and a byte after it
unfoldable pub number_text : ℕ → ℕ → List ℕ
number_text n behind = digits_of (digit_count 19 n) n ++ (behind ∷ [])

-- the most bytes that it has: 20 digits, and the byte after them
abbrev pub number_most : ℕ
number_most = 21

-- ---- bytes by their hex digits
-- two digits a byte
unfoldable pub hex_text : List ℕ → List ℕ
hex_text [] = []
hex_text (x ∷ xs) = high_of x ∷ low_of x ∷ hex_text xs

-- one, and a byte after it
abbrev pub byte_text : ℕ → ℕ → List ℕ
byte_text x behind = high_of x ∷ low_of x ∷ behind ∷ []

-- any number of them, `-` for none, and a byte after them
unfoldable pub bytes_text : List ℕ → ℕ → List ℕ
bytes_text [] behind = dash ∷ behind ∷ []
bytes_text (x ∷ xs) behind = hex_text (x ∷ xs) ++ (behind ∷ [])

-- ---- where a text is written
-- out with p written over it from at on
unfoldable pub put : ℕ → List ℕ → List ℕ → List ℕ
put at p out = take at out ++ (p ++ drop (at + length p) out)

-- out has `most` bytes or more from at on
abbrev pub fits : ℕ → ℕ → List ℕ → Bool
fits at most out = leb (at + most) (length out)

-- what a public function promises: where the buffer has `most` bytes or more from at on, the text p is written there and the answer is the place
-- after it; where it has not, nothing is written and the answer is at
pub record Writes (p : List ℕ) (most at : ℕ) (out : List ℕ) (r : ℕ) (after : List ℕ) : Type 0 where
  pub place : r ≡ (if fits at most out then at + length p else at)
  pub memory : after ≡ (if fits at most out then put at p out else out)

-- what the functions below them promise: p, which has at most `most` bytes, was written at `at`, and r is the place after it
pub record Puts (at : ℕ) (p : List ℕ) (most : ℕ) (out : List ℕ) (r : ℕ) (after : List ℕ) : Type 0 where
  pub place : r ≡ at + length p
  pub small : length p ≤ most
  pub memory : after ≡ put at p out
  pub kept : length after ≡ length out
