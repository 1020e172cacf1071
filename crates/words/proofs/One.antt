-- Any two results that meet a public function's promise are equal, and so is the memory that they leave. Assumes nothing.
use mathlib.Core.Path.{◌≡◌}
use mathlib.Core.Bool.{Bool}
use mathlib.Core.List.{List}
use Prim.Native.Nat.{ℕ, ◌+◌}
use lib.Dec.{leb}
use lib.ListN.{length}
use Rattle.std.specs.Prelude.{Option, if◌then◌else◌}
use Rattle.base.proofs.One.{Only, only, only_both}
use Rattle.words.specs.Digits.{is_digit, digit_of}
use Rattle.words.specs.Reading.{is_end, first_word, word_at, byte_at, number_at, bytes_at, with_read, ReadsBytes}
use Rattle.words.specs.Writing.{number_text, number_most, byte_text, bytes_text, put, fits, Writes}
use Rattle.words.specs.declared.Word.{Word}

pub is_digit_lem : (b : ℕ) → Only (λ (r : Bool). r ≡ is_digit b)
is_digit_lem b = only (is_digit b)

pub hex : (b : ℕ) → Only (λ (r : Option ℕ). r ≡ digit_of b)
hex b = only (digit_of b)

pub is_end_lem : (s : List ℕ) (at : ℕ) → Only (λ (r : Bool). r ≡ is_end s at)
is_end_lem s at = only (is_end s at)

pub read_first : (s name : List ℕ) → Only (λ (r : Option ℕ). r ≡ first_word s name)
read_first s name = only (first_word s name)

pub read_word : (s : List ℕ) (at : ℕ) (name : List ℕ) → Only (λ (r : Option ℕ). r ≡ word_at s at name)
read_word s at name = only (word_at s at name)

pub read_byte_lem : (s : List ℕ) (at : ℕ) → Only (λ (r : Option (Word ℕ)). r ≡ byte_at s at)
read_byte_lem s at = only (byte_at s at)

pub read_number : (s : List ℕ) (at most : ℕ) → Only (λ (r : Option (Word ℕ)). r ≡ number_at s at most)
read_number s at most = only (number_at s at most)

pub read_bytes : (s : List ℕ) (at : ℕ) (out : List ℕ) → Only (λ (x : Option (Word ℕ) × List ℕ). ReadsBytes s at out x.0 x.1)
read_bytes s at out =
    only_both (bytes_at s at (length out)) (with_read s at out (bytes_at s at (length out))) (λ x r. (r.answer, r.memory))

pub has_room : (len at most : ℕ) → Only (λ (r : Bool). r ≡ leb (at + most) len)
has_room len at most = only (leb (at + most) len)

-- the promise of what writes fixes both, whatever the text
pub writes : (p : List ℕ) (most at : ℕ) (out : List ℕ) → Only (λ (x : ℕ × List ℕ). Writes p most at out x.0 x.1)
writes p most at out =
    only_both (if fits at most out then at + length p else at) (if fits at most out then put at p out else out) (λ x w. (w.place, w.memory))

pub put_text : (at : ℕ) (s out : List ℕ) → Only (λ (x : ℕ × List ℕ). Writes s (length s) at out x.0 x.1)
put_text at s out = writes s (length s) at out

pub put_number : (at n behind : ℕ) (out : List ℕ) → Only (λ (x : ℕ × List ℕ). Writes (number_text n behind) number_most at out x.0 x.1)
put_number at n behind out = writes (number_text n behind) number_most at out

pub put_byte : (at x behind : ℕ) (out : List ℕ) → Only (λ (y : ℕ × List ℕ). Writes (byte_text x behind) 3 at out y.0 y.1)
put_byte at x behind out = writes (byte_text x behind) 3 at out

pub put_bytes : (at : ℕ) (s : List ℕ) (behind : ℕ) (out : List ℕ)
    → Only (λ (x : ℕ × List ℕ). Writes (bytes_text s behind) (length (bytes_text s behind)) at out x.0 x.1)
put_bytes at s behind out = writes (bytes_text s behind) (length (bytes_text s behind)) at out
