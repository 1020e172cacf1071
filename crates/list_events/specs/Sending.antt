-- What a call of `list` answers, and what goes out: where the bytes that a writer holds and those that a reader has left are known, all of them.
-- Assumes nothing.
use Rattle.std.specs.Prelude.{ℕ, ◌≡◌, ◌<◌, ◌≤◌, List, [], ◌++◌, Option, length}
use Rattle.std.specs.Io.KnownBytes.{IsAtEnd}
use Rattle.listing.specs.Listing.{feed, ending_of, fresh_lister}
use Rattle.listing.specs.declared.Lister.{Lister}

-- the lister is the one that all of the bytes give one by one
abbrev pub Listed : Lister → List ℕ → Lister → Type 0
Listed l s after = after ≡ (feed (record { lister = l; said = [] }) s).lister

-- what is written for bytes, one by one
abbrev pub said_by : Lister → List ℕ → List ℕ
said_by l s = (feed (record { lister = l; said = [] }) s).said

-- a whole listing behind its header: what is written for all bytes of an input, and at its end
abbrev pub behind_head : List ℕ → List ℕ
behind_head input = said_by fresh_lister input ++ ending_of (feed (record { lister = fresh_lister; said = [] }) input).lister

-- A read gave so many bytes, at the front of a buffer: none only at the end of the input, of which this is known to be left.
pub record HasRead (left : Option (List ℕ)) (n : ℕ) (buf : List ℕ) : Type 0 where
  pub room : 0 < length buf
  pub within : n ≤ length buf
  pub end : n ≡ 0 → IsAtEnd left
