-- A part of the input, listed into a lent buffer. Assumes nothing.
use Rattle.std.specs.Prelude.{ℕ, ◌+◌, ◌-◌, ◌≡◌, List, [], ◌∷◌, leb, ltb, length, if◌then◌else◌}
use Rattle.words.specs.Writing.{put}
use Rattle.text.specs.Text.{reports_most, end_most}
use Rattle.listing.specs.Listing.{Feed, feed_byte}
use Rattle.listing.specs.declared.Lister.{Lister}
use Rattle.listing.specs.declared.Part.{Part}

-- the most bytes that are written for a byte of the input: for a line feed an answer's lines, which are a refusal's or its reports'
abbrev pub answer_most : ℕ
answer_most = reports_most

-- the most at the end of the input: an answer's lines, for a last line without its line feed, and the end line
abbrev pub ending_most : ℕ
ending_most = answer_most + end_most

-- how far a part is read
pub record Extent : Type 0 where
  pub feed : Feed
  pub at : ℕ

-- Bytes are read while no more than `room` are written; the next of them stands at `at`.
unfoldable pub takes : ℕ → Feed → List ℕ → ℕ → Extent
takes room f [] at = record { feed = f; at = at }
takes room f (b ∷ bs) at = if leb (length f.said) room then takes room (feed_byte f b) bs (at + 1) else record { feed = f; at = at }

-- a part s, and a buffer of n bytes: while there is room for what may be written for one more byte
unfoldable pub part_of : Lister → List ℕ → ℕ → Extent
part_of l s n =
    if ltb n answer_most then record { feed = record { lister = l; said = [] }; at = 0 } else takes (n - answer_most) (record { lister = l; said = [] }) s 0

-- what `list_part` promises: the lister, the bytes read and written, and all of the buffer
pub record Parted (l : Lister) (s out : List ℕ) (r : Part) (after : List ℕ) : Type 0 where
  pub lister : r.lister ≡ (part_of l s (length out)).feed.lister
  pub read : r.at ≡ (part_of l s (length out)).at
  pub written : r.put ≡ length (part_of l s (length out)).feed.said
  pub memory : after ≡ put 0 (part_of l s (length out)).feed.said out
