-- What the functions below `list_part` promise. Assumes nothing.
use Rattle.std.specs.Prelude.{ℕ, ◌≤◌, ◌<◌, ◌≡◌, true, List, [], ◌++◌, Option, Some, IfSome, eqb, length, drop, if◌then◌else◌}
use Rattle.events.specs.declared.Event.{Event}
use Rattle.reports.specs.declared.Counts.{Counts}
use Rattle.link.specs.declared.Link.{Link}
use Rattle.lines.specs.Lines.{fresh_reading, is_empty}
use Rattle.lines.specs.Quick.{row_of}
use Rattle.lines.specs.declared.Reading.{Reading}
use Rattle.lines.specs.declared.Row.{Row}
use Rattle.words.specs.Writing.{Puts}
use Rattle.listing.specs.Listing.{stepped, said_of, finished}
use Rattle.listing.specs.Parts.{answer_most, takes}
use Rattle.listing.specs.declared.Lister.{Lister}
use Rattle.listing.specs.declared.Part.{Part}
use Rattle.listing.specs.declared.Stretch.{Stretch}

-- an event's step, and its answer written at `put`
pub record Acted (l : Lister) (e : Event) (at put : ℕ) (out : List ℕ) (r : Part) (after : List ℕ) : Type 0 where
  pub lister : r.lister ≡ stepped l e
  pub place : r.at ≡ at
  pub wrote : Puts put (said_of l e) answer_most out r.put after

-- the reading after the lines between two places: the one in front of them if there are none
unfoldable pub reading_after : Reading → ℕ → ℕ → Reading
reading_after r from at = if eqb from at then r else fresh_reading

-- a line that was read at once, if there is one, is the one that stands at `at`, where a line begins
pub record RowAt (r : Reading) (found : Option Row) (s : List ℕ) (at : ℕ) : Type 0 where
  pub row : IfSome found (λ q. row_of s at ≡ Some q)
  pub empty : IfSome found (λ q. is_empty r ≡ true)

abbrev pub lister_of : Link → Counts → Reading → Lister
lister_of k c r = record { link = k; counts = c; reading = r }

-- from `from` to r's place nothing is written: what is left to read from there gives what all of it gives. So for a link and counts, where a line begins, ..
pub record Glided (k : Link) (c : Counts) (s : List ℕ) (from : ℕ) (r : Stretch) : Type 0 where
  pub ahead : from ≤ r.at
  pub same : (rd : Reading) → is_empty rd ≡ true → (room : ℕ) (o : List ℕ) → length o ≤ room
      → takes room (record { lister = lister_of k c rd; said = o }) (drop from s) from
      ≡ takes room (record { lister = lister_of r.link r.counts (reading_after rd from r.at); said = o }) (drop r.at s) r.at
  pub row : IfSome r.row (λ q. row_of s r.at ≡ Some q)

-- .. and for a lister
pub record Stretched (l : Lister) (s : List ℕ) (from : ℕ) (r : Stretch) : Type 0 where
  pub ahead : from ≤ r.at
  pub same : (room : ℕ) (o : List ℕ) → length o ≤ room
      → takes room (record { lister = l; said = o }) (drop from s) from
      ≡ takes room (record { lister = lister_of r.link r.counts (reading_after l.reading from r.at); said = o }) (drop r.at s) r.at
  pub row : RowAt (reading_after l.reading from r.at) r.row s r.at

-- the same, with what was written
pub record Turned (l : Lister) (s : List ℕ) (at put : ℕ) (out : List ℕ) (r : Part) (after : List ℕ) : Type 0 where
  pub said : List ℕ
  pub behind : at ≤ r.at
  pub ahead : at < length s → at < r.at
  pub same : (room : ℕ) (o : List ℕ) → length o ≤ room
      → takes room (record { lister = l; said = o }) (drop at s) at ≡ takes room (record { lister = r.lister; said = o ++ said }) (drop r.at s) r.at
  pub wrote : Puts put said answer_most out r.put after

-- a last line without its line feed, written at the front
pub record Ended (l : Lister) (out : List ℕ) (r : Part) (after : List ℕ) : Type 0 where
  pub lister : r.lister ≡ (finished (record { lister = l; said = [] })).lister
  pub wrote : Puts 0 (finished (record { lister = l; said = [] })).said answer_most out r.put after
