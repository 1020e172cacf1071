-- Reading a slice that must be exactly one frame (document 01, "Frames"). Assumes nothing.
use Rattle.std.specs.Prelude.{◌≡◌, ℕ, ◌+◌, ◌%◌, not, Option, Some, None, Result, Ok, Err, List, length, get_or, take, drop, eqb, if◌then◌else◌}
use Rattle.std.specs.Borrow.{Bor}
use Rattle.base.specs.Numbers.{taken, bad_keys, bad_form, bad_length, bad_checksum}
use Rattle.base.specs.Refusals.{number_of as refusal_number}
use Rattle.base.specs.declared.Refusal.{Refusal}
use Rattle.keys.specs.Keys.{good_pair, takes_form, length_in_format, extra_length}
use Rattle.keys.specs.declared.Form.TheVariants.{Plain}
use Rattle.frame.specs.Answers.{Laid, Reading}
use Rattle.frame.specs.Layout.{format_form, number_of, address_count, head_size, checksum_of, carried, is_nowhere}
use Rattle.frame.specs.declared.Place.{Place}
use Rattle.frame.specs.declared.Place.TheVariants.{Format, Extra}
use Rattle.frame.specs.declared.Front.{Front}
use Rattle.frame.specs.declared.Frame.{Frame}

-- the format byte of a slice that has one
abbrev pub format_byte : List ℕ → ℕ
format_byte s = get_or s 0 0

-- where the length of a frame with this format byte stands: "a length in the format byte without KB1 bit 0, or an extra length byte without bit 1"
-- has no place. "An extra length byte below 64 is allowed if bit 1 is set."
unfoldable pub place_read : ℕ → ℕ → Option Place
place_read kb1 f =
    if eqb (f % 64) 0 then (if extra_length kb1 then Some Extra else None) else
    (if length_in_format kb1 then Some Format else None)

-- the length: the low six bits, or where these are 0 the byte at an index, 0 where the slice has none; that index is after the addresses
unfoldable pub length_read : List ℕ → ℕ → ℕ → ℕ
length_read s f at = if eqb (f % 64) 0 then get_or s at 0 else f % 64

abbrev pub length_of : List ℕ → ℕ
length_of s = length_read s (format_byte s) (1 + address_count (format_form (format_byte s)))

abbrev pub not_laid : ℕ → Laid
not_laid k = record { no = k; form = Plain; start = 0; len = 0 }

-- a front, or its refusal, in the paper's numbers
abbrev pub laid_as : Result Front Refusal → Laid
laid_as (Ok f) = record { no = taken; form = f.form; start = f.start; len = f.len }
laid_as (Err why) = not_laid (refusal_number why)

-- What the front of s says of a frame that starts there: its form, where its data starts and how many bytes these are. "An empty frame to be
-- read is 7 if the key bytes are good; a format byte is judged for form even if the rest is missing."
unfoldable pub laid_of : ℕ → List ℕ → Laid
laid_of kb1 s =
    if eqb (length s) 0 then not_laid bad_length else
    if not (takes_form kb1 (format_form (format_byte s))) then not_laid bad_form else
    if is_nowhere (place_read kb1 (format_byte s)) then not_laid bad_length else
    if eqb (length_of s) 0 then not_laid bad_length else
    record {
      no = taken;
      form = format_form (format_byte s);
      start = head_size (format_form (format_byte s)) (place_read kb1 (format_byte s));
      len = length_of s;
    }

abbrev pub not_read : ℕ → Reading
not_read k = record { no = k; form = 0; target = 0; source = 0; start = 0; len = 0 }

-- the answer of `read` in the paper's numbers
abbrev pub read_as : Result Frame Refusal → Reading
read_as (Ok f) = record { no = taken; form = number_of f.form; target = f.target; source = f.source; start = f.start; len = f.len }
read_as (Err why) = not_read (refusal_number why)

-- "a length byte of 0, or a slice longer or shorter than the header says, is 7"; then the checksum is 9
unfoldable pub judged : List ℕ → Laid → Reading
judged s l =
    if not (eqb l.no taken) then not_read l.no else
    if not (eqb (length s) (l.start + l.len + 1)) then not_read bad_length else
    if not (eqb (checksum_of (take (l.start + l.len) s)) (get_or s (l.start + l.len) 0)) then not_read bad_checksum else
    record {
      no = taken;
      form = number_of l.form;
      target = carried l.form (get_or s 1 0);
      source = carried l.form (get_or s 2 0);
      start = l.start;
      len = l.len;
    }

-- "Reading answers form, addresses (0 for form 0) and the data as part of the slice": where the data starts and how many bytes it has
unfoldable pub read_of : ℕ → ℕ → List ℕ → Reading
read_of kb1 kb2 s = if not (good_pair kb1 kb2) then not_read bad_keys else judged s (laid_of kb1 s)

-- the data; nothing of what is no frame
unfoldable pub data_of : ℕ → ℕ → List ℕ → List ℕ
data_of kb1 kb2 s = take (read_of kb1 kb2 s).len (drop (read_of kb1 kb2 s).start s)

-- what `contents` promises: the data's bytes, and that they stand in the slice where `read_of` says, so many bytes after its start
pub record DataIn (kb1 kb2 : ℕ) (s r : Bor (List ℕ)) : Type 0 where
  pub bytes : r.now ≡ data_of kb1 kb2 s.now
  pub place : r.ref_ptr ≡ (s.ref_ptr.0, s.ref_ptr.1 + (read_of kb1 kb2 s.now).start)
