-- Any two results that meet a public function's promise are equal. Assumes nothing.
use Rattle.std.proofs.Common.{◌≡◌, ℕ, Bool, List, Option, drop}
use Rattle.base.proofs.One.{Only, only}
use Rattle.events.specs.declared.Event.{Event}
use Rattle.lines.specs.Lines.{fresh_reading, read_byte, is_empty, event_of}
use Rattle.lines.specs.Getting.{got_of}
use Rattle.lines.specs.Quick.{row_of, row_got}
use Rattle.lines.specs.declared.Reading.{Reading}
use Rattle.lines.specs.declared.Got.{Got}
use Rattle.lines.specs.declared.Row.{Row}

pub begin : Only (λ (r : Reading). r ≡ fresh_reading)
begin = only fresh_reading

pub read_byte_lem : (r : Reading) (b : ℕ) → Only (λ (x : Reading). x ≡ read_byte r b)
read_byte_lem r b = only (read_byte r b)

pub is_empty_lem : (r : Reading) → Only (λ (x : Bool). x ≡ is_empty r)
is_empty_lem r = only (is_empty r)

pub event_of_lem : (r : Reading) → Only (λ (x : Event). x ≡ event_of r)
event_of_lem r = only (event_of r)

pub get_line : (r : Reading) (s : List ℕ) (at : ℕ) → Only (λ (x : Got). x ≡ got_of r (drop at s) at)
get_line r s at = only (got_of r (drop at s) at)

pub byte_line : (s : List ℕ) (at : ℕ) → Only (λ (x : Option Row). x ≡ row_of s at)
byte_line s at = only (row_of s at)

pub got_row : (q : Row) → Only (λ (x : Got). x ≡ row_got q)
got_row q = only (row_got q)
