-- A frame's layout, which building and reading share (document 01, "Frames"; ISO 14230-2, clauses 4.1 to 4.4, figures 4 and 5).
-- A departure from ISO 14230-2:1999: its clause 4.2 says once that a header has at most 3 bytes; figure 4 and the French text say 4, and 4 decides.
-- Assumes nothing.
use Rattle.std.specs.Prelude.{◌≡◌, ℕ, ◌+◌, ◌-◌, ◌/◌, ◌%◌, Bool, true, false, Option, Some, None, List, [], ◌∷◌, ◌++◌, length, get_or, take, eqb, if◌then◌else◌}
use Rattle.keys.specs.declared.Form.{Form}
use Rattle.keys.specs.declared.Form.TheVariants.{Plain, Physical, Functional, Foreign}
use Rattle.frame.specs.declared.Place.{Place}
use Rattle.frame.specs.declared.Place.TheVariants.{Format, Extra}

-- the number of each form, "0 none, 1 physical, 2 functional", and the form of a number
abbrev pub number_of : Form → ℕ
number_of Plain = 0
number_of Physical = 1
number_of Functional = 2
number_of Foreign = 3

unfoldable pub form_numbered : ℕ → Form
form_numbered n =
    if eqb n (number_of Plain) then Plain else
    if eqb n (number_of Physical) then Physical else
    if eqb n (number_of Functional) then Functional else Foreign

-- "Format byte: top two bits 00 no addresses, 01 CARB, 10 physical, 11 functional": the bits of each form, and the form whose bits a format byte has
abbrev pub top_bits : Form → ℕ
top_bits Plain = 0x00
top_bits Foreign = 0x40
top_bits Physical = 0x80
top_bits Functional = 0xC0

unfoldable pub format_form : ℕ → Form
format_form f =
    if eqb (f / 64) (top_bits Plain / 64) then Plain else
    if eqb (f / 64) (top_bits Foreign / 64) then Foreign else
    if eqb (f / 64) (top_bits Physical / 64) then Physical else Functional

-- where a length stands: in one of the two places, or nowhere. "low six bits the length, or 0 for an extra length byte"
unfoldable pub low_bits : Option Place → ℕ → ℕ
low_bits (Some Format) n = n
low_bits (Some Extra) n = 0
low_bits None n = 0

-- "Then target and source in modes 10 and 11"
unfoldable pub addresses_of : Form → ℕ → ℕ → List ℕ
addresses_of Plain target source = []
addresses_of Physical target source = target ∷ source ∷ []
addresses_of Functional target source = target ∷ source ∷ []
addresses_of Foreign target source = []

-- "then the extra length byte if any"
unfoldable pub extra_of : Option Place → ℕ → List ℕ
extra_of (Some Format) n = []
extra_of (Some Extra) n = n ∷ []
extra_of None n = []

-- how many bytes these are, and all that stand before the data
unfoldable pub address_count : Form → ℕ
address_count Plain = 0
address_count Physical = 2
address_count Functional = 2
address_count Foreign = 0

unfoldable pub extra_count : Option Place → ℕ
extra_count (Some Format) = 0
extra_count (Some Extra) = 1
extra_count None = 0

unfoldable pub head_size : Form → Option Place → ℕ
head_size form place = 1 + address_count form + extra_count place

unfoldable pub head_of : Form → Option Place → ℕ → ℕ → ℕ → List ℕ
head_of form place target source n = (top_bits form + low_bits place n) ∷ (addresses_of form target source ++ extra_of place n)

-- "the data, and the checksum: the sum of all bytes before it, modulo 256. Length counts data only."
unfoldable pub total : List ℕ → ℕ
total [] = 0
total (x ∷ xs) = x + total xs

unfoldable pub checksum_of : List ℕ → ℕ
checksum_of s = total s % 256

unfoldable pub body_of : Form → Option Place → ℕ → ℕ → List ℕ → List ℕ
body_of form place target source bytes = head_of form place target source (length bytes) ++ bytes

unfoldable pub frame_of : Form → Option Place → ℕ → ℕ → List ℕ → List ℕ
frame_of form place target source bytes =
    body_of form place target source bytes ++ (checksum_of (body_of form place target source bytes) ∷ [])

-- the last byte is the checksum: "the sum of all bytes before it, modulo 256"
abbrev pub SumsUp : List ℕ → Type 0
SumsUp f = get_or f (length f - 1) 0 ≡ total (take (length f - 1) f) % 256

-- an address as a frame carries it: "Form 0 carries no address"
unfoldable pub carried : Form → ℕ → ℕ
carried Plain address = 0
carried Physical address = address
carried Functional address = address
carried Foreign address = 0

-- a length that has no place
unfoldable pub is_nowhere : Option Place → Bool
is_nowhere (Some _) = false
is_nowhere None = true
