-- How many bytes the parts of a frame are. Assumes nothing.
use mathlib.Core.Path.{◌≡◌, refl, ap, ◌∙◌}
use mathlib.Core.List.{List, [], ◌∷◌}
use Prim.Native.Nat.{ℕ, ◌+◌, ◌≤◌}
use native.Mathlib.Omega.{arith}
use lib.ListN.{length, length-append}
use lib.Dec.{lit≤}
use Rattle.std.specs.Prelude.{Option, Some, None}
use Rattle.keys.specs.declared.Form.{Form}
use Rattle.keys.specs.declared.Form.TheVariants.{Plain, Physical, Functional, Foreign}
use Rattle.frame.specs.Layout.{addresses_of, extra_of, address_count, extra_count, head_size, head_of, body_of, frame_of, top_bits, low_bits}
use Rattle.frame.specs.declared.Place.{Place}
use Rattle.frame.specs.declared.Place.TheVariants.{Format, Extra}

pub address_length : (form : Form) (t s : ℕ) → length (addresses_of form t s) ≡ address_count form
unfolding addresses_of address_count
address_length Plain t s = refl
address_length Physical t s = refl
address_length Functional t s = refl
address_length Foreign t s = refl

pub extra_length_lem : (place : Option Place) (n : ℕ) → length (extra_of place n) ≡ extra_count place
unfolding extra_of extra_count
extra_length_lem (Some Format) n = refl
extra_length_lem (Some Extra) n = refl
extra_length_lem None n = refl

pub address_le : (form : Form) → address_count form ≤ 2
unfolding address_count
address_le Plain = lit≤ tt
address_le Physical = lit≤ tt
address_le Functional = lit≤ tt
address_le Foreign = lit≤ tt

pub extra_le : (place : Option Place) → extra_count place ≤ 1
unfolding extra_count
extra_le (Some Format) = lit≤ tt
extra_le (Some Extra) = lit≤ tt
extra_le None = lit≤ tt

pub top_le : (form : Form) → top_bits form ≤ 192
top_le Plain = lit≤ tt
top_le Physical = lit≤ tt
top_le Functional = lit≤ tt
top_le Foreign = lit≤ tt

-- a head has at most four bytes
pub head_le : (form : Form) (place : Option Place) → head_size form place ≤ 4
unfolding head_size
head_le form place = omega (arith, address_le form, extra_le place)

pub head_length : (form : Form) (place : Option Place) (t s n : ℕ) → length (head_of form place t s n) ≡ head_size form place
unfolding head_of head_size
head_length form place t s n = omega (arith, length-append (addresses_of form t s) (extra_of place n), address_length form t s, extra_length_lem place n)

pub body_length : (form : Form) (place : Option Place) (t s : ℕ) (d : List ℕ) → length (body_of form place t s d) ≡ head_size form place + length d
unfolding body_of
body_length form place t s d =
    length-append (head_of form place t s (length d)) d ∙ ap (λ (k : ℕ). k + length d) (head_length form place t s (length d))

pub frame_length : (form : Form) (place : Option Place) (t s : ℕ) (d : List ℕ) → length (frame_of form place t s d) ≡ head_size form place + length d + 1
unfolding frame_of
frame_length form place t s d = length-append (body_of form place t s d) _ ∙ ap (λ (k : ℕ). k + 1) (body_length form place t s d)

-- a form without addresses carries none
pub no_addresses_lem : (form : Form) (t s : ℕ) → address_count form ≡ 0 → addresses_of form t s ≡ []
unfolding addresses_of address_count
no_addresses_lem Plain t s e = refl
no_addresses_lem Physical t s e = absurd (omega arith)
no_addresses_lem Functional t s e = absurd (omega arith)
no_addresses_lem Foreign t s e = refl

pub two_addresses : (form : Form) (t s : ℕ) → (address_count form ≡ 0 → ⊥) → (address_count form ≡ 2) × (addresses_of form t s ≡ t ∷ s ∷ [])
unfolding addresses_of address_count
two_addresses Plain t s h = absurd (h refl)
two_addresses Physical t s h = (refl, refl)
two_addresses Functional t s h = (refl, refl)
two_addresses Foreign t s h = absurd (h refl)

pub no_extra : (place : Option Place) (n : ℕ) → extra_count place ≡ 0 → extra_of place n ≡ []
unfolding extra_of extra_count
no_extra (Some Format) n e = refl
no_extra (Some Extra) n e = absurd (omega arith)
no_extra None n e = refl

pub one_extra : (place : Option Place) (n : ℕ) → (extra_count place ≡ 0 → ⊥) → (extra_count place ≡ 1) × (extra_of place n ≡ n ∷ [])
unfolding extra_of extra_count
one_extra (Some Format) n h = absurd (h refl)
one_extra (Some Extra) n h = (refl, refl)
one_extra None n h = absurd (h refl)

-- the low six bits hold a length that goes there
pub low_le : (place : Option Place) (n : ℕ) → (place ≡ Some Format → n ≤ 63) → low_bits place n ≤ 63
unfolding low_bits
low_le (Some Format) n h = h refl
low_le (Some Extra) n h = lit≤ tt
low_le None n h = lit≤ tt
