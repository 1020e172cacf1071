-- What reading sees at the front of any bytes that start with a frame: the frame's own form, place, length, addresses and data, whatever
-- stands after it. So a frame's end is fixed by its front. Assumes nothing.
use mathlib.Core.Path.{◌≡◌, refl, ap, ◌∙◌}
use mathlib.Core.Bool.{true}
use mathlib.Core.List.{List, [], ◌∷◌, ◌++◌, append_assoc}
use Prim.Native.Nat.{ℕ, ◌+◌, ◌/◌, ◌%◌, ◌≤◌}
use native.Mathlib.Omega.{arith}
use borrow.Author.Tests.{eq-eqb, ne_eqb}
use lib.ListN.{length, get_or, take, drop}
use lib.Seq.{take-append_seam, drop_at}
use Rattle.std.specs.Prelude.{Option, Some, None}
use Rattle.base.specs.Numbers.{taken}
use Rattle.keys.specs.Keys.{takes_form}
use Rattle.keys.specs.declared.Form.{Form}
use Rattle.keys.specs.declared.Form.TheVariants.{Plain, Physical, Functional, Foreign}
use Rattle.frame.specs.Layout.{top_bits, format_form, low_bits, addresses_of, extra_of, address_count, head_size, head_of, checksum_of, body_of, frame_of, carried}
use Rattle.frame.specs.Read.{place_read, length_read, laid_of}
use Rattle.frame.specs.Announced.{Placed}
use Rattle.frame.specs.declared.Place.{Place}
use Rattle.frame.specs.declared.Place.TheVariants.{Format, Extra}
use Rattle.frame.proofs.Sizes.{head_length}
use Rattle.frame.proofs.Announced.{length_some, somewhere}

-- S starts with a frame of this form, place, addresses and data, as reading sees it
pub record Starts (kb1 : ℕ) (S : List ℕ) (form : Form) (place : Option Place) (t s : ℕ) (d : List ℕ) : Type 0 where
  pub some : length S ≡ 0 → ⊥
  pub form_is : format_form (get_or S 0 0) ≡ form
  pub place_is : place_read kb1 (get_or S 0 0) ≡ place
  pub length_is : length_read S (get_or S 0 0) (1 + address_count form) ≡ length d
  pub target_is : carried form (get_or S 1 0) ≡ carried form t
  pub source_is : carried form (get_or S 2 0) ≡ carried form s
  pub data_is : take (length d) (drop (head_size form place) S) ≡ d

-- a format byte has the form and the low bits that it was made of
pub form_back : (form : Form) (low : ℕ) → low ≤ 63 → format_form (top_bits form + low) ≡ form
unfolding format_form
form_back Plain low h = rw (eq-eqb ((0x00 + low) / 64) 0 (omega arith))
form_back Foreign low h = rw (ne_eqb ((0x40 + low) / 64) 0 (λ e. omega arith), eq-eqb ((0x40 + low) / 64) 1 (omega arith))
form_back Physical low h =
    rw (
      ne_eqb ((0x80 + low) / 64) 0 (λ e. omega arith),
      ne_eqb ((0x80 + low) / 64) 1 (λ e. omega arith),
      eq-eqb ((0x80 + low) / 64) 2 (omega arith),
    )
form_back Functional low h =
    rw (
      ne_eqb ((0xC0 + low) / 64) 0 (λ e. omega arith),
      ne_eqb ((0xC0 + low) / 64) 1 (λ e. omega arith),
      ne_eqb ((0xC0 + low) / 64) 2 (λ e. omega arith),
    )

pub low_back : (form : Form) (low : ℕ) → low ≤ 63 → (top_bits form + low) % 64 ≡ low
low_back Plain low h = omega arith
low_back Foreign low h = omega arith
low_back Physical low h = omega arith
low_back Functional low h = omega arith

low_small : (kb1 : ℕ) (place : Option Place) (n : ℕ) → Placed kb1 place n → low_bits place n ≤ 63
unfolding low_bits
low_small kb1 (Some Format) n p = p.2
low_small kb1 (Some Extra) n p = omega arith
low_small kb1 None n p = absurd p

place_back : (kb1 : ℕ) (form : Form) (place : Option Place) (n : ℕ) → Placed kb1 place n → place_read kb1 (top_bits form + low_bits place n) ≡ place
unfolding place_read low_bits
place_back kb1 form (Some Format) n p = rw (low_back form n p.2, ne_eqb n 0 (λ e. omega arith), p.0)
place_back kb1 form (Some Extra) n p = rw (low_back form 0 (omega arith), p.0)
place_back kb1 form None n p = absurd p

-- the extra byte stands after the addresses
pub extra_at : (form : Form) (t s n f : ℕ) (rest : List ℕ) → get_or (f ∷ ((addresses_of form t s ++ (n ∷ [])) ++ rest)) (1 + address_count form) 0 ≡ n
unfolding addresses_of address_count
extra_at Plain t s n f rest = refl
extra_at Physical t s n f rest = refl
extra_at Functional t s n f rest = refl
extra_at Foreign t s n f rest = refl

length_back : (kb1 : ℕ) (form : Form) (place : Option Place) (t s n : ℕ) (rest : List ℕ) → Placed kb1 place n
    → length_read (head_of form place t s n ++ rest) (top_bits form + low_bits place n) (1 + address_count form) ≡ n
unfolding length_read low_bits head_of extra_of
length_back kb1 form (Some Format) t s n rest p = rw (low_back form n p.2, ne_eqb n 0 (λ e. omega arith))
length_back kb1 form (Some Extra) t s n rest p = rw (low_back form 0 (omega arith)) (extra_at form t s n (top_bits form + 0) rest)
length_back kb1 form None t s n rest p = absurd p

-- target and source stand after the format byte, where the form has them
target_at : (form : Form) (t s f : ℕ) (more : List ℕ) → carried form (get_or (f ∷ (addresses_of form t s ++ more)) 1 0) ≡ carried form t
unfolding carried addresses_of
target_at Plain t s f more = refl
target_at Physical t s f more = refl
target_at Functional t s f more = refl
target_at Foreign t s f more = refl

source_at : (form : Form) (t s f : ℕ) (more : List ℕ) → carried form (get_or (f ∷ (addresses_of form t s ++ more)) 2 0) ≡ carried form s
unfolding carried addresses_of
source_at Plain t s f more = refl
source_at Physical t s f more = refl
source_at Functional t s f more = refl
source_at Foreign t s f more = refl

-- a head, its data, and anything after
pub head_starts : (kb1 : ℕ) (form : Form) (place : Option Place) (t s : ℕ) (d rest : List ℕ) → Placed kb1 place (length d)
    → Starts kb1 (head_of form place t s (length d) ++ (d ++ rest)) form place t s d
unfolding head_of
head_starts kb1 form place t s d rest p =
    let n = length d in
    let low = low_small kb1 place n p in
    let tail = d ++ rest in
    record {
      some = λ e. omega arith;
      form_is = form_back form (low_bits place n) low;
      place_is = place_back kb1 form place n p;
      length_is = length_back kb1 form place t s n tail p;
      target_is = rw (append_assoc (addresses_of form t s) (extra_of place n) tail) (target_at form t s (top_bits form + low_bits place n) (extra_of place n ++ tail));
      source_is = rw (append_assoc (addresses_of form t s) (extra_of place n) tail) (source_at form t s (top_bits form + low_bits place n) (extra_of place n ++ tail));
      data_is = ap (take n) (drop_at (head_of form place t s n) tail (head_size form place) (head_length form place t s n)) ∙ take-append_seam d rest;
    }

-- a frame, and anything after
pub frame_apart : (form : Form) (place : Option Place) (t s : ℕ) (d rest : List ℕ)
    → frame_of form place t s d ++ rest ≡ head_of form place t s (length d) ++ (d ++ (checksum_of (body_of form place t s d) ∷ rest))
unfolding frame_of body_of
frame_apart form place t s d rest =
    append_assoc (head_of form place t s (length d) ++ d) (checksum_of (head_of form place t s (length d) ++ d) ∷ []) rest
    ∙ append_assoc (head_of form place t s (length d)) d (checksum_of (head_of form place t s (length d) ++ d) ∷ rest)

pub frame_starts : (kb1 : ℕ) (form : Form) (place : Option Place) (t s : ℕ) (d : List ℕ) → Placed kb1 place (length d) → (rest : List ℕ)
    → Starts kb1 (frame_of form place t s d ++ rest) form place t s d
frame_starts kb1 form place t s d p rest =
    rw (frame_apart form place t s d rest) (head_starts kb1 form place t s d (checksum_of (body_of form place t s d) ∷ rest) p)

-- the layout of what starts so
pub starts_laid : (kb1 : ℕ) (S : List ℕ) (form : Form) (place : Option Place) (t s : ℕ) (d : List ℕ) → takes_form kb1 form ≡ true → Placed kb1 place (length d)
    → Starts kb1 S form place t s d → laid_of kb1 S ≡ record { no = taken; form = form; start = head_size form place; len = length d }
unfolding laid_of
starts_laid kb1 S form place t s d a p b =
    rw (
      ne_eqb (length S) 0 b.some,
      b.form_is,
      a,
      b.place_is,
      somewhere kb1 place (length d) p,
      b.length_is,
      ne_eqb (length d) 0 (λ e. let q = length_some kb1 place (length d) p in omega arith),
    )
