-- Where the length stands in what is built: in the place chosen, and under the choice 0 in the format byte wherever it may stand there and otherwise in
-- the extra byte. Assumes nothing.
use mathlib.Core.Path.{◌≡◌, refl, sym, ap, ◌∙◌, subst}
use mathlib.Core.Bool.{false}
use mathlib.Core.List.{List, [], ◌∷◌, ◌++◌, append_assoc}
use Prim.Native.Nat.{ℕ, ◌+◌, ◌≤◌}
use lib.ListN.{length, get_or, take}
use Rattle.std.specs.Prelude.{Option, Some, None}
use Rattle.base.specs.Numbers.{taken}
use Rattle.keys.specs.Keys.{length_in_format, extra_length}
use Rattle.keys.specs.declared.Form.{Form}
use Rattle.frame.specs.Layout.{form_numbered, top_bits, low_bits, addresses_of, extra_of, address_count, head_of, checksum_of, body_of, frame_of, is_nowhere}
use Rattle.frame.specs.Build.{place_for, place_chosen, planned, Builds}
use Rattle.frame.specs.Announced.{Placed}
use Rattle.frame.specs.declared.Place.{Place}
use Rattle.frame.specs.declared.Place.TheVariants.{Format, Extra}
use Rattle.frame.specs.declared.Plan.{Plan}
use Rattle.frame.specs.Answers.{Built}
use Rattle.frame.proofs.Announced.{format_first, only_there, somewhere, none_refuses}
use Rattle.frame.proofs.Starts.{extra_at}
use Rattle.frame.proofs.RoundTrip.{built_taken, built_front}

-- a frame of this form has the length n in its format byte; or there 0, and the length after its addresses
abbrev pub InFormat : ℕ → Form → List ℕ → Type 0
InFormat n form frame = get_or frame 0 0 ≡ top_bits form + n

abbrev pub InExtra : ℕ → Form → List ℕ → Type 0
InExtra n form frame = (get_or frame 0 0 ≡ top_bits form + 0) × (get_or frame (1 + address_count form) 0 ≡ n)

-- by the choice: 0 in the format byte wherever it may stand there, and otherwise in the extra byte; 1 and 2 where they say
pub record LengthAt (choice kb1 n : ℕ) (form : Form) (frame : List ℕ) : Type 0 where
  pub chosen : choice ≤ 2
  pub short : choice ≡ 0 → Placed kb1 (Some Format) n → InFormat n form frame
  pub long : choice ≡ 0 → (Placed kb1 (Some Format) n → ⊥) → Placed kb1 (Some Extra) n × InExtra n form frame
  pub in_format : choice ≡ 1 → Placed kb1 (Some Format) n × InFormat n form frame
  pub in_extra : choice ≡ 2 → Placed kb1 (Some Extra) n × InExtra n form frame

-- a frame from its front: format byte, addresses, extra byte if any, and the rest
frame_front : (form : Form) (place : Option Place) (t s : ℕ) (d : List ℕ)
    → frame_of form place t s d
    ≡ (top_bits form + low_bits place (length d))
    ∷ ((addresses_of form t s ++ extra_of place (length d)) ++ (d ++ (checksum_of (body_of form place t s d) ∷ [])))
unfolding frame_of body_of head_of
frame_front form place t s d = append_assoc (head_of form place t s (length d)) d (checksum_of (body_of form place t s d) ∷ [])

stands_in_format : (form : Form) (t s : ℕ) (d : List ℕ) → InFormat (length d) form (frame_of form (Some Format) t s d)
unfolding low_bits
stands_in_format form t s d = ap (λ (l : List ℕ). get_or l 0 0) (frame_front form (Some Format) t s d)

stands_in_extra : (form : Form) (t s : ℕ) (d : List ℕ) → InExtra (length d) form (frame_of form (Some Extra) t s d)
unfolding low_bits extra_of
stands_in_extra form t s d =
    subst (InExtra (length d) form) (sym (frame_front form (Some Extra) t s d))
    (refl, extra_at form t s (length d) (top_bits form + 0) (d ++ (checksum_of (body_of form (Some Extra) t s d) ∷ [])))

-- the place that each choice leaves
pub shortest_place : (choice kb1 n : ℕ) → choice ≡ 0 → place_chosen choice kb1 n ≡ place_for kb1 n
unfolding place_chosen
shortest_place choice kb1 n e = rw e

format_place : (choice kb1 n : ℕ) → choice ≡ 1 → is_nowhere (place_chosen choice kb1 n) ≡ false → place_chosen choice kb1 n ≡ Some Format
unfolding place_chosen
format_place choice kb1 n e h = rw e (only_there Format (length_in_format kb1) n _ (rw e at h)).0

extra_place : (choice kb1 n : ℕ) → choice ≡ 2 → is_nowhere (place_chosen choice kb1 n) ≡ false → place_chosen choice kb1 n ≡ Some Extra
unfolding place_chosen
extra_place choice kb1 n e h = rw e (only_there Extra (extra_length kb1) n _ (rw e at h)).0

other_place : (kb1 : ℕ) (place : Option Place) (n : ℕ) → Placed kb1 place n → (Placed kb1 (Some Format) n → ⊥) → place ≡ Some Extra
other_place kb1 (Some Format) n p none = absurd (none p)
other_place kb1 (Some Extra) n p none = refl
other_place kb1 None n p none = absurd p

-- a frame with its length in the place chosen, which holds it
module _ (choice kb1 : ℕ) (form : Form) (t s : ℕ) (d : List ℕ) (placed : Placed kb1 (place_chosen choice kb1 (length d)) (length d)) where
  abbrev place : Option Place
  place = place_chosen choice kb1 (length d)

  some : is_nowhere place ≡ false
  some = somewhere kb1 place (length d) placed

  there : (x : Option Place) (Stands : List ℕ → Type 0) → Stands (frame_of form x t s d) → place ≡ x → Placed kb1 x (length d) × Stands (frame_of form place t s d)
  there x Stands h e = (
    subst (λ (y : Option Place). Placed kb1 y (length d)) e placed,
    subst (λ (y : Option Place). Stands (frame_of form y t s d)) (sym e) h,
  )

  at_format : place ≡ Some Format → Placed kb1 (Some Format) (length d) × InFormat (length d) form (frame_of form place t s d)
  at_format = there (Some Format) (InFormat (length d) form) (stands_in_format form t s d)

  at_extra : place ≡ Some Extra → Placed kb1 (Some Extra) (length d) × InExtra (length d) form (frame_of form place t s d)
  at_extra = there (Some Extra) (InExtra (length d) form) (stands_in_extra form t s d)

  length_at : choice ≤ 2 → LengthAt choice kb1 (length d) form (frame_of form place t s d)
  length_at c = record {
    chosen = c;
    short = λ e p. (at_format (shortest_place choice kb1 (length d) e ∙ format_first kb1 (length d) p)).1;
    long = λ _ none. at_extra (other_place kb1 place (length d) placed none);
    in_format = λ e. at_format (format_place choice kb1 (length d) e some);
    in_extra = λ e. at_extra (extra_place choice kb1 (length d) e some);
  }

-- WHAT `build` BUILDS HAS ITS LENGTH THERE
pub built_length_at : (p : Plan) (bytes out : List ℕ) (r : Built) (after : List ℕ) → Builds p bytes out r after → r.no ≡ taken
    → LengthAt p.choice p.pair.kb1 (length bytes) (form_numbered p.form) (take r.len after)
unfolding planned
built_length_at p bytes out r after b e =
    let n = length bytes in
    let form = form_numbered p.form in
    let x = none_refuses p n (length out) (built_taken p bytes out r after b e) in
    subst (LengthAt p.choice p.pair.kb1 n form) (sym (built_front p bytes out r after b e))
    (length_at p.choice p.pair.kb1 form p.target p.source bytes x.announced.placed x.chosen)
