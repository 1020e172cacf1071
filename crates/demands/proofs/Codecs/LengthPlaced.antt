-- DEMAND 2 of what is built: its length stands where the choice says, and under the choice 0 where document 01 says. Assumes nothing.
use Prim.Native.Nat.{ℕ, ◌+◌, ◌/◌, ◌%◌, ◌≤◌, ◌<◌}
use mathlib.Core.List.{List}
use mathlib.Core.Path.{◌≡◌, refl, ap, ◌∙◌}
use native.Mathlib.Omega.{arith}
use lib.ListN.{length, get_or, take}
use Rattle.base.specs.Numbers.{taken}
use Rattle.keys.specs.Keys.{length_in_format}
use Rattle.keys.specs.declared.Form.{Form}
use Rattle.keys.specs.declared.Form.TheVariants.{Plain, Physical, Functional, Foreign}
use Rattle.frame.specs.Layout.{form_numbered, top_bits, format_form, address_count}
use Rattle.frame.specs.Build.{Builds}
use Rattle.frame.specs.declared.Plan.{Plan}
use Rattle.frame.specs.Answers.{Built}
use Rattle.frame.proofs.Starts.{low_back}
use Rattle.frame.proofs.Placing.{InFormat, InExtra, LengthAt, built_length_at}
use Rattle.demands.specs.Frames.{addresses_in, low_six, InFormatByte, InExtraByte, LengthPlaced}

-- A frame with the format byte of this form has as many addresses as the form.
addresses_in_lem : (form : Form) (low : ℕ) (frame : List ℕ) → low ≤ 63 → get_or frame 0 0 ≡ top_bits form + low → addresses_in frame ≡ address_count form
unfolding format_form address_count
addresses_in_lem Plain low frame h e = let m : get_or frame 0 0 / 64 ≡ 0 = omega arith in rw m
addresses_in_lem Foreign low frame h e = let m : get_or frame 0 0 / 64 ≡ 1 = omega arith in rw m
addresses_in_lem Physical low frame h e = let m : get_or frame 0 0 / 64 ≡ 2 = omega arith in rw m
addresses_in_lem Functional low frame h e = let m : get_or frame 0 0 / 64 ≡ 3 = omega arith in rw m

-- so the length stands in the low six bits or in the extra byte
in_format_byte : (n : ℕ) (form : Form) (frame : List ℕ) → n ≤ 63 → InFormat n form frame → InFormatByte n frame
in_format_byte n form frame h e = ap (λ (k : ℕ). k % 64) e ∙ low_back form n h

in_extra_byte : (n : ℕ) (form : Form) (frame : List ℕ) → InExtra n form frame → InExtraByte n frame
in_extra_byte n form frame x =
    let zero : 0 ≤ 63 = omega arith in (
      ap (λ (k : ℕ). k % 64) x.0 ∙ low_back form 0 zero,
      ap (λ (k : ℕ). get_or frame (1 + k) 0) (addresses_in_lem form 0 frame zero x.0) ∙ x.1,
    )

length_placed : (choice kb1 n : ℕ) (form : Form) (frame : List ℕ) → LengthAt choice kb1 n form frame → LengthPlaced choice kb1 n frame
length_placed choice kb1 n form frame w = record {
  chosen = λ h. absurd (omega (arith, w.chosen));
  short = λ e g. in_format_byte n form frame g.2 (w.short e g);
  long = λ e none. let x = w.long e none in (x.0, in_extra_byte n form frame x.1);
  in_format = λ e. let x = w.in_format e in (x.0, in_format_byte n form frame x.0.2 x.1);
  in_extra = λ e. let x = w.in_extra e in (x.0, in_extra_byte n form frame x.1);
}

-- WHAT IS BUILT HAS ITS LENGTH IN THE PLACE CHOSEN; under the choice 0 in the format byte wherever it may stand there, and otherwise in the extra byte.
pub built_placed : (p : Plan) (bytes out : List ℕ) (r : Built) (after : List ℕ) → Builds p bytes out r after → r.no ≡ taken
    → LengthPlaced p.choice p.pair.kb1 (length bytes) (take r.len after)
built_placed p bytes out r after b e =
    length_placed p.choice p.pair.kb1 (length bytes) (form_numbered p.form) (take r.len after) (built_length_at p bytes out r after b e)

-- A BUILDER THAT USES THE EXTRA BYTE, where the frame is to be shortest, for a length that may stand in the format byte is shut out: by two data bytes
-- under EF.
pub short_extra_shut : (frame : List ℕ) → low_six frame ≡ 0 → LengthPlaced 0 0xEF 2 frame → ⊥
unfolding length_in_format
short_extra_shut frame e p = omega (arith, e, p.short refl (refl, omega arith, omega arith))

-- SO IS ONE THAT FALLS BACK to the format byte where the extra byte was chosen: by any length at all, also where KB1 does not announce the extra byte.
pub fall_back_shut : (kb1 n : ℕ) (frame : List ℕ) → InFormatByte n frame → LengthPlaced 2 kb1 n frame → ⊥
fall_back_shut kb1 n frame e p = let x = p.in_extra refl in omega (arith, e, x.0.1, x.1.0)

-- .. ONE THAT TAKES 64 BYTES for the format byte, whatever it makes of them, ..
pub sixty_four_shut : (kb1 : ℕ) (frame : List ℕ) → LengthPlaced 1 kb1 64 frame → ⊥
sixty_four_shut kb1 frame p = omega (arith, (p.in_format refl).0.2)

-- .. AND ONE THAT TAKES A CHOICE ABOVE 2.
pub fourth_choice_shut : (choice kb1 n : ℕ) (frame : List ℕ) → 2 < choice → LengthPlaced choice kb1 n frame → ⊥
fourth_choice_shut choice kb1 n frame h p = p.chosen h
