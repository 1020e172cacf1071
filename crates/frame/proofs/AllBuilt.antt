-- Every frame that good key bytes announce is built, by the plan that names its form, its place and its addresses. Assumes nothing.
use mathlib.Core.Path.{◌≡◌, refl, sym, ap, ◌∙◌}
use mathlib.Core.Bool.{false}
use mathlib.Core.List.{List}
use Prim.Native.Nat.{ℕ, ◌≤◌}
use borrow.Author.Tests.{le-ltb}
use lib.Dec.{ltb}
use lib.ListN.{length}
use Rattle.std.specs.Prelude.{Option, Some, None}
use Rattle.base.specs.Numbers.{taken}
use Rattle.keys.specs.Keys.{length_in_format, extra_length}
use Rattle.frame.specs.Layout.{form_numbered, number_of}
use Rattle.frame.specs.Build.{only_in, place_chosen, place_in, planned, size_of, build_no, built_of, over, buffer_after, Builds}
use Rattle.frame.specs.Announced.{Placed, IsFrame, choice_of, plan_of}
use Rattle.frame.specs.declared.Place.{Place}
use Rattle.frame.specs.declared.Place.TheVariants.{Format, Extra}
use Rattle.frame.specs.declared.Plan.{Plan}
use Rattle.frame.proofs.Sizes.{frame_length}
use Rattle.frame.proofs.Announced.{somewhere, there_by}
use Rattle.frame.proofs.WellRead.{form_again}

-- the choice of a place is one of the three, and leads there
few_choices : (place : Option Place) → ltb 2 (choice_of place) ≡ false
few_choices (Some Format) = refl
few_choices (Some Extra) = refl
few_choices None = refl

choice_place : (kb1 : ℕ) (place : Option Place) (n : ℕ) → Placed kb1 place n → place_chosen (choice_of place) kb1 n ≡ place
unfolding place_chosen only_in
choice_place kb1 (Some Format) n p = there_by (length_in_format kb1) n _ _ _ p.0 p.1 p.2
choice_place kb1 (Some Extra) n p = there_by (extra_length kb1) n _ _ _ p.0 p.1 p.2
choice_place kb1 None n p = absurd p

module _ (kb1 kb2 : ℕ) (s : List ℕ) (f : IsFrame kb1 kb2 s) where
  abbrev plan : Plan
  plan = plan_of kb1 kb2 s f

  abbrev n : ℕ
  n = length f.bytes

  there : place_in plan n ≡ f.place
  there = choice_place kb1 f.place n f.announced.placed

  same_form : form_numbered (number_of f.form) ≡ f.form
  same_form = form_again f.form

  the_frame : planned plan f.bytes ≡ s
  unfolding planned
  the_frame = rw (there, same_form) (sym f.whole)

  the_size : size_of plan n ≡ length s
  unfolding size_of
  the_size = rw (there, same_form) (sym (frame_length f.form f.place f.target f.source f.bytes) ∙ ap length (sym f.whole))

  no_refusal : (room : ℕ) → length s ≤ room → build_no plan n room ≡ taken
  unfolding build_no
  no_refusal room h =
      rw (
        f.announced.good,
        few_choices f.place,
        same_form,
        f.announced.takes,
        there,
        somewhere kb1 f.place n f.announced.placed,
        the_size,
        le-ltb room (length s) h,
      )

  -- EVERY ANNOUNCED FRAME IS BUILT, into any buffer that has room for it
  pub announced_built : (out : List ℕ) → length s ≤ length out → Builds plan f.bytes out (record { no = taken; len = length s }) (over s out)
  unfolding built_of buffer_after
  announced_built out h = record {
    answer = rw (no_refusal (length out) h, the_size);
    memory = rw (no_refusal (length out) h, the_frame);
  }
