-- What `build` leaves: a refusal touches nothing, and otherwise `write` has put the frame there. Assumes nothing.
use Rattle.std.proofs.Common.{◌≡◌, ℕ, ◌+◌, List, length, rules, Some, Ok, Err}
use borrow.Author.Tests.{ne_eqb}
use Rattle.base.specs.Numbers.{taken}
use Rattle.base.specs.Refusals.{number_of, no_of}
use Rattle.base.specs.declared.Refusal.{Refusal}
use Rattle.frame.specs.Layout.{form_numbered, head_size, frame_of}
use Rattle.frame.specs.Build.{place_in, planned, size_of, build_no, built_as, built_of, over, buffer_after, Builds}
use Rattle.frame.specs.declared.Place.{Place}
use Rattle.frame.specs.declared.Plan.{Plan}
use Rattle.frame.proofs.Announced.{writable}
use Rattle.base.proofs.Refusals.{not_taken}
use Rattle.frame.proofs.builder.build.Goals as goal

module _ (p : Plan) (bytes out : List ℕ) where
  refused : (why : Refusal) → number_of why ≡ build_no p (length bytes) (length out) → Builds p bytes out (built_as (Err why)) out
  unfolding built_of buffer_after
  refused why e = record { answer = rw (← e, ne_eqb (number_of why) 0 (not_taken why)); memory = rw (← e, ne_eqb (number_of why) 0 (not_taken why)) }

  done : (place : Place) (len : ℕ) (after : List ℕ) → taken ≡ build_no p (length bytes) (length out) → place_in p (length bytes) ≡ Some place
      → len ≡ head_size (form_numbered p.form) (Some place) + length bytes + 1
      → after ≡ over (frame_of (form_numbered p.form) (Some place) p.target p.source bytes) out → Builds p bytes out (built_as (Ok len)) after
  unfolding built_of buffer_after size_of planned
  done place len after e ep el em = record { answer = rw (← e, ep, el); memory = rw (← e, ep, em) }

pub returns-in_err-place : goal.returns-in_err-place
unfolding no_of
returns-in_err-place c =
    let why = c.in_err-place.field-0.0 in
    let same : c.from_residual.result ≡ Err why = search rules in
    rw same (refused c.args.p c.args.bytes.now c.args.out.now why c.in_err-place.ensures.number)

pub write-requires : goal.write-requires
unfolding no_of
write-requires c = rw c.form_numbered.ensures (writable c.args.p _ _ c.in_ok-place.place c.in_ok-place.ensures.number c.in_ok-place.ensures.place)

pub returns : goal.returns
unfolding no_of
returns c =
    let written = rw c.form_numbered.ensures at c.write.ensures in
    done c.args.p _ _ c.in_ok-place.place _ _ c.in_ok-place.ensures.number c.in_ok-place.ensures.place written.0 written.1
