-- What is built reads back: over the definitions for every announced frame, and then of what `build` leaves in the lent buffer.
-- Assumes nothing.
use mathlib.Core.Path.{◌≡◌, refl, sym, ap, ◌∙◌, subst}
use mathlib.Core.Bool.{Bool, true, false, false≢true}
use mathlib.Core.List.{List, [], ◌∷◌, ◌++◌, append-nil}
use Prim.Native.Nat.{ℕ, ◌+◌, ◌-◌, ◌%◌, ◌≤◌}
use native.Mathlib.Omega.{arith}
use borrow.Author.Tests.{eq-eqb, eqb-true}
use lib.Dec.{eqb}
use lib.ListN.{length, get_or, take, length-append}
use lib.Seq.{take_at, get_or_at}
use Rattle.std.specs.Prelude.{Option, if◌then◌else◌}
use Rattle.base.specs.Numbers.{taken}
use Rattle.base.proofs.Tests.{by_test}
use Rattle.keys.specs.Keys.{takes_form}
use Rattle.keys.specs.declared.Form.{Form}
use Rattle.keys.specs.declared.Form.TheVariants.{Plain, Physical, Functional, Foreign}
use Rattle.frame.specs.Layout.{form_numbered, number_of, head_size, total, checksum_of, body_of, frame_of, SumsUp, carried}
use Rattle.frame.specs.Build.{place_in, planned, size_of, build_no, not_built, built_of, over, buffer_after, Builds}
use Rattle.frame.specs.Read.{laid_of, judged, read_of, data_of}
use Rattle.frame.specs.Announced.{Announced}
use Rattle.frame.specs.ReadsBack.{ReadsBack, BuiltReadsBack}
use Rattle.frame.specs.declared.Place.{Place}
use Rattle.frame.specs.declared.Plan.{Plan}
use Rattle.frame.specs.Answers.{Built}
use Rattle.frame.proofs.Sizes.{head_le, body_length, frame_length}
use Rattle.frame.proofs.Announced.{length_byte, none_refuses}
use Rattle.frame.proofs.Starts.{Starts, frame_starts, starts_laid}

module _ (kb1 kb2 : ℕ) (form : Form) (place : Option Place) (t s : ℕ) (d : List ℕ) (r : Announced kb1 kb2 form place (length d)) where
  frame_laid : (rest : List ℕ) → laid_of kb1 (frame_of form place t s d ++ rest) ≡ record { no = taken; form = form; start = head_size form place; len = length d }
  frame_laid rest =
      starts_laid kb1 (frame_of form place t s d ++ rest) form place t s d r.takes r.placed (frame_starts kb1 form place t s d r.placed rest)

  whole_starts : Starts kb1 (frame_of form place t s d) form place t s d
  whole_starts =
      subst (λ (S : List ℕ). Starts kb1 S form place t s d) (append-nil (frame_of form place t s d)) (frame_starts kb1 form place t s d r.placed [])

  whole_laid : laid_of kb1 (frame_of form place t s d) ≡ record { no = taken; form = form; start = head_size form place; len = length d }
  whole_laid = starts_laid kb1 (frame_of form place t s d) form place t s d r.takes r.placed whole_starts

  -- the last byte is the checksum of those before it
  sum_right : checksum_of (take (head_size form place + length d) (frame_of form place t s d)) ≡ get_or (frame_of form place t s d) (head_size form place + length d) 0
  unfolding frame_of
  sum_right =
      let body = body_of form place t s d in
      let e = body_length form place t s d in
      ap checksum_of (take_at body (checksum_of body ∷ []) (head_size form place + length d) e)
      ∙ sym (get_or_at body (checksum_of body) [] 0 (head_size form place + length d) e)

  frame_read : read_of kb1 kb2 (frame_of form place t s d)
      ≡ record { no = taken; form = number_of form; target = carried form t; source = carried form s; start = head_size form place; len = length d }
  unfolding read_of judged
  frame_read =
      rw (
        r.good,
        whole_laid,
        eq-eqb (length (frame_of form place t s d)) (head_size form place + length d + 1) (frame_length form place t s d),
        eq-eqb (checksum_of (take (head_size form place + length d) (frame_of form place t s d))) (get_or (frame_of form place t s d) (head_size form place + length d) 0) sum_right,
        whole_starts.target_is,
        whole_starts.source_is,
      )

  -- EVERY ANNOUNCED FRAME READS BACK, and its front fixes it whatever stands after
  pub frame_reads_back : ReadsBack kb1 kb2 form t s d (frame_of form place t s d)
  unfolding data_of
  frame_reads_back = record {
    start = head_size form place;
    laid = frame_laid;
    ends = λ rest. take_at (frame_of form place t s d) rest (head_size form place + length d + 1) (frame_length form place t s d);
    target = λ rest. (frame_starts kb1 form place t s d r.placed rest).target_is;
    source = λ rest. (frame_starts kb1 form place t s d r.placed rest).source_is;
    bytes = λ rest. (frame_starts kb1 form place t s d r.placed rest).data_is;
    reading = frame_read;
    contents = rw frame_read whole_starts.data_is;
  }

  -- A FRAME HAS AT MOST 260 BYTES
  pub frame_small : length (frame_of form place t s d) ≤ 260
  frame_small = omega (arith, frame_length form place t s d, head_le form place, length_byte kb1 place (length d) r.placed)

-- THE CHECKSUM IS THE SUM OF ALL BYTES BEFORE IT, MODULO 256
pub frame_sums_up : (form : Form) (place : Option Place) (t s : ℕ) (d : List ℕ) → SumsUp (frame_of form place t s d)
unfolding frame_of checksum_of
frame_sums_up form place t s d =
    let body = body_of form place t s d in
    let c = total body % 256 in
    let n : length body ≡ length (body ++ (c ∷ [])) - 1 = omega (arith, length-append body (c ∷ [])) in
    get_or_at body c [] 0 (length (body ++ (c ∷ [])) - 1) n ∙ sym (ap (λ (l : List ℕ). total l % 256) (take_at body (c ∷ []) (length (body ++ (c ∷ [])) - 1) n))

-- a form that key bytes take has its number back
number_back : (kb1 n : ℕ) → takes_form kb1 (form_numbered n) ≡ true → number_of (form_numbered n) ≡ n
unfolding form_numbered takes_form
number_back kb1 n h = by_number (eqb n 0) (eqb n 1) (eqb n 2) refl refl refl h
  where
    by_number : (a b c : Bool) → eqb n 0 ≡ a → eqb n 1 ≡ b → eqb n 2 ≡ c
        → takes_form kb1 (if a then Plain else if b then Physical else if c then Functional else Foreign) ≡ true
        → number_of (if a then Plain else if b then Physical else if c then Functional else Foreign) ≡ n
    by_number true b c ea eb ec h = sym (eqb-true n 0 ea)
    by_number false true c ea eb ec h = sym (eqb-true n 1 eb)
    by_number false false true ea eb ec h = sym (eqb-true n 2 ec)
    by_number false false false ea eb ec h = absurd (false≢true h)

-- the number of an answer
pub built_no : (p : Plan) (n room : ℕ) → (built_of p n room).no ≡ build_no p n room
unfolding built_of
built_no p n room = by_no (eqb (build_no p n room) taken) refl
  where
    by_no : (b : Bool) → eqb (build_no p n room) taken ≡ b → (if b then record { no = taken; len = size_of p n } else not_built (build_no p n room)).no ≡ build_no p n room
    by_no true e = sym (eqb-true (build_no p n room) taken e)
    by_no false e = refl

-- the number 0 of an answer is the one that the tests give
pub built_taken : (p : Plan) (bytes out : List ℕ) (r : Built) (after : List ℕ) → Builds p bytes out r after → r.no ≡ taken
    → build_no p (length bytes) (length out) ≡ taken
built_taken p bytes out r after b e = sym (built_no p (length bytes) (length out)) ∙ ap (λ (k : Built). k.no) (sym b.answer) ∙ e

-- WHAT IS PLANNED READS BACK, where key bytes announce it
pub planned_reads_back : (p : Plan) (bytes : List ℕ)
    → Announced p.pair.kb1 p.pair.kb2 (form_numbered p.form) (place_in p (length bytes)) (length bytes)
    → ReadsBack p.pair.kb1 p.pair.kb2 (form_numbered p.form) p.target p.source bytes (planned p bytes)
unfolding planned
planned_reads_back p bytes a = frame_reads_back p.pair.kb1 p.pair.kb2 (form_numbered p.form) (place_in p (length bytes)) p.target p.source bytes a

-- and so does WHAT `build` BUILDS
pub built_reads_back : (p : Plan) (bytes out : List ℕ) (r : Built) (after : List ℕ) → Builds p bytes out r after → r.no ≡ taken → BuiltReadsBack p bytes out r after
unfolding built_of buffer_after over planned size_of
built_reads_back p bytes out r after b e =
    let n = length bytes in
    let no = built_taken p bytes out r after b e in
    let x = none_refuses p n (length out) no in
    record {
      frame = planned p bytes;
      size =
          ap (λ (k : Built). k.len) b.answer ∙ rw (eq-eqb (build_no p n (length out)) taken no)
          (sym (frame_length (form_numbered p.form) (place_in p n) p.target p.source bytes));
      memory = b.memory ∙ rw (eq-eqb (build_no p n (length out)) taken no);
      form_number = number_back p.pair.kb1 p.form x.announced.takes;
      reads_back = planned_reads_back p bytes x.announced;
    }

-- .. and has at most 260 bytes
pub built_small : (p : Plan) (bytes out : List ℕ) (r : Built) (after : List ℕ) → Builds p bytes out r after → r.no ≡ taken → r.len ≤ 260
unfolding built_reads_back planned
built_small p bytes out r after b e =
    let x = none_refuses p (length bytes) (length out) (built_taken p bytes out r after b e) in
    omega (
      arith,
      (built_reads_back p bytes out r after b e).size,
      frame_small p.pair.kb1 p.pair.kb2 (form_numbered p.form) (place_in p (length bytes)) p.target p.source bytes x.announced,
    )

-- .. and, taken or refused, no more than the buffer
pub built_fits : (p : Plan) (bytes out : List ℕ) (r : Built) (after : List ℕ) → Builds p bytes out r after → r.len ≤ length out
unfolding built_of
built_fits p bytes out r after b =
    let n = length bytes in
    rw b.answer
    (by_test (λ (x : Built). x.len ≤ length out) (eqb (build_no p n (length out)) taken)
    (λ e. (none_refuses p n (length out) (eqb-true (build_no p n (length out)) taken e)).roomy) (λ _. omega arith))

-- .. and is the frame that is planned: so many bytes at the front
pub built_front : (p : Plan) (bytes out : List ℕ) (r : Built) (after : List ℕ) → Builds p bytes out r after → r.no ≡ taken
    → take r.len after ≡ planned p bytes
unfolding built_reads_back
built_front p bytes out r after b e =
    let w = built_reads_back p bytes out r after b e in
    ap (take r.len) w.memory ∙ take_at (planned p bytes) _ r.len (sym w.size)
