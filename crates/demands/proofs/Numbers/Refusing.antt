-- DEMAND 1 of frames and timing: building, reading and timing codes get each number exactly when its condition holds and that of no smaller number
-- does; after a refusal the lent buffer is as it was and every other number is 0. It is said of all inputs.
-- Assumes nothing.
use Prim.Native.Nat.{ℕ, ◌+◌, ◌-◌, ◌/◌, ◌%◌, ◌≤◌, ◌<◌}
use mathlib.Core.Bool.{Bool, true, false, ◌&&◌, ◌||◌, not, false≢true, true≢false}
use mathlib.Core.List.{List}
use mathlib.Core.Logic.{◌↔◌, ◌⊎◌, inl, inr, ⊎_elim}
use mathlib.Core.Path.{◌≡◌, refl, sym, ap, subst, ◌∙◌}
use native.Mathlib.Omega.{arith}
use borrow.Author.Tests.{ltb-true, lt-ltb, leb-true, le-leb, lt-leb, eqb-true, eq-eqb, eqb-false, ne_eqb, not-true, not-false}
use lib.Dec.{eqb, leb, ltb}
use lib.ListN.{length, get_or, take}
use Rattle.std.specs.Prelude.{if◌then◌else◌}
use Rattle.base.specs.Numbers.{taken, bad_keys, bad_form, bad_length, bad_checksum}
use Rattle.units.specs.Units.{is_earlier}
use Rattle.units.specs.declared.Micros.{Micros}
use Rattle.keys.specs.Keys.{good_pair, pair_of, takes_form, length_in_format, extra_length, no_addresses, with_addresses, is_extended}
use Rattle.keys.specs.declared.Form.{Form}
use Rattle.keys.specs.declared.Form.TheVariants.{Plain, Physical, Functional, Foreign}
use Rattle.timing.specs.Answers.{Decoded, Encoded}
use Rattle.timing.specs.Timing.{is_unlimited, is_below, p4max, is_allowed, windows_by, not_decoded, decoded_of}
use Rattle.timing.specs.Timing.{codes_by, same_windows, not_encoded, encoded_of}
use Rattle.timing.specs.declared.Limit.{Limit}
use Rattle.timing.specs.declared.Windows.{Windows}
use Rattle.timing.specs.declared.Codes.{Codes}
use Rattle.timing.specs.Coded.{HasCodes}
use Rattle.timing.proofs.RoundTrip.{codes_exactly, no_codes}
use Rattle.frame.specs.Layout.{form_numbered, format_form, address_count, extra_count, head_size, total, checksum_of, is_nowhere}
use Rattle.frame.specs.Build.{place_for, only_in, place_chosen, place_in, planned, size_of, build_no, built_of, buffer_after, Builds}
use Rattle.frame.specs.Read.{format_byte, place_read, length_read, length_of, not_laid, laid_of, not_read, judged, read_of}
use Rattle.frame.specs.declared.Plan.{Plan}
use Rattle.frame.specs.Answers.{Built, Reading}
use Rattle.frame.proofs.Sizes.{frame_length}
use Rattle.frame.proofs.RoundTrip.{built_no}
use Rattle.demands.specs.Refusals.{Not}
use Rattle.demands.specs.Frames.{BadForm, BadPlan, GoesInFormat, TakesExtra, HasPlace, BadLength, BuildNumbered, Below, Allowed}
use Rattle.demands.specs.Frames.{low_six, addresses_in, extra_byte, size_said, BadMode, NotPlaced, BadSlice, BadSum, ReadNumbered}
use Rattle.demands.proofs.Numbers.Numbering.{Decides, either_of, both, off, meets, misses}

-- ---- tests that hold exactly when conditions do
three : {P Q R : Type 0} (a b c : Bool) → Decides a P → Decides b Q → Decides c R → Decides (a && (b && c)) (P × Q × R)
three true true c p q r = (λ t. (p.0 refl, q.0 refl, r.0 t), λ x. r.1 x.2)
three true false c p q r = (λ t. absurd (false≢true t), λ x. q.1 x.1)
three false b c p q r = (λ t. absurd (false≢true t), λ x. p.1 x.0)

opposite : {P : Type 0} (a : Bool) → Decides a P → Decides (not a) (Not P)
opposite true p = (λ t. absurd (false≢true t), λ f. absurd (f (p.0 refl)))
opposite false p = (λ _ x. false≢true (p.1 x), λ _. refl)

decides_false : (a : Bool) → Decides (not a) (a ≡ false)
decides_false a = (not-true a, λ e. ap not e)

decides_true : (a : Bool) → Decides a (a ≡ true)
decides_true a = (λ e. e, λ e. e)

decides_eq : (a b : ℕ) → Decides (eqb a b) (a ≡ b)
decides_eq a b = (eqb-true a b, eq-eqb a b)

decides_lt : (a b : ℕ) → Decides (ltb a b) (a < b)
decides_lt a b = (ltb-true a b, lt-ltb a b)

decides_le : (a b : ℕ) → Decides (leb a b) (a ≤ b)
decides_le a b = (leb-true a b, le-leb a b)

-- of the same condition in other words
same : {P Q : Type 0} (a : Bool) → Decides a P → P ↔ Q → Decides a Q
same a p e = (λ t. e.0 (p.0 t), λ q. p.1 (e.1 q))

-- ---- the number that four tests give, one after another: 5, 6, 7, and one that is after these
record Chosen (P Q R S : Type 0) (last no : ℕ) : Type 0 where
  five : (no ≡ 5) ↔ P
  six : (no ≡ 6) ↔ (Not P × Q)
  seven : (no ≡ 7) ↔ (Not P × Not Q × R)
  later : (no ≡ last) ↔ (Not P × Not Q × Not R × S)
  none : (no ≡ 0) ↔ (Not P × Not Q × Not R × Not S)
  no_other : (no ≡ 0) ⊎ ((5 ≤ no) × (no ≤ 7)) ⊎ (no ≡ last)

module _ {P Q R S : Type 0} (last : ℕ) (behind : 7 < last) where
  chosen : (a b c d : Bool) → Decides a P → Decides b Q → Decides c R → (c ≡ false → Decides d S)
      → Chosen P Q R S last (if a then bad_keys else if b then bad_form else if c then bad_length else if d then last else taken)
  chosen true b c d p q r s =
      let x = p.0 refl in
      record {
        five = meets 5 x;
        six = misses 5 6 refl (λ h. h.0 x);
        seven = misses 5 7 refl (λ h. h.0 x);
        later = misses 5 last (ne_eqb 5 last (λ e. omega arith)) (λ h. h.0 x);
        none = misses 5 0 refl (λ h. h.0 x);
        no_other = inr (inl (omega arith, omega arith));
      }
  chosen false true c d p q r s =
      let x = q.0 refl in
      record {
        five = misses 6 5 refl (off p);
        six = meets 6 (off p, x);
        seven = misses 6 7 refl (λ h. h.1 x);
        later = misses 6 last (ne_eqb 6 last (λ e. omega arith)) (λ h. h.1 x);
        none = misses 6 0 refl (λ h. h.1 x);
        no_other = inr (inl (omega arith, omega arith));
      }
  chosen false false true d p q r s =
      let x = r.0 refl in
      record {
        five = misses 7 5 refl (off p);
        six = misses 7 6 refl (λ h. off q h.1);
        seven = meets 7 (off p, off q, x);
        later = misses 7 last (ne_eqb 7 last (λ e. omega arith)) (λ h. h.2 x);
        none = misses 7 0 refl (λ h. h.2 x);
        no_other = inr (inl (omega arith, omega arith));
      }
  chosen false false false true p q r s =
      let x = (s refl).0 refl in
      record {
        five = misses last 5 (ne_eqb last 5 (λ e. omega arith)) (off p);
        six = misses last 6 (ne_eqb last 6 (λ e. omega arith)) (λ h. off q h.1);
        seven = misses last 7 (ne_eqb last 7 (λ e. omega arith)) (λ h. off r h.2);
        later = meets last (off p, off q, off r, x);
        none = misses last 0 (ne_eqb last 0 (λ e. omega arith)) (λ h. h.3 x);
        no_other = inr (inr refl);
      }
  chosen false false false false p q r s = record {
    five = misses 0 5 refl (off p);
    six = misses 0 6 refl (λ h. off q h.1);
    seven = misses 0 7 refl (λ h. off r h.2);
    later = misses 0 last (ne_eqb 0 last (λ e. omega arith)) (λ h. off (s refl) h.3);
    none = meets 0 (off p, off q, off r, off (s refl));
    no_other = inl refl;
  }

-- ---- building
-- 6, by the form's number
form_by : (kb1 n : ℕ) (a b c : Bool) → eqb n 0 ≡ a → eqb n 1 ≡ b → eqb n 2 ≡ c
    → Decides (not (takes_form kb1 (if a then Plain else if b then Physical else if c then Functional else Foreign))) (BadForm kb1 n)
unfolding takes_form
form_by kb1 n true b c ea eb ec =
    let e = eqb-true n 0 ea in
    same (not (no_addresses kb1)) (decides_false (no_addresses kb1)) (
      λ h. inr (inl (e, h)),
      ⊎_elim (λ h. absurd (omega arith)) (⊎_elim (λ h. h.1) (⊎_elim (λ h. absurd (omega (arith, h.0)))
          (⊎_elim (λ h. absurd (omega (arith, h.0))) (λ h. absurd (omega (arith, h.0)))))),
    )
form_by kb1 n false true c ea eb ec =
    let e = eqb-true n 1 eb in
    same (not (with_addresses kb1)) (decides_false (with_addresses kb1)) (
      λ h. inr (inr (inl (e, h))),
      ⊎_elim (λ h. absurd (omega arith)) (⊎_elim (λ h. absurd (omega (arith, h.0))) (⊎_elim (λ h. h.1)
          (⊎_elim (λ h. absurd (omega (arith, h.0))) (λ h. absurd (omega (arith, h.0)))))),
    )
form_by kb1 n false false true ea eb ec =
    let e = eqb-true n 2 ec in
    functional (with_addresses kb1) (is_extended kb1) e
  where
    functional : (w x : Bool) → n ≡ 2
        → Decides (not (w && not x))
        ((2 < n) ⊎ ((n ≡ 0) × (no_addresses kb1 ≡ false)) ⊎ ((n ≡ 1) × (w ≡ false)) ⊎ ((n ≡ 2) × (w ≡ false)) ⊎ ((n ≡ 2) × (x ≡ true)))
    functional false x e = (λ _. inr (inr (inr (inl (e, refl)))), λ _. refl)
    functional true true e = (λ _. inr (inr (inr (inr (e, refl)))), λ _. refl)
    functional true false e = (
      λ t. absurd (false≢true t),
      ⊎_elim (λ h. absurd (omega arith)) (⊎_elim (λ h. absurd (omega (arith, h.0))) (⊎_elim (λ h. absurd (omega (arith, h.0)))
          (⊎_elim (λ h. absurd (true≢false h.1)) (λ h. absurd (false≢true h.1))))),
    )
form_by kb1 n false false false ea eb ec =
    let n0 = eqb-false n 0 ea in
    let n1 = eqb-false n 1 eb in
    let n2 = eqb-false n 2 ec in
    (λ _. inl (omega arith), λ _. refl)

decides_form : (kb1 n : ℕ) → Decides (not (takes_form kb1 (form_numbered n))) (BadForm kb1 n)
unfolding form_numbered
decides_form kb1 n = form_by kb1 n (eqb n 0) (eqb n 1) (eqb n 2) refl refl refl

-- 6, also by the choice: two tests one after another with one number are one
decides_plan : (p : Plan) → Decides (ltb 2 p.choice || not (takes_form p.pair.kb1 (form_numbered p.form))) (BadPlan p)
decides_plan p = either_of (ltb 2 p.choice) _ (decides_lt 2 p.choice) (λ _. decides_form p.pair.kb1 p.form)

as_one : (a b : Bool) (k other : ℕ) → (if a || b then k else other) ≡ (if a then k else if b then k else other)
as_one true b k other = refl
as_one false b k other = refl

-- 7, by both places: whatever stands for them, only the third is nowhere
module _ {A : Type 0} (nowhere : A → Bool) (other : A) (eo : nowhere other ≡ true) where
  length_by : (format extra : A) → nowhere format ≡ false → nowhere extra ≡ false → (kb1 n : ℕ) (a b : Bool) → Decides a (GoesInFormat kb1 n)
      → Decides b (TakesExtra kb1 n) → Decides (nowhere (if a then format else if b then extra else other)) (Not (GoesInFormat kb1 n ⊎ TakesExtra kb1 n))
  length_by format extra ef ee kb1 n true b p q = (λ t. absurd (false≢true (sym ef ∙ t)), λ f. absurd (f (inl (p.0 refl))))
  length_by format extra ef ee kb1 n false true p q = (λ t. absurd (false≢true (sym ee ∙ t)), λ f. absurd (f (inr (q.0 refl))))
  length_by format extra ef ee kb1 n false false p q = (λ _. ⊎_elim (off p) (off q), λ _. eo)

  only_by : {P : Type 0} (place : A) → nowhere place ≡ false → (b : Bool) → Decides b P → Decides (nowhere (if b then place else other)) (Not P)
  only_by place e true p = (λ t. absurd (false≢true (sym e ∙ t)), λ f. absurd (f (p.0 refl)))
  only_by place e false p = (λ _. off p, λ _. eo)

  -- by the choice
  choice_by : (x y z : A) (choice kb1 n : ℕ) (a b c : Bool) → eqb choice 0 ≡ a → eqb choice 1 ≡ b → eqb choice 2 ≡ c
      → Decides (nowhere x) (Not (GoesInFormat kb1 n ⊎ TakesExtra kb1 n)) → Decides (nowhere y) (Not (GoesInFormat kb1 n))
      → Decides (nowhere z) (Not (TakesExtra kb1 n)) → Decides (nowhere (if a then x else if b then y else if c then z else other)) (Not (HasPlace choice kb1 n))
  choice_by x y z choice kb1 n true b c ea eb ec p q r =
      let e = eqb-true choice 0 ea in
      same (nowhere x) p (
        λ f. ⊎_elim (λ h. f h.1) (⊎_elim (λ h. absurd (omega (arith, h.0))) (λ h. absurd (omega (arith, h.0)))),
        λ f g. f (inl (e, g)),
      )
  choice_by x y z choice kb1 n false true c ea eb ec p q r =
      let e = eqb-true choice 1 eb in
      same (nowhere y) q (
        λ f. ⊎_elim (λ h. absurd (omega (arith, h.0))) (⊎_elim (λ h. f h.1) (λ h. absurd (omega (arith, h.0)))),
        λ f g. f (inr (inl (e, g))),
      )
  choice_by x y z choice kb1 n false false true ea eb ec p q r =
      let e = eqb-true choice 2 ec in
      same (nowhere z) r (
        λ f. ⊎_elim (λ h. absurd (omega (arith, h.0))) (⊎_elim (λ h. absurd (omega (arith, h.0))) (λ h. f h.1)),
        λ f g. f (inr (inr (e, g))),
      )
  choice_by x y z choice kb1 n false false false ea eb ec p q r = (
    λ _. ⊎_elim (λ h. eqb-false choice 0 ea h.0) (⊎_elim (λ h. eqb-false choice 1 eb h.0) (λ h. eqb-false choice 2 ec h.0)),
    λ _. eo,
  )

decides_length : (p : Plan) (n : ℕ) → Decides (is_nowhere (place_in p n)) (BadLength p n)
unfolding place_chosen place_for only_in is_nowhere
decides_length p n =
    let format = three (length_in_format p.pair.kb1) (leb 1 n) (leb n 63) (decides_true (length_in_format p.pair.kb1)) (decides_le 1 n) (decides_le n 63) in
    let extra = three (extra_length p.pair.kb1) (leb 1 n) (leb n 255) (decides_true (extra_length p.pair.kb1)) (decides_le 1 n) (decides_le n 255) in
    choice_by is_nowhere _ refl _ _ _ p.choice p.pair.kb1 n (eqb p.choice 0) (eqb p.choice 1) (eqb p.choice 2) refl refl refl
    (length_by is_nowhere _ refl _ _ refl refl p.pair.kb1 n _ _ format extra) (only_by is_nowhere _ refl _ refl _ format) (only_by is_nowhere _ refl _ refl _ extra)

build_no_numbered : (p : Plan) (n room : ℕ) → BuildNumbered p n room (build_no p n room)
unfolding build_no
build_no_numbered p n room =
    let keys = not (good_pair p.pair.kb1 p.pair.kb2) in
    let form = not (takes_form p.pair.kb1 (form_numbered p.form)) in
    let c =
    chosen 8 (omega arith) keys (ltb 2 p.choice || form) (is_nowhere (place_in p n)) (ltb room (size_of p n)) (decides_false (good_pair p.pair.kb1 p.pair.kb2))
    (decides_plan p) (decides_length p n) (λ _. decides_lt room (size_of p n)) in
    subst (BuildNumbered p n room) (ap (λ (k : ℕ). if keys then 5 else k) (as_one (ltb 2 p.choice) form 6 _))
    (record {
      five = c.five;
      six = c.six;
      seven = c.seven;
      eight = c.later;
      built = c.none;
      no_other = ⊎_elim (λ e. inl e) (⊎_elim (λ h. inr (h.0, omega (arith, h.1))) (λ e. inr (omega arith, omega arith))) c.no_other;
    })

answered_no : (p : Plan) (bytes out : List ℕ) (r : Built) (after : List ℕ) → Builds p bytes out r after
    → build_no p (length bytes) (length out) ≡ r.no
answered_no p bytes out r after b = sym (ap (λ (k : Built). k.no) b.answer ∙ built_no p (length bytes) (length out))

-- THE NUMBER OF BUILDING, for every plan, all data and any lent buffer: 5, 6, 7 or 8 exactly when its condition holds and that of no smaller number
-- does, and 0 exactly when none of the four holds. There is no other number.
pub build_numbered : (p : Plan) (bytes out : List ℕ) (r : Built) (after : List ℕ) → Builds p bytes out r after
    → BuildNumbered p (length bytes) (length out) r.no
build_numbered p bytes out r after b =
    subst (BuildNumbered p (length bytes) (length out)) (answered_no p bytes out r after b) (build_no_numbered p (length bytes) (length out))

-- The size that 8 asks for is that of the frame.
pub frame_size : (p : Plan) (bytes : List ℕ) → length (planned p bytes) ≡ size_of p (length bytes)
unfolding planned size_of
frame_size p bytes = frame_length (form_numbered p.form) (place_in p (length bytes)) p.target p.source bytes

-- A BUILDER THAT JUDGES ROOM BY THE SHORTEST FRAME is shut out: by two data bytes in form 1 under EF 8F, which by choice 2 are a frame of seven bytes, and a
-- buffer of six.
pub short_room_shut : (target source k : ℕ) → k ≡ 0
    → BuildNumbered (record { choice = 2; pair = pair_of 0xEF 0x8F; form = 1; target = target; source = source }) 2 6 k → ⊥
unfolding size_of place_chosen only_in head_size address_count extra_count form_numbered extra_length
short_room_shut target source k e b = let r = b.built.0 e in r.3 (omega arith)

-- A REFUSAL OF BUILDING leaves the lent buffer as it was, and its length is 0.
pub build_as_before : (p : Plan) (bytes out : List ℕ) (r : Built) (after : List ℕ) → Builds p bytes out r after → Not (r.no ≡ 0)
    → (after ≡ out) × (r.len ≡ 0)
unfolding built_of buffer_after
build_as_before p bytes out r after b h =
    let q = ne_eqb (build_no p (length bytes) (length out)) 0 (λ e. h (sym (answered_no p bytes out r after b) ∙ e)) in
    (b.memory ∙ rw q, ap (λ (k : Built). k.len) b.answer ∙ rw q)

-- ---- reading
-- its tests as four, one after another
last_no : (b c : Bool) (r : Reading) → r.no ≡ taken
    → (if not b then not_read bad_length else if not c then not_read bad_checksum else r).no
    ≡ (if not b then bad_length else if not c then bad_checksum else taken)
last_no false c r e = refl
last_no true false r e = refl
last_no true true r e = e

last_zeros : (b c : Bool) (r : Reading) → r.no ≡ taken
    → Not ((if not b then not_read bad_length else if not c then not_read bad_checksum else r).no ≡ taken)
    → (if not b then not_read bad_length else if not c then not_read bad_checksum else r)
    ≡ not_read (if not b then not_read bad_length else if not c then not_read bad_checksum else r).no
last_zeros false c r e h = refl
last_zeros true false r e h = refl
last_zeros true true r e h = absurd (h e)

abbrev read_by : List ℕ → Bool → Bool → Bool → Bool → Bool → Form → ℕ → ℕ → Reading
read_by s good empty takes nowhere none form start len =
    if not good then not_read bad_keys else
    judged s
    (if empty then not_laid bad_length else
    if not takes then not_laid bad_form else
    if nowhere then not_laid bad_length else
    if none then not_laid bad_length else
    record { no = taken; form = form; start = start; len = len })

no_by : (s : List ℕ) (g z t w n : Bool) (form : Form) (start len : ℕ)
    → (read_by s g z t w n form start len).no
    ≡ (if not g then bad_keys else
    if not z && not t then bad_form else
    if z || (w || (n || not (eqb (length s) (start + len + 1)))) then bad_length else
    if not (eqb (checksum_of (take (start + len) s)) (get_or s (start + len) 0)) then bad_checksum else taken)
unfolding judged
no_by s false z t w n form start len = refl
no_by s true true t w n form start len = refl
no_by s true false false w n form start len = refl
no_by s true false true true n form start len = refl
no_by s true false true false true form start len = refl
no_by s true false true false false form start len =
    last_no (eqb (length s) (start + len + 1)) (eqb (checksum_of (take (start + len) s)) (get_or s (start + len) 0)) _ refl

zeros_by : (s : List ℕ) (g z t w n : Bool) (form : Form) (start len : ℕ) → Not ((read_by s g z t w n form start len).no ≡ taken)
    → read_by s g z t w n form start len ≡ not_read (read_by s g z t w n form start len).no
unfolding judged
zeros_by s false z t w n form start len h = refl
zeros_by s true true t w n form start len h = refl
zeros_by s true false false w n form start len h = refl
zeros_by s true false true true n form start len h = refl
zeros_by s true false true false true form start len h = refl
zeros_by s true false true false false form start len h =
    last_zeros (eqb (length s) (start + len + 1)) (eqb (checksum_of (take (start + len) s)) (get_or s (start + len) 0)) _ refl h

-- 6, by the mode
mode_by : (kb1 m : ℕ) (a b c : Bool) → eqb m 0 ≡ a → eqb m 1 ≡ b → eqb m 2 ≡ c
    → Decides (not (takes_form kb1 (if a then Plain else if b then Foreign else if c then Physical else Functional)))
    ((m ≡ 1) ⊎ ((m ≡ 0) × (no_addresses kb1 ≡ false)) ⊎ ((2 ≤ m) × (with_addresses kb1 ≡ false)) ⊎ ((3 ≤ m) × (is_extended kb1 ≡ true)))
unfolding takes_form
mode_by kb1 m true b c ea eb ec =
    let e = eqb-true m 0 ea in
    same (not (no_addresses kb1)) (decides_false (no_addresses kb1)) (
      λ h. inr (inl (e, h)),
      ⊎_elim (λ h. absurd (omega arith)) (⊎_elim (λ h. h.1) (⊎_elim (λ h. absurd (omega (arith, h.0))) (λ h. absurd (omega (arith, h.0))))),
    )
mode_by kb1 m false true c ea eb ec = (λ _. inl (eqb-true m 1 eb), λ _. refl)
mode_by kb1 m false false true ea eb ec =
    let e = eqb-true m 2 ec in
    same (not (with_addresses kb1)) (decides_false (with_addresses kb1)) (
      λ h. inr (inr (inl (omega arith, h))),
      ⊎_elim (λ h. absurd (omega arith)) (⊎_elim (λ h. absurd (omega (arith, h.0))) (⊎_elim (λ h. h.1) (λ h. absurd (omega (arith, h.0))))),
    )
mode_by kb1 m false false false ea eb ec =
    let n0 = eqb-false m 0 ea in
    let n1 = eqb-false m 1 eb in
    let n2 = eqb-false m 2 ec in
    functional (with_addresses kb1) (is_extended kb1) (omega arith)
  where
    functional : (w x : Bool) → 3 ≤ m
        → Decides (not (w && not x)) ((m ≡ 1) ⊎ ((m ≡ 0) × (no_addresses kb1 ≡ false)) ⊎ ((2 ≤ m) × (w ≡ false)) ⊎ ((3 ≤ m) × (x ≡ true)))
    functional false x e = (λ _. inr (inr (inl (omega arith, refl))), λ _. refl)
    functional true true e = (λ _. inr (inr (inr (e, refl))), λ _. refl)
    functional true false e = (
      λ t. absurd (false≢true t),
      ⊎_elim (λ h. absurd (omega arith)) (⊎_elim (λ h. absurd (omega (arith, h.0)))
          (⊎_elim (λ h. absurd (true≢false h.1)) (λ h. absurd (false≢true h.1)))),
    )

decides_some : (n : ℕ) → Decides (not (eqb n 0)) (1 ≤ n)
decides_some n = same (not (eqb n 0)) (opposite (eqb n 0) (decides_eq n 0)) (λ h. omega arith, λ h e. omega arith)

decides_mode : (kb1 : ℕ) (s : List ℕ) → Decides (not (eqb (length s) 0) && not (takes_form kb1 (format_form (format_byte s)))) (BadMode kb1 s)
unfolding format_form
decides_mode kb1 s =
    let m = format_byte s / 64 in
    both (not (eqb (length s) 0)) (not (takes_form kb1 (format_form (format_byte s)))) (decides_some (length s))
    (mode_by kb1 m (eqb m 0) (eqb m 1) (eqb m 2) refl refl refl)

-- 7: the place of the length, whatever stands for the three
place_by : {A : Type 0} (nowhere : A → Bool) (format extra other : A) → nowhere format ≡ false → nowhere extra ≡ false → nowhere other ≡ true
    → (m : ℕ) (z x g : Bool) → eqb m 0 ≡ z
    → Decides (nowhere (if z then (if x then extra else other) else (if g then format else other)))
    ((Not (m ≡ 0) × (g ≡ false)) ⊎ ((m ≡ 0) × (x ≡ false)))
place_by nowhere format extra other ef ee eo m true true g ez =
    (λ t. absurd (false≢true (sym ee ∙ t)), ⊎_elim (λ h. absurd (h.0 (eqb-true m 0 ez))) (λ h. absurd (true≢false h.1)))
place_by nowhere format extra other ef ee eo m true false g ez = (λ _. inr (eqb-true m 0 ez, refl), λ _. eo)
place_by nowhere format extra other ef ee eo m false x true ez =
    (λ t. absurd (false≢true (sym ef ∙ t)), ⊎_elim (λ h. absurd (true≢false h.1)) (λ h. absurd (eqb-false m 0 ez h.0)))
place_by nowhere format extra other ef ee eo m false x false ez = (λ _. inl (eqb-false m 0 ez, refl), λ _. eo)

decides_place : (kb1 : ℕ) (s : List ℕ) → Decides (is_nowhere (place_read kb1 (format_byte s))) (NotPlaced kb1 s)
unfolding place_read is_nowhere
decides_place kb1 s =
    place_by is_nowhere _ _ _ refl refl refl (low_six s) (eqb (low_six s) 0) (extra_length kb1) (length_in_format kb1) refl

-- a place that is announced takes one byte or none
count_by : {A : Type 0} (nowhere : A → Bool) (count : A → ℕ) (format extra other : A) → nowhere other ≡ true
    → count format ≡ 0 → count extra ≡ 1 → (z x g : Bool) → nowhere (if z then (if x then extra else other) else (if g then format else other)) ≡ false
    → count (if z then (if x then extra else other) else (if g then format else other)) ≡ (if z then 1 else 0)
count_by nowhere count format extra other eo cf ce true true g h = ce
count_by nowhere count format extra other eo cf ce true false g h = absurd (true≢false (sym eo ∙ h))
count_by nowhere count format extra other eo cf ce false x true h = cf
count_by nowhere count format extra other eo cf ce false x false h = absurd (true≢false (sym eo ∙ h))

count_read : (kb1 f : ℕ) → is_nowhere (place_read kb1 f) ≡ false → extra_count (place_read kb1 f) ≡ (if eqb (f % 64) 0 then 1 else 0)
unfolding place_read is_nowhere extra_count
count_read kb1 f h = count_by is_nowhere extra_count _ _ _ refl refl refl (eqb (f % 64) 0) (extra_length kb1) (length_in_format kb1) h

-- how many addresses, by the mode
addresses_by : (m : ℕ) (a b c : Bool) → eqb m 0 ≡ a → eqb m 1 ≡ b
    → address_count (if a then Plain else if b then Foreign else if c then Physical else Functional) ≡ (if leb 2 m then 2 else 0)
unfolding address_count
addresses_by m true b c ea eb = let e = eqb-true m 0 ea in rw (lt-leb 2 m (omega arith))
addresses_by m false true c ea eb = let e = eqb-true m 1 eb in rw (lt-leb 2 m (omega arith))
addresses_by m false false true ea eb = rw (le-leb 2 m (omega (arith, eqb-false m 0 ea, eqb-false m 1 eb)))
addresses_by m false false false ea eb = rw (le-leb 2 m (omega (arith, eqb-false m 0 ea, eqb-false m 1 eb)))

addresses_are : (s : List ℕ) → address_count (format_form (format_byte s)) ≡ addresses_in s
unfolding format_form
addresses_are s = let m = format_byte s / 64 in addresses_by m (eqb m 0) (eqb m 1) (eqb m 2) refl refl

-- the length, and how many bytes there are with it
none_by : (m b : ℕ) (z : Bool) → eqb m 0 ≡ z → Decides (eqb (if z then b else m) 0) ((m ≡ 0) × (b ≡ 0))
none_by m b true ez = same (eqb b 0) (decides_eq b 0) (λ e. (eqb-true m 0 ez, e), λ h. h.1)
none_by m b false ez = same (eqb m 0) (decides_eq m 0) (λ e. absurd (eqb-false m 0 ez e), λ h. h.0)

decides_none : (s : List ℕ) → Decides (eqb (length_of s) 0) ((low_six s ≡ 0) × (extra_byte s ≡ 0))
unfolding length_read
decides_none s = rw (addresses_are s) (none_by (low_six s) (extra_byte s) (eqb (low_six s) 0) refl)

size_by : (n a m b k : ℕ) (z : Bool) → k ≡ (if z then 1 else 0)
    → Decides (eqb n (1 + a + k + (if z then b else m) + 1)) (n ≡ (if z then 1 + a + 1 + b + 1 else 1 + a + m + 1))
size_by n a m b k true ek = same (eqb n (1 + a + k + b + 1)) (decides_eq n (1 + a + k + b + 1)) (λ e. omega arith, λ e. omega arith)
size_by n a m b k false ek = same (eqb n (1 + a + k + m + 1)) (decides_eq n (1 + a + k + m + 1)) (λ e. omega arith, λ e. omega arith)

abbrev start_of : ℕ → List ℕ → ℕ
start_of kb1 s = head_size (format_form (format_byte s)) (place_read kb1 (format_byte s))

decides_size : (kb1 : ℕ) (s : List ℕ) → is_nowhere (place_read kb1 (format_byte s)) ≡ false
    → Decides (eqb (length s) (start_of kb1 s + length_of s + 1)) (length s ≡ size_said s)
unfolding length_read head_size
decides_size kb1 s h =
    rw (addresses_are s)
    (size_by (length s) (addresses_in s) (low_six s) (extra_byte s) (extra_count (place_read kb1 (format_byte s)))
    (eqb (low_six s) 0) (count_read kb1 (format_byte s) h))

abbrev slice_test : ℕ → List ℕ → Bool
slice_test kb1 s =
    eqb (length s) 0
    || (is_nowhere (place_read kb1 (format_byte s)) || (eqb (length_of s) 0 || not (eqb (length s) (start_of kb1 s + length_of s + 1))))

decides_slice : (kb1 : ℕ) (s : List ℕ) → Decides (slice_test kb1 s) (BadSlice kb1 s)
decides_slice kb1 s =
    either_of (eqb (length s) 0) _ (decides_eq (length s) 0)
    (λ _. either_of (is_nowhere (place_read kb1 (format_byte s))) _ (decides_place kb1 s)
    (λ h. either_of (eqb (length_of s) 0) _ (decides_none s)
    (λ _. opposite (eqb (length s) (start_of kb1 s + length_of s + 1)) (decides_size kb1 s h))))

-- 9, of a slice that has its size
sized : (a b c d : Bool) → (a || (b || (c || not d))) ≡ false → d ≡ true
sized false false false d e = not-false d e
sized false false true d e = absurd (true≢false e)
sized false true c d e = absurd (true≢false e)
sized true b c d e = absurd (true≢false e)

sum_by : (s : List ℕ) (k j : ℕ) → k ≡ j → Decides (not (eqb (checksum_of (take k s)) (get_or s k 0))) (Not (get_or s j 0 ≡ total (take j s) % 256))
unfolding checksum_of
sum_by s k j e =
    rw e
    (opposite (eqb (total (take j s) % 256) (get_or s j 0))
    (same (eqb (total (take j s) % 256) (get_or s j 0)) (decides_eq (total (take j s) % 256) (get_or s j 0)) (λ q. sym q, λ q. sym q)))

decides_sum : (kb1 : ℕ) (s : List ℕ) → slice_test kb1 s ≡ false
    → Decides (not (eqb (checksum_of (take (start_of kb1 s + length_of s) s)) (get_or s (start_of kb1 s + length_of s) 0))) (BadSum s)
decides_sum kb1 s h =
    let n = start_of kb1 s + length_of s in
    let e : length s ≡ n + 1 =
    eqb-true (length s) (n + 1)
    (sized (eqb (length s) 0) (is_nowhere (place_read kb1 (format_byte s))) (eqb (length_of s) 0) (eqb (length s) (n + 1)) h) in
    sum_by s n (length s - 1) (omega arith)

-- THE NUMBER OF READING, for all key bytes and slices: 5, 6, 7 or 9 exactly when its condition holds and that of no smaller number does, and 0 exactly
-- when none of the four holds. There is no other number.
pub read_numbered : (kb1 kb2 : ℕ) (s : List ℕ) → ReadNumbered kb1 kb2 s (read_of kb1 kb2 s).no
unfolding read_of laid_of
read_numbered kb1 kb2 s =
    let f = format_byte s in
    let n = start_of kb1 s + length_of s in
    let c =
    chosen 9 (omega arith) (not (good_pair kb1 kb2)) (not (eqb (length s) 0) && not (takes_form kb1 (format_form f))) (slice_test kb1 s)
    (not (eqb (checksum_of (take n s)) (get_or s n 0))) (decides_false (good_pair kb1 kb2)) (decides_mode kb1 s) (decides_slice kb1 s) (decides_sum kb1 s) in
    subst (ReadNumbered kb1 kb2 s)
    (sym (no_by s (good_pair kb1 kb2) (eqb (length s) 0) (takes_form kb1 (format_form f)) (is_nowhere (place_read kb1 f))
    (eqb (length_of s) 0) (format_form f) (start_of kb1 s) (length_of s)))
    (record {
      five = c.five;
      six = c.six;
      seven = c.seven;
      nine = c.later;
      read = c.none;
      no_other = c.no_other;
    })

-- BESIDE A REFUSAL OF READING every other number is 0.
pub read_zeros : (kb1 kb2 : ℕ) (s : List ℕ) → Not ((read_of kb1 kb2 s).no ≡ 0) → read_of kb1 kb2 s ≡ not_read (read_of kb1 kb2 s).no
unfolding read_of laid_of
read_zeros kb1 kb2 s h =
    let f = format_byte s in
    zeros_by s (good_pair kb1 kb2) (eqb (length s) 0) (takes_form kb1 (format_form f)) (is_nowhere (place_read kb1 f))
    (eqb (length_of s) 0) (format_form f) (start_of kb1 s) (length_of s) h

-- ---- timing
decides_below : (m : Micros) (l : Limit) → Decides (is_below m l) (Below m l)
unfolding is_below is_unlimited
decides_below m l =
    either_of (eqb l.0.0 18_446_744_073_709_551_615) (is_earlier m l.0)
    (same (eqb l.0.0 18_446_744_073_709_551_615) (decides_eq l.0.0 18_446_744_073_709_551_615)
    (λ p i. record { 0 = record { 0 = p i } }, λ q. ap (λ (x : Limit). x.0.0) q))
    (λ _. decides_lt m.0 l.0.0)

-- The test on windows holds exactly when they are allowed.
pub allowed_exactly : (w : Windows) → (is_allowed w ≡ true) ↔ Allowed w
unfolding is_allowed
allowed_exactly w =
    let b2 = is_below w.p2min w.p2max in
    let b3 = is_below w.p3min w.p3max in
    same (b2 && b3 && is_earlier w.p4min p4max && is_earlier w.p4min w.p3min)
    (both (b2 && b3 && is_earlier w.p4min p4max) (is_earlier w.p4min w.p3min)
    (both (b2 && b3) (is_earlier w.p4min p4max)
    (both b2 b3 (decides_below w.p2min w.p2max) (decides_below w.p3min w.p3max)) (decides_lt w.p4min.0 20_000))
    (decides_lt w.p4min.0 w.p3min.0))
    (λ h. record { p2 = h.0.0.0; p3 = h.0.0.1; p4 = h.0.1; p3_above_p4 = h.1 }, λ a. (((a.p2, a.p3), a.p4), a.p3_above_p4))

ten_by : {A P : Type 0} (number : A → ℕ) (b : Bool) (x y : A) → number x ≡ 0 → number y ≡ 10 → Decides b P
    → ((number (if b then x else y) ≡ 10) ↔ Not P) × ((number (if b then x else y) ≡ 0) ↔ P)
ten_by number true x y ex ey p = rw ex (misses 0 10 refl (λ f. f (p.0 refl)), meets 0 (p.0 refl))
ten_by number false x y ex ey p = rw ey (meets 10 (off p), misses 10 0 refl (off p))

second_by : {A : Type 0} (number : A → ℕ) (b : Bool) (x y : A) → number x ≡ 0 → Not (number (if b then x else y) ≡ 0)
    → (if b then x else y) ≡ y
second_by number true x y ex h = absurd (h ex)
second_by number false x y ex h = refl

-- THE NUMBER OF TIMING CODES: 10 exactly when the windows that they stand for are not allowed, and 0 exactly when they are.
pub decode_numbered : (c : Codes) → (((decoded_of c).no ≡ 10) ↔ Not (Allowed (windows_by c))) × (((decoded_of c).no ≡ 0) ↔ Allowed (windows_by c))
unfolding decoded_of
decode_numbered c = ten_by (λ (d : Decoded). d.no) (is_allowed (windows_by c)) _ _ refl refl (allowed_exactly (windows_by c))

-- THE NUMBER OF WINDOWS: 10 exactly when no allowed codes stand for them, "a window no code gives is 10", and 0 exactly when some do.
pub encode_numbered : (w : Windows) → (((encoded_of w).no ≡ 10) ↔ Not (HasCodes w)) × (((encoded_of w).no ≡ 0) ↔ HasCodes w)
encode_numbered w = (
  (λ e h. absurd (omega (arith, (codes_exactly w).1 h)), λ f. ap (λ (r : Encoded). r.no) (no_codes w f)),
  codes_exactly w,
)

-- BESIDE A REFUSAL OF CODES OR WINDOWS every other number is 0.
pub decode_zeros : (c : Codes) → Not ((decoded_of c).no ≡ 0) → decoded_of c ≡ not_decoded
unfolding decoded_of
decode_zeros c h = second_by (λ (d : Decoded). d.no) (is_allowed (windows_by c)) _ _ refl h

pub encode_zeros : (w : Windows) → Not ((encoded_of w).no ≡ 0) → encoded_of w ≡ not_encoded
unfolding encoded_of
encode_zeros w h = second_by (λ (d : Encoded). d.no) (is_allowed w && same_windows (windows_by (codes_by w)) w) _ _ refl h
