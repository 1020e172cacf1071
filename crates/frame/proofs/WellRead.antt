-- Whatever reads well is the frame of what was read, with its length place.
-- What is read fixes the head byte by byte, the head fixes how long the slice is, and the last byte is the sum: nothing of the slice is left open.
-- Assumes nothing.
use mathlib.Core.Path.{◌≡◌, refl, sym, ap, ◌∙◌, subst}
use mathlib.Core.Bool.{Bool, true, false, not, true≢false}
use mathlib.Core.Logic.{◌↔◌}
use mathlib.Core.List.{List, [], ◌∷◌, ◌++◌}
use Prim.Native.Nat.{ℕ, ◌+◌, ◌/◌, ◌%◌, ◌≤◌, ◌<◌}
use native.Mathlib.Numerals.{add-one}
use native.Mathlib.Omega.{arith}
use borrow.Author.Tests.{eqb-true, eqb-false, eq-eqb}
use lib.Dec.{eqb}
use lib.ListN.{length, get_or, take, drop, length-drop}
use lib.Seq.{take-suc, take-add, take_all, length-take-le}
use Rattle.std.specs.Prelude.{Option, Some, None, if◌then◌else◌}
use Rattle.base.specs.Numbers.{taken, bad_form, bad_length, bad_checksum, bad_keys}
use Rattle.base.proofs.Tests.{by_test}
use Rattle.keys.specs.Keys.{good_pair, takes_form, length_in_format, extra_length}
use Rattle.keys.specs.declared.Form.{Form}
use Rattle.keys.specs.declared.Form.TheVariants.{Plain, Physical, Functional, Foreign}
use Rattle.frame.specs.Layout.{form_numbered, number_of, top_bits, format_form, low_bits, addresses_of, extra_of, address_count, extra_count, head_size, head_of, checksum_of, body_of, frame_of, SumsUp, carried, is_nowhere}
use Rattle.frame.specs.Read.{format_byte, place_read, length_read, length_of, not_laid, laid_of, not_read, judged, read_of, data_of}
use Rattle.frame.specs.Announced.{Placed, Announced, IsFrame}
use Rattle.frame.specs.ReadsBack.{ReadsBack}
use Rattle.frame.specs.declared.Place.{Place}
use Rattle.frame.specs.declared.Place.TheVariants.{Format, Extra}
use Rattle.frame.specs.Answers.{Laid, Reading}
use Rattle.frame.proofs.Announced.{length_byte}
use Rattle.frame.proofs.Sizes.{head_le, frame_length}
use Rattle.frame.proofs.RoundTrip.{frame_reads_back, frame_sums_up}

-- where the data starts, and the layout that is read
abbrev start_of : ℕ → List ℕ → ℕ
start_of kb1 s = head_size (format_form (format_byte s)) (place_read kb1 (format_byte s))

abbrev laid_at : ℕ → List ℕ → Laid
laid_at kb1 s = record { no = taken; form = format_form (format_byte s); start = start_of kb1 s; len = length_of s }

-- what it means that `laid_of` refuses nothing, and that `judged` does not
record LaidWell (kb1 : ℕ) (s : List ℕ) : Type 0 where
  takes : takes_form kb1 (format_form (format_byte s)) ≡ true
  announced : is_nowhere (place_read kb1 (format_byte s)) ≡ false
  length_some : length_of s ≡ 0 → ⊥
  laid : laid_of kb1 s ≡ laid_at kb1 s

four : (a b c d : Bool) (x : Laid) → (if a then not_laid bad_length else if not b then not_laid bad_form else if c then not_laid bad_length else if d then not_laid bad_length else x).no ≡ taken
    → (a ≡ false) × (b ≡ true) × (c ≡ false) × (d ≡ false)
four false true false false x e = (refl, refl, refl, refl)
four true b c d x e = absurd (omega arith)
four false false c d x e = absurd (omega arith)
four false true true d x e = absurd (omega arith)
four false true false true x e = absurd (omega arith)

laid_well : (kb1 : ℕ) (s : List ℕ) → (laid_of kb1 s).no ≡ taken → LaidWell kb1 s
unfolding laid_of
laid_well kb1 s e =
    let t = four (eqb (length s) 0) (takes_form kb1 (format_form (format_byte s))) (is_nowhere (place_read kb1 (format_byte s))) (eqb (length_of s) 0) (laid_at kb1 s) e in
    record {
      takes = t.1;
      announced = t.2;
      length_some = eqb-false (length_of s) 0 t.3;
      laid = rw (t.0, t.1, t.2, t.3);
    }

record JudgedWell (s : List ℕ) (l : Laid) : Type 0 where
  no_refusal : l.no ≡ taken
  size : length s ≡ l.start + l.len + 1
  sum : checksum_of (take (l.start + l.len) s) ≡ get_or s (l.start + l.len) 0

three : (k : ℕ) (a b c : Bool) (x : Reading) → eqb k taken ≡ a
    → (if not a then not_read k else if not b then not_read bad_length else if not c then not_read bad_checksum else x).no ≡ taken
    → (a ≡ true) × (b ≡ true) × (c ≡ true)
three k true true true x ek e = (refl, refl, refl)
three k false b c x ek e = absurd (eqb-false k taken ek e)
three k true false c x ek e = absurd (omega arith)
three k true true false x ek e = absurd (omega arith)

judged_well : (s : List ℕ) (l : Laid) → (judged s l).no ≡ taken → JudgedWell s l
unfolding judged
judged_well s l e =
    let t = three l.no (eqb l.no taken) (eqb (length s) (l.start + l.len + 1)) (eqb (checksum_of (take (l.start + l.len) s)) (get_or s (l.start + l.len) 0)) _ refl e in
    record {
      no_refusal = eqb-true l.no taken t.0;
      size = eqb-true (length s) (l.start + l.len + 1) t.1;
      sum = eqb-true (checksum_of (take (l.start + l.len) s)) (get_or s (l.start + l.len) 0) t.2;
    }

-- the first bytes of a list
take_1 : (s : List ℕ) → 1 ≤ length s → take 1 s ≡ get_or s 0 0 ∷ []
take_1 s h = take-suc s 0 0 h

take_2 : (s : List ℕ) → 2 ≤ length s → take 2 s ≡ get_or s 0 0 ∷ get_or s 1 0 ∷ []
take_2 s h = take-suc s 1 0 h ∙ ap (λ (l : List ℕ). l ++ (get_or s 1 0 ∷ [])) (take_1 s (omega arith))

take_3 : (s : List ℕ) → 3 ≤ length s → take 3 s ≡ get_or s 0 0 ∷ get_or s 1 0 ∷ get_or s 2 0 ∷ []
take_3 s h = take-suc s 2 0 h ∙ ap (λ (l : List ℕ). l ++ (get_or s 2 0 ∷ [])) (take_2 s (omega arith))

take_4 : (s : List ℕ) → 4 ≤ length s → take 4 s ≡ get_or s 0 0 ∷ get_or s 1 0 ∷ get_or s 2 0 ∷ get_or s 3 0 ∷ []
take_4 s h = take-suc s 3 0 h ∙ ap (λ (l : List ℕ). l ++ (get_or s 3 0 ∷ [])) (take_3 s (omega arith))

-- a head of this form and place is what those first bytes are
head_read : (form : Form) (place : Option Place) (s : List ℕ) (n : ℕ) → get_or s 0 0 ≡ top_bits form + low_bits place n
    → extra_of place (get_or s (1 + address_count form) 0) ≡ extra_of place n → head_size form place ≤ length s
    → take (head_size form place) s ≡ head_of form place (carried form (get_or s 1 0)) (carried form (get_or s 2 0)) n
unfolding head_size head_of addresses_of extra_of address_count extra_count carried
head_read Plain (Some Format) s n ef ex h = take_1 s h ∙ ap (λ (k : ℕ). k ∷ []) ef
head_read Plain (Some Extra) s n ef ex h = take_2 s h ∙ (λ i. ef i ∷ ex i)
head_read Plain None s n ef ex h = take_1 s h ∙ ap (λ (k : ℕ). k ∷ []) ef
head_read Physical (Some Format) s n ef ex h = take_3 s h ∙ ap (λ (k : ℕ). k ∷ get_or s 1 0 ∷ get_or s 2 0 ∷ []) ef
head_read Physical (Some Extra) s n ef ex h = take_4 s h ∙ (λ i. ef i ∷ get_or s 1 0 ∷ get_or s 2 0 ∷ ex i)
head_read Physical None s n ef ex h = take_3 s h ∙ ap (λ (k : ℕ). k ∷ get_or s 1 0 ∷ get_or s 2 0 ∷ []) ef
head_read Functional (Some Format) s n ef ex h = take_3 s h ∙ ap (λ (k : ℕ). k ∷ get_or s 1 0 ∷ get_or s 2 0 ∷ []) ef
head_read Functional (Some Extra) s n ef ex h = take_4 s h ∙ (λ i. ef i ∷ get_or s 1 0 ∷ get_or s 2 0 ∷ ex i)
head_read Functional None s n ef ex h = take_3 s h ∙ ap (λ (k : ℕ). k ∷ get_or s 1 0 ∷ get_or s 2 0 ∷ []) ef
head_read Foreign (Some Format) s n ef ex h = take_1 s h ∙ ap (λ (k : ℕ). k ∷ []) ef
head_read Foreign (Some Extra) s n ef ex h = take_2 s h ∙ (λ i. ef i ∷ ex i)
head_read Foreign None s n ef ex h = take_1 s h ∙ ap (λ (k : ℕ). k ∷ []) ef

top_three : (f : ℕ) → f < 256 → (f / 64 ≡ 0 → ⊥) → (f / 64 ≡ 1 → ⊥) → (f / 64 ≡ 2 → ⊥) → f ≡ 0xC0 + f % 64
top_three f h n0 n1 n2 = omega arith

-- a format byte is made of its form and its low six bits
pub format_made : (f : ℕ) → f < 256 → f ≡ top_bits (format_form f) + f % 64
unfolding format_form
format_made f h =
    by_test (λ (x : Form). f ≡ top_bits x + f % 64) (eqb (f / 64) 0) (λ e. let a = eqb-true (f / 64) 0 e in omega arith)
    (λ n0. by_test (λ (x : Form). f ≡ top_bits x + f % 64) (eqb (f / 64) 1) (λ e. let a = eqb-true (f / 64) 1 e in omega arith)
    (λ n1. by_test (λ (x : Form). f ≡ top_bits x + f % 64) (eqb (f / 64) 2) (λ e. let a = eqb-true (f / 64) 2 e in omega arith)
    (λ n2. top_three f h (eqb-false (f / 64) 0 n0) (eqb-false (f / 64) 1 n1) (eqb-false (f / 64) 2 n2))))

-- the place that is read, with the length n and the byte b after the addresses
record PlacedWell (kb1 f b n : ℕ) (place : Option Place) : Type 0 where
  low : low_bits place n ≡ f % 64
  placed : Placed kb1 place n
  extra : extra_of place b ≡ extra_of place n

placed_by : (kb1 f b : ℕ) (z x g : Bool) → eqb (f % 64) 0 ≡ z → extra_length kb1 ≡ x → length_in_format kb1 ≡ g → b < 256
    → is_nowhere (if z then (if x then Some Extra else None) else (if g then Some Format else None)) ≡ false → ((if z then b else f % 64) ≡ 0 → ⊥)
    → PlacedWell kb1 f b (if z then b else f % 64) (if z then (if x then Some Extra else None) else (if g then Some Format else None))
unfolding is_nowhere low_bits extra_of
placed_by kb1 f b true true g ez ex eg hb a h = record { low = sym (eqb-true (f % 64) 0 ez); placed = (ex, omega arith, omega arith); extra = refl }
placed_by kb1 f b true false g ez ex eg hb a h = absurd (true≢false a)
placed_by kb1 f b false x true ez ex eg hb a h = record { low = refl; placed = (eg, omega arith, omega arith); extra = refl }
placed_by kb1 f b false x false ez ex eg hb a h = absurd (true≢false a)

placed_well : (kb1 : ℕ) (s : List ℕ) (f at : ℕ) → get_or s at 0 < 256 → is_nowhere (place_read kb1 f) ≡ false → (length_read s f at ≡ 0 → ⊥)
    → PlacedWell kb1 f (get_or s at 0) (length_read s f at) (place_read kb1 f)
unfolding place_read length_read
placed_well kb1 s f at hb a h = placed_by kb1 f (get_or s at 0) (eqb (f % 64) 0) (extra_length kb1) (length_in_format kb1) refl refl refl hb a h

-- a list that is as long as the layout says and has the right checksum is head, data and checksum
frame_made : (form : Form) (place : Option Place) (s : List ℕ) (n : ℕ) → length s ≡ head_size form place + n + 1
    → checksum_of (take (head_size form place + n) s) ≡ get_or s (head_size form place + n) 0
    → take (head_size form place) s ≡ head_of form place (carried form (get_or s 1 0)) (carried form (get_or s 2 0)) n
    → s ≡ frame_of form place (carried form (get_or s 1 0)) (carried form (get_or s 2 0)) (take n (drop (head_size form place) s))
unfolding frame_of body_of
frame_made form place s n size sum hd =
    let h = head_size form place in
    let d = take n (drop h s) in
    let n_is : length d ≡ n = length-take-le n (drop h s) (omega (arith, length-drop h s)) in
    let body : take (h + n) s ≡ head_of form place (carried form (get_or s 1 0)) (carried form (get_or s 2 0)) (length d) ++ d =
    take-add h n s ∙ ap (λ (l : List ℕ). l ++ d) (hd ∙ ap (head_of form place (carried form (get_or s 1 0)) (carried form (get_or s 2 0))) (sym n_is)) in
    sym (take_all (h + n + 1) s (omega arith)) ∙ ap (λ (k : ℕ). take k s) (add-one (h + n)) ∙ take-suc s (h + n) 0 (omega arith)
    ∙ (λ i. body i ++ ((sym sum ∙ ap checksum_of body) i ∷ []))

-- a form has its number back
pub form_again : (form : Form) → form_numbered (number_of form) ≡ form
unfolding form_numbered
form_again Plain = refl
form_again Physical = refl
form_again Functional = refl
form_again Foreign = refl

pub record WellRead (kb1 kb2 : ℕ) (s : List ℕ) : Type 0 where
  -- where its length stands
  pub place : Option Place
  -- it is a frame that these key bytes announce ..
  pub announced : Announced kb1 kb2 (form_numbered (read_of kb1 kb2 s).form) place (length (data_of kb1 kb2 s))
  -- .. and these are its bytes, all of them
  pub whole : s ≡ frame_of (form_numbered (read_of kb1 kb2 s).form) place (read_of kb1 kb2 s).target (read_of kb1 kb2 s).source (data_of kb1 kb2 s)

by_good : (b : Bool) (x : Reading) → (if not b then not_read bad_keys else x).no ≡ taken → (b ≡ true) × (x.no ≡ taken)
by_good true x e = (refl, e)
by_good false x e = absurd (omega arith)

read_is : (kb1 kb2 : ℕ) (s : List ℕ) → good_pair kb1 kb2 ≡ true → laid_of kb1 s ≡ laid_at kb1 s → length s ≡ start_of kb1 s + length_of s + 1
    → checksum_of (take (start_of kb1 s + length_of s) s) ≡ get_or s (start_of kb1 s + length_of s) 0
    → read_of kb1 kb2 s
    ≡ record {
      no = taken;
      form = number_of (format_form (format_byte s));
      target = carried (format_form (format_byte s)) (get_or s 1 0);
      source = carried (format_form (format_byte s)) (get_or s 2 0);
      start = start_of kb1 s;
      len = length_of s;
    }
unfolding read_of judged
read_is kb1 kb2 s g l size sum =
    rw (g, l, eq-eqb (length s) (start_of kb1 s + length_of s + 1) size, eq-eqb (checksum_of (take (start_of kb1 s + length_of s) s)) (get_or s (start_of kb1 s + length_of s) 0) sum)

-- what was read, put together
together : (kb1 kb2 : ℕ) (s : List ℕ) (form : Form) (place : Option Place) (t src start n : ℕ)
    → read_of kb1 kb2 s ≡ record { no = taken; form = number_of form; target = t; source = src; start = start; len = n }
    → Announced kb1 kb2 form place (length (take n (drop start s))) → s ≡ frame_of form place t src (take n (drop start s)) → WellRead kb1 kb2 s
unfolding data_of
together kb1 kb2 s form place t src start n e announced whole =
    record { place = place; announced = rw (e, form_again form) announced; whole = whole ∙ rw (e, form_again form) }

-- WHATEVER READS WELL IS THE FRAME OF WHAT WAS READ
pub well_read : (kb1 kb2 : ℕ) (s : List ℕ) → ((i : ℕ) → get_or s i 0 < 256) → (read_of kb1 kb2 s).no ≡ taken → WellRead kb1 kb2 s
unfolding read_of
well_read kb1 kb2 s byte e =
    let g = by_good (good_pair kb1 kb2) (judged s (laid_of kb1 s)) e in
    let j = judged_well s (laid_of kb1 s) g.1 in
    let w = laid_well kb1 s j.no_refusal in
    let form = format_form (format_byte s) in
    let place = place_read kb1 (format_byte s) in
    let at = 1 + address_count form in
    let n = length_of s in
    let h = head_size form place in
    let size : length s ≡ h + n + 1 = j.size ∙ ap (λ (l : Laid). l.start + l.len + 1) w.laid in
    let sum : checksum_of (take (h + n) s) ≡ get_or s (h + n) 0 = rw w.laid at j.sum in
    let p = placed_well kb1 s (format_byte s) at (byte at) w.announced w.length_some in
    let n_is : length (take n (drop h s)) ≡ n = length-take-le n (drop h s) (omega (arith, length-drop h s)) in
    let head = head_read form place s n (format_made (format_byte s) (byte 0) ∙ ap (λ (k : ℕ). top_bits form + k) (sym p.low)) p.extra (omega arith) in
    together kb1 kb2 s form place (carried form (get_or s 1 0)) (carried form (get_or s 2 0)) h n (read_is kb1 kb2 s g.0 w.laid size sum)
    (record { good = g.0; takes = w.takes; placed = rw n_is p.placed }) (frame_made form place s n size sum head)

-- A SLICE THAT READS WELL HAS AT MOST 260 BYTES
pub read_small : (kb1 kb2 : ℕ) (s : List ℕ) → ((i : ℕ) → get_or s i 0 < 256) → (read_of kb1 kb2 s).no ≡ taken → length s ≤ 260
read_small kb1 kb2 s byte e =
    let w = well_read kb1 kb2 s byte e in
    let form = form_numbered (read_of kb1 kb2 s).form in
    let d = data_of kb1 kb2 s in
    omega (
      arith,
      ap length w.whole,
      frame_length form w.place (read_of kb1 kb2 s).target (read_of kb1 kb2 s).source d,
      head_le form w.place,
      length_byte kb1 w.place (length d) w.announced.placed,
    )

-- A SLICE THAT READS WELL ENDS IN ITS CHECKSUM
pub read_sums_up : (kb1 kb2 : ℕ) (s : List ℕ) → ((i : ℕ) → get_or s i 0 < 256) → (read_of kb1 kb2 s).no ≡ taken → SumsUp s
read_sums_up kb1 kb2 s byte e =
    let w = well_read kb1 kb2 s byte e in
    let form = form_numbered (read_of kb1 kb2 s).form in
    subst SumsUp (sym w.whole) (frame_sums_up form w.place (read_of kb1 kb2 s).target (read_of kb1 kb2 s).source (data_of kb1 kb2 s))

-- READING WELL AND BEING A FRAME ARE ONE: a slice of bytes reads well exactly if it is a frame that good key bytes announce
pub reads_exactly : (kb1 kb2 : ℕ) (s : List ℕ) → ((i : ℕ) → get_or s i 0 < 256) → ((read_of kb1 kb2 s).no ≡ taken) ↔ IsFrame kb1 kb2 s
reads_exactly kb1 kb2 s byte = (
  λ e.
      let w = well_read kb1 kb2 s byte e in
      record {
        form = form_numbered (read_of kb1 kb2 s).form;
        place = w.place;
        target = (read_of kb1 kb2 s).target;
        source = (read_of kb1 kb2 s).source;
        bytes = data_of kb1 kb2 s;
        announced = w.announced;
        whole = w.whole;
      },
  λ f.
      ap (λ (l : List ℕ). (read_of kb1 kb2 l).no) f.whole
      ∙ ap (λ (r : Reading). r.no) (frame_reads_back kb1 kb2 f.form f.place f.target f.source f.bytes f.announced).reading,
)

-- EVERY SLICE THAT IS AN ANNOUNCED FRAME READS BACK
pub announced_reads_back : (kb1 kb2 : ℕ) (s : List ℕ) (f : IsFrame kb1 kb2 s) → ReadsBack kb1 kb2 f.form f.target f.source f.bytes s
announced_reads_back kb1 kb2 s f =
    subst (ReadsBack kb1 kb2 f.form f.target f.source f.bytes) (sym f.whole)
    (frame_reads_back kb1 kb2 f.form f.place f.target f.source f.bytes f.announced)
