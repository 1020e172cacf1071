-- By the link's own rules, bytes of one side are a message that ends in a frame with its last byte exactly if `frame` reads them as a frame. The link
-- judges byte by byte as they come (`head_reason`, `begun`, `later_reason`, `is_sum`, `grown`); `frame` reads a slice as a whole (`read_of`).
-- Assumes nothing.
use mathlib.Core.Path.{◌≡◌, refl, sym, ap, ◌∙◌}
use mathlib.Core.Bool.{Bool, true, false, not, ◌&&◌, false≢true}
use mathlib.Core.List.{List, [], ◌∷◌, ◌++◌}
use Prim.Native.Nat.{ℕ, zero, suc, ◌+◌, ◌/◌, ◌%◌, ◌≤◌, ◌<◌}
use native.Mathlib.Nat.{add-zero}
use native.Mathlib.Omega.{arith}
use borrow.Author.Tests.{eqb-true, eqb-false, ne_eqb, lt-ltb, le-ltb}
use lib.Dec.{eqb}
use lib.ListN.{length, get_or, take, length-append, get_or-eq_default}
use lib.Seq.{take-append-add, get_or-append-add, get_or-append_seam, append_snoc}
use Rattle.std.specs.Prelude.{if◌then◌else◌}
use Rattle.base.specs.Numbers.{taken, bad_form, bad_length, bad_checksum}
use Rattle.base.specs.Reports.{no_reason, mode_one, wrong_form, wrong_length, wrong_sum}
use Rattle.base.specs.Sums.{byte_sum}
use Rattle.keys.specs.Keys.{good_pair, takes_form, length_in_format, extra_length}
use Rattle.keys.specs.declared.Form.{Form}
use Rattle.keys.specs.declared.Form.TheVariants.{Plain, Physical, Functional, Foreign}
use Rattle.frame.specs.Layout.{format_form, address_count, extra_count, head_size, total, checksum_of, is_nowhere}
use Rattle.frame.specs.Read.{place_read, length_read, not_laid, laid_of, not_read, judged, read_of}
use Rattle.frame.specs.Answers.{Reading}
use Rattle.frame.proofs.Lists.{total_append}
use Rattle.events.specs.Events.{is_tester, is_unit, is_nobody, same_side}
use Rattle.events.specs.declared.Side.{Side}
use Rattle.events.specs.declared.Side.TheVariants.{Tester, Unit, Nobody}
use Rattle.talk.specs.Talk.{has_extra, place_announced, head_reason, after_addresses, part_after_format, begun, later_reason, is_sum, with_seven, after_data, with_data, grown}
use Rattle.talk.specs.Messages.{ends_in, is_message}
use Rattle.talk.specs.declared.Part.{Part}
use Rattle.talk.specs.declared.Part.TheVariants.{Target}
use Rattle.talk.specs.declared.Message.{Message}

-- ---- what both come to, after the format byte and the addresses
-- so many data bytes and, after the sum k of all before them, their checksum
abbrev closes : ℕ → ℕ → List ℕ → Bool
closes k n vs = eqb (length vs) (n + 1) && eqb ((k + total (take n vs)) % 256) (get_or vs n 0)

-- after the addresses: the length, which is the low six bits or the next byte, and what it announces
abbrev closes_by : Bool → ℕ → ℕ → List ℕ → Bool
closes_by false low k vs = closes k low vs
closes_by true low k [] = false
closes_by true low k (l ∷ vs) = not (eqb l 0) && closes (k + l) l vs

-- two tests of one thing are one
eqb_same : (a b c d : ℕ) → (a ≡ b → c ≡ d) → (c ≡ d → a ≡ b) → eqb a b ≡ eqb c d
eqb_same a b c d f g = by_tests (eqb a b) (eqb c d) refl refl
  where
    by_tests : (x y : Bool) → eqb a b ≡ x → eqb c d ≡ y → x ≡ y
    by_tests true true ex ey = refl
    by_tests true false ex ey = absurd (eqb-false c d ey (f (eqb-true a b ex)))
    by_tests false true ex ey = absurd (eqb-false a b ex (g (eqb-true c d ey)))
    by_tests false false ex ey = refl

-- one data byte less to come
closes_step : (k n v : ℕ) (vs : List ℕ) → closes (byte_sum k v) n vs ≡ closes k (suc n) (v ∷ vs)
unfolding total byte_sum
closes_step k n v vs =
    let size : eqb (length vs) (n + 1) ≡ eqb (suc (length vs)) (suc n + 1) = eqb_same (length vs) (n + 1) (suc (length vs)) (suc n + 1) (omega arith) (omega arith) in
    let sum : ((k + v) % 256 + total (take n vs)) % 256 ≡ (k + (v + total (take n vs))) % 256 = omega arith in
    λ i. size i && eqb (sum i) (get_or vs n 0)

-- the sum before the data counts modulo 256
closes_mod : (k k' n : ℕ) (vs : List ℕ) → k % 256 ≡ k' % 256 → closes k n vs ≡ closes k' n vs
closes_mod k k' n vs e =
    let sum : (k + total (take n vs)) % 256 ≡ (k' + total (take n vs)) % 256 = omega arith in
    λ i. eqb (length vs) (n + 1) && eqb (sum i) (get_or vs n 0)

closes_by_mod : (extra : Bool) (low k k' : ℕ) (vs : List ℕ) → k % 256 ≡ k' % 256 → closes_by extra low k vs ≡ closes_by extra low k' vs
closes_by_mod false low k k' vs e = closes_mod k k' low vs e
closes_by_mod true low k k' [] e = refl
closes_by_mod true low k k' (l ∷ vs) e = ap (λ (b : Bool). not (eqb l 0) && b) (closes_mod (k + l) (k' + l) l vs (omega arith))

-- ---- the reader
-- a slice with n data bytes after a head of h bytes
abbrev whole : ℕ → ℕ → List ℕ → Bool
whole h n s = not (eqb n 0) && (eqb (length s) (h + n + 1) && eqb (checksum_of (take (h + n) s)) (get_or s (h + n) 0))

-- no slice that ends with its head is one
whole_short : (h n : ℕ) (s : List ℕ) → length s ≤ h → whole h n s ≡ false
whole_short h n s e = rw (ne_eqb (length s) (h + n + 1) (λ z. omega arith)) (and_false (not (eqb n 0)))
  where
    and_false : (b : Bool) → (b && false) ≡ false
    and_false true = refl
    and_false false = refl

-- a slice apart: a front of h bytes, and what closes it
whole_closes : (pre vs : List ℕ) (h n : ℕ) → h ≡ length pre
    → (eqb (length (pre ++ vs)) (h + n + 1) && eqb (checksum_of (take (h + n) (pre ++ vs))) (get_or (pre ++ vs) (h + n) 0)) ≡ closes (total pre) n vs
unfolding checksum_of
whole_closes pre vs h n e =
    let size : eqb (length (pre ++ vs)) (h + n + 1) ≡ eqb (length vs) (n + 1) =
    eqb_same (length (pre ++ vs)) (h + n + 1) (length vs) (n + 1) (omega (arith, length-append pre vs)) (omega (arith, length-append pre vs)) in
    let sum : total (take (length pre + n) (pre ++ vs)) ≡ total pre + total (take n vs) = ap total (take-append-add pre vs n) ∙ total_append pre (take n vs) in
    rw e (λ i. rw e at size i && eqb (sum i % 256) (get_or-append-add pre vs n 0 i))

-- a slice apart, where the front has the format byte and the addresses: then the length byte, if it is not in the format byte
front_closes : (extra : Bool) (pre : List ℕ) (low : ℕ) (vs : List ℕ) → eqb low 0 ≡ extra
    → whole (length pre + (if extra then 1 else 0)) (if extra then get_or (pre ++ vs) (length pre) 0 else low) (pre ++ vs) ≡ closes_by extra low (total pre) vs
unfolding total
front_closes false pre low vs e = rw e (whole_closes pre vs (length pre + 0) low (add-zero (length pre)))
front_closes true pre low [] e = rw (get_or-eq_default (pre ++ []) 0 {n = length pre} (omega (arith, length-append pre [])))
front_closes true pre low (l ∷ vs) e =
    let sum : total (pre ++ (l ∷ [])) ≡ total pre + l = total_append pre (l ∷ []) ∙ ap (λ (k : ℕ). total pre + k) (add-zero l) in
    rw (get_or-append_seam pre l vs 0)
    (ap (λ (b : Bool). not (eqb l 0) && b) (rw (append_snoc pre l vs, sum) at (whole_closes (pre ++ (l ∷ [])) vs (length pre + 1) l (sym (length-append pre (l ∷ []))))))

-- the reader's place of the length: whether key bytes announce it, by the tests that the link asks, and how many bytes it has
place_rule : (kb1 f : ℕ) (z x g : Bool) → eqb (f % 64) 0 ≡ z → extra_length kb1 ≡ x → length_in_format kb1 ≡ g → not (is_nowhere (place_read kb1 f)) ≡ (if z then x else g)
unfolding is_nowhere place_read
place_rule kb1 f true true g ez ex eg = rw (ez, ex)
place_rule kb1 f true false g ez ex eg = rw (ez, ex)
place_rule kb1 f false x true ez ex eg = rw (ez, eg)
place_rule kb1 f false x false ez ex eg = rw (ez, eg)

count_rule : (kb1 f : ℕ) (z x g : Bool) → eqb (f % 64) 0 ≡ z → extra_length kb1 ≡ x → length_in_format kb1 ≡ g → (if z then x else g) ≡ true
    → extra_count (place_read kb1 f) ≡ (if z then 1 else 0)
unfolding extra_count place_read
count_rule kb1 f true true g ez ex eg e = rw (ez, ex)
count_rule kb1 f true false g ez ex eg e = absurd (false≢true e)
count_rule kb1 f false x true ez ex eg e = rw (ez, eg)
count_rule kb1 f false x false ez ex eg e = absurd (false≢true e)

-- the reader's tests, as one: those on the layout, and those on the whole slice
judged_rule : (b c : Bool) (r : Reading) → r.no ≡ taken
    → eqb (if not b then not_read bad_length else if not c then not_read bad_checksum else r).no taken ≡ (b && c)
judged_rule false c r e = refl
judged_rule true false r e = refl
judged_rule true true r e = rw e

laid_rule : (s : List ℕ) (takes nowhere empty : Bool) (form : Form) (h n : ℕ)
    → eqb (judged s (if not takes then not_laid bad_form else if nowhere then not_laid bad_length else if empty then not_laid bad_length else record { no = taken; form = form; start = h; len = n })).no taken
    ≡ ((takes && not nowhere) && (not empty && (eqb (length s) (h + n + 1) && eqb (checksum_of (take (h + n) s)) (get_or s (h + n) 0))))
unfolding judged
laid_rule s false nowhere empty form h n = refl
laid_rule s true true empty form h n = refl
laid_rule s true false true form h n = refl
laid_rule s true false false form h n =
    judged_rule (eqb (length s) (h + n + 1)) (eqb (checksum_of (take (h + n) s)) (get_or s (h + n) 0)) _ refl

read_taken : (kb1 kb2 f : ℕ) (vs : List ℕ) → good_pair kb1 kb2 ≡ true
    → eqb (read_of kb1 kb2 (f ∷ vs)).no taken
    ≡ ((takes_form kb1 (format_form f) && not (is_nowhere (place_read kb1 f)))
    && whole (head_size (format_form f) (place_read kb1 f)) (length_read (f ∷ vs) f (1 + address_count (format_form f))) (f ∷ vs))
unfolding read_of laid_of
read_taken kb1 kb2 f vs g =
    let h = head_size (format_form f) (place_read kb1 f) in
    let n = length_read (f ∷ vs) f (1 + address_count (format_form f)) in
    rw (g, ne_eqb (suc (length vs)) 0 (λ z. omega arith))
    (laid_rule (f ∷ vs) (takes_form kb1 (format_form f)) (is_nowhere (place_read kb1 f)) (eqb n 0) (format_form f) h n)

-- ---- the link's rules
-- the first byte: no KB1 takes mode 01, so that form and place of the length decide
mode_one_lem : (kb1 f : ℕ) → eqb (f / 64) 1 ≡ true → takes_form kb1 (format_form f) ≡ false
unfolding format_form takes_form
mode_one_lem kb1 f e = rw (ne_eqb (f / 64) 0 (λ z. omega (arith, eqb-true (f / 64) 1 e)), e)

head_rule : (one takes placed : Bool) → (one ≡ true → takes ≡ false)
    → eqb (if one then mode_one else if not takes then wrong_form else if placed then no_reason else wrong_length) no_reason ≡ (takes && placed)
head_rule true takes placed h = rw (h refl)
head_rule false false placed h = refl
head_rule false true false h = refl
head_rule false true true h = refl

head_taken : (kb1 f : ℕ) → eqb (head_reason kb1 f) no_reason ≡ (takes_form kb1 (format_form f) && place_announced kb1 f)
unfolding head_reason
head_taken kb1 f = head_rule (eqb (f / 64) 1) (takes_form kb1 (format_form f)) (place_announced kb1 f) (mode_one_lem kb1 f)

-- a side is its own
same_side_lem : (side : Side) → same_side side side ≡ true
unfolding same_side is_tester is_unit is_nobody
same_side_lem Tester = refl
same_side_lem Unit = refl
same_side_lem Nobody = refl

-- the checksum comes, and must be the last
sum_rule : (right last : Bool) → (if not (eqb (if right then no_reason else wrong_sum) no_reason) then false else last) ≡ (last && right)
sum_rule true true = refl
sum_rule true false = refl
sum_rule false true = refl
sum_rule false false = refl

-- the data still to come, n bytes of them, and the checksum
data_ends : (n : ℕ) (side : Side) (seven : ℕ) (extra : Bool) (len at sum first : ℕ) → at + n ≡ len → len < 256 → sum < 256 → (vs : List ℕ)
    → ends_in side (record { seven = seven; side = side; part = after_data at len; extra = extra; length = len; at = at; sum = sum; first = first; why = no_reason }) vs
    ≡ closes sum n vs
unfolding later_reason is_sum grown with_data after_data total byte_sum
data_ends zero side seven extra len at sum first e hl hs [] = refl
data_ends zero side seven extra len at sum first e hl hs (v ∷ vs) =
    let size : eqb (length vs) 0 ≡ eqb (suc (length vs)) (0 + 1) = eqb_same (length vs) 0 (suc (length vs)) (0 + 1) (omega arith) (omega arith) in
    let right : eqb v sum ≡ eqb ((sum + 0) % 256) v = eqb_same v sum ((sum + 0) % 256) v (omega arith) (omega arith) in
    rw (le-ltb at len (omega arith), same_side_lem side) (sum_rule (eqb v sum) (eqb (length vs) 0) ∙ (λ i. size i && right i))
data_ends (suc n) side seven extra len at sum first e hl hs [] = rw (ne_eqb 0 (suc n + 1) (λ z. omega arith))
data_ends (suc n) side seven extra len at sum first e hl hs (v ∷ vs) =
    rw (lt-ltb at len (omega arith), same_side_lem side)
    (data_ends n side (with_seven seven at v) extra len (byte_sum at 1) (byte_sum sum v) (if eqb at 0 then v else first) (omega arith) hl (omega arith) vs
    ∙ closes_step sum n v vs)

-- a message whose length and data are still to come
abbrev fresh : Side → Part → Bool → ℕ → ℕ → Message
fresh side part extra low sum = record { seven = 0; side = side; part = part; extra = extra; length = low; at = 0; sum = sum; first = 0; why = no_reason }

-- a length byte comes, and must not be 0
length_rule : (none x y : Bool) → (none ≡ false → x ≡ y) → (if not (eqb (if none then wrong_length else no_reason) no_reason) then false else x) ≡ (not none && y)
length_rule true x y h = refl
length_rule false x y h = h refl

-- after the addresses: the length byte, if it is not in the format byte, the data and the checksum
length_ends : (extra : Bool) (side : Side) (low sum : ℕ) → eqb low 0 ≡ extra → low < 256 → sum < 256 → (vs : List ℕ) → get_or vs 0 0 < 256
    → ends_in side (fresh side (after_addresses extra) extra low sum) vs ≡ closes_by extra low sum vs
unfolding later_reason is_sum grown after_addresses after_data byte_sum
length_ends false side low sum e hl hs vs hv =
    rw (lt-ltb 0 low (omega (arith, eqb-false low 0 e))) at (data_ends low side 0 false low 0 sum 0 (omega arith) hl hs vs)
length_ends true side low sum e hl hs [] hv = refl
length_ends true side low sum e hl hs (l ∷ vs) hv =
    rw (same_side_lem side)
    (length_rule (eqb l 0) _ (closes (sum + l) l vs) (λ z.
    rw (lt-ltb 0 l (omega (arith, eqb-false l 0 z))) at (data_ends l side 0 true l 0 (byte_sum sum l) 0 (omega arith) hv (omega arith) vs)
    ∙ closes_mod (byte_sum sum l) (sum + l) l vs (omega arith)))

-- ---- both, after the format byte
-- in forms with addresses target and source come first
address_ends : (extra : Bool) (side : Side) (low f : ℕ) → eqb low 0 ≡ extra → low < 256 → f < 256 → (vs : List ℕ) → get_or vs 2 0 < 256
    → ends_in side (fresh side Target extra low f) vs ≡ whole (3 + (if extra then 1 else 0)) (if extra then get_or (f ∷ vs) 3 0 else low) (f ∷ vs)
unfolding later_reason is_sum grown byte_sum total
address_ends extra side low f e hl hf [] hv = sym (whole_short (3 + (if extra then 1 else 0)) (if extra then get_or (f ∷ []) 3 0 else low) (f ∷ []) (omega arith))
address_ends extra side low f e hl hf (t ∷ []) hv =
    rw (same_side_lem side) (sym (whole_short (3 + (if extra then 1 else 0)) (if extra then get_or (f ∷ t ∷ []) 3 0 else low) (f ∷ t ∷ []) (omega arith)))
address_ends extra side low f e hl hf (t ∷ s ∷ vs) hv =
    rw (same_side_lem side)
    (length_ends extra side low (byte_sum (byte_sum f t) s) e hl (omega arith) vs hv
    ∙ closes_by_mod extra low (byte_sum (byte_sum f t) s) (f + (t + (s + 0))) vs (omega arith)
    ∙ sym (front_closes extra (f ∷ t ∷ s ∷ []) low vs e))

-- other forms have none
plain_ends : (extra : Bool) (side : Side) (low f : ℕ) → eqb low 0 ≡ extra → low < 256 → f < 256 → (vs : List ℕ) → get_or vs 0 0 < 256
    → ends_in side (fresh side (after_addresses extra) extra low f) vs ≡ whole (1 + (if extra then 1 else 0)) (if extra then get_or (f ∷ vs) 1 0 else low) (f ∷ vs)
unfolding total
plain_ends extra side low f e hl hf vs hv =
    length_ends extra side low f e hl hf vs hv ∙ closes_by_mod extra low f (f + 0) vs (omega arith) ∙ sym (front_closes extra (f ∷ []) low vs e)

-- and so for each form
form_ends : (form : Form) (extra : Bool) (side : Side) (low f : ℕ) → eqb low 0 ≡ extra → low < 256 → (vs : List ℕ) → ((i : ℕ) → get_or (f ∷ vs) i 0 < 256)
    → ends_in side (fresh side (part_after_format form extra) extra low f) vs
    ≡ whole (1 + address_count form + (if extra then 1 else 0)) (if extra then get_or (f ∷ vs) (1 + address_count form) 0 else low) (f ∷ vs)
unfolding part_after_format address_count
form_ends Plain extra side low f e hl vs byte = plain_ends extra side low f e hl (byte 0) vs (byte 1)
form_ends Physical extra side low f e hl vs byte = address_ends extra side low f e hl (byte 0) vs (byte 3)
form_ends Functional extra side low f e hl vs byte = address_ends extra side low f e hl (byte 0) vs (byte 3)
form_ends Foreign extra side low f e hl vs byte = plain_ends extra side low f e hl (byte 0) vs (byte 1)

-- the first byte decides alike, and where it is taken so do the others
both_ways : (takes placed x y : Bool) → (placed ≡ true → x ≡ y) → (if takes && placed then x else false) ≡ ((takes && placed) && y)
both_ways true true x y h = h refl
both_ways true false x y h = refl
both_ways false placed x y h = refl

-- A MESSAGE THAT ENDS IN A FRAME IS EXACTLY A SLICE THAT `read` TAKES UNDER THE SAME KEY BYTES
pub message_reads : (kb1 kb2 : ℕ) (side : Side) (s : List ℕ) → good_pair kb1 kb2 ≡ true → ((i : ℕ) → get_or s i 0 < 256)
    → is_message kb1 side s ≡ eqb (read_of kb1 kb2 s).no taken
unfolding read_of laid_of judged begun has_extra head_size length_read place_announced
message_reads kb1 kb2 side [] g byte = rw g
message_reads kb1 kb2 side (f ∷ vs) g byte =
    let z = eqb (f % 64) 0 in
    rw (head_taken kb1 f, read_taken kb1 kb2 f vs g, place_rule kb1 f z (extra_length kb1) (length_in_format kb1) refl refl refl)
    (both_ways (takes_form kb1 (format_form f)) (place_announced kb1 f) _ _ (λ e.
    rw (count_rule kb1 f z (extra_length kb1) (length_in_format kb1) refl refl refl e)
    (form_ends (format_form f) z side (f % 64) f refl (omega arith) vs byte)))
