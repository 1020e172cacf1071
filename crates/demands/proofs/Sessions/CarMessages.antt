-- A CAR'S MESSAGES (document 02, "Five"). Their frames have no data for the rules on 82 and 83, so that in a session nothing is asked but a reply and no window
-- changes; what the link keeps of a message says it is a car's; and it is judged, as its bytes come, as the list of its bytes is: by its head, its size and its
-- sum (`judged_by_bytes`).
-- Assumes nothing.
use Prim.Native.Nat.{ℕ, zero, suc, ◌+◌, ◌%◌, ◌≤◌}
use mathlib.Core.Bool.{Bool, true, false, not, ◌&&◌, ◌||◌, false≢true}
use mathlib.Core.List.{List, [], ◌∷◌}
use mathlib.Core.Path.{◌≡◌, ◌∙◌, refl, sym, ap, subst}
use native.Mathlib.Omega.{arith}
use borrow.Author.Tests.{eqb-true, ne_eqb, lt-leb, lt-ltb, leb-true, leb-false, ltb-true, ltb-false}
use lib.Dec.{eqb, leb, ltb}
use lib.ListN.{length, drop, get_or}
use Rattle.std.specs.Prelude.{if◌then◌else◌}
use Rattle.base.specs.Sums.{byte_sum}
use Rattle.base.specs.Reports.{no_reason, broken_off, early, stray, wrong_form, wrong_length, wrong_sum}
use Rattle.base.proofs.Tests.{and_split, by_test}
use Rattle.keys.specs.Keys.{good_pair}
use Rattle.keys.specs.Editions.{edition_of, is_car, is_quick}
use Rattle.keys.specs.declared.Pair.{Pair}
use Rattle.keys.specs.declared.Edition.{Edition}
use Rattle.keys.specs.declared.Edition.TheVariants.{Iso14230, Car08, Car94}
use Rattle.timing.specs.declared.Windows.{Windows}
use Rattle.frame.specs.Read.{read_of, data_of}
use Rattle.events.specs.Events.{is_tester}
use Rattle.events.specs.declared.Side.{Side}
use Rattle.talk.specs.Cars.{is_head_byte, counted_up, is_car_size, car_reason, car_grown, car_empty, car_begun}
use Rattle.talk.specs.Talk.{begun, begun_by, is_sum, is_free, end_reason, grown}
use Rattle.talk.specs.declared.Part.TheVariants.{Free}
use Rattle.talk.specs.declared.Message.{Message}
use Rattle.link.proofs.CarLinks.{Blank, begun_free, grown_free, blank_grown, blank_begun}
use Rattle.demands.specs.Editions.{of_car, of_quick_car, head_of, agrees, sums_up, car_fault}
use Rattle.demands.specs.Beside.{grown_by}
use Rattle.demands.specs.Sessions.{Frame, Frames, nothing, ◌▸◌, same, stops, resets, retimes, pending_in, windows_in}
use Rattle.demands.proofs.Sessions.MessageData.{GoneOn, on, gone_by}
use Rattle.demands.proofs.Sessions.MessageData.{begun as gone_none}

-- a quick car is one
pub quick_car : (pair : Pair) → of_quick_car pair ≡ true → of_car pair ≡ true
unfolding is_quick is_car
quick_car pair q = by_edition (edition_of pair) q
  where
    by_edition : (d : Edition) → is_quick d ≡ true → is_car d ≡ true
    by_edition Iso14230 q = absurd (false≢true q)
    by_edition Car08 q = refl
    by_edition Car94 q = refl

-- ---- no data: `read` refuses a car's key bytes
not_good : (kb1 kb2 : ℕ) → eqb kb2 0x8F ≡ false → good_pair kb1 kb2 ≡ false
unfolding good_pair
not_good kb1 kb2 h = rw h refl

second : (kb1 kb2 k : ℕ) → eqb k 0x8F ≡ false → (eqb kb1 k && eqb kb2 k) ≡ true → good_pair kb1 kb2 ≡ false
second kb1 kb2 k h t = not_good kb1 kb2 (ap (λ (x : ℕ). eqb x 0x8F) (eqb-true kb2 k (and_split (eqb kb1 k) (eqb kb2 k) t).1) ∙ h)

pub car_bad : (pair : Pair) → is_car (edition_of pair) ≡ true → good_pair pair.kb1 pair.kb2 ≡ false
unfolding edition_of is_car
car_bad pair =
    by_test (λ (d : Edition). is_car d ≡ true → good_pair pair.kb1 pair.kb2 ≡ false) (eqb pair.kb1 0x08 && eqb pair.kb2 0x08)
    (λ t. λ _. second pair.kb1 pair.kb2 0x08 refl t)
    (λ _. by_test (λ (d : Edition). is_car d ≡ true → good_pair pair.kb1 pair.kb2 ≡ false) (eqb pair.kb1 0x94 && eqb pair.kb2 0x94)
    (λ t. λ _. second pair.kb1 pair.kb2 0x94 refl t) (λ _. λ h. absurd (false≢true h)))

-- no data
pub car_data : (pair : Pair) (s : List ℕ) → is_car (edition_of pair) ≡ true → data_of pair.kb1 pair.kb2 s ≡ []
unfolding data_of read_of
car_data pair s c = rw (car_bad pair c) refl

-- so no frame of a car stops the link, nor changes its timing
and_none : (a : Bool) → (a && false) ≡ false
and_none true = refl
and_none false = refl

pub never_stops : (q : List ℕ) → stops q [] ≡ false
unfolding stops
never_stops q = and_none (eqb (get_or q 0 0) 0x82)

never_resets : (q : List ℕ) → resets q [] ≡ false
unfolding resets same
never_resets q = and_none (same q (0x83 ∷ 0x01 ∷ []))

never_retimes : (q : List ℕ) → retimes q [] ≡ false
unfolding retimes same
never_retimes q = and_none (eqb (length q) 7 && eqb (get_or q 0 0) 0x83 && eqb (get_or q 1 0) 0x03)

pub car_pending : (pair : Pair) (fs : Frames) → is_car (edition_of pair) ≡ true → pending_in pair fs ≡ []
unfolding pending_in
car_pending pair nothing c = refl
car_pending pair (fs ▸ f) c =
    let q = pending_in pair fs in
    rw (car_data pair f.bytes c, never_stops q, never_resets q, never_retimes q)
    (by_test (λ (l : List ℕ). l ≡ []) (is_tester f.side) {x = []} {y = q} (λ _. refl) (λ _. car_pending pair fs c))

pub car_windows : (pair : Pair) (fs : Frames) (f : Frame) → is_car (edition_of pair) ≡ true → windows_in pair (fs ▸ f) ≡ windows_in pair fs
unfolding windows_in
car_windows pair fs f c =
    let q = pending_in pair fs in
    rw (car_data pair f.bytes c, never_resets q, never_retimes q)
    (by_test (λ (w : Windows). w ≡ windows_in pair fs) (is_tester f.side) {x = windows_in pair fs} {y = windows_in pair fs} (λ _. refl) (λ _. refl))

-- ---- a message that went on from its first byte is a car's under a car's key bytes, and only there
pub free_car : (pair : Pair) (side b : Side) (v : ℕ) (vs : List ℕ) (m : Message) → GoneOn b (begun_by pair side v) vs m → is_free m.part ≡ true → of_car pair ≡ true
unfolding begun_by grown
free_car pair side b v vs m gone_none f = by_car (of_car pair) refl f
  where
    by_car : (c : Bool) → of_car pair ≡ c → is_free (begun_by pair side v).part ≡ true → c ≡ true
    by_car true c f = refl
    by_car false c f = absurd (false≢true (sym (begun_free side v) ∙ (sym (rw c refl) ∙ f)))
free_car pair side b v vs m (on {vs = us} {n = n} w g r s) f = free_car pair side b v us n g (grown_free n.part n w f)

pub car_blank : (pair : Pair) (side b : Side) (v : ℕ) (vs : List ℕ) (m : Message) → GoneOn b (begun_by pair side v) vs m → of_car pair ≡ true → Blank m
unfolding begun_by
car_blank pair side b v vs m gone_none c = rw c (blank_begun side v)
car_blank pair side b v vs m (on {vs = us} {n = n} w g r s) c = blank_grown n w (car_blank pair side b v us n g c)

-- the checksum's place is in no car's message
pub sum_no_car : (pair : Pair) (side b : Side) (v : ℕ) (vs : List ℕ) (m : Message) → GoneOn b (begun_by pair side v) vs m → is_sum m.part ≡ true → of_car pair ≡ false
unfolding is_sum
sum_no_car pair side b v vs m g s = by_car (of_car pair) refl
  where
    by_car : (c : Bool) → of_car pair ≡ c → c ≡ false
    by_car true c = absurd (false≢true (sym (ap is_sum (car_blank pair side b v vs m g c).part) ∙ s))
    by_car false c = refl

-- ---- judged by its bytes
-- a message has heard k bytes, of which all but the last sum up to n; its head is wrong or not
record Heard (m : Message) (side : Side) (k n last : ℕ) (bad : Bool) : Type 0 where
  free : m.part ≡ Free
  side_is : m.side ≡ side
  few : k ≤ 12 → m.at ≡ k
  many : 12 ≤ k → m.at ≡ 12
  last_is : m.length ≡ last
  sum_is : m.sum ≡ n % 256
  bad_is : not (eqb m.why no_reason) ≡ bad

-- ---- on tests
and_true : (b : Bool) → (b && true) ≡ b
and_true true = refl
and_true false = refl

or_false : (b : Bool) → (b || false) ≡ b
or_false true = refl
or_false false = refl

or-true : (b : Bool) → (b || true) ≡ true
or-true true = refl
or-true false = refl

drop_nil : (k : ℕ) → drop {A = ℕ} k [] ≡ []
drop_nil zero = refl
drop_nil (suc k) = refl

-- ---- the head
abbrev head_test : Bool → ℕ → ℕ → Bool
head_test tester at v =
    if eqb at 0 then eqb v (if tester then 0x68 else 0x48) else
    if eqb at 1 then eqb v (if tester then 0x6A else 0x6B) else
    (not tester || eqb v 0xF1 || not (eqb at 2))

abbrev fixed : Bool → List ℕ
fixed tester = if tester then 0x68 ∷ 0x6A ∷ 0xF1 ∷ [] else 0x48 ∷ 0x6B ∷ []

head_by : (tester : Bool) (k v : ℕ) → head_test tester k v ≡ agrees (drop k (fixed tester)) (v ∷ [])
unfolding agrees
head_by true zero v = sym (and_true (eqb v 0x68))
head_by true (suc zero) v = sym (and_true (eqb v 0x6A))
head_by true (suc (suc zero)) v = or_false (eqb v 0xF1) ∙ sym (and_true (eqb v 0xF1))
head_by true (suc (suc (suc k))) v =
    let m = suc (suc (suc k)) in
    rw (ne_eqb m 0 (omega arith), ne_eqb m 1 (omega arith), ne_eqb m 2 (omega arith), drop_nil k) (or-true (eqb v 0xF1))
head_by false zero v = sym (and_true (eqb v 0x48))
head_by false (suc zero) v = sym (and_true (eqb v 0x6B))
head_by false (suc (suc zero)) v = refl
head_by false (suc (suc (suc k))) v =
    let m = suc (suc (suc k)) in
    rw (ne_eqb m 0 (omega arith), ne_eqb m 1 (omega arith)) refl

-- beyond the twelfth byte the count stays, and so does what is said of it
far : (tester : Bool) (k v : ℕ) → 12 ≤ k → agrees (drop 12 (fixed tester)) (v ∷ []) ≡ agrees (drop k (fixed tester)) (v ∷ [])
unfolding agrees
far true (suc (suc (suc k))) v h = rw (drop_nil k) refl
far false (suc (suc (suc k))) v h = refl
far tester zero v h = absurd (omega arith)
far tester (suc zero) v h = absurd (omega arith)
far tester (suc (suc zero)) v h = absurd (omega arith)

head_when : (b : Bool) (tester : Bool) (k at v : ℕ) → leb k 12 ≡ b → (k ≤ 12 → at ≡ k) → (12 ≤ k → at ≡ 12)
    → head_test tester at v ≡ agrees (drop k (fixed tester)) (v ∷ [])
head_when true tester k at v e few many = ap (λ (x : ℕ). head_test tester x v) (few (leb-true k 12 e)) ∙ head_by tester k v
head_when false tester k at v e few many =
    let h : 12 ≤ k = omega (arith, leb-false k 12 e) in
    ap (λ (x : ℕ). head_test tester x v) (many h) ∙ head_by tester 12 v ∙ far tester k v h

-- the bytes agree with a head exactly if the first does and then the others
agrees_more : (k : ℕ) (h : List ℕ) (b c : ℕ) (bs : List ℕ)
    → agrees (drop k h) (b ∷ c ∷ bs) ≡ (agrees (drop k h) (b ∷ []) && agrees (drop (suc k) h) (c ∷ bs))
unfolding agrees
agrees_more zero [] b c bs = refl
agrees_more zero (x ∷ []) b c bs = sym (and_true (eqb b x && true))
agrees_more zero (x ∷ y ∷ h) b c bs = sym (ap (λ (t : Bool). t && agrees (y ∷ h) (c ∷ bs)) (and_true (eqb b x)))
agrees_more (suc k) [] b c bs = refl
agrees_more (suc k) (x ∷ h) b c bs = agrees_more k h b c bs

-- ---- the three tests, and the reason they give
abbrev verdict : Bool → Bool → Bool → ℕ
verdict bad sized sums = if bad then wrong_form else if not sized then wrong_length else if sums then no_reason else wrong_sum

either_bad : (a b c : Bool) → ((a || not b) || not c) ≡ (a || not (b && c))
either_bad true b c = refl
either_bad false true c = refl
either_bad false false c = refl

and_false : (b : Bool) → (b && false) ≡ false
and_false true = refl
and_false false = refl

plus_one : (k : ℕ) → k + 1 ≡ suc k
plus_one k = omega arith

-- so many bytes as it has counted are as many as there are, up to 12
sized_when : (t : Bool) (k at : ℕ) → leb k 12 ≡ t → (k ≤ 12 → at ≡ k) → (12 ≤ k → at ≡ 12) → is_car_size at ≡ (leb 5 k && leb k 11)
unfolding is_car_size
sized_when true k at e few many = ap is_car_size (few (leb-true k 12 e))
sized_when false k at e few many =
    let h = leb-false k 12 e in
    ap is_car_size (many (omega arith)) ∙ sym (ap (λ (t : Bool). leb 5 k && t) (lt-leb k 11 (omega arith)) ∙ and_false (leb 5 k))

shift : (k n : ℕ) → suc k + n ≡ k + suc n
shift k n = omega arith

-- ---- one byte more
more_sum : (x n v : ℕ) → x ≡ n % 256 → (x + v) % 256 ≡ (n + v) % 256
more_sum x n v h = omega arith

up_few : (k at : ℕ) → (k ≤ 12 → at ≡ k) → suc k ≤ 12 → counted_up at ≡ suc k
unfolding counted_up
up_few k at few h = ap counted_up (few (omega arith)) ∙ ap (λ (t : Bool). if t then k + 1 else k) (lt-ltb k 12 (omega arith)) ∙ plus_one k

up_when : (t : Bool) (k at : ℕ) → ltb k 12 ≡ t → (k ≤ 12 → at ≡ k) → (12 ≤ k → at ≡ 12) → 12 ≤ suc k → counted_up at ≡ 12
unfolding counted_up
up_when true k at e few many h =
    let l = ltb-true k 12 e in
    let f = few (omega arith) in
    let a : at ≡ 11 = omega arith in
    ap counted_up a
up_when false k at e few many h = ap counted_up (many (ltb-false k 12 e))

head_is : (m : Message) (side : Side) (k n last : ℕ) (bad : Bool) (v : ℕ) → Heard m side k n last bad
    → is_head_byte m.side m.at v ≡ agrees (drop k (head_of side)) (v ∷ [])
unfolding is_head_byte head_of
head_is m side k n last bad v h =
    ap (λ (x : Side). is_head_byte x m.at v) h.side_is ∙ head_when (leb k 12) (is_tester side) k m.at v refl h.few h.many

-- its head is wrong, with one byte more
more_bad : (b : Bool) (why : ℕ) (bad : Bool) → not (eqb why no_reason) ≡ bad → not (eqb (if b then why else wrong_form) no_reason) ≡ (bad || not b)
more_bad true why bad h = h ∙ sym (or_false bad)
more_bad false why bad h = sym (or-true bad)

heard_more : (m : Message) (side : Side) (k n last : ℕ) (bad : Bool) (v : ℕ) → Heard m side k n last bad
    → Heard (car_grown m v) side (suc k) (n + last) v (bad || not (agrees (drop k (head_of side)) (v ∷ [])))
unfolding car_grown byte_sum
heard_more m side k n last bad v h = record {
  free = refl;
  side_is = h.side_is;
  few = up_few k m.at h.few;
  many = up_when (ltb k 12) k m.at refl h.few h.many;
  last_is = refl;
  sum_is = ap (λ (x : ℕ). (m.sum + x) % 256) h.last_is ∙ more_sum m.sum n last h.sum_is;
  bad_is = more_bad (is_head_byte m.side m.at v) m.why bad h.bad_is
      ∙ ap (λ (t : Bool). bad || not t) (head_is m side k n last bad v h);
}

-- the reason so far
reason_is : (m : Message) (side : Side) (k n last : ℕ) (bad : Bool) → Heard m side k n last bad
    → car_reason m ≡ verdict bad (leb 5 k && leb k 11) (eqb last (n % 256))
unfolding car_reason
reason_is m side k n last bad h = rw (h.bad_is, sized_when (leb k 12) k m.at refl h.few h.many, h.last_is, h.sum_is) refl

-- a car's message grows as such
free_grown : (m : Message) (v : ℕ) → m.part ≡ Free → grown m v ≡ car_grown m v
unfolding grown
free_grown m v q = rw q refl

-- AFTER ALL BYTES
heard_why : (m : Message) (side : Side) (k n last : ℕ) (bad : Bool) (b : ℕ) (bs : List ℕ) → Heard m side k n last bad
    → car_reason (grown_by m (b ∷ bs))
    ≡ verdict (bad || not (agrees (drop k (head_of side)) (b ∷ bs))) (leb 5 (k + length (b ∷ bs)) && leb (k + length (b ∷ bs)) 11) (sums_up (n + last) (b ∷ bs))
unfolding grown_by sums_up
heard_why m side k n last bad b [] h =
    ap car_reason (free_grown m b h.free)
    ∙ reason_is (car_grown m b) side (suc k) (n + last) b _ (heard_more m side k n last bad b h)
    ∙ ap (λ (x : ℕ). verdict (bad || not (agrees (drop k (head_of side)) (b ∷ []))) (leb 5 x && leb x 11) (eqb b ((n + last) % 256))) (sym (plus_one k))
heard_why m side k n last bad b (c ∷ bs) h =
    ap (λ (x : Message). car_reason (grown_by x (c ∷ bs))) (free_grown m b h.free)
    ∙ heard_why (car_grown m b) side (suc k) (n + last) b (bad || not (agrees (drop k (head_of side)) (b ∷ []))) c bs (heard_more m side k n last bad b h)
    ∙ ap (λ (t : Bool). verdict t (leb 5 (suc k + length (c ∷ bs)) && leb (suc k + length (c ∷ bs)) 11) (sums_up ((n + last) + b) (c ∷ bs)))
    (either_bad bad (agrees (drop k (head_of side)) (b ∷ [])) (agrees (drop (suc k) (head_of side)) (c ∷ bs)) ∙ ap (λ (t : Bool). bad || not t) (sym (agrees_more k (head_of side) b c bs)))
    ∙ ap (λ (x : ℕ). verdict (bad || not (agrees (drop k (head_of side)) (b ∷ c ∷ bs))) (leb 5 x && leb x 11) (sums_up ((n + last) + b) (c ∷ bs)))
    (shift k (length (c ∷ bs)))

from_zero : (n : ℕ) → 0 + n ≡ n
from_zero n = omega arith

-- A CAR'S MESSAGE IS JUDGED BY ITS BYTES
pub judged_by_bytes : (side : Side) (v : ℕ) (vs : List ℕ) → car_reason (grown_by (car_begun side v) vs) ≡ car_fault side (v ∷ vs)
unfolding car_fault car_begun grown_by grown
judged_by_bytes side v vs =
    heard_why (car_empty side) side 0 0 0 false v vs
    (record { free = refl; side_is = refl; few = λ l. refl; many = λ l. absurd (omega arith); last_is = refl; sum_is = refl; bad_is = refl })
    ∙ ap (λ (x : ℕ). verdict (not (agrees (head_of side) (v ∷ vs))) (leb 5 x && leb x 11) (sums_up 0 (v ∷ vs))) (from_zero (length (v ∷ vs)))

-- and so it is where the link ends it
pub car_verdict : (pair : Pair) (side : Side) (v : ℕ) (vs : List ℕ) (m : Message) → GoneOn side (begun_by pair side v) vs m → of_car pair ≡ true
    → end_reason m ≡ car_fault side (v ∷ vs)
unfolding begun_by end_reason is_free
car_verdict pair side v vs m g c =
    rw (ap is_free (car_blank pair side side v vs m g c).part)
    (ap car_reason (gone_by side (begun_by pair side v) m vs g)
    ∙ ap (λ (b : Bool). car_reason (grown_by (if b then car_begun side v else begun side v) vs)) c
    ∙ judged_by_bytes side v vs)

-- the reason of a message that ends is neither 3 nor 4
abbrev Elsewhere : ℕ → Type 0
Elsewhere k = (k ≡ early → ⊥) × (k ≡ stray → ⊥)

fault_elsewhere : (side : Side) (bytes : List ℕ) → Elsewhere (car_fault side bytes)
unfolding car_fault
fault_elsewhere side bytes =
    by_test Elsewhere (not (agrees (head_of side) bytes)) {x = wrong_form} (λ _. (λ z. omega arith, λ z. omega arith))
    (λ _. by_test Elsewhere (not (leb 5 (length bytes) && leb (length bytes) 11)) {x = wrong_length} (λ _. (λ z. omega arith, λ z. omega arith))
    (λ _. by_test Elsewhere (sums_up 0 bytes) {x = no_reason} {y = wrong_sum} (λ _. (λ z. omega arith, λ z. omega arith)) (λ _. (λ z. omega arith, λ z. omega arith))))

pub end_elsewhere : (pair : Pair) (side : Side) (v : ℕ) (vs : List ℕ) (m : Message) → GoneOn side (begun_by pair side v) vs m → Elsewhere (end_reason m)
unfolding end_reason
end_elsewhere pair side v vs m g = by_free (is_free m.part) refl
  where
    by_free : (b : Bool) → is_free m.part ≡ b → Elsewhere (if b then car_reason m else broken_off)
    by_free true f =
        let c = free_car pair side side v vs m g f in
        let q : car_reason m ≡ car_fault side (v ∷ vs) = sym (rw f refl) ∙ car_verdict pair side v vs m g c in
        subst Elsewhere (sym q) (fault_elsewhere side (v ∷ vs))
    by_free false f = (λ z. omega arith, λ z. omega arith)
