-- The reason that bytes give by the rules of crates/talk, which keep of a message its side, its sum and the part that comes next, is the one that
-- specs/Damage.antt says by the bytes' values, bits and sides (`reasons_agree`). The first byte is judged by the same tests in another order. For the later
-- ones, what is kept stands for the values so far (`Tracks`): the part that comes next is told by how many there are and by what the header says of the
-- frame's size. It does for the first byte, and goes on with each byte that does not fail.
-- Assumes nothing.
use Prim.Native.Nat.{ℕ, suc, ◌+◌, ◌/◌, ◌%◌, ◌≤◌, ◌<◌}
use mathlib.Core.Bool.{Bool, true, false, not, ◌&&◌}
use mathlib.Core.List.{List, [], ◌∷◌, ◌++◌}
use mathlib.Core.Path.{◌≡◌, refl, sym, ap, ◌∙◌, subst}
use native.Mathlib.Omega.{arith}
use borrow.Author.Tests.{eqb-true, eqb-false, eq-eqb, ne_eqb, ltb-true, ltb-false, le-leb, lt-leb}
use lib.Dec.{eqb, leb, ltb}
use lib.ListN.{length, length-append, get_or-append}
use lib.Seq.{get_or_at}
use Rattle.std.specs.Prelude.{if◌then◌else◌}
use Rattle.base.specs.Sums.{byte_sum}
use Rattle.base.specs.Reports.{no_reason, mode_one, wrong_form, other_side, wrong_length, wrong_sum}
use Rattle.keys.specs.Keys.{takes_form, length_in_format, extra_length, no_addresses, with_addresses, is_extended}
use Rattle.keys.specs.declared.Form.TheVariants.{Plain, Physical, Functional, Foreign}
use Rattle.keys.specs.declared.Pair.{Pair}
use Rattle.frame.specs.Layout.{format_form, total}
use Rattle.frame.proofs.Lists.{total_append}
use Rattle.events.specs.Events.{same_side}
use Rattle.events.specs.declared.Side.{Side}
use Rattle.events.specs.declared.Event.{Event}
use Rattle.talk.specs.Talk.{has_extra, place_announced, head_reason, after_addresses, part_after_format, begun, part_reason, later_reason, begun_by}
use Rattle.talk.specs.Talk.{after_data, with_data, grown_at, grown}
use Rattle.talk.specs.declared.Part.{Part}
use Rattle.talk.specs.declared.Part.TheVariants.{Target, Source, Length, Data, Sum, Free}
use Rattle.talk.specs.declared.Message.{Message}
use Rattle.demands.specs.Frames.{addresses_in, extra_byte, size_said}
use Rattle.demands.specs.Logs.{values_of}
use Rattle.demands.specs.Damage.{first_fault, is_length_byte, is_checksum, later_fault, fault_at, reason_behind, reason_in, of_one_side}
use Rattle.demands.proofs.Histories.BytesHeard.{Bytes}
use Rattle.demands.proofs.Histories.BytesAsEvents.{talk_behind, talk_reason, values_both, value_reason}
use Rattle.demands.proofs.Sessions.SessionByte.{grown_side}
use Rattle.talk.specs.Cars.{car_grown, car_begun}
use Rattle.demands.proofs.Damage.StrayOrEarly.{same_is}
use Rattle.base.proofs.Tests.{by_test}
use Rattle.demands.specs.Editions.{of_car}

-- ---- the first byte
-- the place of the length: in the format byte, or a byte of its own
place_fault : (extra x g : Bool)
    → (if if extra then x else g then no_reason else wrong_length)
    ≡ (if not extra && not g then wrong_length else if extra && not x then wrong_length else no_reason)
place_fault true true g = refl
place_fault true false g = refl
place_fault false x true = refl
place_fault false x false = refl

-- functional: "not announced or functional under extended timing"
functional_fault : (w x : Bool) (k : ℕ) → (if not (w && not x) then wrong_form else k) ≡ (if not w then wrong_form else if x then wrong_form else k)
functional_fault true true k = refl
functional_fault true false k = refl
functional_fault false x k = refl

form_fault : (kb1 m k : ℕ) (a b c : Bool) → eqb m 0 ≡ a → eqb m 1 ≡ b → eqb m 2 ≡ c
    → (if b then mode_one else
    if not (takes_form kb1 (if a then Plain else if b then Foreign else if c then Physical else Functional)) then wrong_form else k)
    ≡ (if b then mode_one else
    if a && not (no_addresses kb1) then wrong_form else
    if leb 2 m && not (with_addresses kb1) then wrong_form else
    if leb 3 m && is_extended kb1 then wrong_form else k)
unfolding takes_form
form_fault kb1 m k true true c ea eb ec = absurd (omega (arith, eqb-true m 0 ea, eqb-true m 1 eb))
form_fault kb1 m k true false c ea eb ec = let e = eqb-true m 0 ea in rw (lt-leb 2 m (omega arith), lt-leb 3 m (omega arith))
form_fault kb1 m k false true c ea eb ec = refl
form_fault kb1 m k false false true ea eb ec = let e = eqb-true m 2 ec in rw (le-leb 2 m (omega arith), lt-leb 3 m (omega arith))
form_fault kb1 m k false false false ea eb ec =
    let h : 3 ≤ m = omega (arith, eqb-false m 0 ea, eqb-false m 1 eb, eqb-false m 2 ec) in
    rw (le-leb 2 m (omega arith), le-leb 3 m h) (functional_fault (with_addresses kb1) (is_extended kb1) k)

head_fault : (kb1 f : ℕ) → head_reason kb1 f ≡ first_fault kb1 f
unfolding head_reason first_fault place_announced has_extra format_form
head_fault kb1 f =
    let m = f / 64 in
    rw (place_fault (eqb (f % 64) 0) (extra_length kb1) (length_in_format kb1)) (form_fault kb1 m _ (eqb m 0) (eqb m 1) (eqb m 2) refl refl refl)

-- ---- a message whose first byte is of this side and has the value f, and those after it have the values vs
module _ (side : Side) (f : ℕ) where
  -- nothing of its data has come
  record Fresh (m : Message) : Type 0 where
    extra : m.extra ≡ eqb (f % 64) 0
    size : m.length ≡ f % 64
    none : m.at ≡ 0

  -- the length is known: it stands in the format byte, or its byte has come
  abbrev Sized : List ℕ → Type 0
  Sized vs = f % 64 ≡ 0 → addresses_in (f ∷ vs) < length vs

  -- the part that comes next
  data Stands (vs : List ℕ) (m : Message) : Type 0 where
    target : m.part ≡ Target → length vs ≡ 0 → addresses_in (f ∷ vs) ≡ 2 → Fresh m → Stands vs m
    source : m.part ≡ Source → length vs ≡ 1 → addresses_in (f ∷ vs) ≡ 2 → Fresh m → Stands vs m
    size : m.part ≡ Length → length vs ≡ addresses_in (f ∷ vs) → f % 64 ≡ 0 → m.at ≡ 0 → Stands vs m
    inside : m.part ≡ Data → Sized vs → m.at < m.length → m.length < 256 → size_said (f ∷ vs) + m.at ≡ length (f ∷ vs) + m.length + 1 → Stands vs m
    last : m.part ≡ Sum → Sized vs → size_said (f ∷ vs) ≤ length (f ∷ vs) + 1 → Stands vs m

  -- what is kept stands for the values
  record Tracks (vs : List ℕ) (m : Message) : Type 0 where
    whose : m.side ≡ side
    sum : m.sum ≡ total (f ∷ vs) % 256
    stands : Stands vs m

  -- ---- the size that the header says
  said_low : (vs : List ℕ) → (f % 64 ≡ 0 → ⊥) → size_said (f ∷ vs) ≡ 1 + addresses_in (f ∷ vs) + f % 64 + 1
  said_low vs n = rw (ne_eqb (f % 64) 0 n)

  said_extra : (vs : List ℕ) → f % 64 ≡ 0 → size_said (f ∷ vs) ≡ 1 + addresses_in (f ∷ vs) + 1 + extra_byte (f ∷ vs) + 1
  said_extra vs z = rw (eq-eqb (f % 64) 0 z)

  -- it has room for one byte after the addresses, and the checksum
  said_least : (vs : List ℕ) → 3 + addresses_in (f ∷ vs) ≤ size_said (f ∷ vs)
  said_least vs = by_low (eqb (f % 64) 0) refl
    where
      by_low : (c : Bool) → eqb (f % 64) 0 ≡ c → 3 + addresses_in (f ∷ vs) ≤ size_said (f ∷ vs)
      by_low true e = omega (arith, said_extra vs (eqb-true (f % 64) 0 e))
      by_low false e = omega (arith, said_low vs (eqb-false (f % 64) 0 e), eqb-false (f % 64) 0 e)

  -- and once the length is known it stays
  said_on : (vs : List ℕ) (v : ℕ) → Sized vs → size_said (f ∷ (vs ++ (v ∷ []))) ≡ size_said (f ∷ vs)
  said_on vs v h = by_low (eqb (f % 64) 0) refl
    where
      by_low : (c : Bool) → eqb (f % 64) 0 ≡ c → size_said (f ∷ (vs ++ (v ∷ []))) ≡ size_said (f ∷ vs)
      by_low true e =
          let z = eqb-true (f % 64) 0 e in
          let k = h z in
          let x : extra_byte (f ∷ (vs ++ (v ∷ []))) ≡ extra_byte (f ∷ vs) = get_or-append (f ∷ vs) (v ∷ []) 0 (1 + addresses_in (f ∷ vs)) (omega arith) in
          said_extra (vs ++ (v ∷ [])) z ∙ ap (λ (n : ℕ). 1 + addresses_in (f ∷ vs) + 1 + n + 1) x ∙ sym (said_extra vs z)
      by_low false e = let n = eqb-false (f % 64) 0 e in said_low (vs ++ (v ∷ [])) n ∙ sym (said_low vs n)

  -- ---- which byte comes next
  no_length : (vs : List ℕ) → (f % 64 ≡ 0 → length vs ≡ addresses_in (f ∷ vs) → ⊥) → is_length_byte (f ∷ vs) ≡ false
  unfolding is_length_byte
  no_length vs n = by_low (eqb (f % 64) 0) refl
    where
      by_low : (c : Bool) → eqb (f % 64) 0 ≡ c → (c && eqb (length (f ∷ vs)) (1 + addresses_in (f ∷ vs))) ≡ false
      by_low true e = ne_eqb (length (f ∷ vs)) (1 + addresses_in (f ∷ vs)) (λ q. n (eqb-true (f % 64) 0 e) (omega arith))
      by_low false e = refl

  sized_length : (vs : List ℕ) → Sized vs → is_length_byte (f ∷ vs) ≡ false
  sized_length vs h = no_length vs (λ z q. let k = h z in omega arith)

  the_length : (vs : List ℕ) → length vs ≡ addresses_in (f ∷ vs) → f % 64 ≡ 0 → is_length_byte (f ∷ vs) ≡ true
  unfolding is_length_byte
  the_length vs q z = rw (eq-eqb (f % 64) 0 z) (eq-eqb (length (f ∷ vs)) (1 + addresses_in (f ∷ vs)) (omega arith))

  no_sum : (vs : List ℕ) → length (f ∷ vs) + 1 < size_said (f ∷ vs) → is_checksum (f ∷ vs) ≡ false
  unfolding is_checksum
  no_sum vs h = lt-leb (size_said (f ∷ vs)) (length (f ∷ vs) + 1) h

  the_sum : (vs : List ℕ) → size_said (f ∷ vs) ≤ length (f ∷ vs) + 1 → is_checksum (f ∷ vs) ≡ true
  unfolding is_checksum
  the_sum vs h = le-leb (size_said (f ∷ vs)) (length (f ∷ vs) + 1) h

  -- ---- a later byte
  sum_fault : (b : Bool) → (if b then no_reason else wrong_sum) ≡ (if not b then wrong_sum else no_reason)
  sum_fault true = refl
  sum_fault false = refl

  part_fault : (vs : List ℕ) (m : Message) (v : ℕ) → m.sum ≡ total (f ∷ vs) % 256 → Stands vs m
      → part_reason m.part m v
      ≡ (if is_length_byte (f ∷ vs) && eqb v 0 then wrong_length else
      if is_checksum (f ∷ vs) && not (eqb v (total (f ∷ vs) % 256)) then wrong_sum else no_reason)
  part_fault vs m v s (target q n a k) = rw (q, no_length vs (λ _ z. omega arith), no_sum vs (omega (arith, said_least vs)))
  part_fault vs m v s (source q n a k) = rw (q, no_length vs (λ _ z. omega arith), no_sum vs (omega (arith, said_least vs)))
  part_fault vs m v s (size q n z k) = rw (q, the_length vs n z, no_sum vs (omega (arith, said_least vs)))
  part_fault vs m v s (inside q h a l e) = rw (q, sized_length vs h, no_sum vs (omega arith))
  part_fault vs m v s (last q h e) = rw (q, sized_length vs h, the_sum vs e, s) (sum_fault (eqb v (total (f ∷ vs) % 256)))

  later_fault_lem : (vs : List ℕ) (m : Message) (b : Event) → Tracks vs m → later_reason m b.side b.value ≡ later_fault side (f ∷ vs) b
  unfolding later_reason later_fault
  later_fault_lem vs m b t i = if not (same_side b.side (t.whose i)) then other_side else part_fault vs m b.value t.sum t.stands i

  -- ---- the values go on
  -- after the addresses: the length byte, or the data
  behind_addresses : (vs : List ℕ) (m : Message) → m.part ≡ after_addresses (eqb (f % 64) 0) → length vs ≡ addresses_in (f ∷ vs) → Fresh m → Stands vs m
  unfolding after_addresses
  behind_addresses vs m q n k = by_low (eqb (f % 64) 0) refl q
    where
      by_low : (c : Bool) → eqb (f % 64) 0 ≡ c → m.part ≡ (if c then Length else Data) → Stands vs m
      by_low true e q = size q n (eqb-true (f % 64) 0 e) k.none
      by_low false e q =
          let z = eqb-false (f % 64) 0 e in
          inside q (λ x. absurd (z x)) (omega (arith, k.none, k.size)) (omega (arith, k.size))
          (omega (arith, said_low vs z, k.none, k.size))

  -- the first byte
  abbrev first : Part → Message
  first part = record { seven = 0; side = side; part = part; extra = eqb (f % 64) 0; length = f % 64; at = 0; sum = f; first = 0; why = no_reason }

  fresh : (part : Part) → Fresh (first part)
  fresh part = record { extra = refl; size = refl; none = refl }

  begins_by : (a b c : Bool) → eqb (f / 64) 0 ≡ a → eqb (f / 64) 1 ≡ b
      → Stands [] (first (part_after_format (if a then Plain else if b then Foreign else if c then Physical else Functional) (eqb (f % 64) 0)))
  unfolding part_after_format
  begins_by true b c ea eb =
      let e = eqb-true (f / 64) 0 ea in behind_addresses [] _ refl (rw (lt-leb 2 (f / 64) (omega arith))) (fresh _)
  begins_by false true c ea eb =
      let e = eqb-true (f / 64) 1 eb in behind_addresses [] _ refl (rw (lt-leb 2 (f / 64) (omega arith))) (fresh _)
  begins_by false false true ea eb =
      target refl refl (rw (le-leb 2 (f / 64) (omega (arith, eqb-false (f / 64) 0 ea, eqb-false (f / 64) 1 eb)))) (fresh _)
  begins_by false false false ea eb =
      target refl refl (rw (le-leb 2 (f / 64) (omega (arith, eqb-false (f / 64) 0 ea, eqb-false (f / 64) 1 eb)))) (fresh _)

  begins : f < 256 → Tracks [] (begun side f)
  unfolding begun has_extra format_form total
  begins h = record { whose = refl; sum = omega arith; stands = begins_by (eqb (f / 64) 0) (eqb (f / 64) 1) (eqb (f / 64) 2) refl refl }

  -- one byte more: how many there are, and their sum
  one_more : (vs : List ℕ) (v : ℕ) → length (vs ++ (v ∷ [])) ≡ length vs + 1
  one_more vs v = length-append vs (v ∷ [])

  sum_on : (vs : List ℕ) (v k : ℕ) → k ≡ total (f ∷ vs) % 256 → byte_sum k v ≡ total (f ∷ (vs ++ (v ∷ []))) % 256
  unfolding byte_sum total
  sum_on vs v k e = omega (arith, total_append vs (v ∷ []))

  -- a length byte that does not fail is not 0
  length_some : (m : Message) (s : Side) (v : ℕ) → later_reason m s v ≡ no_reason → m.part ≡ Length → v ≡ 0 → ⊥
  unfolding later_reason
  length_some m s v r q z = by_side (same_side s m.side) (rw (q, eq-eqb v 0 z) at r)
    where
      by_side : (b : Bool) → (if not b then other_side else wrong_length) ≡ no_reason → ⊥
      by_side true e = omega arith
      by_side false e = omega arith

  -- after a data byte: another one, or the checksum
  behind_data : (vs : List ℕ) (m : Message) → m.part ≡ after_data m.at m.length → Sized vs → m.at ≤ m.length → m.length < 256
      → size_said (f ∷ vs) + m.at ≡ length (f ∷ vs) + m.length + 1 → Stands vs m
  unfolding after_data
  behind_data vs m q h a l e = by_at (ltb m.at m.length) refl q
    where
      by_at : (c : Bool) → ltb m.at m.length ≡ c → m.part ≡ (if c then Data else Sum) → Stands vs m
      by_at true t q = inside q h (ltb-true m.at m.length t) l e
      by_at false t q = last q h (omega (arith, ltb-false m.at m.length t))

  -- the part after each part
  grown_at_lem : (us : List ℕ) (v : ℕ) (m : Message) (part : Part) → m.part ≡ part → Stands us (grown_at part m v) → Stands us (grown m v)
  unfolding grown
  grown_at_lem us v m part q = subst (λ (p : Part). Stands us (grown_at p m v)) (sym q)

  stands_on : (vs : List ℕ) (v : ℕ) (m : Message) → v < 256 → (m.part ≡ Length → v ≡ 0 → ⊥) → Stands vs m → Stands (vs ++ (v ∷ [])) (grown m v)
  unfolding with_data byte_sum
  stands_on vs v m h x (target q n a k) =
      grown_at_lem _ v m Target q (source refl (omega (arith, one_more vs v)) a (record { extra = k.extra; size = k.size; none = k.none }))
  stands_on vs v m h x (source q n a k) =
      grown_at_lem _ v m Source q (behind_addresses (vs ++ (v ∷ [])) _ (ap after_addresses k.extra) (omega (arith, one_more vs v))
      (record { extra = k.extra; size = k.size; none = k.none }))
  stands_on vs v m h x (size q n z k) =
      let some = x q in
      let l = one_more vs v in
      let e : extra_byte (f ∷ (vs ++ (v ∷ []))) ≡ v = get_or_at (f ∷ vs) v [] 0 (1 + addresses_in (f ∷ vs)) (omega arith) in
      grown_at_lem _ v m Length q (inside refl (λ _. omega arith) (omega arith) h (omega (arith, said_extra (vs ++ (v ∷ [])) z)))
  stands_on vs v m h x (inside q g a l e) =
      let n = one_more vs v in
      grown_at_lem _ v m Data q (behind_data (vs ++ (v ∷ [])) _ refl (λ z. omega (arith, g z)) (omega arith) l (omega (arith, said_on vs v g)))
  stands_on vs v m h x (last q g e) =
      let n = one_more vs v in
      grown_at_lem _ v m Sum q (last refl (λ z. omega (arith, g z)) (omega (arith, said_on vs v g)))

  -- the sum goes on alike at every part
  grown_sum : (vs : List ℕ) (v : ℕ) (m : Message) → Stands vs m → (grown m v).sum ≡ byte_sum m.sum v
  unfolding grown with_data
  grown_sum vs v m (target q n a k) = ap (λ (p : Part). (grown_at p m v).sum) q
  grown_sum vs v m (source q n a k) = ap (λ (p : Part). (grown_at p m v).sum) q
  grown_sum vs v m (size q n z k) = ap (λ (p : Part). (grown_at p m v).sum) q
  grown_sum vs v m (inside q g a l e) = ap (λ (p : Part). (grown_at p m v).sum) q
  grown_sum vs v m (last q g e) = ap (λ (p : Part). (grown_at p m v).sum) q

  goes_on : (vs : List ℕ) (v : ℕ) (m : Message) (s : Side) → v < 256 → later_reason m s v ≡ no_reason → Tracks vs m → Tracks (vs ++ (v ∷ [])) (grown m v)
  goes_on vs v m s h r t = record {
    whose = grown_side m v ∙ t.whose;
    sum = grown_sum vs v m t.stands ∙ sum_on vs v m.sum t.sum;
    stands = stands_on vs v m h (length_some m s v r) t.stands;
  }

-- ---- all bytes
-- a fault, or what comes after it
same_choice : (k x y : ℕ) → (k ≡ no_reason → x ≡ y) → (if eqb k no_reason then x else k) ≡ (if eqb k no_reason then y else k)
same_choice k x y h = by_none (eqb k no_reason) refl
  where
    by_none : (c : Bool) → eqb k no_reason ≡ c → (if c then x else k) ≡ (if c then y else k)
    by_none true e = h (eqb-true k no_reason e)
    by_none false e = refl

behind_agree : (kb1 : ℕ) (b : Event) (before : List Event) (m : Message) → Tracks b.side b.value (values_of before) m → (bs : List Event)
    → Bytes (values_of bs) → talk_behind m bs ≡ reason_behind kb1 (b ∷ before) bs
unfolding talk_behind reason_behind fault_at values_of
behind_agree kb1 b before m t [] h = refl
behind_agree kb1 b before m t (c ∷ cs) h =
    same_choice (later_reason m c.side c.value) _ (reason_behind kb1 (b ∷ (before ++ (c ∷ []))) cs)
    (λ r. behind_agree kb1 b (before ++ (c ∷ [])) (grown m c.value)
    (subst (λ (vs : List ℕ). Tracks b.side b.value vs (grown m c.value)) (sym (values_both before (c ∷ [])))
    (goes_on b.side b.value (values_of before) c.value m c.side (h 0) r t))
    cs (λ i. h (suc i)))
    ∙ ap (λ (k : ℕ). if eqb k no_reason then reason_behind kb1 (b ∷ (before ++ (c ∷ []))) cs else k)
    (later_fault_lem b.side b.value (values_of before) m c t)

-- of a car's message only the other side's byte fails as it comes
free_later : (m : Message) (c : Event) (b : Event) → m.part ≡ Free → m.side ≡ b.side
    → later_reason m c.side c.value ≡ (if same_side c.side b.side then no_reason else other_side)
unfolding later_reason
free_later m c b p s =
    ap (λ (x : Side). if not (same_side c.side x) then other_side else part_reason m.part m c.value) s
    ∙ ap (λ (x : Part). if not (same_side c.side b.side) then other_side else part_reason x m c.value) p
    ∙ by_same (same_side c.side b.side)
  where
    by_same : (d : Bool) → (if not d then other_side else no_reason) ≡ (if d then no_reason else other_side)
    by_same true = refl
    by_same false = refl

free_agree : (b : Event) (bs : List Event) (m : Message) → m.part ≡ Free → m.side ≡ b.side
    → talk_behind m bs ≡ (if of_one_side (b ∷ bs) then no_reason else other_side)
unfolding talk_behind of_one_side grown car_grown
free_agree b [] m p s = refl
free_agree b (c ∷ cs) m p s =
    let g : (grown m c.value).part ≡ Free = rw p refl in
    by_same (same_side c.side b.side) refl
    (λ d. free_agree c cs (grown m c.value) g (grown_side m c.value ∙ s ∙ sym (same_is c.side b.side d)))
  where
    chosen : (d : Bool) → same_side c.side b.side ≡ d → later_reason m c.side c.value ≡ (if d then no_reason else other_side)
    chosen d q = free_later m c b p s ∙ ap {B = ℕ} (λ (x : Bool). if x then no_reason else other_side) q

    by_same : (d : Bool) → same_side c.side b.side ≡ d
        → (same_side c.side b.side ≡ true → talk_behind (grown m c.value) cs ≡ (if of_one_side (c ∷ cs) then no_reason else other_side))
        → talk_behind m (c ∷ cs) ≡ (if d && of_one_side (c ∷ cs) then no_reason else other_side)
    by_same true d more = rw (chosen true d) (more d)
    by_same false d more = rw (chosen false d) refl

-- THE REASON THAT BYTES GIVE by the rules of crates/talk is the one that their values, bits and sides give
pub reasons_agree : (pair : Pair) (bs : List Event) → Bytes (values_of bs) → talk_reason pair bs ≡ reason_in pair bs
unfolding talk_reason value_reason begun_by reason_in reason_behind fault_at values_of of_one_side car_begun car_grown
reasons_agree pair [] h = by_test (λ (k : ℕ). no_reason ≡ k) (of_car pair) {x = no_reason} {y = no_reason} (λ _. refl) (λ _. refl)
reasons_agree pair (b ∷ bs) h = by_car (of_car pair) refl
  where
    by_car : (c : Bool) → of_car pair ≡ c
        → talk_reason pair (b ∷ bs) ≡ (if c then if of_one_side (b ∷ bs) then no_reason else other_side else reason_behind pair.kb1 [] (b ∷ bs))
    by_car true c = rw c (free_agree b bs (car_begun b.side b.value) refl refl)
    by_car false c =
        let kb1 = pair.kb1 in
        rw c
        (same_choice (head_reason kb1 b.value) _ (reason_behind kb1 (b ∷ []) bs)
        (λ _. behind_agree kb1 b [] (begun b.side b.value) (begins b.side b.value (h 0)) bs (λ i. h (suc i)))
        ∙ ap (λ (k : ℕ). if eqb k no_reason then reason_behind kb1 (b ∷ []) bs else k) (head_fault kb1 b.value))
