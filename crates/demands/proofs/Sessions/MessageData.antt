-- What the link keeps of a message (its length, its first data byte, its first seven data bytes as one number) is what `frame`'s `data_of` gives of the
-- message's bytes, and so a unit frame does by the link's rules what it does by its data (`reply_windows_lem`, `reply_request`, `reply_stops`). Byte by byte:
-- what bytes that go on with a message make of it, and whether the rest ends it in a frame.
-- Assumes nothing.
use mathlib.Core.Path.{◌≡◌, refl, sym, ap, ◌∙◌, subst}
use mathlib.Core.Bool.{Bool, true, false, not, ◌&&◌, ◌||◌, false≢true, true≢false}
use mathlib.Core.List.{List, [], ◌∷◌, ◌++◌, append-nil}
use Prim.Native.Nat.{ℕ, zero, suc, ◌+◌, ◌*◌, ◌/◌, ◌%◌, ◌^◌, ◌<◌, ◌≤◌}
use native.Mathlib.Nat.{zero-add, lt_of_lt_of_le, pow-suc, pow-le-pow_right}
use native.Mathlib.Omega.{arith}
use borrow.Author.Tests.{eqb-true, eqb-false, eq-eqb, ne_eqb, lt-ltb}
use lib.Dec.{eqb}
use lib.ListN.{length, get_or, take, drop, length-append}
use lib.Seq.{append_snoc, take_at, get_or-drop}
use Rattle.std.specs.Prelude.{if◌then◌else◌}
use Rattle.base.specs.Numbers.{taken}
use Rattle.base.specs.Reports.{no_reason}
use Rattle.base.specs.Sums.{byte_sum}
use Rattle.base.proofs.Tests.{and_split}
use Rattle.keys.specs.Keys.{is_good, good_pair, length_in_format, extra_length}
use Rattle.keys.specs.declared.Form.{Form}
use Rattle.keys.specs.declared.Form.TheVariants.{Plain, Physical, Functional, Foreign}
use Rattle.keys.specs.declared.Pair.{Pair}
use Rattle.timing.specs.Timing.{set_of, decoded_of}
use Rattle.timing.specs.declared.Windows.{Windows}
use Rattle.frame.specs.Layout.{form_numbered, format_form, address_count, extra_count, head_size, frame_of, is_nowhere}
use Rattle.frame.specs.Read.{place_read, length_read, read_of, data_of}
use Rattle.frame.proofs.Sizes.{frame_length}
use Rattle.frame.proofs.Announced.{length_some, length_byte, somewhere}
use Rattle.frame.proofs.Starts.{Starts, frame_starts}
use Rattle.frame.proofs.WellRead.{well_read}
use Rattle.events.specs.declared.Side.{Side}
use Rattle.talk.specs.Talk.{has_extra, after_addresses, part_after_format, later_reason, is_sum, number, with_seven, after_data, with_data, grown}
use Rattle.talk.specs.Talk.{is_exactly, asks_codes, request_of, is_effective, if_allowed, windows_for, windows_after, spent, request_after, is_stopped}
use Rattle.talk.specs.Talk.{begun as opened, byte_at, codes_in as codes_kept}
use Rattle.talk.specs.declared.Request.{Request}
use Rattle.talk.specs.declared.Request.TheVariants.{Ordinary, Stop, OwnTiming, NewTiming, Stopped}
use Rattle.talk.specs.declared.Part.{Part}
use Rattle.talk.specs.declared.Part.TheVariants.{Target, Data}
use Rattle.talk.specs.declared.Message.{Message}
use Rattle.talk.specs.Messages.{ends_in, is_message}
use Rattle.talk.proofs.Frames.{message_reads}
use Rattle.demands.specs.Editions.{of_car, is_link_pair, is_frame, ends_itself}
use Rattle.demands.specs.Beside.{grown_by}
use Rattle.demands.specs.Sessions.{same, stops, resets, retimes, codes_in}

-- ---- what is said
-- what a request asks for, by its data
unfoldable pub request_by : List ℕ → Request
request_by d =
    if eqb (get_or d 0 0) 0x82 then Stop else
    if same d (0x83 ∷ 0x01 ∷ []) then OwnTiming else
    if eqb (length d) 7 && eqb (get_or d 0 0) 0x83 && eqb (get_or d 1 0) 0x03 then NewTiming else Ordinary

-- what the link keeps of a message is what this data says
pub record Carries (m : Message) (d : List ℕ) : Type 0 where
  pub some : 0 < length d
  pub first : m.first ≡ get_or d 0 0
  pub request : request_of m ≡ request_by d
  pub codes : request_by d ≡ NewTiming → codes_kept m.seven ≡ codes_in d
  pub own : is_exactly m (0xC3 ∷ 0x01 ∷ []) ≡ same d (0xC3 ∷ 0x01 ∷ [])
  pub new : is_exactly m (0xC3 ∷ 0x03 ∷ []) ≡ same d (0xC3 ∷ 0x03 ∷ [])

-- what the link keeps of the latest tester frame is what its data q says; q is no data before the first one, and once it has taken effect
pub record Kept (request : Request) (seven : ℕ) (q : List ℕ) : Type 0 where
  pub request_is : request ≡ request_by q
  pub codes_are : request_by q ≡ NewTiming → codes_kept seven ≡ codes_in q

-- ---- byte by byte
-- these bytes went on with the message m, and it is n then
pub data GoneOn (side : Side) (m : Message) : List ℕ → Message → Type 0 where
  begun : GoneOn side m [] m
  on : {vs : List ℕ} {n : Message} (v : ℕ) → GoneOn side m vs n → later_reason n side v ≡ no_reason → is_sum n.part ≡ false
      → GoneOn side m (vs ++ (v ∷ [])) (grown n v)

-- as long as a byte goes on with the message, what the whole message does is what its rest does
pub ends_on : (side : Side) (m : Message) (v : ℕ) (ws : List ℕ) → later_reason m side v ≡ no_reason → is_sum m.part ≡ false
    → ends_in side m (v ∷ ws) ≡ ends_in side (grown m v) ws
ends_on side m v ws r s = rw (r, s)

-- and the checksum ends it
pub ends_now : (side : Side) (m : Message) (v : ℕ) → later_reason m side v ≡ no_reason → is_sum m.part ≡ true → ends_in side m (v ∷ []) ≡ true
ends_now side m v r s = rw (r, s)

-- so the message is what the bytes make of it, and what the whole message does is what its rest does
pub grown_append : (m : Message) (vs ws : List ℕ) → grown_by m (vs ++ ws) ≡ grown_by (grown_by m vs) ws
unfolding grown_by
grown_append m [] ws = refl
grown_append m (v ∷ vs) ws = grown_append (grown m v) vs ws

pub gone_by : (side : Side) (m n : Message) (vs : List ℕ) → GoneOn side m vs n → n ≡ grown_by m vs
unfolding grown_by
gone_by side m n vs begun = refl
gone_by side m n vs (on {vs = us} {n = k} v g r s) = ap (λ (x : Message). grown x v) (gone_by side m k us g) ∙ sym (grown_append m us (v ∷ []))

pub gone_ends : (side : Side) (m n : Message) (vs ws : List ℕ) → GoneOn side m vs n → ends_in side m (vs ++ ws) ≡ ends_in side n ws
gone_ends side m n vs ws begun = refl
gone_ends side m n vs ws (on {vs = us} {n = k} v g r s) =
    ap (ends_in side m) (append_snoc us v ws) ∙ gone_ends side m k us (v ∷ ws) g ∙ ends_on side k v ws r s

-- ---- what a request asks for, by the tests on its data
abbrev asks_new : List ℕ → Bool
asks_new q = eqb (length q) 7 && eqb (get_or q 0 0) 0x83 && eqb (get_or q 1 0) 0x03

-- at most one of the three holds
data Asks (q : List ℕ) : Request → Type 0 where
  stop : eqb (get_or q 0 0) 0x82 ≡ true → same q (0x83 ∷ 0x01 ∷ []) ≡ false → asks_new q ≡ false → Asks q Stop
  own : eqb (get_or q 0 0) 0x82 ≡ false → same q (0x83 ∷ 0x01 ∷ []) ≡ true → asks_new q ≡ false → Asks q OwnTiming
  new : eqb (get_or q 0 0) 0x82 ≡ false → same q (0x83 ∷ 0x01 ∷ []) ≡ false → asks_new q ≡ true → Asks q NewTiming
  ordinary : eqb (get_or q 0 0) 0x82 ≡ false → same q (0x83 ∷ 0x01 ∷ []) ≡ false → asks_new q ≡ false → Asks q Ordinary

-- bytes that are exactly these begin with the first of them, and are as many
same_first : (q : List ℕ) (b : ℕ) (bs : List ℕ) → same q (b ∷ bs) ≡ true → get_or q 0 0 ≡ b
unfolding same
same_first [] b bs e = absurd (false≢true e)
same_first (a ∷ q) b bs e = eqb-true a b (and_split (eqb a b) (same q bs) e).0

same_length : (q bs : List ℕ) → same q bs ≡ true → length q ≡ length bs
unfolding same
same_length [] [] e = refl
same_length [] (b ∷ bs) e = absurd (false≢true e)
same_length (a ∷ q) [] e = absurd (false≢true e)
same_length (a ∷ q) (b ∷ bs) e = ap suc (same_length q bs (and_split (eqb a b) (same q bs) e).1)

asks_seven : (q : List ℕ) → asks_new q ≡ true → (length q ≡ 7) × (get_or q 0 0 ≡ 0x83)
asks_seven q e =
    let a = and_split (eqb (length q) 7 && eqb (get_or q 0 0) 0x83) (eqb (get_or q 1 0) 0x03) e in
    let b = and_split (eqb (length q) 7) (eqb (get_or q 0 0) 0x83) a.0 in
    (eqb-true (length q) 7 b.0, eqb-true (get_or q 0 0) 0x83 b.1)

asks : (q : List ℕ) → Asks q (request_by q)
unfolding request_by
asks q = by_tests (eqb (get_or q 0 0) 0x82) (same q (0x83 ∷ 0x01 ∷ [])) (asks_new q) refl refl refl
  where
    by_tests : (x y z : Bool) → eqb (get_or q 0 0) 0x82 ≡ x → same q (0x83 ∷ 0x01 ∷ []) ≡ y → asks_new q ≡ z
        → Asks q (if x then Stop else if y then OwnTiming else if z then NewTiming else Ordinary)
    by_tests true true z ex ey ez = absurd (let a = eqb-true (get_or q 0 0) 0x82 ex in let b = same_first q 0x83 (0x01 ∷ []) ey in omega arith)
    by_tests true false true ex ey ez = absurd (let a = eqb-true (get_or q 0 0) 0x82 ex in let b = asks_seven q ez in omega arith)
    by_tests true false false ex ey ez = stop ex ey ez
    by_tests false true true ex ey ez = absurd (let a = same_length q (0x83 ∷ 0x01 ∷ []) ey in let b = asks_seven q ez in omega arith)
    by_tests false true false ex ey ez = own ex ey ez
    by_tests false false true ex ey ez = new ex ey ez
    by_tests false false false ex ey ez = ordinary ex ey ez

kept_asks : (request : Request) (seven : ℕ) (q : List ℕ) → Kept request seven q → Asks q request
kept_asks request seven q k = subst (Asks q) (sym k.request_is) (asks q)

-- ---- what is kept of the latest tester frame: of none, and of a message
pub kept_none : (seven : ℕ) → Kept Ordinary seven []
unfolding request_by same
kept_none seven = record { request_is = refl; codes_are = λ e. cc }

pub kept_asked : (m : Message) (d : List ℕ) → Carries m d → Kept (request_of m) m.seven d
kept_asked m d c = record { request_is = c.request; codes_are = c.codes }

-- ---- what a unit frame does
-- the windows in force after it
pub reply_windows_lem : (request : Request) (seven : ℕ) (pair : Pair) (q a : List ℕ) (m : Message) (w : Windows) → Kept request seven q → Carries m a
    → windows_after request m pair seven w ≡ (if resets q a then set_of pair else if retimes q a then if_allowed (decoded_of (codes_in q)) w else w)
unfolding windows_after windows_for is_effective resets retimes
reply_windows_lem request seven pair q a m w k c = by_asked request (kept_asks request seven q k) k.request_is
  where
    if_same : (b : Bool) → (if b then w else w) ≡ w
    if_same true = refl
    if_same false = refl

    by_asked : (request : Request) → Asks q request → request ≡ request_by q
        → windows_after request m pair seven w ≡ (if resets q a then set_of pair else if retimes q a then if_allowed (decoded_of (codes_in q)) w else w)
    by_asked Stopped x e = elim x [ ]
    by_asked Stop (stop s o n) e = rw (o, n) (if_same (eqb m.first 0xC2))
    by_asked OwnTiming (own s o n) e = rw (o, n, c.own)
    by_asked NewTiming (new s o n) e = rw (o, n, c.new, k.codes_are (sym e))
    by_asked Ordinary (ordinary s o n) e = rw (o, n)

-- after it the request is spent if it took effect
pub reply_request : (request : Request) (seven : ℕ) (q a : List ℕ) (m : Message) → Kept request seven q → Carries m a → stops q a ≡ false
    → Kept (request_after request m) seven (if stops q a || resets q a || retimes q a then [] else q)
unfolding request_after spent is_effective stops resets retimes
reply_request request seven q a m k c z = by_asked request (kept_asks request seven q k) k z
  where
    own_spent : (b : Bool) → Kept OwnTiming seven q → Kept (if b then Ordinary else OwnTiming) seven (if b || false then [] else q)
    own_spent true k = kept_none seven
    own_spent false k = k

    new_spent : (b : Bool) → Kept NewTiming seven q → Kept (if b then Ordinary else NewTiming) seven (if b then [] else q)
    new_spent true k = kept_none seven
    new_spent false k = k

    by_asked : (request : Request) → Asks q request → Kept request seven q → stops q a ≡ false
        → Kept (request_after request m) seven (if stops q a || resets q a || retimes q a then [] else q)
    by_asked Stopped x k z = elim x [ ]
    by_asked Stop (stop s o n) k z = rw (z, o, n, c.first, rw s at z) k
    by_asked OwnTiming (own s o n) k z = rw (s, o, n, c.own) (own_spent (same a (0xC3 ∷ 0x01 ∷ [])) k)
    by_asked NewTiming (new s o n) k z = rw (s, o, n, c.new) (new_spent (same a (0xC3 ∷ 0x03 ∷ [])) k)
    by_asked Ordinary (ordinary s o n) k z = rw (s, o, n) k

-- a stop that was answered is `Stopped`, and nothing else is
pub reply_stops : (request : Request) (seven : ℕ) (q a : List ℕ) (m : Message) → Kept request seven q → Carries m a
    → is_stopped (request_after request m) ≡ stops q a
unfolding request_after spent is_stopped is_effective stops
reply_stops request seven q a m k c = by_asked request (kept_asks request seven q k)
  where
    stopped : (b : Bool) → is_stopped (if b then Stopped else Stop) ≡ b
    stopped true = refl
    stopped false = refl

    others : (b : Bool) (request : Request) → is_stopped request ≡ false → is_stopped (if b then Ordinary else request) ≡ false
    others true request e = refl
    others false request e = e

    by_asked : (request : Request) → Asks q request → is_stopped (request_after request m) ≡ stops q a
    by_asked Stopped x = elim x [ ]
    by_asked Stop (stop s o n) = rw (s, c.first) (stopped (eqb (get_or a 0 0) 0xC2))
    by_asked OwnTiming (own s o n) = rw s (others (is_exactly m (0xC3 ∷ 0x01 ∷ [])) OwnTiming refl)
    by_asked NewTiming (new s o n) = rw s (others (is_exactly m (0xC3 ∷ 0x03 ∷ [])) NewTiming refl)
    by_asked Ordinary (ordinary s o n) = rw s

-- ---- the first seven data bytes as one number
-- two bytes as one number are those two bytes
pair_same : (a b x y : ℕ) → b < 256 → y < 256 → eqb (number (a ∷ b ∷ [])) (number (x ∷ y ∷ [])) ≡ (eqb a x && eqb b y)
pair_same a b x y hb hy = by_tests (eqb a x) (eqb b y) refl refl
  where
    by_tests : (s t : Bool) → eqb a x ≡ s → eqb b y ≡ t → eqb (number (a ∷ b ∷ [])) (number (x ∷ y ∷ [])) ≡ (s && t)
    by_tests true true es et = eq-eqb (number (a ∷ b ∷ [])) (number (x ∷ y ∷ [])) (let p = eqb-true a x es in let q = eqb-true b y et in omega arith)
    by_tests true false es et = ne_eqb (number (a ∷ b ∷ [])) (number (x ∷ y ∷ [])) (λ e. eqb-false b y et (let p = eqb-true a x es in omega arith))
    by_tests false t es et = ne_eqb (number (a ∷ b ∷ [])) (number (x ∷ y ∷ [])) (λ e. eqb-false a x es (omega arith))

-- seven bytes
data Seven : List ℕ → Type 0 where
  these : (a b c e f g h : ℕ) → Seven (a ∷ b ∷ c ∷ e ∷ f ∷ g ∷ h ∷ [])

are_seven : (d : List ℕ) → length d ≡ 7 → Seven d
are_seven [] n = absurd (omega arith)
are_seven (a ∷ []) n = absurd (omega arith)
are_seven (a ∷ b ∷ []) n = absurd (omega arith)
are_seven (a ∷ b ∷ c ∷ []) n = absurd (omega arith)
are_seven (a ∷ b ∷ c ∷ e ∷ []) n = absurd (omega arith)
are_seven (a ∷ b ∷ c ∷ e ∷ f ∷ []) n = absurd (omega arith)
are_seven (a ∷ b ∷ c ∷ e ∷ f ∷ g ∷ []) n = absurd (omega arith)
are_seven (a ∷ b ∷ c ∷ e ∷ f ∷ g ∷ h ∷ []) n = these a b c e f g h
are_seven (a ∷ b ∷ c ∷ e ∷ f ∷ g ∷ h ∷ x ∷ d) n = absurd (omega arith)

-- their two in front, and the codes after these
seven_front : (d : List ℕ) → Seven d → ((i : ℕ) → get_or d i 0 < 256) → number d / 256 ^ 5 ≡ number (get_or d 0 0 ∷ get_or d 1 0 ∷ [])
seven_front d (these a b c e f g h) byte = omega (arith, byte 2, byte 3, byte 4, byte 5, byte 6)

seven_codes : (d : List ℕ) → Seven d → ((i : ℕ) → get_or d i 0 < 256) → codes_kept (number d) ≡ codes_in d
unfolding codes_kept codes_in
seven_codes d (these a b c e f g h) byte =
    let n = number (a ∷ b ∷ c ∷ e ∷ f ∷ g ∷ h ∷ []) in
    let small : (c < 256) × (e < 256) × (f < 256) × (g < 256) × (h < 256) = (byte 2, byte 3, byte 4, byte 5, byte 6) in
    let p2min : byte_at 2 n ≡ c = omega arith in
    let p2max : byte_at 3 n ≡ e = omega arith in
    let p3min : byte_at 4 n ≡ f = omega arith in
    let p3max : byte_at 5 n ≡ g = omega arith in
    let p4min : byte_at 6 n ≡ h = omega arith in
    λ i. record { p2min = p2min i; p2max = p2max i; p3min = p3min i; p3max = p3max i; p4min = p4min i }

-- ---- what is kept of a message when its data has come
record Told (m : Message) (d : List ℕ) : Type 0 where
  size : m.length ≡ length d
  first : m.first ≡ get_or d 0 0
  seven : length d ≤ 7 → m.seven ≡ number d
  bytes : (i : ℕ) → get_or d i 0 < 256

and_false : (b : Bool) → (b && false) ≡ false
and_false true = refl
and_false false = refl

and_true : (b : Bool) → (b && true) ≡ b
and_true true = refl
and_true false = refl

-- exactly these two bytes
same_two : (d : List ℕ) (k x y : ℕ) → get_or d 1 0 < 256 → y < 256 → (length d ≡ 2 → k ≡ number d)
    → (eqb (length d) 2 && eqb k (number (x ∷ y ∷ []))) ≡ same d (x ∷ y ∷ [])
unfolding same
same_two [] k x y hb hy e = refl
same_two (a ∷ []) k x y hb hy e = sym (and_false (eqb a x))
same_two (a ∷ b ∷ []) k x y hb hy e = rw (e refl, pair_same a b x y hb hy, and_true (eqb b y))
same_two (a ∷ b ∷ c ∷ d) k x y hb hy e =
    rw (ne_eqb (suc (suc (suc (length d)))) 2 (λ z. omega arith), and_false (eqb b y), and_false (eqb a x))

exactly_is : (m : Message) (d : List ℕ) (x y : ℕ) → Told m d → y < 256 → is_exactly m (x ∷ y ∷ []) ≡ same d (x ∷ y ∷ [])
unfolding is_exactly
exactly_is m d x y t hy = rw t.size (same_two d m.seven x y (t.bytes 1) hy (λ n. t.seven (omega arith)))

-- exactly 83 03 and five codes
asks_is : (m : Message) (d : List ℕ) → Told m d → asks_codes m ≡ asks_new d
unfolding asks_codes
asks_is m d t = rw t.size (by_size (eqb (length d) 7) refl)
  where
    front : length d ≡ 7 → m.seven / 256 ^ 5 ≡ number (get_or d 0 0 ∷ get_or d 1 0 ∷ [])
    front n = ap (λ (k : ℕ). k / 256 ^ 5) (t.seven (omega arith)) ∙ seven_front d (are_seven d n) t.bytes

    by_size : (s : Bool) → eqb (length d) 7 ≡ s
        → (s && eqb (m.seven / 256 ^ 5) (number (0x83 ∷ 0x03 ∷ []))) ≡ (s && eqb (get_or d 0 0) 0x83 && eqb (get_or d 1 0) 0x03)
    by_size true e = rw (front (eqb-true (length d) 7 e)) (pair_same (get_or d 0 0) (get_or d 1 0) 0x83 0x03 (t.bytes 1) (omega arith))
    by_size false e = refl

-- the five codes
codes_are : (m : Message) (d : List ℕ) → Told m d → length d ≡ 7 → codes_kept m.seven ≡ codes_in d
codes_are m d t n = ap codes_kept (t.seven (omega arith)) ∙ seven_codes d (are_seven d n) t.bytes

-- and so what it asks for, what it answers and the codes in it are those of its data
told_carries : (m : Message) (d : List ℕ) → Told m d → 0 < length d → Carries m d
unfolding request_of request_by
told_carries m d t some = record {
  some = some;
  first = t.first;
  request = rw (exactly_is m d 0x83 0x01 t (omega arith), asks_is m d t, t.first);
  codes = λ e. codes_are m d t (new_length (request_by d) (asks d) e);
  own = exactly_is m d 0xC3 0x01 t (omega arith);
  new = exactly_is m d 0xC3 0x03 t (omega arith);
}
  where
    new_length : (request : Request) → Asks d request → request ≡ NewTiming → length d ≡ 7
    new_length Stopped x e = elim x [ ]
    new_length Stop (stop s o n) e = cc
    new_length OwnTiming (own s o n) e = cc
    new_length NewTiming (new s o n) e = (asks_seven d n).0
    new_length Ordinary (ordinary s o n) e = cc

-- ---- data bytes, one by one
-- a message of which `at` data bytes have come
abbrev coming : Side → Bool → ℕ → ℕ → ℕ → ℕ → ℕ → Message
coming side extra len at sum seven first = record {
  seven = seven;
  side = side;
  part = after_data at len;
  extra = extra;
  length = len;
  at = at;
  sum = sum;
  first = first;
  why = no_reason;
}

-- one data byte more
data_on : (side : Side) (extra : Bool) (len at sum seven first v : ℕ) → at < len
    → grown (coming side extra len at sum seven first) v
    ≡ coming side extra len (byte_sum at 1) (byte_sum sum v) (with_seven seven at v) (if eqb at 0 then v else first)
unfolding grown with_data after_data
data_on side extra len at sum seven first v h = rw (lt-ltb at len h)

data_more : (side : Side) (extra : Bool) (len at sum seven first v : ℕ) → at < len → 0 < at
    → grown (coming side extra len at sum seven first) v ≡ coming side extra len (byte_sum at 1) (byte_sum sum v) (with_seven seven at v) first
data_more side extra len at sum seven first v h ha =
    data_on side extra len at sum seven first v h
    ∙ ap (λ (b : Bool). coming side extra len (byte_sum at 1) (byte_sum sum v) (with_seven seven at v) (if b then v else first)) (ne_eqb at 0 (λ z. omega arith))

-- after the first data byte neither the length nor the first byte changes
more_told : (d : List ℕ) (side : Side) (extra : Bool) (len at sum seven first : ℕ) → at + length d ≡ len → len < 256 → 0 < at
    → ((grown_by (coming side extra len at sum seven first) d).length ≡ len) × ((grown_by (coming side extra len at sum seven first) d).first ≡ first)
unfolding grown_by byte_sum
more_told [] side extra len at sum seven first e hl ha = (refl, refl)
more_told (v ∷ d) side extra len at sum seven first e hl ha =
    subst (λ (m : Message). ((grown_by m d).length ≡ len) × ((grown_by m d).first ≡ first)) (sym (data_more side extra len at sum seven first v (omega arith) ha))
    (more_told d side extra len ((at + 1) % 256) ((sum + v) % 256) (with_seven seven at v) first (omega arith) hl (omega arith))

-- all data bytes: length and first byte
start_told : (d : List ℕ) (side : Side) (extra : Bool) (sum : ℕ) → 0 < length d → length d < 256
    → ((grown_by (coming side extra (length d) 0 sum 0 0) d).length ≡ length d) × ((grown_by (coming side extra (length d) 0 sum 0 0) d).first ≡ get_or d 0 0)
unfolding grown_by byte_sum
start_told [] side extra sum some hl = (refl, refl)
start_told (v ∷ d) side extra sum some hl =
    subst (λ (m : Message). ((grown_by m d).length ≡ suc (length d)) × ((grown_by m d).first ≡ v)) (sym (data_on side extra (suc (length d)) 0 sum 0 0 v some))
    (more_told d side extra (suc (length d)) 1 ((sum + v) % 256) (with_seven 0 0 v) v (omega arith) hl (omega arith))

-- data bytes that come, up to seven in all, stand in their number after those before them
seven_told : (d : List ℕ) (side : Side) (extra : Bool) (len at sum seven first : ℕ) → at + length d ≡ len → len ≤ 7 → seven < 256 ^ at
    → ((i : ℕ) → get_or d i 0 < 256) → (grown_by (coming side extra len at sum seven first) d).seven ≡ seven * 256 ^ length d + number d
unfolding grown_by with_seven byte_sum
seven_told [] side extra len at sum seven first e hl hs byte = omega arith
seven_told (v ∷ d) side extra len at sum seven first e hl hs byte =
    let small : seven < 256 ^ 6 = lt_of_lt_of_le hs (pow-le-pow_right {n = 256} (omega arith) {i = at} {j = 6} (omega arith)) in
    let next : with_seven seven at v ≡ seven * 256 + v = rw (lt-ltb at 7 (omega arith)) (omega arith) in
    let place : byte_sum at 1 ≡ suc at = omega arith in
    subst (λ (m : Message). (grown_by m d).seven ≡ seven * 256 ^ suc (length d) + (v * 256 ^ length d + number d))
    (sym (data_on side extra len at sum seven first v (omega arith)))
    (seven_told d side extra len (byte_sum at 1) (byte_sum sum v) (with_seven seven at v) (if eqb at 0 then v else first) (omega arith) hl
    (rw (next, place, pow-suc 256 at) (omega (arith, byte 0))) (λ i. byte (suc i))
    ∙ rw (next, pow-suc 256 (length d)) (omega arith))

-- data that a frame may have
record Sound (d : List ℕ) : Type 0 where
  some : 0 < length d
  small : length d < 256
  bytes : (i : ℕ) → get_or d i 0 < 256

-- all data bytes, and so all of it
all_told : (d : List ℕ) (side : Side) (extra : Bool) (sum : ℕ) → Sound d
    → Told (grown_by (coming side extra (length d) 0 sum 0 0) d) d
all_told d side extra sum h =
    let s = start_told d side extra sum h.some h.small in
    record {
      size = s.0;
      first = s.1;
      seven = λ n. seven_told d side extra (length d) 0 sum 0 0 (zero-add (length d)) n (omega arith) h.bytes ∙ omega arith;
      bytes = h.bytes;
    }

-- ---- a message's head, and the data after it
-- after the format byte, with so many addresses, and a length byte or the length in the low bits: d is the data among these bytes
record Parts (addresses : ℕ) (extra : Bool) (low : ℕ) (us d : List ℕ) : Type 0 where
  size : length us ≡ addresses + (if extra then 1 else 0) + length d + 1
  announced : (if extra then get_or us addresses 0 else low) ≡ length d
  stands : take (length d) (drop (addresses + (if extra then 1 else 0)) us) ≡ d
  sound : Sound d

-- a message whose length and data are still to come
abbrev fresh : Side → Part → Bool → ℕ → ℕ → Message
fresh side part extra low sum = record { seven = 0; side = side; part = part; extra = extra; length = low; at = 0; sum = sum; first = 0; why = no_reason }

-- the length is known
data_told : (d us : List ℕ) (v : ℕ) (side : Side) (extra : Bool) (len sum : ℕ) → Parts 0 false len (us ++ (v ∷ [])) d
    → Told (grown_by (fresh side Data extra len sum) us) d
unfolding after_data
data_told d us v side extra len sum p =
    let whole : us ≡ d = sym (take_at us (v ∷ []) (length d) (omega (arith, length-append us (v ∷ []), p.size))) ∙ p.stands in
    rw (whole, p.announced) (rw (lt-ltb 0 (length d) p.sound.some) at (all_told d side extra sum p.sound))

-- the length byte, if it is not in the format byte
length_told : (extra : Bool) (d us : List ℕ) (v : ℕ) (side : Side) (low sum : ℕ) → Parts 0 extra low (us ++ (v ∷ [])) d
    → Told (grown_by (fresh side (after_addresses extra) extra low sum) us) d
unfolding grown_by grown after_addresses
length_told false d us v side low sum p = data_told d us v side false low sum p
length_told true d [] v side low sum p = absurd (omega (arith, p.size, p.sound.some))
length_told true d (l ∷ us) v side low sum p =
    data_told d us v side true l (byte_sum sum l) (record { size = omega (arith, p.size); announced = p.announced; stands = p.stands; sound = p.sound })

-- target and source first, in forms that carry them
behind_addresses : (extra : Bool) (low t s : ℕ) (us d : List ℕ) → Parts 2 extra low (t ∷ s ∷ us) d → Parts 0 extra low us d
behind_addresses true low t s us d p = record { size = omega (arith, p.size); announced = p.announced; stands = p.stands; sound = p.sound }
behind_addresses false low t s us d p = record { size = omega (arith, p.size); announced = p.announced; stands = p.stands; sound = p.sound }

address_told : (extra : Bool) (d us : List ℕ) (v : ℕ) (side : Side) (low sum : ℕ) → Parts 2 extra low (us ++ (v ∷ [])) d
    → Told (grown_by (fresh side Target extra low sum) us) d
unfolding grown_by grown
address_told extra d [] v side low sum p = absurd (omega (arith, p.size, p.sound.some))
address_told extra d (t ∷ []) v side low sum p = absurd (omega (arith, p.size, p.sound.some))
address_told extra d (t ∷ s ∷ us) v side low sum p =
    length_told extra d us v side low (byte_sum (byte_sum sum t) s) (behind_addresses extra low t s (us ++ (v ∷ [])) d p)

-- and so for each form
form_told : (form : Form) (extra : Bool) (d us : List ℕ) (v : ℕ) (side : Side) (low sum : ℕ) → Parts (address_count form) extra low (us ++ (v ∷ [])) d
    → Told (grown_by (fresh side (part_after_format form extra) extra low sum) us) d
unfolding part_after_format address_count
form_told Plain extra d us v side low sum p = length_told extra d us v side low sum p
form_told Physical extra d us v side low sum p = address_told extra d us v side low sum p
form_told Functional extra d us v side low sum p = address_told extra d us v side low sum p
form_told Foreign extra d us v side low sum p = length_told extra d us v side low sum p

-- ---- a message that ends in a frame
-- the place of its length takes one byte or none
extra_rule : (kb1 f : ℕ) (z x g : Bool) → eqb (f % 64) 0 ≡ z → extra_length kb1 ≡ x → length_in_format kb1 ≡ g → is_nowhere (place_read kb1 f) ≡ false
    → extra_count (place_read kb1 f) ≡ (if z then 1 else 0)
unfolding is_nowhere extra_count place_read
extra_rule kb1 f true true g ez ex eg e = rw (ez, ex)
extra_rule kb1 f true false g ez ex eg e = absurd (true≢false (rw (ez, ex) at e))
extra_rule kb1 f false x true ez ex eg e = rw (ez, eg)
extra_rule kb1 f false x false ez ex eg e = rw (ez, eg)

-- bytes of a part are bytes
take_bytes : (n : ℕ) (l : List ℕ) (i : ℕ) → ((j : ℕ) → get_or l j 0 < 256) → get_or (take n l) i 0 < 256
take_bytes zero l i h = omega arith
take_bytes (suc n) [] i h = omega arith
take_bytes (suc n) (x ∷ l) zero h = h 0
take_bytes (suc n) (x ∷ l) (suc i) h = take_bytes n l i (λ j. h (suc j))

data_bytes : (kb1 kb2 : ℕ) (s : List ℕ) → ((i : ℕ) → get_or s i 0 < 256) → (i : ℕ) → get_or (data_of kb1 kb2 s) i 0 < 256
unfolding data_of
data_bytes kb1 kb2 s byte i =
    let r = read_of kb1 kb2 s in
    take_bytes r.len (drop r.start s) i (λ j. rw (get_or-drop r.start s j 0) (byte (r.start + j)))

-- its parts
read_parts : (kb1 kb2 f : ℕ) (us : List ℕ) → ((i : ℕ) → get_or (f ∷ us) i 0 < 256) → (read_of kb1 kb2 (f ∷ us)).no ≡ taken
    → Parts (address_count (format_form f)) (eqb (f % 64) 0) (f % 64) us (data_of kb1 kb2 (f ∷ us))
unfolding head_size length_read
read_parts kb1 kb2 f us byte e =
    let w = well_read kb1 kb2 (f ∷ us) byte e in
    let form = form_numbered (read_of kb1 kb2 (f ∷ us)).form in
    let place = w.place in
    let t = (read_of kb1 kb2 (f ∷ us)).target in
    let s = (read_of kb1 kb2 (f ∷ us)).source in
    let d = data_of kb1 kb2 (f ∷ us) in
    let placed = w.announced.placed in
    let starts : Starts kb1 (f ∷ us) form place t s d =
    subst (λ (S : List ℕ). Starts kb1 S form place t s d) (append-nil (frame_of form place t s d) ∙ sym w.whole) (frame_starts kb1 form place t s d placed []) in
    let addresses : address_count (format_form f) ≡ address_count form = ap address_count starts.form_is in
    let extra : extra_count place ≡ (if eqb (f % 64) 0 then 1 else 0) =
    sym (ap extra_count starts.place_is)
    ∙ extra_rule kb1 f (eqb (f % 64) 0) (extra_length kb1) (length_in_format kb1) refl refl refl
    (ap is_nowhere starts.place_is ∙ somewhere kb1 place (length d) placed) in
    let length_at : suc (address_count (format_form f)) ≡ 1 + address_count form = omega (arith, addresses) in
    let data_at : suc (address_count (format_form f) + (if eqb (f % 64) 0 then 1 else 0)) ≡ 1 + address_count form + extra_count place = omega (arith, addresses, extra) in
    record {
      size = omega (arith, data_at, ap length w.whole, frame_length form place t s d);
      announced = ap (λ (k : ℕ). if eqb (f % 64) 0 then get_or (f ∷ us) k 0 else f % 64) length_at ∙ starts.length_is;
      stands = ap (λ (k : ℕ). take (length d) (drop k (f ∷ us))) data_at ∙ starts.data_is;
      sound = record {
        some = length_some kb1 place (length d) placed;
        small = omega (arith, length_byte kb1 place (length d) placed);
        bytes = data_bytes kb1 kb2 (f ∷ us) byte;
      };
    }

-- WHAT THE LINK KEPT OF A MESSAGE THAT ENDS IN A FRAME IS WHAT ITS DATA SAYS
pub message_carries : (kb1 kb2 : ℕ) (side : Side) (f : ℕ) (vs : List ℕ) (v : ℕ) → good_pair kb1 kb2 ≡ true
    → ((i : ℕ) → get_or (f ∷ (vs ++ (v ∷ []))) i 0 < 256) → is_message kb1 side (f ∷ (vs ++ (v ∷ []))) ≡ true
    → Carries (grown_by (opened side f) vs) (data_of kb1 kb2 (f ∷ (vs ++ (v ∷ []))))
unfolding opened has_extra
message_carries kb1 kb2 side f vs v good byte e =
    let s = f ∷ (vs ++ (v ∷ [])) in
    let p = read_parts kb1 kb2 f (vs ++ (v ∷ [])) byte (eqb-true (read_of kb1 kb2 s).no taken (sym (message_reads kb1 kb2 side s good byte) ∙ e)) in
    let d = data_of kb1 kb2 s in
    told_carries _ d (form_told (format_form f) (eqb (f % 64) 0) d vs v side (f % 64) f p) p.sound.some

-- a link's pair that is no car's is good
pub pair_good : (pair : Pair) → is_link_pair pair ≡ true → of_car pair ≡ false → is_good pair ≡ true
unfolding is_link_pair
pair_good pair h n = by_car (is_good pair) (of_car pair) h n
  where
    by_car : (a b : Bool) → (a || b) ≡ true → b ≡ false → a ≡ true
    by_car true b h n = refl
    by_car false b h n = absurd (false≢true (sym n ∙ h))

-- and bytes are such a message exactly if they end themselves under these key bytes
pub message_ends : (pair : Pair) (side : Side) (s : List ℕ) → is_link_pair pair ≡ true → of_car pair ≡ false → ((i : ℕ) → get_or s i 0 < 256)
    → is_message pair.kb1 side s ≡ ends_itself pair s
unfolding ends_itself
message_ends pair side s good n byte = message_reads pair.kb1 pair.kb2 side s (pair_good pair good n) byte ∙ sym (rw n refl)

-- what ends itself is a frame, of any side, and of no car
pub ends_frame : (pair : Pair) (side : Side) (s : List ℕ) → ends_itself pair s ≡ true → (is_frame pair side s ≡ true) × (of_car pair ≡ false)
unfolding ends_itself is_frame
ends_frame pair side s h = by_car (of_car pair) (eqb (read_of pair.kb1 pair.kb2 s).no taken) _ h
  where
    by_car : (c r x : Bool) → (not c && r) ≡ true → ((if c then x else r) ≡ true) × (c ≡ false)
    by_car true r x h = absurd (false≢true h)
    by_car false r x h = (h, refl)
