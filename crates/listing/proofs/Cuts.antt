-- HOWEVER THE INPUT IS CUT, its listing is the same.
-- The listing is a fold over the bytes, and a call stops it between two bytes only: calls one after another are one fold.
-- Assumes nothing.
use Prim.Native.Nat.{ℕ, suc, ◌+◌, ◌-◌, ◌≤◌, ◌<◌}
use mathlib.Core.Path.{◌≡◌, refl, sym, ◌∙◌, ap}
use mathlib.Core.Bool.{Bool, true, false}
use mathlib.Core.List.{List, [], ◌∷◌, ◌++◌, append_assoc, append-nil}
use lib.Dec.{eqb, leb, ltb}
use lib.ListN.{length, take}
use borrow.Author.Tests.{le-leb, le-ltb}
use native.Mathlib.Omega.{arith}
use Rattle.text.specs.Text.{head_text}
use Rattle.listing.specs.Listing.{Feed, fresh_lister, line_ended, feed_byte, feed, ending_of, listing_of}
use Rattle.listing.specs.Parts.{answer_most, takes, part_of}
use Rattle.listing.specs.declared.Lister.{Lister}

-- A call of `list_part`: the bytes that are offered, and how many the lent buffer has. Offered may be anything, and of any length; what is not read
-- of it the caller offers again in front of the bytes that follow.
pub record Call : Type 0 where
  pub offered : List ℕ
  pub room : ℕ

-- calls one after another, each with the lister that the one before gave: the lister after them, ..
abbrev pub lister_after : Lister → List Call → Lister
lister_after l [] = l
lister_after l (c ∷ cs) = lister_after (part_of l c.offered c.room).feed.lister cs

-- .. all bytes that they read, in order, ..
abbrev pub read_by : Lister → List Call → List ℕ
read_by l [] = []
read_by l (c ∷ cs) = take (part_of l c.offered c.room).at c.offered ++ read_by (part_of l c.offered c.room).feed.lister cs

-- .. and all bytes that they wrote
abbrev pub written_by : Lister → List Call → List ℕ
written_by l [] = []
written_by l (c ∷ cs) = (part_of l c.offered c.room).feed.said ++ written_by (part_of l c.offered c.room).feed.lister cs

-- ---- what was said before stands in front
byte_said : (l : Lister) (o : List ℕ) (b : ℕ) (t : Bool) → eqb b 10 ≡ t
    → feed_byte (record { lister = l; said = o }) b
    ≡ record { lister = (feed_byte (record { lister = l; said = [] }) b).lister; said = o ++ (feed_byte (record { lister = l; said = [] }) b).said }
unfolding feed_byte line_ended
byte_said l o b true e = rw e
byte_said l o b false e = rw (e, append-nil o)

pub feed_said : (bs : List ℕ) (l : Lister) (o : List ℕ)
    → feed (record { lister = l; said = o }) bs
    ≡ record { lister = (feed (record { lister = l; said = [] }) bs).lister; said = o ++ (feed (record { lister = l; said = [] }) bs).said }
unfolding feed
feed_said [] l o = rw (append-nil o)
feed_said (b ∷ bs) l o =
    let f = feed_byte (record { lister = l; said = [] }) b in
    let g = feed_said bs f.lister f.said in
    let h = feed_said bs f.lister (o ++ f.said) in
    ap (λ (x : Feed). feed x bs) (byte_said l o b (eqb b 10) refl)
    ∙ (h ∙ rw g (ap (λ (x : List ℕ). record { lister = (feed (record { lister = f.lister; said = [] }) bs).lister; said = x }) (append_assoc o f.said (feed (record { lister = f.lister; said = [] }) bs).said)))

-- parts one after another
pub feed_append : (f : Feed) (a b : List ℕ) → feed f (a ++ b) ≡ feed (feed f a) b
unfolding feed
feed_append f [] b = refl
feed_append f (x ∷ a) b = feed_append (feed_byte f x) a b

-- ---- a part gives what the bytes that were read of it give
at_by : (room : ℕ) (f : Feed) (b : ℕ) (bs : List ℕ) (at : ℕ) (t : Bool) → leb (length f.said) room ≡ t → at + 1 ≤ (takes room (feed_byte f b) bs (at + 1)).at
    → at ≤ (takes room f (b ∷ bs) at).at
unfolding takes
at_by room f b bs at true e h = rw e (omega arith)
at_by room f b bs at false e h = rw e (omega arith)

takes_behind : (room : ℕ) (f : Feed) (bs : List ℕ) (at : ℕ) → at ≤ (takes room f bs at).at
unfolding takes
takes_behind room f [] at = omega arith
takes_behind room f (b ∷ bs) at = at_by room f b bs at (leb (length f.said) room) refl (takes_behind room (feed_byte f b) bs (at + 1))

fed_by : (room : ℕ) (f : Feed) (b : ℕ) (bs : List ℕ) (at : ℕ) (t : Bool) → leb (length f.said) room ≡ t
    → (takes room (feed_byte f b) bs (at + 1)).feed ≡ feed (feed_byte f b) (take ((takes room (feed_byte f b) bs (at + 1)).at - (at + 1)) bs)
    → (takes room f (b ∷ bs) at).feed ≡ feed f (take ((takes room f (b ∷ bs) at).at - at) (b ∷ bs))
unfolding takes feed
fed_by room f b bs at true e h =
    let k = takes_behind room (feed_byte f b) bs (at + 1) in
    let z : (takes room (feed_byte f b) bs (at + 1)).at - at ≡ suc ((takes room (feed_byte f b) bs (at + 1)).at - (at + 1)) = omega arith in
    rw (e, z) h
fed_by room f b bs at false e h = let z : at - at ≡ 0 = omega arith in rw (e, z)

takes_fed : (room : ℕ) (bs : List ℕ) (f : Feed) (at : ℕ) → (takes room f bs at).feed ≡ feed f (take ((takes room f bs at).at - at) bs)
unfolding takes feed
takes_fed room [] f at = let z : at - at ≡ 0 = omega arith in rw z
takes_fed room (b ∷ bs) f at = fed_by room f b bs at (leb (length f.said) room) refl (takes_fed room bs (feed_byte f b) (at + 1))

part_by : (l : Lister) (s : List ℕ) (n : ℕ) (t : Bool) → ltb n answer_most ≡ t
    → (part_of l s n).feed ≡ feed (record { lister = l; said = [] }) (take (part_of l s n).at s)
unfolding part_of feed
part_by l s n true e = rw e
part_by l s n false e =
    let f : Feed = record { lister = l; said = [] } in
    let z : (takes (n - answer_most) f s 0).at - 0 ≡ (takes (n - answer_most) f s 0).at = omega arith in
    rw e (rw z at (takes_fed (n - answer_most) s f 0))

pub part_fed : (l : Lister) (s : List ℕ) (n : ℕ) → (part_of l s n).feed ≡ feed (record { lister = l; said = [] }) (take (part_of l s n).at s)
part_fed l s n = part_by l s n (ltb n answer_most) refl

-- ---- calls one after another give what all bytes that they read give
calls_fed : (cs : List Call) (l : Lister) → feed (record { lister = l; said = [] }) (read_by l cs) ≡ record { lister = lister_after l cs; said = written_by l cs }
unfolding feed
calls_fed [] l = refl
calls_fed (c ∷ cs) l =
    let p = part_of l c.offered c.room in
    let rest = read_by p.feed.lister cs in
    feed_append (record { lister = l; said = [] }) (take p.at c.offered) rest
    ∙ (ap (λ (x : Feed). feed x rest) (sym (part_fed l c.offered c.room))
    ∙ (feed_said rest p.feed.lister p.feed.said
    ∙ rw (calls_fed cs p.feed.lister) refl))

-- THE THEOREM. Whatever the parts that are offered, and whatever the buffers: the header, what the calls wrote, in order, and what the end writes,
-- are the listing of the bytes that were read.
pub any_cut : (cs : List Call) → head_text ++ (written_by fresh_lister cs ++ ending_of (lister_after fresh_lister cs)) ≡ listing_of (read_by fresh_lister cs)
unfolding listing_of
any_cut cs =
    rw (feed_said (read_by fresh_lister cs) fresh_lister head_text, calls_fed cs fresh_lister)
    (sym (append_assoc head_text (written_by fresh_lister cs) (ending_of (lister_after fresh_lister cs))))

-- ---- a call reads something, if something is offered and the buffer has room for what one line may have written
first_by : (l : Lister) (b : ℕ) (bs : List ℕ) (n : ℕ) → answer_most ≤ n → 0 < (part_of l (b ∷ bs) n).at
unfolding part_of takes
first_by l b bs n h =
    let k = takes_behind (n - answer_most) (feed_byte (record { lister = l; said = [] }) b) bs 1 in
    rw (le-ltb n answer_most h, le-leb 0 (n - answer_most) (omega arith)) (omega arith)

pub reads_on : (l : Lister) (s : List ℕ) (n : ℕ) → 0 < length s → answer_most ≤ n → 0 < (part_of l s n).at
reads_on l [] n k h = absurd (omega arith)
reads_on l (b ∷ bs) n k h = first_by l b bs n h

-- and no more than is offered
within_by : (room : ℕ) (f : Feed) (b : ℕ) (bs : List ℕ) (at : ℕ) (t : Bool) → leb (length f.said) room ≡ t → (takes room (feed_byte f b) bs (at + 1)).at ≤ at + 1 + length bs
    → (takes room f (b ∷ bs) at).at ≤ at + length (b ∷ bs)
unfolding takes
within_by room f b bs at true e h = rw e (omega arith)
within_by room f b bs at false e h = rw e (omega arith)

takes_within : (room : ℕ) (bs : List ℕ) (f : Feed) (at : ℕ) → (takes room f bs at).at ≤ at + length bs
unfolding takes
takes_within room [] f at = omega arith
takes_within room (b ∷ bs) f at = within_by room f b bs at (leb (length f.said) room) refl (takes_within room bs (feed_byte f b) (at + 1))

within_part : (l : Lister) (s : List ℕ) (n : ℕ) (t : Bool) → ltb n answer_most ≡ t → (part_of l s n).at ≤ length s
unfolding part_of
within_part l s n true e = rw e (omega arith)
within_part l s n false e = rw e (omega (arith, takes_within (n - answer_most) s (record { lister = l; said = [] }) 0))

pub part_within : (l : Lister) (s : List ℕ) (n : ℕ) → (part_of l s n).at ≤ length s
part_within l s n = within_part l s n (ltb n answer_most) refl
