-- Laws of texts written into a buffer: one after another, the room for them, and the two promises, one from the other. Assumes nothing.
use Prim.Native.Nat.{ℕ, suc, ◌+◌, ◌≤◌, ◌<◌}
use mathlib.Core.Path.{◌≡◌, refl, sym, ◌∙◌}
use mathlib.Core.Bool.{Bool, true, false}
use mathlib.Core.List.{List, [], ◌∷◌, ◌++◌, append_assoc}
use lib.Dec.{leb}
use lib.ListN.{length, take, drop, set, length-append, length-take, length-drop, length-set, take-append-drop}
use lib.Seq.{length-take-le, take_at, drop-append-add, drop-drop, set_split}
use borrow.Rule.Slice.PartMut.{put_mid}
use borrow.Author.Tests.{le-leb}
use native.Mathlib.Omega.{arith}
use native.Mathlib.Nat.{add_assoc}
use Rattle.std.specs.Prelude.{if◌then◌else◌}
use Rattle.words.specs.Writing.{digit_count, digits_of, number_text, number_most, put, fits, Writes, Puts}
use Rattle.words.proofs.Spelling.{length_digits, count_few}

-- a text after another
drop_past : (x r : List ℕ) (n m : ℕ) → length x ≡ n → drop (n + m) (x ++ r) ≡ drop m r
drop_past x r n m e = rw (← e) (drop-append-add x r m)

pub put_put : (at : ℕ) (p q out : List ℕ) → at + length p ≤ length out → put (at + length p) q (put at p out) ≡ put at (p ++ q) out
unfolding put
put_put at p q out h =
    let lx : length (take at out ++ p) ≡ at + length p = rw (length-append, length-take-le at out (omega arith)) in
    rw (
      ← (append_assoc (take at out) p (drop (at + length p) out)),
      take_at (take at out ++ p) (drop (at + length p) out) (at + length p) lx,
      drop_past (take at out ++ p) (drop (at + length p) out) (at + length p) (length q) lx,
      drop-drop (length q) (at + length p) out,
      length-append p q,
      ← (add_assoc at (length p) (length q)),
      append_assoc (take at out) p (q ++ drop (at + length p + length q) out),
      append_assoc p q (drop (at + length p + length q) out),
    )

-- the buffer stays as long as it is
pub length_put : (at : ℕ) (p out : List ℕ) → at + length p ≤ length out → length (put at p out) ≡ length out
unfolding put
length_put at p out h = simp (length-append, length-take, length-drop) (omega arith)

-- nothing
pub put_nil : (at : ℕ) (out : List ℕ) → put at [] out ≡ out
unfolding put
put_nil at out = let z : at + 0 ≡ at = omega arith in rw z (take-append-drop at out)

pub puts_nil : (at : ℕ) (out : List ℕ) → Puts at [] 0 out at out
puts_nil at out = record { place = omega arith; small = omega arith; memory = sym (put_nil at out); kept = refl }

-- two texts written one after another are one text written
pub puts_join : (at : ℕ) (p q : List ℕ) (m n : ℕ) (out : List ℕ) (a : ℕ) (o1 : List ℕ) (r : ℕ) (o2 : List ℕ) → at + m ≤ length out
    → Puts at p m out a o1 → Puts a q n o1 r o2 → Puts at (p ++ q) (m + n) out r o2
puts_join at p q m n out a o1 r o2 h u v =
    record {
      place = v.place ∙ rw (length-append p q, u.place) (omega arith);
      small = rw (length-append p q) (omega (arith, u.small, v.small));
      memory = v.memory ∙ rw (u.memory, u.place) (put_put at p q out (omega (arith, u.small)));
      kept = v.kept ∙ u.kept;
    }

-- the promise of a public function where there is room, and that of the functions below it
pub puts_writes : (p : List ℕ) (most at : ℕ) (out : List ℕ) (r : ℕ) (after : List ℕ) → at + most ≤ length out → Puts at p most out r after → Writes p most at out r after
puts_writes p most at out r after h u =
    let e = le-leb (at + most) (length out) h in
    record { place = rw e u.place; memory = rw e u.memory }

pub writes_puts : (p : List ℕ) (most at : ℕ) (out : List ℕ) (r : ℕ) (after : List ℕ) → at + most ≤ length out → length p ≤ most → Writes p most at out r after
    → Puts at p most out r after
writes_puts p most at out r after h k w =
    let e = le-leb (at + most) (length out) h in
    let m : after ≡ put at p out = rw e at w.memory in
    record { place = rw e at w.place; small = k; memory = m; kept = rw m (length_put at p out (omega arith)) }

-- how long the texts are
pub number_small : (n b : ℕ) → length (number_text n b) ≤ number_most
unfolding number_text
number_small n b = rw (length-append, length_digits (digit_count 19 n) n) (omega (arith, count_few 19 n))

-- a number: its digits, and the byte after them
pub put_one : (out : List ℕ) (i b : ℕ) → i < length out → set out i b ≡ put i (b ∷ []) out
unfolding put
put_one out i b h = let e : suc i ≡ i + 1 = omega arith in rw (set_split out i b h, e)

pub number_puts : (at k n b : ℕ) (out o1 : List ℕ) → at + number_most ≤ length out → k ≡ digit_count 19 n → k ≤ 20 → o1 ≡ put at (digits_of k n) out
    → Puts at (number_text n b) number_most out (at + k + 1) (set o1 (at + k) b)
unfolding number_text
number_puts at k n b out o1 h ek small e =
    let l = length_digits k n in
    let lp : length (put at (digits_of k n) out) ≡ length out = length_put at (digits_of k n) out (omega arith) in
    let one : set (put at (digits_of k n) out) (at + k) b ≡ put (at + k) (b ∷ []) (put at (digits_of k n) out) = put_one (put at (digits_of k n) out) (at + k) b (omega arith) in
    let two : put (at + length (digits_of k n)) (b ∷ []) (put at (digits_of k n) out) ≡ put at (digits_of k n ++ (b ∷ [])) out = put_put at (digits_of k n) (b ∷ []) out (omega arith) in
    rw (← ek)
    (record {
      place = rw (length-append, l) (omega arith);
      small = rw (length-append, l) (omega arith);
      memory = rw e (one ∙ (rw l at two));
      kept = rw e (simp length-set lp);
    })

-- what a copy into the part from `at` on leaves
pub copied : (at n : ℕ) (s out last : List ℕ) → n ≡ length s → at + length s ≤ length out → last ≡ s
    → Puts at s (length s) out (at + length s) (put_mid at n out last)
unfolding put
copied at n s out last en h e =
    let m : put_mid at n out last ≡ take at out ++ (s ++ drop (at + length s) out) = rw (e, en, drop-drop (length s) at out) in
    record {
      place = refl;
      small = omega arith;
      memory = m;
      kept = rw m (simp (length-append, length-take, length-drop) (omega arith));
    }

-- without room nothing is written
pub no_room : (p : List ℕ) (most at : ℕ) (out : List ℕ) → leb (at + most) (length out) ≡ false → Writes p most at out at out
no_room p most at out g = record { place = rw g; memory = rw g }

-- nothing to write, with room or without
both_same : (b : Bool) {A : Type 0} (x : A) → x ≡ (if b then x else x)
both_same true x = refl
both_same false x = refl

pub none_writes : (most at : ℕ) (out : List ℕ) → Writes [] most at out at out
none_writes most at out =
    let z : at + 0 ≡ at = omega arith in
    record { place = rw z (both_same (fits at most out) at); memory = rw (put_nil at out) (both_same (fits at most out) out) }
