-- The tests of building, and what they ask: where none refuses, the frame that is planned is announced and has room. Assumes nothing.
use mathlib.Core.Path.{◌≡◌, refl, sym, ap, subst}
use mathlib.Core.Bool.{Bool, true, false, ◌&&◌, not, true≢false}
use Prim.Native.Nat.{ℕ, ◌≤◌}
use native.Mathlib.Omega.{arith}
use borrow.Author.Tests.{leb-true, le-leb, ltb-false}
use lib.Dec.{eqb, leb}
use Rattle.std.specs.Prelude.{Option, Some, None, if◌then◌else◌}
use Rattle.base.specs.Numbers.{taken, bad_keys, bad_form, bad_length, no_room}
use Rattle.base.proofs.Tests.{and_split, by_test}
use Rattle.keys.specs.Keys.{good_pair, takes_form, length_in_format, extra_length}
use Rattle.frame.specs.Layout.{form_numbered, is_nowhere}
use Rattle.frame.specs.Build.{place_for, shortest, in_format_byte, in_extra_byte, only_in, place_chosen, place_in, size_of, build_no, Writable}
use Rattle.frame.specs.Announced.{Placed, Announced}
use Rattle.frame.specs.declared.Place.{Place}
use Rattle.frame.specs.declared.Place.TheVariants.{Format, Extra}
use Rattle.frame.specs.declared.Plan.{Plan}

pub length_some : (kb1 : ℕ) (place : Option Place) (n : ℕ) → Placed kb1 place n → 1 ≤ n
length_some kb1 (Some Format) n p = p.1
length_some kb1 (Some Extra) n p = p.1
length_some kb1 None n p = absurd p

pub length_byte : (kb1 : ℕ) (place : Option Place) (n : ℕ) → Placed kb1 place n → n ≤ 255
length_byte kb1 (Some Format) n p = omega arith
length_byte kb1 (Some Extra) n p = p.2
length_byte kb1 None n p = absurd p

pub somewhere : (kb1 : ℕ) (place : Option Place) (n : ℕ) → Placed kb1 place n → is_nowhere place ≡ false
unfolding is_nowhere
somewhere kb1 (Some Format) n p = refl
somewhere kb1 (Some Extra) n p = refl
somewhere kb1 None n p = absurd p

-- a bit of KB1, and a length from 1 up to what a place holds
fits_by : (bit : Bool) (n most : ℕ) → (bit && (leb 1 n && leb n most)) ≡ true → (bit ≡ true) × (1 ≤ n) × (n ≤ most)
fits_by bit n most e =
    let p = and_split bit _ e in
    let q = and_split (leb 1 n) (leb n most) p.1 in
    (p.0, leb-true 1 n q.0, leb-true n most q.1)

abbrev place_by : Bool → Bool → Option Place
place_by a b = if a then Some Format else if b then Some Extra else None

by_tests : (kb1 n m k : ℕ) (a b : Bool) → (length_in_format kb1 && (leb 1 n && leb n m)) ≡ a → (extra_length kb1 && (leb 1 n && leb n k)) ≡ b
    → is_nowhere (place_by a b) ≡ false → m ≤ 63 → k ≤ 255 → Placed kb1 (place_by a b) n
unfolding is_nowhere
by_tests kb1 n m k true b ea eb h hm hk = let f = fits_by (length_in_format kb1) n m ea in (f.0, f.1, omega (arith, f.2))
by_tests kb1 n m k false true ea eb h hm hk = let f = fits_by (extra_length kb1) n k eb in (f.0, f.1, omega (arith, f.2))
by_tests kb1 n m k false false ea eb h hm hk = absurd (true≢false h)

-- a length that goes somewhere fits there: by the shortest frame, ..
placed_shortest : (kb1 n : ℕ) → is_nowhere (place_for kb1 n) ≡ false → Placed kb1 (place_for kb1 n) n
unfolding place_for
placed_shortest kb1 n h = by_tests kb1 n _ _ _ _ refl refl h (omega arith) (omega arith)

-- .. in one place only, ..
module _ (place : Place) (bit : Bool) (n most : ℕ) where
  only_by : (b : Bool) → (bit && (leb 1 n && leb n most)) ≡ b → is_nowhere (if b then Some place else None) ≡ false
      → ((if b then Some place else None) ≡ Some place) × (bit ≡ true) × (1 ≤ n) × (n ≤ most)
  unfolding is_nowhere
  only_by true e h = let f = fits_by bit n most e in (refl, f.0, f.1, f.2)
  only_by false e h = absurd (true≢false h)

  pub only_there : is_nowhere (only_in place bit n most) ≡ false → (only_in place bit n most ≡ Some place) × (bit ≡ true) × (1 ≤ n) × (n ≤ most)
  unfolding only_in
  only_there h = only_by _ refl h

-- (a place fits where the length goes there only if it holds it)
abbrev Fitting : ℕ → ℕ → Option Place → Type 0
Fitting kb1 n place = is_nowhere place ≡ false → Placed kb1 place n

only_fits : (kb1 : ℕ) (place : Place) (bit : Bool) (n most : ℕ) → ((bit ≡ true) × (1 ≤ n) × (n ≤ most) → Placed kb1 (Some place) n)
    → Fitting kb1 n (only_in place bit n most)
only_fits kb1 place bit n most f h =
    let o = only_there place bit n most h in
    subst (λ (x : Option Place). Placed kb1 x n) (sym o.0) (f (o.1, o.2, o.3))

nowhere_fits : (kb1 n : ℕ) → Fitting kb1 n None
unfolding is_nowhere
nowhere_fits kb1 n h = absurd (true≢false h)

-- .. and so by any choice
pub placed_for : (choice kb1 n : ℕ) → is_nowhere (place_chosen choice kb1 n) ≡ false → Placed kb1 (place_chosen choice kb1 n) n
unfolding place_chosen
placed_for choice kb1 n =
    by_test (Fitting kb1 n) (eqb choice shortest) (λ _. placed_shortest kb1 n)
    (λ _. by_test (Fitting kb1 n) (eqb choice in_format_byte) (λ _. only_fits kb1 _ _ n _ (λ f. (f.0, f.1, omega (arith, f.2))))
    (λ _. by_test (Fitting kb1 n) (eqb choice in_extra_byte) (λ _. only_fits kb1 _ _ n _ (λ f. (f.0, f.1, omega (arith, f.2)))) (λ _. nowhere_fits kb1 n)))

-- and such a length passes the test of its place
pub there_by : (bit : Bool) (n most : ℕ) (place other : Option Place) → bit ≡ true → 1 ≤ n → n ≤ most
    → (if bit && (leb 1 n && leb n most) then place else other) ≡ place
there_by bit n most place other e some few = rw (e, le-leb 1 n some, le-leb n most few)

-- A LENGTH THAT FITS IN THE FORMAT BYTE GOES THERE, if KB1 announces that place, and not in the extra byte
pub format_first : (kb1 n : ℕ) → Placed kb1 (Some Format) n → place_for kb1 n ≡ Some Format
unfolding place_for
format_first kb1 n p = there_by (length_in_format kb1) n _ _ _ p.0 p.1 (omega (arith, p.2))

-- the number 0 comes only where no test refuses
pub record NoneRefuses (p : Plan) (n room : ℕ) : Type 0 where
  pub chosen : p.choice ≤ 2
  pub announced : Announced p.pair.kb1 p.pair.kb2 (form_numbered p.form) (place_in p n) n
  pub roomy : size_of p n ≤ room

through : (a x b c d : Bool)
    → (if not a then bad_keys else if x then bad_form else if not b then bad_form else if c then bad_length else if d then no_room else taken) ≡ taken
    → (a ≡ true) × (x ≡ false) × (b ≡ true) × (c ≡ false) × (d ≡ false)
through true false true false false e = (refl, refl, refl, refl, refl)
through true false true false true e = absurd (omega arith)
through true false true true d e = absurd (omega arith)
through true false false c d e = absurd (omega arith)
through true true b c d e = absurd (omega arith)
through false x b c d e = absurd (omega arith)

pub none_refuses : (p : Plan) (n room : ℕ) → build_no p n room ≡ taken → NoneRefuses p n room
unfolding build_no
none_refuses p n room e =
    let t = through (good_pair p.pair.kb1 p.pair.kb2) _ (takes_form p.pair.kb1 (form_numbered p.form)) (is_nowhere (place_in p n)) _ e in
    record {
      chosen = ltb-false _ p.choice t.1;
      announced = record { good = t.0; takes = t.2; placed = placed_for _ p.pair.kb1 n t.3 };
      roomy = ltb-false room _ t.4;
    }

short_format : (kb1 : ℕ) (place : Option Place) (n : ℕ) → Placed kb1 place n → place ≡ Some Format → n ≤ 63
short_format kb1 place n p e = ap_placed (rw e at p)
  where
    ap_placed : Placed kb1 (Some Format) n → n ≤ 63
    ap_placed q = q.2

-- what `write` asks, where the number is 0
pub writable : (p : Plan) (n room : ℕ) (place : Place) → taken ≡ build_no p n room → place_in p n ≡ Some place
    → Writable (form_numbered p.form) (Some place) n room
unfolding size_of
writable p n room place e ep =
    let r = none_refuses p n room (sym e) in
    rw (← ep)
    (record {
      byte = length_byte p.pair.kb1 (place_in p n) n r.announced.placed;
      short = short_format p.pair.kb1 (place_in p n) n r.announced.placed;
      fits = r.roomy;
    })

-- a length that has a place is a byte
pub place_small : (p : Plan) (n : ℕ) (place : Place) → place_in p n ≡ Some place → n ≤ 255
unfolding is_nowhere
place_small p n place e = length_byte p.pair.kb1 (place_in p n) n (placed_for p.choice p.pair.kb1 n (ap is_nowhere e))
