-- A byte's line read at once is what its bytes give one by one.
-- The quick way tests the same letters, digits and spaces at their places; part by part it is what the machine that reads byte by byte comes to.
-- Assumes nothing.
use Rattle.std.proofs.Common.{◌≡◌, ℕ, zero, suc, ◌+◌, ◌-◌, ◌*◌, ◌%◌, ◌^◌, ◌<◌, ◌≤◌, Bool, true, false, ◌&&◌, eqb, ltb, leb, List, Some, length, get_or, drop, sym, refl, ap, ◌∙◌, arith, ltb-false, ltb-true, lt-ltb, eqb-true, leb-true}
use mathlib.Core.Bool.{false≢true}
use borrow.Author.Tests.{eqb-false}
use Rattle.std.proofs.lemmas.Option.{none-some, same_Some}
use Rattle.base.specs.Sums.{byte_sum}
use Rattle.base.proofs.Tests.{and_split}
use Rattle.units.specs.Units.{micros}
use Rattle.events.specs.Events.{kind_by, side_by, same_side, is_nobody}
use Rattle.events.specs.declared.Kind.TheVariants.{Byte}
use Rattle.events.specs.declared.Side.{Side}
use Rattle.events.specs.declared.Side.TheVariants.{Tester, Unit, Nobody}
use Rattle.words.specs.Digits.{is_digit, is_capital, hex_of}
use Rattle.lines.specs.Lines.{lettered, spaced, sided, high_read, low_read}
use Rattle.lines.specs.Lines.{read_byte, is_letter, is_empty, is_last, is_whole, event_of}
use Rattle.lines.specs.Getting.{got_of, ended}
use Rattle.lines.specs.Quick.{digits_at, second_at, times_at, has_words, row_at, row_of, row_got}
use Rattle.lines.specs.declared.Place.{Place}
use Rattle.lines.specs.declared.Place.TheVariants.{Letter, BeforeSide, AtSide, BeforeHex, High, Low, BeforeTime, Time, BeforeStart, Start, End, Nowhere}
use Rattle.lines.specs.declared.Reading.{Reading}
use Rattle.lines.specs.declared.Row.{Row}
use Rattle.words.proofs.Within.{digit_within}
use Rattle.lines.proofs.Laws.{low, next, digits_within, at, Takes, takes_start, takes_end, start_over}
use Rattle.lines.proofs.Parts.{got_feed, got_byte}

-- ---- digits of either time
digits_by : (f : ℕ → ℕ → Reading) → Takes f → (s : List ℕ) (k j n c : ℕ) (b : Bool) → is_digit (get_or s j 0) ≡ b → c + suc k ≡ 13 → n < 10 ^ c → j + suc k ≤ length s
    → (is_digit (get_or s j 0) ≡ true → got_of (f (n * 10 + (get_or s j 0 - 0x30)) (c + 1)) (drop (j + 1) s) (j + 1)
    ≡ got_of (f (digits_at s k (j + 1) (n * 10 + (get_or s j 0 - 0x30))).value (c + 1 + ((digits_at s k (j + 1) (n * 10 + (get_or s j 0 - 0x30))).to - (j + 1))))
    (drop (digits_at s k (j + 1) (n * 10 + (get_or s j 0 - 0x30))).to s) (digits_at s k (j + 1) (n * 10 + (get_or s j 0 - 0x30))).to)
    → got_of (f n c) (drop j s) j ≡ got_of (f (digits_at s (suc k) j n).value (c + ((digits_at s (suc k) j n).to - j))) (drop (digits_at s (suc k) j n).to s) (digits_at s (suc k) j n).to
unfolding digits_at
digits_by f t s k j n c true e z l h g =
    let d = digit_within (get_or s j 0) e in
    let w = digits_within s k (j + 1) (n * 10 + (get_or s j 0 - 0x30)) in
    let q : c + 1 + ((digits_at s k (j + 1) (n * 10 + (get_or s j 0 - 0x30))).to - (j + 1)) ≡ c + ((digits_at s k (j + 1) (n * 10 + (get_or s j 0 - 0x30))).to - j) = omega (arith, w.0) in
    rw e (got_byte (f n c) s j (omega arith) (λ x. omega (arith, d.0))
    ∙ (ap (λ (x : Reading). got_of x (drop (j + 1) s) (j + 1)) (t n c (get_or s j 0) e (omega arith) (low n c (omega arith) l))
    ∙ (g e ∙ ap (λ (x : ℕ). got_of (f (digits_at s k (j + 1) (n * 10 + (get_or s j 0 - 0x30))).value x)
    (drop (digits_at s k (j + 1) (n * 10 + (get_or s j 0 - 0x30))).to s) (digits_at s k (j + 1) (n * 10 + (get_or s j 0 - 0x30))).to) q)))
digits_by f t s k j n c false e z l h g = let q : c + (j - j) ≡ c = omega arith in rw (e, q)

digits_got : (f : ℕ → ℕ → Reading) → Takes f → (s : List ℕ) (k j n c : ℕ) → c + k ≡ 13 → n < 10 ^ c → j + k ≤ length s
    → got_of (f n c) (drop j s) j ≡ got_of (f (digits_at s k j n).value (c + ((digits_at s k j n).to - j))) (drop (digits_at s k j n).to s) (digits_at s k j n).to
unfolding digits_at
digits_got f t s zero j n c z l h = let q : c + (j - j) ≡ c = omega arith in rw q
digits_got f t s (suc k) j n c z l h =
    digits_by f t s k j n c (is_digit (get_or s j 0)) refl z l h
    (λ e. digits_got f t s k (j + 1) (n * 10 + (get_or s j 0 - 0x30)) (c + 1) (omega arith)
    (next n c (get_or s j 0 - 0x30) l (omega (arith, digit_within (get_or s j 0) e))) (omega arith))

-- ---- the words of a byte's line
-- the line feed after the second
end_over : (side : Side) (value start n c to : ℕ) → 0 < c
    → ended (at Byte side value start n c End) to
    ≡ row_got (record { event = record { start = micros start; end = micros n; kind = Byte; side = side; value = value }; to = to })
unfolding ended event_of is_whole is_last row_got
end_over side value start n c to h = rw (lt-ltb 0 c h)

-- the letter, from a line of which nothing was read
letter_only : (p : Place) → is_letter p ≡ true → p ≡ Letter
unfolding is_letter
letter_only Letter e = refl
letter_only BeforeSide e = absurd (false≢true e)
letter_only AtSide e = absurd (false≢true e)
letter_only BeforeHex e = absurd (false≢true e)
letter_only High e = absurd (false≢true e)
letter_only Low e = absurd (false≢true e)
letter_only BeforeTime e = absurd (false≢true e)
letter_only Time e = absurd (false≢true e)
letter_only BeforeStart e = absurd (false≢true e)
letter_only Start e = absurd (false≢true e)
letter_only End e = absurd (false≢true e)
letter_only Nowhere e = absurd (false≢true e)

letter_read : (r : Reading) → is_empty r ≡ true → read_byte r 0x42 ≡ at Byte Nobody 0 0 0 0 BeforeSide
unfolding is_empty read_byte lettered kind_by
letter_read r e = rw (letter_only r.place e)

-- a space
space_side : read_byte (at Byte Nobody 0 0 0 0 BeforeSide) 0x20 ≡ at Byte Nobody 0 0 0 0 AtSide
unfolding read_byte spaced
space_side = refl

space_hex : (side : Side) → read_byte (at Byte side 0 0 0 0 BeforeHex) 0x20 ≡ at Byte side 0 0 0 0 High
unfolding read_byte spaced
space_hex side = refl

space_start : (side : Side) (value : ℕ) → read_byte (at Byte side value 0 0 0 BeforeStart) 0x20 ≡ at Byte side value 0 0 0 Start
unfolding read_byte spaced
space_start side value = refl

-- the side
sided_by : (side : Side) → same_side side Nobody ≡ false → sided (at Byte Nobody 0 0 0 0 AtSide) side ≡ at Byte side 0 0 0 0 BeforeHex
unfolding sided same_side is_nobody
sided_by Tester e = refl
sided_by Unit e = refl
sided_by Nobody e = absurd (false≢true (sym e))

at_side : (b : ℕ) → read_byte (at Byte Nobody 0 0 0 0 AtSide) b ≡ sided (at Byte Nobody 0 0 0 0 AtSide) (side_by b)
unfolding read_byte
at_side b = refl

side_read : (b : ℕ) → same_side (side_by b) Nobody ≡ false → read_byte (at Byte Nobody 0 0 0 0 AtSide) b ≡ at Byte (side_by b) 0 0 0 0 BeforeHex
side_read b e = at_side b ∙ sided_by (side_by b) e

side_fed : (b : ℕ) → same_side (side_by b) Nobody ≡ false → b ≡ 10 → ⊥
unfolding side_by same_side is_nobody
side_fed b e f = let g : same_side (side_by 10) Nobody ≡ false = rw f at e in false≢true (sym g)

-- the hex digits
hex_fed : (b : ℕ) → ltb 15 (hex_of b) ≡ false → b ≡ 10 → ⊥
unfolding hex_of is_digit is_capital
hex_fed b e f = let g : ltb 15 (hex_of 10) ≡ false = rw f at e in false≢true (sym g)

high_read_lem : (side : Side) (b : ℕ) → ltb 15 (hex_of b) ≡ false → read_byte (at Byte side 0 0 0 0 High) b ≡ at Byte side (hex_of b * 16) 0 0 0 Low
unfolding read_byte high_read
high_read_lem side b e = rw e

low_read_lem : (side : Side) (h b : ℕ) → h ≤ 15 → ltb 15 (hex_of b) ≡ false → read_byte (at Byte side (h * 16) 0 0 0 Low) b ≡ at Byte side (h * 16 + hex_of b) 0 0 0 BeforeStart
unfolding read_byte low_read byte_sum
low_read_lem side h b k e = let l = ltb-false 15 (hex_of b) e in let q : (h * 16 + hex_of b) % 256 ≡ h * 16 + hex_of b = omega arith in rw (e, q)

-- where there is a digit there is one or more
some_by : (x y : ℕ) (b : Bool) → ltb 0 (x - y) ≡ b → y ≤ x → (x ≡ y → ⊥) → 0 < 0 + (x - y)
some_by x y true e l n = omega (arith, ltb-true 0 (x - y) e)
some_by x y false e l n = absurd (n (omega (arith, ltb-false 0 (x - y) e)))

some : {x y : ℕ} → y ≤ x → (x ≡ y → ⊥) → 0 < 0 + (x - y)
some {x} {y} l n = some_by x y (ltb 0 (x - y)) refl l n

module _ (s : List ℕ) where
  -- ---- the second time
  second_by : (j start : ℕ) (side : Side) (value : ℕ) (a b : Bool) → eqb (digits_at s 13 j 0).to j ≡ a → eqb (get_or s (digits_at s 13 j 0).to 0) 10 ≡ b
      → j + 14 ≤ length s → (q : Row) → second_at s j start side value ≡ Some q
      → got_of (at Byte side value start 0 0 End) (drop j s) j ≡ row_got q
  unfolding second_at
  second_by j start side value true b ea eb h q t = absurd (none-some q (rw ea at t))
  second_by j start side value false false ea eb h q t = absurd (none-some q (rw (ea, eb) at t))
  second_by j start side value false true ea eb h q t =
      let w = digits_within s 13 j 0 in
      let n : (digits_at s 13 j 0).to ≡ j → ⊥ = eqb-false _ _ ea in
      let t2 = rw (ea, eb) at t in
      digits_got (λ n c. at Byte side value start n c End) (takes_end Byte side value start) s 13 j 0 0 (omega arith) (omega arith) (omega arith)
      ∙ (got_feed _ s _ (omega (arith, w.1)) (eqb-true _ _ eb)
      ∙ (end_over side value start _ _ _ (some w.0 n) ∙ ap row_got (same_Some _ q t2)))

  second_got : (j start : ℕ) (side : Side) (value : ℕ) → j + 14 ≤ length s → (q : Row) → second_at s j start side value ≡ Some q
      → got_of (at Byte side value start 0 0 End) (drop j s) j ≡ row_got q
  second_got j start side value h q t =
      second_by j start side value (eqb (digits_at s 13 j 0).to j) (eqb (get_or s (digits_at s 13 j 0).to 0) 10) refl refl h q t

  -- a byte that is read and is no line feed
  read_on : (r r2 : Reading) (i b : ℕ) → i < length s → get_or s i 0 ≡ b → (b ≡ 10 → ⊥) → read_byte r b ≡ r2
      → got_of r (drop i s) i ≡ got_of r2 (drop (i + 1) s) (i + 1)
  read_on r r2 i b h e n g = got_byte r s i h (λ x. n (sym e ∙ x)) ∙ ap (λ (x : Reading). got_of x (drop (i + 1) s) (i + 1)) (ap (read_byte r) e ∙ g)

  read_to : (r r2 : Reading) (i j b : ℕ) → i < length s → i + 1 ≡ j → get_or s i 0 ≡ b → (b ≡ 10 → ⊥) → read_byte r b ≡ r2
      → got_of r (drop i s) i ≡ got_of r2 (drop j s) j
  read_to r r2 i j b h z e n g = read_on r r2 i b h e n g ∙ ap (λ (x : ℕ). got_of r2 (drop x s) x) z

  -- the letter and the spaces
  words : (i : ℕ) → has_words s i ≡ true
      → (get_or s i 0 ≡ 0x42) × (get_or s (i + 1) 0 ≡ 0x20) × (get_or s (i + 3) 0 ≡ 0x20) × (get_or s (i + 6) 0 ≡ 0x20)
  unfolding has_words
  words i e =
      let p = and_split (eqb (get_or s i 0) 0x42 && eqb (get_or s (i + 1) 0) 0x20 && eqb (get_or s (i + 3) 0) 0x20) (eqb (get_or s (i + 6) 0) 0x20) e in
      let q = and_split (eqb (get_or s i 0) 0x42 && eqb (get_or s (i + 1) 0) 0x20) (eqb (get_or s (i + 3) 0) 0x20) p.0 in
      let o = and_split (eqb (get_or s i 0) 0x42) (eqb (get_or s (i + 1) 0) 0x20) q.0 in
      (eqb-true _ _ o.0, eqb-true _ _ o.1, eqb-true _ _ q.1, eqb-true _ _ p.1)

  -- ---- both times
  times_by : (j : ℕ) (side : Side) (value : ℕ) (a b : Bool) → eqb (digits_at s 13 j 0).to j ≡ a → eqb (get_or s (digits_at s 13 j 0).to 0) 0x20 ≡ b
      → j + 28 ≤ length s → (q : Row) → times_at s j side value ≡ Some q
      → got_of (at Byte side value 0 0 0 Start) (drop j s) j ≡ row_got q
  unfolding times_at
  times_by j side value true b ea eb h q t = absurd (none-some q (rw ea at t))
  times_by j side value false false ea eb h q t = absurd (none-some q (rw (ea, eb) at t))
  times_by j side value false true ea eb h q t =
      let w = digits_within s 13 j 0 in
      let n : (digits_at s 13 j 0).to ≡ j → ⊥ = eqb-false _ _ ea in
      let t2 = rw (ea, eb) at t in
      digits_got (λ n c. at Byte side value n 0 c Start) (takes_start Byte side value) s 13 j 0 0 (omega arith) (omega arith) (omega arith)
      ∙ (read_on _ (at Byte side value (digits_at s 13 j 0).value 0 0 End) (digits_at s 13 j 0).to 0x20 (omega (arith, w.1)) (eqb-true _ _ eb) (λ x. omega arith)
      (start_over Byte side value _ _ (some w.0 n))
      ∙ second_got _ _ side value (omega (arith, w.1)) q t2)

  times_got : (j : ℕ) (side : Side) (value : ℕ) → j + 28 ≤ length s → (q : Row) → times_at s j side value ≡ Some q
      → got_of (at Byte side value 0 0 0 Start) (drop j s) j ≡ row_got q
  times_got j side value h q t =
      times_by j side value (eqb (digits_at s 13 j 0).to j) (eqb (get_or s (digits_at s 13 j 0).to 0) 0x20) refl refl h q t

  -- ---- the line
  row_by : (r : Reading) (i : ℕ) (a b c d : Bool) → has_words s i ≡ a → same_side (side_by (get_or s (i + 2) 0)) Nobody ≡ b
      → ltb 15 (hex_of (get_or s (i + 4) 0)) ≡ c → ltb 15 (hex_of (get_or s (i + 5) 0)) ≡ d
      → is_empty r ≡ true → i + 36 ≤ length s → (q : Row) → row_at s i ≡ Some q → got_of r (drop i s) i ≡ row_got q
  unfolding row_at
  row_by r i false b c d ea eb ec ed e h q t = absurd (none-some q (rw ea at t))
  row_by r i true true c d ea eb ec ed e h q t = absurd (none-some q (rw (ea, eb) at t))
  row_by r i true false true d ea eb ec ed e h q t = absurd (none-some q (rw (ea, eb, ec) at t))
  row_by r i true false false true ea eb ec ed e h q t = absurd (none-some q (rw (ea, eb, ec, ed) at t))
  row_by r i true false false false ea eb ec ed e h q t =
      let t2 = rw (ea, eb, ec, ed) at t in
      let w = words i ea in
      let side = side_by (get_or s (i + 2) 0) in
      let high = hex_of (get_or s (i + 4) 0) in
      let low = hex_of (get_or s (i + 5) 0) in
      read_on r _ i 0x42 (omega arith) w.0 (λ x. omega arith) (letter_read r e)
      ∙ (read_to _ _ (i + 1) (i + 2) 0x20 (omega arith) (omega arith) w.1 (λ x. omega arith) space_side
      ∙ (read_to _ _ (i + 2) (i + 3) _ (omega arith) (omega arith) refl (side_fed _ eb) (side_read _ eb)
      ∙ (read_to _ _ (i + 3) (i + 4) 0x20 (omega arith) (omega arith) w.2 (λ x. omega arith) (space_hex side)
      ∙ (read_to _ _ (i + 4) (i + 5) _ (omega arith) (omega arith) refl (hex_fed _ ec) (high_read_lem side _ ec)
      ∙ (read_to _ _ (i + 5) (i + 6) _ (omega arith) (omega arith) refl (hex_fed _ ed) (low_read_lem side high _ (ltb-false 15 high ec) ed)
      ∙ (read_to _ _ (i + 6) (i + 7) 0x20 (omega arith) (omega arith) w.3 (λ x. omega arith) (space_start side (high * 16 + low))
      ∙ times_got (i + 7) side (high * 16 + low) (omega arith) q t2))))))

  row_got_lem : (r : Reading) (i : ℕ) → is_empty r ≡ true → i + 36 ≤ length s → (q : Row) → row_at s i ≡ Some q → got_of r (drop i s) i ≡ row_got q
  row_got_lem r i e h q t =
      row_by r i (has_words s i) (same_side (side_by (get_or s (i + 2) 0)) Nobody) (ltb 15 (hex_of (get_or s (i + 4) 0))) (ltb 15 (hex_of (get_or s (i + 5) 0)))
      refl refl refl refl e h q t

  line_by : (r : Reading) (i : ℕ) (b : Bool) → leb (i + 36) (length s) ≡ b → is_empty r ≡ true → (q : Row) → row_of s i ≡ Some q → got_of r (drop i s) i ≡ row_got q
  unfolding row_of
  line_by r i false f e q t = absurd (none-some q (rw f at t))
  line_by r i true f e q t = row_got_lem r i e (leb-true (i + 36) (length s) f) q (rw f at t)

  -- A BYTE'S LINE READ AT ONCE: where it gives a line, its bytes one by one give the same
  pub row_line : (r : Reading) (i : ℕ) → is_empty r ≡ true → (q : Row) → row_of s i ≡ Some q → got_of r (drop i s) i ≡ row_got q
  row_line r i e q t = line_by r i (leb (i + 36) (length s)) refl e q t
