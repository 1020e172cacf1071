-- Laws of bytes by their hex digits: read two digits at a time, and written so. Assumes nothing.
use Prim.Native.Nat.{ℕ, zero, suc, ◌+◌, ◌*◌, ◌-◌, ◌≤◌, ◌<◌}
use mathlib.Core.Path.{◌≡◌, refl, sym, ◌∙◌, ap}
use mathlib.Core.Bool.{Bool, true, false, false≢true}
use mathlib.Core.List.{List, [], ◌∷◌, ◌++◌, append_assoc}
use lib.Dec.{eqb}
use borrow.Author.Tests.{eqb-true, eq-eqb}
use lib.ListN.{length, get_or, take, drop, set, length-append, length-drop, length-set}
use lib.Seq.{take-suc, take-length, get_or-drop, length-take-le}
use native.Mathlib.Omega.{arith}
use native.Mathlib.Numerals.{add-one}
use Rattle.std.specs.List.{prefix_len}
use Rattle.std.proofs.lemmas.List.Sums.{prefix_len_passes}
use Rattle.std.specs.Prelude.{Some, None, ◌&&◌, if◌then◌else◌}
use Rattle.words.specs.Digits.{is_digit, is_capital, hex_of, raised_of, either_of, is_hex, pair_of, front_byte, high_of, low_of}
use Rattle.words.specs.Reading.{pairs}
use Rattle.words.specs.Writing.{hex_text, bytes_text, put, Writes, Puts}
use Rattle.words.proofs.Written.{put_one, put_put, length_put, put_nil}

-- one byte more after a text
pub put_on : (at : ℕ) (p out : List ℕ) (i x : ℕ) → i ≡ at + length p → i < length out → set (put at p out) i x ≡ put at (p ++ (x ∷ [])) out
put_on at p out i x e h =
    rw e (put_one (put at p out) (at + length p) x (omega (arith, length_put at p out (omega arith))) ∙ put_put at p (x ∷ []) out (omega arith))

-- ---- read
no_digit : (t : Bool) (x : ℕ) → None ≡ (if t && false then Some x else None)
no_digit true x = refl
no_digit false x = refl

pub byte_short : (s : List ℕ) → length s < 2 → None ≡ front_byte s
unfolding front_byte is_hex either_of raised_of hex_of is_digit is_capital
byte_short [] h = refl
byte_short (b ∷ []) h = no_digit (is_hex b) (pair_of b 0)
byte_short (b ∷ c ∷ s) h = absurd (omega arith)

pub length_pairs : (k : ℕ) (d : List ℕ) → length (pairs k d) ≡ k
unfolding pairs
length_pairs zero d = refl
length_pairs (suc k) d = rw (length-append, length_pairs k d) (omega arith)

pairs_on : (k : ℕ) (d : List ℕ) → pairs (k + 1) d ≡ pairs k d ++ (pair_of (get_or d (2 * k) 0) (get_or d (2 * k + 1) 0) ∷ [])
unfolding pairs
pairs_on k d = rw add-one

-- two digits of a run of them are a byte
pub byte_there : (s : List ℕ) (i n : ℕ) → n ≡ length s - 2 * i → 2 * i + 1 < prefix_len is_hex s
    → front_byte (take n (drop (2 * i) s)) ≡ Some (pair_of (get_or s (2 * i) 0) (get_or s (2 * i + 1) 0))
unfolding front_byte
byte_there s i n e h =
    let p = prefix_len_passes is_hex s (2 * i) 0 (omega arith) in
    let q = prefix_len_passes is_hex s (2 * i + 1) 0 h in
    let z : 2 * i + 0 ≡ 2 * i = omega arith in
    let l : length (drop (2 * i) s) ≡ n = omega (arith, length-drop (2 * i) s) in
    rw (← l, take-length (drop (2 * i) s), get_or-drop (2 * i) s 0 0, get_or-drop (2 * i) s 1 0, z, p, q)

pub decoded_on : (s out₀ out : List ℕ) (k i x : ℕ) → i < k → k ≤ length out₀ → out ≡ put 0 (pairs i s) out₀
    → x ≡ pair_of (get_or s (2 * i) 0) (get_or s (2 * i + 1) 0) → set out i x ≡ put 0 (pairs (i + 1) s) out₀
decoded_on s out₀ out k i x h l e ex =
    rw (e, ex, pairs_on i s)
    (put_on 0 (pairs i s) out₀ i (pair_of (get_or s (2 * i) 0) (get_or s (2 * i + 1) 0)) (omega (arith, length_pairs i s)) (omega arith))

-- ---- written
pub length_hex : (s : List ℕ) → length (hex_text s) ≡ 2 * length s
unfolding hex_text
length_hex [] = refl
length_hex (x ∷ xs) = let e = length_hex xs in omega (arith, e)

hex_append : (a b : List ℕ) → hex_text (a ++ b) ≡ hex_text a ++ hex_text b
unfolding hex_text
hex_append [] b = refl
hex_append (x ∷ a) b = ap (λ l. high_of x ∷ low_of x ∷ l) (hex_append a b)

hex_one : (x : ℕ) → hex_text (x ∷ []) ≡ high_of x ∷ low_of x ∷ []
unfolding hex_text
hex_one x = refl

hex_on : (s : List ℕ) (i : ℕ) → i < length s → hex_text (take (i + 1) s) ≡ hex_text (take i s) ++ (high_of (get_or s i 0) ∷ low_of (get_or s i 0) ∷ [])
hex_on s i h = rw (add-one, take-suc s i 0 h, hex_append (take i s) (get_or s i 0 ∷ []), hex_one (get_or s i 0))

pub spelled_on : (s out₀ out : List ℕ) (at i g l : ℕ) → i < length s → at + 2 * length s ≤ length out₀ → out ≡ put at (hex_text (take i s)) out₀
    → g ≡ high_of (get_or s i 0) → l ≡ low_of (get_or s i 0) → set (set out (at + 2 * i) g) (at + 2 * i + 1) l ≡ put at (hex_text (take (i + 1) s)) out₀
spelled_on s out₀ out at i g l h r e eg el =
    let p = hex_text (take i s) in
    let len : length p ≡ 2 * i = length_hex (take i s) ∙ rw (length-take-le i s (omega arith)) in
    let one = put_on at p out₀ (at + 2 * i) g (omega (arith, len)) (omega arith) in
    let two = put_on at (p ++ (g ∷ [])) out₀ (at + 2 * i + 1) l (rw (length-append p (g ∷ []), len) (omega arith)) (omega arith) in
    rw (e, hex_on s i h, ← eg, ← el, one) (two ∙ rw (append_assoc p (g ∷ []) (l ∷ [])))

-- any bytes, and one byte after them
pub bytes_some : (s : List ℕ) (b : ℕ) → (length s ≡ 0 → ⊥) → bytes_text s b ≡ hex_text s ++ (b ∷ [])
unfolding bytes_text
bytes_some [] b h = absurd (h refl)
bytes_some (x ∷ s) b h = refl

pub bytes_none : (s : List ℕ) (b : ℕ) → length s ≡ 0 → bytes_text s b ≡ 45 ∷ b ∷ []
unfolding bytes_text
bytes_none [] b h = refl
bytes_none (x ∷ s) b h = absurd (omega arith)

-- nothing of them
pub hex_none : (at : ℕ) (s out : List ℕ) → out ≡ put at (hex_text (take 0 s)) out
unfolding hex_text
hex_none at s out = sym (put_nil at out)

pub hex_puts : (at : ℕ) (s : List ℕ) (b : ℕ) (out o1 : List ℕ) → at + (2 * length s + 1) ≤ length out → o1 ≡ put at (hex_text s) out
    → Puts at (hex_text s ++ (b ∷ [])) (2 * length s + 1) out (at + 2 * length s + 1) (set o1 (at + 2 * length s) b)
hex_puts at s b out o1 h e =
    let l = length_hex s in
    let p = put_on at (hex_text s) out (at + 2 * length s) b (omega (arith, l)) (omega arith) in
    record {
      place = rw (length-append, l) (omega arith);
      small = rw (length-append, l) (omega arith);
      memory = rw e p;
      kept = rw e (length-set (put at (hex_text s) out) (at + 2 * length s) b ∙ length_put at (hex_text s) out (omega (arith, l)));
    }

-- the two of them, with and without room
pub some_bytes : (at : ℕ) (s : List ℕ) (b : ℕ) (out : List ℕ) (r : ℕ) (after : List ℕ) → eqb (length s) 0 ≡ false → Writes (hex_text s ++ (b ∷ [])) (2 * length s + 1) at out r after
    → Writes (bytes_text s b) (length (bytes_text s b)) at out r after
some_bytes at s b out r after h w =
    let e : length (hex_text s ++ (b ∷ [])) ≡ 2 * length s + 1 = rw (length-append, length_hex s) in
    rw (bytes_some s b (λ z. absurd (false≢true (sym h ∙ eq-eqb (length s) 0 z))), e) w

pub no_bytes : (at : ℕ) (s : List ℕ) (b : ℕ) (out : List ℕ) (r : ℕ) (after : List ℕ) → eqb (length s) 0 ≡ true → Writes (45 ∷ b ∷ []) 2 at out r after
    → Writes (bytes_text s b) (length (bytes_text s b)) at out r after
no_bytes at s b out r after h w = rw (bytes_none s b (eqb-true (length s) 0 h)) w
