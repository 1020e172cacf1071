-- Bytes written into a buffer one after another, and sums of bytes. Assumes nothing.
use mathlib.Core.Path.{◌≡◌, sym, ap, ◌∙◌}
use mathlib.Core.List.{List, [], ◌∷◌, ◌++◌, append_assoc, append-nil}
use Prim.Native.Nat.{ℕ, ◌+◌, ◌-◌, ◌%◌, ◌<◌, ◌≤◌}
use native.Mathlib.Nat.{add-zero, zero-add, add_assoc}
use native.Mathlib.Omega.{arith}
use borrow.Rule.Slice.PartMut.{put_mid}
use lib.ListN.{length, take, drop, length-append, length-drop, take-append-drop, drop_of_length-le}
use lib.Seq.{sets, sets-eq, take-append_seam, drop-append-add, drop-drop, take_all, take-length}
use Rattle.std.specs.Prelude.{fold}
use Rattle.frame.specs.Layout.{total, checksum_of}
use Rattle.frame.specs.Build.{put, over}

-- stores one after another from an index on
pub stored : (at : ℕ) (vs out : List ℕ) → at + length vs ≤ length out → sets out at vs ≡ put at vs out
stored at vs out h = sets-eq vs out at h ∙ append_assoc (take at out) vs (drop (at + length vs) out)

-- nothing written leaves all as it was
pub put_nothing : (at : ℕ) (out : List ℕ) → out ≡ put at [] out
put_nothing at out = sym (ap (λ (k : ℕ). take at out ++ drop k out) (add-zero at) ∙ take-append-drop at out)

-- the front of what was written over
pub over_front : (p out : List ℕ) → take (length p) (over p out) ≡ p
unfolding over
over_front p out = take-append_seam p (drop (length p) out)

-- more bytes put after those written over the front
pub put_over : (p s out o : List ℕ) (at : ℕ) → at ≡ length p → o ≡ over p out → put at s o ≡ over (p ++ s) out
unfolding over
put_over p s out o at ea eo =
    rw (ea, eo, over_front p out)
    (ap (λ (l : List ℕ). p ++ (s ++ l)) (drop-append-add p (drop (length p) out) (length s) ∙ drop-drop (length s) (length p) out)
    ∙ sym (append_assoc p s (drop (length p + length s) out)) ∙ ap (λ (k : ℕ). (p ++ s) ++ drop k out) (sym (length-append p s)))

-- all of src copied to the part of out from h on that is as long
pub copied : (src out now : List ℕ) (h : ℕ) → now ≡ src → put_mid h (h + length src - h) out now ≡ put h src out
copied src out now h e =
    rw e (ap (λ (l : List ℕ). take h out ++ (src ++ l)) (drop-drop (h + length src - h) h out ∙ ap (λ (k : ℕ). drop k out) (omega arith)))

-- the same of a part that goes on to the end: what is behind src stays
pub copied_over : (src out last : List ℕ) (h : ℕ) → h + length src ≤ length out
    → last ≡ take (length src) src ++ drop (length src) (take (length out - h) (drop h out)) → put_mid h (length out - h) out last ≡ put h src out
copied_over src out last h fits e =
    rw (
      e,
      take-length src,
      take_all (length out - h) (drop h out) (omega (arith, length-drop h out)),
      drop-drop (length src) h out,
      drop-drop (length out - h) h out,
    )
    (ap (λ (l : List ℕ). take h out ++ l) (append_assoc src (drop (h + length src) out) (drop (h + (length out - h)) out)
    ∙ ap (λ (l : List ℕ). src ++ l) (rest (drop (h + length src) out) (h + (length out - h)) (omega arith))))
  where
    rest : (l : List ℕ) (k : ℕ) → length out ≤ k → l ++ drop k out ≡ l
    rest l k g = rw (drop_of_length-le out {i = k} g) (append-nil l)

-- sums
pub total_append : (a b : List ℕ) → total (a ++ b) ≡ total a + total b
unfolding total
total_append [] b = sym (zero-add (total b))
total_append (x ∷ a) b = ap (λ (k : ℕ). x + k) (total_append a b) ∙ sym (add_assoc x (total a) (total b))

-- the sum modulo 256, byte by byte
total_folds : (s : List ℕ) (a : ℕ) → fold (λ (sum x : ℕ). (sum + x) % 256) a s % 256 ≡ (a + total s) % 256
unfolding total
total_folds [] a = ap (λ (k : ℕ). k % 256) (sym (add-zero a))
total_folds (x ∷ s) a = total_folds s ((a + x) % 256) ∙ omega arith

small_folds : (s : List ℕ) (a : ℕ) → a < 256 → fold (λ (sum x : ℕ). (sum + x) % 256) a s < 256
small_folds [] a h = h
small_folds (x ∷ s) a h = small_folds s ((a + x) % 256) (omega arith)

pub checksum_folds : (s : List ℕ) → fold (λ (sum x : ℕ). (sum + x) % 256) 0 s ≡ checksum_of s
unfolding checksum_of
checksum_folds s = omega (arith, total_folds s 0, small_folds s 0 (omega arith))
