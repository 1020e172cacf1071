-- How `put_head` and `write` put the parts of a frame one after another: each is a law over the buffers in between. Assumes nothing.
use mathlib.Core.Path.{◌≡◌, refl, sym, ap, ◌∙◌}
use mathlib.Core.List.{List, [], ◌∷◌, ◌++◌}
use Prim.Native.Nat.{ℕ, ◌+◌, ◌<◌}
use native.Mathlib.Omega.{arith}
use lib.ListN.{length, take, set}
use Rattle.std.specs.Prelude.{Option}
use Rattle.keys.specs.declared.Form.{Form}
use Rattle.frame.specs.Layout.{addresses_of, extra_of, address_count, head_size, head_of, top_bits, low_bits, checksum_of, body_of, frame_of}
use Rattle.frame.specs.Build.{put, over}
use Rattle.frame.specs.declared.Place.{Place}
use Rattle.frame.proofs.Lists.{stored, over_front, put_over}
use Rattle.frame.proofs.Sizes.{address_length, head_length, body_length}

-- one byte stored is one byte put
pub stored_one : (at x : ℕ) (out : List ℕ) → at < length out → set out at x ≡ put at (x ∷ []) out
stored_one at x out h = stored at (x ∷ []) out (omega arith)

-- the head: format byte, addresses, extra length byte
pub head_written : (form : Form) (place : Option Place) (t s n : ℕ) (out o1 o2 : List ℕ) (f a : ℕ) → 0 < length out → f ≡ top_bits form + low_bits place n
    → o1 ≡ put 1 (addresses_of form t s) (set out 0 f) → a ≡ 1 + address_count form → o2 ≡ put a (extra_of place n) o1
    → o2 ≡ over (head_of form place t s n) out
unfolding head_of over
head_written form place t s n out o1 o2 f a some ef e1 ea e2 =
    let p1 : o1 ≡ over (f ∷ addresses_of form t s) out = e1 ∙ put_over (f ∷ []) (addresses_of form t s) out (set out 0 f) 1 refl (stored_one 0 f out some) in
    e2 ∙ put_over (f ∷ addresses_of form t s) (extra_of place n) out o1 a (omega (arith, ea, address_length form t s)) p1
    ∙ ap (λ (k : ℕ). over (k ∷ (addresses_of form t s ++ extra_of place n)) out) ef

-- the frame: head, data, and the checksum of both
pub frame_written : (form : Form) (place : Option Place) (t s : ℕ) (bytes out o1 o2 : List ℕ) (h e x : ℕ) → h ≡ head_size form place
    → o1 ≡ over (head_of form place t s (length bytes)) out → o2 ≡ put h bytes o1 → e ≡ h + length bytes → x ≡ checksum_of (take e o2) → e < length o2
    → set o2 e x ≡ over (frame_of form place t s bytes) out
unfolding frame_of body_of
frame_written form place t s bytes out o1 o2 h e x eh e1 e2 ee ex lt =
    let hd = head_of form place t s (length bytes) in
    let p2 : o2 ≡ over (hd ++ bytes) out = e2 ∙ put_over hd bytes out o1 h (eh ∙ sym (head_length form place t s (length bytes))) e1 in
    let e_is : e ≡ length (hd ++ bytes) =
    ee ∙ ap (λ (k : ℕ). k + length bytes) eh ∙ sym (body_length form place t s bytes) in
    let x_is : x ≡ checksum_of (hd ++ bytes) = ex ∙ ap checksum_of (rw (p2, e_is) (over_front (hd ++ bytes) out)) in
    stored_one e x o2 lt ∙ put_over (hd ++ bytes) (x ∷ []) out o2 e e_is p2 ∙ ap (λ (k : ℕ). over ((hd ++ bytes) ++ (k ∷ [])) out) x_is
