-- Laws of a line out of a part. Assumes nothing.
use Rattle.std.proofs.Common.{◌≡◌, ℕ, suc, ◌+◌, ◌<◌, ◌≤◌, List, length, get_or, drop, arith, drop_of_length-le, drop-cons, eq-eqb, ne_eqb}
use Rattle.lines.specs.Lines.{read_byte}
use Rattle.lines.specs.Getting.{got_of, ended, cut_off}
use Rattle.lines.specs.declared.Reading.{Reading}

-- a line feed ends the line
pub got_feed : (r : Reading) (s : List ℕ) (i : ℕ) → i < length s → get_or s i 0 ≡ 10 → got_of r (drop i s) i ≡ ended r (i + 1)
unfolding got_of
got_feed r s i h e = rw (drop-cons s i 0 h, eq-eqb (get_or s i 0) 10 e)

-- any other byte is read
pub got_byte : (r : Reading) (s : List ℕ) (i : ℕ) → i < length s → (get_or s i 0 ≡ 10 → ⊥) → got_of r (drop i s) i ≡ got_of (read_byte r (get_or s i 0)) (drop (i + 1) s) (i + 1)
unfolding got_of
got_byte r s i h e = let z : i + 1 ≡ suc i = omega arith in rw (drop-cons s i 0 h, ne_eqb (get_or s i 0) 10 e, z)

-- the part's end
pub got_cut : (r : Reading) (s : List ℕ) (i : ℕ) → length s ≤ i → got_of r (drop i s) i ≡ cut_off r i
unfolding got_of
got_cut r s i h = rw (drop_of_length-le s {i = i} h)
