-- What `read_of` names lies within the slice. Assumes nothing.
use mathlib.Core.Bool.{not}
use mathlib.Core.Path.{◌≡◌, sym, subst}
use Rattle.std.specs.Prelude.{Ok}
use mathlib.Core.List.{List}
use Prim.Native.Nat.{ℕ, ◌+◌, ◌≤◌}
use native.Mathlib.Omega.{arith}
use borrow.Author.Tests.{eqb-true, not-false}
use lib.Dec.{eqb}
use lib.ListN.{length, get_or, take}
use Rattle.base.specs.Numbers.{taken, bad_keys, bad_length, bad_checksum}
use Rattle.base.proofs.Tests.{by_test}
use Rattle.keys.specs.Keys.{good_pair}
use Rattle.frame.specs.Layout.{checksum_of}
use Rattle.frame.specs.Read.{laid_of, not_read, read_as, judged, read_of}
use Rattle.frame.specs.declared.Frame.{Frame}
use Rattle.frame.specs.Answers.{Laid, Reading}

pub record Within (s : List ℕ) (r : Reading) : Type 0 where
  pub within : r.start + r.len ≤ length s

nothing : (s : List ℕ) (k : ℕ) → Within s (not_read k)
nothing s k = record { within = omega arith }

judged_within : (s : List ℕ) (l : Laid) → Within s (judged s l)
unfolding judged
judged_within s l =
    by_test (Within s) (not (eqb l.no taken)) (λ _. nothing s l.no)
    (λ _. by_test (Within s) (not (eqb (length s) (l.start + l.len + 1))) (λ _. nothing s bad_length)
    (λ e. by_test (Within s) (not (eqb (checksum_of (take (l.start + l.len) s)) (get_or s (l.start + l.len) 0))) (λ _. nothing s bad_checksum)
    (λ _. record { within = let h = eqb-true (length s) (l.start + l.len + 1) (not-false (eqb (length s) (l.start + l.len + 1)) e) in omega arith })))

pub read_within : (kb1 kb2 : ℕ) (s : List ℕ) → Within s (read_of kb1 kb2 s)
unfolding read_of
read_within kb1 kb2 s = by_test (Within s) (not (good_pair kb1 kb2)) (λ _. nothing s bad_keys) (λ _. judged_within s (laid_of kb1 s))

-- so the data of a frame that was read does
pub read_inside : (kb1 kb2 : ℕ) (s : List ℕ) (f : Frame) → read_as (Ok f) ≡ read_of kb1 kb2 s → f.start + f.len ≤ length s
read_inside kb1 kb2 s f e = (subst (Within s) (sym e) (read_within kb1 kb2 s)).within
