-- The places for reports: which reports are listed, by their number n, and that one which finds a place becomes the last of the list. Assumes nothing.
use Prim.Native.Nat.{ℕ, ◌+◌, ◌≤◌, ◌<◌}
use mathlib.Core.Path.{◌≡◌, refl, ap}
use mathlib.Core.List.{List, [], ◌∷◌, ◌++◌}
use lib.Dec.{ltb}
use lib.ListN.{length, take, drop, get_or, length-take}
use borrow.Author.Tests.{lt-ltb, ltb-true}
use native.Mathlib.Omega.{arith}
use Rattle.std.proofs.lemmas.List.{take_all, take_more_set, get_or-take, at_drop_more, drop_all}
use Rattle.base.proofs.Tests.{by_test}
use Rattle.reports.specs.Reporting.{places, in_places, appended, listed}
use Rattle.reports.specs.declared.Report.{Report}
use Rattle.reports.specs.declared.Reports.{Reports}

-- ---- which reports are listed: so many as their number says, ..
pub listed_first : (rs : Reports) (k : ℕ) → rs.n ≡ k → listed rs ≡ take k (in_places rs)
unfolding listed
listed_first rs k e = ap (λ (m : ℕ). take m (in_places rs)) e

-- .. and all where it asks no further
pub listed_all : (rs : Reports) → places ≤ rs.n → listed rs ≡ in_places rs
unfolding listed
listed_all rs h = take_all rs.n (in_places rs) (omega (arith, rs.full, h))

-- never more than there are places, nor than their number
pub listed_few : (rs : Reports) → length (listed rs) ≤ places
unfolding listed
listed_few rs = rw (length-take) (omega arith)

pub listed_most : (rs : Reports) → length (listed rs) ≤ rs.n
unfolding listed
listed_most rs = rw (length-take) (omega arith)

-- ---- a walk over the places: what is left of the list at one that holds a report, and that nothing is left behind the last
pub left_more : {Y : Type 0} (F : List Report → Y) (rs : Reports) (i : ℕ) (d : Report) → i < rs.n → i < places
    → F (drop i (listed rs)) ≡ F (get_or rs.places i d ∷ drop (i + 1) (listed rs))
unfolding listed
left_more F rs i d h k =
    let long : i < length (take rs.n rs.places) = rw (length-take) (omega (arith, rs.full)) in
    rw (← (get_or-take rs.n rs.places i d h)) (at_drop_more F (take rs.n rs.places) i d long)

pub left_none : (rs : Reports) (i : ℕ) → rs.n ≤ i → drop i (listed rs) ≡ []
left_none rs i h = drop_all i (listed rs) (omega (arith, listed_most rs))

pub left_past : (rs : Reports) (i : ℕ) → places ≤ i → drop i (listed rs) ≡ []
left_past rs i h = drop_all i (listed rs) (omega (arith, listed_few rs))

-- ---- one report more
pub record Placed (rs : Reports) (x : Report) : Type 0 where
  pub last : listed (appended rs x) ≡ listed rs ++ (x ∷ [])
  pub more : (appended rs x).n ≡ rs.n + 1

-- a report that finds a place becomes the last of the list, ..
pub placed : (rs : Reports) (x : Report) → rs.n < places → Placed rs x
unfolding listed appended
placed rs x h =
    let room : rs.n < length rs.places = omega (arith, rs.full) in
    let t = lt-ltb rs.n places h in
    record { last = rw t (take_more_set rs.places rs.n x room); more = rw t refl }

placed_at : (ps : List Report) (full : length ps ≡ 4) (x : Report) (n : ℕ) → n < places → Placed (record { places = ps; n = n; full = full }) x
placed_at ps full x n h = placed (record { places = ps; n = n; full = full }) x h

-- .. and no more places are filled than there are
abbrev Few : Reports → Type 0
Few rs = rs.n ≤ places

pub appended_few : (rs : Reports) (x : Report) → rs.n ≤ places → (appended rs x).n ≤ places
unfolding appended
appended_few rs x h = by_test Few (ltb rs.n places) (λ t. omega (arith, ltb-true rs.n places t)) (λ _. h)
