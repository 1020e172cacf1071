-- Reports one after another, from the first byte on: each one's index is the number of bytes named before it, and the bytes that they name are
-- those up to where the last ended.
-- Assumes nothing.
use Prim.Native.Nat.{ℕ, ◌+◌, ◌-◌, ◌≤◌}
use mathlib.Core.List.{List, ◌++◌}
use mathlib.Core.Path.{◌≡◌}
use native.Mathlib.Nat.{sub_self}
use native.Mathlib.Omega.{arith}
use lib.ListN.{take, drop}
use lib.Seq.{drop-drop, take-add}
use Rattle.reports.specs.declared.Report.{Report}
use Rattle.demands.specs.Accounts.{named_by, all_named, InTurn, named_in}
use Rattle.demands.proofs.Histories.Tiling.{Tiled, end, next}

pub tiled_turns : {n m : ℕ} {xs : List Report} → Tiled n xs m → InTurn n xs
tiled_turns end = InTurn.none
tiled_turns (next e f t) = InTurn.behind e (tiled_turns t)

pub tiled_order : {n m : ℕ} {xs : List Report} → Tiled n xs m → n ≤ m
tiled_order end = omega arith
tiled_order (next e f t) = omega (arith, tiled_order t)

-- two parts of a list, one after another, are one
joined : (n b m : ℕ) (heard : List ℕ) → n + b ≤ m → take b (drop n heard) ++ take (m - (n + b)) (drop (n + b) heard) ≡ take (m - n) (drop n heard)
joined n b m heard h =
    let e : b + (m - (n + b)) ≡ m - n = omega arith in
    rw (← (drop-drop b n heard), ← (take-add b (m - (n + b)) (drop n heard)), e)

pub tiled_names : (heard : List ℕ) {n m : ℕ} {xs : List Report} → Tiled n xs m → all_named heard xs ≡ take (m - n) (drop n heard)
unfolding all_named named_by
tiled_names heard (end {n = n}) = rw (sub_self n)
tiled_names heard (next {n = n} {m = m} {x = x} e f t) =
    rw (e, tiled_names heard t) (joined n x.bytes m heard (tiled_order t))

-- how many they name
pub tiled_named : {n m : ℕ} {xs : List Report} → Tiled n xs m → n + named_in xs ≡ m
unfolding named_in
tiled_named end = omega arith
tiled_named (next e f t) = omega (arith, tiled_named t)
