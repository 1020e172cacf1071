-- A frame that was built is no longer than the buffer that was lent for it. Assumes nothing.
use mathlib.Core.Path.{◌≡◌}
use mathlib.Core.List.{List}
use Prim.Native.Nat.{ℕ, ◌≤◌}
use lib.ListN.{length}
use Rattle.std.specs.Prelude.{Ok}
use Rattle.frame.specs.Build.{built_as, Builds}
use Rattle.frame.specs.declared.Plan.{Plan}
use Rattle.frame.proofs.RoundTrip.{built_fits}

pub built_inside : (p : Plan) (bytes out : List ℕ) (n : ℕ) (after : List ℕ) → Builds p bytes out (built_as (Ok n)) after → length after ≡ length out → n ≤ length after
built_inside p bytes out n after b e = rw e (built_fits p bytes out _ after b)
