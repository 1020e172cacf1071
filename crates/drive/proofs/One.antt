-- Any two results that meet a public function's promise are equal. Assumes nothing.
use mathlib.Core.Path.{◌≡◌}
use Prim.Native.Nat.{ℕ}
use mathlib.Core.List.{List}
use Rattle.base.proofs.One.{Only, only}
use Rattle.drive.specs.Drive.{digest_of}

pub wendrika_drive : (s : List ℕ) → Only (λ (r : ℕ). r ≡ digest_of s)
wendrika_drive s = only (digest_of s)
