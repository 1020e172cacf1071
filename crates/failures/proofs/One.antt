-- Any two results that meet the promise of `end` are equal. Assumes nothing.
use Rattle.std.proofs.Common.{◌≡◌, ℕ, Result, sym, ◌∙◌, ap}
use Rattle.std.specs.Process.{exit_status}
use Rattle.std.specs.declared.process.ExitCode.{ExitCode}
use Rattle.failures.specs.Statuses.{status_of}
use Rattle.failures.specs.declared.Failure.{Failure}

pub end : (outcome : Result Unit Failure) (x y : ExitCode) → exit_status x ≡ status_of outcome → exit_status y ≡ status_of outcome → x ≡ y
end outcome x y p q = let f = λ (s : ℕ). let e : ExitCode = record { status = s } in e in ap f (p ∙ sym q)
