-- The status that a program ends with, by how it went. Assumes nothing.
use Rattle.std.specs.Prelude.{ℕ, Result, Ok, Err}
use Rattle.std.specs.IoError.{error_kind}
use Rattle.std.specs.declared.io.ErrorKind.{ErrorKind}
use Rattle.std.specs.declared.io.ErrorKind.TheVariants.{BrokenPipe}
use Rattle.failures.specs.declared.Failure.{Failure}
use Rattle.failures.specs.declared.Failure.TheVariants.{Input, Output}

-- of writing that failed: as a shell has it of a program that SIGPIPE, signal 13, ended, where nobody reads its output any more
abbrev pub written_status : ErrorKind → ℕ
written_status BrokenPipe = 141
written_status _ = 1

-- 0 where all went well
abbrev pub status_of : Result Unit Failure → ℕ
status_of (Ok _) = 0
status_of (Err (Input _)) = 1
status_of (Err (Output error)) = written_status (error_kind error)
