-- The answers on codes and on windows in the paper's numbers: the number, and what was asked for, all 0 beside a refusal (document 01, "Numbers a caller
-- may get back"). Assumes nothing.
use Rattle.std.specs.Prelude.{ℕ}
use Rattle.timing.specs.declared.Windows.{Windows}
use Rattle.timing.specs.declared.Codes.{Codes}

pub record Decoded : Type 0 where
  pub no : ℕ
  pub windows : Windows

pub record Encoded : Type 0 where
  pub no : ℕ
  pub codes : Codes
