-- The answers of building and reading in the paper's numbers (document 01, "Numbers a caller may get back"): the number, 0 where it is taken, and what was
-- built or read. "Beside a refusal every other number is 0". Assumes nothing.
use Rattle.std.specs.Prelude.{ℕ}
use Rattle.keys.specs.declared.Form.{Form}

-- of building: the number, and the frame's length
pub record Built : Type 0 where
  pub no : ℕ
  pub len : ℕ

-- of what the front of a slice says of a frame that starts there: the number, the form, where the data starts and how long it is
pub record Laid : Type 0 where
  pub no : ℕ
  pub form : Form
  pub start : ℕ
  pub len : ℕ

-- of reading: the number, the form and the addresses, and where in the slice the data starts and how long it is
pub record Reading : Type 0 where
  pub no : ℕ
  pub form : ℕ
  pub target : ℕ
  pub source : ℕ
  pub start : ℕ
  pub len : ℕ
