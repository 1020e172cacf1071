-- A buffer that a question lends (in quotation marks: README, "Questions"). Assumes nothing.
use Rattle.std.specs.Prelude.{ℕ, Bool, List, eqb}
use Rattle.std.specs.List.{list_all}

-- "filled with EE before the call"
abbrev pub filling : ℕ
filling = 0xEE

-- no byte that is not EE any more
abbrev pub is_untouched : List ℕ → Bool
is_untouched s = list_all (λ b. eqb b filling) s
