-- Any two results that meet a public function's promise are equal. Assumes nothing.
use mathlib.Core.Path.{◌≡◌, sym, ◌∙◌}
use mathlib.Core.Bool.{Bool}
use Rattle.std.specs.Prelude.{Result}
use Rattle.base.specs.declared.Refusal.{Refusal}
use Rattle.base.proofs.One.{Only, only}
use Rattle.keys.specs.declared.Pair.{Pair}
use Rattle.units.specs.declared.Micros.{Micros}
use Rattle.timing.specs.Timing.{until_time, no_limit, is_unlimited, time_of, is_passed, set_of, answer_decoded, decoded_of, answer_encoded, encoded_of}
use Rattle.timing.specs.declared.Limit.{Limit}
use Rattle.timing.specs.declared.Windows.{Windows}
use Rattle.timing.specs.declared.Codes.{Codes}
use Rattle.timing.proofs.Answers.{one_decoded, one_encoded}

pub until : (m : Micros) → Only (λ (r : Limit). r ≡ until_time m)
until m = only (until_time m)

pub no_limit_lem : Only (λ (r : Limit). r ≡ no_limit)
no_limit_lem = only no_limit

pub is_unlimited_lem : (l : Limit) → Only (λ (r : Bool). r ≡ is_unlimited l)
is_unlimited_lem l = only (is_unlimited l)

pub time_of_lem : (l : Limit) → Only (λ (r : Micros). r ≡ time_of l)
time_of_lem l = only (time_of l)

pub passed : (l : Limit) (gap : Micros) → Only (λ (r : Bool). r ≡ is_passed l gap)
passed l gap = only (is_passed l gap)

pub set_of_lem : (pair : Pair) → Only (λ (r : Windows). r ≡ set_of pair)
set_of_lem pair = only (set_of pair)

pub windows_of : (c : Codes) → Only (λ (r : Result Windows Refusal). answer_decoded r ≡ decoded_of c)
windows_of c r s p q = one_decoded r s (p ∙ sym q)

pub codes_of : (w : Windows) → Only (λ (r : Result Codes Refusal). answer_encoded r ≡ encoded_of w)
codes_of w r s p q = one_encoded r s (p ∙ sym q)
