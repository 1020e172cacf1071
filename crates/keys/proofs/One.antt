-- Any two results that meet a public function's promise are equal. Assumes nothing.
use mathlib.Core.Path.{◌≡◌}
use mathlib.Core.Bool.{Bool}
use Prim.Native.Nat.{ℕ}
use Rattle.base.proofs.One.{Only, only}
use Rattle.keys.specs.Keys.{good_pair, length_in_format, extra_length, no_addresses, with_addresses, is_extended, takes_form}
use Rattle.keys.specs.Editions.{edition_of, is_car, is_quick, is_slow_pair}
use Rattle.keys.specs.declared.Form.{Form}
use Rattle.keys.specs.declared.Pair.{Pair}
use Rattle.keys.specs.declared.Edition.{Edition}

-- `Pair::is_good`
pub good_pair_lem : (kb1 kb2 : ℕ) → Only (λ (r : Bool). r ≡ good_pair kb1 kb2)
good_pair_lem kb1 kb2 = only (good_pair kb1 kb2)

-- the functions of KB1 alone
pub length_in_format_lem : (kb1 : ℕ) → Only (λ (r : Bool). r ≡ length_in_format kb1)
length_in_format_lem kb1 = only (length_in_format kb1)

pub extra_length_lem : (kb1 : ℕ) → Only (λ (r : Bool). r ≡ extra_length kb1)
extra_length_lem kb1 = only (extra_length kb1)

pub no_addresses_lem : (kb1 : ℕ) → Only (λ (r : Bool). r ≡ no_addresses kb1)
no_addresses_lem kb1 = only (no_addresses kb1)

pub with_addresses_lem : (kb1 : ℕ) → Only (λ (r : Bool). r ≡ with_addresses kb1)
with_addresses_lem kb1 = only (with_addresses kb1)

pub is_extended_lem : (kb1 : ℕ) → Only (λ (r : Bool). r ≡ is_extended kb1)
is_extended_lem kb1 = only (is_extended kb1)

pub takes_form_lem : (kb1 : ℕ) (form : Form) → Only (λ (r : Bool). r ≡ takes_form kb1 form)
takes_form_lem kb1 form = only (takes_form kb1 form)

-- `Pair::edition`, `is_car`, `is_quick` and `is_slow_from`
pub edition_of_lem : (pair : Pair) → Only (λ (r : Edition). r ≡ edition_of pair)
edition_of_lem pair = only (edition_of pair)

pub is_car_lem : (pair : Pair) → Only (λ (r : Bool). r ≡ is_car (edition_of pair))
is_car_lem pair = only (is_car (edition_of pair))

pub is_quick_lem : (pair : Pair) → Only (λ (r : Bool). r ≡ is_quick (edition_of pair))
is_quick_lem pair = only (is_quick (edition_of pair))

pub is_slow_pair_lem : (address : ℕ) (pair : Pair) → Only (λ (r : Bool). r ≡ is_slow_pair address pair)
is_slow_pair_lem address pair = only (is_slow_pair address pair)
