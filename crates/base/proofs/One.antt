-- One result: a promise that is an equation is met by one value only. Each public function's own theorem is a use of one of these two.
-- Assumes nothing.
use mathlib.Core.Path.{◌≡◌, sym, ◌∙◌}

-- any two values that meet the promise P are equal
abbrev pub Only : {A : Type 0} → (A → Type 0) → Type 0
Only {A} P = (x y : A) → P x → P y → x ≡ y

pub only : {A : Type 0} (z : A) → Only (λ (x : A). x ≡ z)
only z x y p q = p ∙ sym q

-- the same of a result and the memory that it leaves, where the promise fixes both
pub only_both : {A B : Type 0} {P : A × B → Type 0} (a : A) (b : B) → ((x : A × B) → P x → (x.0 ≡ a) × (x.1 ≡ b)) → Only P
only_both a b h x y p q i = (((h x p).0 ∙ sym (h y q).0) i, ((h x p).1 ∙ sym (h y q).1) i)
