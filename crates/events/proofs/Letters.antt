-- A letter gives a kind, or a side, exactly if it is that one's letter: each letter gives back its case, and no other letter does. Assumes nothing.
use mathlib.Core.Path.{◌≡◌, refl, sym, ap, ◌∙◌}
use mathlib.Core.Bool.{true, false, true≢false}
use mathlib.Core.Logic.{◌↔◌}
use mathlib.Core.Option.{some, some-injective, none-ne-some}
use Prim.Native.Nat.{ℕ}
use borrow.Author.Tests.{eqb-true}
use lib.Dec.{eqb}
use Rattle.base.proofs.Tests.{by_test}
use Rattle.events.specs.Events.{kind_letter, side_letter, kind_by, side_by, is_other, is_nobody}
use Rattle.events.specs.declared.Kind.{Kind}
use Rattle.events.specs.declared.Kind.TheVariants.{Address, WakeUp, Byte, Tick, Drop, Other}
use Rattle.events.specs.declared.Side.{Side}
use Rattle.events.specs.declared.Side.TheVariants.{Tester, Unit, Nobody}

-- a kind's letter gives the kind
kind_back : (k : Kind) (letter : ℕ) → kind_letter k ≡ some letter → (kind_by letter ≡ k) × (is_other k ≡ false)
unfolding kind_by is_other
kind_back Address letter e = rw (sym (some-injective 0x41 letter e)) (refl, refl)
kind_back WakeUp letter e = rw (sym (some-injective 0x57 letter e)) (refl, refl)
kind_back Byte letter e = rw (sym (some-injective 0x42 letter e)) (refl, refl)
kind_back Tick letter e = rw (sym (some-injective 0x54 letter e)) (refl, refl)
kind_back Drop letter e = rw (sym (some-injective 0x44 letter e)) (refl, refl)
kind_back Other letter e = absurd (none-ne-some letter e)

-- and a letter that gives one of the five is its letter
kind_only : (letter : ℕ) → is_other (kind_by letter) ≡ false → kind_letter (kind_by letter) ≡ some letter
unfolding kind_by is_other
kind_only letter =
    by_test Lettered (eqb letter 0x41) (λ e _. is 0x41 e)
    (λ _. by_test Lettered (eqb letter 0x57) (λ e _. is 0x57 e)
    (λ _. by_test Lettered (eqb letter 0x42) (λ e _. is 0x42 e)
    (λ _. by_test Lettered (eqb letter 0x54) (λ e _. is 0x54 e)
    (λ _. by_test Lettered (eqb letter 0x44) (λ e _. is 0x44 e) (λ _ h. absurd (true≢false h))))))
  where
    Lettered : Kind → Type 0
    Lettered k = is_other k ≡ false → kind_letter k ≡ some letter

    is : (k : ℕ) → eqb letter k ≡ true → some k ≡ some letter
    is k e = ap some (sym (eqb-true letter k e))

-- A LETTER GIVES A KIND EXACTLY IF IT IS THE KIND'S LETTER
pub kind_exactly : (k : Kind) (letter : ℕ) → (kind_letter k ≡ some letter) ↔ ((kind_by letter ≡ k) × (is_other k ≡ false))
kind_exactly k letter = (kind_back k letter, λ h. ap kind_letter (sym h.0) ∙ kind_only letter (ap is_other h.0 ∙ h.1))

side_back : (s : Side) (letter : ℕ) → side_letter s ≡ some letter → (side_by letter ≡ s) × (is_nobody s ≡ false)
unfolding side_by is_nobody
side_back Tester letter e = rw (sym (some-injective 0x74 letter e)) (refl, refl)
side_back Unit letter e = rw (sym (some-injective 0x65 letter e)) (refl, refl)
side_back Nobody letter e = absurd (none-ne-some letter e)

side_only : (letter : ℕ) → is_nobody (side_by letter) ≡ false → side_letter (side_by letter) ≡ some letter
unfolding side_by is_nobody
side_only letter =
    by_test Lettered (eqb letter 0x74) (λ e _. ap some (sym (eqb-true letter 0x74 e)))
    (λ _. by_test Lettered (eqb letter 0x65) (λ e _. ap some (sym (eqb-true letter 0x65 e))) (λ _ h. absurd (true≢false h)))
  where
    Lettered : Side → Type 0
    Lettered s = is_nobody s ≡ false → side_letter s ≡ some letter

-- A LETTER GIVES A SIDE EXACTLY IF IT IS THE SIDE'S LETTER
pub side_exactly : (s : Side) (letter : ℕ) → (side_letter s ≡ some letter) ↔ ((side_by letter ≡ s) × (is_nobody s ≡ false))
side_exactly s letter = (side_back s letter, λ h. ap side_letter (sym h.0) ∙ side_only letter (ap is_nobody h.0 ∙ h.1))
