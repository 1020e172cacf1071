-- The stages of crates/starts are places of document 01 (specs/Starts.antt): at each of the twenty, the table of the stages and the place name the same
-- side, window and values, and both or neither are the last.
-- Assumes nothing.
use Prim.Native.Nat.{ℕ}
use mathlib.Core.Bool.{Bool, true, false, ◌&&◌, ◌||◌, or_assoc}
use mathlib.Core.List.{List, [], ◌∷◌}
use mathlib.Core.Logic.{◌↔◌, inl, inr, ⊎_elim}
use mathlib.Core.Path.{◌≡◌, refl, ap}
use lib.Dec.{eqb}
use borrow.Author.Tests.{eqb-true, eq-eqb}
use Rattle.base.proofs.Tests.{and_split, or_split}
use Rattle.units.specs.Units.{micros}
use Rattle.keys.specs.Keys.{pair_of, is_good}
use Rattle.keys.specs.declared.Pair.{Pair}
use Rattle.events.specs.declared.Side.TheVariants.{Tester, Unit}
use Rattle.starts.specs.Starts.{due_at, complement, is_reply_format, fits, is_last}
use Rattle.starts.specs.declared.Stage.{Stage}
use Rattle.starts.specs.declared.Stage.TheVariants.{Sync, FirstKey, SecondKey, KeyBack, AddressBack}
use Rattle.starts.specs.declared.Stage.TheVariants.{AskFormat, AskTarget, AskSource, AskService, AskSum}
use Rattle.starts.specs.declared.Stage.TheVariants.{Format, Target, Source, LongTarget, LongSource, Length, Service, KeyOne, KeyTwo, Sum}
use Rattle.starts.specs.declared.Start.{Start}
use Rattle.demands.specs.Starts.{any, only, sum_behind, IsOne, Fits, Place, last_place, sync, key_one, key_two, key_back, address_back, asks, next, replies}

-- ---- the place that a stage stands for
abbrev pub at : ℕ → Stage → ℕ → ℕ → ℕ → Start
at address stage sum kb1 kb2 = record { pair = pair_of kb1 kb2; address = address; sum = sum; stage = stage }

abbrev place_at : Stage → Start → Place
place_at Sync s = sync
place_at FirstKey s = key_one
place_at SecondKey s = key_two s.address s.pair.kb1
place_at KeyBack s = key_back s.pair.kb2
place_at AddressBack s = address_back s.address
place_at AskFormat s = asks
place_at AskTarget s = next Tester any
place_at AskSource s = next Tester any
place_at AskService s = next Tester (only 0x81)
place_at AskSum s = next Tester (only s.sum)
place_at Format s = replies
place_at Target s = next Unit any
place_at Source s = next Unit any
place_at LongTarget s = next Unit any
place_at LongSource s = next Unit any
place_at Length s = next Unit (only 3)
place_at Service s = next Unit (only 0xC1)
place_at KeyOne s = next Unit any
place_at KeyTwo s = next Unit any
place_at Sum s = last_place Unit 0 20_000 (sum_behind s.sum s.pair)

abbrev pub place_of : Start → Place
place_of s = place_at s.stage s

-- an initialization and a place ask the same of the next byte
pub record Means (s : Start) (p : Place) : Type 0 where
  pub side : (due_at s.stage).side ≡ p.side
  pub earliest : (due_at s.stage).earliest.0 ≡ p.earliest
  pub latest : (due_at s.stage).latest.0 ≡ p.latest
  pub value : (v : ℕ) → (fits s v ≡ true) ↔ Fits p.value v
  pub last : is_last s.stage ≡ p.last

-- ---- the values
any_fits : (v : ℕ) → (true ≡ true) ↔ Fits any v
any_fits v = (λ _. tt, λ _. refl)

only_fits : (x v : ℕ) → (eqb v x ≡ true) ↔ Fits (only x) v
only_fits x v = (eqb-true v x, eq-eqb v x)

-- one number of several, and the last of them
one_fits : (x : ℕ) (xs : List ℕ) (v : ℕ) (b : Bool) → (b ≡ true) ↔ IsOne xs v → ((eqb v x || b) ≡ true) ↔ IsOne (x ∷ xs) v
unfolding IsOne
one_fits x xs v b r = (
  λ q. ⊎_elim (λ e. inl (eqb-true v x e)) (λ o. inr (r.0 o)) (or_split (eqb v x) b q),
  λ o. ⊎_elim (λ e. rw (eq-eqb v x e) refl) (λ i. or-true (eqb v x) b (r.1 i)) o,
)
  where
    or-true : (a c : Bool) → c ≡ true → (a || c) ≡ true
    or-true true c h = refl
    or-true false c h = h

last_fits : (x v : ℕ) → (eqb v x ≡ true) ↔ IsOne (x ∷ []) v
unfolding IsOne
last_fits x v = (λ e. inl (eqb-true v x e), λ o. ⊎_elim (eq-eqb v x) (λ n. absurd n) o)

format_fits : (v : ℕ) → (is_reply_format v ≡ true) ↔ Fits replies.value v
unfolding is_reply_format
format_fits v = simp or_assoc (one_fits 0x03 _ v _ (one_fits 0x00 _ v _ (one_fits 0x83 _ v _ (last_fits 0x80 v))))

sum_fits : (x : ℕ) (pair : Pair) (v : ℕ) → ((eqb v x && is_good pair) ≡ true) ↔ Fits (sum_behind x pair) v
sum_fits x pair v = (
  λ q. let h = and_split (eqb v x) (is_good pair) q in (eqb-true v x h.0, h.1),
  λ h. rw (eq-eqb v x h.0) h.1,
)

-- ---- the stages, one by one
stands : {s : Start} {p : Place} {o : Bool}
    → due_at s.stage ≡ record { earliest = micros p.earliest; latest = micros p.latest; side = p.side; opening = o; last = p.last }
    → ((v : ℕ) → (fits s v ≡ true) ↔ Fits p.value v) → Means s p
unfolding is_last
stands d v = record {
  side = ap (λ x. x.side) d;
  earliest = ap (λ x. x.earliest.0) d;
  latest = ap (λ x. x.latest.0) d;
  value = v;
  last = ap (λ x. x.last) d;
}

means_at : (stage : Stage) (address sum kb1 kb2 : ℕ) → Means (at address stage sum kb1 kb2) (place_of (at address stage sum kb1 kb2))
unfolding due_at fits complement
means_at Sync address sum kb1 kb2 = stands refl (only_fits 0x55)
means_at FirstKey address sum kb1 kb2 = stands refl any_fits
means_at SecondKey address sum kb1 kb2 = stands refl (λ v. (λ g. g, λ g. g))
means_at KeyBack address sum kb1 kb2 = stands refl (only_fits _)
means_at AddressBack address sum kb1 kb2 = stands refl (only_fits _)
means_at AskFormat address sum kb1 kb2 = stands refl (λ v. one_fits 0x81 _ v _ (last_fits 0xC1 v))
means_at AskTarget address sum kb1 kb2 = stands refl any_fits
means_at AskSource address sum kb1 kb2 = stands refl any_fits
means_at AskService address sum kb1 kb2 = stands refl (only_fits 0x81)
means_at AskSum address sum kb1 kb2 = stands refl (only_fits sum)
means_at Format address sum kb1 kb2 = stands refl format_fits
means_at Target address sum kb1 kb2 = stands refl any_fits
means_at Source address sum kb1 kb2 = stands refl any_fits
means_at LongTarget address sum kb1 kb2 = stands refl any_fits
means_at LongSource address sum kb1 kb2 = stands refl any_fits
means_at Length address sum kb1 kb2 = stands refl (only_fits 3)
means_at Service address sum kb1 kb2 = stands refl (only_fits 0xC1)
means_at KeyOne address sum kb1 kb2 = stands refl any_fits
means_at KeyTwo address sum kb1 kb2 = stands refl any_fits
means_at Sum address sum kb1 kb2 = stands refl (sum_fits sum (pair_of kb1 kb2))

-- A STAGE MEANS ITS PLACE
pub means : (s : Start) → Means s (place_of s)
means s = means_at s.stage s.address s.sum s.pair.kb1 s.pair.kb2
