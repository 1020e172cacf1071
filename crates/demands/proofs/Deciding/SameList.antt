-- Two lists of reports in order and in turn, of which each report of one has its like in the other, are the same list.
-- The first report of either is that of its least rule, so the first of both are alike; and so the rest are, one after another.
-- Assumes nothing.
use Prim.Native.Nat.{ℕ, ◌+◌, ◌≤◌, ◌<◌}
use mathlib.Core.List.{List, [], ◌∷◌}
use mathlib.Core.Logic.{◌⊎◌, inl, inr, ⊎_elim}
use mathlib.Core.Path.{◌≡◌, refl, sym, ap, ◌∙◌, subst}
use native.Mathlib.Omega.{arith}
use Rattle.reports.specs.declared.Report.{Report}
use Rattle.demands.specs.Histories.{Among, first, later}
use Rattle.demands.specs.Accounts.{InTurn}
use Rattle.demands.proofs.Moves.ReportsInList.{not_among}
use Rattle.demands.specs.Orders.{rule_of, InOrder, next}

abbrev pub rule : Report → ℕ
rule r = rule_of r.number r.reason

pub split : {z y : Report} {ys : List Report} → Among z (y ∷ ys) → (z ≡ y) ⊎ Among z ys
split first = inl refl
split (later i) = inr i

-- all that stand after a rule come after it
above : {a : ℕ} (ys : List Report) (z : Report) → InOrder a ys → Among z ys → a < rule z
above [] z u i = absurd (not_among i)
above {a} (y ∷ ys) z (next k u) i = ⊎_elim (λ e. rw e k) (λ j. omega (arith, above {a = rule y} ys z u j)) (split i)

-- ---- TWO LISTS IN ORDER, of which each report of one has its like in the other, for a likeness that keeps the rule: they are alike one by one
module _ (Like : Report → Report → Type 0) (like_rule : (x y : Report) → Like x y → rule x ≡ rule y) where
  pub record HasLike (x : Report) (ys : List Report) : Type 0 where
    pub report : Report
    pub made : Among report ys
    pub like : Like x report

  pub data Alike : List Report → List Report → Type 0 where
    none : Alike [] []
    more : {x y : Report} {xs ys : List Report} → Like x y → Alike xs ys → Alike (x ∷ xs) (y ∷ ys)

  module _ (x y : Report) {xs ys : List Report} (u : InOrder (rule x) xs) (v : InOrder (rule y) ys) where
    -- what is like the head of one is the head of the other
    at_least : HasLike x (y ∷ ys) → rule y ≤ rule x
    at_least h =
        ⊎_elim (λ e. let k : rule x ≡ rule y = like_rule x h.report h.like ∙ ap rule e in omega arith)
        (λ i. let k = above ys h.report v i in omega (arith, like_rule x h.report h.like)) (split h.made)

    heads : rule x ≤ rule y → HasLike x (y ∷ ys) → Like x y
    heads o h =
        ⊎_elim (λ e. subst (Like x) e h.like) (λ i. let k = above ys h.report v i in absurd (omega (arith, like_rule x h.report h.like))) (split h.made)

    -- what is after the head of one is after the head of the other
    tails : rule y ≤ rule x → (z : Report) → Among z xs → HasLike z (y ∷ ys) → HasLike z ys
    tails o z i h =
        let k = above xs z u i in
        ⊎_elim (λ e. let m : rule z ≡ rule y = like_rule z h.report h.like ∙ ap rule e in absurd (omega arith))
        (λ j. record { report = h.report; made = j; like = h.like }) (split h.made)

  pub alike : (a : ℕ) (xs ys : List Report) → InOrder a xs → InOrder a ys → ((x : Report) → Among x xs → HasLike x ys)
      → ((y : Report) → Among y ys → HasLike y xs) → Alike xs ys
  alike a [] [] u v f g = none
  alike a [] (y ∷ ys) u v f g = absurd (not_among (g y first).made)
  alike a (x ∷ xs) [] u v f g = absurd (not_among (f x first).made)
  alike a (x ∷ xs) (y ∷ ys) (next k u) (next m v) f g =
      let lo : rule y ≤ rule x = at_least x y u v (f x first) in
      let hi : rule x ≤ rule y = at_least y x v u (g y first) in
      let e : rule y ≡ rule x = omega arith in
      more (heads x y u v hi (f x first))
      (alike (rule x) xs ys u (subst (λ (k : ℕ). InOrder k ys) e v) (λ z i. tails x y u v lo z i (f z (later i))) (λ z i. tails y x v u hi z i (g z (later i))))

-- ---- IN TURN TOO, and alike in all but the index, they are the same list
pub record Like (x y : Report) : Type 0 where
  pub number : x.number ≡ y.number
  pub reason : x.reason ≡ y.reason
  pub bytes : x.bytes ≡ y.bytes
  pub time : x.time ≡ y.time

pub like_rule : (x y : Report) → Like x y → rule x ≡ rule y
like_rule x y l = ap (λ (n : ℕ). rule_of n x.reason) l.number ∙ ap (rule_of y.number) l.reason

abbrev pub Has : Report → List Report → Type 0
Has x ys = HasLike Like like_rule x ys

whole : (x y : Report) → Like x y → x.first ≡ y.first → x ≡ y
whole x y l f i = record { first = f i; bytes = l.bytes i; time = l.time i; number = l.number i; reason = l.reason i }

in_turn : (n : ℕ) (xs ys : List Report) → Alike Like like_rule xs ys → InTurn n xs → InTurn n ys → xs ≡ ys
in_turn n [] [] none s t = refl
in_turn n [] (y ∷ ys) l s t = elim l [ ]
in_turn n (x ∷ xs) [] l s t = elim l [ ]
in_turn n (x ∷ xs) (y ∷ ys) (more l r) (InTurn.behind p s) (InTurn.behind q t) =
    ap (λ (z : Report). z ∷ xs) (whole x y l (p ∙ sym q))
    ∙ ap (λ (zs : List Report). y ∷ zs) (in_turn (n + x.bytes) xs ys r s (subst (λ (k : ℕ). InTurn (n + k) ys) (sym l.bytes) t))

pub same_list : (n a : ℕ) (xs ys : List Report) → InOrder a xs → InOrder a ys → InTurn n xs → InTurn n ys
    → ((x : Report) → Among x xs → Has x ys) → ((y : Report) → Among y ys → Has y xs) → xs ≡ ys
same_list n a xs ys u v s t f g = in_turn n xs ys (alike Like like_rule a xs ys u v f g) s t
