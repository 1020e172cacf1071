-- Reports in a list: which are among them, of which number and reason, and what they make of a talk, for a list that is made of two; and the report of a move.
-- Assumes nothing.
use Prim.Native.Nat.{ℕ}
use mathlib.Core.Bool.{Bool, true, false, ◌||◌, or_assoc, false≢true}
use mathlib.Core.List.{List, [], ◌∷◌, ◌++◌}
use mathlib.Core.Path.{◌≡◌, refl, sym, ap, ◌∙◌, subst}
use mathlib.Core.Logic.{◌⊎◌, inl, inr, ⊎_elim}
use borrow.Author.Tests.{eqb-true, eq-eqb}
use lib.Dec.{eqb}
use Rattle.base.proofs.Tests.{or_split, by_test}
use Rattle.phases.specs.declared.Phase.{Phase}
use Rattle.moves.specs.Moves.{still, makes}
use Rattle.moves.specs.declared.Move.{Move}
use Rattle.reports.specs.Reporting.{report_of}
use Rattle.reports.specs.declared.Report.{Report}
use Rattle.reports.specs.declared.Run.{Run}
use Rattle.link.specs.Telling.{tells}
use Rattle.demands.specs.Logs.{Log}
use Rattle.demands.specs.Histories.{is_among, Says, Among, first, later, Tells}
use Rattle.demands.specs.Sessions.{Talk, after_report, talk_after}

-- ---- a report among them
pub not_among : {r : Report} → Among r [] → ⊥
not_among a = elim a [ ]

pub only_one : {r s : Report} → Among r (s ∷ []) → r ≡ s
only_one first = refl
only_one (later a) = absurd (not_among a)

pub among_left : {r : Report} {rs : List Report} (ss : List Report) → Among r rs → Among r (rs ++ ss)
among_left ss first = first
among_left ss (later a) = later (among_left ss a)

pub among_right : {r : Report} (rs : List Report) {ss : List Report} → Among r ss → Among r (rs ++ ss)
among_right [] a = a
among_right (s ∷ rs) a = later (among_right rs a)

pub among_either : {r : Report} (rs : List Report) {ss : List Report} → Among r (rs ++ ss) → Among r rs ⊎ Among r ss
among_either [] a = inr a
among_either (s ∷ rs) first = inl first
among_either (s ∷ rs) (later a) = ⊎_elim (λ b. inl (later b)) (λ b. inr b) (among_either rs a)

-- ---- of each of them
abbrev pub Each : (Report → Type 0) → List Report → Type 0
Each P rs = (x : Report) → Among x rs → P x

pub each_none : (P : Report → Type 0) → Each P []
each_none P x a = absurd (not_among a)

pub each_one : (P : Report → Type 0) (r : Report) → P r → Each P (r ∷ [])
each_one P r p x a = rw (only_one a) p

pub each_both : (P : Report → Type 0) (rs ss : List Report) → Each P rs → Each P ss → Each P (rs ++ ss)
each_both P rs ss f g x a = ⊎_elim (λ b. f x b) (λ b. g x b) (among_either rs a)

-- ---- a report of this number
pub says_both : (number : ℕ) (rs ss : List Report) → is_among number (rs ++ ss) ≡ (is_among number rs || is_among number ss)
unfolding is_among
says_both number [] ss = refl
says_both number (r ∷ rs) ss =
    ap (λ (b : Bool). eqb r.number number || b) (says_both number rs ss)
    ∙ sym (or_assoc (eqb r.number number) (is_among number rs) (is_among number ss))

pub record Speaks (number : ℕ) (rs : List Report) : Type 0 where
  pub report : Report
  pub made : Among report rs
  pub number_is : report.number ≡ number

or_second : (a b : Bool) → b ≡ true → (a || b) ≡ true
or_second true b h = refl
or_second false b h = h

pub among_says : {r : Report} {rs : List Report} (number : ℕ) → Among r rs → r.number ≡ number → Says number rs
unfolding is_among
among_says {r = r} number first q = rw (eq-eqb r.number number q) refl
among_says {r = r} number (later {rs = rs} {s = s} a) q = or_second (eqb s.number number) (is_among number rs) (among_says number a q)

pub says_speaks : (number : ℕ) (rs : List Report) → Says number rs → Speaks number rs
unfolding is_among
says_speaks number [] s = absurd (false≢true s)
says_speaks number (r ∷ rs) s =
    ⊎_elim (λ q. record { report = r; made = first; number_is = eqb-true r.number number q })
    (λ q. let x = says_speaks number rs q in record { report = x.report; made = later x.made; number_is = x.number_is })
    (or_split (eqb r.number number) (is_among number rs) s)

-- ---- a report of this number and reason
pub tells_says : (number reason : ℕ) (rs : List Report) → Tells number reason rs → Says number rs
tells_says number reason rs t = among_says number t.made t.number_is

pub tells_left : (number reason : ℕ) (rs ss : List Report) → Tells number reason rs → Tells number reason (rs ++ ss)
tells_left number reason rs ss t = record {
  report = t.report;
  made = among_left ss t.made;
  number_is = t.number_is;
  reason_is = t.reason_is;
}

pub tells_right : (number reason : ℕ) (rs ss : List Report) → Tells number reason ss → Tells number reason (rs ++ ss)
tells_right number reason rs ss t = record {
  report = t.report;
  made = among_right rs t.made;
  number_is = t.number_is;
  reason_is = t.reason_is;
}

-- ---- of a move
makes_tells : (r : Run) (number reason : ℕ) (p : Phase) → eqb number 0 ≡ false → Tells number reason (tells r (makes number reason p))
unfolding tells report_of
makes_tells r number reason p z = rw z (record { report = report_of r number reason; made = first; number_is = refl; reason_is = refl })

pub move_tells : (r : Run) (m : Move) (number reason : ℕ) (p : Phase) → eqb number 0 ≡ false → m ≡ makes number reason p → Tells number reason (tells r m)
move_tells r m number reason p z q = subst (λ (x : Move). Tells number reason (tells r x)) (sym q) (makes_tells r number reason p z)

-- what holds of a move's report, if it makes one, holds of each that it tells
pub tells_each : (P : Report → Type 0) (r : Run) (m : Move) → (eqb m.number 0 ≡ false → P (report_of r m.number m.reason)) → Each P (tells r m)
unfolding tells
tells_each P r m h =
    by_test (Each P) (eqb m.number 0) {x = []} {y = report_of r m.number m.reason ∷ []} (λ _. each_none P) (λ z. each_one P _ (h z))

-- by its number and reason
abbrev pub EachOf : (ℕ → ℕ → Type 0) → List Report → Type 0
EachOf C rs = Each (λ (x : Report). C x.number x.reason) rs

abbrev pub Makes : (ℕ → ℕ → Type 0) → Move → Type 0
Makes C m = eqb m.number 0 ≡ false → C m.number m.reason

pub silent : (C : ℕ → ℕ → Type 0) (p : Phase) → Makes C (still p)
silent C p z = absurd (false≢true (sym z))

pub move_each : (C : ℕ → ℕ → Type 0) (r : Run) (m : Move) → Makes C m → EachOf C (tells r m)
unfolding report_of
move_each C r m h = tells_each (λ (x : Report). C x.number x.reason) r m h

-- ---- what they make of a talk
pub talk_both : (t : Talk) (log : Log) (rs ss : List Report) → talk_after t log (rs ++ ss) ≡ talk_after (talk_after t log rs) log ss
unfolding talk_after
talk_both t log [] ss = refl
talk_both t log (r ∷ rs) ss = talk_both (after_report t log r) log rs ss
