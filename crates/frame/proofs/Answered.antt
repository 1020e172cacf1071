-- The paper's numbers tell answers apart: an answer of building or of reading is one alone that has these numbers. Assumes nothing.
use mathlib.Core.Path.{◌≡◌, sym, ap, ◌∙◌}
use Prim.Native.Nat.{ℕ}
use Rattle.std.specs.Prelude.{Result, Ok, Err}
use Rattle.base.specs.declared.Refusal.{Refusal}
use Rattle.base.proofs.Refusals.{one_number, not_taken}
use Rattle.keys.specs.declared.Form.{Form}
use Rattle.frame.specs.Answers.{Built, Reading}
use Rattle.frame.specs.Layout.{form_numbered, number_of}
use Rattle.frame.specs.Build.{built_as}
use Rattle.frame.specs.Read.{read_as}
use Rattle.frame.specs.declared.Frame.{Frame}
use Rattle.frame.proofs.WellRead.{form_again}

-- building
pub one_built : (x y : Result ℕ Refusal) → built_as x ≡ built_as y → x ≡ y
one_built (Ok n) (Ok m) e = λ i. Ok (e i).len
one_built (Ok n) (Err why) e = absurd (not_taken why (sym (ap (λ (b : Built). b.no) e)))
one_built (Err why) (Ok m) e = absurd (not_taken why (ap (λ (b : Built). b.no) e))
one_built (Err why) (Err other) e = ap Err (one_number why other (ap (λ (b : Built). b.no) e))

-- reading
one_form : (a b : Form) → number_of a ≡ number_of b → a ≡ b
one_form a b e = sym (form_again a) ∙ ap form_numbered e ∙ form_again b

pub one_read : (x y : Result Frame Refusal) → read_as x ≡ read_as y → x ≡ y
one_read (Ok f) (Ok g) e =
    let form = one_form f.form g.form (ap (λ (r : Reading). r.form) e) in
    λ i. Ok (record { form = form i; target = (e i).target; source = (e i).source; start = (e i).start; len = (e i).len })
one_read (Ok f) (Err why) e = absurd (not_taken why (sym (ap (λ (r : Reading). r.no) e)))
one_read (Err why) (Ok g) e = absurd (not_taken why (ap (λ (r : Reading). r.no) e))
one_read (Err why) (Err other) e = ap Err (one_number why other (ap (λ (r : Reading). r.no) e))
