-- Any two results that meet a public function's promise are equal, and so is the memory that they leave. Assumes nothing.
use mathlib.Core.Path.{◌≡◌, sym, ◌∙◌}
use mathlib.Core.List.{List}
use Prim.Native.Nat.{ℕ}
use denote.Ref.{Bor}
use Rattle.std.specs.Prelude.{Result}
use Rattle.base.specs.declared.Refusal.{Refusal}
use Rattle.base.proofs.One.{Only, only}
use Rattle.keys.specs.declared.Form.{Form}
use Rattle.frame.specs.Layout.{format_form, number_of}
use Rattle.frame.specs.Build.{built_as, Builds}
use Rattle.frame.specs.Read.{read_as, read_of, data_of, DataIn}
use Rattle.frame.specs.declared.Frame.{Frame}
use Rattle.frame.specs.declared.Plan.{Plan}
use Rattle.frame.proofs.Answered.{one_built, one_read}

pub format_form_lem : (f : ℕ) → Only (λ (r : Form). r ≡ format_form f)
format_form_lem f = only (format_form f)

pub number_of_lem : (form : Form) → Only (λ (r : ℕ). r ≡ number_of form)
number_of_lem form = only (number_of form)

-- the answer and the buffer
pub build : (p : Plan) (bytes out : List ℕ) → Only (λ (x : Result ℕ Refusal × List ℕ). Builds p bytes out (built_as x.0) x.1)
build p bytes out x y a b = λ i. (one_built x.0 y.0 (a.answer ∙ sym b.answer) i, (a.memory ∙ sym b.memory) i)

pub read : (kb1 kb2 : ℕ) (s : List ℕ) → Only (λ (r : Result Frame Refusal). read_as r ≡ read_of kb1 kb2 s)
read kb1 kb2 s x y a b = one_read x y (a ∙ sym b)

-- the part's bytes and where it stands; the name that a proof tracks a reference by is no part of a result
pub contents : (kb1 kb2 : ℕ) (s r q : Bor (List ℕ)) → DataIn kb1 kb2 s r → DataIn kb1 kb2 s q → (r.now ≡ q.now) × (r.ref_ptr ≡ q.ref_ptr)
contents kb1 kb2 s r q a b = (only (data_of kb1 kb2 s.now) r.now q.now a.bytes b.bytes, only _ r.ref_ptr q.ref_ptr a.place b.place)
