-- Any two results that meet a public function's promise are equal, and so is the memory that they leave. Assumes nothing.
use mathlib.Core.List.{List}
use Prim.Native.Nat.{ℕ}
use Rattle.base.proofs.One.{Only}
use Rattle.words.proofs.One.{writes}
use Rattle.reports.specs.Reporting.{listed}
use Rattle.reports.specs.declared.Counts.{Counts}
use Rattle.reports.specs.declared.Reports.{Reports}
use Rattle.words.specs.Writing.{Writes}
use Rattle.text.specs.Text.{head_text, reports_text, refused_text, end_text, head_most, reports_most, refused_most, end_most}

pub put_head : (at : ℕ) (out : List ℕ) → Only (λ (x : ℕ × List ℕ). Writes head_text head_most at out x.0 x.1)
put_head at out = writes head_text head_most at out

pub put_reports : (at : ℕ) (rs : Reports) (out : List ℕ) → Only (λ (x : ℕ × List ℕ). Writes (reports_text (listed rs)) reports_most at out x.0 x.1)
put_reports at rs out = writes (reports_text (listed rs)) reports_most at out

pub put_refusal : (at n : ℕ) (out : List ℕ) → Only (λ (x : ℕ × List ℕ). Writes (refused_text n) refused_most at out x.0 x.1)
put_refusal at n out = writes (refused_text n) refused_most at out

pub put_end : (at : ℕ) (c : Counts) (held : ℕ) (out : List ℕ) → Only (λ (x : ℕ × List ℕ). Writes (end_text c held) end_most at out x.0 x.1)
put_end at c held out = writes (end_text c held) end_most at out
