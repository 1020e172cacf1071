-- What it means that a frame reads back, and that what `build` left in the lent buffer does. Assumes nothing.
use Rattle.std.specs.Prelude.{◌≡◌, ℕ, ◌+◌, List, ◌++◌, length, get_or, take, drop}
use Rattle.base.specs.Numbers.{taken}
use Rattle.keys.specs.declared.Form.{Form}
use Rattle.frame.specs.Layout.{form_numbered, number_of, carried}
use Rattle.frame.specs.Read.{laid_of, read_of, data_of}
use Rattle.frame.specs.declared.Plan.{Plan}
use Rattle.frame.specs.Answers.{Built}

-- `frame` reads back as this form, these addresses and this data
pub record ReadsBack (kb1 kb2 : ℕ) (form : Form) (t s : ℕ) (d frame : List ℕ) : Type 0 where
  -- where the data starts
  pub start : ℕ
  -- of the frame with anything after it, its front gives the form, the length, and so the end ..
  pub laid : (rest : List ℕ) → laid_of kb1 (frame ++ rest) ≡ record { no = taken; form = form; start = start; len = length d }
  pub ends : (rest : List ℕ) → take (start + length d + 1) (frame ++ rest) ≡ frame
  -- .. and the addresses that it carries and the data stand where they do in the frame
  pub target : (rest : List ℕ) → carried form (get_or (frame ++ rest) 1 0) ≡ carried form t
  pub source : (rest : List ℕ) → carried form (get_or (frame ++ rest) 2 0) ≡ carried form s
  pub bytes : (rest : List ℕ) → take (length d) (drop start (frame ++ rest)) ≡ d
  -- exactly the frame is read
  pub reading : read_of kb1 kb2 frame ≡ record { no = taken; form = number_of form; target = carried form t; source = carried form s; start = start; len = length d }
  pub contents : data_of kb1 kb2 frame ≡ d

-- what `build` left, where it answers 0
pub record BuiltReadsBack (p : Plan) (bytes out : List ℕ) (r : Built) (after : List ℕ) : Type 0 where
  -- the frame stands at the front, and what stood after it still does
  pub frame : List ℕ
  pub size : r.len ≡ length frame
  pub memory : after ≡ frame ++ drop (length frame) out
  -- and it reads back with its form, the addresses it carries, and its data
  pub form_number : number_of (form_numbered p.form) ≡ p.form
  pub reads_back : ReadsBack p.pair.kb1 p.pair.kb2 (form_numbered p.form) p.target p.source bytes frame
