-- What key bytes announce: good key bytes, a form they take, and a length in a place that they announce and that holds it (document 01, "Key bytes",
-- "Frames"). `read` takes all announced frames, and `build` makes each of them, by the choice of its place; under the choice 0 only the shortest.
-- Assumes nothing.
use Rattle.std.specs.Prelude.{◌≡◌, ℕ, ◌≤◌, true, Option, Some, None, List, length}
use Rattle.keys.specs.Keys.{pair_of, good_pair, takes_form, length_in_format, extra_length}
use Rattle.keys.specs.declared.Form.{Form}
use Rattle.frame.specs.Layout.{number_of, frame_of}
use Rattle.frame.specs.Build.{shortest, in_format_byte, in_extra_byte}
use Rattle.frame.specs.declared.Place.{Place}
use Rattle.frame.specs.declared.Place.TheVariants.{Format, Extra}
use Rattle.frame.specs.declared.Plan.{Plan}

-- a length that KB1 announces this place for, and that fits it
abbrev pub Placed : ℕ → Option Place → ℕ → Type 0
Placed kb1 (Some Format) n = (length_in_format kb1 ≡ true) × (1 ≤ n) × (n ≤ 63)
Placed kb1 (Some Extra) n = (extra_length kb1 ≡ true) × (1 ≤ n) × (n ≤ 255)
Placed kb1 None n = ⊥

-- a frame of this form, with n bytes of data and its length in this place, is announced by good key bytes
pub record Announced (kb1 kb2 : ℕ) (form : Form) (place : Option Place) (n : ℕ) : Type 0 where
  pub good : good_pair kb1 kb2 ≡ true
  pub takes : takes_form kb1 form ≡ true
  pub placed : Placed kb1 place n

-- a slice that is such a frame, all of it
pub record IsFrame (kb1 kb2 : ℕ) (s : List ℕ) : Type 0 where
  pub form : Form
  pub place : Option Place
  pub target : ℕ
  pub source : ℕ
  pub bytes : List ℕ
  pub announced : Announced kb1 kb2 form place (length bytes)
  pub whole : s ≡ frame_of form place target source bytes

-- the plan that names its form, its place and its addresses (no frame has its length nowhere)
abbrev pub choice_of : Option Place → ℕ
choice_of (Some Format) = in_format_byte
choice_of (Some Extra) = in_extra_byte
choice_of None = shortest

abbrev pub plan_of : (kb1 kb2 : ℕ) (s : List ℕ) → IsFrame kb1 kb2 s → Plan
plan_of kb1 kb2 s f = record {
  choice = choice_of f.place;
  pair = pair_of kb1 kb2;
  form = number_of f.form;
  target = f.target;
  source = f.source;
}
