-- Bytes of one side that are a message which ends in a frame, by the link's rules for its bytes one by one (document 01, "Connected."). Assumes nothing.
use Rattle.std.specs.Prelude.{ℕ, Bool, false, not, List, [], ◌∷◌, eqb, length, if◌then◌else◌}
use Rattle.base.specs.Reports.{no_reason}
use Rattle.events.specs.declared.Side.{Side}
use Rattle.talk.specs.Talk.{head_reason, begun, later_reason, is_sum, grown}
use Rattle.talk.specs.declared.Message.{Message}

-- the bytes after a message's first one end it in a frame with the last of them, by the rules for later bytes
abbrev pub ends_in : Side → Message → List ℕ → Bool
ends_in side m [] = false
ends_in side m (v ∷ vs) =
    if not (eqb (later_reason m side v) no_reason) then false else
    if is_sum m.part then eqb (length vs) 0 else ends_in side (grown m v) vs

-- bytes of one side are a message that ends in a frame with its last byte
abbrev pub is_message : ℕ → Side → List ℕ → Bool
is_message kb1 side [] = false
is_message kb1 side (f ∷ vs) = if eqb (head_reason kb1 f) no_reason then ends_in side (begun side f) vs else false
