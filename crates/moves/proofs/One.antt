-- Any two results that meet a public function's promise are equal. Assumes nothing.
use mathlib.Core.Path.{◌≡◌}
use mathlib.Core.Bool.{Bool}
use Prim.Native.Nat.{ℕ}
use Rattle.base.proofs.One.{Only, only}
use Rattle.units.specs.declared.Micros.{Micros}
use Rattle.moves.specs.declared.Move.{Move}
use Rattle.phases.specs.declared.Phase.{Phase}
use Rattle.events.specs.declared.Side.{Side}
use Rattle.moves.specs.Moves.{starting_slow, starting_fast, first_frame_byte, after_byte, after_stop, is_silent, ended, after_silence, is_cut_in, after_p2, after_p3, since_origin, after_window, closing, leaving}

pub starting_slow_lem : (idle : Micros) (address : ℕ) (mark start : Micros) → Only (λ (r : Move). r ≡ starting_slow idle address mark start)
starting_slow_lem idle address mark start = only (starting_slow idle address mark start)

pub starting_fast_lem : (idle mark fall rise : Micros) → Only (λ (r : Move). r ≡ starting_fast idle mark fall rise)
starting_fast_lem idle mark fall rise = only (starting_fast idle mark fall rise)

pub first_frame_byte_lem : (p : Phase) (side : Side) (v : ℕ) (gap : Micros) → Only (λ (r : Phase). r ≡ first_frame_byte p side v gap)
first_frame_byte_lem p side v gap = only (first_frame_byte p side v gap)

pub after_byte_lem : (p : Phase) (side : Side) (v : ℕ) (mark start : Micros) → Only (λ (r : Move). r ≡ after_byte p side v mark start)
after_byte_lem p side v mark start = only (after_byte p side v mark start)

pub after_stop_lem : (p : Phase) → Only (λ (r : Move). r ≡ after_stop p)
after_stop_lem p = only (after_stop p)

pub is_silent_lem : (gap : Micros) → Only (λ (r : Bool). r ≡ is_silent gap)
is_silent_lem gap = only (is_silent gap)

pub end_open : (p : Phase) → Only (λ (r : Move). r ≡ ended p)
end_open p = only (ended p)

pub is_cut_in_lem : (p : Phase) (side : Side) → Only (λ (r : Bool). r ≡ is_cut_in p side)
is_cut_in_lem p side = only (is_cut_in p side)

pub after_silence_lem : (p : Phase) (gap : Micros) → Only (λ (r : Move). r ≡ after_silence p gap)
after_silence_lem p gap = only (after_silence p gap)

pub after_p2_lem : (p : Phase) (gap : Micros) → Only (λ (r : Move). r ≡ after_p2 p gap)
after_p2_lem p gap = only (after_p2 p gap)

pub after_p3_lem : (p : Phase) (gap : Micros) → Only (λ (r : Move). r ≡ after_p3 p gap)
after_p3_lem p gap = only (after_p3 p gap)

pub since_origin_lem : (p : Phase) (mark time : Micros) → Only (λ (r : Micros). r ≡ since_origin p mark time)
since_origin_lem p mark time = only (since_origin p mark time)

pub after_window_lem : (p : Phase) (mark time : Micros) → Only (λ (r : Move). r ≡ after_window p mark time)
after_window_lem p mark time = only (after_window p mark time)

pub close_open : (p : Phase) → Only (λ (r : Move). r ≡ closing p)
close_open p = only (closing p)

pub leave : (p : Phase) (reason : ℕ) → Only (λ (r : Move). r ≡ leaving p reason)
leave p reason = only (leaving p reason)
