-- The codes of the normal and of the extended set, both ways. Assumes nothing.
use mathlib.Core.Path.{refl}
use Rattle.units.specs.Units.{byte_of, whole_steps}
use Rattle.timing.specs.Timing.{is_unlimited, is_below, normal_set, extended_set, is_allowed}
use Rattle.timing.specs.Timing.{min_of, p2_half, p2_max_of, p3_max_of, windows_by, decoded_of, min_code, p2_steps_code, p2_code, p3_code, codes_by, same_windows, encoded_of}
use Rattle.timing.specs.Coded.{normal_codes, extended_codes, CodesOfSet}

pub normal_codes_lem : CodesOfSet normal_codes normal_set
unfolding decoded_of encoded_of is_allowed is_below is_unlimited windows_by min_of p2_half p2_max_of p3_max_of codes_by min_code p2_code p2_steps_code p3_code byte_of whole_steps same_windows
normal_codes_lem = record { forth = refl; back = refl }

pub extended_codes_lem : CodesOfSet extended_codes extended_set
unfolding decoded_of encoded_of is_allowed is_below is_unlimited windows_by min_of p2_half p2_max_of p3_max_of codes_by min_code p2_code p2_steps_code p3_code byte_of whole_steps same_windows
extended_codes_lem = record { forth = refl; back = refl }
