-- The values on the bench hold: each row is computed, but for the one that speaks of any other codes. Assumes nothing.
use mathlib.Core.Path.{◌≡◌, refl}
use Prim.Native.Nat.{ℕ, ◌*◌}
use native.Mathlib.Omega.{arith}
use borrow.Author.Tests.{le-ltb}
use Rattle.keys.specs.Keys.{good_pair, length_in_format, extra_length, no_addresses, with_addresses, is_extended, takes_form}
use Rattle.timing.specs.Timing.{is_unlimited, is_below, is_allowed, min_of, p2_half, p2_max_of, p3_max_of, windows_by, not_decoded, decoded_of}
use Rattle.starts.specs.Starts.{complement as inverse}
use Rattle.frame.specs.Layout.{form_numbered, format_form, low_bits, addresses_of, extra_of, address_count, extra_count, head_size, head_of, total, checksum_of, body_of, frame_of, carried, is_nowhere}
use Rattle.frame.specs.Build.{place_for, only_in, place_chosen, planned, size_of, build_no, built_of}
use Rattle.frame.specs.Read.{place_read, length_read, laid_of, judged, read_of, data_of}
use Rattle.bench.specs.Bench.{codes, Says, table, Every}

-- no minimum is below a maximum of 0
zero_refused : (a b c d : ℕ) → decoded_of (codes a 0x00 b c d) ≡ not_decoded
unfolding decoded_of windows_by is_allowed is_below is_unlimited min_of p2_max_of p2_half
zero_refused a b c d = rw (le-ltb (a * 500) 0 (omega arith))

pub bench : Every table
unfolding Every Says table inverse good_pair length_in_format extra_length no_addresses with_addresses is_extended takes_form is_unlimited is_below is_allowed min_of p2_half p2_max_of p3_max_of windows_by decoded_of form_numbered format_form low_bits addresses_of extra_of address_count extra_count head_size head_of total checksum_of body_of frame_of carried is_nowhere place_for only_in place_chosen planned size_of build_no built_of place_read length_read laid_of judged read_of data_of
bench =
    ((refl, refl, refl, refl), ((refl, refl, refl, refl), ((refl, refl, refl, refl), ((refl, refl, refl, refl), ((refl, refl, refl, refl), ((refl, refl, refl, refl), (refl, ((refl, refl, refl, refl), (refl, (refl, (refl, (refl, (refl, ((refl, (λ s. refl), (λ choice form target source n room. refl)), ((refl, (λ s. refl), (λ choice form target source n room. refl)), (refl, (refl, (refl, (refl, (zero_refused, (refl, (refl, tt))))))))))))))))))))))
