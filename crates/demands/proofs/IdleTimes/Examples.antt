-- HISTORIES THAT CONNECT: document 01's example, a slow start after one that came to nothing, with a good pair and with a car's two, a wake-up 55 ms after a stop, and
-- one at the very mark after P3 max has run out. The idle time that is asked in each is computed (WrongLinks/Computed.antt), all their events are taken, and so, by the theorem, the last byte is
-- answered with report 3, which names the initialization's bytes.
-- Assumes nothing.
use Prim.Native.Nat.{ℕ}
use mathlib.Core.List.{[], ◌∷◌}
use mathlib.Core.Path.{◌≡◌, refl}
use native.Mathlib.Omega.{arith}
use Rattle.base.specs.Reports.{connected_report, no_reason}
use Rattle.units.specs.Units.{micros}
use Rattle.keys.specs.Keys.{length_in_format, extra_length, no_addresses, with_addresses, good_pair}
use Rattle.keys.specs.Editions.{edition_of, is_car, is_slow_pair}
use Rattle.events.specs.Events.{is_other, is_byte, is_nobody, is_unknown, is_too_late, is_out_of_order, refusal}
use Rattle.reports.specs.declared.Report.{Report}
use Rattle.demands.specs.Logs.{none, ◌▷◌, clock_of, count_of, heard_of, number_after, taken_of}
use Rattle.demands.specs.Histories.{reports_to}
use Rattle.demands.specs.Ours.{ours}
use Rattle.demands.proofs.Connecting.Example.{wake_at, bytes_after, last_after, fast_connects, fast_events, fast_last, fast_number, slow_events, slow_last, slow_connects}
use Rattle.demands.proofs.Connecting.Example.{all_bytes, in_bytes}
use Rattle.demands.proofs.WrongLinks.Computed.{stopping, running_out, computed}
use Rattle.demands.proofs.IdleTimes.AskedTime.{connects_names}

-- a report 3
abbrev third : ℕ → ℕ → ℕ → Report
third first bytes time = record { first = first; bytes = bytes; time = micros time; number = connected_report; reason = no_reason }

pub fast_reports : reports_to ours fast_events fast_last ≡ (third 0 12 411_520 ∷ [])
unfolding taken_of number_after clock_of count_of refusal is_unknown is_too_late is_out_of_order is_other is_byte is_nobody heard_of all_bytes
fast_reports = (connects_names fast_events fast_last (in_bytes fast_events refl) fast_number (fast_connects 300_000 ours none (omega (arith, computed.from_fresh)))).reports

pub slow_reports : reports_to ours (slow_events 0xEF 0x8F) slow_last ≡ (third 0 5 5_179_800 ∷ [])
unfolding taken_of number_after clock_of count_of refusal is_unknown is_too_late is_out_of_order is_other is_byte is_nobody heard_of all_bytes is_slow_pair good_pair length_in_format extra_length no_addresses with_addresses
slow_reports =
    (connects_names (slow_events 0xEF 0x8F) slow_last (in_bytes (slow_events 0xEF 0x8F) refl) refl (slow_connects 0xEF 0x8F ours refl (omega (arith, computed.from_failed)))
    ).reports

-- the same with a car's key bytes
pub car_reports : reports_to ours (slow_events 0x08 0x08) slow_last ≡ (third 0 5 5_179_800 ∷ [])
unfolding taken_of number_after clock_of count_of refusal is_unknown is_too_late is_out_of_order is_other is_byte is_nobody heard_of all_bytes is_slow_pair good_pair edition_of is_car
car_reports =
    (connects_names (slow_events 0x08 0x08) slow_last (in_bytes (slow_events 0x08 0x08) refl) refl (slow_connects 0x08 0x08 ours refl (omega (arith, computed.from_failed)))
    ).reports

pub quick_car_reports : reports_to ours (slow_events 0x94 0x94) slow_last ≡ (third 0 5 5_179_800 ∷ [])
unfolding taken_of number_after clock_of count_of refusal is_unknown is_too_late is_out_of_order is_other is_byte is_nobody heard_of all_bytes is_slow_pair good_pair edition_of is_car
quick_car_reports =
    (connects_names (slow_events 0x94 0x94) slow_last (in_bytes (slow_events 0x94 0x94) refl) refl (slow_connects 0x94 0x94 ours refl (omega (arith, computed.from_failed)))
    ).reports

-- 55 ms after the byte that answers a stop, at 532,880
pub soon_reports : reports_to ours (bytes_after 587_880 (stopping ▷ wake_at 587_880)) (last_after 587_880) ≡ (third 18 12 699_400 ∷ [])
unfolding taken_of number_after clock_of count_of refusal is_unknown is_too_late is_out_of_order is_other is_byte is_nobody heard_of all_bytes
soon_reports =
    (connects_names (bytes_after 587_880 (stopping ▷ wake_at 587_880)) (last_after 587_880) (in_bytes (bytes_after 587_880 (stopping ▷ wake_at 587_880)) refl) refl
    (fast_connects 587_880 ours stopping (omega (arith, computed.from_stop)))).reports

-- at the end of an outside byte, which is the mark, after P3 max has run out
pub at_once_reports : reports_to ours (bytes_after 5_420_960 (running_out ▷ wake_at 5_420_960)) (last_after 5_420_960) ≡ (third 13 12 5_532_480 ∷ [])
unfolding taken_of number_after clock_of count_of refusal is_unknown is_too_late is_out_of_order is_other is_byte is_nobody heard_of all_bytes
at_once_reports =
    (connects_names (bytes_after 5_420_960 (running_out ▷ wake_at 5_420_960)) (last_after 5_420_960)
    (in_bytes (bytes_after 5_420_960 (running_out ▷ wake_at 5_420_960)) refl) refl (fast_connects 5_420_960 ours running_out (omega (arith, computed.from_run_out)))
    ).reports
