-- DEMAND 2 HOLDS of our link. Its statements are in specs/DemandTwo.antt; the work is in the files cited here.
-- Assumes nothing.
use Rattle.keys.proofs.Eighteen.{good_pairs}
use Rattle.timing.proofs.P2Table.{rule}
use Rattle.timing.proofs.RoundTrip.{codes_back, windows_back, codes_exactly, no_codes}
use Rattle.timing.proofs.Sets.{normal_codes_lem, extended_codes_lem}
use Rattle.frame.proofs.RoundTrip.{built_reads_back, built_small}
use Rattle.frame.proofs.Shortest.{shortest_exactly}
use Rattle.frame.proofs.AllBuilt.{announced_built}
use Rattle.frame.proofs.WellRead.{announced_reads_back, reads_exactly, read_sums_up}
use Rattle.demands.specs.DemandTwo.{DemandTwo, Foundation}
use Rattle.demands.specs.Ours.{ours}
use Rattle.demands.specs.OurLink.{our_link}
use Rattle.demands.proofs.OneEvent.InOrder as order
use Rattle.demands.proofs.OneEvent.ThreeAtMost as at_most
use Rattle.demands.proofs.Histories.LentCounts as lending
use Rattle.demands.proofs.OneEvent.FailedNames as failed_names
use Rattle.demands.proofs.Endings.NoneHeld as none_held
use Rattle.demands.proofs.Codecs.LengthPlaced.{built_placed}
use Rattle.demands.proofs.Endings.DownsExactly as leaving
use Rattle.demands.proofs.Endings.EachFormed as each
use Rattle.demands.proofs.Endings.FailsExactly as failing
use Rattle.demands.proofs.Endings.StartingExactly as initializing
use Rattle.demands.proofs.IdleTimes.AskedTime as starts
use Rattle.demands.proofs.Sessions.OpeningByte as opening
use Rattle.demands.proofs.Sessions.OpensFirst as beginning
use Rattle.demands.proofs.Damage.DamageExactly as damaging
use Rattle.demands.proofs.Damage.DamageReasons as breaking
use Rattle.demands.proofs.Sessions.FramesRead as reporting

foundation : Foundation
foundation = record {
  keys = good_pairs;
  built = built_reads_back;
  placed = built_placed;
  small = built_small;
  shortest = shortest_exactly;
  announced = announced_reads_back;
  all_built = announced_built;
  read = reads_exactly;
  sums = read_sums_up;
  p2max = rule;
  codes = codes_back;
  windows = windows_back;
  coded = codes_exactly;
  uncoded = no_codes;
  normal = normal_codes_lem;
  extended = extended_codes_lem;
}

-- of the link whose step `link::step` promises
proved : DemandTwo ours
proved = record {
  foundation = foundation;
  connects_exactly = starts.connects_exactly;
  connects_names = starts.connects_names;
  frames_read = reporting.frames_read;
  frames_exactly = opening.frames_exactly;
  turns_exactly = opening.turns_exactly;
  opens_first = beginning.opens_first;
  damage_exactly = damaging.damage_exactly;
  damage_names = damaging.damage_names;
  damage_reasons = breaking.damage_reasons;
  messages_in_session = reporting.comes_in;
  downs_exactly = leaving.downs_exactly;
  stops_exactly = opening.stops_exactly;
  no_reply_exactly = leaving.no_reply_exactly;
  only_in_session = leaving.only_in_session;
  not_idle_exactly = leaving.not_idle_exactly;
  wrong_low_exactly = leaving.wrong_low_exactly;
  fails_exactly = failing.fails_exactly;
  under_way = failing.under_way;
  closed_start_exactly = initializing.closed_start_exactly;
  never_else = failing.never_else;
  outside_exactly = initializing.outside_exactly;
  none_held_lem = none_held.none_held_lem;
  each_formed = each.each_formed;
  in_order = order.in_order;
  three_at_most = at_most.three_at_most;
  lent_alike = lending.lent_alike;
  failed_names_lem = failed_names.failed_names_lem;
}

pub demand_two : DemandTwo our_link
demand_two = proved
