-- DEMAND 1 HOLDS of our link. Its statements are in specs/DemandOne.antt; the work is in the files cited here.
-- Assumes nothing.
use mathlib.Core.Path.{◌≡◌}
use Rattle.demands.specs.Histories.{after}
use Rattle.demands.proofs.Numbers.Refusing as refusing
use Rattle.demands.proofs.WrongLinks.Computed.{retiming, computed}
use Rattle.demands.proofs.Numbers.Answering as answering
use Rattle.demands.specs.DemandOne.{DemandOne}
use Rattle.demands.specs.Ours.{ours}
use Rattle.demands.specs.OurLink.{our_link}

-- of the link whose step `link::step` promises
proved : DemandOne ours
proved = record {
  numbered = answering.numbered_behind;
  refused_as_before = answering.refused_as_before;
  fresh_takes = answering.fresh_takes;
  some_event_taken = answering.some_event_taken;
  history_numbers = answering.history_numbers;
  history_numbered = answering.history_numbered;
  never_above = answering.never_above;
  building_numbered = refusing.build_numbered;
  building_as_before = refusing.build_as_before;
  frame_size = refusing.frame_size;
  reading_numbered = refusing.read_numbered;
  reading_zeros = refusing.read_zeros;
  codes_numbered = refusing.decode_numbered;
  windows_numbered = refusing.encode_numbered;
  codes_zeros = refusing.decode_zeros;
  windows_zeros = refusing.encode_zeros;
}

pub demand_one : DemandOne our_link
demand_one = proved

-- And a fresh link takes all 26 of these events: the initialization of document 01's example, a request for new timing, and its reply.
pub example_taken : (after our_link retiming).link.taken ≡ 26
example_taken = computed.ours_taken
