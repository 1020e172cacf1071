-- DEMAND 3 HOLDS of our link. Its statements are in specs/DemandThree.antt; the work is in the files cited here.
-- Assumes nothing.
use Rattle.demands.proofs.Accounts.Accounted as accounting
use Rattle.demands.proofs.Histories.LentCounts as lending
use Rattle.demands.specs.DemandThree.{DemandThree}
use Rattle.demands.specs.Ours.{ours}
use Rattle.demands.specs.OurLink.{our_link}

-- of the link whose step `link::step` promises
proved : DemandThree ours
proved = record {
  accounted = accounting.accounted;
  lent_counts = lending.lent_counts;
  all_counted = accounting.all_counted;
}

pub demand_three : DemandThree our_link
demand_three = proved
