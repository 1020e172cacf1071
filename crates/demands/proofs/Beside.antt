-- The theorems about our own link that stand beside the demands. Assumes nothing.
use Rattle.talk.proofs.Frames.{message_reads}
use Rattle.phases.proofs.StateTests.{down_is}
use Rattle.demands.specs.Beside.{Beside}
use Rattle.demands.proofs.OneEvent.ThreeAtMost.{step_placed}
use Rattle.demands.proofs.Numbers.Answering as answering
use Rattle.demands.proofs.IdleTimes.AskedTime as starts
use Rattle.demands.proofs.IdleTimes.IdleLink.{idle_link}
use Rattle.demands.proofs.Sessions.SessionExactly as session
use Rattle.demands.proofs.Endings.StartingExactly as initializing
use Rattle.demands.proofs.Accounts.Accounted as accounting
use Rattle.demands.proofs.Sessions.CarMessages.{judged_by_bytes}
use Rattle.demands.proofs.Histories.CarsFit.{fitting_of}

pub beside : Beside
beside = record {
  numbered = answering.numbered;
  refused_zeros = answering.refused_zeros;
  becomes_connected_exactly = starts.becomes_connected_exactly;
  connects_link = starts.connects_link;
  messages = message_reads;
  car_messages = judged_by_bytes;
  car_links = λ es u c. let x = (fitting_of es).car u c in (x.windows, x.request);
  session_exactly = session.session_exactly;
  session_link = session.session_link;
  starting_exactly = initializing.starting_exactly;
  idle_link = λ es b d. idle_link es b (down_is d).0;
  idle = accounting.idle_none;
  four_places = step_placed;
  none_lost = accounting.none_lost;
  listing_shows = accounting.listing_shows;
}
