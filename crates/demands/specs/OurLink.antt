-- The link that the demands are proved of: the step that `link::step` promises. (The gate's edits put a wrong one in its place.) Assumes nothing.
use Rattle.link.specs.Stepping.{step_of}
use Rattle.demands.specs.Histories.{Machine}
use Rattle.demands.specs.Ours.{machine_of}

abbrev pub our_link : Machine
our_link = machine_of step_of
