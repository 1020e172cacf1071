-- `words::reading::number_of`: the digits before the loop's place have given a number, and with those that are left it gives the whole one. Assumes nothing.
use Rattle.std.proofs.Common.{◌≡◌, ◌≤◌, drop}
use Rattle.base.specs.Sums.{greatest}
use Rattle.words.specs.Reading.{number_by}
use Rattle.words.proofs.reading.number_of.Given as goal

abbrev pub invariant-loop-b : goal.invariant-loop-b
invariant-loop-b l = (l.n ≤ greatest) × (number_by l.n (drop l.b-index l.s) ≡ number_by 0 l.s)
