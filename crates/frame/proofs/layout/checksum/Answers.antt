-- What `checksum` leaves: its fold is the sum modulo 256. Assumes nothing.
use Rattle.std.proofs.Common.{rules, ◌≡◌, ℕ, ◌+◌, ◌%◌, ◌∙◌}
use Rattle.std.specs.Prelude.{fold}
use Rattle.frame.proofs.Lists.{checksum_folds}
use Rattle.frame.proofs.layout.checksum.Goals as goal

pub returns : goal.returns
returns c = let folded : c.fold.result ≡ fold (λ (sum x : ℕ). (sum + x) % 256) 0 c.args.s.now = search rules in folded ∙ checksum_folds c.args.s.now
