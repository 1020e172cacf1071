-- Any two results that meet a public function's promise are equal, and so is the memory that they leave. Assumes nothing.
use mathlib.Core.Path.{◌≡◌}
use mathlib.Core.List.{List}
use Prim.Native.Nat.{ℕ, ◌+◌}
use lib.ListN.{length}
use Rattle.std.specs.Prelude.{if◌then◌else◌}
use Rattle.base.proofs.One.{Only, only, only_both}
use Rattle.words.specs.Writing.{put, fits, Writes}
use Rattle.listing.specs.Listing.{fresh_lister, ending_of}
use Rattle.listing.specs.Parts.{ending_most, part_of, Parted}
use Rattle.listing.specs.declared.Lister.{Lister}
use Rattle.listing.specs.declared.Part.{Part}

pub begin : Only (λ (r : Lister). r ≡ fresh_lister)
begin = only fresh_lister

-- the part that the promise fixes
parted : (l : Lister) (s out : List ℕ) (r : Part) (after : List ℕ) → Parted l s out r after
    → r ≡ record { lister = (part_of l s (length out)).feed.lister; at = (part_of l s (length out)).at; put = length (part_of l s (length out)).feed.said }
parted l s out r after p i = record { lister = p.lister i; at = p.read i; put = p.written i }

pub list_part : (l : Lister) (s out : List ℕ) → Only (λ (x : Part × List ℕ). Parted l s out x.0 x.1)
list_part l s out = only_both _ (put 0 (part_of l s (length out)).feed.said out) (λ x p. (parted l s out x.0 x.1 p, p.memory))

pub finish : (l : Lister) (out : List ℕ) → Only (λ (x : ℕ × List ℕ). Writes (ending_of l) ending_most 0 out x.0 x.1)
finish l out =
    only_both (if fits 0 ending_most out then 0 + length (ending_of l) else 0) (if fits 0 ending_most out then put 0 (ending_of l) out else out)
    (λ x w. (w.place, w.memory))
