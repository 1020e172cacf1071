-- Up to the text: the listing of an input, said by the history of the events that its lines give. Assumes nothing.
use Prim.Native.Nat.{ℕ}
use mathlib.Core.List.{List, [], ◌∷◌, ◌++◌, append-nil, append_assoc}
use mathlib.Core.Path.{◌≡◌, refl, sym, ap, ◌∙◌}
use Rattle.lines.specs.Lines.{fresh_reading, line_of}
use Rattle.text.specs.Text.{head_text, end_text}
use Rattle.listing.specs.Listing.{fresh_lister, stepped, said_of, held_of, listing_of}
use Rattle.listing.specs.declared.Lister.{Lister}
use Rattle.listing.specs.InputLines.{lines_of}
use Rattle.listing.proofs.ByLines.{listed_by, listing_by_lines}
use Rattle.demands.specs.Logs.{Log, none, ◌▷◌}
use Rattle.demands.specs.Inputs.{history_by, history_of, said_for}
use Rattle.demands.specs.Histories.{after}
use Rattle.demands.specs.Ours.{ours}

-- ---- a lister after events
abbrev lister_after : Log → Lister
lister_after es = record { link = (after ours es).link; counts = (after ours es).counts; reading = fresh_reading }

lister_on : (ls : List (List ℕ)) (es : Log) → (listed_by (lister_after es) ls).lister ≡ lister_after (history_by es ls)
unfolding listed_by history_by stepped after
lister_on [] es = refl
lister_on (l ∷ ls) es = lister_on ls (es ▷ line_of l)

said_on : (ls : List (List ℕ)) (es : Log) → said_for es ++ (listed_by (lister_after es) ls).said ≡ said_for (history_by es ls)
unfolding listed_by history_by stepped after said_for said_of
said_on [] es = append-nil (said_for es)
said_on (l ∷ ls) es =
    sym (append_assoc (said_for es) (said_of (lister_after es) (line_of l)) (listed_by (lister_after (es ▷ line_of l)) ls).said)
    ∙ said_on ls (es ▷ line_of l)

fresh_is : fresh_lister ≡ lister_after none
unfolding after
fresh_is = refl

-- THE LISTING OF ANY INPUT is the header, what is written for the events of its lines, and the end line of the counts and the bytes held after them.
pub listing_history : (input : List ℕ)
    → listing_of input
    ≡ head_text ++ (said_for (history_of input) ++ end_text (after ours (history_of input)).counts (held_of (after ours (history_of input)).link))
unfolding said_for
listing_history input =
    let ls = lines_of input in
    listing_by_lines input
    ∙ ap (λ (x : Lister). head_text ++ ((listed_by x ls).said ++ end_text (listed_by x ls).lister.counts (held_of (listed_by x ls).lister.link))) fresh_is
    ∙ ap (λ (y : Lister). head_text ++ ((listed_by (lister_after none) ls).said ++ end_text y.counts (held_of y.link))) (lister_on ls none)
    ∙ ap (λ (w : List ℕ). head_text ++ (w ++ end_text (after ours (history_of input)).counts (held_of (after ours (history_of input)).link))) (said_on ls none)
