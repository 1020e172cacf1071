-- `text::put_refusal` meets its contract: the word, and the line after it. Assumes nothing.
use Rattle.std.proofs.Common.{rules, ◌+◌, ◌≤◌, length}
use Rattle.words.proofs.Written.{puts_writes}
use Rattle.text.specs.Text.{refused_text, refused_most}
use Rattle.text.proofs.Parts.{word_line, room_there}
use Rattle.text.proofs.put_refusal.Goals as goal

pub returns : goal.returns
unfolding refused_text
returns c =
    let room : c.args.at + refused_most ≤ length c.args.out.now = search (rules, room_there) in
    puts_writes _ _ _ _ _ _ room (word_line _ _ _ _ _ _ _ _ _ room c.put_text-to.ensures c.put_line.ensures)
