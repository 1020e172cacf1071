-- `text::put_end` meets its contract: the word, and the line after it. Assumes nothing.
use Rattle.std.proofs.Common.{rules, ◌+◌, ◌≤◌, length}
use Rattle.words.proofs.Written.{puts_writes}
use Rattle.text.specs.Text.{end_text, end_most}
use Rattle.text.proofs.Parts.{word_line, room_there}
use Rattle.text.proofs.put_end.Goals as goal

pub returns : goal.returns
unfolding end_text
returns c =
    let room : c.args.at + end_most ≤ length c.args.out.now = search (rules, room_there) in
    puts_writes _ _ _ _ _ _ room (word_line _ _ _ _ _ _ _ _ _ room c.put_text-to.ensures c.put_line.ensures)
