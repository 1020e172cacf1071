-- `text::put_reports` meets its contract: a line more for each report. Assumes nothing.
use Rattle.std.proofs.Common.{rules, ◌+◌, ◌≤◌, ◌∙◌, sym, length}
use Rattle.std.proofs.lemmas.List.{take_more, take_all}
use Rattle.words.proofs.Written.{puts_writes}
use Rattle.reports.specs.Reporting.{no_report}
use Rattle.text.specs.Text.{reports_most}
use Rattle.text.proofs.Parts.{no_lines, lines_few, line_room, puts_line, puts_listed, room_there}
use Rattle.text.proofs.put_reports.Goals as goal

pub loop-x-init : goal.loop-x-init
loop-x-init c = no_lines _ _

pub put_report-to-requires : goal.put_report-to-requires
put_report-to-requires c =
    let room : c.args.at + reports_most ≤ length c.args.out.now = search (rules, room_there) in
    line_room _ _ _ _ _ room (lines_few c.args.rs _ _ c.as_slice-x-items.ensures c.loop-x-test.true) c.loop-x.invariant

pub loop-x-preserved : goal.loop-x-preserved
loop-x-preserved c =
    let room : c.args.at + reports_most ≤ length c.args.out.now = search (rules, room_there) in
    let few = lines_few c.args.rs _ _ c.as_slice-x-items.ensures c.loop-x-test.true in
    rw (take_more c.as_slice-x-items.result.now c.loop-x.x-index no_report c.loop-x-test.true)
    (puts_line _ _ _ _ _ _ _ _ room few c.loop-x.invariant c.put_report-to.ensures)

pub returns : goal.returns
returns c =
    let room : c.args.at + reports_most ≤ length c.args.out.now = search (rules, room_there) in
    let whole = sym (take_all c.loop-x.x-index c.as_slice-x-items.result.now c.loop-x-test.false ∙ c.as_slice-x-items.ensures) in
    puts_writes _ _ _ _ _ _ room (puts_listed _ c.args.rs _ _ _ _ whole c.loop-x.invariant)
