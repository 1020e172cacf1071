-- A move by what its report says. Assumes nothing.
use Rattle.base.specs.Reports.{frame_report, damage_report, connected_report, failed_report, outside_report, no_reply_report, down_report, not_idle_report}
use Rattle.base.specs.Reports.{no_reason}
use Rattle.base.specs.Failures.{failure_number}
use Rattle.phases.specs.declared.Phase.{Phase}
use Rattle.moves.specs.declared.Move.{Move}
use Rattle.moves.specs.declared.saying.Said.{Said}
use Rattle.moves.specs.declared.saying.Said.TheVariants.{Frame, Damage, Connected, Failed, Outside, NoReply, Down, NotIdle}
use Rattle.moves.specs.Moves.{makes}

abbrev pub says : Said → Phase → Move
says Frame p = makes frame_report no_reason p
says (Damage why) p = makes damage_report why p
says Connected p = makes connected_report no_reason p
says (Failed why) p = makes failed_report (failure_number why) p
says Outside p = makes outside_report no_reason p
says NoReply p = makes no_reply_report no_reason p
says (Down why) p = makes down_report why p
says NotIdle p = makes not_idle_report no_reason p
