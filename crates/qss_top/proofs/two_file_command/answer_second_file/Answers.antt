use Rattle.qss_top.proofs.Common.{refl}
use Rattle.qss_cli.specs.Requests.{side_in}
use Rattle.qss_top.proofs.CommandSteps.{side_names}
use Rattle.qss_top.proofs.FileSteps.{answer_step}
use Rattle.qss_top.proofs.two_file_command.answer_second_file.Goals as goal

pub returns-in-Certify : goal.returns-in-Certify
returns-in-Certify g c =
    rw c.in-Certify.is (answer_step (λ a h. (refl, h)) c.certify_machine.ensures.answered)

pub returns-in-Upgrade : goal.returns-in-Upgrade
returns-in-Upgrade g c =
    rw c.in-Upgrade.is (answer_step (λ a h. (refl, h)) c.upgrade_machine.ensures)

pub returns-in-Check : goal.returns-in-Check
returns-in-Check g c =
    rw c.in-Check.is (answer_step (λ a h. (refl, h)) c.check_machine.ensures.answered)

pub returns-in-Compare : goal.returns-in-Compare
returns-in-Compare g c =
    let sides = c.in-Compare.sides in
    rw c.in-Compare.is
    (rw (
      c.named_origin.ensures,
      c.named_origin-in-Compare.ensures,
      side_names (side_in sides.one),
      side_names (side_in sides.two),
    ) at c.compare_runs.ensures)
