use Rattle.std.proofs.Common.{◌∙◌, sym}
use Rattle.qss.proofs.Sessions.{if_ok, not_turned}
use Rattle.qss.proofs.finish.Goals as goal

pub returns-clause-passed : goal.returns-clause-passed
returns-clause-passed g c = λ ok other.
    if_ok c.pass_rest-passed.result _
    (sym c.is_err.ensures.value ∙ c.final_status-status.ensures.flushed ok other)
    c.pass_rest-passed.ensures.whole (not_turned c.args.returned ok)
