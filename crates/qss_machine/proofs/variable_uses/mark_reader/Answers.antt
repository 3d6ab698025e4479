use Rattle.std.proofs.lemmas.Result.{IfOk-weaker}
use Rattle.qss_machine.proofs.Marking.{marked_vec}
use Rattle.qss_machine.proofs.variable_uses.mark_reader.Goals as goal

pub returns : goal.returns
returns c =
    IfOk-weaker c.push_use_once.result _ _
    (λ done once. marked_vec c.args.lists.now.items c.index_mut.result.now c.push_use_once.new.list c.args.var c.args.place c.requires c.index_mut.ensures.value once)
    c.push_use_once.ensures
