-- Where none is far that is due the near ones are taken.
use Rattle.qss_sched.proofs.Common.{refl}
use Rattle.qss_sched.proofs.Agendas.{near_at, far_at}
use Rattle.qss_sched.proofs.Takes.{apart_still, near_all_taken}
use Rattle.qss_sched.proofs.agenda.take_all.Goals as goal

pub may_be_due_at-requires : goal.may_be_due_at-requires
may_be_due_at-requires c = λ place due e. c.requires.none_before place due (far_at _ _ c.requires.apart place due e)

pub take_all-requires-clause-none_before : goal.take_all-requires-clause-none_before
take_all-requires-clause-none_before c = λ place due e. c.requires.none_before place due (near_at _ _ c.requires.apart place due e)

pub take_all-requires-clause-none_first : goal.take_all-requires-clause-none_first
take_all-requires-clause-none_first c = λ place h e. c.requires.none_first place h (near_at _ _ c.requires.apart place c.args.tick e)

pub returns-else-may_be_due_at-clause-apart : goal.returns-else-may_be_due_at-clause-apart
returns-else-may_be_due_at-clause-apart c =
    apart_still c.args.near.now c.args.far.now c.take_all.new.self c.args.first c.args.count c.args.tick _ c.requires.apart c.take_all.ensures.taken

pub returns-else-may_be_due_at-clause-taken : goal.returns-else-may_be_due_at-clause-taken
returns-else-may_be_due_at-clause-taken c =
    near_all_taken c.args.near.now c.args.far.now c.take_all.new.self c.args.first c.args.count c.args.tick _ c.requires.apart
    (c.if-may_be_due_at.ensures refl) c.take_all.ensures.taken
