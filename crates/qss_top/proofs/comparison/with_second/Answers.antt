use Rattle.qss_top.proofs.Common.{[], append-nil, names_of, origin_in, refl}
use Rattle.qss_top.proofs.Comparing.{no_trace_step, obtained_size, trace_step}
use Rattle.qss_top.proofs.FileSteps.{answer_step}
use Rattle.qss_top.proofs.comparison.with_second.Goals as goal

pub with_both-requires : goal.with_both-requires
with_both-requires g c = record { first = c.requires; second = obtained_size c.in-Ok.ensures }

pub returns-in-Ok : goal.returns-in-Ok
returns-in-Ok g c = rw (← append-nil (names_of (origin_in c.args.origin))) (trace_step []
    c.in-Ok.ensures (answer_step (λ a is. (refl, is))
    c.with_both.ensures))

pub returns-in-Err : goal.returns-in-Err
returns-in-Err g c = rw (← append-nil (names_of (origin_in c.args.origin))) (no_trace_step []
    c.args.basis.scope c.in-Err.ensures)
