use Rattle.qss_top.proofs.Common.{◌≡◌, Answer, false, Machine, zero}
use Rattle.qss_top.specs.MachineAnswers.{summary_answer}
use Rattle.qss_top.proofs.SourceSteps.{machine_refused, machine_step}
use Rattle.qss_top.proofs.generation.on_generation.Goals as goal

pub returns-in-Ok-compile_source : goal.returns-in-Ok-compile_source
returns-in-Ok-compile_source g c =
    let cells = c.args.generation.cells in
    let writes = machine_step {share = zero}
    {IsSuch = λ (m : Machine) (a : Answer). a ≡ summary_answer cells m}
    c.in-Ok-compile_source.ensures.machine c.sum_machine.ensures in
    rw (c.deref.ensures.value, c.in-Ok.ensures.text) at writes

pub returns-in-Ok : goal.returns-in-Ok
returns-in-Ok g c =
    let cells = c.args.generation.cells in
    let writes = machine_refused {written = λ k. g.O.Sink.written k}
    {faults = λ k. g.O.Sink.faults k} {failed = λ k. g.O.Sink.failed k} {goes = false}
    {share = zero} {IsSuch = λ (m : Machine) (a : Answer). a ≡ summary_answer cells m}
    {k = c.args.out.now} (rw c.deref.ensures.value c.in-Ok.ensures.short)
    c.in-Err-compile_source.ensures.refused in
    rw (c.deref.ensures.value, c.in-Ok.ensures.text) at writes
