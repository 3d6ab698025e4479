use Rattle.qss_top.proofs.Common.{ℕ, ◌∙◌, overflowed, refl, sym}
use Rattle.std.proofs.Common.{ℤ, ap₂, rules}
use Rattle.std.proofs.lemmas.Int.{to_z-of_z}
use Rattle.std.specs.Int.RustNames.{FitsSigned}
use Rattle.qss_top.specs.MachineAnswers.{summary_of}
use Rattle.qss_top.proofs.FrameFacts.{memory_writes, rejection_writes}
use mir.Syntax.{w128}
use Rattle.qss_top.proofs.generation.sum_machine.Goals as goal

pub write_text-requires : goal.write_text-requires
write_text-requires g c e = cc (sym (c.deref.ensures.value ∙ c.in-Ok.ensures) ∙ e)

pub returns-in-Ok : goal.returns-in-Ok
returns-in-Ok g c =
    let (end, levels, sum) = c.in-Ended.ensures in
    let fits : FitsSigned w128 c.in-Ended.sum = search rules in
    let same = c.deref.ensures.value ∙ c.in-Ok.ensures
    ∙ ap₂ (λ (n : ℕ) (z : ℤ). summary_of c.args.cells c.args.m.last n z) levels
    (to_z-of_z w128 c.in-Ended.sum fits ∙ sum) in
    rw end (rw same at c.write_text.ensures)

pub returns-in-Err : goal.returns-in-Err
returns-in-Err g c = memory_writes

pub returns-in-Overflowed : goal.returns-in-Overflowed
returns-in-Overflowed g c =
    let (var, overflow, name_is, tick_is) = c.in-Overflowed.ensures in
    rejection_writes (overflowed c.in-Overflowed.name c.in-Overflowed.tick) refl
    (rw (overflow, name_is, tick_is) refl) refl

pub returns-in-Memory : goal.returns-in-Memory
returns-in-Memory g c = memory_writes
