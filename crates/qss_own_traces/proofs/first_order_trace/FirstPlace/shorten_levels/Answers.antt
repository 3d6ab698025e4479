-- All levels.
use Rattle.qss_own_traces.proofs.Common.{◌∙◌, arith, length, refl}
use Rattle.qss_order2.proofs.Tables.{same_list}
use Rattle.qss_own_traces.proofs.first_order_trace.FirstPlace.shorten_levels.Goals as goal

pub returns-clause-shortened : goal.returns-clause-shortened
returns-clause-shortened c =
    let p = c.args.self.now in
    let inv = c.loop-j.invariant.short in
    same_list c.loop-j.self.short_levels.items p.levels.items (length p.levels.items)
    (inv.as_many ∙ c.requires.same_length) refl
    (λ k h. inv.each k (omega (arith, h, c.loop-j-test.false)))
