-- The first change is kept; else the sum is compared.
use Rattle.qss_components.proofs.Common.{◌∙◌, ◌≡◌, ap, of_z, sym, to_z, to_z-of_z, w128}
use Rattle.qss_components.proofs.FunctionsTold.{change_kept, change_none, change_here}
use Rattle.qss_components.proofs.function_model.function_change_by.Goals as goal

pub returns-in-Some : goal.returns-in-Some
returns-in-Some c = change_kept c.args.changed c.args.tick c.in-Some.first c.args.before c.args.after c.in-Some.is

pub returns-then-before-after : goal.returns-then-before-after
returns-then-before-after c =
    let same : c.args.before ≡ c.args.after =
    sym (to_z-of_z w128 c.args.before c.ranges.before) ∙ ap (to_z w128) c.if-before-after.true ∙ to_z-of_z w128 c.args.after c.ranges.after in
    change_none c.args.changed c.args.tick c.args.before c.args.after c.in-None.is same

pub returns-else-before-after : goal.returns-else-before-after
returns-else-before-after c =
    change_here c.args.changed c.args.tick c.args.before c.args.after c.in-None.is (λ same. c.if-before-after.false (ap (of_z w128) same))
