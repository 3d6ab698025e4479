-- All truths are settled, or nothing changes.
use Rattle.qss_run.proofs.Common.{◌∙◌, ap, Bool, if◌then◌else◌, sym}
use Rattle.qss_run.proofs.Apart.{lists_none}
use Rattle.qss_run.proofs.run_conditions.Conditions.copy_settled.Goals as goal

pub returns-then-still-clause-at_arrival : goal.returns-then-still-clause-at_arrival
returns-then-still-clause-at_arrival c =
    c.copy_all_settled.ensures.at_arrival ∙ ap (λ (b : Bool). if b then c.args.self.now.after_handlers.items else c.args.self.now.at_arrival.items) (sym c.if-still.true)

pub returns-then-still-clause-flipped : goal.returns-then-still-clause-flipped
returns-then-still-clause-flipped c =
    lists_none c.args.self.now c.copy_all_settled.new.self c.requires c.copy_all_settled.ensures.at_arrival c.copy_all_settled.ensures.flipped c.copy_all_settled.ensures.rest

pub returns-else-still-clause-at_arrival : goal.returns-else-still-clause-at_arrival
returns-else-still-clause-at_arrival c = ap (λ (b : Bool). if b then c.args.self.now.after_handlers.items else c.args.self.now.at_arrival.items) (sym c.if-still.false)
