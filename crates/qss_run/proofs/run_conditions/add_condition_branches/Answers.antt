-- One more branch.
use Rattle.qss_run.proofs.Common.{refl}
use Rattle.qss_run.proofs.Branches.{place_of, place_more}
use Rattle.qss_run.proofs.run_conditions.add_condition_branches.Goals as goal

pub loop-branch-preserved : goal.loop-branch-preserved
loop-branch-preserved c =
    place_more (place_of c.args.clause) c.args.found.now.items c.loop-branch.found.items c.push.new.self.items c.loop-branch.branch (place_of c.args.clause c.loop-branch.branch)
    c.loop-branch.invariant c.in_ok-push.ensures.items refl
