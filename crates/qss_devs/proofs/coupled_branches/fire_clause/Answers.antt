-- The first due branch fires, and without one nothing changes.
use Rattle.qss_devs.proofs.Common
use Common.{◌+◌, ◌∙◌, ◌≡◌, ◌≤◌, Action, ap, arith, Bool, branch_at, clause_at, conditions_few}
use Common.{due_flags, false, flags_from, HandlerState, handling_of, length, List, refl}
use Common.{run_first_due, sym, values_after}
use Rattle.std.proofs.lemmas.List.Quantifiers.{position-Some}
use Rattle.std.proofs.lemmas.List.Sums.{get_or-le-sum_by}
use Rattle.std.specs.List.{position}
use Rattle.qss_machine.specs.declared.machine_parts.BranchInfo.{BranchInfo}
use Rattle.qss_machine.specs.Handlers.{run_branch}
use Rattle.qss_hand.specs.Values.{Values}
use Rattle.qss_hand.proofs.Turns.{first_fires, none_due}
use Rattle.qss_hand.proofs.Branches.{no_branch}
use Rattle.qss_devs.proofs.DueFlags.{length-due, length-flags, none_set}
use Rattle.qss_devs.proofs.coupled_branches.fire_clause.Goals.{After-first_due_branch}
use Rattle.qss_devs.proofs.coupled_branches.fire_clause.Goals as goal

pub first_due_branch-requires : goal.first_due_branch-requires
first_due_branch-requires c =
    let have = c.requires.flags in
    let many = conditions_few c.args.m.now in
    record {
      inside = omega (arith, c.branch_count-count.ensures, c.requires.inside, have.current);
      count_limit = omega (arith, have.current, many);
      flags = record {
        current = refl;
        at_arrival = have.at_arrival ∙ sym have.current;
        after_handlers = have.after_handlers ∙ sym have.current;
      };
    }

-- the flags of the clause, and its first due branch
abbrev flags : After-first_due_branch → List Bool
flags c = flags_from c.args.first (length (clause_at c.args.m.now c.args.clause).branches) (due_flags c.args.truths.now)

many : (c : After-first_due_branch) → length (flags c) ≡ length (clause_at c.args.m.now c.args.clause).branches
many c =
    length-flags (due_flags c.args.truths.now) c.args.first _
    (omega (arith, length-due c.requires.flags, c.requires.inside))

found : (c : After-first_due_branch) → position (λ flag. flag) (flags c) ≡ c.first_due_branch.result
found c = rw (← c.branch_count-count.ensures) (sym c.first_due_branch.ensures)

pub fire-requires : goal.fire-requires
fire-requires c =
    let m = c.args.m.now in
    let k = (goal.at.fire-requires c).After-first_due_branch in
    let at = position-Some (λ flag. flag) (flags k) c.in-Some.branch false (found k ∙ c.in-Some.is) in
    let own : length (branch_at m c.args.clause c.in-Some.branch).actions ≤ _ =
    get_or-le-sum_by (λ (b : BranchInfo). length b.actions) (clause_at m c.args.clause).branches
    c.in-Some.branch no_branch (omega (arith, at.0, many k)) in
    record {
      clause = c.requires.clause;
      branch = omega (arith, at.0, many k);
      fits = c.requires.fits;
      room = omega (arith, own, c.requires.room);
    }

pub returns-in-Some : goal.returns-in-Some
returns-in-Some c =
    let m = c.args.m.now in
    let w : Values = c.args.w.now in
    let clause = c.args.clause in
    let k = (goal.at.returns-in-Some c).After-first_due_branch in
    let at = position-Some (λ flag. flag) (flags k) c.in-Some.branch false (found k ∙ c.in-Some.is) in
    let actions : List Action = (branch_at m clause c.in-Some.branch).actions in
    let zero : 0 + c.in-Some.branch ≡ c.in-Some.branch = omega arith in
    let e : run_first_due m w.tick w.pre clause 0 (handling_of w) (clause_at m clause).branches (flags k)
    ≡ run_branch m w.tick w.pre clause c.in-Some.branch (handling_of w) actions =
    rw zero at
    (first_fires m w.tick w.pre clause 0 c.in-Some.branch (handling_of w)
    (clause_at m clause).branches (flags k) no_branch (omega (arith, at.0, many k)) at.2 at.1) in
    record {
      values = c.fire.ensures.values ∙ ap (values_after w) (sym e);
      overflow = c.fire.ensures.overflow ∙ ap (λ (h : HandlerState). h.overflow) (sym e);
      fits = c.fire.ensures.fits;
    }

pub returns-in-None : goal.returns-in-None
returns-in-None c =
    let m = c.args.m.now in
    let w : Values = c.args.w.now in
    let k = (goal.at.returns-in-None c).After-first_due_branch in
    let e =
    none_due m w.tick w.pre c.args.clause 0 (handling_of w) (clause_at m c.args.clause).branches (flags k)
    (none_set (flags k) (found k ∙ c.in-None.is)) in
    record {
      values = ap (values_after w) (sym e);
      overflow = ap (λ (h : HandlerState). h.overflow) (sym e);
      fits = c.requires.fits;
    }
