use Rattle.mu_affine.proofs.Common
use Common.{ℕ, ◌+◌, ◌∙◌, ap, arith, branch_forms, branch_of, err_from_is_err_and, first_failed}
use Common.{flat_action, flat_branch, FlatBranch, form_checks, length-map, placed, sum_by, sym}
use Common.{take_all}
use Rattle.mu_affine.proofs.Placing.{place_turn, place_within, placed_turn, none_turn, refused_turn}
use Rattle.mu_affine.proofs.Turns.{placed_map, sum_by_map}
use Rattle.mu_affine.proofs.rounded_machine.round_machine_branches.Goals as goal

pub round_machine_branch-requires-clause-within : goal.round_machine_branch-requires-clause-within
round_machine_branch-requires-clause-within c =
    omega (
      arith,
      c.requires.within,
      c.loop-branch.invariant.place,
      place_within (λ (b : FlatBranch). branch_forms (flat_branch b)) c.args.branches.now c.loop-branch.branch-index c.branch-item.result c.loop-branch-test.true c.branch-item.is,
      sum_by_map flat_branch branch_forms c.args.branches.now,
    )

pub returns-in_err-made-clause-err : goal.returns-in_err-made-clause-err
returns-in_err-made-clause-err c =
    let size = λ (b : FlatBranch). branch_forms (flat_branch b) in
    let whole = sum_by_map flat_branch branch_forms c.args.branches.now in
    let p = err_from_is_err_and c.from_residual.result c.from_residual.ensures.1 in
    rw (p.1, p.2)
    (refused_turn c.args.units.p c.args.units.f c.args.forms.now size c.args.first c.args.branches.now c.loop-branch.branch-index c.branch-item.result c.loop-branch.next
    c.loop-branch-test.true c.branch-item.is c.loop-branch.invariant.place (omega (arith, c.requires.within, whole)) c.loop-branch.invariant.none _ _ whole c.in_err-made.ensures.err)

pub loop-branch-preserved : goal.loop-branch-preserved
loop-branch-preserved c =
    let size = λ (b : FlatBranch). branch_forms (flat_branch b) in
    let make = λ (k : ℕ) (b : FlatBranch). branch_of c.args.units.p c.args.units.f c.args.forms.now k (flat_branch b) in
    let whole = sum_by_map flat_branch branch_forms c.args.branches.now in
    let x = c.branch-item.result in
    let i = c.loop-branch.branch-index in
    record {
      so_far = c.in_ok-push.ensures.items
          ∙ placed_turn size make c.args.first c.args.branches.now i x c.loop-branch.items.items c.loop-branch.next c.in_ok-made.made c.loop-branch-test.true c.branch-item.is
          c.loop-branch.invariant.so_far c.loop-branch.invariant.place c.in_ok-made.ensures.branch;
      place =
          let turn = place_turn size c.args.first c.args.branches.now i x c.loop-branch.next c.loop-branch-test.true c.branch-item.is c.loop-branch.invariant.place in
          omega (arith, turn, c.len.ensures, x.body.ok.0, length-map x.body.items flat_action);
      none = none_turn c.args.units.p c.args.units.f c.args.forms.now size c.args.first c.args.branches.now i x c.loop-branch.next c.loop-branch-test.true c.branch-item.is
          c.loop-branch.invariant.place (omega (arith, c.requires.within, whole)) c.loop-branch.invariant.none c.in_ok-made.ensures.ok;
    }

pub returns-clause-branches : goal.returns-clause-branches
returns-clause-branches c =
    let make = branch_of c.args.units.p c.args.units.f c.args.forms.now in
    c.loop-branch.invariant.so_far
    ∙ ap (placed (λ (b : FlatBranch). branch_forms (flat_branch b)) (λ k (b : FlatBranch). make k (flat_branch b)) c.args.first) (take_all c.loop-branch.branch-index c.args.branches.now c.loop-branch-test.false)
    ∙ sym (placed_map flat_branch branch_forms make c.args.first c.args.branches.now)

pub returns-clause-next : goal.returns-clause-next
returns-clause-next c =
    let size = λ (b : FlatBranch). branch_forms (flat_branch b) in
    c.loop-branch.invariant.place
    ∙ ap (λ xs. c.args.first + sum_by size xs) (take_all c.loop-branch.branch-index c.args.branches.now c.loop-branch-test.false)
    ∙ ap (λ n. c.args.first + n) (sym (sum_by_map flat_branch branch_forms c.args.branches.now))

pub returns-clause-ok : goal.returns-clause-ok
returns-clause-ok c =
    let size = λ (b : FlatBranch). branch_forms (flat_branch b) in
    ap (λ n. first_failed (form_checks c.args.units.p c.args.units.f c.args.forms.now c.args.first n))
    (sum_by_map flat_branch branch_forms c.args.branches.now ∙ ap (sum_by size) (sym (take_all c.loop-branch.branch-index c.args.branches.now c.loop-branch-test.false)))
    ∙ c.loop-branch.invariant.none
