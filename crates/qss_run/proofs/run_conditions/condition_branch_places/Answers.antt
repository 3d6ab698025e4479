-- The branches of one more clause.
use Rattle.qss_run.proofs.Common
use Common.{[], ◌++◌, ◌<◌, ◌∙◌, ◌≡◌, ap, arith, clause_at, ClauseInfo, clauses_few, get_or}
use Common.{get_or_default, length, length-conditions, List, map, range_with_len, sum_by, sym}
use Common.{take_all, width_of}
use Rattle.qss_run.proofs.Branches.{place_of, width_few, count_more, branches_more}
use Rattle.qss_run.proofs.run_conditions.condition_branch_places.Goals as goal

pub overflow_cast-clause : goal.overflow_cast-clause
overflow_cast-clause c = omega (arith, c.loop-clause-test.true, ap length c.as_slice-clauses.ensures, clauses_few c.args.m.now)

pub add_condition_branches-requires : goal.add_condition_branches-requires
add_condition_branches-requires c =
    let m = c.args.m.now in
    let i = c.loop-clause.clause in
    let h : i < length m.clauses = omega (arith, c.loop-clause-test.true, ap length c.as_slice-clauses.ensures) in
    let own : length c.as_slice-count.result.now ≡ width_of (clause_at m i) =
    ap length c.as_slice-count.ensures
    ∙ ap (λ (xs : List ClauseInfo). length (get_or xs i c.index-clauses-clause.result).branches) c.as_slice-clauses.ensures
    ∙ ap width_of (get_or_default m.clauses i c.index-clauses-clause.result (record { branches = [] }) h) in
    omega (arith, own, width_few m i h)

pub loop-clause-preserved : goal.loop-clause-preserved
loop-clause-preserved c =
    let m = c.args.m.now in
    let i = c.loop-clause.clause in
    let inv = c.loop-clause.invariant in
    let h : i < length m.clauses = omega (arith, c.loop-clause-test.true, ap length c.as_slice-clauses.ensures) in
    let own : length c.as_slice-count.result.now ≡ width_of (clause_at m i) =
    ap length c.as_slice-count.ensures
    ∙ ap (λ (xs : List ClauseInfo). length (get_or xs i c.index-clauses-clause.result).branches) c.as_slice-clauses.ensures
    ∙ ap width_of (get_or_default m.clauses i c.index-clauses-clause.result (record { branches = [] }) h) in
    let added : c.add_condition_branches.new.found.items ≡ c.loop-clause.found.items ++ map (place_of i) (range_with_len 0 (width_of (clause_at m i))) = c.in_ok-add_condition_branches.ensures ∙ ap (λ n. c.loop-clause.found.items ++ map (place_of i) (range_with_len 0 n)) own in
    record {
      as_many = count_more m i c.loop-clause.found.items c.add_condition_branches.new.found.items h inv.as_many added;
      each = branches_more m i c.loop-clause.found.items c.add_condition_branches.new.found.items h inv.as_many added inv.each;
    }

pub returns : goal.returns
returns c =
    let m = c.args.m.now in
    let inv = c.loop-clause.invariant in
    record {
      as_many = inv.as_many ∙ ap (sum_by width_of) (take_all c.loop-clause.clause m.clauses (omega (arith, c.loop-clause-test.false, ap length c.as_slice-clauses.ensures))) ∙ sym (length-conditions m.clauses);
      each = inv.each;
    }
