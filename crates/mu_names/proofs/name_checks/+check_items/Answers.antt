use Rattle.mu_names.proofs.Common
use Common.{[], ℕ, ◌++◌, ◌+◌, ◌∙◌, ◌∷◌, ◌≡◌, ap, arith, drop, flat_map, Global, least_of, List}
use Common.{name_kind_at, NameErr, Option}
use Rattle.std.proofs.Common.{Vec, rules}
use Rattle.mu_tree.specs.Nests.{range_of}
use Rattle.mu_tree.proofs.Nesting.{body_smaller}
use Rattle.mu_names.proofs.NestedFaults.{left, loop_noted, one_noted}
use Rattle.mu_names.proofs.name_checks.+check_items.Goals.{in-One+in_ok-check_one-in-One}
use Rattle.mu_names.proofs.name_checks.+check_items.Goals.{in-Each+in_ok-enter_loop-in-Each+in_ok-check_items-in-Each}
use Rattle.mu_names.proofs.name_checks.+check_items.Goals as goal

pub check_items-requires : goal.check_items-requires
check_items-requires g t c κs within =
    let d = c.decreases in
    let s =
    body_smaller g.T.Nest.tree g.T.Nest.each g.T.Nest.item g.met.T.Nest.each_item c.args.items.now
    c.in-Each.body.now c.loop-one.one-index c.one-item.result _ c.loop-one-test.true c.one-item.is
    c.in-Each.ensures in
    (search (rules, arith, d, s), within)

pub loop-one-preserved : goal.loop-one-preserved
loop-one-preserved g t c =
    let d = name_kind_at c.args.declared.now in
    let first = c.args.loops.now.items in
    let faults = g.T.CheckNames.faults d in
    let xs = c.args.items.now in
    let i = c.loop-one.one-index in
    let x = c.one-item.result in
    let same = c.loop-one.invariant.1 in
    let noted : (l m : Option NameErr) → m ≡ l
    → least_of l (flat_map (faults first) (drop (i + 1) xs))
    ≡ least_of c.args.least.now (flat_map (faults first) xs)
    → least_of m (flat_map (faults first) (drop (i + 1) xs))
    ≡ least_of c.args.least.now (flat_map (faults first) xs) =
    λ l m e h. ap (λ n. least_of n (flat_map (faults first) (drop (i + 1) xs))) e ∙ h in
    elim c.match-nested.branch [
      | in-One+in_ok-check_one-in-One w ↦ (
        noted _ _ w.least-is
            (one_noted g.T.Nest.tree g.T.Nest.item faults xs i x w.in-One.one.now
            c.loop-one.loops.items first _ _ _ c.loop-one-test.true c.one-item.is w.in-One.ensures
            same w.in_ok-check_one-in-One.ensures.faults c.loop-one.invariant.0),
        ap (λ (v : Vec (List ℕ) Global). v.items) w.loops-is
            ∙ w.in_ok-check_one-in-One.ensures.loops ∙ same,
      )
      | in-Each+in_ok-enter_loop-in-Each+in_ok-check_items-in-Each w ↦
          let r = range_of w.in-Each.range in
          let entered = w.in_ok-enter_loop-in-Each.ensures in (
            noted _ _ w.least-is
                (loop_noted d faults xs w.in-Each.body.now i x r w.deref.result.now
                w.enter_loop.new.loops.items first _ _ _ _ c.loop-one-test.true c.one-item.is
                (g.met.T.CheckNames.loop_faults d first x r w.in-Each.body.now w.in-Each.ensures)
                (w.deref.ensures.value ∙ same) (entered ∙ ap (λ ls. ls ++ r.var ∷ []) same)
                w.check_range.ensures w.in_ok-check_items-in-Each.ensures.faults c.loop-one.invariant.0),
            ap (λ (v : Vec (List ℕ) Global). v.items) w.loops-is
                ∙ left c.loop-one.loops.items w.enter_loop.new.loops.items
                w.check_items.new.loops.items w.leave_loop.new.loops.items r.var entered
                w.in_ok-check_items-in-Each.ensures.loops w.leave_loop.ensures
                ∙ same,
          )
    ]
