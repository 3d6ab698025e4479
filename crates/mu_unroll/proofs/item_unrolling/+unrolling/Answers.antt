use Rattle.mu_unroll.proofs.Common
use Common.{◌+◌, ◌^◌, ◌∙◌, ◌≤◌, ap, arith, drop, in_order, inside, item_within, loop_size}
use Common.{progress_of, range_of, rules, subst, sym, unsigned_abs}
use Rattle.std.specs.Int.{w128}
use Rattle.std.proofs.lemmas.Int.{to_z-of_z}
use Rattle.mu_unroll.proofs.Rounding.{le_of, one_round}
use Rattle.mu_unroll.proofs.Walks.{entry_small, fault_of, item_done, item_fault, items_begin}
use Rattle.mu_unroll.proofs.Walks.{items_done, raised, round_done, round_refused, round_too_many}
use Rattle.mu_unroll.proofs.Walks.{rounds_begin, rounds_done}
use Rattle.mu_unroll.proofs.WalkSteps.{begins, none, refused, split}
use Rattle.mu_unroll.proofs.item_unrolling.+unrolling.Goals as goal

pub unroll_items-loop-one-init : goal.unroll_items-loop-one-init
unroll_items-loop-one-init g t c =
    items_begin (in_order g.T.Unroll.unrolled c.args.items.now) c.args.env.now
    (progress_of g.T.Unroll.made c.args.output.now)

pub unroll_items-unroll_item-requires : goal.unroll_items-unroll_item-requires
unroll_items-unroll_item-requires g t c κs within =
    let d = c.decreases in
    let s =
    item_within g.T.Nest.tree g.T.Nest.item c.args.items.now c.loop-one.one-index c.one-item.result
    c.loop-one-test.true c.one-item.is in (
      search (rules, arith, d, s),
      (within.0, (within.1, rw c.loop-one.invariant.names.declared c.requires.placed)),
    )

pub unroll_items-loop-one-preserved : goal.unroll_items-loop-one-preserved
unroll_items-loop-one-preserved g t c =
    let u = g.T.Unroll.unrolled in
    let i = c.loop-one.one-index in
    let xs = c.args.items.now in
    let p = progress_of g.T.Unroll.made c.loop-one.output in
    item_done (in_order u (drop i xs)) (u c.one-item.result) (in_order u (drop (i + 1) xs))
    c.args.env.now _ c.loop-one.env c.unroll_item.new.env p
    (progress_of g.T.Unroll.made c.unroll_item.new.output) c.loop-one.invariant
    (split u c.args.env.now xs i c.one-item.result p c.loop-one-test.true c.one-item.is)
    c.in_ok-unroll_item.ensures.ok c.in_ok-unroll_item.ensures.env

pub unroll_items-returns-in_err-unroll_item-clause-err :
    goal.unroll_items-returns-in_err-unroll_item-clause-err
unroll_items-returns-in_err-unroll_item-clause-err g t c =
    let u = g.T.Unroll.unrolled in
    let i = c.loop-one.one-index in
    let xs = c.args.items.now in
    let p = progress_of g.T.Unroll.made c.loop-one.output in
    raised c.from_residual.result _ _ c.from_residual.ensures.1
    (item_fault (in_order u (drop i xs)) (u c.one-item.result) (in_order u (drop (i + 1) xs))
    c.args.env.now _ c.loop-one.env p _ c.loop-one.invariant
    (split u c.args.env.now xs i c.one-item.result p c.loop-one-test.true c.one-item.is)
    c.in_err-unroll_item.ensures.err)

pub unroll_items-returns-clause-ok : goal.unroll_items-returns-clause-ok
unroll_items-returns-clause-ok g t c =
    let u = g.T.Unroll.unrolled in
    let p = progress_of g.T.Unroll.made c.loop-one.output in
    items_done (in_order u (drop c.loop-one.one-index c.args.items.now)) c.args.env.now _
    c.loop-one.env p c.loop-one.invariant
    (none u c.args.env.now c.args.items.now c.loop-one.one-index p c.loop-one-test.false)

pub unroll_items-returns-clause-env : goal.unroll_items-returns-clause-env
unroll_items-returns-clause-env g t c = c.loop-one.invariant.names

pub unroll_item-returns-in_err-rounds-in-Each-clause-err :
    goal.unroll_item-returns-in_err-rounds-in-Each-clause-err
unroll_item-returns-in_err-rounds-in-Each-clause-err g t c =
    raised c.from_residual.result _ _ c.from_residual.ensures.1
    (refused g.T.Unroll.unrolled c.args.env.now c.args.one.now (range_of c.in-Each.range)
    c.in-Each.body.now (progress_of g.T.Unroll.made c.args.output.now) _
    (g.met.T.Unroll.unrolls_loop c.args.one.now (range_of c.in-Each.range) c.in-Each.body.now
    c.in-Each.ensures _ _ _) c.in_err-rounds-in-Each.ensures.value)

pub unroll_item-loop-range-init : goal.unroll_item-loop-range-init
unroll_item-loop-range-init g t c =
    rounds_begin (in_order g.T.Unroll.unrolled c.in-Each.body.now) c.in-Each.range.var.now c.args.env.now
    c.in_ok-rounds-in-Each.rounds (progress_of g.T.Unroll.made c.args.output.now)
    c.in_ok-rounds-in-Each.ensures.near

pub unroll_item-returns-in_err-output-in-Each-clause-err :
    goal.unroll_item-returns-in_err-output-in-Each-clause-err
unroll_item-returns-in_err-output-in-Each-clause-err g t c =
    let r = c.loop-range.rounds in
    let p = progress_of g.T.Unroll.made c.loop-range.output in
    raised c.from_residual-in_err-output-in-Each.result _ _
    c.from_residual-in_err-output-in-Each.ensures.1
    (fault_of _ _ _ (begins g.T.Unroll.unrolled c.args.env.now c.args.one.now (range_of c.in-Each.range)
    c.in-Each.body.now (progress_of g.T.Unroll.made c.args.output.now)
    c.in_ok-rounds-in-Each.rounds
    (g.met.T.Unroll.unrolls_loop c.args.one.now (range_of c.in-Each.range) c.in-Each.body.now
    c.in-Each.ensures _ _ _) c.in_ok-rounds-in-Each.ensures.value)
    (round_too_many (in_order g.T.Unroll.unrolled c.in-Each.body.now) c.in-Each.range.var.now _ _ c.loop-range.env r p _
    c.loop-range.invariant (sym c.has_next_value.ensures ∙ c.loop-range-test.true)
    (sym c.count_round.ensures ∙ c.in_err-output-in-Each.was)))

pub unroll_item-enter-requires : goal.unroll_item-enter-requires
unroll_item-enter-requires g t c =
    let value =
    to_z-of_z w128 c.first-value.result (record { sfits = c.first-value.type_inv })
    ∙ c.first-value.ensures in
    subst (λ z. unsigned_abs z ≤ 2 ^ 62) (sym value)
    (entry_small (in_order g.T.Unroll.unrolled c.in-Each.body.now) c.in-Each.range.var.now _ _ c.loop-range.env
    c.loop-range.rounds (progress_of g.T.Unroll.made c.loop-range.output) c.loop-range.invariant
    (sym c.has_next_value.ensures ∙ c.loop-range-test.true))

pub unroll_item-unroll_items-requires : goal.unroll_item-unroll_items-requires
unroll_item-unroll_items-requires g t c κs within =
    let d = c.decreases in
    let s =
    loop_size g.T.Nest.tree g.T.Nest.each g.T.Nest.item g.met.T.Nest.each_item c.args.one.now _
    c.in-Each.body.now c.in-Each.ensures in (
      search (rules, arith, d, s),
      (
        within.0,
        (
          within.1,
          rw (c.enter.ensures.declared, c.loop-range.invariant.names.declared) c.requires.placed,
        ),
      ),
    )

pub unroll_item-returns-in_err-unroll_items-in-Each-clause-err :
    goal.unroll_item-returns-in_err-unroll_items-in-Each-clause-err
unroll_item-returns-in_err-unroll_items-in-Each-clause-err g t c =
    let r = c.loop-range.rounds in
    let p = progress_of g.T.Unroll.made c.loop-range.output in
    let value =
    to_z-of_z w128 c.first-value.result (record { sfits = c.first-value.type_inv })
    ∙ c.first-value.ensures in
    raised c.from_residual-in_err-unroll_items-in-Each.result _ _
    c.from_residual-in_err-unroll_items-in-Each.ensures.1
    (fault_of _ _ _ (begins g.T.Unroll.unrolled c.args.env.now c.args.one.now (range_of c.in-Each.range)
    c.in-Each.body.now (progress_of g.T.Unroll.made c.args.output.now)
    c.in_ok-rounds-in-Each.rounds
    (g.met.T.Unroll.unrolls_loop c.args.one.now (range_of c.in-Each.range) c.in-Each.body.now
    c.in-Each.ensures _ _ _) c.in_ok-rounds-in-Each.ensures.value)
    (round_refused (in_order g.T.Unroll.unrolled c.in-Each.body.now) c.in-Each.range.var.now _ _ c.loop-range.env
    c.enter.new.self r p _ _ c.loop-range.invariant (sym c.has_next_value.ensures ∙
    c.loop-range-test.true) (sym c.count_round.ensures ∙ c.in_ok-output-in-Each.was)
    (record {
      declared = c.enter.ensures.declared;
      loops = c.in_ok-enter-in-Each.ensures.loops
          ∙ ap (inside c.loop-range.env.loops.items c.in-Each.range.var.now) value;
    })
    c.in_err-unroll_items-in-Each.ensures.err))

pub unroll_item-after_next_value-rounds-requires-clause-near :
    goal.unroll_item-after_next_value-rounds-requires-clause-near
unroll_item-after_next_value-rounds-requires-clause-near g t c = c.loop-range.invariant.near

pub unroll_item-loop-range-smaller : goal.unroll_item-loop-range-smaller
unroll_item-loop-range-smaller g t c =
    let r = c.loop-range.rounds in
    let le = le_of r.next r.last (sym c.has_next_value.ensures ∙ c.loop-range-test.true) in
    rw c.after_next_value-rounds.ensures (omega (arith, one_round r.next r.last le))

pub unroll_item-loop-range-preserved : goal.unroll_item-loop-range-preserved
unroll_item-loop-range-preserved g t c =
    let r = c.loop-range.rounds in
    let p = progress_of g.T.Unroll.made c.loop-range.output in
    let value =
    to_z-of_z w128 c.first-value.result (record { sfits = c.first-value.type_inv })
    ∙ c.first-value.ensures in
    rw c.after_next_value-rounds.ensures
    (round_done (in_order g.T.Unroll.unrolled c.in-Each.body.now) c.in-Each.range.var.now _ _ c.loop-range.env
    c.enter.new.self c.unroll_items.new.env c.leave.new.self r p _
    (progress_of g.T.Unroll.made c.unroll_items.new.output)
    c.loop-range.invariant (sym c.has_next_value.ensures ∙ c.loop-range-test.true)
    (sym c.count_round.ensures ∙ c.in_ok-output-in-Each.was)
    (record {
      declared = c.enter.ensures.declared;
      loops = c.in_ok-enter-in-Each.ensures.loops
          ∙ ap (inside c.loop-range.env.loops.items c.in-Each.range.var.now) value;
    })
    c.in_ok-unroll_items-in-Each.ensures.ok
    c.in_ok-unroll_items-in-Each.ensures.env
    (record { declared = c.leave.ensures.declared; loops = c.leave.ensures.loops }))

pub unroll_item-returns-after-loop-range-clause-ok :
    goal.unroll_item-returns-after-loop-range-clause-ok
unroll_item-returns-after-loop-range-clause-ok g t c =
    begins g.T.Unroll.unrolled c.args.env.now c.args.one.now (range_of c.in-Each.range)
    c.in-Each.body.now (progress_of g.T.Unroll.made c.args.output.now)
    c.in_ok-rounds-in-Each.rounds
    (g.met.T.Unroll.unrolls_loop c.args.one.now (range_of c.in-Each.range) c.in-Each.body.now
    c.in-Each.ensures _ _ _) c.in_ok-rounds-in-Each.ensures.value
    ∙ rounds_done (in_order g.T.Unroll.unrolled c.in-Each.body.now) c.in-Each.range.var.now _ _ c.loop-range.env
    c.loop-range.rounds (progress_of g.T.Unroll.made c.loop-range.output) c.loop-range.invariant
    (sym c.has_next_value.ensures ∙ c.loop-range-test.false)

pub unroll_item-returns-after-loop-range-clause-env :
    goal.unroll_item-returns-after-loop-range-clause-env
unroll_item-returns-after-loop-range-clause-env g t c = c.loop-range.invariant.names
