-- The rows that read one more variable are weighed.
use Rattle.qss_states.proofs.Common
use Common.{ℕ, ℤ, ◌+◌, ◌<◌, ◌∙◌, ◌≡◌, All, AreReaderSums, arith, discrete_count, flat_map, get_or}
use Common.{is_listed, IsWeighed, IsWritten, List, lists_more, pos, reading_rows, rows_below}
use Common.{rows_kept, rows_many, state_count, subst, sym, take, take_all, true, written_on}
use Rattle.qss_states.proofs.Marked.{among_one, some_of_them, still_known}
use Rattle.qss_states.proofs.kept_weights.weigh_marked_readers.Goals as goal

pub rows_of-requires : goal.rows_of-requires
rows_of-requires c =
    omega (
      arith,
      c.requires.assigned c.loop-var.var-index 0 c.loop-var-test.true,
      rows_many c.args.at.now.machine.now c.args.at.now.uses.now c.requires.uses,
    )

pub weigh_marked_rows-requires-clause-rows : goal.weigh_marked_rows-requires-clause-rows
weigh_marked_rows-requires-clause-rows c =
    let m = c.args.at.now.machine.now in
    let var : ℕ = get_or c.args.handled.now.assigned.now c.loop-var.var-index 0 in
    let known : var < state_count m + discrete_count m =
    (c.requires.assigned c.loop-var.var-index 0 c.loop-var-test.true).1 in
    subst (All (λ row. row < state_count m)) (sym c.rows_of.ensures)
    (rows_below m c.args.at.now.uses.now c.requires.uses var known (state_count m) (omega arith))

pub weigh_marked_rows-requires-clause-marked : goal.weigh_marked_rows-requires-clause-marked
weigh_marked_rows-requires-clause-marked c =
    let m = c.args.at.now.machine.now in
    let i = c.loop-var.var-index in
    let vars : List ℕ = c.args.handled.now.assigned.now in
    let now : List ℤ = c.loop-var.weights in
    let known : get_or vars i 0 < state_count m + discrete_count m =
    (c.requires.assigned i 0 c.loop-var-test.true).1 in
    let Has = IsWeighed m c.args.at.now.levels.now c.args.handled.now.discretes.now in
    let all : List ℕ = flat_map (reading_rows m) vars in
    let still =
    still_known Has all _ c.args.weights.now now c.requires.marked c.loop-var.invariant in
    let rows =
    c.rows_of.ensures ∙ rows_kept m c.args.at.now.uses.now c.requires.uses (get_or vars i 0) known in
    some_of_them Has all c.rows_of.result.now now still
    (λ row among.
    among_one (reading_rows m) vars i row c.loop-var-test.true
    (subst (λ (these : List ℕ). is_listed these row ≡ true) rows among))

pub loop-var-preserved : goal.loop-var-preserved
loop-var-preserved c =
    let m = c.args.at.now.machine.now in
    let i = c.loop-var.var-index in
    let vars : List ℕ = c.args.handled.now.assigned.now in
    let var : ℕ = get_or vars i 0 in
    let old : List ℤ = c.args.weights.now in
    let now : List ℤ = c.loop-var.weights in
    let new : List ℤ = c.weigh_marked_rows.new.weights in
    let known : var < state_count m + discrete_count m =
    (c.requires.assigned i 0 c.loop-var-test.true).1 in
    let Has : ℕ → ℤ → Type 0 = IsWeighed m c.args.at.now.levels.now c.args.handled.now.discretes.now in
    let more : IsWritten (pos 0) Has (reading_rows m var) now new =
    subst (λ (rows : List ℕ). IsWritten (pos 0) Has rows now new)
    (c.rows_of.ensures ∙ rows_kept m c.args.at.now.uses.now c.requires.uses var known)
    c.weigh_marked_rows.ensures in
    subst (λ (rows : List ℕ). IsWritten (pos 0) Has rows old new)
    (sym (lists_more (reading_rows m) vars i c.loop-var-test.true))
    (written_on (pos 0) Has (flat_map (reading_rows m) (take i vars)) (reading_rows m var) old now
    new c.loop-var.invariant more)

pub returns : goal.returns
returns c =
    let m = c.args.at.now.machine.now in
    let Has : ℕ → ℤ → Type 0 = IsWeighed m c.args.at.now.levels.now c.args.handled.now.discretes.now in
    subst (λ (vars : List ℕ). AreReaderSums Has m vars c.args.weights.now c.loop-var.weights)
    (take_all c.loop-var.var-index c.args.handled.now.assigned.now c.loop-var-test.false) c.loop-var.invariant
