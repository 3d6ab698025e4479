use Rattle.mu_unroll.proofs.Common.{◌<◌, ◌≤◌, arith, flat_variable, length, length-map, map, sym}
use Rattle.mu_unroll.proofs.Starts.{start_set, start_past}
use Rattle.mu_unroll.proofs.start_values.set_unrolled_start_at.Goals as goal

pub returns-then-place-len : goal.returns-then-place-len
returns-then-place-len c =
    let vars = c.args.vars.now in
    let within : c.args.number < length vars.items = omega arith in
    start_set vars.items c.args.number c.index_mut.result.now c.args.value within c.index_mut.ensures.value

pub returns-else-place-len : goal.returns-else-place-len
returns-else-place-len c =
    let vars = c.args.vars.now in
    let past : length (map flat_variable vars.items) ≤ c.args.number = omega (arith, length-map vars.items flat_variable) in
    sym (start_past (map flat_variable vars.items) c.args.number c.args.value past)
