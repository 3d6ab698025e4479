-- The inputs of all variables.
use Rattle.qss_devs.proofs.Common
use Common.{ℕ, ◌+◌, ◌≡◌, ap, AreFirstInputs, arith, discrete_count, EachAt, FunctionInput, Global}
use Common.{length, List, map, state_count, subst, Vec}
use Rattle.qss_devs.proofs.coupled_inputs.start_function_inputs.Goals as goal

pub returns-clause-each : goal.returns-clause-each
returns-clause-each c =
    let m = c.args.m.now in
    let lists : List (List FunctionInput) = map (λ (list : Vec FunctionInput Global). list.items)
    c.loop-var.lists.items in
    let end : c.loop-var.var ≡ state_count m + discrete_count m =
    omega (
      arith,
      c.loop-var-test.false,
      c.loop-var.invariant.within,
      ap length
          c.as_slice-states.ensures,
      ap length c.as_slice-discretes.ensures,
    ) in
    subst (λ (past : ℕ). EachAt (AreFirstInputs m past) lists) end c.loop-var.invariant.each
