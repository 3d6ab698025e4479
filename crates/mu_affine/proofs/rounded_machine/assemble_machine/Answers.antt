use Rattle.mu_affine.proofs.Common.{◌+◌, ◌^◌, pos, refl}
use Rattle.mu_affine.proofs.Assembled.{variables_for, rows_for, clauses_for}
use Rattle.mu_affine.proofs.rounded_machine.assemble_machine.Goals as goal

pub invariant_of-result : goal.invariant_of-result
invariant_of-result c =
    let u = c.args.units in
    let unit = pos (2 ^ (u.p + u.k)) in
    record {
      has_units = u.in_range;
      has_variables = variables_for u.f unit c.new.result c.args.states.items c.new-2.result c.args.discretes.items c.new.ensures c.new-2.ensures c.requires.variables;
      has_rows = rows_for u.f unit c.new.result c.args.states.items c.new-2.result c.args.discretes.items c.new.ensures c.new-2.ensures c.new-3.result c.args.rows.items c.new-3.ensures c.requires.rows;
      has_clauses = clauses_for u.f unit c.new.result c.args.states.items c.new-2.result c.args.discretes.items c.new.ensures c.new-2.ensures c.new-4.result c.args.clauses.items c.new-4.ensures
          c.requires.clauses;
    }

pub returns-clause-units : goal.returns-clause-units
returns-clause-units c = (refl, refl, refl, refl, refl)

pub returns-clause-lists : goal.returns-clause-lists
returns-clause-lists c = (c.new.ensures, c.new-2.ensures, c.new-3.ensures, c.new-4.ensures)
