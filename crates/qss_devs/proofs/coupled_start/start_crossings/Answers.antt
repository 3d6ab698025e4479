-- The crossings of all clauses.
use Rattle.qss_devs.proofs.Common.{◌∙◌, ap, arith, each_none, IsFirstCrossing, length, Machine}
use Rattle.qss_devs.proofs.Begun.{places_all}
use Rattle.qss_devs.proofs.coupled_start.start_crossings.Goals as goal

pub add_start_crossings-requires-clause-known : goal.add_start_crossings-requires-clause-known
add_start_crossings-requires-clause-known c = omega (arith, c.loop-clause-test.true, ap length c.as_slice-clause-end.ensures, ap (λ (m : Machine). length m.clauses) c.deref.ensures)

pub loop-clause-init : goal.loop-clause-init
loop-clause-init c = record {
  each = each_none (IsFirstCrossing c.args.shared.now.value) c.new-crossings.result.items c.new-crossings.ensures.items;
  as_many = ap length c.new-crossings.ensures.items;
}

pub loop-clause-preserved : goal.loop-clause-preserved
loop-clause-preserved c = record {
  each = c.in_ok-add_start_crossings.ensures.each;
  as_many = c.in_ok-add_start_crossings.ensures.count;
}

pub returns : goal.returns
returns c = record {
  count =
      c.loop-clause.invariant.as_many
      ∙ places_all c.args.shared.now.value c.loop-clause.clause
      (omega (arith, c.loop-clause-test.false, ap length c.as_slice-clause-end.ensures, ap (λ (m : Machine). length m.clauses) c.deref.ensures));
  each = c.loop-clause.invariant.each;
}
