-- One more integrator.
use Rattle.qss_devs.proofs.Common
use Common.{◌<◌, ◌∙◌, ◌≡◌, ap, arith, each_more, each_none, IsFirstIntegrator, length, Machine}
use Common.{refl, state_count, subst, sym, Values}
use Rattle.qss_devs.proofs.Begun.{start_each}
use Rattle.qss_devs.proofs.coupled_start.start_integrators.Goals as goal

pub overflow_cast-var : goal.overflow_cast-var
overflow_cast-var g c = omega (arith, c.loop-j-test.true, c.args.v.now.levels.ok.0, ap (λ (v : Values). length v.levels) c.requires.values, (start_each c.args.m.now).levels, c.args.m.now.has_variables.few)

pub start_coupled_line-line-requires-clause-known : goal.start_coupled_line-line-requires-clause-known
start_coupled_line-line-requires-clause-known g c = omega (arith, c.loop-j-test.true, c.args.v.now.levels.ok.0, ap (λ (v : Values). length v.levels) c.requires.values, (start_each c.args.m.now).levels)

pub invariant_of-integrator : goal.invariant_of-integrator
invariant_of-integrator g c =
    let known : c.loop-j.j < state_count c.args.m.now = omega (arith, c.loop-j-test.true, c.args.v.now.levels.ok.0, ap (λ (v : Values). length v.levels) c.requires.values, (start_each c.args.m.now).levels) in
    record { known = subst (λ (m : Machine). c.loop-j.j < state_count m) (sym (c.in_ok-machine.ensures.cases ∙ c.requires.same)) known }

pub loop-j-init : goal.loop-j-init
loop-j-init g c = record {
  each = each_none (IsFirstIntegrator c.args.m.now c.args.q.now.value) c.in_ok-integrators.integrators.items c.in_ok-integrators.ensures.items;
  as_many = c.in_ok-integrators.ensures.len;
  within = omega arith;
  room = omega (arith, c.in_ok-integrators.ensures.capacity, c.args.v.now.levels.ok.0);
}

pub loop-j-preserved : goal.loop-j-preserved
loop-j-preserved g c =
    let inv = c.loop-j.invariant in
    let many : length c.loop-j.integrators.items ≡ c.loop-j.j = sym c.loop-j.integrators.ok.0 ∙ inv.as_many in
    record {
      each = each_more (IsFirstIntegrator c.args.m.now c.args.q.now.value) c.loop-j.j c.loop-j.integrators.items c.push_reserved.new.self.items _ c.push_reserved.ensures.items many inv.each (record {
        machine = c.in_ok-machine.ensures.cases ∙ c.requires.same;
        quantizer = c.in_ok-quantizer.ensures.cases;
        own = refl;
        line = c.start_coupled_line-line.ensures;
      });
      as_many = omega (arith, c.push_reserved.ensures.len, inv.as_many);
      within = omega (arith, c.loop-j-test.true, c.args.v.now.levels.ok.0);
      room = omega (arith, c.push_reserved.ensures.capacity, inv.room);
    }

pub returns : goal.returns
returns g c = record {
  count = omega (arith, c.loop-j-test.false, c.loop-j.invariant.within, c.loop-j.invariant.as_many, c.loop-j.integrators.ok.0, c.args.v.now.levels.ok.0, ap (λ (v : Values). length v.levels) c.requires.values, (start_each c.args.m.now).levels);
  each = c.loop-j.invariant.each;
}
