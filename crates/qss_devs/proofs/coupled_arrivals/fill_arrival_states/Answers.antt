-- One more state, and all of them.
use Rattle.qss_devs.proofs.Common
use Common.{ℤ, ◌<◌, ◌∙◌, ◌≡◌, arith, FitsSigned, get_or-map, int_at, IntegratorModel, length}
use Common.{length-map, length-set, List, map, one_more, pos, same_lists, state_at, sym, to_z-of_z}
use Common.{w128}
use Rattle.qss_devs.proofs.coupled_arrivals.fill_arrival_states.Goals as goal

pub value_at-requires : goal.value_at-requires
value_at-requires g c = record {
  later = c.requires.not_later c.loop-j.j c.index-integrators-j.result c.loop-j-test.true;
  tick_limit = omega (arith, c.requires.tick_limit);
}

pub loop-j-preserved : goal.loop-j-preserved
loop-j-preserved g c =
    let j = c.loop-j.j in
    let inv = c.loop-j.invariant in
    let state : IntegratorModel _ _ → ℤ = λ i. state_at i.line c.args.tick in
    let states : List ℤ = map state c.args.integrators.now in
    let fits : FitsSigned w128 c.value_at.result = record { sfits = c.value_at.type_inv } in
    let within : j < length c.loop-j.x = omega (arith, inv.as_many, c.loop-j-test.true) in
    let own = get_or-map state c.args.integrators.now j c.index-integrators-j.result (pos 0) c.loop-j-test.true in
    record {
      as_many = length-set c.loop-j.x j _ ∙ inv.as_many;
      each = one_more (pos 0) (int_at states) c.loop-j.x j _ within inv.each (to_z-of_z w128 c.value_at.result fits ∙ c.value_at.ensures ∙ sym own);
    }

pub returns : goal.returns
returns g c =
    let states : List ℤ = map (λ (i : IntegratorModel _ _). state_at i.line c.args.tick) c.args.integrators.now in
    let all : length states ≡ length c.args.integrators.now = length-map c.args.integrators.now (λ (i : IntegratorModel _ _). state_at i.line c.args.tick) in
    same_lists (pos 0) c.loop-j.x states (c.loop-j.invariant.as_many ∙ sym all) (λ k h. c.loop-j.invariant.each k (omega (arith, h, all, c.loop-j-test.false)))
