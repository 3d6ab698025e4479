-- One more level.
use Rattle.qss_order2.proofs.Common
use Common.{ℤ, ◌<ℤ◌, ◌∙◌, ◌≡◌, ap, arith, FitsSigned, floor_of, int_at, ints, level_unit, map, pos}
use Common.{take_all, to_z-of_z, w128}
use Rattle.qss_order2.proofs.FixedFacts.{unit_small, unit_wide}
use Rattle.qss_order2.proofs.Tables.{map_more}
use Rattle.qss_order2.proofs.order2_start.start_order2_levels.Goals as goal

pub loop-j-preserved : goal.loop-j-preserved
loop-j-preserved c =
    let j = c.loop-j.j in
    let f = c.args.f.now in
    let inv = c.loop-j.invariant in
    let unit : f.unit ≡ level_unit f.machine = f.is_fixed.own_unit in
    let of_unit = unit_wide f in
    let of_x : FitsSigned w128 (int_at c.args.states.now j) = omega (arith, ints) in
    let fits : FitsSigned w128 c.floor_div.result = record { sfits = c.floor_div.type_inv } in
    let own : c.floor_div.result ≡ floor_of (int_at c.args.states.now j) f.unit =
    simp to_z-of_z at c.floor_div.ensures.value in
    record {
      so_far = map_more (λ (x : ℤ). floor_of x (level_unit f.machine)) c.args.states.now j (pos 0)
          c.loop-j.list.items c.push_reserved.new.self.items _ c.loop-j-test.true inv.so_far
          c.push_reserved.ensures.items
          (to_z-of_z w128 c.floor_div.result fits ∙ own
          ∙ ap (λ (k : ℤ). floor_of (int_at c.args.states.now j) k) unit);
      as_many = omega (arith, c.push_reserved.ensures.len, inv.as_many);
      room = omega (arith, c.push_reserved.ensures.capacity, inv.room);
    }

pub returns : goal.returns
returns c =
    let f = c.args.f.now in
    let level = λ (x : ℤ). floor_of x (level_unit f.machine) in
    c.loop-j.invariant.so_far ∙ ap (map level) (take_all c.loop-j.j c.args.states.now
    c.loop-j-test.false) ∙ ap (map level) c.requires

pub floor_div-requires : goal.floor_div-requires
floor_div-requires c =
    let f = c.args.f.now in
    let of_unit = unit_wide f in
    let low : pos 0 <ℤ f.unit = omega (arith, ints, (unit_small f).from_one) in
    simp to_z-of_z low
