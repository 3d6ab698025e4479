-- One more place.
use Rattle.qss_order2.proofs.Common
use Common.{ℕ, ℤ, ◌∙◌, ◌≡◌, ap, arith, FitsSigned, int_at, ints, length, of_z, Place, tabulate}
use Common.{to_z, to_z-of_z, w128}
use Rattle.qss_order2.proofs.Tables.{table_more}
use Rattle.qss_order2.proofs.order2_start.start_order2_places.Goals as goal

pub loop-j-preserved : goal.loop-j-preserved
loop-j-preserved c =
    let j = c.loop-j.j in
    let inv = c.loop-j.invariant in
    let a = c.args in
    let of_x : FitsSigned w128 (int_at a.states.now j) = omega (arith, ints) in
    let of_level : FitsSigned w128 (int_at a.levels.now j) = omega (arith, ints) in
    let place_of : ℤ → ℤ → Place = λ x l. record { since = 0; state = x; level = l } in
    let f : ℕ → Place = λ i. record {
      since = 0;
      state = int_at a.states.now i;
      level =
          int_at a.levels.now i;
    } in
    record {
      so_far = table_more f j c.loop-j.list.items c.push_reserved.new.self.items _ inv.so_far
          c.push_reserved.ensures.items
          (ap (λ (x : ℤ). place_of x (to_z w128 (of_z w128 (int_at a.levels.now j))))
          (to_z-of_z w128 (int_at a.states.now j) of_x) ∙ ap (place_of (int_at a.states.now j))
          (to_z-of_z w128 (int_at a.levels.now j) of_level));
      as_many = omega (arith, c.push_reserved.ensures.len, inv.as_many);
      room = omega (arith, c.push_reserved.ensures.capacity, inv.room);
    }

pub returns : goal.returns
returns c =
    let a = c.args in
    let f : ℕ → Place = λ i. record {
      since = 0;
      state = int_at a.states.now i;
      level =
          int_at a.levels.now i;
    } in
    let e : c.loop-j.j ≡ length a.states.now = omega (arith, c.loop-j-test.false) in
    c.loop-j.invariant.so_far ∙ ap (λ (n : ℕ). tabulate n f) e
