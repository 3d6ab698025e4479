-- One more row.
use Rattle.qss_order2.proofs.Common
use Common.{ℕ, ℤ, ◌+◌, ◌<◌, ◌∙◌, ◌≡◌, ap, arith, discretes_start, FitsSigned, int_at, ints}
use Common.{IsWithin, length, List, pos, Row2, start_discretes, state_count, subst, sym, to_z-of_z}
use Common.{w128, w64}
use Rattle.qss_order2.proofs.RowLists.{row_more}
use Rattle.qss_order2.proofs.order2_rows.add_discretes.Goals as goal

pub loop-g-preserved : goal.loop-g-preserved
loop-g-preserved c =
    let g = c.loop-g.g in
    let inv = c.loop-g.invariant in
    let a = c.args in
    let m = a.f.now.machine in
    let is : c.as_slice-d.result.now ≡ start_discretes m = c.as_slice-d.ensures.value
    ∙ a.f.now.is_fixed.own_discretes in
    let there : g < length (start_discretes m) = omega (arith, c.loop-g-test.true, ap length is) in
    let at : int_at c.as_slice-d.result.now g ≡ int_at (start_discretes m) g =
    ap (λ (xs : List ℤ). int_at xs g) is in
    let small : IsWithin 43 (int_at c.as_slice-d.result.now g) =
    subst (IsWithin 43) (sym at) (discretes_start m g (pos 0) there) in
    let fits : FitsSigned w64 (int_at c.as_slice-d.result.now g) = omega (arith, ints, small) in
    let value : c.from.result ≡ int_at (start_discretes m) g = c.from.ensures
    ∙ to_z-of_z w64 (int_at c.as_slice-d.result.now g) fits ∙ at in
    let bound : IsWithin 43 c.from.result = subst (IsWithin 43) (sym value) (discretes_start m g
    (pos 0) there) in
    let wide : FitsSigned w128 c.from.result = omega (arith, ints, bound) in
    let row_at : ℕ → ℤ → Row2 = λ v l. record {
      tick = a.tick;
      kind = a.kind;
      var = v;
      level =
          l;
      state = pos 0;
    } in
    let f : ℕ → Row2 = λ i. row_at (state_count m + i) (int_at (start_discretes m) i) in
    record {
      rows = row_more f a.rows.now.items c.loop-g.rows.items c.push_reserved.new.self.items g _
          inv.rows c.push_reserved.ensures.items
          (ap (λ (l : ℤ). row_at (length c.as_slice-first.result.now + g) l)
          (to_z-of_z w128 c.from.result wide ∙ value)
          ∙ ap (λ (xs : _). row_at (length xs + g) (int_at (start_discretes m) g))
          c.as_slice-first.ensures);
      as_many = omega (arith, c.push_reserved.ensures.len, inv.as_many);
      room = c.push_reserved.ensures.capacity ∙ inv.room;
    }
