-- Two rows more.
use Rattle.qss_order2.proofs.Common
use Common.{[], ◌++◌, ◌∙◌, ◌∷◌, ◌≡◌, ap, append_assoc, List, pos, Row2, to_z-of_z}
use Rattle.qss_order2.specs.declared.order2_rows.Kind2.TheVariants as kind
use Rattle.qss_order2.proofs.order2_rows.push_state.Goals as goal

pub returns-clause-rows : goal.returns-clause-rows
returns-clause-rows c =
    let row = c.args.row in
    let of_change = c.ranges.change in
    let second : Row2 = record {
      tick = row.tick;
      kind = kind.Slope;
      var = row.var;
      level = c.args.change;
      state = pos 0;
    } in
    let two : c.push_reserved-2.new.self.items ≡ c.push_reserved.new.self.items ++ second ∷ [] =
    simp to_z-of_z at c.push_reserved-2.ensures.items in
    two ∙ ap (λ (rows : List Row2). rows ++ second ∷ []) c.push_reserved.ensures.items
    ∙ append_assoc c.args.rows.now.items (row ∷ []) (second ∷ [])
