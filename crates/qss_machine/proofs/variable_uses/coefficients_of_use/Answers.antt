-- One more coefficient.
use Rattle.qss_machine.proofs.Common
use Common.{[], ℕ, ℤ, ◌++◌, ◌∙◌, ◌∷◌, ◌≡◌, ap, arith, FitsSigned, get_or, of_z, row_coefficient}
use Common.{sym, to_z, to_z-of_z, w64}
use Rattle.std.proofs.lemmas.List.{map_more}
use Rattle.qss_machine.proofs.variable_uses.coefficients_of_use.Goals as goal

pub loop-row-preserved : goal.loop-row-preserved
loop-row-preserved c =
    let i = c.loop-row.row-index in
    let inv = c.loop-row.invariant in
    let own : ℕ → ℤ = λ row. row_coefficient c.args.m.now row c.args.var in
    let row : ℕ = get_or c.args.rows.now i 0 in
    let fits : FitsSigned w64 c.coef.result = record { sfits = c.coef.type_inv } in
    let is : to_z w64 (of_z w64 c.coef.result) ≡ own row = to_z-of_z w64 c.coef.result fits ∙ c.coef.ensures in
    record {
      so_far = c.push_reserved.ensures.items ∙ ap (λ z. c.loop-row.list.items ++ z ∷ []) is ∙ ap (λ zs. zs ++ own row ∷ []) inv.so_far
          ∙ sym (map_more own c.args.rows.now i 0 c.loop-row-test.true);
      as_many = omega (arith, c.push_reserved.ensures.len, inv.as_many);
      room = omega (arith, c.push_reserved.ensures.capacity, inv.room);
    }
