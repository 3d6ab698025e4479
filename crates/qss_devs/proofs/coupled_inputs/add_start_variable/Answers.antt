-- One more row has an input of the variable.
use Rattle.qss_devs.proofs.Common
use Common.{[], ℕ, ◌++◌, ◌+◌, ◌<◌, ◌^◌, ◌∙◌, ◌∷◌, ◌≡◌, ◌≤◌, ap, AreFirstInputs, AreRisingBelow}
use Common.{arith, FitsSigned, FunctionInput, get_or, get_or-map, Global, ints, IsWritten, length}
use Common.{length-map, length-set, List, map, pos, reading_numbers, reading_rows, refl}
use Common.{row_coefficient, rows_kept, rows_many, set, state_count, subst, sym, take, to_z-of_z}
use Common.{Vec, w64}
use Rattle.mu_num.proofs.Writes.{written_all}
use Rattle.std.specs.Int.RustNames.{unsigned_abs}
use Rattle.qss_machine.specs.Readers.{reading_coefficients}
use Rattle.qss_machine.proofs.KeptReaders.{coefficients_many, coefficients_kept}
use Rattle.qss_devs.proofs.StartInputs.{coefficient_within, row_more, rows_done}
use Rattle.qss_devs.proofs.coupled_inputs.add_start_variable.Goals as goal

pub rows_of-rows-requires : goal.rows_of-rows-requires
rows_of-rows-requires c = omega (
  arith,
  c.requires.known,
  rows_many c.args.m.now c.args.uses.now
      c.requires.uses,
)

pub coefficients_of-coefs-requires : goal.coefficients_of-coefs-requires
coefficients_of-coefs-requires c = omega (
  arith,
  c.requires.known,
  coefficients_many c.args.m.now
      c.args.uses.now c.requires.uses,
)

pub bounds-coefs-k : goal.bounds-coefs-k
bounds-coefs-k c =
    let m = c.args.m.now in
    let var = c.args.var in
    let rows : c.rows_of-rows.result.now ≡ reading_rows m var = c.rows_of-rows.ensures ∙ rows_kept m
    c.args.uses.now c.requires.uses var c.requires.known in
    let coefs : c.coefficients_of-coefs.result.now ≡ reading_coefficients m var =
    c.coefficients_of-coefs.ensures ∙ coefficients_kept m c.args.uses.now c.requires.uses var
    c.requires.known in
    omega (
      arith,
      c.loop-k-test.true,
      ap length rows,
      ap length coefs,
      length-map
          (reading_rows m var) (λ row. row_coefficient m row var),
    )

pub add_start_input-requires : goal.add_start_input-requires
add_start_input-requires c =
    let m = c.args.m.now in
    let var = c.args.var in
    let rows : c.rows_of-rows.result.now ≡ reading_rows m var = c.rows_of-rows.ensures ∙ rows_kept m
    c.args.uses.now c.requires.uses var c.requires.known in
    let numbers : AreRisingBelow (state_count m) c.rows_of-rows.result.now = subst
    (AreRisingBelow (state_count m)) (sym rows) (reading_numbers m var (state_count m) refl) in
    omega (arith, numbers.below c.loop-k.k 0 c.loop-k-test.true, c.loop-k.invariant.count)

pub loop-k-preserved : goal.loop-k-preserved
loop-k-preserved c =
    let m = c.args.m.now in
    let var = c.args.var in
    let k = c.loop-k.k in
    let list : List ℕ = c.rows_of-rows.result.now in
    let row : ℕ = get_or list k 0 in
    let inside : k < length list = c.loop-k-test.true in
    let rows : list ≡ reading_rows m var = c.rows_of-rows.ensures ∙ rows_kept m c.args.uses.now
    c.requires.uses var c.requires.known in
    let coefs : c.coefficients_of-coefs.result.now ≡ reading_coefficients m var =
    c.coefficients_of-coefs.ensures ∙ coefficients_kept m c.args.uses.now c.requires.uses var
    c.requires.known in
    let numbers : AreRisingBelow (state_count m) list = subst (AreRisingBelow (state_count m))
    (sym rows) (reading_numbers m var (state_count m) refl) in
    let coef : get_or c.coefficients_of-coefs.result.now k (pos 0) ≡ row_coefficient m row var =
    ap (λ cs. get_or cs k (pos 0)) coefs
    ∙ get_or-map (λ (j : ℕ). row_coefficient m j var) (reading_rows m var) k 0 (pos 0)
    (omega (arith, inside, ap length rows))
    ∙ ap (λ (js : List ℕ). row_coefficient m (get_or js k 0) var) (sym rows) in
    let small : unsigned_abs (row_coefficient m row var) ≤ 2 ^ 44 = coefficient_within m row
    (numbers.below k 0 inside) var in
    let coef_fits : FitsSigned w64 (get_or c.coefficients_of-coefs.result.now k (pos 0)) = omega
    (arith, ints, coef, small) in
    let value_fits : FitsSigned w64 c.start_input_value-value.result = record
    { sfits = c.start_input_value-value.type_inv } in
    let items : Vec FunctionInput Global → List FunctionInput = λ list. list.items in
    let old : List (List FunctionInput) = map items c.loop-k.lists.items in
    let input : FunctionInput = record {
      var = var;
      coef = get_or c.coefficients_of-coefs.result.now
          k (pos 0);
      value = c.start_input_value-value.result;
    } in
    let pushed : map items c.add_start_input.new.lists.items ≡ set old row
    (get_or old row [] ++ input ∷ []) = simp to_z-of_z at c.in_ok-add_start_input.ensures in
    let many : length old ≡ state_count m = length-map c.loop-k.lists.items items ∙
    c.loop-k.invariant.count in
    record {
      count = sym (length-map c.add_start_input.new.lists.items items) ∙ ap length pushed ∙ length-set
          old row (get_or old row [] ++ input ∷ []) ∙ many;
      written = subst (λ (now : List (List FunctionInput)). IsWritten []
          (AreFirstInputs m (var + 1)) (take (k + 1) list) (map items c.args.lists.now.items) now)
          (sym pushed)
          (row_more m var list rows (map items c.args.lists.now.items) old many c.requires.before k
          input inside c.loop-k.invariant.written refl coef c.start_input_value-value.ensures);
    }

pub returns-clause-after : goal.returns-clause-after
returns-clause-after c =
    let m = c.args.m.now in
    let var = c.args.var in
    let list : List ℕ = c.rows_of-rows.result.now in
    let rows : list ≡ reading_rows m var = c.rows_of-rows.ensures ∙ rows_kept m c.args.uses.now
    c.requires.uses var c.requires.known in
    let items : Vec FunctionInput Global → List FunctionInput = λ list. list.items in
    let now : List (List FunctionInput) = map items c.loop-k.lists.items in
    rows_done m var list rows (map items c.args.lists.now.items) now
    (length-map c.loop-k.lists.items items ∙ c.loop-k.invariant.count) c.requires.before
    (written_all [] (AreFirstInputs m (var + 1)) list (map items c.args.lists.now.items) now
    c.loop-k.k c.loop-k-test.false c.loop-k.invariant.written)
