-- One more variable.
use Rattle.qss_machine.proofs.Common
use Common.{[], ℕ, ℤ, ◌++◌, ◌+◌, ◌<◌, ◌∙◌, ◌∷◌, ◌≡◌, All, ap, arith, discrete_count, get_or}
use Common.{get_or-map, get_or-map-range_with_len, Global, length, length-map}
use Common.{length-map-range_with_len, List, Machine, map, map-append, reading_coefficients}
use Common.{reading_rows, row_coefficient, row_reads, state_count, subst, sym, tabulate, Vec}
use Common.{zero-add}
use Rattle.std.proofs.lemmas.List.FromFn.{map-range_with_len_more}
use Rattle.qss_machine.proofs.Marking.{items_of, places_below}
use Rattle.qss_machine.proofs.variable_uses.coefficient_uses_by_variable.Goals.{After-as_slice-readers}
use Rattle.qss_machine.proofs.variable_uses.coefficient_uses_by_variable.Goals as goal

-- the coefficients that a vector holds
abbrev coefficients_of : Vec ℤ Global → List ℤ
coefficients_of list = list.items

module _ (m : Machine) (lists : List (Vec ℕ Global)) (are : map items_of lists ≡ tabulate (state_count m + discrete_count m) (reading_rows m)) where
  as_many : length lists ≡ state_count m + discrete_count m
  as_many = sym (length-map lists items_of) ∙ ap length are ∙ length-map-range_with_len (reading_rows m) 0 (state_count m + discrete_count m)

  -- a list is that of the rows which read its variable
  own_rows : (var : ℕ) (list : Vec ℕ Global) → var < length lists → list ≡ get_or lists var list → items_of list ≡ reading_rows m var
  own_rows var list inside at =
      ap items_of at ∙ sym (get_or-map items_of lists var list [] inside) ∙ ap (λ (ls : List (List ℕ)). get_or ls var []) are
      ∙ get_or-map-range_with_len (reading_rows m) 0 (state_count m + discrete_count m) var var [] (omega (arith, inside, as_many)) (omega arith)

rows_known : (m : Machine) (var : ℕ) → All (λ row. row < state_count m) (reading_rows m var)
rows_known m var =
    subst (λ (n : ℕ). All (λ row. row < n) (reading_rows m var)) (zero-add (length m.rows) ∙ m.has_rows.one_each) (places_below (row_reads var) 0 m.rows)

rows_are : (c : After-as_slice-readers) → c.as_slice-readers.result.now ≡ reading_rows c.args.m.now c.loop-var.var
rows_are c =
    c.as_slice-readers.ensures.value
    ∙ own_rows c.args.m.now c.args.rows.now c.requires c.loop-var.var c.index-rows-var.result c.loop-var-test.true c.index-rows-var.is

pub overflow_cast-var : goal.overflow_cast-var
overflow_cast-var c = omega (arith, c.loop-var-test.true, as_many c.args.m.now c.args.rows.now c.requires, c.args.m.now.has_variables.few)

pub coefficients_of_use-requires : goal.coefficients_of_use-requires
coefficients_of_use-requires c =
    subst (All (λ row. row < state_count c.args.m.now)) (sym (rows_are (goal.at.coefficients_of_use-requires c).After-as_slice-readers)) (rows_known c.args.m.now c.loop-var.var)

pub loop-var-preserved : goal.loop-var-preserved
loop-var-preserved c =
    let m = c.args.m.now in
    let var = c.loop-var.var in
    let inv = c.loop-var.invariant in
    let old = c.loop-var.lists.items in
    let list = c.in_ok-list.list in
    let own : coefficients_of list ≡ reading_coefficients m var =
    c.in_ok-list.ensures ∙ ap (map (λ (row : ℕ). row_coefficient m row var)) (rows_are (goal.at.loop-var-preserved c).After-as_slice-readers) in
    record {
      so_far = ap (map coefficients_of) c.push_reserved.ensures.items ∙ map-append coefficients_of old (list ∷ [])
          ∙ ap (λ xs. map coefficients_of old ++ xs ∷ []) own ∙ ap (λ xss. xss ++ reading_coefficients m var ∷ []) inv.so_far
          ∙ sym (map-range_with_len_more (reading_coefficients m) 0 var var (omega arith));
      as_many = omega (arith, c.push_reserved.ensures.len, inv.as_many);
      room = omega (arith, c.push_reserved.ensures.capacity, inv.room);
      within = omega (arith, c.loop-var-test.true);
    }

pub returns : goal.returns
returns c =
    let m = c.args.m.now in
    let end : c.loop-var.var ≡ state_count m + discrete_count m = omega (arith, c.loop-var-test.false, c.loop-var.invariant.within, as_many m c.args.rows.now c.requires) in
    subst (λ (n : ℕ). map coefficients_of c.loop-var.lists.items ≡ tabulate n (reading_coefficients m)) end c.loop-var.invariant.so_far
