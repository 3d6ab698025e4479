-- One more function.
use Rattle.qss_devs.proofs.Common
use Common.{[], ◌+◌, ◌<◌, ◌∙◌, ◌≡◌, AreFirstInputs, AreInputs, arith, discrete_count, each_more}
use Common.{each_none, FunctionInput, get_or-map, get_or-set_other, Global, IsFirstFunction, length}
use Common.{length-map, length-set, List, Machine, state_count, subst, sym, Vec}
use Rattle.qss_devs.proofs.StartInputs.{all_inputs, all_levels, all_discretes}
use Rattle.qss_devs.proofs.coupled_start.start_functions.Goals as goal

pub overflow_cast-row : goal.overflow_cast-row
overflow_cast-row c = omega (
  arith,
  c.loop-j-test.true,
  c.len-j-end.ensures,
  c.in_ok-lists.lists.ok.0,
  c.in_ok-lists.ensures.count,
  c.args.m.now.has_variables.few,
)

pub invariant_of-function : goal.invariant_of-function
invariant_of-function c =
    let m = c.args.m.now in
    let j = c.loop-j.j in
    let known : j < state_count m =
    omega (arith, c.loop-j-test.true, c.len-j-end.ensures, c.in_ok-lists.lists.ok.0, c.in_ok-lists.ensures.count) in
    let items : List FunctionInput = c.replace-inputs.result.items in
    let first : AreFirstInputs m (state_count m + discrete_count m) j items =
    rw (c.replace-inputs.ensures.value ∙ c.index_mut.ensures.value)
    (c.loop-j.invariant.rest j c.index_mut.result.now (omega arith)
    (omega (arith, known, c.loop-j.invariant.count))) in
    let same = sym (c.in_ok-machine.ensures.cases ∙ c.requires.same) in
    record {
      known = subst (λ (n : Machine). j < state_count n) same known;
      are_inputs = subst (λ (n : Machine). AreInputs n j items) same (all_inputs m j known items first);
    }

pub loop-j-init : goal.loop-j-init
loop-j-init c = record {
  each = each_none (IsFirstFunction c.args.m.now) c.in_ok-functions.functions.items c.in_ok-functions.ensures.items;
  as_many = c.in_ok-functions.ensures.len;
  count = c.in_ok-lists.ensures.count;
  rest = λ row d low inside.
      let m = c.args.m.now in
      let lists : List (Vec FunctionInput Global) = c.in_ok-lists.lists.items in
      let items : Vec FunctionInput Global → List FunctionInput = λ list. list.items in
      subst (AreFirstInputs m (state_count m + discrete_count m) row)
      (get_or-map items lists row d [] inside)
      (c.in_ok-lists.ensures.each row [] (omega (arith, inside, length-map lists items)));
  within = omega arith;
  room = omega (arith, c.in_ok-functions.ensures.capacity, c.len.ensures, c.in_ok-lists.lists.ok.0);
}

pub loop-j-preserved : goal.loop-j-preserved
loop-j-preserved c =
    let inv = c.loop-j.invariant in
    let m = c.args.m.now in
    let j = c.loop-j.j in
    let lists : List (Vec FunctionInput Global) = c.loop-j.lists.items in
    let known : j < state_count m = omega (arith, c.loop-j-test.true, c.len-j-end.ensures, c.in_ok-lists.lists.ok.0, c.in_ok-lists.ensures.count) in
    let items : List FunctionInput = c.replace-inputs.result.items in
    let first : AreFirstInputs m (state_count m + discrete_count m) j items =
    rw (c.replace-inputs.ensures.value ∙ c.index_mut.ensures.value)
    (inv.rest j c.index_mut.result.now (omega arith) (omega (arith, known, inv.count))) in
    let shared : c.in_ok-machine.machine.value ≡ m = c.in_ok-machine.ensures.cases ∙ c.requires.same in
    let many : length c.loop-j.functions.items ≡ j = sym c.loop-j.functions.ok.0 ∙ inv.as_many in
    record {
      each = each_more (IsFirstFunction m) j c.loop-j.functions.items c.push_reserved.new.self.items
          _ c.push_reserved.ensures.items many inv.each (record {
            machine = shared;
            summing = rw (shared, all_levels m j known items first, all_discretes m j known items first);
          });
      as_many = omega (arith, c.push_reserved.ensures.len, inv.as_many);
      count = length-set lists j c.replace-inputs.new.dest ∙ inv.count;
      rest = λ row d low inside.
          let old : row < length lists = omega (
            arith,
            inside,
            length-set lists j c.replace-inputs.new.dest,
          ) in
          rw (get_or-set_other lists j row c.replace-inputs.new.dest d (λ e. omega (arith, e, low)))
          (inv.rest row d (omega (arith, low)) old);
      within = omega (arith, known, inv.count, length-set lists j c.replace-inputs.new.dest);
      room = omega (
        arith,
        c.push_reserved.ensures.capacity,
        inv.room,
        length-set lists j c.replace-inputs.new.dest,
      );
    }

pub returns : goal.returns
returns c = record {
  count =
      omega (
        arith,
        c.loop-j-test.false,
        c.len-j-end.ensures,
        c.loop-j.invariant.within,
        c.loop-j.invariant.as_many,
        c.loop-j.functions.ok.0,
        c.in_ok-lists.lists.ok.0,
        c.in_ok-lists.ensures.count,
        c.loop-j.invariant.count,
      );
  each = c.loop-j.invariant.each;
}
