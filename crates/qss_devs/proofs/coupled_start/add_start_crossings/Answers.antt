-- One more crossing.
use Rattle.qss_devs.proofs.Common
use Common.{[], ◌<◌, ◌∙◌, ◌∷◌, ◌≡◌, All, ap, arith, clause_at, Condition, condition_at}
use Common.{CrossingModel, each_more, first_input, IsFirstCrossing, IsGiven, length, length-append}
use Common.{List, map, refl, start_values, sym}
use Rattle.qss_devs.proofs.Begun.{inputs_given, first_parts, own_condition, places_more, places_few}
use Rattle.qss_devs.proofs.coupled_start.add_start_crossings.Goals as goal

pub start_coupled_detector-detector-requires : goal.start_coupled_detector-detector-requires
start_coupled_detector-detector-requires c =
    let m = c.args.shared.now.value in
    let form = rw c.deref-m.ensures at c.branch_condition-condition.ensures.form in
    let condition : Condition = c.branch_condition-condition.result.now in
    let given : All (IsGiven m 0) (map (first_input m (start_values m)) condition.form.entries) = inputs_given m condition.form.entries form.entries.known in
    let inputs = c.deref.ensures.value ∙ (rw c.deref-m.ensures at c.in_ok-inputs.ensures) in
    record {
      parts = rw inputs (first_parts m condition form.bounded);
      lines = rw inputs (λ k d h. (given k d h).line);
      size_limit = rw inputs (λ k d h. (given k d h).small);
    }

pub overflow_cast-place : goal.overflow_cast-place
overflow_cast-place c =
    omega (arith, c.loop-branch.invariant.as_many, c.loop-branch.crossings.ok.0, c.loop-branch-test.true, rw c.deref-m.ensures at c.branch_count-count.ensures, places_few c.args.shared.now.value c.args.clause c.requires.known)

pub start_coupled_crossing-crossing-requires : goal.start_coupled_crossing-crossing-requires
start_coupled_crossing-crossing-requires c =
    let m = c.args.shared.now.value in
    let form = rw c.deref-m.ensures at c.branch_condition-condition.ensures.form in
    let condition : Condition = c.branch_condition-condition.result.now in
    let given : All (IsGiven m 0) (map (first_input m (start_values m)) condition.form.entries) = inputs_given m condition.form.entries form.entries.known in
    let inputs = rw c.deref-m.ensures at c.in_ok-inputs.ensures in
    let detector = rw c.deref-m.ensures at c.start_coupled_detector-detector.ensures in
    record {
      lines = rw (detector, inputs) (λ k d h. (given k d h).line);
      stays = rw (c.in_ok-machine.ensures.cases, inputs) (λ k d h. (given k d h).stays);
      parts = rw inputs (first_parts m condition form.bounded);
    }

pub loop-branch-preserved : goal.loop-branch-preserved
loop-branch-preserved c =
    let m = c.args.shared.now.value in
    let i = c.args.clause in
    let b = c.loop-branch.branch in
    let inv = c.loop-branch.invariant in
    let condition : Condition = c.branch_condition-condition.result.now in
    let old : List CrossingModel = c.loop-branch.crossings.items in
    let place = length old in
    let inside : b < length (clause_at m i).branches = omega (arith, c.loop-branch-test.true, rw c.deref-m.ensures at c.branch_count-count.ensures) in
    let own : condition ≡ condition_at m place =
    (rw c.deref-m.ensures at c.branch_condition-condition.ensures.value) ∙ sym (own_condition m i b c.requires.known inside) ∙ ap (condition_at m) (sym inv.as_many) in
    let count : c.len-next.result ≡ place = omega (arith, c.len-next.ensures, c.loop-branch.crossings.ok.0) in
    let inputs : c.in_ok-inputs.inputs.items ≡ map (first_input m (start_values m)) condition.form.entries = (rw c.deref-m.ensures at c.in_ok-inputs.ensures) in
    let detector = rw c.deref-m.ensures at c.start_coupled_detector-detector.ensures in
    let first : IsFirstCrossing m place c.start_coupled_crossing-crossing.result = record {
      machine = c.start_coupled_crossing-crossing.ensures.machine ∙ c.in_ok-machine.ensures.cases;
      crossing =
          rw (count, detector, c.deref.ensures.value, inputs, own)
          at c.start_coupled_crossing-crossing.ensures.crossing;
    } in
    record {
      each = each_more (IsFirstCrossing m) place old c.push.new.self.items c.start_coupled_crossing-crossing.result c.in_ok-push.ensures.items refl inv.each first;
      as_many = ap length c.in_ok-push.ensures.items ∙ omega (arith, length-append old (c.start_coupled_crossing-crossing.result ∷ []), inv.as_many);
      within = omega (arith, c.loop-branch-test.true, rw c.deref-m.ensures at c.branch_count-count.ensures);
    }

pub returns : goal.returns
returns c = record {
  count = omega (arith, c.loop-branch.invariant.as_many, c.loop-branch.invariant.within, c.loop-branch-test.false, rw c.deref-m.ensures at c.branch_count-count.ensures, places_more c.args.shared.now.value c.args.clause c.requires.known);
  each = c.loop-branch.invariant.each;
}
