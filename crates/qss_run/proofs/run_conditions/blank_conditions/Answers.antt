-- All lists have one element for each condition.
use Rattle.qss_run.proofs.Common.{◌∙◌, ◌≡◌, ap, arith, conditions, length, PlaceList}
use Rattle.std.proofs.lemmas.List.{length-replicate}
use Rattle.qss_run.proofs.run_conditions.blank_conditions.Goals as goal

pub returns : goal.returns
returns c =
    let places : c.len-count.result ≡ length (conditions c.args.m.now) = omega (arith, c.len-count.ensures, c.in_ok-branches.branches.ok.0, c.in_ok-branches.ensures.as_many) in
    record {
      branches = c.in_ok-branches.ensures;
      detectors = ap length c.in_ok-repeat_value.ensures ∙ length-replicate _ _ ∙ places;
      at_arrival = ap length c.in_ok-at_arrival.ensures.0 ∙ length-replicate _ _ ∙ places;
      after_handlers = ap length c.in_ok-at_arrival.ensures.1 ∙ length-replicate _ _ ∙ places;
      flipped = ap (λ (s : PlaceList). s.count) c.in_ok-empty.ensures ∙ places;
    }
