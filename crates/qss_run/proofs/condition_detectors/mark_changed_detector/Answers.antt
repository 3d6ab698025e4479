-- The place is added if the truth values differ.
use Rattle.qss_run.proofs.Common.{◌==◌, ◌∙◌, arith, differ, flag_at, is_listed, sym}
use Rattle.qss_run.proofs.Apart.{comes_in, stays_out}
use Rattle.qss_run.proofs.condition_detectors.mark_changed_detector.Goals as goal

pub insert-requires : goal.insert-requires
insert-requires c = omega (arith, c.requires.place, c.requires.count)

pub returns-then-is_detector_truth_changed-clause-places : goal.returns-then-is_detector_truth_changed-clause-places
returns-then-is_detector_truth_changed-clause-places c other =
    let place = c.args.place in
    c.insert.ensures.places other
    ∙ comes_in (is_listed c.args.flipped.now.places other) (place == other) (differ c.args.holds (flag_at c.args.at_arrival.now place)) (sym c.is_detector_truth_changed.ensures ∙ c.if-is_detector_truth_changed.true)

pub returns-else-is_detector_truth_changed-clause-places : goal.returns-else-is_detector_truth_changed-clause-places
returns-else-is_detector_truth_changed-clause-places c other =
    let place = c.args.place in
    stays_out (is_listed c.args.flipped.now.places other) (place == other) (differ c.args.holds (flag_at c.args.at_arrival.now place)) (sym c.is_detector_truth_changed.ensures ∙ c.if-is_detector_truth_changed.false)
