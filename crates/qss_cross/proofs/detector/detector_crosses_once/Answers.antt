-- A line rises or falls.
use Rattle.qss_cross.proofs.Once.{crosses_once}
use Rattle.qss_cross.proofs.detector.detector_crosses_once.Goals as goal

pub returns : goal.returns
returns c = crosses_once
