-- A wrapping product.
use Rattle.std.proofs.Common.{rules}
use Rattle.std.proofs.lemmas.Int.{wraps}
use Rattle.qss_cross.proofs.detector.detector_gain.Goals as goal

pub returns : goal.returns
returns c = search (rules, wraps)
