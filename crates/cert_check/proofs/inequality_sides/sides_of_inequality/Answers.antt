use Rattle.cert_check.proofs.Common.{FitsSigned, rules, to_z-of_z, w128}
use Rattle.cert_check.proofs.inequality_sides.sides_of_inequality.Goals as goal

pub returns-in-SignP-clause-in_range : goal.returns-in-SignP-clause-in_range
returns-in-SignP-clause-in_range c = rw c.in-SignP.is (λ _. tt, λ _. c.least_number_sides.ensures.some)

pub returns-in-SignP-clause-left : goal.returns-in-SignP-clause-left
returns-in-SignP-clause-left c =
    let number : FitsSigned w128 c.at.result = search rules in
    rw c.in-SignP.is (rw c.at.ensures at (simp to_z-of_z at c.least_number_sides.ensures.left))

pub returns-in-SignP-clause-right : goal.returns-in-SignP-clause-right
returns-in-SignP-clause-right c = rw c.in-SignP.is c.least_number_sides.ensures.right

pub returns-in-SignMu-clause-in_range : goal.returns-in-SignMu-clause-in_range
returns-in-SignMu-clause-in_range c = rw c.in-SignMu.is (λ _. tt, λ _. c.least_number_sides-in-SignMu.ensures.some)

pub returns-in-SignMu-clause-left : goal.returns-in-SignMu-clause-left
returns-in-SignMu-clause-left c =
    let number : FitsSigned w128 c.at-in-SignMu.result = search rules in
    rw c.in-SignMu.is (rw c.at-in-SignMu.ensures at (simp to_z-of_z at c.least_number_sides-in-SignMu.ensures.left))

pub returns-in-SignMu-clause-right : goal.returns-in-SignMu-clause-right
returns-in-SignMu-clause-right c = rw c.in-SignMu.is c.least_number_sides-in-SignMu.ensures.right

pub returns-in-SignLambda-clause-in_range : goal.returns-in-SignLambda-clause-in_range
returns-in-SignLambda-clause-in_range c = rw c.in-SignLambda.is (λ _. tt, λ _. c.least_number_sides-in-SignLambda.ensures.some)

pub returns-in-SignLambda-clause-left : goal.returns-in-SignLambda-clause-left
returns-in-SignLambda-clause-left c =
    let number : FitsSigned w128 c.args.x.now.lambda = search rules in
    rw c.in-SignLambda.is (simp to_z-of_z at c.least_number_sides-in-SignLambda.ensures.left)

pub returns-in-SignLambda-clause-right : goal.returns-in-SignLambda-clause-right
returns-in-SignLambda-clause-right c = rw c.in-SignLambda.is c.least_number_sides-in-SignLambda.ensures.right

pub returns-in-SignH1-clause-in_range : goal.returns-in-SignH1-clause-in_range
returns-in-SignH1-clause-in_range c = rw c.in-SignH1.is (λ _. tt, λ _. c.least_number_sides-in-SignH1.ensures.some)

pub returns-in-SignH1-clause-left : goal.returns-in-SignH1-clause-left
returns-in-SignH1-clause-left c =
    let number : FitsSigned w128 c.args.x.now.h1 = search rules in
    rw c.in-SignH1.is (simp to_z-of_z at c.least_number_sides-in-SignH1.ensures.left)

pub returns-in-SignH1-clause-right : goal.returns-in-SignH1-clause-right
returns-in-SignH1-clause-right c = rw c.in-SignH1.is c.least_number_sides-in-SignH1.ensures.right

pub returns-in-SignH2-clause-in_range : goal.returns-in-SignH2-clause-in_range
returns-in-SignH2-clause-in_range c = rw c.in-SignH2.is (λ _. tt, λ _. c.least_number_sides-in-SignH2.ensures.some)

pub returns-in-SignH2-clause-left : goal.returns-in-SignH2-clause-left
returns-in-SignH2-clause-left c =
    let number : FitsSigned w128 c.args.x.now.h2 = search rules in
    rw c.in-SignH2.is (simp to_z-of_z at c.least_number_sides-in-SignH2.ensures.left)

pub returns-in-SignH2-clause-right : goal.returns-in-SignH2-clause-right
returns-in-SignH2-clause-right c = rw c.in-SignH2.is c.least_number_sides-in-SignH2.ensures.right

pub returns-in-SignR-clause-in_range : goal.returns-in-SignR-clause-in_range
returns-in-SignR-clause-in_range c = rw c.in-SignR.is (λ _. tt, λ _. c.least_number_sides-in-SignR.ensures.some)

pub returns-in-SignR-clause-left : goal.returns-in-SignR-clause-left
returns-in-SignR-clause-left c =
    let number : FitsSigned w128 c.args.x.now.r = search rules in
    rw c.in-SignR.is (simp to_z-of_z at c.least_number_sides-in-SignR.ensures.left)

pub returns-in-SignR-clause-right : goal.returns-in-SignR-clause-right
returns-in-SignR-clause-right c = rw c.in-SignR.is c.least_number_sides-in-SignR.ensures.right

pub returns-in-SignZ-clause-in_range : goal.returns-in-SignZ-clause-in_range
returns-in-SignZ-clause-in_range c = rw c.in-SignZ.is (λ _. tt, λ _. c.least_number_sides-in-SignZ.ensures.some)

pub returns-in-SignZ-clause-left : goal.returns-in-SignZ-clause-left
returns-in-SignZ-clause-left c =
    let number : FitsSigned w128 c.at-in-SignZ.result = search rules in
    rw c.in-SignZ.is (rw c.at-in-SignZ.ensures at (simp to_z-of_z at c.least_number_sides-in-SignZ.ensures.left))

pub returns-in-SignZ-clause-right : goal.returns-in-SignZ-clause-right
returns-in-SignZ-clause-right c = rw c.in-SignZ.is c.least_number_sides-in-SignZ.ensures.right

pub returns-in-SignS-clause-in_range : goal.returns-in-SignS-clause-in_range
returns-in-SignS-clause-in_range c = rw c.in-SignS.is (λ _. tt, λ _. c.least_number_sides-in-SignS.ensures.some)

pub returns-in-SignS-clause-left : goal.returns-in-SignS-clause-left
returns-in-SignS-clause-left c =
    let number : FitsSigned w128 c.at-in-SignS.result = search rules in
    rw c.in-SignS.is (rw c.at-in-SignS.ensures at (simp to_z-of_z at c.least_number_sides-in-SignS.ensures.left))

pub returns-in-SignS-clause-right : goal.returns-in-SignS-clause-right
returns-in-SignS-clause-right c = rw c.in-SignS.is c.least_number_sides-in-SignS.ensures.right

pub returns-in-SignSigmaR-clause-in_range : goal.returns-in-SignSigmaR-clause-in_range
returns-in-SignSigmaR-clause-in_range c = rw c.in-SignSigmaR.is (λ _. tt, λ _. c.least_number_sides-in-SignSigmaR.ensures.some)

pub returns-in-SignSigmaR-clause-left : goal.returns-in-SignSigmaR-clause-left
returns-in-SignSigmaR-clause-left c =
    let number : FitsSigned w128 c.at-in-SignSigmaR.result = search rules in
    rw c.in-SignSigmaR.is (rw c.at-in-SignSigmaR.ensures at (simp to_z-of_z at c.least_number_sides-in-SignSigmaR.ensures.left))

pub returns-in-SignSigmaR-clause-right : goal.returns-in-SignSigmaR-clause-right
returns-in-SignSigmaR-clause-right c = rw c.in-SignSigmaR.is c.least_number_sides-in-SignSigmaR.ensures.right

pub returns-in-SignC-clause-in_range : goal.returns-in-SignC-clause-in_range
returns-in-SignC-clause-in_range c = rw c.in-SignC.is (λ _. tt, λ _. c.least_number_sides-in-SignC.ensures.some)

pub returns-in-SignC-clause-left : goal.returns-in-SignC-clause-left
returns-in-SignC-clause-left c =
    let number : FitsSigned w128 c.args.x.now.cc = search rules in
    rw c.in-SignC.is (simp to_z-of_z at c.least_number_sides-in-SignC.ensures.left)

pub returns-in-SignC-clause-right : goal.returns-in-SignC-clause-right
returns-in-SignC-clause-right c = rw c.in-SignC.is c.least_number_sides-in-SignC.ensures.right

pub returns-in-SignSigmaC-clause-in_range : goal.returns-in-SignSigmaC-clause-in_range
returns-in-SignSigmaC-clause-in_range c = rw c.in-SignSigmaC.is (λ _. tt, λ _. c.least_number_sides-in-SignSigmaC.ensures.some)

pub returns-in-SignSigmaC-clause-left : goal.returns-in-SignSigmaC-clause-left
returns-in-SignSigmaC-clause-left c =
    let number : FitsSigned w128 c.at-in-SignSigmaC.result = search rules in
    rw c.in-SignSigmaC.is (rw c.at-in-SignSigmaC.ensures at (simp to_z-of_z at c.least_number_sides-in-SignSigmaC.ensures.left))

pub returns-in-SignSigmaC-clause-right : goal.returns-in-SignSigmaC-clause-right
returns-in-SignSigmaC-clause-right c = rw c.in-SignSigmaC.is c.least_number_sides-in-SignSigmaC.ensures.right

pub returns-in-SignE-clause-in_range : goal.returns-in-SignE-clause-in_range
returns-in-SignE-clause-in_range c = rw c.in-SignE.is (λ _. tt, λ _. c.least_number_sides-in-SignE.ensures.some)

pub returns-in-SignE-clause-left : goal.returns-in-SignE-clause-left
returns-in-SignE-clause-left c =
    let number : FitsSigned w128 c.at-in-SignE.result = search rules in
    rw c.in-SignE.is (rw c.at-in-SignE.ensures at (simp to_z-of_z at c.least_number_sides-in-SignE.ensures.left))

pub returns-in-SignE-clause-right : goal.returns-in-SignE-clause-right
returns-in-SignE-clause-right c = rw c.in-SignE.is c.least_number_sides-in-SignE.ensures.right

pub returns-in-Symmetric-clause-in_range : goal.returns-in-Symmetric-clause-in_range
returns-in-Symmetric-clause-in_range c = rw c.in-Symmetric.is (λ _. tt, λ _. c.pair_sides.ensures.some)

pub returns-in-Symmetric-clause-left : goal.returns-in-Symmetric-clause-left
returns-in-Symmetric-clause-left c = rw c.in-Symmetric.is c.pair_sides.ensures.left

pub returns-in-Symmetric-clause-right : goal.returns-in-Symmetric-clause-right
returns-in-Symmetric-clause-right c = rw c.in-Symmetric.is c.pair_sides.ensures.right

pub returns-in-BoundParts-clause-in_range : goal.returns-in-BoundParts-clause-in_range
returns-in-BoundParts-clause-in_range c = rw c.in-BoundParts.is c.parts_sides.ensures.in_range

pub returns-in-BoundParts-clause-left : goal.returns-in-BoundParts-clause-left
returns-in-BoundParts-clause-left c = rw c.in-BoundParts.is c.parts_sides.ensures.left

pub returns-in-BoundParts-clause-right : goal.returns-in-BoundParts-clause-right
returns-in-BoundParts-clause-right c = rw c.in-BoundParts.is c.parts_sides.ensures.right

pub returns-in-Bound-clause-in_range : goal.returns-in-Bound-clause-in_range
returns-in-Bound-clause-in_range c = rw c.in-Bound.is c.bound_sides.ensures.in_range

pub returns-in-Bound-clause-left : goal.returns-in-Bound-clause-left
returns-in-Bound-clause-left c = rw c.in-Bound.is c.bound_sides.ensures.left

pub returns-in-Bound-clause-right : goal.returns-in-Bound-clause-right
returns-in-Bound-clause-right c = rw c.in-Bound.is c.bound_sides.ensures.right

pub returns-in-DecayProducts-clause-in_range : goal.returns-in-DecayProducts-clause-in_range
returns-in-DecayProducts-clause-in_range c = rw c.in-DecayProducts.is c.products_sides.ensures.in_range

pub returns-in-DecayProducts-clause-left : goal.returns-in-DecayProducts-clause-left
returns-in-DecayProducts-clause-left c = rw c.in-DecayProducts.is c.products_sides.ensures.left

pub returns-in-DecayProducts-clause-right : goal.returns-in-DecayProducts-clause-right
returns-in-DecayProducts-clause-right c = rw c.in-DecayProducts.is c.products_sides.ensures.right

pub returns-in-DecayParts-clause-in_range : goal.returns-in-DecayParts-clause-in_range
returns-in-DecayParts-clause-in_range c = rw c.in-DecayParts.is c.parts_sides-in-DecayParts.ensures.in_range

pub returns-in-DecayParts-clause-left : goal.returns-in-DecayParts-clause-left
returns-in-DecayParts-clause-left c = rw c.in-DecayParts.is c.parts_sides-in-DecayParts.ensures.left

pub returns-in-DecayParts-clause-right : goal.returns-in-DecayParts-clause-right
returns-in-DecayParts-clause-right c = rw c.in-DecayParts.is c.parts_sides-in-DecayParts.ensures.right

pub returns-in-Decay-clause-in_range : goal.returns-in-Decay-clause-in_range
returns-in-Decay-clause-in_range c = rw c.in-Decay.is c.decay_sides.ensures.in_range

pub returns-in-Decay-clause-left : goal.returns-in-Decay-clause-left
returns-in-Decay-clause-left c = rw c.in-Decay.is c.decay_sides.ensures.left

pub returns-in-Decay-clause-right : goal.returns-in-Decay-clause-right
returns-in-Decay-clause-right c = rw c.in-Decay.is c.decay_sides.ensures.right

pub returns-in-FirstStart-clause-in_range : goal.returns-in-FirstStart-clause-in_range
returns-in-FirstStart-clause-in_range c = rw c.in-FirstStart.is c.gap_sides.ensures.in_range

pub returns-in-FirstStart-clause-left : goal.returns-in-FirstStart-clause-left
returns-in-FirstStart-clause-left c = rw c.in-FirstStart.is c.gap_sides.ensures.left

pub returns-in-FirstStart-clause-right : goal.returns-in-FirstStart-clause-right
returns-in-FirstStart-clause-right c = rw c.in-FirstStart.is c.gap_sides.ensures.right

pub returns-in-SecondStart-clause-in_range : goal.returns-in-SecondStart-clause-in_range
returns-in-SecondStart-clause-in_range c = rw c.in-SecondStart.is c.gap_sides-in-SecondStart.ensures.in_range

pub returns-in-SecondStart-clause-left : goal.returns-in-SecondStart-clause-left
returns-in-SecondStart-clause-left c = rw c.in-SecondStart.is c.gap_sides-in-SecondStart.ensures.left

pub returns-in-SecondStart-clause-right : goal.returns-in-SecondStart-clause-right
returns-in-SecondStart-clause-right c = rw c.in-SecondStart.is c.gap_sides-in-SecondStart.ensures.right

pub returns-in-StartsApart-clause-in_range : goal.returns-in-StartsApart-clause-in_range
returns-in-StartsApart-clause-in_range c = rw c.in-StartsApart.is c.apart_sides.ensures.in_range

pub returns-in-StartsApart-clause-left : goal.returns-in-StartsApart-clause-left
returns-in-StartsApart-clause-left c = rw c.in-StartsApart.is c.apart_sides.ensures.left

pub returns-in-StartsApart-clause-right : goal.returns-in-StartsApart-clause-right
returns-in-StartsApart-clause-right c = rw c.in-StartsApart.is c.apart_sides.ensures.right

pub returns-in-Reach-clause-in_range : goal.returns-in-Reach-clause-in_range
returns-in-Reach-clause-in_range c =
    let first : FitsSigned w128 c.at-in-Reach.result = search rules in
    let second : FitsSigned w128 c.at-in-Reach-2.result = search rules in
    rw c.in-Reach.is (rw (c.at-in-Reach.ensures, c.at-in-Reach-2.ensures) at (simp to_z-of_z at c.square_sides.ensures.in_range))

pub returns-in-Reach-clause-left : goal.returns-in-Reach-clause-left
returns-in-Reach-clause-left c =
    let first : FitsSigned w128 c.at-in-Reach.result = search rules in
    let second : FitsSigned w128 c.at-in-Reach-2.result = search rules in
    rw c.in-Reach.is (rw (c.at-in-Reach.ensures, c.at-in-Reach-2.ensures) at (simp to_z-of_z at c.square_sides.ensures.left))

pub returns-in-Reach-clause-right : goal.returns-in-Reach-clause-right
returns-in-Reach-clause-right c =
    let bound : FitsSigned w128 c.args.x.now.r = search rules in
    rw c.in-Reach.is (simp to_z-of_z at c.square_sides.ensures.right)

pub returns-in-Slope-clause-in_range : goal.returns-in-Slope-clause-in_range
returns-in-Slope-clause-in_range c = rw c.in-Slope.is c.slope_sides.ensures.in_range

pub returns-in-Slope-clause-left : goal.returns-in-Slope-clause-left
returns-in-Slope-clause-left c = rw c.in-Slope.is c.slope_sides.ensures.left

pub returns-in-Slope-clause-right : goal.returns-in-Slope-clause-right
returns-in-Slope-clause-right c = rw c.in-Slope.is c.slope_sides.ensures.right

pub returns-in-CentreGain-clause-in_range : goal.returns-in-CentreGain-clause-in_range
returns-in-CentreGain-clause-in_range c = rw c.in-CentreGain.is c.centre_gain_sides.ensures.in_range

pub returns-in-CentreGain-clause-left : goal.returns-in-CentreGain-clause-left
returns-in-CentreGain-clause-left c = rw c.in-CentreGain.is c.centre_gain_sides.ensures.left

pub returns-in-CentreGain-clause-right : goal.returns-in-CentreGain-clause-right
returns-in-CentreGain-clause-right c = rw c.in-CentreGain.is c.centre_gain_sides.ensures.right

pub returns-in-CentreSum-clause-in_range : goal.returns-in-CentreSum-clause-in_range
returns-in-CentreSum-clause-in_range c =
    let rate : FitsSigned w128 c.args.x.now.lambda = search rules in
    let bound : FitsSigned w128 c.args.x.now.r = search rules in
    rw c.in-CentreSum.is (simp to_z-of_z at c.sum_sides.ensures.in_range)

pub returns-in-CentreSum-clause-left : goal.returns-in-CentreSum-clause-left
returns-in-CentreSum-clause-left c =
    let rate : FitsSigned w128 c.args.x.now.lambda = search rules in
    let bound : FitsSigned w128 c.args.x.now.r = search rules in
    rw c.in-CentreSum.is (simp to_z-of_z at c.sum_sides.ensures.left)

pub returns-in-CentreSum-clause-right : goal.returns-in-CentreSum-clause-right
returns-in-CentreSum-clause-right c = rw c.in-CentreSum.is c.sum_sides.ensures.right

pub returns-in-PairGain-clause-in_range : goal.returns-in-PairGain-clause-in_range
returns-in-PairGain-clause-in_range c = rw c.in-PairGain.is c.pair_gain_sides.ensures.in_range

pub returns-in-PairGain-clause-left : goal.returns-in-PairGain-clause-left
returns-in-PairGain-clause-left c = rw c.in-PairGain.is c.pair_gain_sides.ensures.left

pub returns-in-PairGain-clause-right : goal.returns-in-PairGain-clause-right
returns-in-PairGain-clause-right c = rw c.in-PairGain.is c.pair_gain_sides.ensures.right

pub returns-in-PairSum-clause-in_range : goal.returns-in-PairSum-clause-in_range
returns-in-PairSum-clause-in_range c =
    let rate : FitsSigned w128 c.args.x.now.lambda = search rules in
    let bound : FitsSigned w128 c.args.x.now.cc = search rules in
    rw c.in-PairSum.is (simp to_z-of_z at c.sum_sides-in-PairSum.ensures.in_range)

pub returns-in-PairSum-clause-left : goal.returns-in-PairSum-clause-left
returns-in-PairSum-clause-left c =
    let rate : FitsSigned w128 c.args.x.now.lambda = search rules in
    let bound : FitsSigned w128 c.args.x.now.cc = search rules in
    rw c.in-PairSum.is (simp to_z-of_z at c.sum_sides-in-PairSum.ensures.left)

pub returns-in-PairSum-clause-right : goal.returns-in-PairSum-clause-right
returns-in-PairSum-clause-right c = rw c.in-PairSum.is c.sum_sides-in-PairSum.ensures.right

pub returns-in-Distance-clause-in_range : goal.returns-in-Distance-clause-in_range
returns-in-Distance-clause-in_range c =
    let first : FitsSigned w128 c.at-in-Distance.result = search rules in
    let second : FitsSigned w128 c.at-in-Distance-2.result = search rules in
    rw c.in-Distance.is (rw (c.at-in-Distance.ensures, c.at-in-Distance-2.ensures) at (simp to_z-of_z at c.square_sides-in-Distance.ensures.in_range))

pub returns-in-Distance-clause-left : goal.returns-in-Distance-clause-left
returns-in-Distance-clause-left c =
    let first : FitsSigned w128 c.at-in-Distance.result = search rules in
    let second : FitsSigned w128 c.at-in-Distance-2.result = search rules in
    rw c.in-Distance.is (rw (c.at-in-Distance.ensures, c.at-in-Distance-2.ensures) at (simp to_z-of_z at c.square_sides-in-Distance.ensures.left))

pub returns-in-Distance-clause-right : goal.returns-in-Distance-clause-right
returns-in-Distance-clause-right c =
    let bound : FitsSigned w128 c.args.x.now.cc = search rules in
    rw c.in-Distance.is (simp to_z-of_z at c.square_sides-in-Distance.ensures.right)

pub returns-in-Quantum-clause-in_range : goal.returns-in-Quantum-clause-in_range
returns-in-Quantum-clause-in_range c = rw c.in-Quantum.is (λ _. tt, λ _. c.least_number_sides-in-Quantum.ensures.some)

pub returns-in-Quantum-clause-left : goal.returns-in-Quantum-clause-left
returns-in-Quantum-clause-left c =
    let number : FitsSigned w128 c.at-in-Quantum.result = search rules in
    rw c.in-Quantum.is (rw c.at-in-Quantum.ensures at (simp to_z-of_z at c.least_number_sides-in-Quantum.ensures.left))

pub returns-in-Quantum-clause-right : goal.returns-in-Quantum-clause-right
returns-in-Quantum-clause-right c =
    let number : FitsSigned w128 c.at-in-Quantum-2.result = search rules in
    rw c.in-Quantum.is (rw c.at-in-Quantum-2.ensures at (simp to_z-of_z at c.least_number_sides-in-Quantum.ensures.right))

pub returns-in-Share-clause-in_range : goal.returns-in-Share-clause-in_range
returns-in-Share-clause-in_range c = rw c.in-Share.is c.share_sides.ensures.in_range

pub returns-in-Share-clause-left : goal.returns-in-Share-clause-left
returns-in-Share-clause-left c = rw c.in-Share.is c.share_sides.ensures.left

pub returns-in-Share-clause-right : goal.returns-in-Share-clause-right
returns-in-Share-clause-right c = rw c.in-Share.is c.share_sides.ensures.right
