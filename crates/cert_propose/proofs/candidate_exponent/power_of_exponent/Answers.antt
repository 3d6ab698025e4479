use Rattle.cert_propose.proofs.Common.{◌∙◌, ap, arith, pow_below, w128}
use Rattle.std.proofs.Common.{to_z}
use Rattle.std.proofs.lemmas.Int.{to_z_pos}
use Rattle.std.proofs.lemmas.Nat.{one_shl}
use Rattle.cert_propose.proofs.candidate_exponent.power_of_exponent.Goals as goal

pub returns : goal.returns
returns c = ap (λ n. to_z w128 n) (one_shl c.args.q 128 (omega (arith, c.requires))) ∙ to_z_pos w128 _ (pow_below c.args.q 127 c.requires)
