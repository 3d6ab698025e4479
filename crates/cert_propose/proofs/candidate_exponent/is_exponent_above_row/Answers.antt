use Rattle.cert_propose.proofs.Common.{length, sym, table}
use Rattle.cert_propose.proofs.Exponents.{far-above}
use Rattle.cert_propose.proofs.candidate_exponent.is_exponent_above_row.Goals as goal

pub returns-in-None : goal.returns-in-None
returns-in-None c = sym (far-above (length c.args.a.now) c.args.q (table c.args.a.now c.args.i) c.requires.count_limit (sym c.in-None.ensures))
