use Rattle.cert_propose.proofs.Common.{ap, arith, is_exponent, length, sym, table}
use Rattle.std.specs.Prelude.{unwrap_or}
use Rattle.cert_propose.proofs.Exponents.{first-place, no-place}
use Rattle.cert_propose.proofs.candidate_exponent.search_exponent.Goals as goal

pub returns-then-is_exponent_enough-clause-value : goal.returns-then-is_exponent_enough-clause-value
returns-then-is_exponent_enough-clause-value c =
    sym (ap (λ o. unwrap_or o 0) (first-place (is_exponent (length c.args.a.now) (table c.args.a.now)) 64 c.loop-q.q c.loop-q-test.true (sym c.if-is_exponent_enough.ensures) c.loop-q.invariant))

pub returns-clause-value : goal.returns-clause-value
returns-clause-value c =
    sym (ap (λ o. unwrap_or o 0) (no-place (is_exponent (length c.args.a.now) (table c.args.a.now)) 64 (λ k l. c.loop-q.invariant k (omega (arith, l, c.loop-q-test.false)))))
