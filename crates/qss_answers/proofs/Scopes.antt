-- A machine that is out of scope of certificates is not in scope.
use Rattle.qss_answers.proofs.Common.{ap, arith, inl, inr, IsInScope, length, Machine}
use Rattle.cert_check.specs.Scope.{IsOutsideBy}
use Rattle.cert_check.specs.declared.certificate_scope.Outside.{Outside}
use Rattle.cert_check.specs.declared.certificate_scope.Outside.TheVariants.{HasClauses, States}

pub not_outside : (m : Machine) (why : Outside) → IsOutsideBy m why → IsInScope m → ⊥
not_outside m (HasClauses count) p scope = omega (arith, p.0, p.1, ap length scope.plain)
not_outside m (States count) (plain, is, inl none) scope = omega (arith, is, none, scope.some)
not_outside m (States count) (plain, is, inr many) scope = omega (arith, is, many, scope.few)
