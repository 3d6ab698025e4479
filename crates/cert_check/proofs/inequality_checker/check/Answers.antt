use Rattle.cert_check.proofs.Common
use Common.{◌≡◌, Accepted, ap, certificate_data, Fault, fault_of, Holds, inequalities}
use Common.{IsFirstFaultOf, None, Option, quanta_positive, subst, sym, System, system_of}
use Rattle.cert_check.proofs.Accepted.{accepted-holds}
use Rattle.cert_check.proofs.Exactly.{accepted-ranges, accepts}
use Rattle.cert_check.proofs.Join.{promised}
use Rattle.cert_check.proofs.Admit.{admitted}
use Rattle.cert_check.proofs.inequality_checker.check.Goals as goal

first : (c : goal.After-certificate_verdict) → IsFirstFaultOf (system_of c.args.m.now) (certificate_data c.args.c.now) inequalities (fault_of c.certificate_verdict.result)
first c =
    let P : Option Fault → Type 0 = λ f. IsFirstFaultOf (system_of c.args.m.now) (certificate_data c.args.c.now) inequalities f in
    let Q : System → Type 0 = λ s. IsFirstFaultOf s (certificate_data c.args.c.now) inequalities c.check_inequalities_in_order.result in
    subst P (sym c.certificate_verdict.ensures) (subst Q c.affine_system-affine.ensures.system c.check_inequalities_in_order.ensures)

none : (c : goal.After-certificate_verdict) → c.certificate_verdict.result ≡ Accepted → IsFirstFaultOf (system_of c.args.m.now) (certificate_data c.args.c.now) inequalities None
none c accepted =
    let P : Option Fault → Type 0 = λ f. IsFirstFaultOf (system_of c.args.m.now) (certificate_data c.args.c.now) inequalities f in
    subst P (ap fault_of accepted) (first c)

holds : (c : goal.After-certificate_verdict) → c.certificate_verdict.result ≡ Accepted → Holds (system_of c.args.m.now) (certificate_data c.args.c.now)
holds c accepted = accepted-holds (system_of c.args.m.now) (certificate_data c.args.c.now) (quanta_positive c.args.m.now) (none c accepted)

pub returns-clause-verdict : goal.returns-clause-verdict
returns-clause-verdict c = first c

pub returns-clause-accepted : goal.returns-clause-accepted
returns-clause-accepted c = (
  λ accepted. (holds c accepted, accepted-ranges (system_of c.args.m.now) (certificate_data c.args.c.now) (none c accepted)),
  λ both. accepts (system_of c.args.m.now) (certificate_data c.args.c.now) c.certificate_verdict.result both.0 both.1 (first c),
)

pub returns-clause-bounds_guaranteed : goal.returns-clause-bounds_guaranteed
returns-clause-bounds_guaranteed c = λ accepted. promised c.args.m.now c.args.c.now (holds c accepted)

pub returns-clause-own_runs_covered : goal.returns-clause-own_runs_covered
returns-clause-own_runs_covered c = λ accepted. admitted c.args.m.now c.args.c.now c.requires.scope.plain (holds c accepted)
