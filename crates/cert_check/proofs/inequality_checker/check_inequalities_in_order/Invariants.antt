use Rattle.cert_check.proofs.Common.{certificate_data, drop, Fault, IsFirstFaultOf, Option, system}
use Rattle.cert_check.proofs.inequality_checker.check_inequalities_in_order.Given as goal

abbrev pub invariant-loop-inequality : goal.invariant-loop-inequality
invariant-loop-inequality l =
    (f : Option Fault) → IsFirstFaultOf (system l.m) (certificate_data l.x) (drop l.inequality-index l.inequalities) f
    → IsFirstFaultOf (system l.m) (certificate_data l.x) l.inequalities f
