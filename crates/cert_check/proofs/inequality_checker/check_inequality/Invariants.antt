use Rattle.cert_check.proofs.Common
use Common.{AllPass, certificate_data, IsPlaceInRange, left_of, relation_of, right_of, system}
use Rattle.cert_check.proofs.inequality_checker.check_inequality.Given as goal

abbrev pub invariant-loop-k : goal.invariant-loop-k
invariant-loop-k l =
    AllPass l.k (IsPlaceInRange (system l.m) (certificate_data l.x) l.inequality) (relation_of l.inequality) (left_of (system l.m) (certificate_data l.x) l.inequality) (right_of (system l.m) (certificate_data l.x) l.inequality)
