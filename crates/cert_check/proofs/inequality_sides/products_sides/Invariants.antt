use Rattle.cert_check.proofs.Common.{ℕ, ◌<◌, certificate_data, IsProductEntryInRange, system}
use Rattle.cert_check.proofs.inequality_sides.products_sides.Given as goal

abbrev pub invariant-loop-j : goal.invariant-loop-j
invariant-loop-j l = (k : ℕ) → k < l.j → IsProductEntryInRange (system l.m) (certificate_data l.x) l.i k
