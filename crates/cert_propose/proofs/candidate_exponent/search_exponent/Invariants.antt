use Rattle.cert_propose.proofs.Common.{ℕ, ◌<◌, ◌≡◌, false, is_exponent, length, table}
use Rattle.cert_propose.proofs.candidate_exponent.search_exponent.Given as goal

abbrev pub invariant-loop-q : goal.invariant-loop-q
invariant-loop-q l = (k : ℕ) → k < l.q → is_exponent (length l.a) (table l.a) k ≡ false
