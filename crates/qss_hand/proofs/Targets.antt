-- What statements assign.
use Rattle.qss_hand.proofs.Common.{ℕ, ◌+◌, ◌<◌, ◌≤◌, arith, Form, Reinit, Set}
use Rattle.std.proofs.lemmas.Bool.Decides.{nat_tests}
use Rattle.std.specs.Prelude.{IsTrue}
use Rattle.qss_machine.specs.MachineLimits.{has_target}

-- of n states and g discrete variables, one of the latter
pub target_set : (n g var : ℕ) (form : Form) → IsTrue (has_target n g (Set var form)) → (n ≤ var) × (var < n + g)
target_set n g var form e = grind (arith, nat_tests)

-- and one of the former
pub target_reinit : (n g var : ℕ) (form : Form) → IsTrue (has_target n g (Reinit var form)) → var < n
target_reinit n g var form e = grind (arith, nat_tests)
