-- The result without a failure.
use Rattle.qss_guarantees.proofs.Common
use Common.{ℕ, ◌≡◌, ◌≢◌, Answer, answered, Appends, ExpectedReply, ExpectedResult, Files}
use Common.{is_defined, IsExpectedResult, IsReplyGiven, List, Option, refl, Status, subst, true}
use Rattle.qss_top.specs.declared.status.Status.TheVariants as ends

-- a status other than 3, 4 and 8 is specified
defined_unless : (status : Status) → status ≢ ends.ReadFault → status ≢ ends.WriteFault
    → status ≢ ends.Memory → is_defined status ≡ true
defined_unless ends.ReadFault read write memory = absurd (read refl)
defined_unless ends.WriteFault read write memory = absurd (write refl)
defined_unless ends.Memory read write memory = absurd (memory refl)
defined_unless _ read write memory = refl

-- a call gives the expected reply
module _ (words : List (List ℕ)) (known : Option Files) (status : Status)
    (old new : Option (List ℕ)) (replied : (expected : ExpectedResult)
    → IsExpectedResult words known expected → IsReplyGiven expected.reply status old new) where
  -- a status other than 3, 4 and 8 implies the whole answer
  pub whole_answer : (expected : ExpectedResult) (answer : Answer)
      → IsExpectedResult words known expected → expected.reply ≡ answered answer
      → status ≢ ends.ReadFault → status ≢ ends.WriteFault → status ≢ ends.Memory
      → (status ≡ answer.status) × Appends old new answer.out
  whole_answer expected answer h is read write memory =
      subst (λ (r : ExpectedReply). IsReplyGiven r status old new) is (replied expected h)
      (defined_unless status read write memory)
