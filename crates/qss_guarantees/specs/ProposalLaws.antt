-- The theorems about `propose`.
use Rattle.std.specs.Prelude.{◌≡◌, ℕ, List}
use Rattle.qss_machine.specs.declared.compiled_machine.Machine.{Machine}
use Rattle.cert_check.specs.declared.certificate.Certificate.{Certificate}
use Rattle.qss_answers.specs.Answers.{Answer, written}
use Rattle.qss_answers.specs.ProposalAnswers.{IsProposed}
use Rattle.qss_answers.specs.ProposedBounds.{IsSoundProposal}

-- a machine determines exactly one result
pub record ProposalsAreOne : Type 0 where
  pub some : (m : Machine) → (answer : Answer) × IsProposed m answer
  pub one : (m : Machine) (answer other : Answer) → IsProposed m answer → IsProposed m other
      → answer ≡ other

-- if the result is a text, it is a sound proposal
abbrev pub ProposalsAreKept : Type 0
ProposalsAreKept = (m : Machine) (text : List ℕ) → IsProposed m (written text) → (c : Certificate)
    × IsSoundProposal m text c
