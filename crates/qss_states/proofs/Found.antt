-- The first of some numbers that passes a test, while they are gone through.
use Rattle.qss_states.proofs.Common
use Common.{ℕ, ◌+◌, ◌<◌, ◌≡◌, ◌≤◌, below_more, Bool, false, get_or, if◌then◌else◌, IsFirstOf}
use Common.{IsStrictlyIncreasing, length, List, None, Option, option_or, Some, true}
use Rattle.qss_events.proofs.DueFirsts.{first_of, none_of}

-- none of the first i numbers passed, or the one that was found is the first of all
abbrev pub IsFoundIn : (ℕ → Bool) → List ℕ → ℕ → Option ℕ → Type 0
IsFoundIn test places i None = (k : ℕ) → k < i → test (get_or places k 0) ≡ false
IsFoundIn test places i (Some first) = IsFirstOf test places (Some first)

-- one more number
pub found_more : (test : ℕ → Bool) (places : List ℕ) (i : ℕ) (first : Option ℕ) (b : Bool) → IsStrictlyIncreasing places → i < length places → IsFoundIn test places i first →
    test (get_or places i 0) ≡ b → IsFoundIn test places (i + 1) (option_or first (if b then Some (get_or places i 0) else None))
found_more test places i (Some first) b rising h found e = found
found_more test places i None true rising h found e = first_of test places i rising h found e
found_more test places i None false rising h found e = below_more (λ k. test (get_or places k 0) ≡ false) i found e

-- all numbers
pub found_done : (test : ℕ → Bool) (places : List ℕ) (i : ℕ) (first : Option ℕ) → length places ≤ i → IsFoundIn test places i first → IsFirstOf test places first
found_done test places i (Some first) h found = found
found_done test places i None h found = none_of test places i h found
