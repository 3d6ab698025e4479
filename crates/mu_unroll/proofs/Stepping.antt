-- Properties of the results of successive steps.
use Rattle.mu_unroll.proofs.Common.{◌≡◌, bind_result, Err, IfOk, Ok, refl, Result, UnrollErr}

-- a property of the second result, if the first result has this property
pub each_then : {A B : Type 0} (P : A → Type 0) (Q : B → Type 0) (r : Result A UnrollErr) (next : A → Result B UnrollErr) → IfOk r P → ((a : A) → P a → IfOk (next a) Q) → IfOk (bind_result r next) Q
each_then {A} {B} P Q (Ok a) next h step = step a h
each_then {A} {B} P Q (Err f) next h step = tt

-- a property of each result
pub any_answer : {A : Type 0} (r : Result A UnrollErr) → IfOk r (λ _. Unit {0})
any_answer {A} (Ok a) = tt
any_answer {A} (Err f) = tt

-- each result equals itself
pub itself : {A : Type 0} (r : Result A UnrollErr) → IfOk r (λ a. r ≡ Ok a)
itself {A} (Ok a) = refl
itself {A} (Err f) = tt

-- what follows from what holds
pub each_weaker : {A : Type 0} (P Q : A → Type 0) (r : Result A UnrollErr) → ((a : A) → P a → Q a) → IfOk r P → IfOk r Q
each_weaker {A} P Q (Ok a) step h = step a h
each_weaker {A} P Q (Err f) step h = tt
