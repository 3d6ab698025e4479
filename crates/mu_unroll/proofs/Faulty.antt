-- Faults of steps that follow each other.
use Rattle.mu_unroll.proofs.Common
use Common.{◌∙◌, ◌≡◌, ap, bind_result, Err, Index, IsFault, Ok, Result, sym, TooMany, UnrollErr}
use Rattle.mu_unroll.specs.declared.unroll_fault.UnrollErr.TheVariants.{NotWhole, ConstFault}
use Rattle.mu_unroll.specs.declared.unroll_fault.UnrollErr.TheVariants.{Memory}

-- a defined fault is one
pub is_fault : {A : Type 0} (r : Result A UnrollErr) (f : UnrollErr) → r ≡ Err f → IsFault r f
is_fault {A} r (Index at value size) e = e
is_fault {A} r (NotWhole at) e = e
is_fault {A} r (TooMany count) e = e
is_fault {A} r (ConstFault at fault) e = e
is_fault {A} r Memory e = tt

-- the fault of the first step is that of all
pub fault_then : {A B : Type 0} (r : Result A UnrollErr) (next : A → Result B UnrollErr) (f : UnrollErr) → IsFault r f → IsFault (bind_result r next) f
fault_then {A} {B} r next (Index at value size) h = ap (λ x. bind_result x next) h
fault_then {A} {B} r next (NotWhole at) h = ap (λ x. bind_result x next) h
fault_then {A} {B} r next (TooMany count) h = ap (λ x. bind_result x next) h
fault_then {A} {B} r next (ConstFault at fault) h = ap (λ x. bind_result x next) h
fault_then {A} {B} r next Memory h = tt

-- the fault of what follows a value
pub fault_after : {A B : Type 0} (r : Result A UnrollErr) (next : A → Result B UnrollErr) (a : A) (f : UnrollErr) → r ≡ Ok a → IsFault (next a) f → IsFault (bind_result r next) f
fault_after {A} {B} r next a (Index at value size) e h = ap (λ x. bind_result x next) e ∙ h
fault_after {A} {B} r next a (NotWhole at) e h = ap (λ x. bind_result x next) e ∙ h
fault_after {A} {B} r next a (TooMany count) e h = ap (λ x. bind_result x next) e ∙ h
fault_after {A} {B} r next a (ConstFault at fault) e h = ap (λ x. bind_result x next) e ∙ h
fault_after {A} {B} r next a Memory e h = tt

-- what follows a value
pub after : {A B : Type 0} (r : Result A UnrollErr) (next : A → Result B UnrollErr) (a : A) → r ≡ Ok a → bind_result r next ≡ next a
after {A} {B} r next a e = ap (λ x. bind_result x next) e

-- a fault of one step is a fault of an equal one
pub fault_same : {A : Type 0} (r s : Result A UnrollErr) (f : UnrollErr) → r ≡ s → IsFault r f → IsFault s f
fault_same {A} r s (Index at value size) e h = sym e ∙ h
fault_same {A} r s (NotWhole at) e h = sym e ∙ h
fault_same {A} r s (TooMany count) e h = sym e ∙ h
fault_same {A} r s (ConstFault at fault) e h = sym e ∙ h
fault_same {A} r s Memory e h = tt
