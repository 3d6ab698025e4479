-- The error results that are allowed for a specified result: the specified fault, or out of memory.
use Rattle.std.specs.Prelude.{◌≡◌, Result, Err}
use Rattle.mu_unroll.specs.declared.unroll_fault.UnrollErr.{UnrollErr}
use Rattle.mu_unroll.specs.declared.unroll_fault.UnrollErr.TheVariants.{Index, NotWhole, TooMany}
use Rattle.mu_unroll.specs.declared.unroll_fault.UnrollErr.TheVariants.{ConstFault, Memory}

abbrev pub IsFault : {A : Type 0} → Result A UnrollErr → UnrollErr → Type 0
IsFault r Memory = Unit {0}
IsFault r (Index at value size) = r ≡ Err (Index at value size)
IsFault r (NotWhole at) = r ≡ Err (NotWhole at)
IsFault r (TooMany count) = r ≡ Err (TooMany count)
IsFault r (ConstFault at fault) = r ≡ Err (ConstFault at fault)
