-- Whether a variable exceeds its limit.
use Rattle.qss_events.proofs.Common
use Common.{ℕ, ℤ, ◌≡◌, All, exceeds, false, first_exceeding, get_or, is_some, IsWithin, List, None}
use Common.{Option, passes-within, refl, Some, true}
use Rattle.qss_events.proofs.Ranges.{none_passes}

-- no number passes
pub all_within : (bits : ℕ) (xs : List ℤ) → first_exceeding bits xs ≡ None → All (IsWithin bits) xs
all_within bits xs e k z h = passes-within bits (get_or xs k z) (none_passes z (exceeds bits) xs e k h)

pub not_some : (o : Option ℕ) → is_some o ≡ false → o ≡ None
not_some None e = refl
not_some (Some v) e = absurd (cc)

pub clash : {A : Type 0} (o : Option ℕ) → is_some o ≡ true → o ≡ None → A
clash None some e = absurd (cc)
clash (Some v) some e = absurd (cc)
