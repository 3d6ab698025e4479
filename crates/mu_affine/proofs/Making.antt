-- Forms of single parts are finished.
use Rattle.mu_affine.proofs.Common
use Common.{[], ℕ, ◌∙◌, ◌∷◌, ◌≡◌, ap, AreFinished, arith, ExactEntry, ExactForm, false}
use Common.{form_meaning, is_nonzero, IsFinished, IsReduced, IsStrictlySortedBy, map, MayStand}
use Common.{named, nat_cmp, Ordering, pair_cmp, Place, pos, refl, subst, true, value_at, whole}
use Rattle.mu_num.proofs.Powers.{whole_is_reduced}
use Rattle.mu_affine.proofs.RowForms.{nat_order}
use Rattle.mu_affine.proofs.Showing.{key_of_nonzero}

-- an empty list is finished
AreFinished-none : {K : Type 0} (R : K → K → Ordering) → AreFinished {K = K} R []
unfolding IsStrictlySortedBy
AreFinished-none R = record { rising = tt; each = tt }

-- a form without names and pairs
pub IsFinished-constant : (p : Place) (f : ExactForm) → f.entries ≡ [] → f.products ≡ [] → IsReduced f.time → IsFinished p f
IsFinished-constant p f names pairs time = record {
  canonical = record {
    names = rw names (AreFinished-none nat_cmp);
    pairs = rw pairs (AreFinished-none pair_cmp);
    time = time;
  };
  over = record {
    names = λ v n. let z : is_nonzero ((form_meaning f).coefficient v) ≡ false = rw names refl in absurd (cc);
    pairs = λ s d n. let z : is_nonzero ((form_meaning f).paired s d) ≡ false = rw pairs refl in absurd (cc);
  };
}

-- the fraction 1
pub IsReduced-one : IsReduced (whole (pos 1))
IsReduced-one = whole_is_reduced (pos 1) (omega arith)

AreFinished-one : (v : ℕ) → AreFinished nat_cmp ((v, whole (pos 1)) ∷ [])
unfolding IsStrictlySortedBy
AreFinished-one v = record { rising = (tt, tt); each = ((refl, IsReduced-one), tt) }

-- a form of one name
pub IsFinished-name : (p : Place) (f : ExactForm) (v : ℕ) (e : ExactEntry) → MayStand p v → named e ≡ (v, whole (pos 1)) → f.entries ≡ e ∷ [] → f.products ≡ [] → IsReduced f.time → IsFinished p f
IsFinished-name p f v e within is names pairs time = record {
  canonical = record {
    names = rw (names, is) (AreFinished-one v);
    pairs = rw pairs (AreFinished-none pair_cmp);
    time = time;
  };
  over = record {
    names = λ w n.
        let one : map named f.entries ≡ (v, whole (pos 1)) ∷ [] = ap (map named) names ∙ ap (λ c. c ∷ []) is in
        key_of_nonzero nat_cmp nat_order (MayStand p) ((v, whole (pos 1)) ∷ []) w (within, tt) (subst (λ cs. is_nonzero (value_at nat_cmp cs w) ≡ true) one n);
    pairs = λ s d n. let z : is_nonzero ((form_meaning f).paired s d) ≡ false = rw pairs refl in absurd (cc);
  };
}
