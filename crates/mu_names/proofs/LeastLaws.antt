-- The least fault is found, and no fault is before it.
use Rattle.mu_names.proofs.Common
use Common.{[], ◌∷◌, ◌≡◌, arith, Bool, Duplicate, EndName, false, if◌then◌else◌, inl, inr, least_of}
use Common.{lesser, List, model_faults, NameErr, None, refl, Some, suc, sym, true}
use Rattle.std.proofs.Common.{subst}
use Rattle.std.specs.Prelude.{Contains, ◌⊎◌}
use Prim.Native.Nat.{zero}
use Rattle.std.proofs.lemmas.Bool.Decides.{nat_tests}
use Rattle.mu_names.specs.declared.name_fault.NameErr.TheVariants.{Unknown, Misused, NoValue}
use Rattle.mu_names.specs.declared.name_fault.NameErr.TheVariants.{NotWhole, Size, ConstFault}
use Rattle.mu_names.specs.declared.name_fault.NameErr.TheVariants.{Memory}
use Rattle.mu_tree.specs.ModelTree.{ModelTree}
use Rattle.mu_names.specs.Roles.{IsRefusal}
use Rattle.mu_names.specs.LeastFaults.{is_before, IsLeastFault}

-- no fault is before itself
before_self : (f : NameErr) → is_before f f ≡ false
unfolding is_before
before_self f = grind (arith, nat_tests)

-- what does not come before a fault does not come before one that it does not precede
not_before_trans : (a b f : NameErr) → is_before a b ≡ false → is_before b f ≡ false → is_before a f ≡ false
unfolding is_before
not_before_trans a b f p q = grind (arith, nat_tests)

-- of two faults not both come before
not_after : (a b : NameErr) → is_before a b ≡ true → is_before b a ≡ false
unfolding is_before
not_after a b p = grind (arith, nat_tests)

-- from a fault on, the least of a list
pub record IsLeastFrom (a : NameErr) (fs : List NameErr) (f : NameErr) : Type 0 where
  pub found : (f ≡ a) ⊎ Contains fs f
  pub first : is_before a f ≡ false
  pub others : (g : NameErr) → Contains fs g → is_before g f ≡ false

-- an element is the first or one of the others
one_of : (x g : NameErr) (fs : List NameErr) → Contains (x ∷ fs) g → (x ≡ g) ⊎ Contains fs g
one_of x g fs (zero, lt, e) = inl e
one_of x g fs (suc k, lt, e) = inr (k, omega arith, e)

-- one of the others is one of all
among : (x g : NameErr) (fs : List NameErr) → Contains fs g → Contains (x ∷ fs) g
among x g fs c = (suc c.0, omega (arith, c.1), c.2)

-- the first is one of all
first_of_all : (x : NameErr) (fs : List NameErr) → Contains (x ∷ fs) x
first_of_all x fs = (0, omega arith, refl)

-- by the test of the next fault
least_step : (a x f : NameErr) (fs : List NameErr) (t : Bool) → is_before x a ≡ t → IsLeastFrom (if t then x else a) fs f → IsLeastFrom a (x ∷ fs) f
least_step a x f fs true e l = record {
  found = elim l.found [ inl s ↦ inr (subst (Contains (x ∷ fs)) (sym s) (first_of_all x fs)) | inr c ↦ inr (among x f fs c) ];
  first = not_before_trans a x f (not_after x a e) l.first;
  others = λ g c. elim (one_of x g fs c) [ inl s ↦ subst (λ y. is_before y f ≡ false) s l.first | inr d ↦ l.others g d ];
}
least_step a x f fs false e l = record {
  found = elim l.found [ inl s ↦ inl s | inr c ↦ inr (among x f fs c) ];
  first = l.first;
  others = λ g c. elim (one_of x g fs c) [ inl s ↦ subst (λ y. is_before y f ≡ false) s (not_before_trans x a f e l.first) | inr d ↦ l.others g d ];
}

-- the least of the rest, from the lesser of the first two
next_least : (a x f : NameErr) (fs : List NameErr) (t : Bool) → is_before x a ≡ t → least_of (lesser (Some a) x) fs ≡ Some f → least_of (Some (if t then x else a)) fs ≡ Some f
unfolding lesser
next_least a x f fs true h e = subst (λ (t : Bool). least_of (if t then Some x else Some a) fs ≡ Some f) h e
next_least a x f fs false h e = subst (λ (t : Bool). least_of (if t then Some x else Some a) fs ≡ Some f) h e

-- the least from a fault on
least_from : (fs : List NameErr) (a f : NameErr) → least_of (Some a) fs ≡ Some f → IsLeastFrom a fs f
least_from [] a f e =
    let s : a ≡ f = cc in
    record { found = inl (sym s); first = subst (λ y. is_before a y ≡ false) s (before_self a); others = λ g c. absurd (omega (arith, c.1)) }
least_from (x ∷ fs) a f e =
    least_step a x f fs (is_before x a) refl (least_from fs (if is_before x a then x else a) f (next_least a x f fs (is_before x a) refl e))

-- the least of all
pub least_is : (fs : List NameErr) (f : NameErr) → least_of None fs ≡ Some f → IsLeastFault fs f
unfolding lesser
least_is [] f e = absurd (cc)
least_is (x ∷ fs) f e =
    let l : IsLeastFrom x fs f = least_from fs x f e in
    record {
      found = elim l.found [ inl s ↦ subst (Contains (x ∷ fs)) (sym s) (first_of_all x fs) | inr c ↦ among x f fs c ];
      least = λ g c. elim (one_of x g fs c) [ inl s ↦ subst (λ y. is_before y f ≡ false) s l.first | inr d ↦ l.others g d ];
    }

-- where there is no least fault there is none
some_left : (fs : List NameErr) (a : NameErr) → least_of (Some a) fs ≡ None → ⊥
unfolding lesser
some_left [] a e = cc
some_left (x ∷ fs) a e = by_test (is_before x a) (some_left fs x) (some_left fs a) e
  where
    by_test : (t : Bool) → (least_of (Some x) fs ≡ None → ⊥) → (least_of (Some a) fs ≡ None → ⊥) → least_of (if t then Some x else Some a) fs ≡ None → ⊥
    by_test true p q e = p e
    by_test false p q e = q e

pub none_left : (fs : List NameErr) → least_of None fs ≡ None → fs ≡ []
unfolding lesser
none_left [] e = refl
none_left (x ∷ fs) e = absurd (some_left fs x e)

-- the least fault refuses
pub refusal : (m : ModelTree) (f : NameErr) → least_of None (model_faults m) ≡ Some f → IsRefusal m f
refusal m Memory e = tt
refusal m (EndName at) e = least_is (model_faults m) (EndName at) e
refusal m (Duplicate at) e = least_is (model_faults m) (Duplicate at) e
refusal m (Unknown at) e = least_is (model_faults m) (Unknown at) e
refusal m (Misused at) e = least_is (model_faults m) (Misused at) e
refusal m (NoValue at) e = least_is (model_faults m) (NoValue at) e
refusal m (NotWhole at) e = least_is (model_faults m) (NotWhole at) e
refusal m (Size at value) e = least_is (model_faults m) (Size at value) e
refusal m (ConstFault at fault) e = least_is (model_faults m) (ConstFault at fault) e
