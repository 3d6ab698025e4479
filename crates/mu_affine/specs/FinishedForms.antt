-- The meaning of exact forms as affine forms, and the well-formedness of exact forms.
use Rattle.std.specs.Prelude.{ℕ, Bool, true, ◌≡◌, ◌<◌, ◌≤◌, ◌+◌, List, map, Result, Ok, Err}
use Rattle.std.specs.Ordering.{nat_cmp}
use Rattle.std.specs.declared.cmp.Ordering.{Ordering}
use Rattle.std.specs.List.{AllByRecursion}
use Rattle.mu_num.specs.declared.NumErr.{NumErr}
use Rattle.mu_num.specs.Fraction.{Fraction, IsReduced}
use Rattle.mu_affine.specs.declared.exact_form.Sizes.{Sizes}
use Rattle.mu_affine.specs.declared.exact_form.Place.{Place}
use Rattle.mu_affine.specs.declared.exact_form.ExactForm.{ExactForm}
use Rattle.mu_affine.specs.declared.form_sum.RunningForm.{RunningForm}
use Rattle.mu_affine.specs.AffineForm.{AffineForm, is_nonzero, combined, checked_form}
use Rattle.mu_affine.specs.FormRows.{named, paired, pair_cmp, value_at, joined, IsRising}
use Rattle.mu_affine.specs.FormRows.{AreReduced}

-- the affine form with the coefficients of these lists
abbrev pub form_with : List (ℕ × Fraction) → List ((ℕ × ℕ) × Fraction) → Fraction → Fraction → AffineForm
form_with names pairs time constant = record { coefficient = value_at nat_cmp names; paired = λ s d. value_at pair_cmp pairs (s, d); time = time; constant = constant }

-- the affine form that an exact form denotes
abbrev pub form_meaning : ExactForm → AffineForm
form_meaning f = form_with (map named f.entries) (map paired f.products) f.time f.constant

-- the affine form that a running sum denotes
abbrev pub sum_meaning : RunningForm → AffineForm
sum_meaning r = form_with r.names.entries r.pairs.entries r.time r.constant

-- v is the number of a state, a discrete variable or a previous value
abbrev pub IsName : Sizes → ℕ → Type 0
IsName n v = v < n.states + n.discretes + n.discretes

-- s is the number of a state, and d the number of a discrete variable
abbrev pub IsPair : Sizes → (s d : ℕ) → Type 0
IsPair n s d = (s < n.states) × (n.states ≤ d) × (d < n.states + n.discretes)

-- the variable is allowed in this context; previous values are allowed only outside equations
abbrev pub MayStand : Place → ℕ → Type 0
MayStand p v = IsName p.sizes v × (p.in_equation ≡ true → v < p.sizes.states + p.sizes.discretes)

-- all nonzero coefficients are of variables and pairs that are allowed in this context
pub record IsOver (p : Place) (f : AffineForm) : Type 0 where
  pub names : (v : ℕ) → is_nonzero (f.coefficient v) ≡ true → MayStand p v
  pub pairs : (s d : ℕ) → is_nonzero (f.paired s d) ≡ true → IsPair p.sizes s d × (p.in_equation ≡ true)

-- a nonzero coefficient in lowest terms
abbrev pub IsCoefficient : Fraction → Type 0
IsCoefficient a = (is_nonzero a ≡ true) × IsReduced a

-- nonzero coefficients in lowest terms, sorted by key
pub record AreFinished {K : Type 0} (cmp : K → K → Ordering) (cs : List (K × Fraction)) : Type 0 where
  pub rising : IsRising cmp cs
  pub each : AllByRecursion (λ c. IsCoefficient c.1) cs

-- a form in canonical representation; its constant is in lowest terms by its type
pub record IsCanonical (f : ExactForm) : Type 0 where
  pub names : AreFinished nat_cmp (map named f.entries)
  pub pairs : AreFinished pair_cmp (map paired f.products)
  pub time : IsReduced f.time

-- a canonical form whose variables are allowed in this context
pub record IsFinished (p : Place) (f : ExactForm) : Type 0 where
  pub canonical : IsCanonical f
  pub over : IsOver p (form_meaning f)

-- a running sum with coefficients in lowest terms
pub record IsReducedSum (r : RunningForm) : Type 0 where
  pub names : AreReduced nat_cmp r.names.entries
  pub pairs : AreReduced pair_cmp r.pairs.entries
  pub time : IsReduced r.time

-- the result of adding a form to a running sum, and the new sum
abbrev pub JoinsForm : (minus : Bool) → (old new : RunningForm) → ExactForm → Result (Unit {0}) NumErr → Type 0
JoinsForm minus old new f (Ok done) =
    IsReducedSum new
    × ((n : Sizes) → checked_form n (combined (joined minus) (sum_meaning old) (form_meaning f)) ≡ Ok (sum_meaning new))
    × ((p : Place) → IsOver p (sum_meaning old) → IsOver p (form_meaning f) → IsOver p (sum_meaning new))
JoinsForm minus old new f (Err fault) =
    (p : Place) → IsOver p (form_meaning f) → checked_form p.sizes (combined (joined minus) (sum_meaning old) (form_meaning f)) ≡ Err fault

-- an exact form that denotes the same affine form as a running sum
pub record Finishes (r : RunningForm) (f : ExactForm) : Type 0 where
  pub meaning : form_meaning f ≡ sum_meaning r
  pub canonical : IsCanonical f
