-- A running sum without its zeros.
use Rattle.mu_affine.proofs.Common
use Common.{[], ℕ, ◌∙◌, ◌∷◌, ◌≡◌, AllByRecursion, ap, AreFinished, AreReduced, cond, ExactForm}
use Common.{false, filter, Finishes, form_meaning, Fraction, fun_ext, is_at, is_nonzero}
use Common.{IsCoefficient, IsReduced, IsReducedSum, IsRising, IsStrictlySortedBy, keys_of, Less}
use Common.{List, lookup, map, named, nat_cmp, None, none, Option, Ordering, pair_cmp, paired, refl}
use Common.{RunningForm, slice_get, Some, subst, suc, sum_meaning, sym, true, unwrap_or, value_at}
use Common.{zero}
use Rattle.std.proofs.lemmas.Cmp.{eq_by_cmp_equiv}
use Rattle.std.proofs.lemmas.Map.Keys.{IsDistinct-from_sorted}
use Rattle.std.proofs.lemmas.Map.Entries.{lookup-filter-values, option_filter}
use Rattle.mu_affine.proofs.Fractions.{reduced_zero}
use Rattle.mu_affine.proofs.RowForms.{IsKeyOrder, nat_order, pair_order, found}

-- the entries other than 0
abbrev nonzeros : {K : Type 0} → List (K × Fraction) → List (K × Fraction)
nonzeros cs = filter (λ c. is_nonzero c.1) cs

-- what holds of each key holds of those that are left
kept_keys : {K : Type 0} (P : K → Type 0) (cs : List (K × Fraction)) → AllByRecursion P (keys_of cs) → AllByRecursion P (keys_of (nonzeros cs))
kept_keys P [] h = tt
kept_keys P (c ∷ cs) h =
    elim (is_nonzero c.1) as (λ b. AllByRecursion P (keys_of (cond b (c ∷ nonzeros cs) (nonzeros cs)))) [
      | true ↦ (h.0, kept_keys P cs h.1)
      | false ↦ kept_keys P cs h.1
    ]

-- the keys still rise
pub IsRising-nonzeros : {K : Type 0} (R : K → K → Ordering) (cs : List (K × Fraction)) → IsRising R cs → IsRising R (nonzeros cs)
unfolding IsStrictlySortedBy
IsRising-nonzeros R [] h = h
IsRising-nonzeros R (c ∷ cs) h =
    elim (is_nonzero c.1) as (λ b. IsStrictlySortedBy R (keys_of (cond b (c ∷ nonzeros cs) (nonzeros cs)))) [
      | true ↦ (kept_keys (λ y. R c.0 y ≡ Less) cs h.0, IsRising-nonzeros R cs h.1)
      | false ↦ IsRising-nonzeros R cs h.1
    ]

-- what holds at each place
each_of : {A : Type 0} (P : A → Type 0) (xs : List A) → ((i : ℕ) (c : A) → slice_get xs i ≡ Some c → P c) → AllByRecursion P xs
each_of P [] h = tt
each_of P (x ∷ xs) h = (h zero x refl, each_of P xs (λ i c e. h (suc i) c e))

-- each entry that is left is not 0, and in lowest terms
each_left : {K : Type 0} (cs : List (K × Fraction)) → AllByRecursion (λ c. IsReduced c.1) cs → AllByRecursion (λ c. IsCoefficient c.1) (nonzeros cs)
each_left [] h = tt
each_left (c ∷ cs) h =
    (elim (is_nonzero c.1) as (λ b. is_nonzero c.1 ≡ b → AllByRecursion (λ c. IsCoefficient c.1) (cond b (c ∷ nonzeros cs) (nonzeros cs))) [
      | true ↦ λ e. ((e, h.0), each_left cs h.1)
      | false ↦ λ e. each_left cs h.1
    ]) refl

-- a look-up that is filtered, with 0 for nothing
filtered_value : (o : Option Fraction) → IsReduced (unwrap_or o none) → unwrap_or (option_filter is_nonzero o) none ≡ unwrap_or o none
filtered_value None h = refl
filtered_value (Some a) h =
    (elim (is_nonzero a) as (λ b. is_nonzero a ≡ b → unwrap_or (cond b (Some a) None) none ≡ a) [
      | true ↦ λ e. refl
      | false ↦ λ e. sym (reduced_zero a h e)
    ]) refl

-- the coefficients are the same
pub value_at-nonzeros : {K : Type 0} (R : K → K → Ordering) → IsKeyOrder R → (cs : List (K × Fraction)) (k : K) → IsRising R cs → AreReduced R cs → value_at R (nonzeros cs) k ≡ value_at R cs k
value_at-nonzeros R o cs k rising reduced =
    ap (λ r. unwrap_or r none) (lookup-filter-values (eq_by_cmp_equiv o.total) is_nonzero k cs (IsDistinct-from_sorted R (keys_of cs) rising))
    ∙ filtered_value (lookup (is_at (R k)) cs) (reduced k)

-- and what is left is finished
pub AreFinished-nonzeros : {K : Type 0} (R : K → K → Ordering) → IsKeyOrder R → (cs : List (K × Fraction)) → IsRising R cs → AreReduced R cs → AreFinished R (nonzeros cs)
AreFinished-nonzeros R o cs rising reduced = record {
  rising = IsRising-nonzeros R cs rising;
  each = each_left cs (each_of (λ c. IsReduced c.1) cs (λ i c e. subst (λ r. IsReduced (unwrap_or r none)) (found R o cs i c rising e) (reduced c.0)));
}

-- a form that has the entries of a running sum
pub sum_finished : (r : RunningForm) (f : ExactForm) → IsReducedSum r → IsRising nat_cmp r.names.entries → IsRising pair_cmp r.pairs.entries
    → map named f.entries ≡ nonzeros r.names.entries → map paired f.products ≡ nonzeros r.pairs.entries → f.time ≡ r.time → f.constant ≡ r.constant → Finishes r f
sum_finished r f reduced names_rise pairs_rise names pairs time constant =
    let coefficients : value_at nat_cmp (map named f.entries) ≡ value_at nat_cmp r.names.entries =
    fun_ext (λ v. ap (λ cs. value_at nat_cmp cs v) names ∙ value_at-nonzeros nat_cmp nat_order r.names.entries v names_rise reduced.names) in
    let paired_ones : (form_meaning f).paired ≡ (sum_meaning r).paired =
    fun_ext (λ s. fun_ext (λ d. ap (λ cs. value_at pair_cmp cs (s, d)) pairs ∙ value_at-nonzeros pair_cmp pair_order r.pairs.entries (s, d) pairs_rise reduced.pairs)) in
    record {
      meaning = λ i. record { coefficient = coefficients i; paired = paired_ones i; time = time i; constant = constant i };
      canonical = record {
        names = subst (AreFinished nat_cmp) (sym names) (AreFinished-nonzeros nat_cmp nat_order r.names.entries names_rise reduced.names);
        pairs = subst (AreFinished pair_cmp) (sym pairs) (AreFinished-nonzeros pair_cmp pair_order r.pairs.entries pairs_rise reduced.pairs);
        time = subst IsReduced (sym time) reduced.time;
      };
    }
