-- The forms of a flat model are laid out as a machine requires.
use Rattle.qss_compile.proofs.Common
use Common.{ℕ, ◌+◌, ◌∙◌, ◌≡◌, All, ap, AreForms, clause_place, drop, equation_place, ExactForm}
use Common.{FlatModelTree, Forms, get_or, List, refl, sizes_of, subst, sum_by, sym, take}
use Rattle.mu_affine.proofs.FinishedForms.{states_counted, discretes_counted, forms_one_each}
use Rattle.mu_affine.proofs.FinishedForms.{forms_of_states, forms_of_clauses}
use Rattle.mu_affine.proofs.FinishedMachines.{named_for, right_side_for}
use Rattle.mu_affine.specs.RoundedMachines.{AreFormsFor, AreNamed, IsRightSide}
use Rattle.mu_affine.specs.FormPlaces.{is_state, is_discrete, state_count, discrete_count}
use Rattle.mu_affine.specs.FormPlaces.{clause_forms}

-- the forms of a flat model are laid out as a machine requires
pub forms_for : (m : FlatModelTree) (order : List ℕ) (f : Forms) → AreForms m order f → AreFormsFor f.forms m
forms_for m order f are =
    let n = (sizes_of m).states in
    let g = (sizes_of m).discretes in
    let states : n ≡ state_count m.vars = sym (states_counted is_state refl refl refl m.vars) in
    let discretes : g ≡ discrete_count m.vars = sym (discretes_counted is_discrete refl refl refl m.vars) in
    let rights : All (IsRightSide n g) (take n f.forms) = λ i d inside. right_side_for (equation_place m) (get_or (take n f.forms) i d) refl (forms_of_states m order f are i d inside) in
    let others : All (λ (form : ExactForm). AreNamed (n + g + g) form.entries) (drop n f.forms) =
    λ i d inside. named_for (clause_place m) (get_or (drop n f.forms) i d) (forms_of_clauses m order f are i d inside) in
    record {
      one_each = forms_one_each m order f are ∙ ap (λ (k : ℕ). k + sum_by clause_forms m.clauses) states;
      of_states = subst (λ (k : ℕ). All (IsRightSide (state_count m.vars) k) (take (state_count m.vars) f.forms)) discretes
          (subst (λ (k : ℕ). All (IsRightSide k g) (take k f.forms)) states rights);
      of_clauses = subst (λ (k : ℕ). All (λ (form : ExactForm). AreNamed (state_count m.vars + k + k) form.entries) (drop (state_count m.vars) f.forms)) discretes
          (subst (λ (k : ℕ). All (λ (form : ExactForm). AreNamed (k + g + g) form.entries) (drop k f.forms)) states others);
    }
