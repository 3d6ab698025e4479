-- The forms of the conditions and statements of a flat model have their values.
use Rattle.mu_meaning.proofs.Common
use Common.{[], ℕ, ◌∙◌, ◌∷◌, ◌≡◌, action_form, actions_same, AffineErr, AffineForm, All}
use Common.{All-contains, Assign, both, branches_same, clause_context, clauses_same, condition_form}
use Common.{Contains, Context, difference, FlatAction, FlatBranchTree, FlatModelTree, form_of}
use Common.{form_value, forms_of, FormsSoFar, HasDenominators, HasProperAction, HasProperBranch}
use Common.{HasProperNumbers, inl, inr, IsFlatAction, IsFlatBranch, IsFlatClause, IsFlatModel}
use Common.{IsNumber, IsValuation, keep, keep_actions, keep_branches, keep_clauses, keep_same, List}
use Common.{none_contained, Ok, parts_of, Restart, Result, Sizes, sizes_of, subst, sym, then_take}
use Common.{true, Valuation, value}
use Rattle.mu_causal.proofs.Elements.{contained}
use Rattle.mu_meaning.specs.Meaning.{assigned}
use Rattle.mu_meaning.proofs.Meaning.{forms_have_values}
use Rattle.mu_meaning.proofs.Conditions.{conditions_have_values}
use Rattle.mu_meaning.proofs.Models.{keep_kept, expression_sound, stages}

-- ---- each condition and each statement has a form

module _ (n : Sizes) (S : ℕ → AffineForm) where
  in_context : (g : Context → Result AffineForm AffineErr) (t : FormsSoFar) (F : AffineForm) →
      t.solved ≡ S → g (clause_context n t.solved) ≡ Ok F → g (clause_context n S) ≡ Ok F
  in_context g t F same h = subst (λ (T : ℕ → AffineForm). g (clause_context n T) ≡ Ok F) same h

  -- a statement
  action_taken : (xs : List FlatAction) (t u : FormsSoFar) → t.solved ≡ S → keep_actions n xs t ≡ Ok
      u → (a : FlatAction) → Contains xs a → (F : AffineForm) ×
      (action_form (clause_context n S) a ≡ Ok F)
  action_taken [] t u same h a there = absurd (none_contained a there)
  action_taken (x ∷ xs) t u same h a there =
      let part = action_form (clause_context n t.solved) x in
      let step = parts_of (keep n part t) (keep_actions n xs) u h in
      let k = keep_kept n part t step.0 step.1 in
      elim (contained x xs a there) [
        | inl is ↦ (
          k.form,
          subst (λ (y : FlatAction). action_form (clause_context n S) y ≡ Ok
              k.form) is (in_context (λ c. action_form c x) t k.form same k.is),
        )
        | inr later ↦ action_taken xs step.0 u (keep_same n part t step.0 step.1 ∙ same) step.2 a
            later
      ]

  -- a branch: its condition and its statements
  pub record IsTaken (b : FlatBranchTree) : Type 0 where
    pub form : AffineForm
    pub is : condition_form (clause_context n S) b ≡ Ok form
    pub actions : (a : FlatAction) → Contains b.body a → (F : AffineForm) ×
        (action_form (clause_context n S) a ≡ Ok F)

  branch_taken : (xs : List FlatBranchTree) (t u : FormsSoFar) → t.solved ≡ S → keep_branches n xs t
      ≡ Ok u → (b : FlatBranchTree) → Contains xs b → IsTaken b
  branch_taken [] t u same h b there = absurd (none_contained b there)
  branch_taken (x ∷ xs) t u same h b there =
      let part = condition_form (clause_context n t.solved) x in
      let step = parts_of (keep n part t) (λ s. then_take (keep_actions n x.body s)
      (keep_branches n xs)) u h in
      let body = parts_of (keep_actions n x.body step.0) (keep_branches n xs) u step.2 in
      let k = keep_kept n part t step.0 step.1 in
      let same' : step.0.solved ≡ S = keep_same n part t step.0 step.1 ∙ same in
      elim (contained x xs b there) [
        | inl is ↦ subst IsTaken is (record {
          form = k.form;
          is = in_context
              (λ c. condition_form c x) t k.form same k.is;
          actions = action_taken x.body step.0
              body.0 same' body.1;
        })
        | inr later ↦ branch_taken xs body.0 u (actions_same n x.body step.0 body.0 body.1 ∙ same')
            body.2 b later
      ]

  pub clause_taken : (xs : List (List FlatBranchTree)) (t u : FormsSoFar) → t.solved ≡ S →
      keep_clauses n xs t ≡ Ok u → (bs : List FlatBranchTree) (b : FlatBranchTree) → Contains xs bs
      → Contains bs b → IsTaken b
  clause_taken [] t u same h bs b there inside = absurd (none_contained bs there)
  clause_taken (x ∷ xs) t u same h bs b there inside =
      let step = parts_of (keep_branches n x t) (keep_clauses n xs) u h in
      elim (contained x xs bs there) [
        | inl is ↦ branch_taken x t step.0 same step.1 b
            (subst (λ (y : List FlatBranchTree). Contains y b) (sym is) inside)
        | inr later ↦ clause_taken xs step.0 u (branches_same n x t step.0 step.1 ∙ same) step.2 bs
            b later inside
      ]

-- ---- the values of these forms

module _ (m : FlatModelTree) (order : List ℕ) (taken : FormsSoFar) (flat : IsFlatModel m)
    (proper : HasProperNumbers m) (solved> : (v : ℕ) → HasDenominators (taken.solved v))
    (h : forms_of m order ≡ Ok taken) where
  taken_branch : (bs : List FlatBranchTree) (b : FlatBranchTree) → Contains m.clauses bs → Contains
      bs b → IsTaken (sizes_of m) taken.solved b
  taken_branch bs b there inside =
      let s = stages m order taken h in
      clause_taken (sizes_of m) taken.solved m.clauses s.states taken
      (sym (clauses_same (sizes_of m) m.clauses s.states taken s.clauses)) s.clauses bs b there
      inside

  flat_branch_there : (bs : List FlatBranchTree) (b : FlatBranchTree) → Contains m.clauses bs →
      Contains bs b → IsFlatBranch m.vars b
  flat_branch_there bs b there inside = All-contains (IsFlatBranch m.vars) bs b
      (All-contains (IsFlatClause m.vars) m.clauses bs flat.clauses there).1 inside

  proper_branch : (bs : List FlatBranchTree) (b : FlatBranchTree) → Contains m.clauses bs → Contains
      bs b → HasProperBranch b
  proper_branch bs b there inside = All-contains HasProperBranch bs b
      (All-contains (All HasProperBranch) m.clauses bs proper.clauses there) inside

  pub conditions_hold : (bs : List FlatBranchTree) (b : FlatBranchTree) → Contains m.clauses bs →
      Contains bs b
      → (g : AffineForm) × (condition_form (clause_context (sizes_of m) taken.solved) b ≡ Ok g) ×
      HasDenominators g
      × ((x : Valuation) → IsValuation (sizes_of m) taken.solved x → IsNumber
      (both difference (value x b.left) (value x b.right)) (form_value (sizes_of m) g x))
  conditions_hold bs b there inside =
      let t = taken_branch bs b there inside in
      let is = flat_branch_there bs b there inside in
      let constants = proper_branch bs b there inside in
      let v = conditions_have_values (clause_context (sizes_of m) taken.solved) b t.form solved>
      (expression_sound m flat true b.left is.0 constants.0)
      (expression_sound m flat true b.right is.1 constants.1) t.is in
      (t.form, t.is, v.0, v.1)

  pub statements_hold : (bs : List FlatBranchTree) (b : FlatBranchTree) (a : FlatAction) → Contains
      m.clauses bs → Contains bs b → Contains b.body a
      → (g : AffineForm) × (form_of (clause_context (sizes_of m) taken.solved) (assigned a) ≡ Ok g)
      × HasDenominators g
      × ((x : Valuation) → IsValuation (sizes_of m) taken.solved x → IsNumber (value x (assigned a))
      (form_value (sizes_of m) g x))
  statements_hold bs b a there inside within =
      let t = (taken_branch bs b there inside).actions a within in
      let is = All-contains (IsFlatAction m.vars) b.body a (flat_branch_there bs b there inside).2
      within in
      let constants = All-contains HasProperAction b.body a (proper_branch bs b there inside).2
      within in
      by_kind a t.0 t.1 is constants
    where
      by_kind : (a : FlatAction) (g : AffineForm) → action_form
          (clause_context (sizes_of m) taken.solved) a ≡ Ok g → IsFlatAction m.vars a →
          HasProperAction a
          → (g : AffineForm) × (form_of (clause_context (sizes_of m) taken.solved) (assigned a) ≡ Ok
          g) × HasDenominators g
          × ((x : Valuation) → IsValuation (sizes_of m) taken.solved x → IsNumber
          (value x (assigned a)) (form_value (sizes_of m) g x))
      by_kind (Assign w e) g form is constants =
          let v = forms_have_values (clause_context (sizes_of m) taken.solved) e g solved>
          (expression_sound m flat true e is.1 constants) form in
          (g, form, v.0, v.1)
      by_kind (Restart w e) g form is constants =
          let v = forms_have_values (clause_context (sizes_of m) taken.solved) e g solved>
          (expression_sound m flat true e is.1 constants) form in
          (g, form, v.0, v.1)
