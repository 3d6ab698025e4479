-- Where the forms of a flat model are taken without a fault, there are exact forms of them.
use Rattle.qss_compile.proofs.Common
use Common.{[], ℕ, ◌++◌, ◌+◌, ◌<◌, ◌∙◌, ◌∷◌, ◌≡◌, ◌≤◌, action_form, AffineErr, AffineForm, All, ap}
use Common.{AreForms, arith, Bool, clause_context, clause_place, condition_form, counted}
use Common.{equation_context, equation_place, ExactForm, false, FlatAction, FlatBranchTree}
use Common.{FlatEquationTree, FlatModelTree, form_meaning, form_of, Forms, forms_of, FormsSoFar}
use Common.{if◌then◌else◌, IsFinished, IsFlatModel, IsNumbered, keep, keep_actions, keep_branches}
use Common.{keep_states, length, List, map, nat_eq, nat_lt, nat_tests, none, Ok, Place, refl}
use Common.{Result, right_side, sizes_of, slice_get, solve, solve_all, Some, subst, suc, sym}
use Common.{then_take, true, zero}
use Rattle.mu_affine.proofs.Bridges.{equation_numbered, left_numbered, right_numbered}
use Rattle.mu_affine.proofs.Bridges.{action_numbered}
use Rattle.mu_affine.specs.FormSequence.{keep_clauses, nothing_taken}
use Rattle.mu_tree.specs.FlatModels.{IsFlatEquation, IsFlatAction, IsFlatBranch, IsFlatClause}
use Rattle.qss_compile.proofs.Lengths.{taken_of, made, solve_all_kept, keep_length}
use Rattle.qss_compile.proofs.Lengths.{keep_states_length, keep_actions_length}
use Rattle.qss_compile.proofs.Lengths.{keep_branches_length}
use Rattle.qss_compile.proofs.Listing.{IsTidy, form_listed}
use Rattle.qss_compile.proofs.Tidy.{AreTidy, Gives, constant_tidy, form_gives, condition_gives}
use Rattle.qss_compile.proofs.Tidy.{action_gives}

-- what holds of all elements holds of the first one and of the others
first_of : {A : Type 0} (P : A → Type 0) (x : A) (xs : List A) → All P (x ∷ xs) → P x
first_of P x xs all = all 0 x (omega arith)

rest_of : {A : Type 0} (P : A → Type 0) (x : A) (xs : List A) → All P (x ∷ xs) → All P xs
rest_of P x xs all = λ i d lt. all (suc i) d (omega (arith, lt))

-- the place of each form that is kept
abbrev place_at : FlatModelTree → ℕ → Place
place_at m i = record { sizes = sizes_of m; in_equation = nat_lt i (sizes_of m).states }

abbrev place_with : FlatModelTree → Bool → Place
place_with m b = record { sizes = sizes_of m; in_equation = b }

of_state : (m : FlatModelTree) (i : ℕ) → i < (sizes_of m).states → equation_place m ≡ place_at m i
of_state m i h = ap (place_with m) (is_below i (sizes_of m).states h)
  where
    is_below : (a b : ℕ) → a < b → true ≡ nat_lt a b
    is_below a b h = grind (arith, nat_tests)

of_clause : (m : FlatModelTree) (i : ℕ) → (sizes_of m).states ≤ i → clause_place m ≡ place_at m i
of_clause m i h = ap (place_with m) (is_past i (sizes_of m).states h)
  where
    is_past : (a b : ℕ) → b ≤ a → false ≡ nat_lt a b
    is_past a b h = grind (arith, nat_tests)

-- forms that are tidy at their places, the first at this one
abbrev ArePlaced : FlatModelTree → ℕ → List AffineForm → Type 0
ArePlaced m i [] = Unit {0}
ArePlaced m i (f ∷ fs) = IsTidy (place_at m i) f × ArePlaced m (suc i) fs

placed_more : (m : FlatModelTree) (i : ℕ) (fs : List AffineForm) (f : AffineForm) → ArePlaced m i fs → IsTidy (place_at m (i + length fs)) f → ArePlaced m i (fs ++ f ∷ [])
placed_more m i [] f all tidy = (let same : i + 0 ≡ i = omega arith in subst (λ (k : ℕ). IsTidy (place_at m k) f) same tidy, tt)
placed_more m i (x ∷ fs) f all tidy = (
  all.0,
  placed_more m (suc i) fs f all.1 (let same : i + length (x ∷ fs) ≡ suc i + length fs = omega arith in subst (λ (k : ℕ). IsTidy (place_at m k) f) same tidy),
)

-- all that is taken is tidy
record IsGood (m : FlatModelTree) (t : FormsSoFar) : Type 0 where
  solved : AreTidy (sizes_of m) t.solved
  kept : ArePlaced m 0 t.kept

module _ (m : FlatModelTree) (flat : IsFlatModel m) where
  -- the right sides of equations
  side_numbered : (es : List FlatEquationTree) (v : ℕ) → All (IsFlatEquation m.vars) es → IsNumbered (equation_place m) (length m.vars) (right_side es v)
  side_numbered [] v all = tt
  side_numbered (e ∷ es) v all = elim (nat_eq e.target v) as (λ (b : Bool). IsNumbered (equation_place m) (length m.vars) (if b then e.value else right_side es v)) [
    | true ↦ equation_numbered m e (first_of (IsFlatEquation m.vars) e es all)
    | false ↦ side_numbered es v (rest_of (IsFlatEquation m.vars) e es all)
  ]

  side_tidy : (v : ℕ) (solved : ℕ → AffineForm) → AreTidy (sizes_of m) solved → Gives (equation_place m) (form_of (equation_context (sizes_of m) solved) (right_side m.equations v))
  side_tidy v solved tidy = form_gives (equation_context (sizes_of m) solved) (length m.vars) tidy (right_side m.equations v) (side_numbered m.equations v flat.equations)

  -- solving one variable
  solve_good : (v : ℕ) (t u : FormsSoFar) → solve m v t ≡ Ok u → IsGood m t → IsGood m u
  solve_good v t u e good =
      let last : AffineForm → ℕ → Result FormsSoFar AffineErr = λ f count. Ok (record { solved = λ w. if nat_eq w v then f else t.solved w; kept = t.kept; count = count }) in
      let one = taken_of (form_of (equation_context (sizes_of m) t.solved) (right_side m.equations v)) (λ f. then_take (counted (sizes_of m) t.count f) (last f)) u e in
      let two = taken_of (counted (sizes_of m) t.count one.0) (last one.0) u one.2 in
      let here : IsTidy (equation_place m) one.0 = side_tidy v t.solved good.solved one.0 one.1 in
      let new : AreTidy (sizes_of m) (λ w. if nat_eq w v then one.0 else t.solved w) =
      λ w. elim (nat_eq w v) as (λ (b : Bool). IsTidy (equation_place m) (if b then one.0 else t.solved w)) [ true ↦ here | false ↦ good.solved w ] in
      subst (IsGood m) (made _ u two.2) (record { solved = new; kept = good.kept })

  solve_all_good : (vs : List ℕ) (t u : FormsSoFar) → solve_all m vs t ≡ Ok u → IsGood m t → IsGood m u
  solve_all_good [] t u e good = subst (IsGood m) (made t u e) good
  solve_all_good (v ∷ vs) t u e good =
      let one = taken_of (solve m v t) (solve_all m vs) u e in
      solve_all_good vs one.0 u one.2 (solve_good v t one.0 one.1 good)

  -- keeping one form
  keep_good : (form : Result AffineForm AffineErr) (t u : FormsSoFar) → keep (sizes_of m) form t ≡ Ok u → IsGood m t → Gives (place_at m (length t.kept)) form → IsGood m u
  keep_good form t u e good gives =
      let last : AffineForm → ℕ → Result FormsSoFar AffineErr = λ f count. Ok (record { solved = t.solved; kept = t.kept ++ f ∷ []; count = count }) in
      let one = taken_of form (λ f. then_take (counted (sizes_of m) t.count f) (last f)) u e in
      let two = taken_of (counted (sizes_of m) t.count one.0) (last one.0) u one.2 in
      let same : length t.kept ≡ 0 + length t.kept = omega arith in
      let here : IsTidy (place_at m (0 + length t.kept)) one.0 = subst (λ (k : ℕ). IsTidy (place_at m k) one.0) same (gives one.0 one.1) in
      subst (IsGood m) (made _ u two.2) (record { solved = good.solved; kept = placed_more m 0 t.kept one.0 good.kept here })

  keep_states_good : (v more : ℕ) (t u : FormsSoFar) → keep_states m v more t ≡ Ok u → length t.kept ≡ v → v + more ≡ (sizes_of m).states → IsGood m t → IsGood m u
  keep_states_good v zero t u e long all good = subst (IsGood m) (made t u e) good
  keep_states_good v (suc more) t u e long all good =
      let form = form_of (equation_context (sizes_of m) t.solved) (right_side m.equations v) in
      let one = taken_of (keep (sizes_of m) form t) (keep_states m (suc v) more) u e in
      let place : equation_place m ≡ place_at m (length t.kept) = of_state m (length t.kept) (omega (arith, long, all)) in
      let gives : Gives (place_at m (length t.kept)) form = subst (λ (p : Place). Gives p form) place (side_tidy v t.solved good.solved) in
      let more_long = keep_length (sizes_of m) form t one.0 one.1 in
      keep_states_good (suc v) more one.0 u one.2 (omega (arith, more_long, long)) (omega (arith, all)) (keep_good form t one.0 one.1 good gives)

  -- a form of a condition or a statement
  clause_gives : (form : Result AffineForm AffineErr) (k : ℕ) → (sizes_of m).states ≤ k → Gives (clause_place m) form → Gives (place_at m k) form
  clause_gives form k past gives = subst (λ (p : Place). Gives p form) (of_clause m k past) gives

  keep_actions_good : (as' : List FlatAction) (t u : FormsSoFar) → keep_actions (sizes_of m) as' t ≡ Ok u → All (IsFlatAction m.vars) as' → (sizes_of m).states ≤ length t.kept → IsGood m t → IsGood m u
  keep_actions_good [] t u e all past good = subst (IsGood m) (made t u e) good
  keep_actions_good (a ∷ as') t u e all past good =
      let form = action_form (clause_context (sizes_of m) t.solved) a in
      let one = taken_of (keep (sizes_of m) form t) (keep_actions (sizes_of m) as') u e in
      let gives = action_gives (clause_context (sizes_of m) t.solved) (length m.vars) good.solved a (action_numbered m flat a (first_of (IsFlatAction m.vars) a as' all)) in
      let longer = keep_length (sizes_of m) form t one.0 one.1 in
      keep_actions_good as' one.0 u one.2 (rest_of (IsFlatAction m.vars) a as' all) (omega (arith, past, longer)) (keep_good form t one.0 one.1 good (clause_gives form (length t.kept) past gives))

  keep_branches_good : (bs : List FlatBranchTree) (t u : FormsSoFar) → keep_branches (sizes_of m) bs t ≡ Ok u → All (IsFlatBranch m.vars) bs → (sizes_of m).states ≤ length t.kept → IsGood m t → IsGood m u
  keep_branches_good [] t u e all past good = subst (IsGood m) (made t u e) good
  keep_branches_good (b ∷ bs) t u e all past good =
      let form = condition_form (clause_context (sizes_of m) t.solved) b in
      let one = taken_of (keep (sizes_of m) form t) (λ t. then_take (keep_actions (sizes_of m) b.body t) (keep_branches (sizes_of m) bs)) u e in
      let two = taken_of (keep_actions (sizes_of m) b.body one.0) (keep_branches (sizes_of m) bs) u one.2 in
      let is_branch = first_of (IsFlatBranch m.vars) b bs all in
      let gives = condition_gives (clause_context (sizes_of m) t.solved) (length m.vars) good.solved b (left_numbered m flat b is_branch) (right_numbered m flat b is_branch) in
      let longer = keep_length (sizes_of m) form t one.0 one.1 in
      let body = keep_actions_length (sizes_of m) b.body one.0 two.0 two.1 in
      let after = keep_good form t one.0 one.1 good (clause_gives form (length t.kept) past gives) in
      let past_one : (sizes_of m).states ≤ length one.0.kept = omega (arith, past, longer) in
      keep_branches_good bs two.0 u two.2 (rest_of (IsFlatBranch m.vars) b bs all) (omega (arith, past_one, body)) (keep_actions_good b.body one.0 two.0 two.1 is_branch.2 past_one after)

  keep_clauses_good : (cs : List (List FlatBranchTree)) (t u : FormsSoFar) → keep_clauses (sizes_of m) cs t ≡ Ok u → All (IsFlatClause m.vars) cs → (sizes_of m).states ≤ length t.kept → IsGood m t → IsGood m u
  keep_clauses_good [] t u e all past good = subst (IsGood m) (made t u e) good
  keep_clauses_good (bs ∷ cs) t u e all past good =
      let one = taken_of (keep_branches (sizes_of m) bs t) (keep_clauses (sizes_of m) cs) u e in
      let longer = keep_branches_length (sizes_of m) bs t one.0 one.1 in
      let is_clause = first_of (IsFlatClause m.vars) bs cs all in
      keep_clauses_good cs one.0 u one.2 (rest_of (IsFlatClause m.vars) bs cs all) (omega (arith, past, longer)) (keep_branches_good bs t one.0 one.1 is_clause.1 past good)

  -- all forms
  forms_good : (order : List ℕ) (t : FormsSoFar) → forms_of m order ≡ Ok t → IsGood m t
  forms_good order t e =
      let one = taken_of (solve_all m order nothing_taken) (λ t. then_take (keep_states m 0 (sizes_of m).states t) (keep_clauses (sizes_of m) m.clauses)) t e in
      let two = taken_of (keep_states m 0 (sizes_of m).states one.0) (keep_clauses (sizes_of m) m.clauses) t one.2 in
      let first : IsGood m nothing_taken = record { solved = λ v. constant_tidy (equation_place m) none; kept = tt } in
      let solved = solve_all_good order nothing_taken one.0 one.1 first in
      let nothing = ap (λ (xs : List AffineForm). length xs) (solve_all_kept m order nothing_taken one.0 one.1) in
      let empty : length one.0.kept ≡ 0 = nothing in
      let states = keep_states_length m 0 (sizes_of m).states one.0 two.0 two.1 in
      let rights = keep_states_good 0 (sizes_of m).states one.0 two.0 two.1 empty (omega arith) solved in
      keep_clauses_good m.clauses two.0 t two.2 flat.clauses (omega (arith, states)) rights

-- exact forms of forms that are tidy at their places
listed_from : (m : FlatModelTree) (i : ℕ) (fs : List AffineForm) → ArePlaced m i fs
    → (gs : List ExactForm) × (map form_meaning gs ≡ fs) × ((k : ℕ) (g : ExactForm) → slice_get gs k ≡ Some g → IsFinished (place_at m (i + k)) g)
listed_from m i [] all = ([], refl, λ k g e. absurd (cc e))
listed_from m i (f ∷ fs) all = with_rest (form_listed (place_at m i) f all.0) (listed_from m (suc i) fs all.1)
  where
    both : (x y : AffineForm) (xs ys : List AffineForm) → x ≡ y → xs ≡ ys → x ∷ xs ≡ y ∷ ys
    both x y xs ys p q = ap (λ e. e ∷ xs) p ∙ ap (λ es. y ∷ es) q

    with_rest : (g : ExactForm) × (form_meaning g ≡ f) × IsFinished (place_at m i) g
        → (gs : List ExactForm) × (map form_meaning gs ≡ fs) × ((k : ℕ) (g : ExactForm) → slice_get gs k ≡ Some g → IsFinished (place_at m (suc i + k)) g)
        → (gs : List ExactForm) × (map form_meaning gs ≡ f ∷ fs) × ((k : ℕ) (g : ExactForm) → slice_get gs k ≡ Some g → IsFinished (place_at m (i + k)) g)
    with_rest (g, means, finished) (gs, mean, each) = (g ∷ gs, both (form_meaning g) f (map form_meaning gs) fs means mean, at)
      where
        at : (k : ℕ) (h : ExactForm) → slice_get (g ∷ gs) k ≡ Some h → IsFinished (place_at m (i + k)) h
        at zero h e =
            let same : g ≡ h = cc e in
            let place : i ≡ i + 0 = omega arith in
            subst (λ (k : ℕ). IsFinished (place_at m k) h) place (subst (IsFinished (place_at m i)) same finished)
        at (suc k) h e = let place : suc i + k ≡ i + suc k = omega arith in subst (λ (j : ℕ). IsFinished (place_at m j) h) place (each k h e)

-- the forms of a flat model without a fault
pub forms_exist : (m : FlatModelTree) (order : List ℕ) (t : FormsSoFar) → IsFlatModel m → forms_of m order ≡ Ok t → (f : Forms) × AreForms m order f
forms_exist m order t flat e = with_forms (listed_from m 0 t.kept (forms_good m flat order t e).kept)
  where
    with_forms : (gs : List ExactForm) × (map form_meaning gs ≡ t.kept) × ((k : ℕ) (g : ExactForm) → slice_get gs k ≡ Some g → IsFinished (place_at m (0 + k)) g) → (f : Forms) × AreForms m order f
    with_forms (gs, mean, each) = (
      record { forms = gs },
      record {
        taken = t;
        is = e;
        meanings = mean;
        states = λ i g below at. subst (λ (p : Place). IsFinished p g) (ap (place_at m) (zero_and i) ∙ sym (of_state m i below)) (each i g at);
        others = λ i g past at. subst (λ (p : Place). IsFinished p g) (ap (place_at m) (zero_and i) ∙ sym (of_clause m i past)) (each i g at);
      },
    )
      where
        zero_and : (i : ℕ) → 0 + i ≡ i
        zero_and i = omega arith
