-- The affine forms of a flat model in the order of their computation, or the first error.
-- The order: algebraic variables, states by number, then the branches of each clause.
use Rattle.std.specs.Prelude.{ℕ, ◌+◌, ◌^◌, nat_eq, nat_lt, if◌then◌else◌, List, [], ◌∷◌, ◌++◌}
use Rattle.std.specs.Prelude.{Result, Ok, Err}
use Prim.Native.Nat.{zero, suc}
use Rattle.mu_num.specs.Fraction.{difference}
use Rattle.mu_tree.specs.FlatExpression.{FlatExpression, Constant, FlatEquationTree, FlatAction}
use Rattle.mu_tree.specs.FlatExpression.{Assign, Restart, FlatBranchTree, FlatModelTree}
use Rattle.mu_affine.specs.declared.affine_fault.AffineErr.{AffineErr}
use Rattle.mu_affine.specs.declared.affine_fault.AffineErr.TheVariants.{TooDense}
use Rattle.mu_affine.specs.declared.exact_form.Sizes.{Sizes}
use Rattle.mu_affine.specs.FormParts.{then_form, placed}
use Rattle.mu_affine.specs.AffineForm.{AffineForm, none, constant_form, combined, checked_form}
use Rattle.mu_affine.specs.AffineForm.{coefficient_count}
use Rattle.mu_affine.specs.FormOf.{Context, form_of}
use Rattle.mu_affine.specs.Solution.{sizes_of, equation_context, clause_context}

-- the forms of algebraic variables so far, the kept forms so far, and the number of nonzero
-- coefficients of all of them
pub record FormsSoFar : Type 0 where
  pub solved : ℕ → AffineForm
  pub kept : List AffineForm
  pub count : ℕ

-- applies the next step unless there is an error
abbrev pub then_take : {A B : Type 0} → Result A AffineErr → (A → Result B AffineErr) → Result B AffineErr
then_take (Ok a) next = next a
then_take (Err fault) next = Err fault

-- the count after one more form, at most 65,536 coefficients
abbrev pub counted : Sizes → ℕ → AffineForm → Result ℕ AffineErr
counted n count f = if nat_lt (2 ^ 16) (count + coefficient_count n f) then Err (TooDense (2 ^ 16 + 1)) else Ok (count + coefficient_count n f)

-- the right-hand side of a variable's equation
abbrev pub right_side : List FlatEquationTree → ℕ → FlatExpression
right_side [] v = Constant none 0
right_side (e ∷ es) v = if nat_eq e.target v then e.value else right_side es v

-- computes the form of the next algebraic variable
abbrev pub solve : FlatModelTree → ℕ → FormsSoFar → Result FormsSoFar AffineErr
solve m v t =
    then_take (form_of (equation_context (sizes_of m) t.solved) (right_side m.equations v)) (λ f.
    then_take (counted (sizes_of m) t.count f) (λ count.
    Ok (record { solved = λ w. if nat_eq w v then f else t.solved w; kept = t.kept; count = count })))

-- computes the forms of the algebraic variables in this order
abbrev pub solve_all : FlatModelTree → List ℕ → FormsSoFar → Result FormsSoFar AffineErr
solve_all m [] t = Ok t
solve_all m (v ∷ vs) t = then_take (solve m v t) (solve_all m vs)

-- appends one kept form
abbrev pub keep : Sizes → Result AffineForm AffineErr → FormsSoFar → Result FormsSoFar AffineErr
keep n form t = then_take form (λ f. then_take (counted n t.count f) (λ count. Ok (record { solved = t.solved; kept = t.kept ++ f ∷ []; count = count })))

-- appends the forms of `more` states from number v on
abbrev pub keep_states : FlatModelTree → (v more : ℕ) → FormsSoFar → Result FormsSoFar AffineErr
keep_states m v zero t = Ok t
keep_states m v (suc more) t =
    then_take (keep (sizes_of m) (form_of (equation_context (sizes_of m) t.solved) (right_side m.equations v)) t) (keep_states m (suc v) more)

-- a condition's form: the difference of its left and its right side; the errors of the sides come
-- first
abbrev pub condition_form : Context → FlatBranchTree → Result AffineForm AffineErr
condition_form c b =
    then_form (form_of c b.left) (λ l. then_form (form_of c b.right) (λ r. placed b.at (checked_form c.place.sizes (combined difference l r))))

-- the form of the value that a statement assigns
abbrev pub action_form : Context → FlatAction → Result AffineForm AffineErr
action_form c (Assign v e) = form_of c e
action_form c (Restart v e) = form_of c e

abbrev pub keep_actions : Sizes → List FlatAction → FormsSoFar → Result FormsSoFar AffineErr
keep_actions n [] t = Ok t
keep_actions n (a ∷ as') t = then_take (keep n (action_form (clause_context n t.solved) a) t) (keep_actions n as')

abbrev pub keep_branches : Sizes → List FlatBranchTree → FormsSoFar → Result FormsSoFar AffineErr
keep_branches n [] t = Ok t
keep_branches n (b ∷ bs) t =
    then_take (keep n (condition_form (clause_context n t.solved) b) t) (λ t. then_take (keep_actions n b.body t) (keep_branches n bs))

abbrev pub keep_clauses : Sizes → List (List FlatBranchTree) → FormsSoFar → Result FormsSoFar AffineErr
keep_clauses n [] t = Ok t
keep_clauses n (bs ∷ cs) t = then_take (keep_branches n bs t) (keep_clauses n cs)

-- the empty state of the computation
abbrev pub nothing_taken : FormsSoFar
nothing_taken = record { solved = λ v. constant_form none; kept = []; count = 0 }

-- the forms of a flat model with this causal order, or the first error
abbrev pub forms_of : FlatModelTree → List ℕ → Result FormsSoFar AffineErr
forms_of m order =
    then_take (solve_all m order nothing_taken) (λ t.
    then_take (keep_states m 0 (sizes_of m).states t) (keep_clauses (sizes_of m) m.clauses))
