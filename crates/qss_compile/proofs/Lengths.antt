-- How many forms are kept by each step.
use Rattle.qss_compile.proofs.Common
use Common.{[], ℕ, ◌++◌, ◌+◌, ◌∙◌, ◌∷◌, ◌≡◌, action_form, AffineErr, AffineForm, ap, arith}
use Common.{clause_context, condition_form, counted, equation_context, Err, FlatAction}
use Common.{FlatBranchTree, FlatModelTree, form_of, FormsSoFar, if◌then◌else◌, keep, keep_actions}
use Common.{keep_branches, keep_states, length, List, nat_eq, Ok, refl, Result, right_side, Sizes}
use Common.{sizes_of, solve, solve_all, suc, sum_by, sym, then_take, zero}
use Rattle.std.proofs.Common.{length-append}
use Rattle.std.proofs.lemmas.List.Sums.{sum_by-cons}
use Rattle.mu_affine.specs.FormPlaces.{branch_forms}

-- of two steps that succeed the first one does
pub taken_of : {A B : Type 0} (r : Result A AffineErr) (next : A → Result B AffineErr) (b : B) → then_take r next ≡ Ok b → (a : A) × (r ≡ Ok a) × (next a ≡ Ok b)
taken_of (Ok a) next b e = (a, refl, e)
taken_of (Err fault) next b e = absurd (cc e)

abbrev okay : FormsSoFar → Result FormsSoFar AffineErr
okay t = Ok t

pub made : (a b : FormsSoFar) → okay a ≡ okay b → a ≡ b
made a b e = cc e

solve_kept : (m : FlatModelTree) (v : ℕ) (t u : FormsSoFar) → solve m v t ≡ Ok u → u.kept ≡ t.kept
solve_kept m v t u e =
    let last : AffineForm → ℕ → Result FormsSoFar AffineErr = λ f count. Ok (record { solved = λ w. if nat_eq w v then f else t.solved w; kept = t.kept; count = count }) in
    let one = taken_of (form_of (equation_context (sizes_of m) t.solved) (right_side m.equations v)) (λ f. then_take (counted (sizes_of m) t.count f) (last f)) u e in
    let two = taken_of (counted (sizes_of m) t.count one.0) (last one.0) u one.2 in
    sym (ap (λ (x : FormsSoFar). x.kept) (made _ u two.2))

pub solve_all_kept : (m : FlatModelTree) (vs : List ℕ) (t u : FormsSoFar) → solve_all m vs t ≡ Ok u → u.kept ≡ t.kept
solve_all_kept m [] t u e = sym (ap (λ (x : FormsSoFar). x.kept) (made t u e))
solve_all_kept m (v ∷ vs) t u e =
    let one = taken_of (solve m v t) (solve_all m vs) u e in
    solve_all_kept m vs one.0 u one.2 ∙ solve_kept m v t one.0 one.1

pub keep_length : (n : Sizes) (form : Result AffineForm AffineErr) (t u : FormsSoFar) → keep n form t ≡ Ok u → length u.kept ≡ length t.kept + 1
keep_length n form t u e =
    let last : AffineForm → ℕ → Result FormsSoFar AffineErr = λ f count. Ok (record { solved = t.solved; kept = t.kept ++ f ∷ []; count = count }) in
    let one = taken_of form (λ f. then_take (counted n t.count f) (last f)) u e in
    let two = taken_of (counted n t.count one.0) (last one.0) u one.2 in
    ap (λ (x : FormsSoFar). length x.kept) (sym (made _ u two.2)) ∙ length-append t.kept (one.0 ∷ [])

pub keep_states_length : (m : FlatModelTree) (v more : ℕ) (t u : FormsSoFar) → keep_states m v more t ≡ Ok u → length u.kept ≡ length t.kept + more
keep_states_length m v zero t u e = let s = ap (λ (x : FormsSoFar). length x.kept) (made t u e) in omega (arith, s)
keep_states_length m v (suc more) t u e =
    let one = taken_of (keep (sizes_of m) (form_of (equation_context (sizes_of m) t.solved) (right_side m.equations v)) t) (keep_states m (suc v) more) u e in
    let now = keep_length (sizes_of m) _ t one.0 one.1 in
    let later = keep_states_length m (suc v) more one.0 u one.2 in
    omega (arith, now, later)

pub keep_actions_length : (n : Sizes) (as' : List FlatAction) (t u : FormsSoFar) → keep_actions n as' t ≡ Ok u → length u.kept ≡ length t.kept + length as'
keep_actions_length n [] t u e = let s = ap (λ (x : FormsSoFar). length x.kept) (made t u e) in omega (arith, s)
keep_actions_length n (a ∷ as') t u e =
    let one = taken_of (keep n (action_form (clause_context n t.solved) a) t) (keep_actions n as') u e in
    let now = keep_length n _ t one.0 one.1 in
    let later = keep_actions_length n as' one.0 u one.2 in
    omega (arith, now, later)

pub keep_branches_length : (n : Sizes) (bs : List FlatBranchTree) (t u : FormsSoFar) → keep_branches n bs t ≡ Ok u → length u.kept ≡ length t.kept + sum_by branch_forms bs
keep_branches_length n [] t u e = let s = ap (λ (x : FormsSoFar). length x.kept) (made t u e) in omega (arith, s)
keep_branches_length n (b ∷ bs) t u e =
    let one = taken_of (keep n (condition_form (clause_context n t.solved) b) t) (λ t. then_take (keep_actions n b.body t) (keep_branches n bs)) u e in
    let two = taken_of (keep_actions n b.body one.0) (keep_branches n bs) u one.2 in
    let now = keep_length n _ t one.0 one.1 in
    let body = keep_actions_length n b.body one.0 two.0 two.1 in
    let later = keep_branches_length n bs two.0 u two.2 in
    omega (arith, now, body, later, sum_by-cons branch_forms b bs)
