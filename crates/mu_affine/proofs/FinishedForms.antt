-- What the forms of a flat model have in common: how many there are, and which names stand in each.
use Rattle.mu_affine.proofs.Common
use Common.{[], ℕ, ◌*◌, ◌++◌, ◌+◌, ◌<◌, ◌∙◌, ◌∷◌, ◌≡◌, ◌≤◌, ◌⊎◌, action_form, AffineErr, AffineForm}
use Common.{Algebraic, All, AllByRecursion, ap, AreForms, arith, Bool, clause_context, clause_place}
use Common.{condition_form, count_of_role, counted, Discrete, drop, Equal, equation_context}
use Common.{equation_place, ExactEntry, ExactForm, ExactProduct, false, FlatAction, FlatBranchTree}
use Common.{FlatModelTree, FlatRole, FlatVariable, form_meaning, form_of, Forms, FormsSoFar, get_or}
use Common.{get_or_default, Greater, if◌then◌else◌, inl, inr, is_nonzero, IsFinished, IsPair}
use Common.{IsStrictlyIncreasing, IsStrictlyIncreasing-from_sorted, IsStrictlySortedBy, keep}
use Common.{keep_actions, keep_branches, keep_clauses, keep_states, keys_of, length, length-map}
use Common.{length_push, Less, List, map, MayStand, named, nat_cmp, nat_eq, nothing_taken, Ok}
use Common.{Ordering, ordering_then, pair_cmp, paired, Place, ranked, refl, Result, right_side}
use Common.{Sizes, sizes_of, slice_get, slice_get-get_or, solve, solve_all, Some, State, subst, suc}
use Common.{sum_by, sum_by-cons, sym, take, then_take, true, zero}
use Rattle.std.specs.Prelude.{count_by}
use Rattle.std.proofs.Math.Nat.{mul-le-mul_left}
use Rattle.std.proofs.lemmas.List.Elements.{recursion_from_All}
use Rattle.mu_affine.proofs.RowForms.{nat_order, pair_order, entry_at}
use Rattle.mu_affine.proofs.Sums.{nonzero_at}
use Rattle.mu_affine.proofs.Counts.{one_if}
use Rattle.mu_affine.proofs.Steps.{parts_of, same_ok}

-- the names of a finished form are allowed at its place
name_stands : (p : Place) (f : ExactForm) → IsFinished p f → All (λ e. MayStand p e.var) f.entries
name_stands p f finished k d within =
    let e : ExactEntry = get_or f.entries k d in
    let nonzero : is_nonzero ((form_meaning f).coefficient e.var) ≡ true =
    nonzero_at nat_cmp nat_order (map named f.entries) k (named e) finished.canonical.names (entry_at named f.entries k e within (get_or_default f.entries k d e within)) in
    finished.over.names e.var nonzero

-- they are those of states, discrete variables and previous values
pub names_known : (p : Place) (f : ExactForm) → IsFinished p f → All (λ e. e.var < p.sizes.states + p.sizes.discretes + p.sizes.discretes) f.entries
names_known p f finished k d within = (name_stands p f finished k d within).0

-- and in equations those of states and discrete variables
pub equation_names_known : (p : Place) (f : ExactForm) → p.in_equation ≡ true → IsFinished p f → All (λ e. e.var < p.sizes.states + p.sizes.discretes) f.entries
equation_names_known p f inside finished k d within = (name_stands p f finished k d within).1 inside

-- the pairs of a finished form are each of a state and a discrete variable
pair_stands : (p : Place) (f : ExactForm) → IsFinished p f → All (λ e. IsPair p.sizes e.state e.discrete) f.products
pair_stands p f finished k d within =
    let e : ExactProduct = get_or f.products k d in
    let nonzero : is_nonzero ((form_meaning f).paired e.state e.discrete) ≡ true =
    nonzero_at pair_cmp pair_order (map paired f.products) k (paired e) finished.canonical.pairs (entry_at paired f.products k e within (get_or_default f.products k d e within)) in
    (finished.over.pairs e.state e.discrete nonzero).0

pub pair_states_known : (p : Place) (f : ExactForm) → IsFinished p f → All (λ e. e.state < p.sizes.states) f.products
pair_states_known p f finished k d within = (pair_stands p f finished k d within).0

pub pair_discretes_known : (p : Place) (f : ExactForm) → IsFinished p f → All (λ e. (p.sizes.states ≤ e.discrete) × (e.discrete < p.sizes.states + p.sizes.discretes)) f.products
pair_discretes_known p f finished k d within = let pair = pair_stands p f finished k d within in (pair.1, pair.2)

-- the keys of entries are their names
keys_named : (es : List ExactEntry) → keys_of (map named es) ≡ map (λ e. e.var) es
keys_named [] = refl
keys_named (e ∷ es) = ap (λ ks. e.var ∷ ks) (keys_named es)

-- names rise
pub names_rise : (p : Place) (f : ExactForm) → IsFinished p f → IsStrictlyIncreasing (map (λ e. e.var) f.entries)
names_rise p f finished = IsStrictlyIncreasing-from_sorted (map (λ e. e.var) f.entries) (subst (IsStrictlySortedBy nat_cmp) (keys_named f.entries) finished.canonical.names.rising)

-- what it means that a number or a pair is less
nat_less : (a b : ℕ) → nat_cmp a b ≡ Less → a < b
nat_less a b h = ranked a b Less (sym h)

less_nat : (a b : ℕ) → a < b → nat_cmp a b ≡ Less
less_nat a b h = by_rank (nat_cmp a b) refl
  where
    by_rank : (r : Ordering) → nat_cmp a b ≡ r → nat_cmp a b ≡ Less
    by_rank Less e = e
    by_rank Equal e = absurd (let same : a ≡ b = ranked a b Equal (sym e) in omega arith)
    by_rank Greater e = absurd (let more : b < a = ranked a b Greater (sym e) in omega arith)

pair_less : (a b : ℕ × ℕ) → pair_cmp a b ≡ Less → (a.0 < b.0) ⊎ ((a.0 ≡ b.0) × (a.1 < b.1))
pair_less a b h = by_first (nat_cmp a.0 b.0) refl h
  where
    by_first : (r : Ordering) → nat_cmp a.0 b.0 ≡ r → ordering_then r (nat_cmp a.1 b.1) ≡ Less → (a.0 < b.0) ⊎ ((a.0 ≡ b.0) × (a.1 < b.1))
    by_first Less e less = inl (nat_less a.0 b.0 e)
    by_first Equal e less = inr (ranked a.0 b.0 Equal (sym e), nat_less a.1 b.1 less)
    by_first Greater e less = absurd (cc)

-- the number of a pair
abbrev pub pair_number : ℕ → ExactProduct → ℕ
pair_number width e = e.state * width + e.discrete

number_less : (width : ℕ) (a b : ExactProduct) → a.discrete < width → pair_cmp (a.state, a.discrete) (b.state, b.discrete) ≡ Less → pair_number width a < pair_number width b
number_less width a b within h =
    elim (pair_less (a.state, a.discrete) (b.state, b.discrete) h) [
      | inl less ↦ rows a.state b.state a.discrete b.discrete less within
      | inr same ↦ let e : a.state * width ≡ b.state * width = ap (λ s. s * width) same.0 in omega (arith, e, same.1)
    ]
  where
    rows : (s t d e : ℕ) → s < t → d < width → s * width + d < t * width + e
    rows s t d e less within = let le : s + 1 ≤ t = omega arith in let wide = mul-le-mul_left width le in omega (arith, wide)

numbers_less : (width : ℕ) (a : ExactProduct) (bs : List ExactProduct) → a.discrete < width → AllByRecursion (λ k. pair_cmp (a.state, a.discrete) k ≡ Less) (keys_of (map paired bs))
    → AllByRecursion (λ n. nat_cmp (pair_number width a) n ≡ Less) (map (pair_number width) bs)
numbers_less width a [] within h = tt
numbers_less width a (b ∷ bs) within h = (less_nat (pair_number width a) (pair_number width b) (number_less width a b within h.0), numbers_less width a bs within h.1)

numbers_sorted : (width : ℕ) (es : List ExactProduct) → AllByRecursion (λ e. e.discrete < width) es → IsStrictlySortedBy pair_cmp (keys_of (map paired es)) → IsStrictlySortedBy nat_cmp (map (pair_number width) es)
unfolding IsStrictlySortedBy
numbers_sorted width [] within h = tt
numbers_sorted width (e ∷ es) within h = (numbers_less width e es within.0 h.0, numbers_sorted width es within.1 h.1)

-- pairs rise
pub pairs_rise : (p : Place) (f : ExactForm) → IsFinished p f → IsStrictlyIncreasing (map (λ e. e.state * (p.sizes.states + p.sizes.discretes) + e.discrete) f.products)
pairs_rise p f finished =
    let width : ℕ = p.sizes.states + p.sizes.discretes in
    let within : All (λ e. e.discrete < width) f.products = λ k d h. (pair_stands p f finished k d h).2 in
    IsStrictlyIncreasing-from_sorted (map (pair_number width) f.products) (numbers_sorted width f.products (recursion_from_All (λ e. e.discrete < width) f.products within) finished.canonical.pairs.rising)

-- keeping one form
pub keep_length : (n : Sizes) (part : Result AffineForm AffineErr) (t u : FormsSoFar) → keep n part t ≡ Ok u → length u.kept ≡ length t.kept + 1
keep_length n part t u h =
    let form = parts_of part (λ f. then_take (counted n t.count f) (λ count. Ok (kept_with t f count))) u h in
    let count = parts_of (counted n t.count form.0) (λ count. Ok (kept_with t form.0 count)) u form.2 in
    sym (ap (λ (s : FormsSoFar). length s.kept) (same_ok (kept_with t form.0 count.0) u count.2)) ∙ length_push t.kept form.0
  where
    kept_with : FormsSoFar → AffineForm → ℕ → FormsSoFar
    kept_with t f count = record { solved = t.solved; kept = t.kept ++ f ∷ []; count = count }

-- solving keeps none
pub solve_length : (m : FlatModelTree) (vs : List ℕ) (t u : FormsSoFar) → solve_all m vs t ≡ Ok u → length u.kept ≡ length t.kept
solve_length m [] t u h = sym (ap (λ (s : FormsSoFar). length s.kept) (same_ok t u h))
solve_length m (v ∷ vs) t u h =
    let step = parts_of (solve m v t) (solve_all m vs) u h in
    let form = parts_of (form_of (equation_context (sizes_of m) t.solved) (right_side m.equations v)) (λ f. then_take (counted (sizes_of m) t.count f) (λ count. Ok (solved_with t (λ w. if nat_eq w v then f else t.solved w) count))) step.0 step.1 in
    let count = parts_of (counted (sizes_of m) t.count form.0) (λ count. Ok (solved_with t (λ w. if nat_eq w v then form.0 else t.solved w) count)) step.0 form.2 in
    solve_length m vs step.0 u step.2 ∙ sym (ap (λ (s : FormsSoFar). length s.kept) (same_ok (solved_with t (λ w. if nat_eq w v then form.0 else t.solved w) count.0) step.0 count.2))
  where
    solved_with : FormsSoFar → (ℕ → AffineForm) → ℕ → FormsSoFar
    solved_with t forms count = record { solved = forms; kept = t.kept; count = count }

pub states_length : (m : FlatModelTree) (v more : ℕ) (t u : FormsSoFar) → keep_states m v more t ≡ Ok u → length u.kept ≡ length t.kept + more
states_length m v zero t u h = let same = ap (λ (s : FormsSoFar). length s.kept) (same_ok t u h) in omega (arith, same)
states_length m v (suc more) t u h =
    let part = form_of (equation_context (sizes_of m) t.solved) (right_side m.equations v) in
    let step = parts_of (keep (sizes_of m) part t) (keep_states m (suc v) more) u h in
    omega (arith, states_length m (suc v) more step.0 u step.2, keep_length (sizes_of m) part t step.0 step.1)

pub actions_length : (n : Sizes) (xs : List FlatAction) (t u : FormsSoFar) → keep_actions n xs t ≡ Ok u → length u.kept ≡ length t.kept + length xs
actions_length n [] t u h = let same = ap (λ (s : FormsSoFar). length s.kept) (same_ok t u h) in omega (arith, same)
actions_length n (a ∷ xs) t u h =
    let part = action_form (clause_context n t.solved) a in
    let step = parts_of (keep n part t) (keep_actions n xs) u h in
    omega (arith, actions_length n xs step.0 u step.2, keep_length n part t step.0 step.1)

-- how many forms a branch and a clause have
abbrev pub branch_forms : FlatBranchTree → ℕ
branch_forms b = 1 + length b.body

pub branches_length : (n : Sizes) (xs : List FlatBranchTree) (t u : FormsSoFar) → keep_branches n xs t ≡ Ok u → length u.kept ≡ length t.kept + sum_by branch_forms xs
branches_length n [] t u h = let same = ap (λ (s : FormsSoFar). length s.kept) (same_ok t u h) in omega (arith, same)
branches_length n (b ∷ xs) t u h =
    let part = condition_form (clause_context n t.solved) b in
    let step = parts_of (keep n part t) (λ s. then_take (keep_actions n b.body s) (keep_branches n xs)) u h in
    let body = parts_of (keep_actions n b.body step.0) (keep_branches n xs) u step.2 in
    omega (arith, branches_length n xs body.0 u body.2, actions_length n b.body step.0 body.0 body.1, keep_length n part t step.0 step.1, sum_by-cons branch_forms b xs)

pub clauses_length : (n : Sizes) (xs : List (List FlatBranchTree)) (t u : FormsSoFar) → keep_clauses n xs t ≡ Ok u → length u.kept ≡ length t.kept + sum_by (sum_by branch_forms) xs
clauses_length n [] t u h = let same = ap (λ (s : FormsSoFar). length s.kept) (same_ok t u h) in omega (arith, same)
clauses_length n (bs ∷ xs) t u h =
    let step = parts_of (keep_branches n bs t) (keep_clauses n xs) u h in
    omega (arith, clauses_length n xs step.0 u step.2, branches_length n bs t step.0 step.1, sum_by-cons (sum_by branch_forms) bs xs)

-- one form for each state, and one for each condition and statement
pub forms_one_each : (m : FlatModelTree) (order : List ℕ) (f : Forms) → AreForms m order f → length f.forms ≡ (sizes_of m).states + sum_by (λ bs. sum_by (λ b. 1 + length b.body) bs) m.clauses
forms_one_each m order f h =
    let solved = parts_of (solve_all m order nothing_taken) (λ t. then_take (keep_states m 0 (sizes_of m).states t) (keep_clauses (sizes_of m) m.clauses)) h.taken h.is in
    let states = parts_of (keep_states m 0 (sizes_of m).states solved.0) (keep_clauses (sizes_of m) m.clauses) h.taken solved.2 in
    let none_yet : length solved.0.kept ≡ 0 = solve_length m order nothing_taken solved.0 solved.1 in
    let kept : length f.forms ≡ length h.taken.kept = sym (length-map f.forms form_meaning) ∙ ap length h.meanings in
    omega (arith, kept, none_yet, states_length m 0 (sizes_of m).states solved.0 states.0 states.1, clauses_length (sizes_of m) m.clauses states.0 h.taken states.2)

-- an element of a prefix of a list, and an element of the rest
front_at : {A : Type 0} (n : ℕ) (xs : List A) (k : ℕ) (d : A) → k < length (take n xs) → (k < n) × (slice_get xs k ≡ Some (get_or (take n xs) k d))
front_at zero xs k d h = absurd (omega arith)
front_at (suc n) [] k d h = absurd (omega arith)
front_at (suc n) (x ∷ xs) zero d h = (omega arith, refl)
front_at (suc n) (x ∷ xs) (suc k) d h = let rest = front_at n xs k d (omega arith) in (omega (arith, rest.0), rest.1)

rest_at : {A : Type 0} (n : ℕ) (xs : List A) (k : ℕ) (d : A) → k < length (drop n xs) → slice_get xs (n + k) ≡ Some (get_or (drop n xs) k d)
rest_at zero xs k d h = let here : zero + k ≡ k = omega arith in ap (slice_get xs) here ∙ slice_get-get_or xs k d h
rest_at (suc n) [] k d h = absurd (omega arith)
rest_at (suc n) (x ∷ xs) k d h = let next : suc n + k ≡ suc (n + k) = omega arith in ap (slice_get (x ∷ xs)) next ∙ rest_at n xs k d h

-- the forms of the states are finished in equations, and all others in clauses
pub forms_of_states : (m : FlatModelTree) (order : List ℕ) (f : Forms) → AreForms m order f → All (IsFinished (equation_place m)) (take (sizes_of m).states f.forms)
forms_of_states m order f h k d within = let at = front_at (sizes_of m).states f.forms k d within in h.states k (get_or (take (sizes_of m).states f.forms) k d) at.0 at.1

pub forms_of_clauses : (m : FlatModelTree) (order : List ℕ) (f : Forms) → AreForms m order f → All (IsFinished (clause_place m)) (drop (sizes_of m).states f.forms)
forms_of_clauses m order f h k d within =
    h.others ((sizes_of m).states + k) (get_or (drop (sizes_of m).states f.forms) k d) (omega arith) (rest_at (sizes_of m).states f.forms k d within)

-- counting variables of a role by a test
pub states_counted : (test : FlatRole → Bool) → test State ≡ true → test Discrete ≡ false → test Algebraic ≡ false → (vars : List FlatVariable) → count_by (λ v. test v.role) vars ≡ count_of_role State vars
states_counted test yes_state no_discrete no_algebraic [] = refl
states_counted test yes_state no_discrete no_algebraic (v ∷ vs) =
    sum_by-cons (λ (w : FlatVariable). one_if (test w.role)) v vs ∙
    elim v.role as (λ r. one_if (test r) + count_by (λ v. test v.role) vs ≡ count_of_role State (record v { role = r } ∷ vs)) [
      | State ↦ let here : one_if (test State) ≡ 1 = ap one_if yes_state in omega (arith, here, states_counted test yes_state no_discrete no_algebraic vs)
      | Discrete ↦ let here : one_if (test Discrete) ≡ 0 = ap one_if no_discrete in omega (arith, here, states_counted test yes_state no_discrete no_algebraic vs)
      | Algebraic ↦ let here : one_if (test Algebraic) ≡ 0 = ap one_if no_algebraic in omega (arith, here, states_counted test yes_state no_discrete no_algebraic vs)
    ]

pub discretes_counted : (test : FlatRole → Bool) → test State ≡ false → test Discrete ≡ true → test Algebraic ≡ false → (vars : List FlatVariable) → count_by (λ v. test v.role) vars ≡ count_of_role Discrete vars
discretes_counted test no_state yes_discrete no_algebraic [] = refl
discretes_counted test no_state yes_discrete no_algebraic (v ∷ vs) =
    sum_by-cons (λ (w : FlatVariable). one_if (test w.role)) v vs ∙
    elim v.role as (λ r. one_if (test r) + count_by (λ v. test v.role) vs ≡ count_of_role Discrete (record v { role = r } ∷ vs)) [
      | State ↦ let here : one_if (test State) ≡ 0 = ap one_if no_state in omega (arith, here, discretes_counted test no_state yes_discrete no_algebraic vs)
      | Discrete ↦ let here : one_if (test Discrete) ≡ 1 = ap one_if yes_discrete in omega (arith, here, discretes_counted test no_state yes_discrete no_algebraic vs)
      | Algebraic ↦ let here : one_if (test Algebraic) ≡ 0 = ap one_if no_algebraic in omega (arith, here, discretes_counted test no_state yes_discrete no_algebraic vs)
    ]
