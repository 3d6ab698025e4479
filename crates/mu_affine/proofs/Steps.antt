-- Steps that follow each other, and their faults.
use Rattle.mu_affine.proofs.Common
use Common.{ℕ, ◌+◌, ◌<◌, ◌∙◌, ◌∷◌, ◌≡◌, action_form, add-one, AffineErr, AffineForm, ap}
use Common.{clause_context, condition_form, ConstFault, drop, drop-cons, Err, flat_action}
use Common.{flat_branch, flat_clause, FlatBranch, FlatClause, FlatModelTree, FlatStatement}
use Common.{forms_of, FormsSoFar, get_or, IsAffineFault, IsAnswer, IsFaultOf, keep, keep_actions}
use Common.{keep_branches, keep_clauses, length, List, map, Memory, NotAffine, Ok, Place, refl}
use Common.{Result, Sizes, solve, solve_all, suc, sym, then_take, TimeHere, TooDense}

-- a defined fault is one
pub is_fault : {A : Type 0} (r : Result A AffineErr) (fault : AffineErr) → r ≡ Err fault → IsFaultOf r fault
is_fault {A} r (NotAffine at) h = h
is_fault {A} r (TimeHere at) h = h
is_fault {A} r (ConstFault at why) h = h
is_fault {A} r (TooDense count) h = h
is_fault {A} r Memory h = tt

-- an allocation failure is a fault of every answer
pub memory_fault : {A : Type 0} (r : Result A AffineErr) (fault : AffineErr) → fault ≡ Memory → IsFaultOf r fault
memory_fault {A} r (NotAffine at) h = absurd (cc)
memory_fault {A} r (TimeHere at) h = absurd (cc)
memory_fault {A} r (ConstFault at why) h = absurd (cc)
memory_fault {A} r (TooDense count) h = absurd (cc)
memory_fault {A} r Memory h = tt

-- what faults of one answer are those of another
pub fault_along : {A B : Type 0} (r : Result A AffineErr) (s : Result B AffineErr) (fault : AffineErr) → ((e : AffineErr) → r ≡ Err e → s ≡ Err e) → IsFaultOf r fault → IsFaultOf s fault
fault_along {A} {B} r s (NotAffine at) step h = step (NotAffine at) h
fault_along {A} {B} r s (TimeHere at) step h = step (TimeHere at) h
fault_along {A} {B} r s (ConstFault at why) step h = step (ConstFault at why) h
fault_along {A} {B} r s (TooDense count) step h = step (TooDense count) h
fault_along {A} {B} r s Memory step h = tt

-- the fault of a part is that of the form
pub answer_fault : (p : Place) (r : Result AffineForm AffineErr) (fault : AffineErr) → IsAnswer p r (Err fault) → IsFaultOf r fault
answer_fault p r (NotAffine at) h = h
answer_fault p r (TimeHere at) h = h
answer_fault p r (ConstFault at why) h = h
answer_fault p r (TooDense count) h = h
answer_fault p r Memory h = tt

-- the fault of all
pub whole_fault : (m : FlatModelTree) (order : List ℕ) (fault : AffineErr) → IsFaultOf (forms_of m order) fault → IsAffineFault m order fault
whole_fault m order (NotAffine at) h = h
whole_fault m order (TimeHere at) h = h
whole_fault m order (ConstFault at why) h = h
whole_fault m order (TooDense count) h = h
whole_fault m order Memory h = tt

-- the fault of the first step is that of all
pub fault_then : {A B : Type 0} (r : Result A AffineErr) (next : A → Result B AffineErr) (fault : AffineErr) → IsFaultOf r fault → IsFaultOf (then_take r next) fault
fault_then r next fault h = fault_along r (then_take r next) fault (λ e is. ap (λ x. then_take x next) is) h

-- what follows a step
pub after : {A B : Type 0} (r : Result A AffineErr) (next : A → Result B AffineErr) (a : A) → r ≡ Ok a → then_take r next ≡ next a
after r next a h = ap (λ x. then_take x next) h

-- the fault of what follows a step
pub fault_after : {A B : Type 0} (r : Result A AffineErr) (next : A → Result B AffineErr) (a : A) (fault : AffineErr) → r ≡ Ok a → IsFaultOf (next a) fault → IsFaultOf (then_take r next) fault
fault_after r next a fault is h = fault_along (next a) (then_take r next) fault (λ e failed. after r next a is ∙ failed) h

-- a fault of one answer is a fault of an equal one
pub fault_same : {A : Type 0} (r s : Result A AffineErr) (fault : AffineErr) → r ≡ s → IsFaultOf r fault → IsFaultOf s fault
fault_same r s fault same h = fault_along r s fault (λ e failed. sym same ∙ failed) h

-- what a sequence of steps that answers was made of
pub parts_of : {A B : Type 0} (r : Result A AffineErr) (next : A → Result B AffineErr) (b : B) → then_take r next ≡ Ok b → (a : A) × (r ≡ Ok a) × (next a ≡ Ok b)
parts_of {A} {B} (Ok a) next b h = (a, refl, h)
parts_of {A} {B} (Err fault) next b h = absurd (cc)

-- answers that are equal have equal values
pub same_ok : {A : Type 0} (a b : A) → ◌≡◌ {A = Result A AffineErr} (Ok a) (Ok b) → a ≡ b
same_ok {A} a b h = cc

-- what is left of a list from a place on
drop_from : {A : Type 0} (xs : List A) (i : ℕ) (d : A) → i < length xs → d ≡ get_or xs i d → drop i xs ≡ d ∷ drop (i + 1) xs
drop_from xs i d h is = rw (add-one i, drop-cons xs i d h) (ap (λ x. x ∷ drop (suc i) xs) (sym is))

-- the variables of an order from a place on
pub vars_from : (m : FlatModelTree) (vs : List ℕ) (i d : ℕ) (t : FormsSoFar) → i < length vs → d ≡ get_or vs i d → solve_all m (drop i vs) t ≡ then_take (solve m d t) (solve_all m (drop (i + 1) vs))
vars_from m vs i d t h is = ap (λ ys. solve_all m ys t) (drop_from vs i d h is)

-- statements, branches and clauses from a place on
pub actions_from : (n : Sizes) (xs : List FlatStatement) (i : ℕ) (d : FlatStatement) (t : FormsSoFar) → i < length xs → d ≡ get_or xs i d
    → keep_actions n (map flat_action (drop i xs)) t ≡ then_take (keep n (action_form (clause_context n t.solved) (flat_action d)) t) (keep_actions n (map flat_action (drop (i + 1) xs)))
actions_from n xs i d t h is = ap (λ ys. keep_actions n (map flat_action ys) t) (drop_from xs i d h is)

pub branches_from : (n : Sizes) (xs : List FlatBranch) (i : ℕ) (d : FlatBranch) (t : FormsSoFar) → i < length xs → d ≡ get_or xs i d
    → keep_branches n (map flat_branch (drop i xs)) t
    ≡ then_take (keep n (condition_form (clause_context n t.solved) (flat_branch d)) t) (λ u. then_take (keep_actions n (flat_branch d).body u) (keep_branches n (map flat_branch (drop (i + 1) xs))))
branches_from n xs i d t h is = ap (λ ys. keep_branches n (map flat_branch ys) t) (drop_from xs i d h is)

pub clauses_from : (n : Sizes) (xs : List FlatClause) (i : ℕ) (d : FlatClause) (t : FormsSoFar) → i < length xs → d ≡ get_or xs i d
    → keep_clauses n (map flat_clause (drop i xs)) t ≡ then_take (keep_branches n (flat_clause d) t) (keep_clauses n (map flat_clause (drop (i + 1) xs)))
clauses_from n xs i d t h is = ap (λ ys. keep_clauses n (map flat_clause ys) t) (drop_from xs i d h is)
