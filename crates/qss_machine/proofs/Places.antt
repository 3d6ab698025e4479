-- The places of the elements that pass a test, and the conditions of clauses one after another.
use Rattle.qss_machine.proofs.Common
use Common.{[], ℕ, ◌++◌, ◌+◌, ◌<◌, ◌∙◌, ◌∷◌, ◌≡◌, ◌≤◌, add-zero, ap, append-nil, arith, Bool}
use Common.{BranchInfo, ClauseInfo, Condition, false, flat_map, flat_map-append, get_or}
use Common.{if◌then◌else◌, length, length-append, length-map, List, map, places_from, suc, sum_by}
use Common.{sum_by-cons, sym, take, take_more, true}
use Rattle.std.proofs.lemmas.List.Folds.{length-flat_map-take}
use Rattle.qss_machine.specs.MachineLimits.{item_count}

if_cons : (b : Bool) (i : ℕ) (all first rest : List ℕ) → all ≡ first ++ rest → (if b then i ∷ all else all) ≡ (if b then i ∷ first else first) ++ rest
if_cons true i all first rest e = ap (λ xs. i ∷ xs) e
if_cons false i all first rest e = e

pub places-append : {X : Type 0} (test : X → Bool) (i : ℕ) (xs ys : List X) →
    places_from test i (xs ++ ys) ≡ places_from test i xs ++ places_from test (i + length xs) ys
places-append test i [] ys = ap (λ n. places_from test n ys) (sym (add-zero i))
places-append test i (x ∷ xs) ys =
    let next : i + 1 + length xs ≡ i + suc (length xs) = omega arith in
    if_cons (test x) i (places_from test (i + 1) (xs ++ ys)) (places_from test (i + 1) xs) (places_from test (i + suc (length xs)) ys)
    (places-append test (i + 1) xs ys ∙ ap (λ n. places_from test (i + 1) xs ++ places_from test n ys) next)

-- the conditions of clauses
abbrev pub conditions_in : List ClauseInfo → List Condition
conditions_in clauses = flat_map (λ clause. map (λ branch. branch.condition) clause.branches) clauses

pub conditions_more : (clauses : List ClauseInfo) (k : ℕ) (d : ClauseInfo) → k < length clauses →
    conditions_in (take (k + 1) clauses) ≡ conditions_in (take k clauses) ++ map (λ (branch : BranchInfo). branch.condition) (get_or clauses k d).branches
conditions_more clauses k d h =
    ap conditions_in (take_more clauses k d h)
    ∙ flat_map-append (λ (clause : ClauseInfo). map (λ (branch : BranchInfo). branch.condition) clause.branches) (take k clauses) (get_or clauses k d ∷ [])
    ∙ ap (λ cs. conditions_in (take k clauses) ++ cs) (append-nil (map (λ (branch : BranchInfo). branch.condition) (get_or clauses k d).branches))

pub clauses_fit : (clauses : List ClauseInfo) (k : ℕ) (d : ClauseInfo) → k < length clauses →
    length (conditions_in (take k clauses)) + length (get_or clauses k d).branches ≤ length (conditions_in clauses)
clauses_fit clauses k d h =
    omega (
      arith,
      length-flat_map-take (λ (clause : ClauseInfo). map (λ (branch : BranchInfo). branch.condition) clause.branches) clauses k d h,
      length-map (get_or clauses k d).branches (λ (branch : BranchInfo). branch.condition),
    )

-- a turn of a loop over clauses
pub count_more : (clauses : List ClauseInfo) (k : ℕ) (clause : ClauseInfo) (first next : ℕ) (branches : List BranchInfo) → next ≡ first + length branches →
    first ≡ length (conditions_in (take k clauses)) → branches ≡ clause.branches → clause ≡ get_or clauses k clause → k < length clauses →
    next ≡ length (conditions_in (take (k + 1) clauses))
count_more clauses k clause first next branches is count own at h =
    let condition = λ (branch : BranchInfo). branch.condition in
    omega (
      arith,
      is,
      count,
      ap length own,
      ap (λ (c : ClauseInfo). length c.branches) at,
      ap length (conditions_more clauses k clause h),
      length-append (conditions_in (take k clauses)) (map condition (get_or clauses k clause).branches),
      length-map (get_or clauses k clause).branches condition,
    )

branches_few : (branches : List BranchInfo) → length branches ≤ sum_by (λ (branch : BranchInfo). 1 + length branch.actions) branches
branches_few [] = omega arith
branches_few (branch ∷ branches) =
    omega (arith, branches_few branches, sum_by-cons (λ (branch : BranchInfo). 1 + length branch.actions) branch branches)

pub conditions_few : (clauses : List ClauseInfo) → length (conditions_in clauses) ≤ item_count clauses
conditions_few [] = omega arith
conditions_few (clause ∷ clauses) =
    omega (
      arith,
      conditions_few clauses,
      branches_few clause.branches,
      length-append (map (λ (branch : BranchInfo). branch.condition) clause.branches) (conditions_in clauses),
      length-map clause.branches (λ (branch : BranchInfo). branch.condition),
      sum_by-cons (λ (clause : ClauseInfo). sum_by (λ (branch : BranchInfo). 1 + length branch.actions) clause.branches) clause clauses,
    )
