-- The branches of conditions, clause by clause.
use Rattle.qss_run.proofs.Common
use Common.{[], ℕ, ◌++◌, ◌+◌, ◌-◌, ◌<◌, ◌∙◌, ◌∷◌, ◌≡◌, ◌≤◌, ap, arith, BranchPlace, cases_lt}
use Common.{clause_at, condition_at, conditions_few, get_or as slice_index_or, get_or-append_right}
use Common.{get_or-map-range_with_len, get_or_append_left, inl, inr, IsBranchOf, length}
use Common.{length-append, length-conditions, length-map-range_with_len, Less, List, Machine, map}
use Common.{map-range_with_len_more, no_branch, pos, range_with_len, refl, subst, sum_by}
use Common.{sum_by_more, sym, take, width_of}
use Rattle.std.proofs.lemmas.List.{append_assoc}
use Rattle.std.proofs.lemmas.List.Sums.{sum_by-take-le}
use Rattle.qss_hand.proofs.Branches.{condition_by}

abbrev pub place_of : ℕ → ℕ → BranchPlace
place_of clause branch = record { clause = clause; branch = branch }

abbrev pub place_at : List BranchPlace → ℕ → BranchPlace
place_at branches place = slice_index_or branches place (record { clause = 0; branch = 0 })

-- the branches of one more clause
pub branches_more : (m : Machine) (i : ℕ) (found next : List BranchPlace) → i < length m.clauses → length found ≡ sum_by width_of (take i m.clauses) →
    next ≡ found ++ map (place_of i) (range_with_len 0 (width_of (clause_at m i))) →
    ((place : ℕ) → place < length found → IsBranchOf m (place_at found place) place) → (place : ℕ) → place < length next → IsBranchOf m (place_at next place) place
branches_more m i found next h many is before place inside = elim (cases_lt place (length found)) [ inl below ↦ old below | inr past ↦ new past ]
  where
    none : BranchPlace
    none = record { clause = 0; branch = 0 }

    added : List BranchPlace
    added = map (place_of i) (range_with_len 0 (width_of (clause_at m i)))

    count : length added ≡ width_of (clause_at m i)
    count = length-map-range_with_len (place_of i) 0 (width_of (clause_at m i))

    old : place < length found → IsBranchOf m (place_at next place) place
    old below = subst (λ p. IsBranchOf m p place) (sym (ap (λ xs. place_at xs place) is ∙ get_or_append_left found added none place below)) (before place below)

    new : length found ≤ place → IsBranchOf m (place_at next place) place
    new past =
        let b : ℕ = place - length found in
        let all : length next ≡ length found + length added = ap length is ∙ length-append found added in
        let within : b < width_of (clause_at m i) = omega (arith, inside, all, count, past) in
        let e : sum_by width_of (take i m.clauses) + b ≡ place = omega (arith, many, past) in
        let at : place_at next place ≡ place_of i b =
        ap (λ xs. place_at xs place) is ∙ get_or-append_right found added (length found) place none refl past
        ∙ get_or-map-range_with_len (place_of i) 0 (width_of (clause_at m i)) b b none within (omega arith) in
        subst (λ p. IsBranchOf m p place) (sym at) (record {
          clause_known = h;
          branch_known = within;
          own = sym (ap (condition_at m) (sym e)
              ∙ condition_by m.clauses i b (record { branches = [] }) no_branch (record { form = record { entries = []; time = pos 0; gamma = pos 0 }; rel = Less }) h within);
          own_place = e;
        })

-- one more branch
pub place_more : (f : ℕ → BranchPlace) (old now next : List BranchPlace) (j : ℕ) (place : BranchPlace) → now ≡ old ++ map f (range_with_len 0 j) → next ≡ now ++ place ∷ [] → place ≡ f j →
    next ≡ old ++ map f (range_with_len 0 (j + 1))
place_more f old now next j place so_far added own =
    added ∙ ap (λ r. now ++ r ∷ []) own ∙ ap (λ xs. xs ++ f j ∷ []) so_far ∙ append_assoc old (map f (range_with_len 0 j)) (f j ∷ [])
    ∙ ap (λ xs. old ++ xs) (sym (map-range_with_len_more f 0 j j (omega arith)))

-- a clause has few branches
pub width_few : (m : Machine) (i : ℕ) → i < length m.clauses → width_of (clause_at m i) ≤ 16384
width_few m i h =
    omega (arith, sum_by_more width_of m.clauses i (record { branches = [] }) h, sum_by-take-le width_of m.clauses (i + 1), length-conditions m.clauses, conditions_few m)

-- the number of branches with one more clause
pub count_more : (m : Machine) (i : ℕ) (found next : List BranchPlace) → i < length m.clauses → length found ≡ sum_by width_of (take i m.clauses) →
    next ≡ found ++ map (place_of i) (range_with_len 0 (width_of (clause_at m i))) → length next ≡ sum_by width_of (take (i + 1) m.clauses)
count_more m i found next h many is =
    omega (
      arith,
      ap length is,
      length-append found (map (place_of i) (range_with_len 0 (width_of (clause_at m i)))),
      length-map-range_with_len (place_of i) 0 (width_of (clause_at m i)),
      sum_by_more width_of m.clauses i (record { branches = [] }) h,
      many,
    )
