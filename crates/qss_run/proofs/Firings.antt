-- Branches that are due, by their places.
use Rattle.qss_run.proofs.Common
use Common.{[], ℕ, ℤ, ◌+◌, ◌-◌, ◌<◌, ◌∙◌, ◌≡◌, ◌≤◌, among_at, ap, AreBranches, AreRisingBelow}
use Common.{arith, Bool, branch_at, BranchInfo, BranchPlace, cases_lt, clause_at, ClauseInfo, drop}
use Common.{false, false_from_ne_true, first_place, flag_at, flags_of, get_or, get_or-drop}
use Common.{get_or-map-range_with_len, get_or-take, get_or_past, HandlerState, index_of, inl, inr}
use Common.{is_listed, IsBranchOf, length, length-map-range_with_len, List, Machine, no_branch}
use Common.{None, row_room, run_branch, run_clauses, run_first_due, suc, sum_by, sum_by_more, sym}
use Common.{take, true, width_of, zero}
use Rattle.std.proofs.lemmas.List.{length-take, drop_all}
use Rattle.std.proofs.lemmas.List.Kept.{AllPairs-from_increasing}
use Rattle.std.proofs.lemmas.List.Sums.{sum_by-take-drop, get_or-le-sum_by}
use Rattle.std.specs.List.Sorted.{IsStrictlyIncreasing}
use Rattle.qss_hand.specs.Rooms.{clause_room}
use Rattle.qss_hand.proofs.Turns.{next_turn, none_due, first_fires, room-drop}
use Rattle.qss_run.proofs.Branches.{place_at}

abbrev pub no_clause : ClauseInfo
no_clause = record { branches = [] }

-- a longer beginning of a list has a greater sum
sum_up : {X : Type 0} (f : X → ℕ) (xs : List X) (d : X) (i k : ℕ) → i + k ≤ length xs → sum_by f (take i xs) ≤ sum_by f (take (i + k) xs)
sum_up f xs d i zero h = let e : i ≡ i + 0 = omega arith in omega (arith, ap (λ n. sum_by f (take n xs)) e)
sum_up f xs d i (suc k) h =
    let e : (i + k) + 1 ≡ i + suc k = omega arith in
    omega (arith, sum_up f xs d i k (omega (arith, h)), sum_by_more f xs (i + k) d (omega (arith, h)), ap (λ n. sum_by f (take n xs)) e)

-- a branch is before the clauses after its own
pub before_later : (m : Machine) (clause branch later : ℕ) → clause < later → later ≤ length m.clauses → branch < length (clause_at m clause).branches →
    first_place m.clauses clause + branch < first_place m.clauses later
before_later m clause branch later order within own =
    let k : ℕ = later - (clause + 1) in
    let e : (clause + 1) + k ≡ later = omega (arith, order) in
    omega (
      arith,
      own,
      sum_by_more width_of m.clauses clause no_clause (omega (arith, order, within)),
      sum_up width_of m.clauses no_clause (clause + 1) k (omega (arith, e, within)),
      ap (first_place m.clauses) e,
    )

-- one branch is at an index
pub one_place : (m : Machine) (a b clause branch : ℕ) → a < length m.clauses → clause < length m.clauses → b < length (clause_at m a).branches → branch < length (clause_at m clause).branches →
    first_place m.clauses a + b ≡ first_place m.clauses clause + branch → (a ≡ clause) × (b ≡ branch)
one_place m a b clause branch known_a known own_b own same = elim (cases_lt a clause) [
  | inl less ↦ absurd (omega (arith, before_later m a b clause less (omega (arith, known)) own_b, same))
  | inr not ↦ elim (cases_lt clause a) [
    | inl more ↦ absurd (omega (arith, before_later m clause branch a more (omega (arith, known_a)) own, same))
    | inr equal ↦ let e : a ≡ clause = omega (arith, not, equal) in (e, omega (arith, same, ap (first_place m.clauses) e))
  ]
]

-- ---- the clauses of due branches have their turns
module _ (m : Machine) (tick : ℕ) (before : List ℤ) (due : List Bool) where
  -- the clauses from one on
  abbrev pub clauses_from : ℕ → HandlerState → HandlerState
  clauses_from i h = run_clauses m tick before i h (drop i m.clauses) (drop (first_place m.clauses i) due)

  abbrev flags_at : ℕ → List Bool
  flags_at i = take (length (clause_at m i).branches) (drop (first_place m.clauses i) due)

  flag_of : (i k : ℕ) → k < length (clause_at m i).branches → flag_at (flags_at i) k ≡ flag_at due (first_place m.clauses i + k)
  flag_of i k h = get_or-take (length (clause_at m i).branches) (drop (first_place m.clauses i) due) k false h ∙ get_or-drop (first_place m.clauses i) due k false

  first_more : (i : ℕ) → i < length m.clauses → first_place m.clauses (i + 1) ≡ first_place m.clauses i + length (clause_at m i).branches
  first_more i h = sum_by_more width_of m.clauses i no_clause h

  one_turn : (i : ℕ) (h next : HandlerState) → i < length m.clauses → h.overflow ≡ None → next ≡ run_first_due m tick before i 0 h (clause_at m i).branches (flags_at i) →
      clauses_from i h ≡ clauses_from (i + 1) next
  one_turn i h next inside calm is =
      next_turn m tick before i (first_place m.clauses i) h next m.clauses due no_clause inside calm is
      ∙ ap (λ n. run_clauses m tick before (i + 1) next (drop (i + 1) m.clauses) (drop n due)) (sym (first_more i inside))

  -- clauses of which no branch is due do nothing
  none_fires : (k i : ℕ) (h : HandlerState) → h.overflow ≡ None → i + k ≤ length m.clauses →
      ((place : ℕ) → first_place m.clauses i ≤ place → place < first_place m.clauses (i + k) → flag_at due place ≡ false) → clauses_from i h ≡ clauses_from (i + k) h
  none_fires zero i h calm within none = let e : i ≡ i + 0 = omega arith in ap (λ n. clauses_from n h) e
  none_fires (suc k) i h calm within none =
      let inside : i < length m.clauses = omega (arith, within) in
      let width : ℕ = length (clause_at m i).branches in
      let e : (i + 1) + k ≡ i + suc k = omega arith in
      let up = sum_up width_of m.clauses no_clause (i + 1) k (omega (arith, within)) in
      let same = ap (first_place m.clauses) e in
      let unset : (n : ℕ) → flag_at (flags_at i) n ≡ false = λ n. elim (cases_lt n width) [
        | inl below ↦ flag_of i n below ∙ none (first_place m.clauses i + n) (omega arith) (omega (arith, below, first_more i inside, up, same))
        | inr past ↦ get_or_past (flags_at i) n false (omega (arith, past, length-take width (drop (first_place m.clauses i) due)))
      ] in
      one_turn i h h inside calm (sym (none_due m tick before i 0 h (clause_at m i).branches (flags_at i) unset))
      ∙ none_fires k (i + 1) h calm (omega (arith, within)) (λ place low high. none place (omega (arith, low, first_more i inside)) (omega (arith, high, same)))
      ∙ ap (λ n. clauses_from n h) e

  -- if the first due branch is in this clause, the clauses before it do nothing, and the branch fires
  pub fires_next : (next clause branch : ℕ) (h : HandlerState) → h.overflow ≡ None → next ≤ clause → clause < length m.clauses → branch < length (clause_at m clause).branches →
      ((place : ℕ) → first_place m.clauses next ≤ place → place < first_place m.clauses clause + branch → flag_at due place ≡ false) →
      flag_at due (first_place m.clauses clause + branch) ≡ true →
      clauses_from next h ≡ clauses_from (clause + 1) (run_branch m tick before clause branch h (branch_at m clause branch).actions)
  fires_next next clause branch h calm order known own none here =
      let k : ℕ = clause - next in
      let e : next + k ≡ clause = omega (arith, order) in
      let same = ap (first_place m.clauses) e in
      let up = sum_up width_of m.clauses no_clause next k (omega (arith, e, known)) in
      let zero : 0 + branch ≡ branch = omega arith in
      none_fires k next h calm (omega (arith, e, known)) (λ place low high. none place low (omega (arith, high, same)))
      ∙ ap (λ n. clauses_from n h) e
      ∙ one_turn clause h (run_branch m tick before clause branch h (branch_at m clause branch).actions) known calm
      (sym (first_fires m tick before clause 0 branch h (clause_at m clause).branches (flags_at clause) no_branch own
      (λ n below. flag_of clause n (omega (arith, below, own)) ∙ none (first_place m.clauses clause + n) (omega (arith, up, same)) (omega (arith, below)))
      (flag_of clause branch own ∙ here)
      ∙ ap (λ n. run_branch m tick before clause n h (branch_at m clause branch).actions) zero))

  -- where no further branch is due, the other clauses do nothing
  pub fires_no_more : (next : ℕ) (h : HandlerState) → h.overflow ≡ None → next ≤ length m.clauses → ((place : ℕ) → first_place m.clauses next ≤ place → flag_at due place ≡ false) → clauses_from next h ≡ h
  fires_no_more next h calm order none =
      let k : ℕ = length m.clauses - next in
      let e : next + k ≡ length m.clauses = omega (arith, order) in
      none_fires k next h calm (omega (arith, e)) (λ place low high. none place low)
      ∙ ap (λ (rest : List ClauseInfo). run_clauses m tick before (next + k) h rest (drop (first_place m.clauses (next + k)) due)) (drop_all (next + k) m.clauses (omega (arith, e)))

-- ---- room for rows

-- a branch has at most the rows of its clause, and these and those of the clauses after it are within those from one before
pub room_for : (m : Machine) (next clause branch : ℕ) → next ≤ clause → clause < length m.clauses → branch < length (clause_at m clause).branches →
    1 + length (branch_at m clause branch).actions + row_room (drop (clause + 1) m.clauses) ≤ row_room (drop next m.clauses)
room_for m next clause branch order known own =
    let k : ℕ = clause - next in
    let e : next + k ≡ clause = omega (arith, order) in
    omega (
      arith,
      get_or-le-sum_by (λ (b : BranchInfo). length b.actions) (clause_at m clause).branches branch no_branch own,
      room-drop m.clauses clause no_clause known,
      sum_by-take-drop clause_room m.clauses clause,
      sum_by-take-drop clause_room m.clauses next,
      sum_up clause_room m.clauses no_clause next k (omega (arith, e, known)),
      ap (λ n. sum_by clause_room (take n m.clauses)) e,
    )

-- ---- flags by the places that are set

pub flag_among : (count place : ℕ) (places : List ℕ) → place < count → flag_at (flags_of count places) place ≡ is_listed places place
flag_among count place places h = get_or-map-range_with_len (is_listed places) 0 count place place false h (omega arith)

-- a flag that is set is inside
pub set_inside : (count place : ℕ) (places : List ℕ) → flag_at (flags_of count places) place ≡ true → place < count
set_inside count place places set = elim (cases_lt place count) [
  | inl below ↦ below
  | inr past ↦ let none = get_or_past (flags_of count places) place false (omega (arith, past, length-map-range_with_len (is_listed places) 0 count)) in absurd (cc)
]

-- no flag is set after the first places of a rising list, and before the others
pub no_flag : (count i low place : ℕ) (places : List ℕ) → ((k : ℕ) → k < i → get_or places k 0 < low) → low ≤ place →
    ((k : ℕ) → i ≤ k → k < length places → place < get_or places k 0) → flag_at (flags_of count places) place ≡ false
no_flag count i low place places earlier here later = elim (cases_lt place count) [
  | inl below ↦ flag_among count place places below ∙ false_from_ne_true (is_listed places place) (λ e. clash (index_of places place e))
  | inr past ↦ get_or_past (flags_of count places) place false (omega (arith, past, length-map-range_with_len (is_listed places) 0 count))
]
  where
    clash : (k : ℕ) × (k < length places) × (get_or places k 0 ≡ place) → ⊥
    clash (k, inside, is) = elim (cases_lt k i) [ inl sooner ↦ omega (arith, earlier k sooner, here, is) | inr not ↦ omega (arith, later k not inside, is) ]

-- in a rising list no element after one is less
pub not_less : (places : List ℕ) (i k : ℕ) → IsStrictlyIncreasing places → i ≤ k → k < length places → get_or places i 0 ≤ get_or places k 0
not_less places i k rising order inside = elim (cases_lt i k) [
  | inl less ↦ omega (arith, AllPairs-from_increasing places rising i k 0 less inside)
  | inr not ↦ let e : i ≡ k = omega (arith, order, not) in omega (arith, ap (λ n. get_or places n 0) e)
]

-- ---- one of the due branches
module _ (m : Machine) (branches : List BranchPlace) (fired : List ℕ) (i : ℕ) (are : AreBranches m branches) (numbers : AreRisingBelow (length branches) fired) (inside : i < length fired) where
  abbrev pub place : ℕ
  place = get_or fired i 0

  abbrev pub branch_of : BranchPlace
  branch_of = place_at branches place

  below : place < length branches
  below = numbers.below i 0 inside

  pub is_of : IsBranchOf m branch_of place
  is_of = are.each place below

  -- it fires, where it is of a clause that did not have its turn
  pub fires_here : (tick : ℕ) (before : List ℤ) (next : ℕ) (h : HandlerState) → h.overflow ≡ None → next ≤ branch_of.clause →
      ((k : ℕ) → k < i → get_or fired k 0 < first_place m.clauses next) →
      clauses_from m tick before (flags_of (length branches) fired) next h
      ≡ clauses_from m tick before (flags_of (length branches) fired) (branch_of.clause + 1)
      (run_branch m tick before branch_of.clause branch_of.branch h (branch_at m branch_of.clause branch_of.branch).actions)
  fires_here tick before next h calm order passed =
      fires_next m tick before (flags_of (length branches) fired) next branch_of.clause branch_of.branch h calm order is_of.clause_known is_of.branch_known
      (λ p low high.
      no_flag (length branches) i (first_place m.clauses next) p fired passed low
      (λ k later within. omega (arith, high, is_of.own_place, not_less fired i k numbers.rising later within)))
      (ap (flag_at (flags_of (length branches) fired)) is_of.own_place ∙ flag_among (length branches) place fired below ∙ among_at fired i inside)

  -- the places up to this one are of clauses that had their turns
  pub passed_on : (next later : ℕ) → ((k : ℕ) → k < i → get_or fired k 0 < first_place m.clauses next) → next ≤ later → branch_of.clause < later → later ≤ length m.clauses → (k : ℕ) → k < i + 1 →
      get_or fired k 0 < first_place m.clauses later
  passed_on next later passed order own within k h =
      let d : ℕ = later - next in
      let e : next + d ≡ later = omega (arith, order) in
      let up = sum_up width_of m.clauses no_clause next d (omega (arith, e, within)) in
      elim (cases_lt k i) [
        | inl sooner ↦ omega (arith, passed k sooner, up, ap (first_place m.clauses) e)
        | inr same ↦
            let here : k ≡ i = omega (arith, same, h) in
            omega (arith, ap (λ n. get_or fired n 0) here, is_of.own_place, before_later m branch_of.clause branch_of.branch later own within is_of.branch_known)
      ]
