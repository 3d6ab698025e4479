-- What halving finds among entries by rising variable.
use Rattle.qss_machine.proofs.Common
use Common.{ℕ, ◌+◌, ◌-◌, ◌<◌, ◌≡◌, ◌≤◌, arith, cases_lt, coefficient_of, Entry, Err, get_or}
use Common.{get_or-map, inl, inr, IsStrictlyIncreasing, length, length-map, List, map, nat_tests}
use Common.{Ok, pos, Result, slice_index, subst, sym}
use Rattle.std.proofs.lemmas.Cmp.{ranked}
use Rattle.std.proofs.lemmas.List.Sorted.{IsNonDecreasingBy-from_default}
use Rattle.std.specs.Prelude.{MatchResult}
use Rattle.std.specs.Ordering.{nat_cmp, ordering_index}
use Rattle.std.specs.List.Sorted.{IsSearchInRange, IsBinarySearchResult, IsNonDecreasingBy}
use Rattle.qss_machine.proofs.Distinct.{none_at, coefficient_at}
use Rattle.qss_machine.proofs.ProductStates.{rising_to}

none : Entry
none = record { var = 0; coef = pos 0 }

module _ (entries : List Entry) (rising : IsStrictlyIncreasing (map (λ (entry : Entry). entry.var) entries)) (var : ℕ) where
  variables_rise : (i j : ℕ) → i ≤ j → j < length entries → (get_or entries i none).var ≤ (get_or entries j none).var
  variables_rise i j le inside =
      let variable = λ (entry : Entry). entry.var in
      let vars : List ℕ = map variable entries in
      let many : length vars ≡ length entries = length-map entries variable in
      let at_i : slice_index vars i ≡ (get_or entries i none).var = get_or-map variable entries i none 0 (omega (arith, le, inside)) in
      let at_j : slice_index vars j ≡ (get_or entries j none).var = get_or-map variable entries j none 0 inside in
      let there : i + (j - i) ≡ j = omega (arith, le) in
      let ordered : slice_index vars i ≤ slice_index vars j =
      subst (λ (m : ℕ). slice_index vars i ≤ slice_index vars m) there (rising_to vars rising i (j - i) (omega (arith, le, inside, many))) in
      omega (arith, at_i, at_j, ordered)

  comparisons_rise : IsNonDecreasingBy (λ (entry : Entry). ordering_index (nat_cmp entry.var var)) entries
  comparisons_rise = IsNonDecreasingBy-from_default (λ (entry : Entry). ordering_index (nat_cmp entry.var var)) entries none (λ i j le inside.
      let rise : (get_or entries i none).var ≤ (get_or entries j none).var = variables_rise i j le inside in
      grind (arith, nat_tests))

  -- it ends at the variable's entry, or where there is none
  pub searched : (r : Result ℕ ℕ) → IsSearchInRange r (length entries) → IsBinarySearchResult (λ (entry : Entry). nat_cmp entry.var var) entries r →
      MatchResult r (λ k. (d : Entry) → coefficient_of entries var ≡ (get_or entries k d).coef) (λ k. coefficient_of entries var ≡ pos 0)
  searched (Ok k) inside equal = λ d. coefficient_at entries var k d rising inside (ranked _ var _ (sym (equal d)))
  searched (Err k) inside parted = none_at entries var (λ i d within. elim (cases_lt i k) [
    | inl before ↦ (let less : (get_or entries i d).var < var = ranked _ var _ (sym ((parted comparisons_rise).0 i d (omega arith) before)) in λ e. omega (arith, less, e))
    | inr behind ↦ (let more : var < (get_or entries i d).var = ranked _ var _ (sym ((parted comparisons_rise).1 i d behind within)) in λ e. omega (arith, more, e))
  ])
