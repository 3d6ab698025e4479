-- The states that are affected if some leave.
use Rattle.qss_order2.proofs.Common
use Common.{ℕ, ◌+◌, ◌<◌, ◌||◌, ◌∙◌, ◌≡◌, ◌≢◌, All, among_more, ap, AreColumnsBelow, AreQuiet, arith}
use Common.{Bool, cases_Bool, column_at, Entry, eqb, false, get_or, get_or-map, index_of, inl, inr}
use Common.{is_listed, length, length-map, List, Machine, not, pos, refl, rows_in}
use Common.{start_coefficient, state_count, subst, sym, take, true}
use Rattle.qss_order2.proofs.ColumnSums.{entry_0, unlisted}

or_same : (a b c : Bool) → ((a || b) || c) ≡ (a || (b || c))
or_same true b c = refl
or_same false b c = refl

pub or_none : (a : Bool) → (a || false) ≡ a
or_none true = refl
or_none false = refl

-- one more state of a list
pub touched_more : (list : List ℕ) (i j : ℕ) (old now new : Bool) → i < length list →
    now ≡ (old || is_listed (take i list) j) → new ≡ (now || eqb (get_or list i 0) j) →
    new ≡ (old || is_listed (take (i + 1) list) j)
touched_more list i j old now new h before step =
    step ∙ ap (λ b. b || eqb (get_or list i 0) j) before ∙ or_same old (is_listed (take i list) j)
    (eqb (get_or list i 0) j) ∙ ap (λ b. old || b) (sym (among_more list i j h))

-- a row of the column of a state reads it
pub reads_listed : (m : Machine) (columns : List (List Entry)) (i j : ℕ) →
    AreColumnsBelow m (state_count m) columns → i < state_count m →
    is_listed (rows_in (column_at columns i)) j ≡ true →
    start_coefficient m j i ≢ pos 0
reads_listed m columns i j are h e =
    let column : List Entry = column_at columns i in
    let found = index_of (rows_in column) j e in
    let inside : found.0 < length column = omega (
      arith,
      found.1,
      length-map column (λ (entry : Entry). entry.var),
    ) in
    let row : (get_or column found.0 entry_0).var ≡ j =
    sym (get_or-map (λ (entry : Entry). entry.var) column found.0 entry_0 0 inside) ∙ found.2 in
    subst (λ (r : ℕ). start_coefficient m r i ≢ pos 0) row ((are.each i h).reads found.0 entry_0
    inside)

-- a state that is not affected did not leave
pub not_own : (left : List ℕ) (affected : ℕ → Bool) → ((j : ℕ) → is_listed left j ≡ true →
    affected j ≡ true) → (j : ℕ) → affected j ≡ false → is_listed left j ≡ false
not_own left affected own j not = elim (cases_Bool (is_listed left j)) [
  | inl e ↦ absurd (cc (own j e, not))
  | inr e ↦ e
]

-- a state that is not affected is quiet
pub quiet_states : (m : Machine) (columns : List (List Entry)) (left : List ℕ) (affected : ℕ →
    Bool) → AreColumnsBelow m (state_count m) columns → All (λ j. j < state_count m) left →
    ((j : ℕ) → is_listed left j ≡ true → affected j ≡ true) →
    ((k j : ℕ) → k < length left → is_listed (rows_in (column_at columns (get_or left k 0)))
    j ≡ true → affected j ≡ true) → AreQuiet m (is_listed left) affected
quiet_states m columns left affected are below own readers j h not = record {
  stays = not_own left affected own j not;
  reads_none = λ i k leaves.
      let found = index_of left i leaves in
      let column : List Entry = column_at columns i in
      let unread : is_listed (rows_in column) j ≡ false =
      elim (cases_Bool (is_listed (rows_in column) j)) [
        | inl reads ↦ absurd (cc (
          readers found.0 j found.1 (subst (λ x. is_listed (rows_in (column_at
              columns x)) j ≡ true) (sym found.2) reads),
          not,
        ))
        | inr none ↦ none
      ] in
      sym ((are.each i k).same j h) ∙ unlisted column j unread;
}
