-- Sums that are marked and then computed, each once.
use Rattle.qss_states.proofs.Common
use Common.{[], ℕ, ℤ, ◌+◌, ◌<◌, ◌∙◌, ◌∷◌, ◌≡◌, among_more, append-nil, AreMarked, arith, cases_Bool}
use Common.{eqb, flat_map, get_or, inl, inr, int_at, is_listed, IsWritten, length, List, or_cases}
use Common.{or_parts, pos, subst, sym, take, true}
use Rattle.std.proofs.lemmas.Bool.{eqb-true}
use Rattle.std.proofs.lemmas.List.Folds.{list_any_at}
use Rattle.qss_machine.proofs.Among.{among_all}
use Rattle.qss_states.specs.SumMarks.{AreMarkedOr}

-- a row that one of these variables lists is in the list of all of them
pub among_one : (f : ℕ → List ℕ) (xs : List ℕ) (i row : ℕ) → i < length xs →
    is_listed (f (get_or xs i 0)) row ≡ true → is_listed (flat_map f xs) row ≡ true
among_one f xs i row h e = among_all f xs row ∙ list_any_at (λ x. is_listed (f x) row) xs i 0 h e

-- the rows of one variable alone
pub only_one : (f : ℕ → List ℕ) (xs : List ℕ) → length xs ≡ 1 → flat_map f xs ≡ f (get_or xs 0 0)
only_one f [] e = absurd (omega (arith, e))
only_one f (x ∷ []) e = append-nil (f x)
only_one f (x ∷ y ∷ xs) e = absurd (omega (arith, e))

module _ (Has : ℕ → ℤ → Type 0) where
  -- rows that were all marked
  pub all_marked : (rows : List ℕ) (old new : List ℤ) → AreMarked rows old new →
      AreMarkedOr Has rows new
  all_marked rows old new marked = record {
    known = λ row among other. absurd (other (marked.each row among));
  }

  -- some of the rows
  pub some_of_them : (all rows : List ℕ) (sums : List ℤ) → AreMarkedOr Has all sums →
      ((row : ℕ) → is_listed rows row ≡ true → is_listed all row ≡ true) →
      AreMarkedOr Has rows sums
  some_of_them all rows sums are within = record {
    known = λ row among. are.known row (within row among);
  }

  -- a sum that was computed is not computed again
  pub still_known : (all done : List ℕ) (old new : List ℤ) → AreMarkedOr Has all old →
      IsWritten (pos 0) Has done old new → AreMarkedOr Has all new
  still_known all done old new are written = record {
    known = λ row among other. elim (cases_Bool (is_listed done row)) [
      | inl sooner ↦ written.each row sooner
      | inr none ↦
          let same = written.others row none in
          subst (Has row) (sym same) (are.known row among (λ e. other (same ∙ e)))
    ];
  }

  -- one more row, whose sum is there already
  pub one_known : (rows : List ℕ) (old sums : List ℤ) (i : ℕ) → i < length rows →
      IsWritten (pos 0) Has (take i rows) old sums →
      Has (get_or rows i 0) (int_at sums (get_or rows i 0)) →
      IsWritten (pos 0) Has (take (i + 1) rows) old sums
  one_known rows old sums i h before here =
      let now : ℕ = get_or rows i 0 in
      let more = λ (row : ℕ). sym (among_more rows i row h) in
      record {
        as_many = before.as_many;
        each = λ row e. elim (or_cases (is_listed (take i rows) row) (eqb now row) (more row ∙ e)) [
          | inl sooner ↦ before.each row sooner
          | inr same ↦ subst (λ k. Has k (int_at sums k)) (eqb-true now row same) here
        ];
        others = λ row e.
            before.others row (or_parts (is_listed (take i rows) row) (eqb now row) (more row ∙ e)).0;
      }

  -- rows that were marked and then computed
  pub written_over : (rows : List ℕ) (old mid new : List ℤ) → AreMarked rows old mid →
      IsWritten (pos 0) Has rows mid new → IsWritten (pos 0) Has rows old new
  written_over rows old mid new marked written = record {
    as_many = written.as_many ∙ marked.as_many;
    each = written.each;
    others = λ row none. written.others row none ∙ marked.others row none;
  }
