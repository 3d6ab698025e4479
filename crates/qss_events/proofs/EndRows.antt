-- Rows of states and discrete variables, one after another.
use Rattle.qss_events.proofs.Common
use Common.{[], ℕ, ℤ, ◌++◌, ◌+◌, ◌∙◌, ◌∷◌, ◌≡◌, ap, arith, int_at, List, map, pos, range_with_len}
use Common.{Row, RowKind, sym}
use Rattle.std.proofs.Common.{append_assoc}
use Rattle.std.proofs.lemmas.List.FromFn.{map-range_with_len_more}

abbrev pub state_row : RowKind → ℕ → List ℤ → List ℤ → ℕ → Row
state_row kind tick levels x j = record { tick = tick; kind = kind; var = j; level = int_at levels j; state = int_at x j }

abbrev pub discrete_row : RowKind → ℕ → ℕ → List ℤ → ℕ → Row
discrete_row kind tick first d g = record { tick = tick; kind = kind; var = first + g; level = int_at d g; state = pos 0 }

-- one more row
pub row_more : (f : ℕ → Row) (old now next : List Row) (j : ℕ) (row : Row) → now ≡ old ++ map f (range_with_len 0 j) → next ≡ now ++ row ∷ [] → row ≡ f j →
    next ≡ old ++ map f (range_with_len 0 (j + 1))
row_more f old now next j row so_far added own =
    added ∙ ap (λ r. now ++ r ∷ []) own ∙ ap (λ xs. xs ++ f j ∷ []) so_far ∙ append_assoc old (map f (range_with_len 0 j)) (f j ∷ [])
    ∙ ap (λ xs. old ++ xs) (sym (map-range_with_len_more f 0 j j (omega arith)))
