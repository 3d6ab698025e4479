-- Matrices that are written row by row.
use Rattle.cert_check.proofs.Common
use Common.{[], ℕ, ℤ, ◌<◌, ◌∙◌, ◌≡◌, ◌≢◌, ap, arith, get_or, get_or-set_other, IsSquare, length}
use Common.{List, map, pos, table, vector, with_entry}
use Rattle.std.proofs.lemmas.List.FromFn.{fill_by_all}
use Rattle.std.specs.List.{range_with_len}

-- another row is as before
pub changed-elsewhere : (rows : List (List ℤ)) (i j h k : ℕ) (value : ℤ) → h ≢ i → table (with_entry rows i j value) h k ≡ table rows h k
changed-elsewhere rows i j h k value other = ap (λ (row : List ℤ). vector row k) (get_or-set_other rows i h _ [] other)

-- a matrix whose entries are those of f
pub table-filled : (n : ℕ) (rows : List (List ℤ)) (f : ℕ → ℕ → ℤ) → length rows ≡ n → IsSquare rows
    → ((j k : ℕ) → j < n → k < n → table rows j k ≡ f j k)
    → rows ≡ map (λ j. map (f j) (range_with_len 0 n)) (range_with_len 0 n)
table-filled n rows f size square entries =
    fill_by_all (λ j. map (f j) (range_with_len 0 n)) rows n [] size
    (λ j h. fill_by_all (f j) (get_or rows j []) n (pos 0) (square j (omega arith) ∙ size) (λ k l. entries j k h l))
