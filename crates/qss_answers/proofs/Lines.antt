-- The lines of the states with their bounds.
use Rattle.qss_answers.proofs.Common
use Common.{ℕ, ℤ, ◌++◌, ◌∙◌, ◌≡◌, ap, bound_line, bound_lines, inl, inr, List, refl, StateInfo, sym}
use Rattle.std.proofs.Common.{◌⊎◌, [], ◌∷◌, ap₂, append_assoc}

-- the line of the first state and the lines of the others
pub line_more : (done : List ℕ) (ss rest : List StateInfo) (s : StateInfo) (bs later : List ℤ) (b : ℤ) → ss ≡ s ∷ rest → bs ≡ b ∷ later
    → (done ++ bound_line s.name b) ++ bound_lines rest later ≡ done ++ bound_lines ss bs
line_more done ss rest s bs later b states bounds =
    append_assoc done (bound_line s.name b) (bound_lines rest later) ∙ ap (λ (x : List ℕ). done ++ x) (sym (ap₂ bound_lines states bounds))

-- without bounds there are no lines
no_bounds : (ss : List StateInfo) → bound_lines ss [] ≡ []
no_bounds [] = refl
no_bounds (s ∷ ss) = refl

-- without states or bounds there are no lines
pub lines_done : (ss : List StateInfo) (bs : List ℤ) → (ss ≡ []) ⊎ (bs ≡ []) → bound_lines ss bs ≡ []
lines_done ss bs (inl none) = ap (λ (x : List StateInfo). bound_lines x bs) none
lines_done ss bs (inr none) = ap (bound_lines ss) none ∙ no_bounds ss
