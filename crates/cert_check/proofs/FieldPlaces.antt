-- What is due at the places of a text with all lines.
use Rattle.cert_check.proofs.Common
use Common.{[], ℕ, ◌*◌, ◌++◌, ◌+◌, ◌-◌, ◌<◌, ◌∙◌, ◌∷◌, ◌≡◌, ◌≤◌, ap, arith, codes, due_at, Expected}
use Common.{expected, get_or, get_or-replicate, get_or_append_left, layout, length, length-append}
use Common.{length-replicate, List, replicate, suc, sym}
use Rattle.std.proofs.lemmas.List.{get_or-append-add}

abbrev pub none : Expected
none = expected [] 0

-- the places after those of G2
abbrev pub after_g2 : ℕ → List Expected
after_g2 n =
    expected (codes "c") n ∷ expected (codes "R") 1 ∷ expected (codes "Z") n ∷ expected (codes "S") n ∷ expected (codes "sigmaR") n
    ∷ expected (codes "C") 1 ∷ expected (codes "sigmaC") n ∷ expected (codes "E") n
    ∷ expected (codes "start1") n ∷ expected (codes "start2") n ∷ expected (codes "Q") n ∷ []

-- those after G1, and after P
abbrev pub after_g1 : ℕ → List Expected
after_g1 n = expected (codes "h2") 1 ∷ (replicate n (expected (codes "G2") n) ++ after_g2 n)

abbrev pub after_p : ℕ → List Expected
after_p n =
    expected (codes "p") n ∷ expected (codes "mu") n ∷ expected (codes "lambda") 1 ∷ expected (codes "h1") 1
    ∷ (replicate n (expected (codes "G1") n) ++ after_g1 n)

pub within : {X : Type 0} (n i : ℕ) (a d : X) (rest : List X) → i < n → get_or (replicate n a ++ rest) i d ≡ a
within n i a d rest h =
    get_or_append_left (replicate n a) rest d i (omega (arith, length-replicate n a)) ∙ get_or-replicate n i a d h

pub beyond : {X : Type 0} (n i : ℕ) (a d : X) (rest : List X) → get_or (replicate n a ++ rest) (n + i) d ≡ get_or rest i d
beyond n i a d rest =
    ap (λ k. get_or (replicate n a ++ rest) (k + i) d) (sym (length-replicate n a)) ∙ get_or-append-add (replicate n a) rest i d

at : (n j k : ℕ) → j ≡ k → due_at n j ≡ due_at n k
at n j k e = ap (due_at n) e

pub due-p : (n k : ℕ) → 1 ≤ k → k ≤ n → due_at n k ≡ expected (codes "P") n
due-p n k low high =
    at n k (suc (k - 1)) (omega arith) ∙ within n (k - 1) (expected (codes "P") n) none (after_p n) (omega arith)

pub due-after-p : (n i : ℕ) → due_at n (n + 1 + i) ≡ get_or (after_p n) i none
due-after-p n i = at n (n + 1 + i) (suc (n + i)) (omega arith) ∙ beyond n i (expected (codes "P") n) none (after_p n)

pub due-g1 : (n k : ℕ) → n + 5 ≤ k → k < 2 * n + 5 → due_at n k ≡ expected (codes "G1") n
due-g1 n k low high =
    at n k (n + 1 + suc (suc (suc (suc (k - (n + 5)))))) (omega arith) ∙ due-after-p n (suc (suc (suc (suc (k - (n + 5))))))
    ∙ within n (k - (n + 5)) (expected (codes "G1") n) none (after_g1 n) (omega arith)

pub due-after-g1 : (n i : ℕ) → due_at n (2 * n + 5 + i) ≡ get_or (after_g1 n) i none
due-after-g1 n i =
    at n (2 * n + 5 + i) (n + 1 + suc (suc (suc (suc (n + i))))) (omega arith) ∙ due-after-p n (suc (suc (suc (suc (n + i)))))
    ∙ beyond n i (expected (codes "G1") n) none (after_g1 n)

pub due-g2 : (n k : ℕ) → 2 * n + 6 ≤ k → k < 3 * n + 6 → due_at n k ≡ expected (codes "G2") n
due-g2 n k low high =
    at n k (2 * n + 5 + suc (k - (2 * n + 6))) (omega arith) ∙ due-after-g1 n (suc (k - (2 * n + 6)))
    ∙ within n (k - (2 * n + 6)) (expected (codes "G2") n) none (after_g2 n) (omega arith)

pub due-after-g2 : (n i : ℕ) → due_at n (3 * n + 6 + i) ≡ get_or (after_g2 n) i none
due-after-g2 n i =
    at n (3 * n + 6 + i) (2 * n + 5 + suc (n + i)) (omega arith) ∙ due-after-g1 n (suc (n + i))
    ∙ beyond n i (expected (codes "G2") n) none (after_g2 n)

pub length-layout : (n : ℕ) → length (layout n) ≡ 3 * n + 17
length-layout n =
    simp (length-append, length-replicate) (omega arith)
