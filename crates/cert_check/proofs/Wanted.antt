-- Each row of a text with all lines has the expected number of numbers.
use Rattle.cert_check.proofs.Common
use Common.{[], ℕ, ℤ, ◌*◌, ◌+◌, ◌<◌, ◌∙◌, ◌∷◌, ◌≡◌, ◌≤◌, All, ap, AreAllRows, arith, drop, due_at}
use Common.{Expected, get_or, get_or-drop, get_or-take, get_or_default, IsSingle, IsSquareTable}
use Common.{IsVector, length, length-drop, length-take, List, pos, subst, sym, take}
use Rattle.cert_check.specs.CertificateParts.{IsBlock}
use Rattle.cert_check.proofs.FieldPlaces.{none, after_p, after_g2, due-p, due-g1, due-g2}
use Rattle.cert_check.proofs.FieldPlaces.{due-after-p, due-after-g1, due-after-g2}

pub count-after-p : (n i : ℕ) → (due_at n (n + 1 + i)).count ≡ (get_or (after_p n) i none).count
count-after-p n i = ap (λ (d : Expected). d.count) (due-after-p n i)

pub count-p : (n : ℕ) → (due_at n (n + 1)).count ≡ n
count-p n = let e : n + 1 ≡ n + 1 + 0 = omega arith in ap (λ k. (due_at n k).count) e ∙ count-after-p n 0

pub count-h2 : (n : ℕ) → (due_at n (2 * n + 5)).count ≡ 1
count-h2 n = let e : 2 * n + 5 ≡ 2 * n + 5 + 0 = omega arith in ap (λ k. (due_at n k).count) e ∙ ap (λ (d : Expected). d.count) (due-after-g1 n 0)

pub count-after-g2 : (n i : ℕ) → (due_at n (3 * n + 6 + i)).count ≡ (get_or (after_g2 n) i none).count
count-after-g2 n i = ap (λ (d : Expected). d.count) (due-after-g2 n i)

pub count-c : (n : ℕ) → (due_at n (3 * n + 6)).count ≡ n
count-c n = let e : 3 * n + 6 ≡ 3 * n + 6 + 0 = omega arith in ap (λ k. (due_at n k).count) e ∙ count-after-g2 n 0

-- if `count` numbers are expected in a row, it has `count` numbers
pub row-fits : (n k count : ℕ) (rows : List (List ℤ)) → AreAllRows n rows → k < 3 * n + 17 → (due_at n k).count ≡ count → IsVector count (get_or rows k [])
row-fits n k count rows all h e = rw e at (all.each k h)

-- the rows of a block
pub block-fits : (n k : ℕ) (rows : List (List ℤ)) → AreAllRows n rows → k + n ≤ 3 * n + 17 → ((j : ℕ) → k ≤ j → j < k + n → (due_at n j).count ≡ n)
    → All (IsVector n) (take n (drop k rows))
block-fits n k rows all few due j d h =
    let l : j < n = omega (arith, length-take n (drop k rows)) in
    let inside : k + j < length rows = omega (arith, all.as_many) in
    let e : get_or (take n (drop k rows)) j d ≡ get_or rows (k + j) [] =
    get_or-take n (drop k rows) j d l ∙ get_or-drop k rows j d ∙ get_or_default rows (k + j) d [] inside in
    rw e (row-fits n (k + j) n rows all (omega arith) (due (k + j) (omega arith) (omega arith)))

pub p-fits : (n : ℕ) (rows : List (List ℤ)) → AreAllRows n rows → All (IsVector n) (take n (drop 1 rows))
p-fits n rows all = block-fits n 1 rows all (omega arith) (λ j low high. ap (λ (d : Expected). d.count) (due-p n j low (omega arith)))

pub g1-fits : (n : ℕ) (rows : List (List ℤ)) → AreAllRows n rows → All (IsVector n) (take n (drop (n + 1 + 4) rows))
g1-fits n rows all = block-fits n (n + 1 + 4) rows all (omega arith) (λ j low high. ap (λ (d : Expected). d.count) (due-g1 n j (omega arith) (omega arith)))

pub g2-fits : (n : ℕ) (rows : List (List ℤ)) → AreAllRows n rows → All (IsVector n) (take n (drop (2 * n + 5 + 1) rows))
g2-fits n rows all = block-fits n (2 * n + 5 + 1) rows all (omega arith) (λ j low high. ap (λ (d : Expected). d.count) (due-g2 n j (omega arith) (omega arith)))

-- the number of a row that has exactly one
pub single-fits : (rows : List (List ℤ)) (k : ℕ) (row : List ℤ) (z : ℤ) → row ≡ get_or rows k [] → row ≡ z ∷ [] → IsVector 1 (get_or rows k []) → IsSingle rows k z
single-fits rows k row z is one fit =
    let here : get_or rows k [] ≡ z ∷ [] = sym is ∙ one in
    record {
      is = here;
      within =
          let P : List ℤ → Type 0 = λ xs. IsVector 1 xs in
          (subst P here fit).each 0 (pos 0) (omega arith);
    }

pub block-is : (n k : ℕ) (rows matrix : List (List ℤ)) → matrix ≡ take n (drop k rows) → k + n ≤ length rows → All (IsVector n) (take n (drop k rows)) → IsBlock n rows k matrix
block-is n k rows matrix is few fit = record {
  is = is;
  within =
      let P : List (List ℤ) → Type 0 = λ xs. IsSquareTable n xs in
      subst P (sym is) (record { one_each = omega (arith, length-take n (drop k rows), length-drop k rows); each = fit });
}
