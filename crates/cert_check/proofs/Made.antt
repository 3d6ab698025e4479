-- A certificate of rows.
use Rattle.cert_check.proofs.Common
use Common.{[], ℕ, ℤ, ◌*◌, ◌+◌, ◌<◌, ◌∷◌, ◌≡◌, ◌≤◌, AreAllRows, arith, drop, due_at, get_or}
use Common.{IsNumber, IsSize, layout, length, length-drop, length-take, lines, lines_from, List}
use Common.{pos, refl, take, vector}
use Rattle.cert_check.proofs.Assembled.{Fields, IsMadeOf, made-lines, one-row}
use Rattle.cert_check.proofs.Same.{AreSound, certificate_of}
use Rattle.cert_check.proofs.Wanted.{count-p, count-after-p, count-h2, count-c, count-after-g2}
use Rattle.cert_check.proofs.Wanted.{row-fits, p-fits, g1-fits, g2-fits}

module _ (n : ℕ) (rows : List (List ℤ)) where
  -- the numbers of the rows
  abbrev pub fields_in : Fields
  fields_in = record {
    pm = take n (drop 1 rows);
    p = get_or rows (n + 1) [];
    mu = get_or rows (n + 1 + 1) [];
    lambda = vector (get_or rows (n + 1 + 2) []) 0;
    h1 = vector (get_or rows (n + 1 + 3) []) 0;
    g1 = take n (drop (n + 1 + 4) rows);
    h2 = vector (get_or rows (2 * n + 5) []) 0;
    g2 = take n (drop (2 * n + 5 + 1) rows);
    c = get_or rows (3 * n + 6) [];
    r = vector (get_or rows (3 * n + 6 + 1) []) 0;
    z = get_or rows (3 * n + 6 + 2) [];
    s = get_or rows (3 * n + 6 + 3) [];
    sigma_r = get_or rows (3 * n + 6 + 4) [];
    cc = vector (get_or rows (3 * n + 6 + 5) []) 0;
    sigma_c = get_or rows (3 * n + 6 + 6) [];
    e = get_or rows (3 * n + 6 + 7) [];
    start1 = get_or rows (3 * n + 6 + 8) [];
    start2 = get_or rows (3 * n + 6 + 9) [];
    q = get_or rows (3 * n + 6 + 10) [];
  }

  module _ (all : AreAllRows n rows) where
    one-number : (k : ℕ) → k < 3 * n + 17 → (due_at n k).count ≡ 1 → get_or rows k [] ≡ vector (get_or rows k []) 0 ∷ []
    one-number k h due = one-row (get_or rows k []) (row-fits n k 1 rows all h due).one_each

    small-number : (k : ℕ) → k < 3 * n + 17 → (due_at n k).count ≡ 1 → IsNumber (vector (get_or rows k []) 0)
    small-number k h due = let row = row-fits n k 1 rows all h due in row.each 0 (pos 0) (omega (arith, row.one_each))

    made : IsMadeOf n rows fields_in
    made = record {
      pm = refl;
      p = refl;
      mu = refl;
      lambda = one-number (n + 1 + 2) (omega arith) (count-after-p n 2);
      h1 = one-number (n + 1 + 3) (omega arith) (count-after-p n 3);
      g1 = refl;
      h2 = one-number (2 * n + 5) (omega arith) (count-h2 n);
      g2 = refl;
      centre = refl;
      r = one-number (3 * n + 6 + 1) (omega arith) (count-after-g2 n 1);
      z = refl;
      s = refl;
      sigma_r = refl;
      cc = one-number (3 * n + 6 + 5) (omega arith) (count-after-g2 n 5);
      sigma_c = refl;
      e = refl;
      start1 = refl;
      start2 = refl;
      q = refl;
    }

    block-size : (k : ℕ) → k + n ≤ 3 * n + 17 → length (take n (drop k rows)) ≡ n
    block-size k h = omega (arith, length-take n (drop k rows), length-drop k rows, all.as_many)

    pub sound : IsSize n → AreSound n fields_in
    sound size = record {
      size = size;
      pm = record { one_each = block-size 1 (omega arith); each = p-fits n rows all };
      p = row-fits n (n + 1) n rows all (omega arith) (count-p n);
      mu = row-fits n (n + 1 + 1) n rows all (omega arith) (count-after-p n 1);
      lambda = small-number (n + 1 + 2) (omega arith) (count-after-p n 2);
      h1 = small-number (n + 1 + 3) (omega arith) (count-after-p n 3);
      g1 = record { one_each = block-size (n + 1 + 4) (omega arith); each = g1-fits n rows all };
      h2 = small-number (2 * n + 5) (omega arith) (count-h2 n);
      g2 = record { one_each = block-size (2 * n + 5 + 1) (omega arith); each = g2-fits n rows all };
      c = row-fits n (3 * n + 6) n rows all (omega arith) (count-c n);
      r = small-number (3 * n + 6 + 1) (omega arith) (count-after-g2 n 1);
      z = row-fits n (3 * n + 6 + 2) n rows all (omega arith) (count-after-g2 n 2);
      s = row-fits n (3 * n + 6 + 3) n rows all (omega arith) (count-after-g2 n 3);
      sigma_r = row-fits n (3 * n + 6 + 4) n rows all (omega arith) (count-after-g2 n 4);
      cc_ = small-number (3 * n + 6 + 5) (omega arith) (count-after-g2 n 5);
      sigma_c = row-fits n (3 * n + 6 + 6) n rows all (omega arith) (count-after-g2 n 6);
      e = row-fits n (3 * n + 6 + 7) n rows all (omega arith) (count-after-g2 n 7);
      start1 = row-fits n (3 * n + 6 + 8) n rows all (omega arith) (count-after-g2 n 8);
      start2 = row-fits n (3 * n + 6 + 9) n rows all (omega arith) (count-after-g2 n 9);
      q = row-fits n (3 * n + 6 + 10) n rows all (omega arith) (count-after-g2 n 10);
    }

    pub made_in : (size : IsSize n) → lines (vector (get_or rows 0 []) 0) (certificate_of n fields_in (sound size)) ≡ lines_from (layout n) 0 rows
    made_in size = made-lines n rows fields_in (vector (get_or rows 0 []) 0) all.as_many (one-number 0 (omega arith) refl) made
