-- A machine's legitimate runs are those of its affine system.
use Rattle.cert_check.proofs.Common
use Common.{[], ℕ, ℤ, ◌*ℤ◌, ◌+ℤ◌, ◌+◌, ◌-◌, ◌<◌, ◌∙◌, ◌≡◌, ◌≤ℤ◌, ◌≤◌, ◌⊎◌, abs_of, add-one, ap, ap₂}
use Common.{arith, Certificate, certificate_data, entry_at, get_or as slice_index_or}
use Common.{get_or-map-range_with_len, Holds, inl, inr, int_at, IsLegitimate, length, List, Machine}
use Common.{pos, refl, slope_limit, start_coefficient, start_constant_part, start_drives}
use Common.{state_count, subst, suc, sum_below, sum_below-same, sym, system_of, table, tabulate}
use Common.{times, unit_positive, vector, zero}
use Rattle.qss_machine.specs.Legitimate.{scaled_slope}
use Rattle.cert_check.specs.Systems.{start_matrix}
use Rattle.cert_check.specs.Bounds.{BoundsAreGuaranteed}
use Rattle.cert_check.proofs.Run.{Run, IsCertifiedStart, IsLegitimate as IsRunOf}
use Rattle.cert_check.proofs.Theorem.{promises}

-- the lists of a run, read at their places
abbrev pub run_of : ℕ → ℕ → List (List ℤ) → List (List ℤ) → Run
run_of s r states levels = record { scale = s; refinement = r; last = length states - 1; states = entry_at states; levels = entry_at levels }

pub same-sum : (n : ℕ) (f : ℕ → ℤ) → sum_below n f ≡ sum_below n f
same-sum zero f = refl
same-sum (suc n) f = ap (λ (x : ℤ). x +ℤ f n) (same-sum n f)

-- the entries of the start's matrix
pub entry-at : (m : Machine) (j k : ℕ) → j < state_count m → k < state_count m → table (start_matrix m) j k ≡ start_coefficient m j k
entry-at m j k hj hk =
    let row = get_or-map-range_with_len (λ i. tabulate (state_count m) (start_coefficient m i)) 0 (state_count m) j j [] hj (omega arith) in
    ap (λ (xs : List ℤ). vector xs k) row ∙ get_or-map-range_with_len (start_coefficient m j) 0 (state_count m) k k (pos 0) hk (omega arith)

pub drive-at : (m : Machine) (j : ℕ) → j < state_count m → vector (start_drives m) j ≡ start_constant_part m j
drive-at m j h = get_or-map-range_with_len (start_constant_part m) 0 (state_count m) j j (pos 0) h (omega arith)

-- the slopes of a run
pub slope-same : (m : Machine) (s j : ℕ) (levels : List ℤ) → j < state_count m
    → scaled_slope m s j levels ≡ times (state_count m) (table (start_matrix m)) (int_at levels) j +ℤ pos s *ℤ vector (start_drives m) j
slope-same m s j levels h =
    let sums = same-sum (state_count m) (λ k. start_coefficient m j k *ℤ int_at levels k) in
    let entries = sum_below-same (state_count m) (λ k. start_coefficient m j k *ℤ int_at levels k) (λ k. table (start_matrix m) j k *ℤ int_at levels k)
    (λ k l. ap (λ (x : ℤ). x *ℤ int_at levels k) (sym (entry-at m j k h l))) in
    ap₂ (λ (x y : ℤ). x +ℤ pos s *ℤ y) (sums ∙ entries) (sym (drive-at m j h))

pub leads : (m : Machine) (start quanta : List ℤ) (s r : ℕ) (xs ms : List (List ℤ))
    → IsLegitimate m start quanta s r xs ms → IsRunOf (system_of m) (vector quanta) (vector start) (run_of s r xs ms)
leads m start quanta s r xs ms run = record {
  scaled = run.some_scale;
  refined = run.some_refinement;
  starts = run.first;
  moves = λ i j h l.
      let k : i + 1 < length xs = omega (arith, run.places) in
      let a = run.moves i j k l in
      rw add-one at a ∙ slope-same m s j (slice_index_or ms i []) l;
  near = λ i j h l. run.near i j (omega (arith, run.places)) l;
}

certified-start : (m : Machine) (c : Certificate) (start : List ℤ) → (start ≡ c.start1) ⊎ (start ≡ c.start2) → IsCertifiedStart (system_of m) (certificate_data c) (vector start)
certified-start m c start (inl e) = inl (λ j h. ap (λ (xs : List ℤ). vector xs j) e)
certified-start m c start (inr e) = inr (λ j h. ap (λ (xs : List ℤ). vector xs j) e)

place-of : (i n : ℕ) → i < n → i ≤ n - 1
place-of i n h = omega arith

pub promised : (m : Machine) (c : Certificate) → Holds (system_of m) (certificate_data c) → BoundsAreGuaranteed m c
promised m c holds =
    let all = promises (system_of m) (certificate_data c) (unit_positive m) holds in
    record {
      basin = λ s r xs ms run i h.
          all.basin (vector run.start) (run_of s r xs ms) (certified-start m c run.start run.certified) (leads m run.start c.q s r xs ms run.legitimate) i (place-of i (length xs) h);
      slopes = λ s r xs ms run i j h l.
          let P : ℤ → Type 0 = λ x. abs_of x ≤ℤ (pos s *ℤ slope_limit (system_of m) (certificate_data c) j) in
          subst P (sym (slope-same m s j (slice_index_or ms i []) l))
          (all.slopes (vector run.start) (run_of s r xs ms) (certified-start m c run.start run.certified) (leads m run.start c.q s r xs ms run.legitimate) i j (place-of i (length xs) h) l);
      inside = λ s r s' r' xs ms xs' ms' run run' i i' h h' common.
          all.inside (vector run.start) (vector run'.start) (run_of s r xs ms) (run_of s' r' xs' ms')
          (certified-start m c run.start run.certified) (certified-start m c run'.start run'.certified)
          (leads m run.start c.q s r xs ms run.legitimate) (leads m run'.start c.q s' r' xs' ms' run'.legitimate)
          i i' (place-of i (length xs) h) (place-of i' (length xs') h') common;
      distances = λ s r s' r' xs ms xs' ms' run run' i i' j h h' common l.
          all.distances (vector run.start) (vector run'.start) (run_of s r xs ms) (run_of s' r' xs' ms')
          (certified-start m c run.start run.certified) (certified-start m c run'.start run'.certified)
          (leads m run.start c.q s r xs ms run.legitimate) (leads m run'.start c.q s' r' xs' ms' run'.legitimate)
          i i' (place-of i (length xs) h) (place-of i' (length xs') h') common j l;
    }
