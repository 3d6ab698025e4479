-- The numbers of each place in a flat list.
use Rattle.std.specs.Prelude.{ℕ, ◌*◌, List, take, drop, ℤ}
use Rattle.mu_num.specs.IndexedSums.{tabulate}
use Rattle.qss_trace.specs.TraceLimits.{place_count}

-- the n numbers of a place
abbrev pub place_at : ℕ → List ℤ → ℕ → List ℤ
place_at n numbers place = take n (drop (place * n) numbers)

-- the numbers of all places, place by place
abbrev pub places : ℕ → List ℤ → List (List ℤ)
places n numbers = tabulate (place_count n numbers) (place_at n numbers)
