-- Lists of states and levels as a trace.
use Rattle.qss_own_traces.proofs.Common
use Common.{[], ℕ, ℤ, ◌*◌, ◌/◌, ◌<◌, ◌^◌, ◌∙◌, ◌∷◌, ◌≡◌, ◌≤◌, All, All-append, All-nil, All-tail}
use Common.{ap, AreQuanta, arith, get_or, get_or-map, ints, IsSize, IsTraceOf, IsWithin, length}
use Common.{length-map, length-places, List, Machine, place_count, places, pos, quanta, refl}
use Common.{state_count, StateInfo, sym, Trace}
use Rattle.qss_trace.specs.TraceLimits.{IsFactor}
use Rattle.qss_trace.proofs.Fields.{trace_of, same-trace}
use Rattle.qss_trace.proofs.OneTrace.{numbers-same}
use Rattle.qss_trace.proofs.Placing.{places-at}
use Rattle.qss_own_traces.proofs.Placing.{joined, joined_places, places_of_joined}

-- ---- one trace

-- numbers at the same indices are the same
same-places : (n : ℕ) (xs ys : List ℤ) → 1 ≤ n → length xs ≡ place_count n xs * n → length ys ≡ place_count n ys * n → places n xs ≡ places n ys → xs ≡ ys
same-places n xs ys some whole-x whole-y e =
    let count : place_count n xs ≡ place_count n ys = sym (length-places n xs) ∙ ap length e ∙ length-places n ys in
    let long : length ys ≡ length xs = whole-y ∙ ap (λ k. k * n) (sym count) ∙ sym whole-x in
    numbers-same n xs ys some whole-x long (λ i h.
    sym (places-at n i xs h) ∙ ap (λ (zs : List (List ℤ)). get_or zs i []) e ∙ places-at n i ys (omega (arith, count, h)))

pub one-trace-of : (m : Machine) (scale : ℕ) (states levels : List (List ℤ)) (a b : Trace) → IsTraceOf m scale states levels a → IsTraceOf m scale states levels b → a ≡ b
one-trace-of m scale states levels a b of-a of-b =
    let size : a.n ≡ b.n = of-a.size ∙ sym of-b.size in
    let whole : length b.states ≡ place_count a.n b.states * a.n = b.has_places.whole ∙ ap (λ k. place_count k b.states * k) (sym size) in
    let states-same : a.states ≡ b.states = same-places a.n a.states b.states a.has_size.some a.has_places.whole whole (of-a.own_states ∙ sym of-b.own_states ∙ ap (λ k. places k b.states) (sym size)) in
    let whole-a : length a.levels ≡ place_count a.n a.levels * a.n = a.has_places.as_many ∙ a.has_places.whole ∙ ap (λ k. k / a.n * a.n) (sym a.has_places.as_many) in
    let whole-b : length b.levels ≡ place_count b.n b.levels * b.n = b.has_places.as_many ∙ b.has_places.whole ∙ ap (λ k. k / b.n * b.n) (sym b.has_places.as_many) in
    let levels-same : a.levels ≡ b.levels = same-places a.n a.levels b.levels a.has_size.some whole-a (whole-b ∙ ap (λ k. place_count k b.levels * k) (sym size))
    (of-a.own_levels ∙ sym of-b.own_levels ∙ ap (λ k. places k b.levels) (sym size)) in
    let scales : a.scale ≡ b.scale = of-a.own_scale ∙ sym of-b.own_scale in
    let refinements : a.refine ≡ b.refine = of-a.by_tick ∙ sym of-b.by_tick in
    let quantum : a.q ≡ b.q = of-a.own_quanta ∙ sym of-b.own_quanta in
    same-trace a b (λ i. record { n = size i; scale = scales i; refine = refinements i; q = quantum i; states = states-same i; levels = levels-same i })

-- ---- some trace

abbrev AreSized : ℕ → List (List ℤ) → Type 0
AreSized n xs = All (λ ys. length ys ≡ n) xs

all-joined : (P : ℤ → Type 0) (xs : List (List ℤ)) → All (All P) xs → All P (joined xs)
all-joined P [] all = All-nil P
all-joined P (x ∷ xs) all = All-append P x (joined xs) (all 0 x (omega arith))
    (all-joined P xs (All-tail (All P) x xs all))

-- a machine's quanta are those of a trace
pub quanta-sound : (m : Machine) → AreQuanta (state_count m) (quanta m)
quanta-sound m = record {
  one_each = length-map m.states (λ (state : StateInfo). state.quantum);
  each = λ k d h.
      let s : StateInfo = record { name = []; x0 = pos 0; quantum = pos 0 } in
      let inside : k < state_count m = omega (arith, h, length-map m.states (λ (state : StateInfo). state.quantum)) in
      let is = m.has_variables.each_state k s inside in
      let low = is.quantum_low in
      let high = is.quantum_high in
      rw (get_or-map (λ (state : StateInfo). state.quantum) m.states k s d inside) (record { from_one = low; within = omega (arith, ints, low, high) });
}

pub some-trace-of : (m : Machine) (scale : ℕ) (states levels : List (List ℤ)) → IsSize (state_count m) → IsFactor scale → 1 ≤ length states → length states ≤ 2 ^ 24 → length levels ≡ length states
    → AreSized (state_count m) states → AreSized (state_count m) levels → All (All (IsWithin 108)) states → All (All (IsWithin 64)) levels → (t : Trace) × IsTraceOf m scale states levels t
some-trace-of m scale states levels size factor some few as_many sized-states sized-levels small-states small-levels =
    let n = state_count m in
    let t : Trace = trace_of (record { n = n; scale = scale; refine = 1; q = quanta m; states = joined states; levels = joined levels }) (record {
      size = size;
      scale = factor;
      refine = record { some = omega arith; few = omega arith };
      quanta = quanta-sound m;
      places = joined_places n states levels size some few as_many sized-states sized-levels
          (all-joined (IsWithin 108) states small-states)
          (all-joined (IsWithin 64) levels small-levels);
    }) in (
      t,
      record {
        size = refl;
        own_scale = refl;
        by_tick = refl;
        own_quanta = refl;
        own_states = places_of_joined n states size.some sized-states;
        own_levels = places_of_joined n levels size.some sized-levels;
      },
    )
