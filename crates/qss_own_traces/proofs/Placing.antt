-- Lists one after another, as places.
use Rattle.qss_own_traces.proofs.Common
use Common.{[], ℕ, ℤ, ◌*◌, ◌++◌, ◌+◌, ◌/◌, ◌<◌, ◌^◌, ◌∙◌, ◌∷◌, ◌≡◌, ◌≤◌, All, All-append, All-cons}
use Common.{All-nil, All-tail, ap, append-nil, ArePlaces, arith, Draft, fill_by_all, flat_map}
use Common.{get_or, Holds, IsSize, IsWithin, length, length-append, List, map, place_count, places}
use Common.{refl, subst, suc, sym, tabulate, take, take-append_seam, zero}
use Rattle.std.proofs.Math.Nat.{mul-le-mul_right}
use Rattle.std.proofs.Common.{drop}
use Rattle.std.proofs.Math.Seq.{drop-append-add}
use Rattle.std.proofs.lemmas.List.Concat.{flat_map-append}
use Rattle.std.proofs.lemmas.Nat.{div-mul-add}
use Rattle.std.proofs.lemmas.List.{map-append}
use Rattle.qss_trace.specs.TracePlaces.{place_at}

-- the lists one after another
abbrev pub joined : List (List ℤ) → List ℤ
joined lists = flat_map (λ xs. xs) lists

-- ---- lists of n numbers each

pub joined_length : (n : ℕ) (lists : List (List ℤ)) → All (λ xs. length xs ≡ n) lists → length (joined lists) ≡ length lists * n
joined_length n [] sized = omega arith
joined_length n (xs ∷ lists) sized =
    let here : length xs ≡ n = sized 0 [] (omega arith) in
    let there = joined_length n lists (All-tail (λ ys. length ys ≡ n) xs lists sized) in
    let both = length-append xs (joined lists) in
    let more : (length lists + 1) * n ≡ length lists * n + n = omega arith in
    let count : length (xs ∷ lists) ≡ length lists + 1 = omega arith in
    both ∙ omega (arith, here, there, more) ∙ ap (λ (k : ℕ). k * n) (sym count)

pub place_of_joined : (n k : ℕ) (lists : List (List ℤ)) → All (λ xs. length xs ≡ n) lists → k < length lists → place_at n (joined lists) k ≡ get_or lists k []
place_of_joined n k [] sized h = absurd (omega arith)
place_of_joined n zero (xs ∷ lists) sized h =
    let here : length xs ≡ n = sized 0 [] (omega arith) in
    let none : zero * n ≡ 0 = omega arith in
    ap (λ (j : ℕ). take n (drop j (xs ++ joined lists))) none ∙ ap (λ (j : ℕ). take j (xs ++ joined lists)) (sym here) ∙ take-append_seam xs (joined lists)
place_of_joined n (suc k) (xs ∷ lists) sized h =
    let here : length xs ≡ n = sized 0 [] (omega arith) in
    let on : suc k * n ≡ length xs + k * n = more k n (length xs) here in
    ap (λ (j : ℕ). take n (drop j (xs ++ joined lists))) on ∙ ap (take n) (drop-append-add xs (joined lists) (k * n))
    ∙ place_of_joined n k lists (All-tail (λ ys. length ys ≡ n) xs lists sized) (omega arith)
  where
    more : (k n l : ℕ) → l ≡ n → suc k * n ≡ l + k * n
    more k n l e = let f : (k + 1) * n ≡ n + k * n = omega arith in let g : suc k ≡ k + 1 = omega arith in ap (λ (j : ℕ). j * n) g ∙ f ∙ ap (λ (j : ℕ). j + k * n) (sym e)

pub count_of_joined : (n : ℕ) (lists : List (List ℤ)) → 1 ≤ n → All (λ xs. length xs ≡ n) lists → place_count n (joined lists) ≡ length lists
count_of_joined n lists some sized =
    let e : length lists * n ≡ length lists * n + 0 = omega arith in
    ap (λ (k : ℕ). k / n) (joined_length n lists sized ∙ e) ∙ div-mul-add (length lists) n 0 (omega arith)

pub places_of_joined : (n : ℕ) (lists : List (List ℤ)) → 1 ≤ n → All (λ xs. length xs ≡ n) lists → places n (joined lists) ≡ lists
places_of_joined n lists some sized =
    ap (λ (k : ℕ). tabulate k (place_at n (joined lists))) (count_of_joined n lists some sized)
    ∙ sym (fill_by_all (place_at n (joined lists)) lists (length lists) [] refl (λ k h. sym (place_of_joined n k lists sized h)))

-- ---- drafts

sized_more : (n : ℕ) (lists : List (List ℤ)) (xs : List ℤ) → All (λ xs. length xs ≡ n) lists → length xs ≡ n → All (λ xs. length xs ≡ n) (lists ++ xs ∷ [])
sized_more n lists xs sized e =
    All-append (λ xs. length xs ≡ n) lists (xs ∷ []) sized
    (All-cons (λ xs. length xs ≡ n) xs [] e (All-nil (λ xs. length xs ≡ n)))

joined_more : (lists : List (List ℤ)) (xs old new : List ℤ) → old ≡ joined lists → new ≡ old ++ xs → new ≡ joined (lists ++ xs ∷ [])
joined_more lists xs old new e added =
    added ∙ ap (λ (l : List ℤ). l ++ xs) e ∙ ap (λ (l : List ℤ). joined lists ++ l) (sym (append-nil xs)) ∙ sym (flat_map-append (λ (ys : List ℤ). ys) lists (xs ∷ []))

all_more : (P : ℤ → Type 0) (xs old new : List ℤ) → All P old → All P xs → new ≡ old ++ xs → All P new
all_more P xs old new before here added = subst (All P) (sym added) (All-append P old xs before here)

-- one snapshot more
pub holds_more : {W : Type 0} (xs ms : W → List ℤ) (n : ℕ) (ws : List W) (next : W) (d e : Draft) →
    Holds n (map xs ws) (map ms ws) d → length (xs next) ≡ n → length (ms next) ≡ n →
    All (IsWithin 108) (xs next) → All (IsWithin 64) (ms next) →
    e.states.items ≡ d.states.items ++ xs next → e.levels.items ≡ d.levels.items ++ ms next →
    Holds n (map xs (ws ++ next ∷ [])) (map ms (ws ++ next ∷ [])) e
holds_more xs ms n ws next d e held of_xs of_ms small_xs small_ms states_are levels_are =
    let states = map xs ws in
    let levels = map ms ws in
    rw (map-append xs ws (next ∷ []), map-append ms ws (next ∷ []))
    (record {
      own_states = joined_more states
          (xs next) d.states.items e.states.items held.own_states states_are;
      own_levels = joined_more levels
          (ms next) d.levels.items e.levels.items held.own_levels levels_are;
      as_many = omega (
        arith,
        length-append levels (ms next ∷ []),
        length-append states
            (xs next ∷ []),
        held.as_many,
      );
      sized_states = sized_more n states (xs next) held.sized_states of_xs;
      sized_levels = sized_more n levels (ms next) held.sized_levels of_ms;
      small_states = all_more (IsWithin 108)
          (xs next) d.states.items e.states.items held.small_states small_xs states_are;
      small_levels = all_more (IsWithin 64)
          (ms next) d.levels.items e.levels.items held.small_levels small_ms levels_are;
    })

-- tick 0
pub holds_one : (n : ℕ) (xs ms : List ℤ) (e : Draft) → length xs ≡ n → length ms ≡ n → All (IsWithin 108) xs → All (IsWithin 64) ms →
    e.states.items ≡ xs → e.levels.items ≡ ms → Holds n (xs ∷ []) (ms ∷ []) e
holds_one n xs ms e of_xs of_ms small_xs small_ms states_are levels_are = record {
  own_states = states_are ∙ sym (append-nil xs);
  own_levels = levels_are ∙ sym (append-nil ms);
  as_many = refl;
  sized_states = sized_more n [] xs (λ k d h. absurd (omega arith)) of_xs;
  sized_levels = sized_more n [] ms (λ k d h. absurd (omega arith)) of_ms;
  small_states = subst (All (IsWithin 108)) (sym states_are) small_xs;
  small_levels = subst (All (IsWithin 64)) (sym levels_are) small_ms;
}

-- places within the limits of a trace
pub joined_places : (n : ℕ) (states levels : List (List ℤ)) → IsSize n → 1 ≤ length states →
    length states ≤ 2 ^ 24 → length levels ≡ length states → All (λ xs. length xs ≡ n) states →
    All (λ xs. length xs ≡ n) levels →
    All (IsWithin 108) (joined states) → All (IsWithin 64) (joined levels) →
    ArePlaces n (joined states) (joined levels)
joined_places n states levels size some few as_many sized_states sized_levels small_states
    small_levels =
    let of_states = joined_length n states sized_states in
    let of_levels = joined_length n levels sized_levels in
    let least : 1 * n ≤ length states * n = mul-le-mul_right n some in
    let most : length states * n ≤ 2 ^ 24 * n = mul-le-mul_right n few in
    record {
      whole = of_states ∙ ap (λ (k : ℕ). k * n)
          (sym (count_of_joined n states size.some sized_states));
      as_many = of_levels ∙ ap (λ (k : ℕ). k * n) as_many ∙ sym of_states;
      some = omega (arith, of_states, least);
      few = omega (arith, of_states, most);
      small_states = small_states;
      small_levels = small_levels;
    }

-- those of a draft at the end
pub held_places : (n : ℕ) (states levels : List (List ℤ)) (d : Draft) → IsSize n →
    1 ≤ length states → length states ≤ 2 ^ 24 → Holds n states levels d →
    ArePlaces n d.states.items d.levels.items
held_places n states levels d size some few held =
    rw (held.own_states, held.own_levels)
    (joined_places n states levels size some few held.as_many held.sized_states held.sized_levels
    (rw held.own_states at held.small_states) (rw held.own_levels at held.small_levels))
