-- A heap of due ticks at its start, and after a due tick of a place has changed.
use Rattle.qss_sched.proofs.Common
use Common.{ℕ, ◌+◌, ◌<◌, ◌^◌, ◌∙◌, ◌≡◌, ◌≢◌, ◌⊎◌, ap, AreTicks, arith, cases_eq, due_at}
use Common.{get_or-set_other, get_or-set_same, HasNone, inl, inr, IsDueHeap, IsIndexed, IsOrdered}
use Common.{length, length-set, List, None, Option, parent_of, place_of, rank_at, rank_of}
use Common.{slice_index, slice_set, Some, sym}
use Rattle.qss_sched.specs.Heaps.{rank_of_place}

pub place_of_rank : (tick : Option ℕ) (place : ℕ) → place < 2 ^ 32 → place_of (rank_of tick place) ≡ place
unfolding place_of
place_of_rank None place small = omega (arith, small)
place_of_rank (Some tick) place small = omega (arith, small)

indexed_at_start : (ranks positions : List ℕ) (n : ℕ) → n < 2 ^ 32 → length ranks ≡ n → length positions ≡ n →
    ((i : ℕ) → i < n → slice_index ranks i ≡ 2 ^ 96 + i) → ((i : ℕ) → i < n → slice_index positions i ≡ i) → IsIndexed ranks positions
indexed_at_start ranks positions n few many many_positions each each_position =
    let held = λ (i : ℕ) (h : i < n). ap place_of (each i h) ∙ place_of_rank None i (omega (arith, h, few)) in
    record {
      as_many = omega arith;
      placed = λ i h. omega (arith, held i (omega (arith, h)), h);
      position_of = λ i h. let inside : i < n = omega (arith, h) in ap (slice_index positions) (held i inside) ∙ each_position i inside;
      positioned = λ i h. omega (arith, each_position i (omega (arith, h)), h);
      place_at = λ i h. let inside : i < n = omega (arith, h) in ap (λ j. place_of (slice_index ranks j)) (each_position i inside) ∙ held i inside;
    }

-- places without due ticks are a heap of due ticks with their ranks and positions in order
pub heap_at_start : (due : List (Option ℕ)) (ranks positions : List ℕ) (n : ℕ) → n < 2 ^ 32 → length due ≡ n → length ranks ≡ n → length positions ≡ n →
    HasNone due → ((i : ℕ) → i < n → slice_index ranks i ≡ 2 ^ 96 + i) → ((i : ℕ) → i < n → slice_index positions i ≡ i) → IsDueHeap due ranks positions
heap_at_start due ranks positions n few many_due many many_positions none each each_position = record {
  few = omega arith;
  small = λ place tick e. let no = none place in absurd (cc);
  as_many = omega arith;
  indexed = indexed_at_start ranks positions n few many many_positions each each_position;
  ranked = λ i h.
      let inside : i < n = omega (arith, h) in
      ap (slice_index ranks) (each_position i inside) ∙ each i inside ∙ sym (ap (λ d. rank_of d i) (none i));
  ordered = λ j positive h. omega (arith, each j (omega (arith, h)), each (parent_of j) (omega (arith, h)));
}

-- a place with another due tick, and its new rank in the heap, are a heap of due ticks again
pub heap_after : (due new_due : List (Option ℕ)) (ranks positions new_ranks new_positions : List ℕ) (tick : Option ℕ) (place rank : ℕ) → IsDueHeap due ranks positions → place < length due →
    new_due ≡ slice_set due place tick → AreTicks new_due → rank ≡ rank_of tick place → place_of rank ≡ place → length new_ranks ≡ length ranks →
    IsIndexed new_ranks new_positions → IsOrdered (slice_index new_ranks) (length new_ranks) →
    rank_of_place new_ranks new_positions (place_of rank) ≡ rank →
    ((other : ℕ) → other < length ranks → other ≢ place_of rank → rank_of_place new_ranks new_positions other ≡ rank_of_place ranks positions other) →
    IsDueHeap new_due new_ranks new_positions
heap_after due new_due ranks positions new_ranks new_positions tick place rank a inside put small is own many indexed ordered takes others =
    let many_due : length new_due ≡ length due = ap length put ∙ length-set due place tick in
    record {
      few = omega (arith, a.few);
      small = small;
      as_many = omega (arith, a.as_many);
      indexed = indexed;
      ranked = λ other h. ranked other (omega (arith, h, many_due)) (cases_eq other place);
      ordered = ordered;
    }
  where
    ranked : (other : ℕ) → other < length due → (other ≡ place) ⊎ (other ≢ place) → rank_of_place new_ranks new_positions other ≡ rank_at new_due other
    ranked other h (inl e) =
        let held : due_at new_due place ≡ tick = ap (λ d. due_at d place) put ∙ get_or-set_same due place tick None inside in
        ap (rank_of_place new_ranks new_positions) (e ∙ sym own) ∙ takes ∙ is ∙ sym (ap (rank_at new_due) e ∙ ap (λ t. rank_of t place) held)
    ranked other h (inr apart) =
        let held : due_at new_due other ≡ due_at due other = ap (λ d. due_at d other) put ∙ get_or-set_other due place other tick None apart in
        others other (omega (arith, h, a.as_many)) (λ e. apart (e ∙ own)) ∙ a.ranked other h ∙ sym (ap (λ t. rank_of t other) held)
