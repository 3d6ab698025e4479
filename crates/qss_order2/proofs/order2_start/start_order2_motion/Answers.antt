-- A place and numbers for each state.
use Rattle.qss_order2.proofs.Common
use Common.{ℕ, ℤ, ◌∙◌, ◌≡◌, ap, arith, fine_states, floor_of, int_at, length, length-map}
use Common.{length-map-range_with_len, length-replicate, level_unit, List, Place, pos, replicate}
use Common.{start_place, state_count, sym, tabulate}
use Rattle.qss_order2.proofs.Starts.{fine_count}
use Rattle.qss_order2.proofs.order2_start.start_order2_motion.Goals as goal

pub start_order2_places-requires : goal.start_order2_places-requires
start_order2_places-requires c =
    let m = c.args.f.now.machine in
    ap length c.deref-3.ensures.value ∙ ap length c.in_ok-levels.ensures
    ∙ length-map (fine_states m) (λ (x : ℤ). floor_of x (level_unit m))
    ∙ sym (ap length c.deref-2.ensures.value ∙ ap length c.in_ok-states.ensures)

pub returns : goal.returns
returns c =
    let m = c.args.f.now.machine in
    let n = state_count m in
    let many : length c.in_ok-states.states.items ≡ n = ap length c.in_ok-states.ensures
    ∙ fine_count m in
    let count : c.len-count.result ≡ n = omega (
      arith,
      c.len-count.ensures,
      c.in_ok-states.states.ok.0,
      many,
    ) in
    let xs : List ℤ = c.deref-2.result.now in
    let ls : List ℤ = c.deref-3.result.now in
    let place_of : List ℤ → List ℤ → ℕ → Place = λ a b j. record {
      since = 0;
      state =
          int_at a j;
      level = int_at b j;
    } in
    let places =
    c.in_ok-start_order2_places.ensures
    ∙ ap (λ (k : ℕ). tabulate k (place_of xs ls)) (ap length c.deref-2.ensures.value ∙ many)
    ∙ ap (λ (l : List ℤ). tabulate n (place_of l ls)) (c.deref-2.ensures.value
    ∙ c.in_ok-states.ensures)
    ∙ ap (λ (l : List ℤ). tabulate n (place_of (fine_states m) l)) (c.deref-3.ensures.value
    ∙ c.in_ok-levels.ensures) in
    record {
      lists = record {
        places = ap length places ∙ length-map-range_with_len (start_place m) 0 n;
        changes = ap length c.in_ok-repeat_value.ensures ∙ length-replicate _ _ ∙ count;
        rises = ap length c.in_ok-repeat_value-2.ensures ∙ length-replicate _ _ ∙ count;
        bends = ap length c.in_ok-repeat_value-3.ensures ∙ length-replicate _ _ ∙ count;
      };
      places = places;
      changes = c.in_ok-repeat_value.ensures ∙ ap (λ (k : ℕ). replicate k (pos 0)) count;
    }
