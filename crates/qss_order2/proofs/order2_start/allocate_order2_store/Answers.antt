-- All lists have the machine's lengths.
use Rattle.qss_order2.proofs.Common
use Common.{◌∙◌, ap, arith, length, length-replicate, PlaceList, range_with_len, refl}
use Rattle.qss_order2.proofs.order2_start.allocate_order2_store.Goals as goal

pub returns : goal.returns
returns c = record {
  fits = record {
    lists = c.in_ok-start_order2_motion.ensures.lists;
    dues = c.in_ok-with_places.ensures.places ∙ ap length c.as_slice-states.ensures;
    left = omega (
      arith,
      c.in_ok-start_order2_list.ensures.room,
      ap length
          c.as_slice-states.ensures,
    );
    affected = ap (λ (s : PlaceList). s.count) c.in_ok-empty.ensures
        ∙ ap length c.as_slice-states.ensures;
    safe_bound = c.in_ok-greatest_safe_bound.ensures;
    levels = ap length c.in_ok-repeat_value.ensures ∙ length-replicate _ _
        ∙ ap length c.as_slice-states.ensures;
    rows = omega (
      arith,
      c.in_ok-with_capacity.ensures.capacity,
      ap length c.as_slice-states.ensures,
      ap length c.as_slice-discretes.ensures,
    );
  };
  at_rest = c.in_ok-start_order2_motion.ensures;
  left = c.in_ok-start_order2_list.ensures.list ∙ ap (range_with_len 0)
      (ap length c.as_slice-states.ensures);
  affected = ap (λ (s : PlaceList). s.places) c.in_ok-empty.ensures;
  window = refl;
  unbounded = refl;
}
