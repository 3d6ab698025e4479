-- One more place is assigned, with one more row.
use Rattle.qss_hand.proofs.Common
use Common.{[], ℤ, ◌++◌, ◌<◌, ◌∙◌, ◌∷◌, ◌≡◌, ap, arith, length, length-set, of_z, set, to_z}
use Common.{to_z-of_z, Values, vec_capacity, w64, with_items, with_items_is}
use Rattle.std.specs.Prelude.{vec_len}
use Rattle.qss_hand.proofs.Assigned.{one_assigned, same_values}
use Rattle.qss_hand.proofs.work.Work.assign.Goals as goal

pub bounds-d-place : goal.bounds-d-place
bounds-d-place c = omega (arith, c.requires.place, ap (λ (w : Values). length w.d) c.self.view_is, ap length c.as_mut_slice-d.ensures.value)

pub push_reserved-requires : goal.push_reserved-requires
push_reserved-requires c =
    let v = c.self.inside in
    let known = c.self.invariant in
    omega (arith, known.few, known.has_room, v.log.ok.0, c.requires.room, ap (λ (w : Values). length w.log) c.self.view_is, ap (λ (w : Values). w.room) c.self.view_is)

pub invariant_of-self : goal.invariant_of-self
invariant_of-self c =
    let v = c.self.inside in
    let place = c.args.place in
    let inside : place < length v.d.items = omega (arith, c.requires.place, ap (λ (w : Values). length w.d) c.self.view_is) in
    let raw : ℤ = to_z w64 (of_z w64 c.args.level) in
    let values : (with_items v.d (set c.as_mut_slice-d.result.now place raw)).items ≡ set v.d.items place c.args.level =
    with_items_is v.d (set c.as_mut_slice-d.result.now place raw) (length-set c.as_mut_slice-d.result.now place raw ∙ c.as_mut_slice-d.ensures.len)
    ∙ ap (λ l. set l place raw) c.as_mut_slice-d.ensures.value
    ∙ ap (set v.d.items place) (to_z-of_z w64 c.args.level c.ranges.level) in
    let known = one_assigned v.d.items v.pre.items _ v.assigned.items c.push_reserved.new.self.items place (vec_len v.assigned) (vec_len v.log) (vec_capacity v.assigned) (vec_capacity v.log)
    (vec_len c.push_reserved.new.self) (vec_len c.push_reserved-2.new.self) c.args.level c.self.invariant inside values c.push_reserved.ensures.items c.push_reserved.ensures.len c.push_reserved-2.ensures.len in
    record {
      as_many = known.as_many;
      below = known.below;
      same = known.same;
      few = known.few;
      has_room = omega (arith, known.has_room, c.push_reserved.ensures.capacity, c.push_reserved-2.ensures.capacity);
    }

pub returns : goal.returns
returns c =
    let v = c.self.inside in
    let place = c.args.place in
    let raw : ℤ = to_z w64 (of_z w64 c.args.level) in
    let values : (with_items v.d (set c.as_mut_slice-d.result.now place raw)).items ≡ set v.d.items place c.args.level =
    with_items_is v.d (set c.as_mut_slice-d.result.now place raw) (length-set c.as_mut_slice-d.result.now place raw ∙ c.as_mut_slice-d.ensures.len)
    ∙ ap (λ l. set l place raw) c.as_mut_slice-d.ensures.value
    ∙ ap (set v.d.items place) (to_z-of_z w64 c.args.level c.ranges.level) in
    same_values _ _ (ap (λ (w : Values). w.x) c.self.view_is) (values ∙ ap (λ (w : Values). set w.d place c.args.level) c.self.view_is) (ap (λ (w : Values). w.pre) c.self.view_is)
    (ap (λ (w : Values). w.tick) c.self.view_is) (c.push_reserved-2.ensures.items ∙ ap (λ (w : Values). w.log ++ c.args.row ∷ []) c.self.view_is)
    (c.push_reserved-2.ensures.capacity ∙ ap (λ (w : Values). w.room) c.self.view_is)
