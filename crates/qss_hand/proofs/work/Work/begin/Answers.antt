-- The discrete values before the tick follow where some were assigned.
use Rattle.qss_hand.proofs.Common
use Common.{ℕ, ℤ, ◌<◌, ◌∙◌, ◌≡◌, All, ap, AreSameBut, arith, int_at, length, List, refl, subst, sym}
use Common.{Values, with_items, with_items_is}
use Rattle.qss_hand.proofs.Assigned.{same_values}
use Rattle.qss_hand.proofs.work.Work.begin.Goals as goal

pub copy_work_discretes-requires-clause-same_length : goal.copy_work_discretes-requires-clause-same_length
copy_work_discretes-requires-clause-same_length c = ap length c.as_mut_slice-before.ensures.value ∙ c.self.invariant.as_many ∙ sym (ap length c.as_slice-2.ensures.value)

pub copy_work_discretes-requires-clause-below : goal.copy_work_discretes-requires-clause-below
copy_work_discretes-requires-clause-below c =
    let v = c.self.inside in
    subst (λ (l : List ℕ). All (λ place. place < length c.as_slice-2.result.now) l) (sym c.as_slice.ensures.value)
    (subst (λ (l : List ℤ). All (λ place. place < length l) v.assigned.items) (sym c.as_slice-2.ensures.value) c.self.invariant.below)

pub copy_work_discretes-requires-clause-same : goal.copy_work_discretes-requires-clause-same
copy_work_discretes-requires-clause-same c =
    let v = c.self.inside in
    subst (λ (places : List ℕ). AreSameBut places c.as_slice-2.result.now c.as_mut_slice-before.result.now) (sym c.as_slice.ensures.value)
    (subst (λ (d : List ℤ). AreSameBut v.assigned.items d c.as_mut_slice-before.result.now) (sym c.as_slice-2.ensures.value)
    (subst (λ (p : List ℤ). AreSameBut v.assigned.items v.d.items p) (sym c.as_mut_slice-before.ensures.value) c.self.invariant.same))

pub invariant_of-self : goal.invariant_of-self
invariant_of-self c =
    let v = c.self.inside in
    let new : List ℤ = c.copy_work_discretes.new.before in
    let pre : (with_items v.pre new).items ≡ v.d.items = with_items_is v.pre new (c.copy_work_discretes.auto.before ∙ c.as_mut_slice-before.ensures.len) ∙ c.copy_work_discretes.ensures ∙ c.as_slice-2.ensures.value in
    record {
      as_many = ap length pre;
      below = λ k d h. absurd (omega (arith, h, ap length c.clear.ensures.items));
      same = λ place none. ap (λ l. int_at l place) pre;
      few = omega (arith, c.clear.ensures.len);
      has_room = omega (arith, c.self.invariant.has_room, c.clear.ensures.capacity, c.clear-2.ensures.capacity);
    }

pub returns : goal.returns
returns c =
    let v = c.self.inside in
    let new : List ℤ = c.copy_work_discretes.new.before in
    let pre : (with_items v.pre new).items ≡ v.d.items = with_items_is v.pre new (c.copy_work_discretes.auto.before ∙ c.as_mut_slice-before.ensures.len) ∙ c.copy_work_discretes.ensures ∙ c.as_slice-2.ensures.value in
    same_values _ _ (ap (λ (w : Values). w.x) c.self.view_is) (ap (λ (w : Values). w.d) c.self.view_is) (pre ∙ ap (λ (w : Values). w.d) c.self.view_is) refl c.clear-2.ensures.items
    (c.clear-2.ensures.capacity ∙ ap (λ (w : Values). w.room) c.self.view_is)
