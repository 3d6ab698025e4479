-- The places of the set are not marked any more, and the others were not.
use Rattle.qss_sched.proofs.Common
use Common.{ℕ, ◌<◌, ◌∙◌, ◌≡◌, All, ap, Bool, false, IsPlaceSet, IsWritten, length, List, PlaceList}
use Common.{same_length, subst, sym, vec_capacity, with_items, with_items_is}
use Rattle.qss_sched.proofs.PlaceSets.{below_count, emptied, same_set}
use Rattle.qss_sched.proofs.place_set.PlaceSet.clear.Goals as goal

pub unmark-requires : goal.unmark-requires
unmark-requires c =
    let m = c.self.inside in
    subst (λ (l : List ℕ). All (λ place. place < length c.as_mut_slice.result.now) l) (sym c.as_slice.ensures.value)
    (subst (λ (a : List Bool). All (λ place. place < length a) m.listed.items) (sym c.as_mut_slice.ensures.value) (below_count m.listed.items m.among.items (vec_capacity m.listed) c.self.invariant))

pub invariant_of-self : goal.invariant_of-self
invariant_of-self c =
    let m = c.self.inside in
    let new : List Bool = c.unmark.new.among in
    let written : IsWritten false (λ place flag. flag ≡ false) m.listed.items m.among.items new =
    subst (λ (a : List Bool). IsWritten false (λ place flag. flag ≡ false) m.listed.items a new) c.as_mut_slice.ensures.value
    (subst (λ (l : List ℕ). IsWritten false (λ place flag. flag ≡ false) l c.as_mut_slice.result.now new) c.as_slice.ensures.value c.unmark.ensures) in
    let among : (with_items m.among new).items ≡ new = with_items_is m.among new (c.unmark.auto.among ∙ c.as_mut_slice.ensures.len) in
    subst (λ (a : List Bool). IsPlaceSet c.clear.new.self.items a (vec_capacity c.clear.new.self)) (sym among)
    (subst (λ (room : ℕ). IsPlaceSet c.clear.new.self.items new room) (sym c.clear.ensures.capacity)
    (subst (λ (listed : List ℕ). IsPlaceSet listed new (vec_capacity m.listed)) (sym c.clear.ensures.items)
    (emptied m.listed.items m.among.items (vec_capacity m.listed) c.self.invariant new written)))

pub returns : goal.returns
returns c =
    let m = c.self.inside in same_set _ _ c.clear.ensures.items (same_length m.among c.unmark.new.among ∙ ap (λ (s : PlaceList). s.count) c.self.view_is)
