-- The place is marked, and listed last.
use Rattle.qss_sched.proofs.Common
use Common.{[], ℕ, ◌++◌, ◌<◌, ◌∙◌, ◌∷◌, ◌≡◌, ap, arith, Bool, false, is_listed, IsPlaceSet, length}
use Common.{List, PlaceList, same_length, slice_set as set, subst, sym, true, vec_capacity}
use Common.{with_items, with_items_is}
use Rattle.std.proofs.lemmas.List.{length-set}
use Rattle.qss_sched.proofs.PlaceSets.{has_room, added, same_set}
use Rattle.qss_sched.proofs.place_set.PlaceSet.add.Goals as goal

pub bounds-among-place : goal.bounds-among-place
bounds-among-place c = omega (arith, c.requires.place, ap (λ (s : PlaceList). s.count) c.self.view_is, ap length c.as_mut_slice-among.ensures.value)

pub push_reserved-requires : goal.push_reserved-requires
push_reserved-requires c =
    let m = c.self.inside in
    let place = c.args.place in
    let inside : place < length m.among.items = omega (arith, c.requires.place, ap (λ (s : PlaceList). s.count) c.self.view_is) in
    let absent : is_listed m.listed.items place ≡ false = ap (λ (s : PlaceList). is_listed s.places place) c.self.view_is ∙ c.requires.absent in
    omega (arith, m.listed.ok.0, has_room m.listed.items m.among.items (vec_capacity m.listed) c.self.invariant place inside absent)

pub invariant_of-self : goal.invariant_of-self
invariant_of-self c =
    let m = c.self.inside in
    let place = c.args.place in
    let inside : place < length m.among.items = omega (arith, c.requires.place, ap (λ (s : PlaceList). s.count) c.self.view_is) in
    let absent : is_listed m.listed.items place ≡ false = ap (λ (s : PlaceList). is_listed s.places place) c.self.view_is ∙ c.requires.absent in
    let flags : List Bool = set c.as_mut_slice-among.result.now place true in
    let among : (with_items m.among flags).items ≡ set m.among.items place true =
    with_items_is m.among flags (length-set c.as_mut_slice-among.result.now place true ∙ c.as_mut_slice-among.ensures.len) ∙ ap (λ l. set l place true) c.as_mut_slice-among.ensures.value in
    subst (λ (l : List Bool). IsPlaceSet c.push_reserved.new.self.items l (vec_capacity c.push_reserved.new.self)) (sym among)
    (subst (λ (room : ℕ). IsPlaceSet c.push_reserved.new.self.items (set m.among.items place true) room) (sym c.push_reserved.ensures.capacity)
    (subst (λ (listed : List ℕ). IsPlaceSet listed (set m.among.items place true) (vec_capacity m.listed)) (sym c.push_reserved.ensures.items)
    (added m.listed.items m.among.items (vec_capacity m.listed) c.self.invariant place inside absent)))

pub returns : goal.returns
returns c =
    same_set _ _ (c.push_reserved.ensures.items ∙ ap (λ (s : PlaceList). s.places ++ c.args.place ∷ []) c.self.view_is)
    (same_length c.self.inside.among (set c.as_mut_slice-among.result.now c.args.place true) ∙ ap (λ (s : PlaceList). s.count) c.self.view_is)
