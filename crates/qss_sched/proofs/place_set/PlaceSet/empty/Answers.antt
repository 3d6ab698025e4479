-- No place is listed, and none is marked.
use Rattle.qss_sched.proofs.Common
use Common.{ℕ, ◌∙◌, ap, arith, Bool, false, IsPlaceSet, length, length-replicate, List, replicate}
use Common.{subst, sym, vec_capacity}
use Rattle.qss_sched.proofs.PlaceSets.{empty_set, same_set}
use Rattle.qss_sched.proofs.place_set.PlaceSet.empty.Goals as goal

pub invariant_of-result : goal.invariant_of-result
invariant_of-result c =
    let room : ℕ = vec_capacity c.in_ok-listed.listed in
    subst (λ (among : List Bool). IsPlaceSet c.in_ok-listed.listed.items among room) (sym c.in_ok-among.ensures)
    (subst (λ (listed : List ℕ). IsPlaceSet listed (replicate c.args.count false) room) (sym c.in_ok-listed.ensures.items)
    (empty_set c.args.count room (omega (arith, c.in_ok-listed.ensures.capacity))))

pub returns : goal.returns
returns c = same_set _ _ c.in_ok-listed.ensures.items (ap length c.in_ok-among.ensures ∙ length-replicate c.args.count false)
