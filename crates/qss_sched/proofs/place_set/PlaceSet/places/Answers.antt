-- The listed places are the marked ones, which are below the count.
use Rattle.qss_sched.proofs.Common.{ℕ, ◌<◌, ◌∙◌, All, ap, List, PlaceList, subst, sym, vec_capacity}
use Rattle.qss_sched.proofs.PlaceSets.{below_count}
use Rattle.qss_sched.proofs.place_set.PlaceSet.places.Goals as goal

pub returns-clause-places : goal.returns-clause-places
returns-clause-places c = c.as_slice.ensures.value ∙ ap (λ (s : PlaceList). s.places) c.self.view_is

pub returns-clause-below : goal.returns-clause-below
returns-clause-below c =
    let m = c.self.inside in
    subst (λ (l : List ℕ). All (λ place. place < c.args.self.now.count) l) (sym c.as_slice.ensures.value)
    (subst (λ (n : ℕ). All (λ place. place < n) m.listed.items) (ap (λ (s : PlaceList). s.count) c.self.view_is) (below_count m.listed.items m.among.items (vec_capacity m.listed) c.self.invariant))
