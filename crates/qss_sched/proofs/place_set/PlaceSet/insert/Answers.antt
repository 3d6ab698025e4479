-- The place is already in the set, or it is added.
use Rattle.qss_sched.proofs.Common.{◌∙◌, ap, is_listed, PlaceList, sym}
use Rattle.qss_sched.proofs.PlaceSets.{there_already, came_last}
use Rattle.qss_sched.proofs.place_set.PlaceSet.insert.Goals as goal

pub returns-then-contains-clause-places : goal.returns-then-contains-clause-places
returns-then-contains-clause-places c = λ other. there_already c.args.self.now.places c.args.place other (sym c.contains.ensures ∙ c.if-contains.true)

pub add-requires-clause-absent : goal.add-requires-clause-absent
add-requires-clause-absent c = sym c.contains.ensures ∙ c.if-contains.false

pub returns-clause-places : goal.returns-clause-places
returns-clause-places c = λ other. ap (λ (s : PlaceList). is_listed s.places other) c.add.ensures ∙ came_last c.args.self.now.places c.args.place other

pub returns-clause-count : goal.returns-clause-count
returns-clause-count c = ap (λ (s : PlaceList). s.count) c.add.ensures
