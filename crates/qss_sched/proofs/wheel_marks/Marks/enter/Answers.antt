-- The place's word, its group and its slot are marked.
use Rattle.qss_sched.proofs.Common.{◌∙◌, ◌≡◌, length, take_at}
use Rattle.qss_sched.proofs.Places.{entered, others_kept}
use Rattle.qss_sched.proofs.wheel_marks.Marks.enter.Goals as goal

pub invariant_of-self : goal.invariant_of-self
invariant_of-self c =
    let m = c.self.inside in
    let many_places : length c.mark.new.words ≡ m.places.len = c.mark.auto.words ∙ c.deref_mut.ensures.len in
    let many_groups : length c.mark-2.new.words ≡ m.groups.len = c.mark-2.auto.words ∙ c.deref_mut-2.ensures.len in
    rw (take_at c.mark.new.words _ _ many_places, take_at c.mark-2.new.words _ _ many_groups)
    (entered m.places.items m.groups.items c.mark.new.words c.mark-2.new.words m.slots c.args.place c.args.slot c.self.invariant c.requires.place c.requires.slot
    (rw c.deref_mut.ensures.value at c.mark.ensures) (rw c.deref_mut-2.ensures.value at c.mark-2.ensures))

pub returns-clause-others : goal.returns-clause-others
returns-clause-others c =
    let m = c.self.inside in
    let many_places : length c.mark.new.words ≡ m.places.len = c.mark.auto.words ∙ c.deref_mut.ensures.len in
    rw (take_at c.mark.new.words _ _ many_places, ← c.self.view_is)
    (others_kept m.places.items c.mark.new.words c.args.place c.args.slot 1 c.requires.slot (rw c.deref_mut.ensures.value at c.mark.ensures))
