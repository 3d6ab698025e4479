-- Either word may have another bit: then the bit that denotes the word stays set.
use Rattle.qss_sched.proofs.Common.{◌∙◌, ◌≡◌, length, refl, take_at}
use Rattle.qss_sched.proofs.Places.{left_word, left_group, left_slot, others_kept}
use Rattle.qss_sched.proofs.wheel_marks.Marks.leave.Goals as goal

pub invariant_of-self : goal.invariant_of-self
invariant_of-self c =
    let m = c.self.inside in
    let many_places : length c.unmark.new.words ≡ m.places.len = c.unmark.auto.words ∙ c.deref_mut.ensures.len in
    rw (take_at c.unmark.new.words _ _ many_places)
    (left_word m.places.items m.groups.items c.unmark.new.words m.slots c.args.place c.args.slot c.self.invariant c.requires.place c.requires.slot
    (rw (← c.self.view_is) at c.requires.there)
    (rw c.deref_mut.ensures.value at c.unmark.ensures.unmarked) (λ z. let e = c.if-not-unmark.ensures.empty.1 z in cc))

pub returns-then-not-unmark-clause-others : goal.returns-then-not-unmark-clause-others
returns-then-not-unmark-clause-others c =
    let m = c.self.inside in
    let many_places : length c.unmark.new.words ≡ m.places.len = c.unmark.auto.words ∙ c.deref_mut.ensures.len in
    rw (take_at c.unmark.new.words _ _ many_places, ← c.self.view_is)
    (others_kept m.places.items c.unmark.new.words c.args.place c.args.slot 0 c.requires.slot (rw c.deref_mut.ensures.value at c.unmark.ensures.unmarked))

pub invariant_of-self-then-not-unmark-2 : goal.invariant_of-self-then-not-unmark-2
invariant_of-self-then-not-unmark-2 c =
    let m = c.self.inside in
    let many_places : length c.unmark.new.words ≡ m.places.len = c.unmark.auto.words ∙ c.deref_mut.ensures.len in
    let many_groups : length c.unmark-2.new.words ≡ m.groups.len = c.unmark-2.auto.words ∙ c.deref_mut-2.ensures.len in
    rw (take_at c.unmark.new.words _ _ many_places, take_at c.unmark-2.new.words _ _ many_groups)
    (left_group m.places.items m.groups.items c.unmark.new.words c.unmark-2.new.words m.slots c.args.place c.args.slot c.self.invariant c.requires.place c.requires.slot
    (rw (← c.self.view_is) at c.requires.there)
    (rw c.deref_mut.ensures.value at c.unmark.ensures.unmarked) (c.if-not-unmark.ensures.empty.0 refl)
    (rw c.deref_mut-2.ensures.value at c.unmark-2.ensures.unmarked) (λ z. let e = c.if-not-unmark-2.ensures.empty.1 z in cc))

pub returns-then-not-unmark-2-clause-others : goal.returns-then-not-unmark-2-clause-others
returns-then-not-unmark-2-clause-others c =
    let m = c.self.inside in
    let many_places : length c.unmark.new.words ≡ m.places.len = c.unmark.auto.words ∙ c.deref_mut.ensures.len in
    rw (take_at c.unmark.new.words _ _ many_places, ← c.self.view_is)
    (others_kept m.places.items c.unmark.new.words c.args.place c.args.slot 0 c.requires.slot (rw c.deref_mut.ensures.value at c.unmark.ensures.unmarked))

pub invariant_of-self-2 : goal.invariant_of-self-2
invariant_of-self-2 c =
    let m = c.self.inside in
    let many_places : length c.unmark.new.words ≡ m.places.len = c.unmark.auto.words ∙ c.deref_mut.ensures.len in
    let many_groups : length c.unmark-2.new.words ≡ m.groups.len = c.unmark-2.auto.words ∙ c.deref_mut-2.ensures.len in
    rw (take_at c.unmark.new.words _ _ many_places, take_at c.unmark-2.new.words _ _ many_groups)
    (left_slot m.places.items m.groups.items c.unmark.new.words c.unmark-2.new.words m.slots c.args.place c.args.slot c.self.invariant c.requires.place c.requires.slot
    (rw c.deref_mut.ensures.value at c.unmark.ensures.unmarked) (c.if-not-unmark.ensures.empty.0 refl)
    (rw c.deref_mut-2.ensures.value at c.unmark-2.ensures.unmarked) (c.if-not-unmark-2.ensures.empty.0 refl))

pub returns-clause-others : goal.returns-clause-others
returns-clause-others c =
    let m = c.self.inside in
    let many_places : length c.unmark.new.words ≡ m.places.len = c.unmark.auto.words ∙ c.deref_mut.ensures.len in
    rw (take_at c.unmark.new.words _ _ many_places, ← c.self.view_is)
    (others_kept m.places.items c.unmark.new.words c.args.place c.args.slot 0 c.requires.slot (rw c.deref_mut.ensures.value at c.unmark.ensures.unmarked))
