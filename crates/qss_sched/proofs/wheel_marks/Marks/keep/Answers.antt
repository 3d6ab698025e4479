-- The group's word and its slot may have others.
use Rattle.qss_sched.proofs.Common.{◌∙◌, ◌≡◌, length, refl, take_at}
use Rattle.qss_sched.proofs.Words.{word_gone, slot_gone}
use Rattle.qss_sched.proofs.wheel_marks.Marks.keep.Goals as goal

pub invariant_of-self-then-not-unmark : goal.invariant_of-self-then-not-unmark
invariant_of-self-then-not-unmark c =
    let m = c.self.inside in
    let many : length c.unmark.new.words ≡ m.groups.len = c.unmark.auto.words ∙ c.deref_mut.ensures.len in
    rw (take_at c.unmark.new.words _ _ many)
    (word_gone m.places.items m.groups.items m.slots c.args.group c.args.slot c.args.word c.self.invariant c.requires.group c.requires.slot (rw (← c.self.view_is) at c.requires.some)
    c.unmark.new.words c.if-word-ne0.false (rw c.deref_mut.ensures.value at c.unmark.ensures.unmarked) (λ z. let e = c.if-not-unmark.ensures.empty.1 z in cc))

pub invariant_of-self-2 : goal.invariant_of-self-2
invariant_of-self-2 c =
    let m = c.self.inside in
    let many : length c.unmark.new.words ≡ m.groups.len = c.unmark.auto.words ∙ c.deref_mut.ensures.len in
    rw (take_at c.unmark.new.words _ _ many)
    (slot_gone m.places.items m.groups.items m.slots c.args.group c.args.slot c.args.word c.self.invariant c.requires.group c.requires.slot (rw (← c.self.view_is) at c.requires.some)
    c.unmark.new.words c.if-word-ne0.false (rw c.deref_mut.ensures.value at c.unmark.ensures.unmarked) (c.if-not-unmark.ensures.empty.0 refl))
