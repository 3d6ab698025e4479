-- The lowest bit that is left is the first place that is due at the base.
use Rattle.qss_sched.proofs.Common
use Common.{◌%◌, ◌*◌, ◌+◌, ◌-◌, ◌<◌, ◌∙◌, ap, ArePartTaken, arith, inl, inr, IsLeast, IsWheel}
use Common.{length, None, refl, set-get_or, slice_set, slice_set as set, subst, sym, vec_len}
use Rattle.qss_sched.proofs.Least.{has_place}
use Rattle.qss_sched.proofs.Takes.{one_taken}
use Rattle.qss_sched.proofs.Wheels.{due_at_base}
use Rattle.qss_sched.proofs.Words.{word_inside, word_first, bit_out, less_left, still_due}
use Rattle.qss_sched.proofs.wheel.take_wheel_group.Goals as goal

pub loop-rest-init : goal.loop-rest-init
loop-rest-init c =
    let words = c.args.marks.now in
    let index = 64 * c.args.group + c.args.base % 64 in
    record {
      wheel = subst (λ w. IsWheel c.args.due.now w c.args.base) (sym (ap (slice_set words index) c.word-rest.ensures ∙ set-get_or words index 0)) c.requires.wheel;
      ahead = λ place e. c.requires.group.first place (c.requires.wheel.near place c.args.base e).2 (c.requires.wheel.held place c.args.base e);
      part = λ old h. h;
      more = inl c.word-rest.ensures;
      grown = omega arith;
      room = refl;
    }

pub returns-then-place-first-clause-rest : goal.returns-then-place-first-clause-rest
returns-then-place-first-clause-rest c = λ _ place e.
    let inv = c.loop-rest.invariant in
    let index = 64 * c.args.group + c.args.base % 64 in
    let first = word_first c.loop-rest.due c.args.marks.now c.args.base c.args.group c.loop-rest.rest (word_inside c.args.marks.now index c.requires.group.some) inv.wheel c.requires.group.within
    c.lowest_marked_bit-bit.result c.lowest_marked_bit-bit.ensures inv.ahead in
    let least = due_at_base c.loop-rest.due _ c.args.base _ inv.wheel first in
    omega (arith, least.first place e, c.if-place-first.true)

pub put_due_tick-requires-clause-place : goal.put_due_tick-requires-clause-place
put_due_tick-requires-clause-place c =
    let inv = c.loop-rest.invariant in
    let index = 64 * c.args.group + c.args.base % 64 in
    let first = word_first c.loop-rest.due c.args.marks.now c.args.base c.args.group c.loop-rest.rest (word_inside c.args.marks.now index c.requires.group.some) inv.wheel c.requires.group.within
    c.lowest_marked_bit-bit.result c.lowest_marked_bit-bit.ensures inv.ahead in
    let least = due_at_base c.loop-rest.due _ c.args.base _ inv.wheel first in
    has_place c.loop-rest.due (64 * c.args.group + c.lowest_marked_bit-bit.result) c.args.base least.has

pub overflow_sub-place : goal.overflow_sub-place
overflow_sub-place c =
    let inv = c.loop-rest.invariant in
    let index = 64 * c.args.group + c.args.base % 64 in
    let first = word_first c.loop-rest.due c.args.marks.now c.args.base c.args.group c.loop-rest.rest (word_inside c.args.marks.now index c.requires.group.some) inv.wheel c.requires.group.within
    c.lowest_marked_bit-bit.result c.lowest_marked_bit-bit.ensures inv.ahead in
    let least = due_at_base c.loop-rest.due _ c.args.base _ inv.wheel first in
    let past = (inv.part c.requires.part.0 c.requires.part.1).ahead (64 * c.args.group + c.lowest_marked_bit-bit.result) least.has in
    omega (arith, past)

pub push_reserved-requires : goal.push_reserved-requires
push_reserved-requires c =
    let inv = c.loop-rest.invariant in
    let index = 64 * c.args.group + c.args.base % 64 in
    let first = word_first c.loop-rest.due c.args.marks.now c.args.base c.args.group c.loop-rest.rest (word_inside c.args.marks.now index c.requires.group.some) inv.wheel c.requires.group.within
    c.lowest_marked_bit-bit.result c.lowest_marked_bit-bit.ensures inv.ahead in
    let least = due_at_base c.loop-rest.due _ c.args.base _ inv.wheel first in
    let past = (inv.part c.requires.part.0 c.requires.part.1).ahead (64 * c.args.group + c.lowest_marked_bit-bit.result) least.has in
    omega (arith, past, c.if-place-first.false, inv.room, c.requires.room)

pub loop-rest-smaller : goal.loop-rest-smaller
loop-rest-smaller c = less_left c.loop-rest.rest c.lowest_marked_bit-bit.result c.lowest_marked_bit-bit.ensures.within c.lowest_marked_bit-bit.ensures.marked

pub loop-rest-preserved : goal.loop-rest-preserved
loop-rest-preserved c =
    let inv = c.loop-rest.invariant in
    let index = 64 * c.args.group + c.args.base % 64 in
    let place = 64 * c.args.group + c.lowest_marked_bit-bit.result in
    let number = place - c.args.first in
    let inside : index < length c.args.marks.now = word_inside c.args.marks.now index c.requires.group.some in
    let first = word_first c.loop-rest.due c.args.marks.now c.args.base c.args.group c.loop-rest.rest inside inv.wheel c.requires.group.within
    c.lowest_marked_bit-bit.result c.lowest_marked_bit-bit.ensures inv.ahead in
    let least : IsLeast c.loop-rest.due c.args.base place = due_at_base c.loop-rest.due _ c.args.base _ inv.wheel first in
    record {
      wheel = bit_out c.loop-rest.due c.args.marks.now c.args.base c.args.group c.loop-rest.rest inside inv.wheel c.requires.group.within
          c.lowest_marked_bit-bit.result c.lowest_marked_bit-bit.ensures inv.ahead c.put_due_tick.new.due place refl least.has c.put_due_tick.ensures.put c.put_due_tick.ensures.size_limit;
      ahead = λ other e. inv.ahead other (still_due c.loop-rest.due c.put_due_tick.new.due place other c.args.base c.put_due_tick.ensures.put
          (has_place c.loop-rest.due place c.args.base least.has) e);
      part = λ old h.
          let more = ArePartTaken c.args.first c.args.count in
          let part = one_taken c.args.first c.args.count (vec_len c.loop-rest.taken) c.args.base place old c.loop-rest.due c.loop-rest.taken.items (inv.part old h) c.if-place-first.false least in
          subst (λ n. more n c.args.base old c.put_due_tick.new.due c.push_reserved.new.self.items) (sym c.push_reserved.ensures.len)
          (subst (λ due. more (vec_len c.loop-rest.taken + 1) c.args.base old due c.push_reserved.new.self.items) (sym c.put_due_tick.ensures.put)
          (subst (more (vec_len c.loop-rest.taken + 1) c.args.base old (set c.loop-rest.due place None)) (sym c.push_reserved.ensures.items) part));
      more = inr (omega (arith, inv.grown, c.push_reserved.ensures.len));
      grown = omega (arith, inv.grown, c.push_reserved.ensures.len);
      room = c.push_reserved.ensures.capacity ∙ inv.room;
    }
