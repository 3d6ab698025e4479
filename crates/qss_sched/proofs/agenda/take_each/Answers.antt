-- One more is taken.
use Rattle.qss_sched.proofs.Common
use Common.{◌+◌, ◌∙◌, ArePartTaken, arith, joined, None, slice_set as set, subst, sym}
use Rattle.qss_sched.proofs.Takes.{none_before_still, one_taken}
use Rattle.qss_sched.proofs.agenda.take_each.Goals as goal

pub take_either_in_agenda-requires-clause-none_before : goal.take_either_in_agenda-requires-clause-none_before
take_either_in_agenda-requires-clause-none_before c =
    none_before_still c.args.first c.loop.taken.items c.args.tick (joined c.args.near.now c.args.far.now) (joined c.loop.near c.loop.far) c.requires.none_before c.loop.invariant.part.out

pub loop-preserved : goal.loop-preserved
loop-preserved c =
    let inv = c.loop.invariant in
    let place = c.in-Some.place in
    let before = joined c.args.near.now c.args.far.now in
    let now = joined c.loop.near c.loop.far in
    let more = ArePartTaken c.args.first c.args.count (c.loop.counter + 1) c.args.tick before in
    let part = one_taken c.args.first c.args.count c.loop.counter c.args.tick place before now c.loop.taken.items inv.part c.in-Some.ensures.taken.within c.in-Some.ensures.taken.least in
    record {
      apart = c.in-Some.ensures.apart;
      part = subst (λ due. more due c.push_reserved.new.self.items) (sym c.in-Some.ensures.taken.without)
          (subst (more (set now place None)) (sym c.push_reserved.ensures.items) part);
      as_many = omega (arith, c.push_reserved.ensures.len, inv.as_many);
      room = c.push_reserved.ensures.capacity ∙ inv.room;
    }
