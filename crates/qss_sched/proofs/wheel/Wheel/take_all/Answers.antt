-- Where no place is at the slot of the tick nothing is due then.
use Rattle.qss_sched.proofs.Common.{◌+◌, AreTaken, arith, IsWheel, subst, sym}
use Rattle.qss_sched.proofs.Takes.{nothing_taken}
use Rattle.qss_sched.proofs.Wheels.{none_at_base}
use Rattle.qss_sched.proofs.wheel.Wheel.take_all.Goals as goal

pub returns-in-None-clause-taken : goal.returns-in-None-clause-taken
returns-in-None-clause-taken c =
    let w = c.self.inside in
    let a = c.self.invariant in
    let before = (rw (← c.self.view_is) at c.requires.none_before) in
    let moved : IsWheel w.due.items w.marks c.args.tick = record {
      small = a.small;
      near = λ place due e. let n = a.near place due e in (before place due e, omega (arith, n.1, c.if-self-tick.false), n.2);
      held = a.held;
      owed = a.owed;
    } in
    rw (← c.self.view_is)
    (subst (AreTaken c.args.first c.args.count c.args.tick w.due.items w.due.items) (sym c.clear-in-None.ensures.items)
    (nothing_taken c.args.first c.args.count c.args.tick w.due.items
    (λ place e. none_at_base w.due.items w.marks c.args.tick (place + 1) moved c.in-None.ensures place (omega arith) e)))
