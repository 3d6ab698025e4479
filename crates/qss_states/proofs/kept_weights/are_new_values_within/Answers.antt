-- Places of discrete variables come after those of states.
use Rattle.qss_states.proofs.Common.{AreUpToAt, arith, subst, sym}
use Rattle.qss_states.proofs.kept_weights.are_new_values_within.Goals as goal

pub are_places_within-requires-clause-from : goal.are_places_within-requires-clause-from
are_places_within-requires-clause-from c k none h = omega arith

pub are_places_within-requires-clause-known : goal.are_places_within-requires-clause-known
are_places_within-requires-clause-known c k none h = omega (arith, c.requires.ready.moved.below k none h, c.requires.ready.levels)

pub overflow_cast-states : goal.overflow_cast-states
overflow_cast-states c = omega (arith, c.requires.ready.levels, c.args.at.now.machine.now.has_variables.few)

pub are_places_within-requires-2-clause-from : goal.are_places_within-requires-2-clause-from
are_places_within-requires-2-clause-from c k none h = omega (arith, (c.requires.handled.assigned.known k none h).0, c.requires.ready.levels)

pub are_places_within-requires-2-clause-known : goal.are_places_within-requires-2-clause-known
are_places_within-requires-2-clause-known c k none h =
    omega (arith, (c.requires.handled.assigned.known k none h).1, c.requires.ready.levels, c.requires.handled.values.discretes)

pub returns-then-not-are_places_within : goal.returns-then-not-are_places_within
returns-then-not-are_places_within c = (
  λ e. absurd (cc),
  λ both. absurd (let yes = c.are_places_within.ensures.1 both.0 in let no = c.if-not-are_places_within.true in cc),
)

pub returns : goal.returns
returns c =
    let assigned = c.args.handled.now.assigned.now in
    let many = c.requires.ready.levels in (
      λ e. (c.are_places_within.ensures.0 c.if-not-are_places_within.false, subst (λ n. AreUpToAt c.args.bound c.args.handled.now.discretes.now n assigned) many (c.are_places_within-2.ensures.0 e)),
      λ both. c.are_places_within-2.ensures.1 (subst (λ n. AreUpToAt c.args.bound c.args.handled.now.discretes.now n assigned) (sym many) both.1),
    )
