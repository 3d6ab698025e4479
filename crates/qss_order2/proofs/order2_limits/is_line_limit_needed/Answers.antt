-- A level that is within a bound at both ends of a line is within it along the line.
use Rattle.qss_order2.proofs.Common
use Common.{ℤ, FitsSigned, int_at, IsLineWithin, Place, place_in, rules, subst, to_z-of_z, w128}
use Rattle.qss_order2.proofs.BoundedLines.{bounded_between}
use Rattle.qss_order2.proofs.order2_limits.is_line_limit_needed.Goals as goal

pub returns-in-Some-clause-bounded : goal.returns-in-Some-clause-bounded
returns-in-Some-clause-bounded c e =
    let q = c.args.q.now in
    let bound : ℤ = c.in-Some.bound in
    let fits : FitsSigned w128 bound = search rules in (
      bound,
      c.in-Some.is,
      λ j l.
          let p : Place = place_in q.places.items j in
          let v : ℤ = int_at q.changes.items j in
          let line : IsLineWithin bound p v c.args.window =
          subst (λ b. IsLineWithin b p v c.args.window) (to_z-of_z w128 bound fits)
          (c.has_line_above_limit.ensures e j l) in
          record {
            slope = line.slope;
            levels = λ t low high. bounded_between p.level v bound p.since t c.args.window low high
                line.level line.later;
          },
    )
