use Rattle.qss_trace.proofs.Common.{◌+◌, ◌∙◌, ap, arith, Missing, refl, Some, sym}
use Rattle.qss_trace.proofs.Ended.{few-records}
use Rattle.qss_trace.proofs.Keeping.{all-lines, kept-places}
use Rattle.qss_trace.proofs.trace_parser.finish_trace_draft.Goals as goal

pub returns-then-draft-lt5-clause-refused : goal.returns-then-draft-lt5-clause-refused
returns-then-draft-lt5-clause-refused c = λ seen is.
    let d = c.args.draft in
    few-records d.n seen d.scale d.refine d.q.items d.states.items d.levels.items is.keeps (omega (arith, is.taken_is, c.if-draft-lt5.true))
    ∙ ap (λ k. Some (Missing (k + 1))) (sym is.taken_is)

pub invariant_of-result : goal.invariant_of-result
invariant_of-result c =
    let d = c.args.draft in
    let seen = c.requires.read.0 in
    let is = c.requires.read.1 in
    let kept = is.keeps in
    record {
      has_size = c.requires.size;
      has_scale = kept.some_scale (omega (arith, is.taken_is, c.if-draft-lt5.false));
      has_refine = kept.some_refinement (omega (arith, is.taken_is, c.if-draft-lt5.false));
      has_quanta = rw c.new.ensures (kept.quanta (omega (arith, is.taken_is, c.if-draft-lt5.false)));
      has_places = rw (c.new-2.ensures, c.new-3.ensures) (
          kept-places d.n seen d.scale d.refine d.q.items d.states.items d.levels.items c.requires.size.some
          (omega (arith, is.taken_is, c.if-draft-lt5.false)) (omega (arith, is.taken_is, c.requires.count_limit)) kept
          );
    }

pub returns-clause-read : goal.returns-clause-read
returns-clause-read c = λ seen is.
    let d = c.args.draft in
    record {
      size = refl;
      spelt = rw (c.new.ensures, c.new-2.ensures, c.new-3.ensures) (
          all-lines d.n seen d.scale d.refine d.q.items d.states.items d.levels.items c.requires.size.some
          (omega (arith, is.taken_is, c.if-draft-lt5.false)) is.keeps
          );
    }
