use Rattle.qss_trace.proofs.Common
use Common.{◌∙◌, ◌≤◌, arith, IsVerdict, Legitimate, state_count, subst, sym, TraceVerdict}
use Rattle.qss_trace.proofs.OneVerdict.{one-verdict}
use Rattle.qss_trace.proofs.Runs.{run-holds, holds-run}
use Rattle.qss_trace.proofs.Small.{small-system}
use Rattle.qss_trace.proofs.trace_checker.check_trace.Goals as goal

pub trace_verdict-requires : goal.trace_verdict-requires
trace_verdict-requires c =
    let few : state_count c.args.m.now ≤ 16 = omega (arith, c.requires.size, c.args.t.now.has_size.few) in
    record {
      size = c.requires.size;
      same = c.affine_system-a.ensures.size ∙ sym c.requires.size;
      system = c.affine_system-a.ensures.system;
      small = small-system c.args.m.now c.affine_system-a.result few c.affine_system-a.ensures.size c.affine_system-a.ensures.coef c.affine_system-a.ensures.system;
    }

pub returns-clause-legitimate : goal.returns-clause-legitimate
returns-clause-legitimate c =
    let P : TraceVerdict → Type 0 = λ v. IsVerdict c.args.m.now c.args.t.now v in (
      λ e. holds-run c.args.m.now c.args.t.now c.requires.size (subst P e c.trace_verdict.ensures),
      λ run. one-verdict c.args.m.now c.args.t.now c.trace_verdict.result Legitimate c.trace_verdict.ensures (run-holds c.args.m.now c.args.t.now c.requires.size run),
    )
