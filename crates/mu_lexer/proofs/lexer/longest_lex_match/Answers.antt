use Rattle.mu_lexer.proofs.Common.{◌+◌, ◌∙◌, ◌≡◌, arith, length, None, run, Some, sym, take}
use Rattle.mu_lexer.proofs.Runs.{run-take_more, best_more, best_stuck}
use Rattle.mu_lexer.specs.declared.lexer.Phase.TheVariants as phase
use Rattle.mu_lexer.proofs.lexer.longest_lex_match.Goals as goal

pub returns-in-None : goal.returns-in-None
returns-in-None c =
    let ran : run phase.Start (take (c.loop-i.i + 1) c.args.rest.now) ≡ None = run-take_more c.args.rest.now c.loop-i.i c.loop-i.phase c.loop-i.invariant.0 c.loop-i-test.true ∙ sym c.in-None.ensures in
    best_stuck c.args.rest.now c.loop-i.i (length c.args.rest.now) c.loop-i.best ran (omega arith) c.loop-i.invariant.1

pub loop-i-preserved : goal.loop-i-preserved
loop-i-preserved c =
    let ran : run phase.Start (take (c.loop-i.i + 1) c.args.rest.now) ≡ Some c.in-Some.after = run-take_more c.args.rest.now c.loop-i.i c.loop-i.phase c.loop-i.invariant.0 c.loop-i-test.true ∙ sym c.in-Some.ensures in
    (ran, rw c.longer_lex_match-best.ensures (best_more c.args.rest.now c.loop-i.i c.loop-i.best c.in-Some.after ran c.loop-i.invariant.1))
