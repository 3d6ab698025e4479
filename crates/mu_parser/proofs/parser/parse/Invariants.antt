use Rattle.mu_parser.proofs.Common.{◌≡◌, go, model_machine, state_of, take}
use Rattle.mu_grammar.specs.ReaderMachines.{after}
use Rattle.mu_grammar.specs.Symbols.{symbols}
use Rattle.mu_parser.proofs.parser.parse.Given as goal

-- where the machine is after the tokens so far
abbrev pub invariant-loop-i : goal.invariant-loop-i
invariant-loop-i l = after model_machine 64 (go model_machine.start) (take l.i (symbols l.source l.tokens)) ≡ go (state_of l.state)
