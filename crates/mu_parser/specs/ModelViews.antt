-- The logical view of the parser's configuration.
use Rattle.mu_tree.specs.ModelTree.{ModelTree, model}
use Rattle.mu_parser.specs.declared.parser.Next.{Next}
use Rattle.mu_parser.specs.declared.parser.Next.TheVariants as nexts
use Rattle.mu_grammar.specs.ReaderMachines as machines
use Rattle.mu_grammar.specs.States as states
use Rattle.mu_parser.specs.SectionViews.{state_of}

-- the logical view of a configuration
abbrev pub next_of : Next → machines.Next states.State ModelTree
next_of (nexts.Going s) = machines.go (state_of s)
next_of (nexts.Done m) = machines.done (model m)
next_of nexts.Wrong = machines.syntax
next_of nexts.TooDeep = machines.deep
