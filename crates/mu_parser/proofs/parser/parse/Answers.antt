use Rattle.mu_parser.proofs.Common.{◌+◌, ◌∙◌, ap, go, model_machine, state_of, sym}
use Rattle.mu_tree.specs.declared.tree.Model.{Model}
use Rattle.mu_tree.specs.ModelTree.{model}
use Rattle.mu_grammar.specs.ReaderMachines.{done, step_on}
use Rattle.mu_grammar.specs.ModelGrammar.{SpellsModel}
use Rattle.mu_parser.specs.ModelViews.{next_of}
use Rattle.mu_grammar.proofs.Reading.{advanced, wrong_here, deep_here, cut_here, finishes_here}
use Rattle.mu_grammar.proofs.ModelDecides.{model_decides}
use Rattle.mu_parser.proofs.parser.parse.Goals as goal

pub loop-i-preserved : goal.loop-i-preserved
loop-i-preserved c = advanced model_machine SpellsModel model_decides Model model 64 c.args.source.now c.args.tokens.now c.loop-i.i (state_of c.loop-i.state) (go (state_of c.in-Going.next)) c.loop-i-test.true c.loop-i.invariant (ap next_of (sym c.in-Going.is) ∙ c.in_ok-next.ensures ∙ ap (step_on model_machine 64 (go (state_of c.loop-i.state))) c.new-symbol.ensures)

pub returns-in-Done-clause-spelled : goal.returns-in-Done-clause-spelled
returns-in-Done-clause-spelled c = (finishes_here model_machine SpellsModel model_decides Model model 64 c.args.source.now c.args.tokens.now (c.loop-i.i + 1) c.in-Done.whole c.finish_parse.result (advanced model_machine SpellsModel model_decides Model model 64 c.args.source.now c.args.tokens.now c.loop-i.i (state_of c.loop-i.state) (done (model c.in-Done.whole)) c.loop-i-test.true c.loop-i.invariant (ap next_of (sym c.in-Done.is) ∙ c.in_ok-next.ensures ∙ ap (step_on model_machine 64 (go (state_of c.loop-i.state))) c.new-symbol.ensures)) c.finish_parse.ensures.more c.finish_parse.ensures.end).spelled

pub returns-in-Done-clause-only : goal.returns-in-Done-clause-only
returns-in-Done-clause-only c = (finishes_here model_machine SpellsModel model_decides Model model 64 c.args.source.now c.args.tokens.now (c.loop-i.i + 1) c.in-Done.whole c.finish_parse.result (advanced model_machine SpellsModel model_decides Model model 64 c.args.source.now c.args.tokens.now c.loop-i.i (state_of c.loop-i.state) (done (model c.in-Done.whole)) c.loop-i-test.true c.loop-i.invariant (ap next_of (sym c.in-Done.is) ∙ c.in_ok-next.ensures ∙ ap (step_on model_machine 64 (go (state_of c.loop-i.state))) c.new-symbol.ensures)) c.finish_parse.ensures.more c.finish_parse.ensures.end).only

pub returns-in-Done-clause-fault : goal.returns-in-Done-clause-fault
returns-in-Done-clause-fault c = (finishes_here model_machine SpellsModel model_decides Model model 64 c.args.source.now c.args.tokens.now (c.loop-i.i + 1) c.in-Done.whole c.finish_parse.result (advanced model_machine SpellsModel model_decides Model model 64 c.args.source.now c.args.tokens.now c.loop-i.i (state_of c.loop-i.state) (done (model c.in-Done.whole)) c.loop-i-test.true c.loop-i.invariant (ap next_of (sym c.in-Done.is) ∙ c.in_ok-next.ensures ∙ ap (step_on model_machine 64 (go (state_of c.loop-i.state))) c.new-symbol.ensures)) c.finish_parse.ensures.more c.finish_parse.ensures.end).fault

pub returns-in-Wrong-clause-only : goal.returns-in-Wrong-clause-only
returns-in-Wrong-clause-only c = (wrong_here model_machine SpellsModel model_decides Model model 64 c.args.source.now c.args.tokens.now c.loop-i.i (state_of c.loop-i.state) c.loop-i-test.true c.loop-i.invariant (ap next_of (sym c.in-Wrong.is) ∙ c.in_ok-next.ensures ∙ ap (step_on model_machine 64 (go (state_of c.loop-i.state))) c.new-symbol.ensures)).only

pub returns-in-Wrong-clause-fault : goal.returns-in-Wrong-clause-fault
returns-in-Wrong-clause-fault c = (wrong_here model_machine SpellsModel model_decides Model model 64 c.args.source.now c.args.tokens.now c.loop-i.i (state_of c.loop-i.state) c.loop-i-test.true c.loop-i.invariant (ap next_of (sym c.in-Wrong.is) ∙ c.in_ok-next.ensures ∙ ap (step_on model_machine 64 (go (state_of c.loop-i.state))) c.new-symbol.ensures)).fault

pub returns-in-TooDeep-clause-only : goal.returns-in-TooDeep-clause-only
returns-in-TooDeep-clause-only c = (deep_here model_machine SpellsModel model_decides Model model 64 c.args.source.now c.args.tokens.now c.loop-i.i (state_of c.loop-i.state) c.loop-i-test.true c.loop-i.invariant (ap next_of (sym c.in-TooDeep.is) ∙ c.in_ok-next.ensures ∙ ap (step_on model_machine 64 (go (state_of c.loop-i.state))) c.new-symbol.ensures)).only

pub returns-in-TooDeep-clause-fault : goal.returns-in-TooDeep-clause-fault
returns-in-TooDeep-clause-fault c = (deep_here model_machine SpellsModel model_decides Model model 64 c.args.source.now c.args.tokens.now c.loop-i.i (state_of c.loop-i.state) c.loop-i-test.true c.loop-i.invariant (ap next_of (sym c.in-TooDeep.is) ∙ c.in_ok-next.ensures ∙ ap (step_on model_machine 64 (go (state_of c.loop-i.state))) c.new-symbol.ensures)).fault

pub returns-clause-only : goal.returns-clause-only
returns-clause-only c = (cut_here model_machine SpellsModel model_decides Model model 64 c.args.source.now c.args.tokens.now c.loop-i.i (state_of c.loop-i.state) c.loop-i-test.false c.loop-i.invariant).only

pub returns-clause-fault : goal.returns-clause-fault
returns-clause-fault c = (cut_here model_machine SpellsModel model_decides Model model 64 c.args.source.now c.args.tokens.now c.loop-i.i (state_of c.loop-i.state) c.loop-i-test.false c.loop-i.invariant).fault
