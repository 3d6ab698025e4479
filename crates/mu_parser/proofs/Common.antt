-- Names from outside the lemmas of this crate that several of its proofs cite, passed on from one place.
pub use Rattle.std.proofs.Common.{◌+◌, ◌∙◌, ◌≡◌, ap, IfOk, List, refl, sym, take}
pub use Rattle.mu_tree.specs.ModelTree.{Range, statement}
pub use Rattle.mu_grammar.proofs.Follows.{if_ok_map}
pub use Rattle.mu_grammar.specs.BodyMachine.{end_loop}
pub use Rattle.mu_grammar.specs.ModelMachine.{model_machine}
pub use Rattle.mu_grammar.specs.ReaderMachines.{advances, go}
pub use Rattle.mu_grammar.specs.SymbolViews.{symbol_view}
pub use Rattle.mu_parser.specs.ExpressionViews.{frames_of, position_of}
pub use Rattle.mu_parser.specs.SectionViews.{branch_of, effect_of, place_of, state_of}
