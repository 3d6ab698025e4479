-- The source of the example `decay`, by evaluation.
use Rattle.std.proofs.Common.{◌≡◌, ℕ, true, false, List, [], ◌∷◌, refl, Some, None}
use Rattle.std.specs.Prelude.{codes}
use Rattle.mu_num.specs.Fraction.{whole, lowest, least_denominator, least_multiplier}
use Rattle.mu_num.specs.Decimal.{decimal_value, scaled_value, is_in_range, zeros_at_end}
use Rattle.mu_lexer.specs.declared.token.Kind.TheVariants.{Number as number, Ident, Word, Mark}
use Rattle.mu_lexer.specs.declared.token.Kind.{Kind}
use Rattle.mu_lexer.specs.declared.token.Token.{Token}
use Rattle.mu_lexer.specs.Tokens.{AreTokens}
use Rattle.mu_tree.specs.Expression.{Number, Variable, Whole, Sum, Product, no_terms, term}
use Rattle.mu_tree.specs.Expression.{no_factors, factor}
use Rattle.mu_tree.specs.ModelTree.{ModelTree, Derivative}
use Rattle.mu_grammar.specs.Symbols.{symbols}
use Rattle.mu_grammar.specs.ModelGrammar.{SpellsModel}
use Rattle.mu_grammar.proofs.ModelDecides.{model_decides}
use Rattle.qss_compile.specs.Phases.{AreFaultless, UnrollsTo}
use Rattle.qss_compile.specs.Compilation.{IsFlatOf, CompilesTo}
use Rattle.qss_instance.proofs.Decay.{machine}
use Rattle.qss_instance.proofs.Flat.{flat, flat_settings, flat_compiles}
use Rattle.qss_instance.specs.DecayInstance.{decay_source}
use Rattle.qss_instance.proofs.Lexing.{tokens_in, read_in}
use Rattle.mu_lexer.specs.declared.token.Word.TheVariants as words
use Rattle.mu_lexer.specs.declared.token.Mark.TheVariants as marks
use Rattle.mu_tree.specs.declared.tree.Prefix.TheVariants as prefixes
use Rattle.mu_tree.specs.declared.tree.SettingName.TheVariants as settings

-- the lengths of the tokens, with 0 for each blank
abbrev items : List ℕ
items = 5 ∷ 0 ∷ 5 ∷ 0 ∷ 4 ∷ 0 ∷ 1 ∷ 1 ∷ 5 ∷ 0 ∷ 1 ∷ 0 ∷ 2 ∷ 1 ∷ 1 ∷ 0 ∷ 8 ∷ 0 ∷ 3 ∷ 1 ∷ 1 ∷ 1 ∷ 0 ∷
    1 ∷ 0 ∷ 1 ∷ 1 ∷ 1 ∷ 1 ∷ 1 ∷ 0 ∷ 10 ∷ 1 ∷ 10 ∷ 1 ∷ 8 ∷ 0 ∷ 1 ∷ 0 ∷ 1 ∷ 1 ∷ 0 ∷ 12 ∷ 0 ∷ 1 ∷ 0 ∷ 1
    ∷ 1 ∷ 0 ∷ 12 ∷ 0 ∷ 1 ∷ 0 ∷ 1 ∷ 1 ∷ 0 ∷ 13 ∷ 0 ∷ 1 ∷ 0 ∷ 1 ∷ 1 ∷ 0 ∷ 11 ∷ 0 ∷ 1 ∷ 0 ∷ 1 ∷ 1 ∷ 1 ∷
    1 ∷ 0 ∷ 3 ∷ 0 ∷ 5 ∷ 1 ∷ 0 ∷ []

abbrev at : Kind → ℕ → ℕ → Token
at kind start end = record { kind = kind; start = start; end = end }

abbrev tokens : List Token
tokens =
    at (Word words.Model) 0 5
    ∷ at Ident 6 11
    ∷ at (Word words.RealType) 12 16
    ∷ at Ident 17 18
    ∷ at (Mark marks.OpenRound) 18 19
    ∷ at Ident 19 24
    ∷ at (Mark marks.Equal) 25 26
    ∷ at number 27 29
    ∷ at (Mark marks.CloseRound) 29 30
    ∷ at (Mark marks.Semicolon) 30 31
    ∷ at (Word words.Equation) 32 40
    ∷ at (Word words.Der) 41 44
    ∷ at (Mark marks.OpenRound) 44 45
    ∷ at Ident 45 46
    ∷ at (Mark marks.CloseRound) 46 47
    ∷ at (Mark marks.Equal) 48 49
    ∷ at (Mark marks.Minus) 50 51
    ∷ at number 51 52
    ∷ at (Mark marks.Times) 52 53
    ∷ at Ident 53 54
    ∷ at (Mark marks.Semicolon) 54 55
    ∷ at (Word words.Annotation) 56 66
    ∷ at (Mark marks.OpenRound) 66 67
    ∷ at Ident 67 77
    ∷ at (Mark marks.OpenRound) 77 78
    ∷ at Ident 78 86
    ∷ at (Mark marks.Equal) 87 88
    ∷ at number 89 90
    ∷ at (Mark marks.Comma) 90 91
    ∷ at Ident 92 104
    ∷ at (Mark marks.Equal) 105 106
    ∷ at number 107 108
    ∷ at (Mark marks.Comma) 108 109
    ∷ at Ident 110 122
    ∷ at (Mark marks.Equal) 123 124
    ∷ at number 125 126
    ∷ at (Mark marks.Comma) 126 127
    ∷ at Ident 128 141
    ∷ at (Mark marks.Equal) 142 143
    ∷ at number 144 145
    ∷ at (Mark marks.Comma) 145 146
    ∷ at Ident 147 158
    ∷ at (Mark marks.Equal) 159 160
    ∷ at number 161 162
    ∷ at (Mark marks.CloseRound) 162 163
    ∷ at (Mark marks.CloseRound) 163 164
    ∷ at (Mark marks.Semicolon) 164 165
    ∷ at (Word words.End) 166 169
    ∷ at Ident 170 175
    ∷ at (Mark marks.Semicolon) 175 176
    ∷ []

lexed : tokens_in items 0 decay_source ≡ Some tokens
lexed = refl

are_tokens : AreTokens decay_source tokens
are_tokens = read_in items 0 decay_source tokens lexed

abbrev tree : ModelTree
tree = record {
  name = codes "decay";
  end_name = codes "decay";
  end_at = 170;
  decls = record {
    prefix = prefixes.Plain;
    whole = false;
    name = codes "x";
    size = None;
    start =
        Some (Number (codes "64") 27);
    value = None;
    quantum = None;
    at = 17;
  } ∷ [];
  starts = [];
  equations = Derivative (Whole (codes "x") 45)
      (Sum (term true 50 (Product (factor false 51 (Number (codes "1") 51)
      (factor false 52 (Variable (Whole (codes "x") 53)) no_factors))) no_terms)) ∷ [];
  clauses = [];
  settings =
      record { which = settings.StopTime; value = Number (codes "1") 89; at = 78 }
      ∷ record { which = settings.CoefBits; value = Number (codes "8") 107; at = 92 }
      ∷ record { which = settings.TickBits; value = Number (codes "4") 125; at = 110 }
      ∷ record { which = settings.LevelBits; value = Number (codes "0") 144; at = 128 }
      ∷ record { which = settings.Quantum; value = Number (codes "4") 161; at = 147 }
      ∷ [];
}

spelled : SpellsModel 64 (symbols decay_source tokens) tree
spelled = model_decides.accepted 64 (symbols decay_source tokens) tree refl

faultless : AreFaultless tree
unfolding decimal_value scaled_value is_in_range zeros_at_end lowest least_denominator
    least_multiplier
faultless = refl

unrolls : UnrollsTo tree flat
unfolding decimal_value scaled_value is_in_range zeros_at_end lowest least_denominator
    least_multiplier
unrolls = refl

flat_is : IsFlatOf tree (record { flat = flat; settings = flat_settings })
unfolding decimal_value scaled_value is_in_range zeros_at_end lowest least_denominator
    least_multiplier
flat_is = (faultless, unrolls, refl)

pub compiles : CompilesTo decay_source machine
compiles = (
  tree,
  (tokens, are_tokens, spelled),
  (record { flat = flat; settings = flat_settings }, flat_is, flat_compiles),
)
