-- The logical view of the parser's tokens.
use Rattle.mu_grammar.specs.declared.symbol.Symbol.{Symbol}
use Rattle.mu_grammar.specs.declared.symbol.Symbol.TheVariants as symbols
use Rattle.mu_grammar.specs.Grammar as grammar

-- the token without the address of its text in memory
abbrev pub symbol_view : Symbol → grammar.Symbol
symbol_view (symbols.Number text at) = grammar.number text.now at
symbol_view (symbols.Name text at) = grammar.name text.now at
symbol_view (symbols.Quoted at) = grammar.quoted at
symbol_view (symbols.Word w at) = grammar.word w at
symbol_view (symbols.Mark m at) = grammar.mark m at
