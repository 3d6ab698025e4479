-- Models that the grammar accepts, as a check of its definitions.
use Rattle.mu_grammar.proofs.Common
use Common.{[], ℕ, ◌∷◌, a_string, arith, balanced_end, balanced_nested, balanced_token, Branches}
use Common.{clause_then, codes, compare, compared, Derivative, EachClause, Expression, false}
use Common.{import_end, import_token, IsMods, IsSum, last_one, List, listed_end, listed_then, mark}
use Common.{model_of, name, no_clauses, no_more, no_string, None, Number, number, one_more}
use Common.{one_then, Option, quoted, range, refl, Restart, sections, skipped, skipped_nested, Some}
use Common.{some_inside, SpellsModel, Symbol, Variable, Whole, word}
use Rattle.mu_grammar.specs.Grammar.{unsigned, last_term, product, last_factor, literal, whole}
use Rattle.mu_lexer.specs.declared.token.Word.TheVariants as words
use Rattle.mu_lexer.specs.declared.token.Mark.TheVariants as marks
use Rattle.mu_tree.specs.declared.tree.Prefix.TheVariants as prefixes
use Rattle.mu_tree.specs.declared.tree.SettingName.TheVariants as settings
use Rattle.mu_tree.specs.declared.tree.Rel.TheVariants as rels
use Rattle.mu_grammar.specs.Grammar as grammar
use Rattle.mu_grammar.specs.DeclarationGrammar as declarations
use Rattle.mu_grammar.specs.Loops as loops
use Rattle.mu_grammar.specs.Bodies as bodies
use Rattle.mu_grammar.specs.ModelGrammar as models

-- a number alone
number_alone : {limit d at : ℕ} {digits : List ℕ} {rest : List Symbol} → IsSum limit d (number digits at ∷ rest) rest (Number digits at)
number_alone = unsigned (product (grammar.plain literal) last_factor) last_term

-- a name alone
name_alone : {limit d at : ℕ} {n : List ℕ} {rest : List Symbol} → IsSum limit d (name n at ∷ rest) rest (Variable (Whole n at))
name_alone = unsigned (product (grammar.plain (grammar.variable whole)) last_factor) last_term

-- of two starts the second one stands, and after the word each another one may begin an item that is read over
last_start : IsMods 1 (mark marks.OpenRound 0 ∷ name (codes "start") 1 ∷ mark marks.Equal 2 ∷ number (codes "1") 3 ∷ mark marks.Comma 4 ∷ word words.Each 5 ∷ name (codes "start") 6 ∷ mark marks.Equal 7 ∷ number (codes "2") 8 ∷ mark marks.Comma 9 ∷ word words.Each 10 ∷ word words.Each 11 ∷ name (codes "a") 12 ∷ mark marks.CloseRound 13 ∷ []) [] (Some (Number (codes "2") 8))
last_start = declarations.mods (omega arith) (one_then (declarations.bare (declarations.start refl number_alone)) (one_then (declarations.each (declarations.start refl number_alone)) (last_one (declarations.each (declarations.other_mod (skipped refl refl (balanced_token refl balanced_end)))))))

-- model a import b ; Real x ( start = 1 ) ; equation der ( x ) = x " " ; annotation ( experiment ( StopTime = 1 ) , experiment ; end { , } ) ; end c ;
small : SpellsModel 2
    (word words.Model 0 ∷ name (codes "a") 1 ∷ word words.Import 2 ∷ name (codes "b") 3 ∷ mark marks.Semicolon 4
    ∷ word words.RealType 5 ∷ name (codes "x") 6 ∷ mark marks.OpenRound 7 ∷ name (codes "start") 8 ∷ mark marks.Equal 9 ∷ number (codes "1") 10 ∷ mark marks.CloseRound 11 ∷ mark marks.Semicolon 12
    ∷ word words.Equation 13 ∷ word words.Der 14 ∷ mark marks.OpenRound 15 ∷ name (codes "x") 16 ∷ mark marks.CloseRound 17 ∷ mark marks.Equal 18 ∷ name (codes "x") 19 ∷ quoted 20 ∷ mark marks.Semicolon 21
    ∷ word words.Annotation 22 ∷ mark marks.OpenRound 23 ∷ name (codes "experiment") 24 ∷ mark marks.OpenRound 25 ∷ name (codes "StopTime") 26 ∷ mark marks.Equal 27 ∷ number (codes "1") 28 ∷ mark marks.CloseRound 29
    ∷ mark marks.Comma 30 ∷ name (codes "experiment") 31 ∷ mark marks.Semicolon 32 ∷ word words.End 33 ∷ mark marks.OpenCurly 34 ∷ mark marks.Comma 35 ∷ mark marks.CloseCurly 36 ∷ mark marks.CloseRound 37 ∷ mark marks.Semicolon 38
    ∷ word words.End 39 ∷ name (codes "c") 40 ∷ mark marks.Semicolon 41 ∷ [])
    (model_of (codes "a") (codes "c") 40
    (record { prefix = prefixes.Plain; whole = false; name = codes "x"; size = None; start = Some (Number (codes "1") 10); value = None; quantum = None; at = 6 } ∷ [])
    (sections [] (Derivative (Whole (codes "x") 16) (Variable (Whole (codes "x") 19)) ∷ []) [])
    (record { which = settings.StopTime; value = Number (codes "1") 28; at = 26 } ∷ []))
small = models.model no_string
    (one_more (models.import_line (import_token refl import_end))
    (one_more (models.declaration (declarations.declares declarations.plain (last_one (declarations.component declarations.no_size (declarations.mods (omega arith) (last_one (declarations.bare (declarations.start refl number_alone)))) declarations.no_value no_string declarations.no_annotation)))) no_more))
    (one_more (models.equations (one_more (models.adds_equation (loops.bare (bodies.derivative (omega arith) whole name_alone a_string))) no_more)) no_more)
    (declarations.annotation (omega arith) (some_inside (one_then (declarations.first_experiment refl (declarations.experiment refl (omega arith) (some_inside (last_one (declarations.set refl number_alone)))))
    (last_one (declarations.other_arg (skipped refl refl (balanced_token refl (balanced_token refl (balanced_nested refl (omega arith) (balanced_token refl balanced_end) balanced_end)))))))))

-- model a algorithm for i in 1 : 2 loop when x < i then reinit ( x , 1 ) ; end when ; end for ; end a ;
looped : SpellsModel 3
    (word words.Model 0 ∷ name (codes "a") 1 ∷ word words.Algorithm 2 ∷ word words.For 3 ∷ name (codes "i") 4 ∷ word words.In 5 ∷ number (codes "1") 6 ∷ mark marks.Colon 7 ∷ number (codes "2") 8 ∷ word words.Loop 9
    ∷ word words.When 10 ∷ name (codes "x") 11 ∷ mark marks.Less 12 ∷ name (codes "i") 13 ∷ word words.Then 14 ∷ word words.Reinit 15 ∷ mark marks.OpenRound 16 ∷ name (codes "x") 17 ∷ mark marks.Comma 18 ∷ number (codes "1") 19 ∷ mark marks.CloseRound 20 ∷ mark marks.Semicolon 21
    ∷ word words.End 22 ∷ word words.When 23 ∷ mark marks.Semicolon 24 ∷ word words.End 25 ∷ word words.For 26 ∷ mark marks.Semicolon 27 ∷ word words.End 28 ∷ name (codes "a") 29 ∷ mark marks.Semicolon 30 ∷ [])
    (model_of (codes "a") (codes "a") 29 []
    (sections [] [] (EachClause (range (codes "i") 4 (Number (codes "1") 6) (Number (codes "2") 8))
    (clause_then (Branches (bodies.branch (compared (Variable (Whole (codes "x") 11)) rels.Less (Variable (Whole (codes "i") 13)) 12) (Restart (Whole (codes "x") 17) (Number (codes "1") 19) ∷ []) ∷ [])) no_clauses) ∷ [])) [])
looped = models.model no_string no_more
    (one_more (models.clauses (one_more (models.adds_clause (loops.loop (omega arith) (loops.in_range number_alone number_alone)
    (loops.item_then (loops.bare (bodies.when (omega arith) (bodies.last_branch (compare name_alone refl name_alone) (listed_then (loops.bare (bodies.restart refl (omega arith) whole number_alone)) listed_end)))) loops.no_items))) no_more)) no_more)
    declarations.no_settings

-- the word each alone is no modification
each_alone : {limit i j : ℕ} {s t : Option Expression} {ts rest : List Symbol} → declarations.IsMod limit s (word words.Each i ∷ mark marks.CloseRound j ∷ ts) rest t → ⊥
each_alone (declarations.bare (declarations.other_mod (skipped begins stands rest))) = cc
each_alone (declarations.each (declarations.start is sum)) = cc
each_alone (declarations.each (declarations.other_mod (skipped begins stands rest))) = cc
each_alone (declarations.each (declarations.other_mod (skipped_nested closes less inner rest))) = cc

-- the name start alone is none
start_alone : {limit i j : ℕ} {s t : Option Expression} {ts rest : List Symbol} → declarations.IsMod limit s (name (codes "start") i ∷ mark marks.CloseRound j ∷ ts) rest t → ⊥
start_alone (declarations.bare (declarations.other_mod (skipped begins stands rest))) = cc
