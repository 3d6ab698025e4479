-- The end of the innermost loop of a body.
use Rattle.mu_parser.proofs.Common.{◌∙◌, ◌≡◌, ap, effect_of, end_loop, IfOk, List, Range, refl, sym}
use Rattle.std.proofs.Common.{◌∷◌, [], Option, None, Some, Result, Ok, Err}
use Rattle.std.specs.Prelude.{IsOkAnd}
use Rattle.std.specs.Option.{option_map}
use Rattle.mu_tree.specs.ModelTree.{ModelTree}
use Rattle.mu_grammar.specs.Grammar.{Symbol}
use Rattle.mu_parser.specs.declared.section.state.Body.{Body}
use Rattle.mu_parser.specs.declared.section.state.Effect.{Effect}
use Rattle.mu_parser.specs.OpenLoops.{closed}
use Rattle.mu_parser.specs.SectionViews.{body_of}
use Rattle.mu_grammar.specs.ReaderMachines as machines
use Rattle.mu_grammar.specs.States as model

-- no loop is open
pub none_open : {T A : Type 0} (tree : T → A) (each : Range → List A → A)
    (ls all : List (model.Loop A)) (o : Option T)
    → closed each ls ≡ (all, option_map tree o) → o ≡ None → ls ≡ []
none_open tree each [] all o e is = refl
none_open tree each (l ∷ ls) all o e is =
    let i : Some (each l.range l.items) ≡ None = ap (λ p. p.1) e ∙ ap (option_map tree) is in cc

-- what holds after the innermost loop and the loops around it holds after the ended loop
pub one_open : {T A E : Type 0} (tree : T → A) (each : Range → List A → A)
    (ls all : List (model.Loop A)) (o : Option T) (x : T) (before : List (model.Loop A) → E)
    (after : List (model.Loop A) → A → E) → closed each ls ≡ (all, option_map tree o) → o ≡ Some x
    → ((l : model.Loop A) (rest : List (model.Loop A))
    → before (l ∷ rest) ≡ after rest (each l.range l.items))
    → before ls ≡ after all (tree x)
one_open tree each [] all o x before after e is h =
    let i : None ≡ Some (tree x) = ap (λ p. p.1) e ∙ ap (option_map tree) is in cc
one_open tree each (l ∷ ls) all o x before after e is h =
    let i : Some (each l.range l.items) ≡ Some (tree x) =
    ap (λ p. p.1) e ∙ ap (option_map tree) is in
    let v : each l.range l.items ≡ tree x = cc in
    h l ls ∙ ap (after ls) v ∙ ap (λ r. after r (tree x)) (ap (λ p. p.0) e)

-- the effect of the token after a loop
pub after_loop : {F : Type 0} (r : Result Effect F) (made : Result Body F) (b : model.Body)
    (s : Symbol) (w : machines.Effect model.State ModelTree) → IfOk made (λ y. body_of y ≡ b)
    → IfOk r (λ e. IsOkAnd made (λ y. effect_of e ≡ end_loop (body_of y) s)) → w ≡ end_loop b s
    → IfOk r (λ e. effect_of e ≡ w)
after_loop (Err x) made b s w is h k = tt
after_loop (Ok e) (Err x) b s w is h k = absurd h
after_loop (Ok e) (Ok y) b s w is h k = h ∙ ap (λ z. end_loop z s) is ∙ sym k
