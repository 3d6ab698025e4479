-- Copies of lists in which constant expressions are folded.
use Rattle.std.specs.Prelude.{ℕ, List, map}
use Rattle.std.specs.BTreeMap.{BTreeMap}
use denote.Ref.{Bor}
use Rattle.mu_tree.specs.Expression.{factors_of, scaled, signed, terms_of}
use Rattle.mu_tree.specs.declared.expr.Factor.{Factor}
use Rattle.mu_tree.specs.declared.expr.Term.{Term}
use Rattle.mu_unroll.specs.declared.environment.NameDenotation.{NameDenotation}
use Rattle.mu_unroll.specs.ConstantFolding.{IsSameFactors, IsSameTerms}
use Rattle.mu_unroll.specs.VariableTables.{meant_at}

-- what declared names denote
abbrev Table : Type 0
Table = BTreeMap (Bor (List ℕ)) NameDenotation

-- the copied terms have the same sum as the originals
abbrev pub AreFoldedTerms : Table → (copies terms : List Term) → Type 0
AreFoldedTerms declared copies terms =
    IsSameTerms (meant_at declared) (terms_of (map signed copies)) (terms_of (map signed terms))

-- the copied factors have the same product as the originals
abbrev pub AreFoldedFactors : Table → (copies factors : List Factor) → Type 0
AreFoldedFactors declared copies factors =
    IsSameFactors (meant_at declared) (factors_of (map scaled copies))
    (factors_of (map scaled factors))
