-- The clauses of Word::text.
use Rattle.mu_lexer.proofs.Common.{[], ◌∷◌, ◌≡◌, arith, List, refl, sym, Word}
use Rattle.std.proofs.Common.{Contains}
use Rattle.mu_lexer.specs.declared.token.Word.TheVariants as word
use Rattle.mu_lexer.proofs.token.Word.text.Goals as goal

-- the words that the last arm is left with
abbrev reserved : List Word
reserved = word.While ∷ word.Class ∷ word.Function ∷ word.Record ∷ word.Block ∷ word.Package ∷ word.Type ∷ word.Extends ∷ word.Connect ∷ []

pub reserved_text-requires : goal.reserved_text-requires
reserved_text-requires c = left c.args.self refl
  where
    left : (w : Word) → c.args.self ≡ w → Contains reserved c.args.self
    left word.Model is = absurd (c.in_default.not-Model is)
    left word.End is = absurd (c.in_default.not-End is)
    left word.Import is = absurd (c.in_default.not-Import is)
    left word.Parameter is = absurd (c.in_default.not-Parameter is)
    left word.Constant is = absurd (c.in_default.not-Constant is)
    left word.Discrete is = absurd (c.in_default.not-Discrete is)
    left word.RealType is = absurd (c.in_default.not-RealType is)
    left word.IntegerType is = absurd (c.in_default.not-IntegerType is)
    left word.Each is = absurd (c.in_default.not-Each is)
    left word.Annotation is = absurd (c.in_default.not-Annotation is)
    left word.Equation is = absurd (c.in_default.not-Equation is)
    left word.Algorithm is = absurd (c.in_default.not-Algorithm is)
    left word.Initial is = absurd (c.in_default.not-Initial is)
    left word.Der is = absurd (c.in_default.not-Der is)
    left word.When is = absurd (c.in_default.not-When is)
    left word.Elsewhen is = absurd (c.in_default.not-Elsewhen is)
    left word.Then is = absurd (c.in_default.not-Then is)
    left word.For is = absurd (c.in_default.not-For is)
    left word.In is = absurd (c.in_default.not-In is)
    left word.Loop is = absurd (c.in_default.not-Loop is)
    left word.Time is = absurd (c.in_default.not-Time is)
    left word.Pre is = absurd (c.in_default.not-Pre is)
    left word.Reinit is = absurd (c.in_default.not-Reinit is)
    left word.And is = absurd (c.in_default.not-And is)
    left word.Or is = absurd (c.in_default.not-Or is)
    left word.Not is = absurd (c.in_default.not-Not is)
    left word.If is = absurd (c.in_default.not-If is)
    left word.Else is = absurd (c.in_default.not-Else is)
    left word.Elseif is = absurd (c.in_default.not-Elseif is)
    left word.While is = (0, omega arith, sym is)
    left word.Class is = (1, omega arith, sym is)
    left word.Function is = (2, omega arith, sym is)
    left word.Record is = (3, omega arith, sym is)
    left word.Block is = (4, omega arith, sym is)
    left word.Package is = (5, omega arith, sym is)
    left word.Type is = (6, omega arith, sym is)
    left word.Extends is = (7, omega arith, sym is)
    left word.Connect is = (8, omega arith, sym is)
    left word.True is = absurd (c.in_default.not-True is)
    left word.False is = absurd (c.in_default.not-False is)
