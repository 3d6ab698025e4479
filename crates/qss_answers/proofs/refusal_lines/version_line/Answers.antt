-- The line is the text of its format.
use Rattle.qss_answers.proofs.Common.{ℕ, ℤ, ◌∙◌, ◌≡◌, ap, string_bytes, subst}
use Rattle.std.proofs.Common.{Vec, Global}
use Rattle.std.proofs.lemmas.Int.{to_z-of_z}
use mir.Syntax.{w128}
use Rattle.qss_answers.specs.RefusalTexts as Spec
use Rattle.qss_answers.proofs.refusal_lines.version_line.Goals as goal

pub returns : goal.returns
returns c =
    ap (λ (v : Vec ℕ Global). v.items) c.into_bytes.ensures.value
    ∙ subst (λ (z : ℤ). string_bytes c.in_ok-line.line ≡ Spec.version_line c.args.kind.now z)
    (to_z-of_z w128 c.args.got c.ranges.got) c.in_ok-line.ensures.ok
