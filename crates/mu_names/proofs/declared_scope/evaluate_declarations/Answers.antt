use Rattle.mu_names.proofs.Common
use Common.{[], ◌++◌, ◌+◌, ◌∙◌, ◌∷◌, ◌≡◌, all_valued, ap, append_assoc, constants_after}
use Common.{constants_with, Declaration, declaration, declarations_faults, drop, entry_at, least_of}
use Common.{map, meaning_after, name_kind_at, sym}
use Rattle.mu_names.specs.DeclarationFaults.{declaration_faults, valued}
use Rattle.mu_names.proofs.LeastLemmas.{noted_first}
use Rattle.mu_names.proofs.Shapes.{declarations_from}
use Rattle.mu_names.proofs.declared_scope.evaluate_declarations.Goals as goal

pub loop-d-preserved : goal.loop-d-preserved
loop-d-preserved c =
    let declared = name_kind_at c.args.declared.now in
    let before = entry_at c.loop-d.constants in
    let now = entry_at c.evaluate_and_declare.new.constants in
    let d = c.d-item.result in
    let one : Declaration = declaration d in
    let left = map declaration (drop (c.loop-d.d-index + 1) c.args.decls.now) in
    let rest : map declaration (drop c.loop-d.d-index c.args.decls.now) ≡ one ∷ left = declarations_from c.args.decls.now c.loop-d.d-index d c.loop-d-test.true c.d-item.is in
    let with : now ≡ constants_with (meaning_after before declared) before one = c.in_ok-evaluate_and_declare.ensures.constants in
    record {
      values = ap (λ xs. xs ++ all_valued declared now left) c.in_ok-push.ensures.items
          ∙ append_assoc c.loop-d.all.items (c.in_ok-evaluate_and_declare.field-0 ∷ []) (all_valued declared now left)
          ∙ ap (λ v. c.loop-d.all.items ++ v ∷ all_valued declared now left) c.in_ok-evaluate_and_declare.ensures.value
          ∙ ap (λ k. c.loop-d.all.items ++ valued (meaning_after before declared) one ∷ all_valued declared k left) with
          ∙ sym (ap (λ ds. c.loop-d.all.items ++ all_valued declared before ds) rest)
          ∙ c.loop-d.invariant.values;
      constants = ap (λ k. constants_after declared k left) with ∙ sym (ap (constants_after declared before) rest) ∙ c.loop-d.invariant.constants;
      faults = ap (λ k. least_of c.evaluate_and_declare.new.least (declarations_faults declared k left)) with
          ∙ noted_first _ _
          (declaration_faults (meaning_after before declared) one)
          (declarations_faults declared (constants_with (meaning_after before declared) before one) left)
          (declarations_faults declared before (map declaration (drop c.loop-d.d-index c.args.decls.now)))
          c.in_ok-evaluate_and_declare.ensures.faults
          (ap (declarations_faults declared before) rest)
          ∙ c.loop-d.invariant.faults;
    }
