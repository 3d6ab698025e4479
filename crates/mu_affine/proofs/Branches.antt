-- Branches and clauses, field by field.
use Rattle.mu_affine.proofs.Common
use Common.{ℕ, ◌+◌, ◌∙◌, ◌≡◌, actions_of, ap, branch_forms, branch_of, BranchInfo, clause_of}
use Common.{ClauseInfo, ExactForm, FlatBranchTree, form_at, List, placed, rounded_form}
use Rattle.qss_machine.specs.declared.machine_parts.Rel.{Rel}
use Rattle.qss_machine.specs.declared.machine_parts.Form.{Form}
use Rattle.qss_machine.specs.declared.machine_parts.Action.{Action}
use Rattle.mu_affine.specs.FormPlaces.{rel_of}

abbrev branch_with : Form → Rel → List Action → BranchInfo
branch_with form rel actions = record { condition = record { form = form; rel = rel }; actions = actions }

pub branch_made : (p f : ℕ) (forms : List ExactForm) (first : ℕ) (b : FlatBranchTree) (form : Form) (rel : Rel) (actions : List Action) → form ≡ rounded_form p f (form_at forms first) → rel ≡ rel_of b.rel →
    actions ≡ actions_of p f forms (first + 1) b.body → branch_with form rel actions ≡ branch_of p f forms first b
branch_made p f forms first b form rel actions own same body =
    ap (λ (x : Form). branch_with x rel actions) own
    ∙ ap (λ (x : Rel). branch_with (rounded_form p f (form_at forms first)) x actions) same
    ∙ ap (branch_with (rounded_form p f (form_at forms first)) (rel_of b.rel)) body

abbrev clause_with : List BranchInfo → ClauseInfo
clause_with branches = record { branches = branches }

pub clause_made : (p f : ℕ) (forms : List ExactForm) (first : ℕ) (bs : List FlatBranchTree) (branches : List BranchInfo) → branches ≡ placed branch_forms (branch_of p f forms) first bs →
    clause_with branches ≡ clause_of p f forms first bs
clause_made p f forms first bs branches e = ap clause_with e
