-- The conditions of branches, clause by clause.
use Rattle.qss_hand.proofs.Common
use Common.{[], ℕ, ◌+◌, ◌<◌, ◌∙◌, ◌∷◌, ◌≡◌, ap, arith, BranchInfo, ClauseInfo, flat_map, get_or}
use Common.{length, length-map, List, map, pos, suc, sum_by-cons, take, zero}
use Rattle.std.proofs.Common.{◌-◌}
use Rattle.std.proofs.lemmas.List.{get_or-map, get_or_append_left, get_or-append_right}
use Rattle.std.specs.List.{sum_by}
use Rattle.qss_machine.specs.declared.machine_parts.Condition.{Condition}
use Rattle.qss_machine.specs.declared.machine_parts.Rel.TheVariants.{Less}

abbrev pub width_of : ClauseInfo → ℕ
width_of clause = length clause.branches

abbrev pub conditions_of : ClauseInfo → List Condition
conditions_of clause = map (λ (b : BranchInfo). b.condition) clause.branches

-- the default past the end of branches
abbrev pub no_branch : BranchInfo
no_branch = record { condition = record { form = record { entries = []; time = pos 0; gamma = pos 0 }; rel = Less }; actions = [] }

-- a condition by its clause and branch
pub condition_by : (clauses : List ClauseInfo) (i b : ℕ) (d : ClauseInfo) (db : BranchInfo) (dc : Condition) → i < length clauses → b < width_of (get_or clauses i d) →
    get_or (flat_map conditions_of clauses) (sum_by width_of (take i clauses) + b) dc ≡ (get_or (get_or clauses i d).branches b db).condition
condition_by [] i b d db dc h k = absurd (omega (arith, h))
condition_by (c ∷ cs) zero b d db dc h k =
    let e : 0 + b ≡ b = omega arith in
    let many = length-map c.branches (λ (x : BranchInfo). x.condition) in
    ap (λ n. get_or (flat_map conditions_of (c ∷ cs)) n dc) e
    ∙ get_or_append_left (conditions_of c) (flat_map conditions_of cs) dc b (omega (arith, k, many))
    ∙ get_or-map (λ (x : BranchInfo). x.condition) c.branches b db dc k
condition_by (c ∷ cs) (suc i) b d db dc h k =
    let many = length-map c.branches (λ (x : BranchInfo). x.condition) in
    let place : sum_by width_of (take (suc i) (c ∷ cs)) + b ≡ width_of c + (sum_by width_of (take i cs) + b) = omega (arith, sum_by-cons width_of c (take i cs)) in
    let past : (width_of c + (sum_by width_of (take i cs) + b)) - width_of c ≡ sum_by width_of (take i cs) + b = omega arith in
    ap (λ n. get_or (flat_map conditions_of (c ∷ cs)) n dc) place
    ∙ get_or-append_right (conditions_of c) (flat_map conditions_of cs) (width_of c) (width_of c + (sum_by width_of (take i cs) + b)) dc many (omega arith)
    ∙ ap (λ n. get_or (flat_map conditions_of cs) n dc) past
    ∙ condition_by cs i b d db dc (omega (arith, h)) k
