-- Constant folding of equations, statements, branches and clauses.
use Rattle.mu_unroll.proofs.Common
use Common.{[], ℕ, ◌++◌, ◌+◌, ◌<◌, ◌∙◌, ◌∷◌, ◌≡◌, ap, bind_result, Branch, branch, BranchTree}
use Common.{constant_of, Expression, false, FlatAction, FlatBranchTree, FlatExpression, flattened}
use Common.{Fraction, get_or, in_order, in_rounds, is_some, IsSameBranches, IsSameConstant}
use Common.{IsSameExpression, IsSameStatements, IsSameStep, length, List, LoopVar, map, meant_in}
use Common.{NameDenotation, node_count, None, Ok, Option, Progress, progress, range, refl, Result}
use Common.{Some, statements_of, Step, sym, take, true, unrolled_branch, unrolled_branches}
use Common.{unrolled_statements, UnrollErr, with_item, with_more}
use Rattle.mu_tree.specs.ModelTree.{Condition}
use Rattle.mu_unroll.specs.ConstantFolding.{IsSameBranch}
use Rattle.mu_unroll.proofs.Folding.{IsSequence, bind_same, copy_pushed, loop_same}

-- a name that is no constant
none_of : (o : Option Fraction) → is_some o ≡ false → o ≡ None
none_of None h = refl
none_of (Some a) h = absurd (let wrong : true ≡ false = h in cc)

-- the items of a list in order
ordered : {T X : Type 0} (one : T → Step X) (declared : List ℕ → NameDenotation)
    → IsSequence (λ x. one x declared) (λ xs. in_order one xs declared)
ordered {T} {X} one declared = record { none = λ loops p. refl; more = λ x xs loops p. refl }

pub items_pushed : {T X : Type 0} (one : T → Step X) (declared : List ℕ → NameDenotation)
    (before new : List T) (copy : T) (items : List T) (i : ℕ) (item : T)
    → new ≡ before ++ copy ∷ [] → i < length items → item ≡ get_or items i item
    → IsSameStep declared (in_order one before declared) (in_order one (take i items) declared)
    → IsSameStep declared (one copy declared) (one item declared)
    → IsSameStep declared (in_order one new declared) (in_order one (take (i + 1) items) declared)
items_pushed {T} {X} one declared =
    copy_pushed (λ x. one x declared) (λ xs. in_order one xs declared) (ordered one declared)
    declared

-- a loop with equal bounds over equal items
pub loop_folded : {T X : Type 0} (one : T → Step X) (declared : List ℕ → NameDenotation)
    (copied item : T) (copy var : List ℕ) (at : ℕ) (f t g u : Expression) (new body : List T)
    → ((loops : List LoopVar) (p : Progress X)
    → one copied declared loops p ≡ in_rounds one (range copy at f t) new declared loops p)
    → ((loops : List LoopVar) (p : Progress X)
    → one item declared loops p ≡ in_rounds one (range var at g u) body declared loops p)
    → copy ≡ var → is_some (constant_of (declared var)) ≡ false
    → IsSameConstant declared f g → IsSameConstant declared t u
    → IsSameStep declared (in_order one new declared) (in_order one body declared)
    → IsSameStep declared (one copied declared) (one item declared)
loop_folded {T} {X} one declared copied item copy var at f t g u new body copies is named none from
    to same =
    let rounds : IsSameStep declared (in_rounds one (range var at f t) new declared)
    (in_rounds one (range var at g u) body declared) =
    loop_same declared var at f t g u (in_order one new declared) (in_order one body declared)
    (none_of (constant_of (declared var)) none) from to same in
    record {
      in_loops = λ loops h p.
          copies loops p
          ∙ ap (λ w. in_rounds one (range w at f t) new declared loops p) named
          ∙ rounds.in_loops loops h p ∙ sym (is loops p);
    }

-- branches in order
branch_sequence : (declared : List ℕ → NameDenotation)
    → IsSequence {T = Branch} {X = FlatBranchTree}
    (λ x loops p. unrolled_branch declared loops (branch x) p)
    (λ xs loops p. unrolled_branches declared loops (map branch xs) p)
branch_sequence declared = record { none = λ loops p. refl; more = λ x xs loops p. refl }

pub branches_pushed : (declared : List ℕ → NameDenotation) (before new : List Branch) (copy :
    Branch)
    (items : List Branch) (i : ℕ) (item : Branch) → new ≡ before ++ copy ∷ [] → i < length items
    → item ≡ get_or items i item
    → IsSameBranches declared (map branch before) (map branch (take i items))
    → IsSameBranch declared (branch copy) (branch item)
    → IsSameBranches declared (map branch new) (map branch (take (i + 1) items))
branches_pushed declared =
    copy_pushed (λ x loops p. unrolled_branch declared loops (branch x) p)
    (λ xs loops p. unrolled_branches declared loops (map branch xs) p) (branch_sequence declared)
    declared

-- a branch with this condition and these statements
abbrev branch_of : (List ℕ → NameDenotation) → Condition
    → (Progress FlatAction → Result (Progress FlatAction) UnrollErr) → Progress FlatBranchTree
    → Result (Progress FlatBranchTree) UnrollErr
branch_of known k run p =
    bind_result (with_item p.counts (node_count k.left + node_count k.right)) (λ c.
    bind_result (flattened true known k.left) (λ l.
    bind_result (flattened true known k.right) (λ r.
    bind_result (run (progress [] c)) (λ q.
    Ok (with_more p q.counts (record {
      left = l;
      rel = k.rel;
      right = r;
      at = k.at;
      body = q.done;
    }))))))

-- the last step of a branch
abbrev branch_end : Progress FlatBranchTree → Condition → FlatExpression → FlatExpression
    → Progress FlatAction → Result (Progress FlatBranchTree) UnrollErr
branch_end p k l r q =
    Ok (with_more p q.counts (record {
      left = l;
      rel = k.rel;
      right = r;
      at = k.at;
      body = q.done;
    }))

branch_of_same : (known : List ℕ → NameDenotation) (k : Condition)
    (run other : Progress FlatAction → Result (Progress FlatAction) UnrollErr)
    (p : Progress FlatBranchTree) → ((q : Progress FlatAction) → run q ≡ other q)
    → branch_of known k run p ≡ branch_of known k other p
branch_of_same known k run other p same =
    bind_same (with_item p.counts (node_count k.left + node_count k.right)) _ _ (λ c.
    bind_same (flattened true known k.left) _ _ (λ l.
    bind_same (flattened true known k.right) _ _ (λ r.
    ap (λ x. bind_result x (branch_end p k l r)) (same (progress [] c)))))

pub branch_same : (declared : List ℕ → NameDenotation) (b d : BranchTree)
    → IsSameExpression declared b.condition.left d.condition.left
    → IsSameExpression declared b.condition.right d.condition.right
    → b.condition.rel ≡ d.condition.rel → b.condition.at ≡ d.condition.at
    → IsSameStatements declared (statements_of b.body) (statements_of d.body)
    → IsSameBranch declared b d
branch_same declared b d left right rel at body = record {
  in_loops = λ loops h p.
      rw (left.nodes, right.nodes, left.in_loops loops h true, right.in_loops loops h true, rel, at)
      (branch_of_same (meant_in loops declared) d.condition
      (λ q. unrolled_statements declared loops (statements_of b.body) q)
      (λ q. unrolled_statements declared loops (statements_of d.body) q) p
      (λ q. body.in_loops loops h q));
}
