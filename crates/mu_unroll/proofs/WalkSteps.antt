-- The steps of the walks through lists of items and through branches.
use Rattle.mu_unroll.proofs.Common
use Common.{[], ℕ, ◌+◌, ◌<◌, ◌∙◌, ◌∷◌, ◌≡◌, ◌≤◌, add-one, ap, bind_result, bounds_of, Branch}
use Common.{branch, BranchTree, Counts, denoted, drop, Environment, Err, FlatAction, FlatBranchTree}
use Common.{FlatExpression, flattened, get_or, in_order, in_rounds, inside, IsFault, length, List}
use Common.{LoopVar, map, meant_at, meant_in, NameDenotation, node_count, Ok, Progress, progress}
use Common.{Range, refl, repeated, Result, Rounds, rounds_from, statements_of, Step, sym, true}
use Common.{unrolled_branch, unrolled_branches, unrolled_statements, UnrollErr, with_item}
use Common.{with_more}
use Rattle.std.proofs.lemmas.List.{drop_all}
use Rattle.std.proofs.Math.Seq.{drop-cons}
use Rattle.mu_names.proofs.Shapes.{branches_from}
use Rattle.mu_unroll.proofs.Faulty.{after, is_fault}
use Rattle.mu_unroll.proofs.Rounding.{loop_begins}
use Rattle.mu_unroll.proofs.Walks.{rounds_left, step_in}

-- the first item that is left, and then the others
pub split : {T X : Type 0} (one : T → Step X) (env : Environment) (xs : List T) (i : ℕ) (x : T)
    (p : Progress X) → i < length xs → x ≡ get_or xs i x
    → step_in (in_order one (drop i xs)) env p ≡ bind_result (step_in (one x) env p)
    (λ q. step_in (in_order one (drop (i + 1) xs)) env q)
split {T} {X} one env xs i x p h e = ap (λ (ys : List T). step_in (in_order one ys) env p) from_place
  where
    from_place : drop i xs ≡ x ∷ drop (i + 1) xs
    from_place = rw (add-one, drop-cons xs i x h, ← e) refl

-- no item is left
pub none : {T X : Type 0} (one : T → Step X) (env : Environment) (xs : List T) (i : ℕ)
    (p : Progress X) → length xs ≤ i → step_in (in_order one (drop i xs)) env p ≡ Ok p
none {T} {X} one env xs i p h =
    ap (λ (ys : List T). step_in (in_order one ys) env p) (drop_all i xs h)

-- the rounds of a loop
pub begins : {T X : Type 0} (one : T → Step X) (env : Environment) (x : T) (range : Range)
    (body : List T) (p : Progress X) (r : Rounds)
    → step_in (one x) env p ≡ step_in (in_rounds one range body) env p
    → Ok r ≡ bounds_of (denoted env) range.at range.from range.to
    → step_in (one x) env p ≡ rounds_left (in_order one body) range.var env r p
begins {T} {X} one env x range body p r law e =
    law
    ∙ loop_begins (denoted env) range
    (λ j q. in_order one body (meant_at env.declared) (inside env.loops.items range.var j) q) p r
    (sym e)

-- a bound has a fault
pub refused : {T X : Type 0} (one : T → Step X) (env : Environment) (x : T) (range : Range)
    (body : List T) (p : Progress X) (f : UnrollErr)
    → step_in (one x) env p ≡ step_in (in_rounds one range body) env p
    → Err f ≡ bounds_of (denoted env) range.at range.from range.to
    → IsFault (step_in (one x) env p) f
refused {T} {X} one env x range body p f law e =
    is_fault (step_in (one x) env p) f
    (law ∙ ap (λ (b : Result Rounds UnrollErr). bind_result b (λ r. repeated
    (λ j q. in_order one body (meant_at env.declared) (inside env.loops.items range.var j) q)
    r.next (rounds_from r.next r.last) p)) (sym e))

abbrev pub branch_step : Branch → Step FlatBranchTree
branch_step x declared loops p = unrolled_branch declared loops (branch x) p

abbrev pub branch_steps : List Branch → Step FlatBranchTree
branch_steps xs declared loops p = unrolled_branches declared loops (map branch xs) p

pub branch_split : (env : Environment) (xs : List Branch) (i : ℕ) (x : Branch)
    (p : Progress FlatBranchTree) → i < length xs → x ≡ get_or xs i x
    → step_in (branch_steps (drop i xs)) env p ≡ bind_result (step_in (branch_step x) env p)
    (λ q. step_in (branch_steps (drop (i + 1) xs)) env q)
branch_split env xs i x p h e =
    ap (λ ts. unrolled_branches (meant_at env.declared) env.loops.items ts p)
    (branches_from xs i x h e)

pub branch_none : (env : Environment) (xs : List Branch) (i : ℕ) (p : Progress FlatBranchTree)
    → length xs ≤ i → step_in (branch_steps (drop i xs)) env p ≡ Ok p
branch_none env xs i p h =
    ap (λ (ys : List Branch). step_in (branch_steps ys) env p) (drop_all i xs h)

-- a branch: its condition is counted, and both sides and the statements are unrolled
pub branch_unrolled : (d : List ℕ → NameDenotation) (ls : List LoopVar) (b : BranchTree)
    (p : Progress FlatBranchTree) (c : Counts) (l r : FlatExpression) (q : Progress FlatAction)
    → with_item p.counts (node_count b.condition.left + node_count b.condition.right) ≡ Ok c
    → flattened true (meant_in ls d) b.condition.left ≡ Ok l
    → flattened true (meant_in ls d) b.condition.right ≡ Ok r
    → unrolled_statements d ls (statements_of b.body) (progress [] c) ≡ Ok q
    → unrolled_branch d ls b p ≡ Ok (with_more p q.counts (record {
      left = l;
      rel = b.condition.rel;
      right = r;
      at = b.condition.at;
      body = q.done;
    }))
branch_unrolled d ls b p c l r q counted left right body =
    let k = b.condition in
    let made : FlatExpression → FlatExpression → Progress FlatAction
    → Result (Progress FlatBranchTree) UnrollErr =
    λ x y z. Ok (with_more p z.counts (record {
      left = x;
      rel = k.rel;
      right = y;
      at = k.at;
      body = z.done;
    })) in
    let run : Counts → Result (Progress FlatAction) UnrollErr =
    λ n. unrolled_statements d ls (statements_of b.body) (progress [] n) in
    after (with_item p.counts (node_count k.left + node_count k.right)) (λ n.
    bind_result (flattened true (meant_in ls d) k.left) (λ x.
    bind_result (flattened true (meant_in ls d) k.right) (λ y.
    bind_result (run n) (λ z. made x y z)))) c counted
    ∙ after (flattened true (meant_in ls d) k.left) (λ x.
    bind_result (flattened true (meant_in ls d) k.right) (λ y.
    bind_result (run c) (λ z. made x y z))) l left
    ∙ after (flattened true (meant_in ls d) k.right) (λ y.
    bind_result (run c) (λ z. made l y z)) r right
    ∙ after (run c) (λ z. made l r z) q body
