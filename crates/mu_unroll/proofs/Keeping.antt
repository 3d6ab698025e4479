-- What holds of what was made and counted, kept from item to item.
use Rattle.mu_unroll.proofs.Common
use Common.{[], ℕ, ℤ, ◌+ℤ◌, ◌+◌, ◌<◌, ◌^◌, ◌∷◌, ◌≡◌, ◌≤◌, All, All-nil, arith, assign_to}
use Common.{bind_result, Bool, bounds_of, BranchTree, clause_once, ClauseTrees, Counts, Discrete}
use Common.{Each, equation_for, equation_items, equation_once, EquationTrees, Err, Expression}
use Common.{false, FlatAction, FlatBranchTree, FlatEquationTree, FlatExpression, FlatRole}
use Common.{flattened, FlatVariable, found, HasRole, HasSmallPowers, IfOk, IfSome, if◌then◌else◌}
use Common.{inside, IsFlatClause, IsFlatExpression, item_then, ItemHas, ItemsHave, length}
use Common.{length-append, List, looped, LoopVar, meant_in, NameDenotation, nat_lt, nat_tests}
use Common.{NestTree, NestTrees, no_items, node_count, None, number_of_kind, Ok, One, one_statement}
use Common.{Option, pos, Progress, progress, Range, Reference, refl, repeated, restart_of, Result}
use Common.{Rounds, rounds_from, slice_get, Some, State, statement_items, statement_once}
use Common.{statements_of, StatementTrees, Step, subst, suc, sym, target_role, TooMany, true}
use Common.{unrolled_branch, unrolled_branches, unrolled_clauses, unrolled_equations, unrolled_item}
use Common.{unrolled_items, unrolled_statements, UnrollErr, with_item, with_maybe, with_more}
use Common.{with_round, zero}
use Rattle.mu_unroll.specs.WellFormed.{EquationsHave, BranchHas, BranchesHave, ClausesHave}
use Rattle.mu_unroll.specs.WellFormed.{StatementsHave}
use Rattle.std.proofs.Common.{sum_by}
use Rattle.std.proofs.lemmas.List.Elements.{All-push, All-head, All-tail}
use Rattle.std.proofs.lemmas.List.Sums.{sum_by_push, sum_by-cons}
use Rattle.mu_tree.specs.FlatModels.{IsFlatAction, IsFlatBranch, action_nodes}
use Rattle.mu_unroll.specs.Unrolling.{one_clause}
use Rattle.mu_tree.specs.Nests.{OneEquation, OneStatement}
use Rattle.mu_unroll.proofs.FlatParts.{Flattens, IsFlat, IsFoundIn, expression_flat, found_in}
use Rattle.mu_unroll.proofs.FlatParts.{number_in}
use Rattle.mu_unroll.proofs.Numbering.{AllPoint, points_inside, role_at, roles_of}
use Rattle.mu_unroll.proofs.Stepping.{any_answer, each_then}
use Rattle.mu_tree.specs.Nests as trees
use Rattle.mu_tree.specs.FlatModels as flat

-- one more item: what is counted then, and its limits
pub record IsCounted (c : Counts) (n : ℕ) (d : Counts) : Type 0 where
  pub items : d.items ≡ c.items + 1
  pub nodes : d.nodes ≡ c.nodes + n
  pub item_limit : d.items ≤ 2 ^ 14
  pub node_limit : d.nodes ≤ 2 ^ 20

pub item_counted : (c : Counts) (n : ℕ) → IfOk (with_item c n) (IsCounted c n)
item_counted c n = by_items (nat_lt (2 ^ 14) (c.items + 1)) (nat_lt (2 ^ 20) (c.nodes + n)) refl refl
  where
    by_items : (many large : Bool) → nat_lt (2 ^ 14) (c.items + 1) ≡ many → nat_lt (2 ^ 20) (c.nodes + n) ≡ large
        → IfOk {E = UnrollErr} (if many then Err (TooMany (2 ^ 14 + 1)) else (if large then Err (TooMany (2 ^ 20 + 1)) else Ok (record { items = c.items + 1; rounds = c.rounds; nodes = c.nodes + n }))) (IsCounted c n)
    by_items true large a b = tt
    by_items false true a b = tt
    by_items false false a b = record { items = refl; nodes = refl; item_limit = grind (arith, nat_tests); node_limit = grind (arith, nat_tests) }

-- one more round counts no item
pub record IsSameCount (c d : Counts) : Type 0 where
  pub items : d.items ≡ c.items
  pub nodes : d.nodes ≡ c.nodes

round_counted : (c : Counts) → IfOk (with_round c) (IsSameCount c)
round_counted c = by_rounds (nat_lt (2 ^ 16) (c.rounds + 1))
  where
    by_rounds : (many : Bool) → IfOk {E = UnrollErr} (if many then Err (TooMany (2 ^ 16 + 1)) else Ok (record { items = c.items; rounds = c.rounds + 1; nodes = c.nodes })) (IsSameCount c)
    by_rounds true = tt
    by_rounds false = record { items = refl; nodes = refl }

-- what holds whatever the rounds are
abbrev pub IsOfCounts : {X : Type 0} → (Progress X → Type 0) → Type 0
IsOfCounts {X} I = (p : Progress X) (d : Counts) → I p → IsSameCount p.counts d → I (progress p.done d)

repeated_keeps : {X : Type 0} (I : Progress X → Type 0) (once : ℤ → Progress X → Result (Progress X) UnrollErr) → IsOfCounts I → ((i : ℤ) (p : Progress X) → I p → IfOk (once i p) I)
    → (i : ℤ) (rounds : ℕ) (p : Progress X) → I p → IfOk (repeated once i rounds p) I
repeated_keeps {X} I once same step i zero p h = h
repeated_keeps {X} I once same step i (suc more) p h =
    each_then (IsSameCount p.counts) I (with_round p.counts) (λ c. bind_result (once i (progress p.done c)) (λ q. repeated once (i +ℤ pos 1) more q)) (round_counted p.counts) (λ d e.
    each_then I I (once i (progress p.done d)) (λ q. repeated once (i +ℤ pos 1) more q) (step i (progress p.done d) (same p d h e)) (λ q hq.
    repeated_keeps I once same step (i +ℤ pos 1) more q hq))

-- a loop keeps what its rounds keep
pub loop_keeps : {X : Type 0} (I : Progress X → Type 0) (known : List ℕ → NameDenotation) (range : Range) (once : ℤ → Progress X → Result (Progress X) UnrollErr) → IsOfCounts I → ((i : ℤ) (p : Progress X) → I p → IfOk (once i p) I)
    → (p : Progress X) → I p → IfOk (looped known range once p) I
loop_keeps {X} I known range once same step p h =
    each_then (λ (_ : Rounds). Unit {0}) I (bounds_of known range.at range.from range.to) (λ r. repeated once r.next (rounds_from r.next r.last) p) (any_answer (bounds_of known range.at range.from range.to))
    (λ r _. repeated_keeps I once same step r.next (rounds_from r.next r.last) p h)

-- items keep what an item that is no loop keeps
module _ {L X : Type 0} (I : Progress X → Type 0) (P : L → Type 0) (one : L → Step X) (declared : List ℕ → NameDenotation) (same : IsOfCounts I)
    (keeps : (loops : List LoopVar) (l : L) → P l → (p : Progress X) → I p → IfOk (one l declared loops p) I) where
  mutual
    item_keeps : (loops : List LoopVar) (x : NestTree L) → ItemHas P x → (p : Progress X) → I p → IfOk (unrolled_item one x declared loops p) I
    item_keeps loops (One l) s p h = keeps loops l s p h
    item_keeps loops (Each range body) s p h =
        loop_keeps I (meant_in loops declared) range (λ i q. unrolled_items one body declared (inside loops range.var i) q) same
        (λ i q hq. items_keep (inside loops range.var i) body s q hq) p h

    pub items_keep : (loops : List LoopVar) (xs : NestTrees L) → ItemsHave P xs → (p : Progress X) → I p → IfOk (unrolled_items one xs declared loops p) I
    items_keep loops no_items s p h = h
    items_keep loops (item_then x xs) s p h =
        each_then I I (unrolled_item one x declared loops p) (λ q. unrolled_items one xs declared loops q) (item_keeps loops x s.0 p h) (λ q hq. items_keep loops xs s.1 q hq)

-- each value is right; after the first items and nodes, those of all values are counted and within the limits
pub record Kept {X : Type 0} (Right : X → Type 0) (items nodes : X → ℕ) (first_item first_node : ℕ) (p : Progress X) : Type 0 where
  pub right : All Right p.done
  pub counted_items : first_item + sum_by items p.done ≤ p.counts.items
  pub counted_nodes : first_node + sum_by nodes p.done ≤ p.counts.nodes
  pub item_limit : p.counts.items ≤ 2 ^ 14
  pub node_limit : p.counts.nodes ≤ 2 ^ 20

pub kept_same : {X : Type 0} (Right : X → Type 0) (items nodes : X → ℕ) (first_item first_node : ℕ) → IsOfCounts (Kept Right items nodes first_item first_node)
kept_same {X} Right items nodes first_item first_node p d h e = record {
  right = h.right;
  counted_items = omega (arith, h.counted_items, e.items);
  counted_nodes = omega (arith, h.counted_nodes, e.nodes);
  item_limit = omega (arith, h.item_limit, e.items);
  node_limit = omega (arith, h.node_limit, e.nodes);
}

-- nothing was made
pub kept_none : {X : Type 0} (Right : X → Type 0) (items nodes : X → ℕ) (c : Counts) → c.items ≤ 2 ^ 14 → c.nodes ≤ 2 ^ 20 → Kept Right items nodes c.items c.nodes (progress [] c)
kept_none {X} Right items nodes c h k = record { right = All-nil Right; counted_items = omega arith; counted_nodes = omega arith; item_limit = h; node_limit = k }

-- one more was made
pub kept_more : {X : Type 0} (Right : X → Type 0) (items nodes : X → ℕ) (first_item first_node : ℕ) (p : Progress X) (d : Counts) (x : X) → Kept Right items nodes first_item first_node p → Right x
    → p.counts.items + items x ≤ d.items → p.counts.nodes + nodes x ≤ d.nodes → d.items ≤ 2 ^ 14 → d.nodes ≤ 2 ^ 20 → Kept Right items nodes first_item first_node (with_more p d x)
kept_more {X} Right items nodes first_item first_node p d x h r i n il nl = record {
  right = All-push Right p.done x h.right r;
  counted_items = omega (arith, h.counted_items, sum_by_push items p.done x, i);
  counted_nodes = omega (arith, h.counted_nodes, sum_by_push nodes p.done x, n);
  item_limit = il;
  node_limit = nl;
}

-- one more item was counted, and maybe one more thing was made
pub kept_maybe : {X : Type 0} (Right : X → Type 0) (nodes : X → ℕ) (first_item first_node : ℕ) (p : Progress X) (n : ℕ) (d : Counts) (o : Option X) → Kept Right (λ _. 1) nodes first_item first_node p → IsCounted p.counts n d
    → IfSome o (λ x. Right x × (nodes x ≡ n)) → Kept Right (λ _. 1) nodes first_item first_node (with_maybe p d o)
kept_maybe {X} Right nodes first_item first_node p n d (Some x) h c r =
    kept_more Right (λ _. 1) nodes first_item first_node p d x h r.0 (omega (arith, c.items)) (omega (arith, c.nodes, r.1)) c.item_limit c.node_limit
kept_maybe {X} Right nodes first_item first_node p n d None h c r = record {
  right = h.right;
  counted_items = omega (arith, h.counted_items, c.items);
  counted_nodes = omega (arith, h.counted_nodes, c.nodes);
  item_limit = c.item_limit;
  node_limit = c.node_limit;
}

-- one item with a left and a right side
one_item_kept : {X : Type 0} (vars : List FlatVariable) (Right : X → Type 0) (nodes : X → ℕ) (first_item first_node : ℕ) (F : FlatExpression → Type 0) (in_clause : Bool) (kind : FlatRole) (make : Option ℕ → FlatExpression → Option X)
    (known : List ℕ → NameDenotation) (target : Reference) (e : Expression) (p : Progress X) → AllPoint (roles_of vars) known → IfOk (flattened in_clause known e) (IsFlat F e)
    → ((v : ℕ) (f : FlatExpression) → HasRole vars v kind → IsFlat F e f → IfSome (make (Some v) f) (λ x. Right x × (nodes x ≡ node_count e))) → ((f : FlatExpression) → make None f ≡ None)
    → Kept Right (λ _. 1) nodes first_item first_node p
    → IfOk (bind_result (with_item p.counts (node_count e)) (λ c. bind_result (found known target) (λ t. bind_result (flattened in_clause known e) (λ f. Ok (with_maybe p c (make (number_of_kind kind t) f)))))) (Kept Right (λ _. 1) nodes first_item first_node)
one_item_kept {X} vars Right nodes first_item first_node F in_clause kind make known target e p points parts right none h =
    let K : Progress X → Type 0 = Kept Right (λ _. 1) nodes first_item first_node in
    each_then (IsCounted p.counts (node_count e)) K (with_item p.counts (node_count e)) (λ c. bind_result (found known target) (λ t. bind_result (flattened in_clause known e) (λ f. Ok (with_maybe p c (make (number_of_kind kind t) f)))))
    (item_counted p.counts (node_count e)) (λ c hc.
    each_then (IsFoundIn (roles_of vars)) K (found known target) (λ t. bind_result (flattened in_clause known e) (λ f. Ok (with_maybe p c (make (number_of_kind kind t) f))))
    (found_in (roles_of vars) known target points) (λ t ht.
    each_then (IsFlat F e) K (flattened in_clause known e) (λ f. Ok (with_maybe p c (make (number_of_kind kind t) f))) parts (λ f hf.
    kept_maybe Right nodes first_item first_node p (node_count e) c (make (number_of_kind kind t) f) h hc (by_number (number_of_kind kind t) f (number_in (roles_of vars) kind t ht) hf))))
  where
    by_number : (o : Option ℕ) (f : FlatExpression) → IfSome o (λ v. slice_get (roles_of vars) v ≡ Some kind) → IsFlat F e f → IfSome (make o f) (λ x. Right x × (nodes x ≡ node_count e))
    by_number (Some v) f k r = right v f (role_at vars v kind k) r
    by_number None f k r = subst (λ o. IfSome o (λ x. Right x × (nodes x ≡ node_count e))) (sym (none f)) tt

-- the nodes of a right side
abbrev pub equation_nodes : FlatEquationTree → ℕ
equation_nodes e = flat.node_count e.value

-- equations whose right sides are like this
abbrev pub IsEquationOf : List FlatVariable → (FlatExpression → Type 0) → FlatEquationTree → Type 0
IsEquationOf vars F e = HasRole vars e.target (target_role e.der) × F e.value

abbrev pub KeptEquations : List FlatVariable → (FlatExpression → Type 0) → Progress FlatEquationTree → Type 0
KeptEquations vars F = Kept (IsEquationOf vars F) (λ _. 1) equation_nodes 0 0

-- equations inside loops
pub equations_kept : (vars : List FlatVariable) (P : Expression → Type 0) (F : FlatExpression → Type 0) (declared : List ℕ → NameDenotation) → AllPoint (roles_of vars) declared → ((known : List ℕ → NameDenotation) → AllPoint (roles_of vars) known → Flattens P F false known)
    → (loops : List LoopVar) (es : EquationTrees) → EquationsHave P es → (p : Progress FlatEquationTree) → KeptEquations vars F p → IfOk (unrolled_equations declared loops es p) (KeptEquations vars F)
equations_kept vars P F declared points parts loops es =
    items_keep (KeptEquations vars F) (λ (l : OneEquation). P l.value) equation_once declared (kept_same (IsEquationOf vars F) (λ _. 1) equation_nodes 0 0)
    (λ ls l s p h.
    let inner : AllPoint (roles_of vars) (meant_in ls declared) = points_inside (roles_of vars) ls declared points in
    one_item_kept vars (IsEquationOf vars F) equation_nodes 0 0 F false (target_role l.der) (equation_for l.der) (meant_in ls declared) l.target l.value p inner (parts (meant_in ls declared) inner l.value s)
    (λ v f role r. ((role, r.0), r.1)) (λ f. refl) h) loops (equation_items es)

-- statements
abbrev pub KeptActions : List FlatVariable → ℕ → ℕ → Progress FlatAction → Type 0
KeptActions vars first_item first_node = Kept (IsFlatAction vars) (λ _. 1) action_nodes first_item first_node

statements_kept : (vars : List FlatVariable) (first_item first_node : ℕ) (declared : List ℕ → NameDenotation) → AllPoint (roles_of vars) declared → (loops : List LoopVar) (xs : StatementTrees) → StatementsHave HasSmallPowers xs → (p : Progress FlatAction)
    → KeptActions vars first_item first_node p → IfOk (unrolled_statements declared loops xs p) (KeptActions vars first_item first_node)
statements_kept vars first_item first_node declared points loops xs =
    items_keep (KeptActions vars first_item first_node) (λ (l : OneStatement). HasSmallPowers l.value) statement_once declared (kept_same (IsFlatAction vars) (λ _. 1) action_nodes first_item first_node)
    (λ ls l s p h. one (meant_in ls declared) (points_inside (roles_of vars) ls declared points) l.restart l.target l.value p s h) loops (statement_items xs)
  where
    one : (known : List ℕ → NameDenotation) → AllPoint (roles_of vars) known → (restart : Bool) (target : Reference) (e : Expression) (p : Progress FlatAction) → HasSmallPowers e → KeptActions vars first_item first_node p
        → IfOk (one_statement restart known target e p) (KeptActions vars first_item first_node)
    one known inner true target e p s h =
        one_item_kept vars (IsFlatAction vars) action_nodes first_item first_node (IsFlatExpression vars true) true State restart_of known target e p inner (expression_flat vars true known inner e s) (λ v f role r. ((role, r.0), r.1)) (λ f. refl) h
    one known inner false target e p s h =
        one_item_kept vars (IsFlatAction vars) action_nodes first_item first_node (IsFlatExpression vars true) true Discrete assign_to known target e p inner (expression_flat vars true known inner e s) (λ v f role r. ((role, r.0), r.1)) (λ f. refl) h

-- branches
abbrev pub branch_items : FlatBranchTree → ℕ
branch_items b = 1 + length b.body

abbrev pub branch_nodes : FlatBranchTree → ℕ
branch_nodes b = flat.node_count b.left + flat.node_count b.right + sum_by action_nodes b.body

abbrev pub KeptBranches : List FlatVariable → ℕ → ℕ → Progress FlatBranchTree → Type 0
KeptBranches vars first_item first_node = Kept (IsFlatBranch vars) branch_items branch_nodes first_item first_node

-- as many ones as elements
pub sum_ones : {X : Type 0} (xs : List X) → sum_by (λ _. 1) xs ≡ length xs
sum_ones {X} [] = refl
sum_ones {X} (x ∷ xs) = omega (arith, sum_by-cons (λ (_ : X). 1) x xs, sum_ones xs)

-- one more branch was made
abbrev IsBranchAfter : List FlatVariable → ℕ → ℕ → ℕ → Progress FlatBranchTree → Type 0
IsBranchAfter vars first_item first_node before q = KeptBranches vars first_item first_node q × (before + 1 ≤ length q.done)

branch_kept : (vars : List FlatVariable) (first_item first_node : ℕ) (declared : List ℕ → NameDenotation) → AllPoint (roles_of vars) declared → (loops : List LoopVar) (b : BranchTree) → BranchHas HasSmallPowers b → (p : Progress FlatBranchTree)
    → KeptBranches vars first_item first_node p → IfOk (unrolled_branch declared loops b p) (IsBranchAfter vars first_item first_node (length p.done))
branch_kept vars first_item first_node declared points loops b s p h =
    let known : List ℕ → NameDenotation = meant_in loops declared in
    let inner : AllPoint (roles_of vars) known = points_inside (roles_of vars) loops declared points in
    let G : Progress FlatBranchTree → Type 0 = IsBranchAfter vars first_item first_node (length p.done) in
    let made : FlatExpression → FlatExpression → List FlatAction → FlatBranchTree = λ l r body. record { left = l; rel = b.condition.rel; right = r; at = b.condition.at; body = body } in
    each_then (IsCounted p.counts (node_count b.condition.left + node_count b.condition.right)) G (with_item p.counts (node_count b.condition.left + node_count b.condition.right))
    (λ c. bind_result (flattened true known b.condition.left) (λ l. bind_result (flattened true known b.condition.right) (λ r. bind_result (unrolled_statements declared loops (statements_of b.body) (progress [] c)) (λ q. Ok (with_more p q.counts (made l r q.done))))))
    (item_counted p.counts (node_count b.condition.left + node_count b.condition.right)) (λ c hc.
    each_then (IsFlat (IsFlatExpression vars true) b.condition.left) G (flattened true known b.condition.left)
    (λ l. bind_result (flattened true known b.condition.right) (λ r. bind_result (unrolled_statements declared loops (statements_of b.body) (progress [] c)) (λ q. Ok (with_more p q.counts (made l r q.done)))))
    (expression_flat vars true known inner b.condition.left s.0) (λ l hl.
    each_then (IsFlat (IsFlatExpression vars true) b.condition.right) G (flattened true known b.condition.right)
    (λ r. bind_result (unrolled_statements declared loops (statements_of b.body) (progress [] c)) (λ q. Ok (with_more p q.counts (made l r q.done))))
    (expression_flat vars true known inner b.condition.right s.1) (λ r hr.
    each_then (KeptActions vars c.items c.nodes) G (unrolled_statements declared loops (statements_of b.body) (progress [] c)) (λ q. Ok (with_more p q.counts (made l r q.done)))
    (statements_kept vars c.items c.nodes declared points loops (statements_of b.body) s.2 (progress [] c) (kept_none (IsFlatAction vars) (λ _. 1) action_nodes c hc.item_limit hc.node_limit)) (λ q hq. (
      kept_more (IsFlatBranch vars) branch_items branch_nodes first_item first_node p q.counts (made l r q.done) h (hl.0, hr.0, hq.right)
          (omega (arith, hc.items, hq.counted_items, sum_ones q.done)) (omega (arith, hc.nodes, hq.counted_nodes, hl.1, hr.1)) hq.item_limit hq.node_limit,
      omega (arith, length-append p.done (made l r q.done ∷ [])),
    )))))

abbrev AreBranchesAfter : List FlatVariable → ℕ → ℕ → ℕ → Progress FlatBranchTree → Type 0
AreBranchesAfter vars first_item first_node least q = KeptBranches vars first_item first_node q × (least ≤ length q.done)

branches_kept : (vars : List FlatVariable) (first_item first_node : ℕ) (declared : List ℕ → NameDenotation) → AllPoint (roles_of vars) declared → (loops : List LoopVar) (bs : List BranchTree) → All (BranchHas HasSmallPowers) bs → (least : ℕ) (p : Progress FlatBranchTree)
    → least ≤ length p.done + length bs → KeptBranches vars first_item first_node p → IfOk (unrolled_branches declared loops bs p) (AreBranchesAfter vars first_item first_node least)
branches_kept vars first_item first_node declared points loops [] s least p n h = (h, omega arith)
branches_kept vars first_item first_node declared points loops (b ∷ bs) s least p n h =
    each_then (IsBranchAfter vars first_item first_node (length p.done)) (AreBranchesAfter vars first_item first_node least) (unrolled_branch declared loops b p) (λ q. unrolled_branches declared loops bs q)
    (branch_kept vars first_item first_node declared points loops b (All-head (BranchHas HasSmallPowers) b bs s) p h)
    (λ q hq. branches_kept vars first_item first_node declared points loops bs (All-tail (BranchHas HasSmallPowers) b bs s) least q (omega (arith, hq.1)) hq.0)

-- clauses
abbrev pub clause_items : List FlatBranchTree → ℕ
clause_items bs = sum_by branch_items bs

abbrev pub clause_nodes : List FlatBranchTree → ℕ
clause_nodes bs = sum_by branch_nodes bs

abbrev pub KeptClauses : List FlatVariable → ℕ → ℕ → Progress (List FlatBranchTree) → Type 0
KeptClauses vars first_item first_node = Kept (IsFlatClause vars) clause_items clause_nodes first_item first_node

one_clause_kept : (vars : List FlatVariable) (first_item first_node : ℕ) (declared : List ℕ → NameDenotation) → AllPoint (roles_of vars) declared → (loops : List LoopVar) (bs : List BranchTree) → 0 < length bs → All (BranchHas HasSmallPowers) bs
    → (p : Progress (List FlatBranchTree)) → KeptClauses vars first_item first_node p → IfOk (one_clause declared loops bs p) (KeptClauses vars first_item first_node)
one_clause_kept vars first_item first_node declared points loops bs some s p h =
    each_then (AreBranchesAfter vars p.counts.items p.counts.nodes 1) (KeptClauses vars first_item first_node) (unrolled_branches declared loops bs (progress [] p.counts)) (λ q. Ok (with_more p q.counts q.done))
    (branches_kept vars p.counts.items p.counts.nodes declared points loops bs s 1 (progress [] p.counts) (omega arith) (kept_none (IsFlatBranch vars) branch_items branch_nodes p.counts h.item_limit h.node_limit))
    (λ q hq. kept_more (IsFlatClause vars) clause_items clause_nodes first_item first_node p q.counts q.done h (omega (arith, hq.1), hq.0.right) hq.0.counted_items hq.0.counted_nodes hq.0.item_limit hq.0.node_limit)

-- clauses inside loops
pub clauses_kept : (vars : List FlatVariable) (first_item first_node : ℕ) (declared : List ℕ → NameDenotation) → AllPoint (roles_of vars) declared → (loops : List LoopVar) (xs : ClauseTrees) → ClausesHave HasSmallPowers xs → (p : Progress (List FlatBranchTree))
    → KeptClauses vars first_item first_node p → IfOk (unrolled_clauses declared loops xs p) (KeptClauses vars first_item first_node)
clauses_kept vars first_item first_node declared points loops xs =
    items_keep (KeptClauses vars first_item first_node) (BranchesHave HasSmallPowers) clause_once declared (kept_same (IsFlatClause vars) clause_items clause_nodes first_item first_node)
    (λ ls bs s p h. one_clause_kept vars first_item first_node declared points ls bs s.0 s.1 p h) loops (trees.clause_items xs)
