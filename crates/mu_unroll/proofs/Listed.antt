-- If no limit is exceeded, the result of unrolling is the lists by recursion on the tree.
use Rattle.mu_unroll.proofs.Common
use Common.{[], ℕ, ℤ, ◌++◌, ◌+ℤ◌, ◌+◌, ◌^◌, ◌∙◌, ◌∷◌, ◌≡◌, ap, append-nil, append_assoc, assign_to}
use Common.{bind_result, Bool, bounds_of, BranchTree, clause_once, clauses_of, ClauseTrees}
use Common.{constant_value, constants_in, Counts, declared_in, Each, equation_for, equation_items}
use Common.{equation_once, equations_of, EquationTrees, Err, Expression, false, FlatAction}
use Common.{FlatBranchTree, FlatEquationTree, FlatExpression, FlatModelTree, flattened}
use Common.{FlatVariable, found, Fraction, IfOk, if◌then◌else◌, inside, item_then, Known, List}
use Common.{listed, looped, LoopVar, meant_in, ModelTree, NameDenotation, nat_lt, NestTree}
use Common.{NestTrees, no_counts, no_items, node_count, None, number_of_kind, Ok, One}
use Common.{one_statement, Option, pos, Progress, progress, Range, Reference, refl, repeated}
use Common.{ResolvedReference, restart_of, Result, Rounds, rounds_from, scalar_count, scalars_in}
use Common.{Some, start_once, statement_items, statement_once, statements_of, StatementTrees, Step}
use Common.{suc, sym, target_role, TooMany, true, unrolled, unrolled_branch, unrolled_branches}
use Common.{unrolled_clauses, unrolled_equations, unrolled_item, unrolled_items, unrolled_starts}
use Common.{unrolled_statements, unrolled_with, UnrollErr, with_item, with_maybe, with_more}
use Common.{with_round, with_start, zero}
use Rattle.std.specs.Prelude.{option_to_list}
use Rattle.mu_unroll.specs.Listing.{Listing, StartValue, clause_listing, each_round, each_value}
use Rattle.mu_unroll.specs.Listing.{equation_listing, followed, listed_branches, listed_clauses}
use Rattle.mu_unroll.specs.Listing.{listed_equations, listed_item, listed_items, listed_starts}
use Rattle.mu_unroll.specs.Listing.{listed_statements, start_listing, started, statement_listing}
use Rattle.mu_unroll.specs.Listing.{the_action, the_branch}
use Rattle.mu_unroll.proofs.Faulty.{after}
use Rattle.mu_unroll.proofs.Stepping.{any_answer, each_then, each_weaker, itself}
use Rattle.mu_tree.specs.Nests as trees
use Rattle.mu_tree.specs.declared.flat.FlatRole.TheVariants as flat_role

-- a way to go on with a list
record IsJoin {X Y : Type 0} (join : List X → List Y → List X) : Type 0 where
  pub none : (xs : List X) → join xs [] ≡ xs
  pub more : (xs : List X) (ys zs : List Y) → join xs (ys ++ zs) ≡ join (join xs ys) zs

-- what was made before goes on with what is listed
record GoesOn {X Y : Type 0} (join : List X → List Y → List X) (before : List X) (listing : Result (List Y) UnrollErr) (q : Progress X) : Type 0 where
  pub made : List Y
  pub is : listing ≡ Ok made
  pub done : q.done ≡ join before made

goes_on_same : {X Y : Type 0} (join : List X → List Y → List X) (before : List X) (r s : Result (List Y) UnrollErr) (q : Progress X) → r ≡ s → GoesOn join before r q → GoesOn join before s q
goes_on_same {X} {Y} join before r s q e g = record { made = g.made; is = sym e ∙ g.is; done = g.done }

goes_on_none : {X Y : Type 0} (join : List X → List Y → List X) → IsJoin join → (before : List X) (c : Counts) → GoesOn join before (Ok []) (progress before c)
goes_on_none {X} {Y} join j before c = record { made = []; is = refl; done = sym (j.none before) }

goes_on_then : {X Y : Type 0} (join : List X → List Y → List X) → IsJoin join → (before : List X) (r s : Result (List Y) UnrollErr) (q p : Progress X) → GoesOn join before r q → GoesOn join q.done s p → GoesOn join before (followed r s) p
goes_on_then {X} {Y} join j before r s q p g h = record {
  made = g.made ++ h.made;
  is = after r (λ xs. bind_result s (λ ys. Ok (xs ++ ys))) g.made g.is ∙ after s (λ ys. Ok (g.made ++ ys)) h.made h.is;
  done = h.done ∙ ap (λ xs. join xs h.made) g.done ∙ sym (j.more before g.made h.made);
}

-- one item, and then those after it
items_go_on : {X Y : Type 0} (join : List X → List Y → List X) → IsJoin join → (one rest : Progress X → Result (Progress X) UnrollErr) (r s : Result (List Y) UnrollErr)
    → ((p : Progress X) → IfOk (one p) (GoesOn join p.done r)) → ((q : Progress X) → IfOk (rest q) (GoesOn join q.done s)) → (p : Progress X) → IfOk (bind_result (one p) (λ q. rest q)) (GoesOn join p.done (followed r s))
items_go_on {X} {Y} join j one rest r s first others p =
    each_then (GoesOn join p.done r) (GoesOn join p.done (followed r s)) (one p) (λ q. rest q) (first p) (λ q g.
    each_weaker (GoesOn join q.done s) (GoesOn join p.done (followed r s)) (rest q) (λ t h. goes_on_then join j p.done r s q t g h) (others q))

repeated_goes_on : {X Y : Type 0} (join : List X → List Y → List X) → IsJoin join → (once : ℤ → Progress X → Result (Progress X) UnrollErr) (one : ℤ → Result (List Y) UnrollErr)
    → ((i : ℤ) (p : Progress X) → IfOk (once i p) (GoesOn join p.done (one i))) → (i : ℤ) (rounds : ℕ) (p : Progress X) → IfOk (repeated once i rounds p) (GoesOn join p.done (each_round one i rounds))
repeated_goes_on {X} {Y} join j once one step i zero p = goes_on_none join j p.done p.counts
repeated_goes_on {X} {Y} join j once one step i (suc more) p =
    each_then (λ (_ : Counts). Unit {0}) (GoesOn join p.done (each_round one i (suc more))) (with_round p.counts) (λ c. bind_result (once i (progress p.done c)) (λ q. repeated once (i +ℤ pos 1) more q)) (any_answer (with_round p.counts)) (λ c _.
    items_go_on join j (once i) (λ q. repeated once (i +ℤ pos 1) more q) (one i) (each_round one (i +ℤ pos 1) more) (step i) (λ q. repeated_goes_on join j once one step (i +ℤ pos 1) more q) (progress p.done c))

loop_goes_on : {X Y : Type 0} (join : List X → List Y → List X) → IsJoin join → (known : List ℕ → NameDenotation) (range : Range) (once : ℤ → Progress X → Result (Progress X) UnrollErr) (one : ℤ → Result (List Y) UnrollErr)
    → ((i : ℤ) (p : Progress X) → IfOk (once i p) (GoesOn join p.done (one i))) → (p : Progress X) → IfOk (looped known range once p) (GoesOn join p.done (each_value known range one))
loop_goes_on {X} {Y} join j known range once one step p =
    let bounds : Result Rounds UnrollErr = bounds_of known range.at range.from range.to in
    each_then (λ r. bounds ≡ Ok r) (GoesOn join p.done (each_value known range one)) bounds (λ r. repeated once r.next (rounds_from r.next r.last) p) (itself bounds) (λ r e.
    each_weaker (GoesOn join p.done (each_round one r.next (rounds_from r.next r.last))) (GoesOn join p.done (each_value known range one)) (repeated once r.next (rounds_from r.next r.last) p)
    (λ q g. goes_on_same join p.done (each_round one r.next (rounds_from r.next r.last)) (each_value known range one) q (sym (after bounds (λ x. each_round one x.next (rounds_from x.next x.last)) r e)) g)
    (repeated_goes_on join j once one step r.next (rounds_from r.next r.last) p))

-- lists that are appended
abbrev appended : {X : Type 0} → List X → List X → List X
appended xs ys = xs ++ ys

append_join : {X : Type 0} → IsJoin {X = X} {Y = X} (λ xs ys. xs ++ ys)
append_join {X} = record { none = λ xs. append-nil xs; more = λ xs ys zs. sym (append_assoc xs ys zs) }

maybe_goes_on : {X : Type 0} (p : Progress X) (c : Counts) (o : Option X) → GoesOn appended p.done (Ok (option_to_list o)) (with_maybe p c o)
maybe_goes_on {X} p c (Some x) = record { made = x ∷ []; is = refl; done = refl }
maybe_goes_on {X} p c None = record { made = []; is = refl; done = sym (append-nil p.done) }

-- one item with a left and a right side
item_goes_on : {X : Type 0} (in_clause : Bool) (known : List ℕ → NameDenotation) (target : Reference) (e : Expression) (make : ResolvedReference → FlatExpression → Option X) (p : Progress X)
    → IfOk (bind_result (with_item p.counts (node_count e)) (λ c. bind_result (found known target) (λ t. bind_result (flattened in_clause known e) (λ f. Ok (with_maybe p c (make t f))))))
    (GoesOn appended p.done (bind_result (found known target) (λ t. bind_result (flattened in_clause known e) (λ f. Ok (option_to_list (make t f))))))
item_goes_on {X} in_clause known target e make p =
    let all : Result (List X) UnrollErr = bind_result (found known target) (λ t. bind_result (flattened in_clause known e) (λ f. Ok (option_to_list (make t f)))) in
    each_then (λ (_ : Counts). Unit {0}) (GoesOn appended p.done all) (with_item p.counts (node_count e)) (λ c. bind_result (found known target) (λ t. bind_result (flattened in_clause known e) (λ f. Ok (with_maybe p c (make t f))))) (any_answer (with_item p.counts (node_count e))) (λ c _.
    each_then (λ t. found known target ≡ Ok t) (GoesOn appended p.done all) (found known target) (λ t. bind_result (flattened in_clause known e) (λ f. Ok (with_maybe p c (make t f)))) (itself (found known target)) (λ t is_t.
    each_then (λ f. flattened in_clause known e ≡ Ok f) (GoesOn appended p.done all) (flattened in_clause known e) (λ f. Ok (with_maybe p c (make t f))) (itself (flattened in_clause known e)) (λ f is_f.
    goes_on_same appended p.done (Ok (option_to_list (make t f))) all (with_maybe p c (make t f))
    (sym (after (found known target) (λ u. bind_result (flattened in_clause known e) (λ g. Ok (option_to_list (make u g)))) t is_t ∙ after (flattened in_clause known e) (λ g. Ok (option_to_list (make t g))) f is_f))
    (maybe_goes_on p c (make t f)))))

-- items inside loops
module _ {L X Y : Type 0} (join : List X → List Y → List X) (j : IsJoin join) (one : L → Step X) (listing : L → Listing Y) (declared : List ℕ → NameDenotation)
    (step : (loops : List LoopVar) (l : L) (p : Progress X) → IfOk (one l declared loops p) (GoesOn join p.done (listing l declared loops))) where
  mutual
    item_listed : (loops : List LoopVar) (x : NestTree L) (p : Progress X) → IfOk (unrolled_item one x declared loops p) (GoesOn join p.done (listed_item listing x declared loops))
    item_listed loops (One l) p = step loops l p
    item_listed loops (Each range body) p =
        loop_goes_on join j (meant_in loops declared) range (λ i q. unrolled_items one body declared (inside loops range.var i) q) (λ i. listed_items listing body declared (inside loops range.var i))
        (λ i q. items_listed (inside loops range.var i) body q) p

    items_listed : (loops : List LoopVar) (xs : NestTrees L) (p : Progress X) → IfOk (unrolled_items one xs declared loops p) (GoesOn join p.done (listed_items listing xs declared loops))
    items_listed loops no_items p = goes_on_none join j p.done p.counts
    items_listed loops (item_then x xs) p =
        items_go_on join j (unrolled_item one x declared loops) (unrolled_items one xs declared loops) (listed_item listing x declared loops) (listed_items listing xs declared loops) (item_listed loops x) (items_listed loops xs) p

equations_listed : (declared : List ℕ → NameDenotation) (loops : List LoopVar) (es : EquationTrees) (p : Progress FlatEquationTree) → IfOk (unrolled_equations declared loops es p) (GoesOn appended p.done (listed_equations declared loops es))
equations_listed declared loops es =
    items_listed appended append_join equation_once equation_listing declared (λ ls e p. item_goes_on false (meant_in ls declared) e.target e.value (λ t f. equation_for e.der (number_of_kind (target_role e.der) t) f) p) loops (equation_items es)

statements_listed : (declared : List ℕ → NameDenotation) (loops : List LoopVar) (xs : StatementTrees) (p : Progress FlatAction) → IfOk (unrolled_statements declared loops xs p) (GoesOn appended p.done (listed_statements declared loops xs))
statements_listed declared loops xs =
    items_listed appended append_join statement_once statement_listing declared (λ ls s p. step (meant_in ls declared) s.target s.value p s.restart) loops (statement_items xs)
  where
    step : (known : List ℕ → NameDenotation) (target : Reference) (e : Expression) (p : Progress FlatAction) (restart : Bool)
        → IfOk (one_statement restart known target e p) (GoesOn appended p.done (if restart then the_action restart_of flat_role.State known target e else the_action assign_to flat_role.Discrete known target e))
    step known target e p true = item_goes_on true known target e (λ t f. restart_of (number_of_kind flat_role.State t) f) p
    step known target e p false = item_goes_on true known target e (λ t f. assign_to (number_of_kind flat_role.Discrete t) f) p

branch_listed : (declared : List ℕ → NameDenotation) (loops : List LoopVar) (b : BranchTree) (p : Progress FlatBranchTree) → IfOk (unrolled_branch declared loops b p) (GoesOn appended p.done (the_branch declared loops b))
branch_listed declared loops b p =
    let known : List ℕ → NameDenotation = meant_in loops declared in
    let G : Progress FlatBranchTree → Type 0 = GoesOn appended p.done (the_branch declared loops b) in
    let made : FlatExpression → FlatExpression → List FlatAction → FlatBranchTree = λ l r body. record { left = l; rel = b.condition.rel; right = r; at = b.condition.at; body = body } in
    let nodes : ℕ = node_count b.condition.left + node_count b.condition.right in
    each_then (λ (_ : Counts). Unit {0}) G (with_item p.counts nodes)
    (λ c. bind_result (flattened true known b.condition.left) (λ l. bind_result (flattened true known b.condition.right) (λ r. bind_result (unrolled_statements declared loops (statements_of b.body) (progress [] c)) (λ q. Ok (with_more p q.counts (made l r q.done))))))
    (any_answer (with_item p.counts nodes)) (λ c _.
    each_then (λ l. flattened true known b.condition.left ≡ Ok l) G (flattened true known b.condition.left)
    (λ l. bind_result (flattened true known b.condition.right) (λ r. bind_result (unrolled_statements declared loops (statements_of b.body) (progress [] c)) (λ q. Ok (with_more p q.counts (made l r q.done)))))
    (itself (flattened true known b.condition.left)) (λ l is_l.
    each_then (λ r. flattened true known b.condition.right ≡ Ok r) G (flattened true known b.condition.right)
    (λ r. bind_result (unrolled_statements declared loops (statements_of b.body) (progress [] c)) (λ q. Ok (with_more p q.counts (made l r q.done))))
    (itself (flattened true known b.condition.right)) (λ r is_r.
    each_then (GoesOn appended [] (listed_statements declared loops (statements_of b.body))) G (unrolled_statements declared loops (statements_of b.body) (progress [] c)) (λ q. Ok (with_more p q.counts (made l r q.done)))
    (statements_listed declared loops (statements_of b.body) (progress [] c)) (λ q g.
    record {
      made = made l r q.done ∷ [];
      is = after (flattened true known b.condition.left) (λ x. bind_result (flattened true known b.condition.right) (λ y. bind_result (listed_statements declared loops (statements_of b.body)) (λ body. Ok (made x y body ∷ [])))) l is_l
          ∙ after (flattened true known b.condition.right) (λ y. bind_result (listed_statements declared loops (statements_of b.body)) (λ body. Ok (made l y body ∷ []))) r is_r
          ∙ after (listed_statements declared loops (statements_of b.body)) (λ body. Ok (made l r body ∷ [])) g.made g.is
          ∙ ap (λ body. Ok (made l r body ∷ [])) (sym g.done);
      done = refl;
    }))))

branches_listed : (declared : List ℕ → NameDenotation) (loops : List LoopVar) (bs : List BranchTree) (p : Progress FlatBranchTree) → IfOk (unrolled_branches declared loops bs p) (GoesOn appended p.done (listed_branches declared loops bs))
branches_listed declared loops [] p = goes_on_none appended append_join p.done p.counts
branches_listed declared loops (b ∷ bs) p =
    items_go_on appended append_join (unrolled_branch declared loops b) (unrolled_branches declared loops bs) (the_branch declared loops b) (listed_branches declared loops bs) (branch_listed declared loops b) (branches_listed declared loops bs) p

clauses_listed : (declared : List ℕ → NameDenotation) (loops : List LoopVar) (xs : ClauseTrees) (p : Progress (List FlatBranchTree)) → IfOk (unrolled_clauses declared loops xs p) (GoesOn appended p.done (listed_clauses declared loops xs))
clauses_listed declared loops xs =
    items_listed appended append_join clause_once clause_listing declared (λ ls bs p.
    each_then (GoesOn appended [] (listed_branches declared ls bs)) (GoesOn appended p.done (clause_listing bs declared ls)) (unrolled_branches declared ls bs (progress [] p.counts)) (λ q. Ok (with_more p q.counts q.done)) (branches_listed declared ls bs (progress [] p.counts)) (λ q g.
    record {
      made = q.done ∷ [];
      is = after (listed_branches declared ls bs) (λ xs. Ok (xs ∷ [])) g.made g.is ∙ ap (λ xs. Ok (xs ∷ [])) (sym g.done);
      done = refl;
    })) loops (trees.clause_items xs)

-- start values that are assigned one after another
started_more : (vars : List FlatVariable) (ss ts : List StartValue) → started vars (ss ++ ts) ≡ started (started vars ss) ts
started_more vars [] ts = refl
started_more vars (s ∷ ss) ts = started_more (with_start vars s.target s.value) ss ts

start_join : IsJoin started
start_join = record { none = λ vars. refl; more = started_more }

one_start_listed : (declared : List ℕ → NameDenotation) (loops : List LoopVar) (target : Reference) (e : Expression) (p : Progress FlatVariable) (restart : Bool)
    → IfOk (start_once (record { restart = restart; target = target; value = e }) declared loops p) (GoesOn started p.done (start_listing (record { restart = restart; target = target; value = e }) declared loops))
one_start_listed declared loops target e p true = goes_on_none started start_join p.done p.counts
one_start_listed declared loops target e p false =
    let known : List ℕ → NameDenotation = meant_in loops declared in
    let G : Progress FlatVariable → Type 0 = GoesOn started p.done (start_listing (record { restart = false; target = target; value = e }) declared loops) in
    let value : Result Fraction UnrollErr = constant_value (constants_in known) e in
    each_then (λ (_ : Counts). Unit {0}) G (with_item p.counts 0) (λ c. bind_result (found known target) (λ t. bind_result value (λ a. Ok (progress (with_start p.done t a) c)))) (any_answer (with_item p.counts 0)) (λ c _.
    each_then (λ t. found known target ≡ Ok t) G (found known target) (λ t. bind_result value (λ a. Ok (progress (with_start p.done t a) c))) (itself (found known target)) (λ t is_t.
    each_then (λ a. value ≡ Ok a) G value (λ a. Ok (progress (with_start p.done t a) c)) (itself value) (λ a is_a.
    record {
      made = record { target = t; value = a } ∷ [];
      is = after (found known target) (λ u. bind_result value (λ b. Ok (record { target = u; value = b } ∷ []))) t is_t ∙ after value (λ b. Ok (record { target = t; value = b } ∷ [])) a is_a;
      done = refl;
    })))

starts_listed : (declared : List ℕ → NameDenotation) (loops : List LoopVar) (xs : StatementTrees) (p : Progress FlatVariable) → IfOk (unrolled_starts declared loops xs p) (GoesOn started p.done (listed_starts declared loops xs))
starts_listed declared loops xs = items_listed started start_join start_once start_listing declared (λ ls s p. one_start_listed declared ls s.target s.value p s.restart) loops (statement_items xs)

abbrev tree : List FlatVariable → List FlatEquationTree → List (List FlatBranchTree) → FlatModelTree
tree vars equations clauses = record { vars = vars; equations = equations; clauses = clauses }

steps_listed : (m : ModelTree) (ks : List Known) → IfOk (unrolled_with (declared_in ks) m (scalars_in ks)) (λ f. listed m ks ≡ Ok f)
steps_listed m ks =
    let d : List ℕ → NameDenotation = declared_in ks in
    let ss : Result (List StartValue) UnrollErr = listed_starts d [] (statements_of m.starts) in
    let es : Result (List FlatEquationTree) UnrollErr = listed_equations d [] (equations_of m.equations) in
    let cs : Result (List (List FlatBranchTree)) UnrollErr = listed_clauses d [] (clauses_of m.clauses) in
    let Q : FlatModelTree → Type 0 = λ f. listed m ks ≡ Ok f in
    each_then (GoesOn started (scalars_in ks) ss) Q (unrolled_starts d [] (statements_of m.starts) (progress (scalars_in ks) no_counts))
    (λ s. bind_result (unrolled_equations d [] (equations_of m.equations) (progress [] s.counts)) (λ e. bind_result (unrolled_clauses d [] (clauses_of m.clauses) (progress [] e.counts)) (λ c. Ok (tree s.done e.done c.done))))
    (starts_listed d [] (statements_of m.starts) (progress (scalars_in ks) no_counts)) (λ s gs.
    each_then (GoesOn appended [] es) Q (unrolled_equations d [] (equations_of m.equations) (progress [] s.counts))
    (λ e. bind_result (unrolled_clauses d [] (clauses_of m.clauses) (progress [] e.counts)) (λ c. Ok (tree s.done e.done c.done)))
    (equations_listed d [] (equations_of m.equations) (progress [] s.counts)) (λ e ge.
    each_then (GoesOn appended [] cs) Q (unrolled_clauses d [] (clauses_of m.clauses) (progress [] e.counts)) (λ c. Ok (tree s.done e.done c.done))
    (clauses_listed d [] (clauses_of m.clauses) (progress [] e.counts)) (λ c gc.
    after ss (λ x. bind_result es (λ y. bind_result cs (λ z. Ok (tree (started (scalars_in ks) x) y z)))) gs.made gs.is
    ∙ after es (λ y. bind_result cs (λ z. Ok (tree (started (scalars_in ks) gs.made) y z))) ge.made ge.is
    ∙ after cs (λ z. Ok (tree (started (scalars_in ks) gs.made) ge.made z)) gc.made gc.is
    ∙ ap (λ x. Ok (tree x ge.made gc.made)) (sym gs.done)
    ∙ ap (λ y. Ok (tree s.done y gc.made)) (sym ge.done)
    ∙ ap (λ z. Ok (tree s.done e.done z)) (sym gc.done))))

-- the flat model is the one of the lists
pub listed_right : (m : ModelTree) (ks : List Known) → IfOk (unrolled m ks) (λ f. listed m ks ≡ Ok f)
listed_right m ks = by_many (nat_lt (2 ^ 12) (scalar_count ks)) (steps_listed m ks)
  where
    by_many : (many : Bool) → IfOk (unrolled_with (declared_in ks) m (scalars_in ks)) (λ f. listed m ks ≡ Ok f) → IfOk {E = UnrollErr} (if many then Err (TooMany (2 ^ 12 + 1)) else unrolled_with (declared_in ks) m (scalars_in ks)) (λ f. listed m ks ≡ Ok f)
    by_many true h = tt
    by_many false h = h
