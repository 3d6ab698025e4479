-- The result of unrolling satisfies the invariant of flat models.
use Rattle.mu_unroll.proofs.Common
use Common.{[], ℕ, ⊤, ◌+◌, ◌^◌, ◌∙◌, ◌∷◌, ◌≡◌, ◌≤◌, ap, arith, bind_result, Bool, clauses_of}
use Common.{constant_value, constants_in, count_of_kind, Counts, declared_in, Each, equation_items}
use Common.{equations_of, Err, Expression, false, FlatBranchTree, FlatExpression, FlatModelTree}
use Common.{FlatRole, FlatVariable, found, Fraction, HasSmallPowers, IfOk, if◌then◌else◌}
use Common.{IsFlatClause, IsFlatExpression, IsFlatModel, IsNumbered, IsWellFormed, item_then}
use Common.{ItemHas, ItemsHave, Known, length, length-map, List, LoopVar, meant_in, ModelTree}
use Common.{NameDenotation, nat_lt, nat_tests, NestTree, NestTrees, no_counts, no_items, Ok, One}
use Common.{Progress, progress, Reference, refl, ResolvedReference, Result, scalar_count}
use Common.{scalars_in, start_at, start_once, statement_items, statements_of, StatementTrees, subst}
use Common.{suc, sym, TooMany, true, unrolled, unrolled_clauses, unrolled_equations}
use Common.{unrolled_starts, unrolled_with, UnrollErr, with_item, with_start, zero}
use Rattle.mu_unroll.specs.Unrolling.{one_start}
use Rattle.std.proofs.lemmas.List.Elements.{All-contains}
use Rattle.mu_unroll.proofs.FlatParts.{AreNamed, expression_flat, expression_named}
use Rattle.mu_unroll.proofs.Keeping.{IsCounted, IsOfCounts, IsEquationOf, Kept, KeptClauses}
use Rattle.mu_unroll.proofs.Keeping.{KeptEquations, clause_items, clause_nodes, clauses_kept}
use Rattle.mu_unroll.proofs.Keeping.{equation_nodes, equations_kept, item_counted, kept_none}
use Rattle.mu_unroll.proofs.Keeping.{items_keep, sum_ones}
use Rattle.mu_unroll.proofs.Numbering.{AllPoint, all_point, all_roles, in_order, length_in_kinds}
use Rattle.mu_unroll.proofs.Numbering.{roles_of}
use Rattle.mu_unroll.proofs.Stepping.{any_answer, each_then}
use Rattle.mu_tree.specs.declared.flat.FlatRole.TheVariants as flat_role
use Rattle.mu_unroll.specs.declared.environment.ResolvedReference.TheVariants as found_as

-- a start value changes no role
start_roles : (vars : List FlatVariable) (v : ℕ) (a : Fraction) → roles_of (start_at vars v a) ≡ roles_of vars
start_roles [] v a = refl
start_roles (d ∷ ds) zero a = refl
start_roles (d ∷ ds) (suc v) a = ap (λ rs. d.role ∷ rs) (start_roles ds v a)

with_start_roles : (vars : List FlatVariable) (f : ResolvedReference) (a : Fraction) → roles_of (with_start vars f a) ≡ roles_of vars
with_start_roles vars (found_as.Numbered flat_role.State v) a = start_roles vars v a
with_start_roles vars (found_as.Numbered flat_role.Discrete v) a = start_roles vars v a
with_start_roles vars (found_as.Numbered flat_role.Algebraic v) a = refl
with_start_roles vars (found_as.Value b) a = refl
with_start_roles vars found_as.Unfound a = refl

-- of each item something holds
mutual
  any_item : {L : Type 0} (x : NestTree L) → ItemHas (λ _. ⊤) x
  any_item {L} (One l) = tt
  any_item {L} (Each range body) = any_items body

  any_items : {L : Type 0} (xs : NestTrees L) → ItemsHave (λ _. ⊤) xs
  any_items {L} no_items = tt
  any_items {L} (item_then x xs) = (any_item x, any_items xs)

-- the variables have these roles, and the counts are within the limits
record KeptStarts (rs : List FlatRole) (p : Progress FlatVariable) : Type 0 where
  pub roles : roles_of p.done ≡ rs
  pub item_limit : p.counts.items ≤ 2 ^ 14
  pub node_limit : p.counts.nodes ≤ 2 ^ 20

starts_same : (rs : List FlatRole) → IsOfCounts (KeptStarts rs)
starts_same rs p d h e = record { roles = h.roles; item_limit = omega (arith, h.item_limit, e.items); node_limit = omega (arith, h.node_limit, e.nodes) }

one_start_kept : (rs : List FlatRole) (known : List ℕ → NameDenotation) (target : Reference) (e : Expression) (p : Progress FlatVariable) → KeptStarts rs p → IfOk (one_start known target e p) (KeptStarts rs)
one_start_kept rs known target e p h =
    each_then (IsCounted p.counts 0) (KeptStarts rs) (with_item p.counts 0) (λ c. bind_result (found known target) (λ t. bind_result (constant_value (constants_in known) e) (λ a. Ok (progress (with_start p.done t a) c)))) (item_counted p.counts 0) (λ c hc.
    each_then (λ (_ : ResolvedReference). Unit {0}) (KeptStarts rs) (found known target) (λ t. bind_result (constant_value (constants_in known) e) (λ a. Ok (progress (with_start p.done t a) c))) (any_answer (found known target)) (λ t _.
    each_then (λ (_ : Fraction). Unit {0}) (KeptStarts rs) (constant_value (constants_in known) e) (λ a. Ok (progress (with_start p.done t a) c)) (any_answer (constant_value (constants_in known) e)) (λ a _.
    record { roles = with_start_roles p.done t a ∙ h.roles; item_limit = hc.item_limit; node_limit = hc.node_limit })))

starts_kept : (rs : List FlatRole) (declared : List ℕ → NameDenotation) (loops : List LoopVar) (xs : StatementTrees) (p : Progress FlatVariable) → KeptStarts rs p → IfOk (unrolled_starts declared loops xs p) (KeptStarts rs)
starts_kept rs declared loops xs =
    items_keep (KeptStarts rs) (λ _. ⊤) start_once declared (starts_same rs) (λ ls l _ p h. one l.restart (meant_in ls declared) l.target l.value p h) loops (statement_items xs) (any_items (statement_items xs))
  where
    one : (restart : Bool) (known : List ℕ → NameDenotation) (target : Reference) (e : Expression) (p : Progress FlatVariable) → KeptStarts rs p → IfOk (if restart then Ok p else one_start known target e p) (KeptStarts rs)
    one true known target e p h = h
    one false known target e p h = one_start_kept rs known target e p h

-- how many variables there are
length_of_roles : (ks : List Known) (vars : List FlatVariable) → roles_of vars ≡ roles_of (scalars_in ks) → length vars ≡ scalar_count ks
length_of_roles ks vars e =
    sym (length-map vars (λ (v : FlatVariable). v.role)) ∙ ap length (e ∙ all_roles ks)
    ∙ length_in_kinds (count_of_kind flat_role.State ks) (count_of_kind flat_role.Discrete ks) (count_of_kind flat_role.Algebraic ks)

-- the equations and clauses, after the start values
abbrev after_starts : ModelTree → List Known → Progress FlatVariable → Result FlatModelTree UnrollErr
after_starts m ks s =
    bind_result (unrolled_equations (declared_in ks) [] (equations_of m.equations) (progress [] s.counts)) (λ e. bind_result (unrolled_clauses (declared_in ks) [] (clauses_of m.clauses) (progress [] e.counts)) (λ c.
    Ok (record { vars = s.done; equations = e.done; clauses = c.done })))

-- what holds of the flat model, where it holds with right variables
by_starts : (m : ModelTree) (ks : List Known) (Q : FlatModelTree → Type 0)
    → ((s : Progress FlatVariable) → KeptStarts (roles_of (scalars_in ks)) s → length s.done ≤ 4096 → AllPoint (roles_of s.done) (declared_in ks) → IfOk (after_starts m ks s) Q)
    → IfOk (unrolled m ks) Q
by_starts m ks Q each = by_many (nat_lt (2 ^ 12) (scalar_count ks)) refl
  where
    by_many : (many : Bool) → nat_lt (2 ^ 12) (scalar_count ks) ≡ many
        → IfOk {E = UnrollErr} (if many then Err (TooMany (2 ^ 12 + 1)) else unrolled_with (declared_in ks) m (scalars_in ks)) Q
    by_many true e = tt
    by_many false e =
        let few : scalar_count ks ≤ 4096 = grind (arith, nat_tests) in
        each_then (KeptStarts (roles_of (scalars_in ks))) Q (unrolled_starts (declared_in ks) [] (statements_of m.starts) (progress (scalars_in ks) no_counts)) (after_starts m ks)
        (starts_kept (roles_of (scalars_in ks)) (declared_in ks) [] (statements_of m.starts) (progress (scalars_in ks) no_counts) (record { roles = refl; item_limit = omega arith; node_limit = omega arith })) (λ s hs.
        each s hs (omega (arith, length_of_roles ks s.done hs.roles, few)) (subst (λ rs. AllPoint rs (declared_in ks)) (sym hs.roles) (all_point ks)))

-- no equations were made
no_equations_kept : (vars : List FlatVariable) (F : FlatExpression → Type 0) (c : Counts) → c.items ≤ 2 ^ 14 → c.nodes ≤ 2 ^ 20 → KeptEquations vars F (progress [] c)
no_equations_kept vars F c h k =
    let none : Kept (IsEquationOf vars F) (λ _. 1) equation_nodes c.items c.nodes (progress [] c) = kept_none (IsEquationOf vars F) (λ _. 1) equation_nodes c h k in
    record { right = none.right; counted_items = omega (arith, none.counted_items); counted_nodes = omega (arith, none.counted_nodes); item_limit = h; node_limit = k }

-- a model that is well formed unrolls to a flat model
pub flat_model_right : (m : ModelTree) (ks : List Known) → IsWellFormed m → IfOk (unrolled m ks) IsFlatModel
flat_model_right m ks w = by_starts m ks IsFlatModel (λ s hs few points.
    each_then (KeptEquations s.done (IsFlatExpression s.done false)) IsFlatModel (unrolled_equations (declared_in ks) [] (equations_of m.equations) (progress [] s.counts))
    (λ e. bind_result (unrolled_clauses (declared_in ks) [] (clauses_of m.clauses) (progress [] e.counts)) (λ c. Ok (record { vars = s.done; equations = e.done; clauses = c.done })))
    (equations_kept s.done HasSmallPowers (IsFlatExpression s.done false) (declared_in ks) points (λ known p. expression_flat s.done false known p) [] (equations_of m.equations) w.equations (progress [] s.counts)
    (no_equations_kept s.done (IsFlatExpression s.done false) s.counts hs.item_limit hs.node_limit)) (λ e he.
    each_then (KeptClauses s.done e.counts.items e.counts.nodes) IsFlatModel (unrolled_clauses (declared_in ks) [] (clauses_of m.clauses) (progress [] e.counts)) (λ c. Ok (record { vars = s.done; equations = e.done; clauses = c.done }))
    (clauses_kept s.done e.counts.items e.counts.nodes (declared_in ks) points [] (clauses_of m.clauses) w.clauses (progress [] e.counts) (kept_none (IsFlatClause s.done) clause_items clause_nodes e.counts he.item_limit he.node_limit)) (λ c hc.
    record {
      variables = few;
      items = omega (arith, he.counted_items, hc.counted_items, hc.item_limit, sum_ones e.done);
      nodes = omega (arith, he.counted_nodes, hc.counted_nodes, hc.node_limit);
      in_order = in_order s.done (count_of_kind flat_role.State ks) (count_of_kind flat_role.Discrete ks) (count_of_kind flat_role.Algebraic ks) (hs.roles ∙ all_roles ks);
      equations = he.right;
      clauses = hc.right;
    })))

-- each model unrolls to a model whose variables and equations have numbers of 32 bits, and whose equations name variables of it
pub numbered_right : (m : ModelTree) (ks : List Known) → IfOk (unrolled m ks) IsNumbered
numbered_right m ks = by_starts m ks IsNumbered (λ s hs few points.
    each_then (KeptEquations s.done (AreNamed s.done)) IsNumbered (unrolled_equations (declared_in ks) [] (equations_of m.equations) (progress [] s.counts))
    (λ e. bind_result (unrolled_clauses (declared_in ks) [] (clauses_of m.clauses) (progress [] e.counts)) (λ c. Ok (record { vars = s.done; equations = e.done; clauses = c.done })))
    (equations_kept s.done (λ _. ⊤) (AreNamed s.done) (declared_in ks) points (λ known p. expression_named s.done false known p) [] (equations_of m.equations) (any_items (equation_items (equations_of m.equations))) (progress [] s.counts)
    (no_equations_kept s.done (AreNamed s.done) s.counts hs.item_limit hs.node_limit)) (λ e he.
    each_then (λ (_ : Progress (List FlatBranchTree)). Unit {0}) IsNumbered (unrolled_clauses (declared_in ks) [] (clauses_of m.clauses) (progress [] e.counts)) (λ c. Ok (record { vars = s.done; equations = e.done; clauses = c.done }))
    (any_answer (unrolled_clauses (declared_in ks) [] (clauses_of m.clauses) (progress [] e.counts))) (λ c _.
    record {
      variables = omega (arith, few);
      equations = omega (arith, he.counted_items, he.item_limit, sum_ones e.done);
      named = λ x there. (All-contains (IsEquationOf s.done (AreNamed s.done)) e.done x he.right there).1;
    })))
