-- The numbers of the flat model of a syntax tree have positive denominators.
use Rattle.mu_meaning.proofs.Common
use Common.{[], ℕ, ℤ, ◌++◌, ◌+ℤ◌, ◌+◌, ◌^◌, ◌∷◌, ◌≡◌, All, All-head, All-tail, AllByRecursion}
use Common.{arith, Bool, bytes_eq, decimal_value, Element, Err, Expression, Factors, false}
use Common.{FlatAction, FlatBranchTree, FlatEquationTree, FlatExpression, FlatModelTree}
use Common.{FlatVariable, Fraction, HasProperAction, HasProperBranch, HasProperConstants}
use Common.{HasProperNumbers, HaveProperFactors, HaveProperTerms, IfOk, IfSome, if◌then◌else◌}
use Common.{IsProperVariable, Known, List, ModelTree, multiplied, nat_lt, None, Number, NumErr, Ok}
use Common.{Option, pos, Reference, Result, scope_of, Some, subst, suc, target_role, Terms, true}
use Common.{UnrollErr, unwrap_or, Whole, whole, zero}
use Rattle.std.specs.Prelude.{⊤}
use Rattle.std.proofs.lemmas.List.Elements.{All-from_recursion, All-nil, All-push, All-append}
use Rattle.std.proofs.lemmas.List.Elements.{All-cons}
use Rattle.mu_tree.specs.declared.flat.FlatRole.{FlatRole}
use Rattle.mu_tree.specs.Expression.{Variable, Now, Previous, Sum, Product, Power, no_terms, term}
use Rattle.mu_tree.specs.Expression.{no_factors, factor}
use Rattle.mu_tree.specs.FlatExpression.{FlatSigned, FlatScaled, flat_terms_of, flat_factors_of}
use Rattle.mu_tree.specs.ModelTree.{Range, EquationTree, Derivative, Algebraic, EachEquation}
use Rattle.mu_tree.specs.ModelTree.{EquationTrees, no_equations, equation_then, StatementTree}
use Rattle.mu_tree.specs.ModelTree.{Assign, Restart, EachStatement, StatementTrees, no_statements}
use Rattle.mu_tree.specs.ModelTree.{statement_then, BranchTree, ClauseTree, Branches, EachClause}
use Rattle.mu_tree.specs.ModelTree.{ClauseTrees, no_clauses, clause_then, equations_of}
use Rattle.mu_tree.specs.ModelTree.{statements_of, clauses_of}
use Rattle.mu_names.specs.Constant.{joined, raised}
use Rattle.mu_unroll.specs.declared.unroll_counts.Counts.{Counts}
use Rattle.mu_unroll.specs.declared.unroll_fault.UnrollErr.TheVariants.{TooMany}
use Rattle.mu_unroll.specs.declared.unrolled_values.Rounds.{Rounds}
use Rattle.mu_unroll.specs.declared.environment.ResolvedReference.{ResolvedReference}
use Rattle.mu_unroll.specs.declared.environment.ResolvedReference.TheVariants.{Value, Numbered}
use Rattle.mu_unroll.specs.declared.environment.ResolvedReference.TheVariants.{Unfound}
use Rattle.mu_unroll.specs.declared.environment.NameDenotation.{NameDenotation}
use Rattle.mu_unroll.specs.declared.environment.LoopVar.{LoopVar}
use Rattle.mu_unroll.specs.ConstantValues.{bind_result, placed, zero_value, constant_or_zero}
use Rattle.mu_unroll.specs.ConstantValues.{constant_value, reference_value, sum_value}
use Rattle.mu_unroll.specs.ConstantValues.{product_value, whole_at}
use Rattle.mu_unroll.specs.Counting.{node_count, with_item, with_round, no_counts}
use Rattle.mu_unroll.specs.Flattening.{constants_in, index_in, whole_found, element_found, found}
use Rattle.mu_unroll.specs.Flattening.{place_of, part_of, number_of_kind, previous_part}
use Rattle.mu_unroll.specs.Flattening.{literal_part, flattened, flattened_terms, flattened_factors}
use Rattle.mu_unroll.specs.LoopBounds.{bounds_of}
use Rattle.mu_unroll.specs.Unrolling.{Progress, progress, with_more, with_maybe, rounds_from}
use Rattle.mu_unroll.specs.Unrolling.{repeated, inside, looped, equation_for, one_equation}
use Rattle.mu_unroll.specs.Unrolling.{unrolled_equation, unrolled_equations, assign_to, restart_of}
use Rattle.mu_unroll.specs.Unrolling.{one_action, unrolled_statement, unrolled_statements}
use Rattle.mu_unroll.specs.Unrolling.{unrolled_branch, unrolled_branches, unrolled_clause}
use Rattle.mu_unroll.specs.Unrolling.{unrolled_clauses, start_at, with_start, one_start}
use Rattle.mu_unroll.specs.Unrolling.{unrolled_start, unrolled_starts, declared_in, unrolled_with}
use Rattle.mu_unroll.specs.Unrolling.{unrolled}
use Rattle.mu_unroll.specs.VariablePlaces.{kind_of, has_kind, scalar, elements_from, scalars_of}
use Rattle.mu_unroll.specs.VariablePlaces.{scalars_of_kind, scalars_in, scalar_count, first_of_kind}
use Rattle.mu_unroll.specs.VariablePlaces.{count_of_kind, meant_after, first_meant, loop_value}
use Rattle.mu_unroll.specs.VariablePlaces.{meant_in, constant_of}
use Rattle.mu_unroll.proofs.Stepping.{each_then, any_answer}
use Rattle.mu_meaning.specs.SourceNumbers.{FlatModelsAreProper}
use Rattle.mu_meaning.proofs.ConstantNumbers.{IsProper, joined_proper, multiplied_proper}
use Rattle.mu_meaning.proofs.ConstantNumbers.{raised_proper, decimal_proper, IsProperName}
use Rattle.mu_meaning.proofs.ConstantNumbers.{scope_proper, model_settings_proper}
use Rattle.mu_tree.specs.declared.flat.FlatRole.TheVariants as flat_role
use Rattle.mu_tree.specs.FlatExpression as flat
use Rattle.mu_unroll.specs.declared.environment.NameDenotation.TheVariants as meant

-- ---- names

-- each name that denotes a constant denotes a proper one
abbrev AreProper : (List ℕ → NameDenotation) → Type 0
AreProper known = (name : List ℕ) → IfSome (constant_of (known name)) IsProper

after_proper : (all before : List Known) (k : Known) → IsProperName k → IfSome
    (constant_of (meant_after all before k)) IsProper
after_proper all before k h = by_kind (kind_of k.role)
  where
    by_kind : (o : Option FlatRole) → IfSome (constant_of
        (elim o as (λ _. NameDenotation) [
          | None ↦ meant.Constant k.value
          | Some kind ↦
              meant.Variable kind (first_of_kind kind all + count_of_kind kind before) k.size
        ])) IsProper
    by_kind None = h.value
    by_kind (Some kind) = tt

first_proper : (all before ks : List Known) (name : List ℕ) → AllByRecursion IsProperName ks →
    IfSome (constant_of (unwrap_or (first_meant all before ks name) meant.Nothing)) IsProper
first_proper all before [] name h = tt
first_proper all before (k ∷ ks) name h = by_test (bytes_eq k.name name)
    (first_proper all (before ++ k ∷ []) ks name h.1)
  where
    by_test : (t : Bool) → IfSome (constant_of
        (unwrap_or (first_meant all (before ++ k ∷ []) ks name) meant.Nothing)) IsProper
        → IfSome (constant_of (unwrap_or (if t then Some (meant_after all before k) else first_meant
        all (before ++ k ∷ []) ks name) meant.Nothing)) IsProper
    by_test true later = after_proper all before k h.0
    by_test false later = later

declared_proper : (ks : List Known) → AllByRecursion IsProperName ks → AreProper (declared_in ks)
declared_proper ks h name = first_proper ks [] ks name h

-- loop variables have proper values
abbrev LoopsAreProper : List LoopVar → Type 0
LoopsAreProper = AllByRecursion (λ (l : LoopVar). IsProper l.value)

inside_proper : (loops : List LoopVar) (var : List ℕ) (i : ℤ) → LoopsAreProper loops →
    LoopsAreProper (inside loops var i)
inside_proper [] var i h = (omega arith, tt)
inside_proper (l ∷ ls) var i h = (h.0, inside_proper ls var i h.1)

loop_proper : (loops : List LoopVar) (name : List ℕ) → LoopsAreProper loops → IfSome
    (loop_value loops name) IsProper
loop_proper [] name h = tt
loop_proper (l ∷ ls) name h = by_test (bytes_eq l.name name) (loop_proper ls name h.1)
  where
    by_test : (t : Bool) → IfSome (loop_value ls name) IsProper → IfSome
        (if t then Some l.value else loop_value ls name) IsProper
    by_test true later = h.0
    by_test false later = later

meant_proper : (loops : List LoopVar) (declared : List ℕ → NameDenotation) → LoopsAreProper loops →
    AreProper declared → AreProper (meant_in loops declared)
meant_proper loops declared h proper name = by_loop (loop_value loops name)
    (loop_proper loops name h)
  where
    by_loop : (o : Option Fraction) → IfSome o IsProper → IfSome
        (constant_of (elim o as (λ _. NameDenotation)
        [ Some a ↦ meant.Constant a | None ↦ declared name ])) IsProper
    by_loop (Some a) h = h
    by_loop None h = proper name

-- ---- constant expressions

placed_proper : (at : ℕ) (r : Result Fraction NumErr) → IfOk r IsProper → IfOk (placed at r)
    IsProper
placed_proper at (Ok a) h = h
placed_proper at (Err fault) h = tt

reference_proper : (known : List ℕ → NameDenotation) → AreProper known → (r : Reference) → IfOk
    (reference_value (constants_in known) r) IsProper
reference_proper known proper (Whole name at) = by_constant (constant_of (known name)) (proper name)
  where
    by_constant : (o : Option Fraction) → IfSome o IsProper → IfOk (constant_or_zero o) IsProper
    by_constant (Some a) h = h
    by_constant None h = omega arith
reference_proper known proper (Element name index at) = omega arith

mutual
  value_proper : (known : List ℕ → NameDenotation) → AreProper known → (e : Expression) → IfOk
      (constant_value (constants_in known) e) IsProper
  value_proper known proper (Number digits at) = placed_proper at (decimal_value digits)
      (decimal_proper digits)
  value_proper known proper (Variable r) = reference_proper known proper r
  value_proper known proper (Now at) = omega arith
  value_proper known proper (Previous r) = omega arith
  value_proper known proper (Sum ts) = sum_proper known proper zero_value ts (omega arith)
  value_proper known proper (Product fs) = factors_proper known proper (whole (pos 1)) fs
      (omega arith)
  value_proper known proper (Power base exp at) =
      each_then IsProper IsProper (constant_value (constants_in known) base)
      (λ a. placed at (raised exp a)) (value_proper known proper base)
      (λ a h. placed_proper at (raised exp a) (raised_proper exp a h))

  sum_proper : (known : List ℕ → NameDenotation) → AreProper known → (total : Fraction) (ts : Terms)
      → IsProper total → IfOk (sum_value (constants_in known) total ts) IsProper
  sum_proper known proper total no_terms h = h
  sum_proper known proper total (term minus at e rest) h =
      each_then IsProper IsProper (constant_value (constants_in known) e)
      (λ a. bind_result (placed at (joined minus total a))
      (λ next. sum_value (constants_in known) next rest)) (value_proper known proper e) (λ a ha.
      each_then IsProper IsProper (placed at (joined minus total a))
      (λ next. sum_value (constants_in known) next rest)
      (placed_proper at (joined minus total a) (joined_proper minus total a h ha)) (λ next hn.
      sum_proper known proper next rest hn))

  factors_proper : (known : List ℕ → NameDenotation) → AreProper known → (total : Fraction)
      (fs : Factors) → IsProper total → IfOk (product_value (constants_in known) total fs) IsProper
  factors_proper known proper total no_factors h = h
  factors_proper known proper total (factor divide at e rest) h =
      each_then IsProper IsProper (constant_value (constants_in known) e)
      (λ a. bind_result (placed at (multiplied divide total a))
      (λ next. product_value (constants_in known) next rest)) (value_proper known proper e)
      (λ a ha.
      each_then IsProper IsProper (placed at (multiplied divide total a))
      (λ next. product_value (constants_in known) next rest)
      (placed_proper at (multiplied divide total a) (multiplied_proper divide total a h ha))
      (λ next hn.
      factors_proper known proper next rest hn))

-- ---- flat expressions

-- a value that is found is proper
abbrev IsProperFind : ResolvedReference → Type 0
IsProperFind (Value a) = IsProper a
IsProperFind (Numbered kind v) = ⊤
IsProperFind Unfound = ⊤

whole_proper : (m : NameDenotation) → IfSome (constant_of m) IsProper → IsProperFind (whole_found m)
whole_proper (meant.Constant a) h = h
whole_proper (meant.Variable kind first None) h = tt
whole_proper (meant.Variable kind first (Some size)) h = tt
whole_proper meant.Nothing h = tt

element_proper : (known : List ℕ → NameDenotation) (at : ℕ) (index : Expression)
    (m : NameDenotation) → IfOk (element_found known at index m) IsProperFind
element_proper known at index (meant.Constant a) = tt
element_proper known at index (meant.Variable kind first None) = tt
element_proper known at index (meant.Variable kind first (Some size)) =
    each_then (λ (_ : Fraction). Unit {0}) IsProperFind (constant_value (constants_in known) index)
    (λ a. bind_result (whole_at at a) (λ i. bind_result (index_in at size i)
    (λ k. Ok (Numbered kind (first + k)))))
    (any_answer (constant_value (constants_in known) index)) (λ a _.
    each_then (λ (_ : ℤ). Unit {0}) IsProperFind (whole_at at a)
    (λ i. bind_result (index_in at size i) (λ k. Ok (Numbered kind (first + k))))
    (any_answer (whole_at at a)) (λ i _.
    each_then (λ (_ : ℕ). Unit {0}) IsProperFind (index_in at size i)
    (λ k. Ok (Numbered kind (first + k))) (any_answer (index_in at size i)) (λ k _. tt)))
element_proper known at index meant.Nothing = tt

found_proper : (known : List ℕ → NameDenotation) → AreProper known → (r : Reference) → IfOk
    (found known r) IsProperFind
found_proper known proper (Whole name at) = whole_proper (known name) (proper name)
found_proper known proper (Element name index at) = element_proper known at index (known name)

part_proper : (at : ℕ) (r : ResolvedReference) → IsProperFind r → HasProperConstants (part_of at r)
part_proper at (Value a) h = h
part_proper at (Numbered kind v) h = tt
part_proper at Unfound h = omega arith

previous_proper : (in_clause : Bool) (at : ℕ) (o : Option ℕ) → HasProperConstants
    (previous_part in_clause at o)
previous_proper true at (Some v) = tt
previous_proper true at None = omega arith
previous_proper false at o = omega arith

literal_proper : (at : ℕ) (r : Result Fraction UnrollErr) → IfOk r IsProper → IfOk
    (literal_part at r) HasProperConstants
literal_proper at (Ok a) h = h
literal_proper at (Err fault) h = tt

mutual
  flat_proper : (in_clause : Bool) (known : List ℕ → NameDenotation) → AreProper known →
      (e : Expression) → IfOk (flattened in_clause known e) HasProperConstants
  flat_proper in_clause known proper (Number digits at) = literal_proper at
      (placed at (decimal_value digits)) (placed_proper at (decimal_value digits)
      (decimal_proper digits))
  flat_proper in_clause known proper (Variable r) = each_then IsProperFind HasProperConstants
      (found known r) (λ f. Ok (part_of (place_of r) f)) (found_proper known proper r)
      (λ f h. part_proper (place_of r) f h)
  flat_proper in_clause known proper (Now at) = tt
  flat_proper in_clause known proper (Previous r) =
      each_then IsProperFind HasProperConstants (found known r)
      (λ f. Ok (previous_part in_clause (place_of r) (number_of_kind flat_role.Discrete f)))
      (found_proper known proper r) (λ f h. previous_proper in_clause (place_of r)
      (number_of_kind flat_role.Discrete f))
  flat_proper in_clause known proper (Sum ts) =
      each_then (λ (fs : List FlatSigned). HaveProperTerms (flat_terms_of fs)) HasProperConstants
      (flattened_terms in_clause known ts) (λ ts. Ok (flat.Sum (flat_terms_of ts)))
      (flat_terms_proper in_clause known proper ts) (λ fs h. h)
  flat_proper in_clause known proper (Product fs) =
      each_then (λ (gs : List FlatScaled). HaveProperFactors (flat_factors_of gs))
      HasProperConstants (flattened_factors in_clause known fs)
      (λ ts. Ok (flat.Product (flat_factors_of ts)))
      (flat_factors_proper in_clause known proper fs) (λ gs h. h)
  flat_proper in_clause known proper (Power base exp at) =
      each_then HasProperConstants HasProperConstants (flattened in_clause known base)
      (λ b. Ok (flat.Power b exp at)) (flat_proper in_clause known proper base) (λ b h. h)

  flat_terms_proper : (in_clause : Bool) (known : List ℕ → NameDenotation) → AreProper known →
      (ts : Terms) → IfOk (flattened_terms in_clause known ts)
      (λ (fs : List FlatSigned). HaveProperTerms (flat_terms_of fs))
  flat_terms_proper in_clause known proper no_terms = tt
  flat_terms_proper in_clause known proper (term minus at e rest) =
      let Q : List FlatSigned → Type 0 = λ fs. HaveProperTerms (flat_terms_of fs) in
      each_then HasProperConstants Q (flattened in_clause known e)
      (λ f. bind_result (flattened_terms in_clause known rest)
      (λ fs. Ok (record { minus = minus; at = at; value = f } ∷ fs)))
      (flat_proper in_clause known proper e) (λ f hf.
      each_then Q Q (flattened_terms in_clause known rest)
      (λ fs. Ok (record { minus = minus; at = at; value = f } ∷ fs))
      (flat_terms_proper in_clause known proper rest) (λ fs hs. (hf, hs)))

  flat_factors_proper : (in_clause : Bool) (known : List ℕ → NameDenotation) → AreProper known →
      (fs : Factors) → IfOk (flattened_factors in_clause known fs)
      (λ (gs : List FlatScaled). HaveProperFactors (flat_factors_of gs))
  flat_factors_proper in_clause known proper no_factors = tt
  flat_factors_proper in_clause known proper (factor divide at e rest) =
      let Q : List FlatScaled → Type 0 = λ fs. HaveProperFactors (flat_factors_of fs) in
      each_then HasProperConstants Q (flattened in_clause known e)
      (λ f. bind_result (flattened_factors in_clause known rest)
      (λ fs. Ok (record { divide = divide; at = at; value = f } ∷ fs)))
      (flat_proper in_clause known proper e) (λ f hf.
      each_then Q Q (flattened_factors in_clause known rest)
      (λ fs. Ok (record { divide = divide; at = at; value = f } ∷ fs))
      (flat_factors_proper in_clause known proper rest) (λ fs hs. (hf, hs)))

-- ---- what holds of all results so far

abbrev Holds : {X : Type 0} → (X → Type 0) → Progress X → Type 0
Holds P p = All P p.done

repeated_holds : {X : Type 0} (P : X → Type 0)
    (once : ℤ → Progress X → Result (Progress X) UnrollErr) →
    ((i : ℤ) (p : Progress X) → Holds P p → IfOk (once i p) (Holds P)) → (i : ℤ) (rounds : ℕ)
    (p : Progress X) → Holds P p → IfOk (repeated once i rounds p) (Holds P)
repeated_holds P once step i zero p h = h
repeated_holds P once step i (suc more) p h =
    each_then (λ (_ : Counts). Unit {0}) (Holds P) (with_round p.counts)
    (λ c. bind_result (once i (progress p.done c)) (λ q. repeated once (i +ℤ pos 1) more q))
    (any_answer (with_round p.counts)) (λ c _.
    each_then (Holds P) (Holds P) (once i (progress p.done c))
    (λ q. repeated once (i +ℤ pos 1) more q) (step i (progress p.done c) h)
    (λ q hq. repeated_holds P once step (i +ℤ pos 1) more q hq))

loop_holds : {X : Type 0} (P : X → Type 0) (known : List ℕ → NameDenotation) (range : Range)
    (once : ℤ → Progress X → Result (Progress X) UnrollErr) →
    ((i : ℤ) (p : Progress X) → Holds P p → IfOk (once i p) (Holds P)) → (p : Progress X) → Holds P
    p → IfOk (looped known range once p) (Holds P)
loop_holds P known range once step p h =
    each_then (λ (_ : Rounds). Unit {0}) (Holds P) (bounds_of known range.at range.from range.to)
    (λ r. repeated once r.next (rounds_from r.next r.last) p)
    (any_answer (bounds_of known range.at range.from range.to))
    (λ r _. repeated_holds P once step r.next (rounds_from r.next r.last) p h)

maybe_holds : {X : Type 0} (P : X → Type 0) (p : Progress X) (c : Counts) (o : Option X) → Holds P p
    → IfSome o P → Holds P (with_maybe p c o)
maybe_holds P p c (Some x) h k = All-push P p.done x h k
maybe_holds P p c None h k = h

-- ---- equations

abbrev IsProperEquation : FlatEquationTree → Type 0
IsProperEquation e = HasProperConstants e.value

one_equation_proper : (der : Bool) (known : List ℕ → NameDenotation) → AreProper known →
    (target : Reference) (e : Expression) (p : Progress FlatEquationTree) → Holds IsProperEquation p
    → IfOk (one_equation der known target e p) (Holds IsProperEquation)
one_equation_proper der known proper target e p h =
    each_then (λ (_ : Counts). Unit {0}) (Holds IsProperEquation)
    (with_item p.counts (node_count e)) (λ c. bind_result (found known target)
    (λ t. bind_result (flattened false known e)
    (λ f. Ok (with_maybe p c (equation_for der (number_of_kind (target_role der) t) f)))))
    (any_answer (with_item p.counts (node_count e))) (λ c _.
    each_then (λ (_ : ResolvedReference). Unit {0}) (Holds IsProperEquation) (found known target)
    (λ t. bind_result (flattened false known e)
    (λ f. Ok (with_maybe p c (equation_for der (number_of_kind (target_role der) t) f))))
    (any_answer (found known target)) (λ t _.
    each_then HasProperConstants (Holds IsProperEquation) (flattened false known e)
    (λ f. Ok (with_maybe p c (equation_for der (number_of_kind (target_role der) t) f)))
    (flat_proper false known proper e) (λ f hf. maybe_holds IsProperEquation p c
    (equation_for der (number_of_kind (target_role der) t) f) h
    (by_number (number_of_kind (target_role der) t) f hf))))
  where
    by_number : (o : Option ℕ) (f : FlatExpression) → HasProperConstants f → IfSome
        (equation_for der o f) IsProperEquation
    by_number (Some v) f hf = hf
    by_number None f hf = tt

mutual
  equation_proper : (declared : List ℕ → NameDenotation) → AreProper declared →
      (loops : List LoopVar) → LoopsAreProper loops → (e : EquationTree)
      (p : Progress FlatEquationTree) → Holds IsProperEquation p → IfOk
      (unrolled_equation declared loops e p) (Holds IsProperEquation)
  equation_proper declared proper loops ls (Derivative target e) p h = one_equation_proper true
      (meant_in loops declared) (meant_proper loops declared ls proper) target e p h
  equation_proper declared proper loops ls (Algebraic target e) p h = one_equation_proper false
      (meant_in loops declared) (meant_proper loops declared ls proper) target e p h
  equation_proper declared proper loops ls (EachEquation range body) p h =
      loop_holds IsProperEquation (meant_in loops declared) range
      (λ i q. unrolled_equations declared (inside loops range.var i) body q)
      (λ i q hq. equations_proper declared proper (inside loops range.var i)
      (inside_proper loops range.var i ls) body q hq) p h

  equations_proper : (declared : List ℕ → NameDenotation) → AreProper declared →
      (loops : List LoopVar) → LoopsAreProper loops → (es : EquationTrees)
      (p : Progress FlatEquationTree) → Holds IsProperEquation p → IfOk
      (unrolled_equations declared loops es p) (Holds IsProperEquation)
  equations_proper declared proper loops ls no_equations p h = h
  equations_proper declared proper loops ls (equation_then e es) p h =
      each_then (Holds IsProperEquation) (Holds IsProperEquation)
      (unrolled_equation declared loops e p) (λ q. unrolled_equations declared loops es q)
      (equation_proper declared proper loops ls e p h)
      (λ q hq. equations_proper declared proper loops ls es q hq)

-- ---- statements, branches and clauses

one_action_proper : (action : Option ℕ → FlatExpression → Option FlatAction) →
    ((o : Option ℕ) (f : FlatExpression) → HasProperConstants f → IfSome (action o f)
    HasProperAction)
    → (kind : FlatRole) (known : List ℕ → NameDenotation) → AreProper known → (target : Reference)
    (e : Expression) (p : Progress FlatAction) → Holds HasProperAction p → IfOk
    (one_action action kind known target e p) (Holds HasProperAction)
one_action_proper action each kind known proper target e p h =
    each_then (λ (_ : Counts). Unit {0}) (Holds HasProperAction) (with_item p.counts (node_count e))
    (λ c. bind_result (found known target)
    (λ t. bind_result (flattened true known e)
    (λ f. Ok (with_maybe p c (action (number_of_kind kind t) f)))))
    (any_answer (with_item p.counts (node_count e))) (λ c _.
    each_then (λ (_ : ResolvedReference). Unit {0}) (Holds HasProperAction) (found known target)
    (λ t. bind_result (flattened true known e)
    (λ f. Ok (with_maybe p c (action (number_of_kind kind t) f))))
    (any_answer (found known target)) (λ t _.
    each_then HasProperConstants (Holds HasProperAction) (flattened true known e)
    (λ f. Ok (with_maybe p c (action (number_of_kind kind t) f)))
    (flat_proper true known proper e) (λ f hf. maybe_holds HasProperAction p c
    (action (number_of_kind kind t) f) h (each (number_of_kind kind t) f hf))))

assign_proper : (o : Option ℕ) (f : FlatExpression) → HasProperConstants f → IfSome (assign_to o f)
    HasProperAction
assign_proper (Some v) f h = h
assign_proper None f h = tt

restart_proper : (o : Option ℕ) (f : FlatExpression) → HasProperConstants f → IfSome
    (restart_of o f) HasProperAction
restart_proper (Some v) f h = h
restart_proper None f h = tt

mutual
  statement_proper : (declared : List ℕ → NameDenotation) → AreProper declared →
      (loops : List LoopVar) → LoopsAreProper loops → (x : StatementTree) (p : Progress FlatAction)
      → Holds HasProperAction p → IfOk (unrolled_statement declared loops x p)
      (Holds HasProperAction)
  statement_proper declared proper loops ls (Assign target e) p h = one_action_proper assign_to
      assign_proper flat_role.Discrete (meant_in loops declared)
      (meant_proper loops declared ls proper) target e p h
  statement_proper declared proper loops ls (Restart target e) p h = one_action_proper restart_of
      restart_proper flat_role.State (meant_in loops declared)
      (meant_proper loops declared ls proper) target e p h
  statement_proper declared proper loops ls (EachStatement range body) p h =
      loop_holds HasProperAction (meant_in loops declared) range
      (λ i q. unrolled_statements declared (inside loops range.var i) body q)
      (λ i q hq. statements_proper declared proper (inside loops range.var i)
      (inside_proper loops range.var i ls) body q hq) p h

  statements_proper : (declared : List ℕ → NameDenotation) → AreProper declared →
      (loops : List LoopVar) → LoopsAreProper loops → (xs : StatementTrees)
      (p : Progress FlatAction) → Holds HasProperAction p → IfOk
      (unrolled_statements declared loops xs p) (Holds HasProperAction)
  statements_proper declared proper loops ls no_statements p h = h
  statements_proper declared proper loops ls (statement_then x xs) p h =
      each_then (Holds HasProperAction) (Holds HasProperAction)
      (unrolled_statement declared loops x p) (λ q. unrolled_statements declared loops xs q)
      (statement_proper declared proper loops ls x p h)
      (λ q hq. statements_proper declared proper loops ls xs q hq)

branch_proper : (declared : List ℕ → NameDenotation) → AreProper declared → (loops : List LoopVar) →
    LoopsAreProper loops → (b : BranchTree) (p : Progress FlatBranchTree) → Holds HasProperBranch p
    → IfOk (unrolled_branch declared loops b p) (Holds HasProperBranch)
branch_proper declared proper loops ls b p h =
    let known : List ℕ → NameDenotation = meant_in loops declared in
    let inner : AreProper known = meant_proper loops declared ls proper in
    let made : FlatExpression → FlatExpression → List FlatAction → FlatBranchTree = λ l r body.
    record { left = l; rel = b.condition.rel; right = r; at = b.condition.at; body = body } in
    each_then (λ (_ : Counts). Unit {0}) (Holds HasProperBranch)
    (with_item p.counts (node_count b.condition.left + node_count b.condition.right))
    (λ c. bind_result (flattened true known b.condition.left)
    (λ l. bind_result (flattened true known b.condition.right)
    (λ r. bind_result (unrolled_statements declared loops (statements_of b.body)
    (progress [] c)) (λ q. Ok (with_more p q.counts (made l r q.done))))))
    (any_answer (with_item p.counts (node_count b.condition.left + node_count b.condition.right)))
    (λ c _.
    each_then HasProperConstants (Holds HasProperBranch) (flattened true known b.condition.left)
    (λ l. bind_result (flattened true known b.condition.right)
    (λ r. bind_result (unrolled_statements declared loops (statements_of b.body)
    (progress [] c)) (λ q. Ok (with_more p q.counts (made l r q.done)))))
    (flat_proper true known inner b.condition.left) (λ l hl.
    each_then HasProperConstants (Holds HasProperBranch) (flattened true known b.condition.right)
    (λ r. bind_result (unrolled_statements declared loops (statements_of b.body) (progress [] c))
    (λ q. Ok (with_more p q.counts (made l r q.done))))
    (flat_proper true known inner b.condition.right) (λ r hr.
    each_then (Holds HasProperAction) (Holds HasProperBranch)
    (unrolled_statements declared loops (statements_of b.body) (progress [] c))
    (λ q. Ok (with_more p q.counts (made l r q.done)))
    (statements_proper declared proper loops ls (statements_of b.body) (progress [] c)
    (All-nil HasProperAction)) (λ q hq.
    All-push HasProperBranch p.done (made l r q.done) h (hl, hr, hq)))))

branches_proper : (declared : List ℕ → NameDenotation) → AreProper declared → (loops : List LoopVar)
    → LoopsAreProper loops → (bs : List BranchTree) (p : Progress FlatBranchTree) → Holds
    HasProperBranch p → IfOk (unrolled_branches declared loops bs p) (Holds HasProperBranch)
branches_proper declared proper loops ls [] p h = h
branches_proper declared proper loops ls (b ∷ bs) p h =
    each_then (Holds HasProperBranch) (Holds HasProperBranch) (unrolled_branch declared loops b p)
    (λ q. unrolled_branches declared loops bs q) (branch_proper declared proper loops ls b p h)
    (λ q hq. branches_proper declared proper loops ls bs q hq)

abbrev IsProperClause : List FlatBranchTree → Type 0
IsProperClause bs = All HasProperBranch bs

mutual
  clause_proper : (declared : List ℕ → NameDenotation) → AreProper declared → (loops : List LoopVar)
      → LoopsAreProper loops → (x : ClauseTree) (p : Progress (List FlatBranchTree)) → Holds
      IsProperClause p → IfOk (unrolled_clause declared loops x p) (Holds IsProperClause)
  clause_proper declared proper loops ls (Branches bs) p h =
      each_then (Holds HasProperBranch) (Holds IsProperClause)
      (unrolled_branches declared loops bs (progress [] p.counts))
      (λ q. Ok (with_more p q.counts q.done))
      (branches_proper declared proper loops ls bs (progress [] p.counts) (All-nil HasProperBranch))
      (λ q hq. All-push IsProperClause p.done q.done h hq)
  clause_proper declared proper loops ls (EachClause range body) p h =
      loop_holds IsProperClause (meant_in loops declared) range
      (λ i q. unrolled_clauses declared (inside loops range.var i) body q)
      (λ i q hq. clauses_proper declared proper (inside loops range.var i)
      (inside_proper loops range.var i ls) body q hq) p h

  clauses_proper : (declared : List ℕ → NameDenotation) → AreProper declared →
      (loops : List LoopVar) → LoopsAreProper loops → (xs : ClauseTrees)
      (p : Progress (List FlatBranchTree)) → Holds IsProperClause p → IfOk
      (unrolled_clauses declared loops xs p) (Holds IsProperClause)
  clauses_proper declared proper loops ls no_clauses p h = h
  clauses_proper declared proper loops ls (clause_then x xs) p h =
      each_then (Holds IsProperClause) (Holds IsProperClause) (unrolled_clause declared loops x p)
      (λ q. unrolled_clauses declared loops xs q) (clause_proper declared proper loops ls x p h)
      (λ q hq. clauses_proper declared proper loops ls xs q hq)

-- ---- variables

elements_proper : (kind : FlatRole) (k : Known) → IsProperName k → (index count : ℕ) →
    AllByRecursion IsProperVariable (elements_from kind k index count)
elements_proper kind k h index zero = tt
elements_proper kind k h index (suc count) = (
  (h.start, h.quantum),
  elements_proper kind k h
      (index + 1) count,
)

scalars_proper : (kind : FlatRole) (k : Known) → IsProperName k → All IsProperVariable
    (scalars_of kind k)
scalars_proper kind k h = by_size k.size
  where
    by_size : (o : Option ℕ) → All IsProperVariable
        (elim o as (λ _. List FlatVariable) [
          | None ↦ scalar kind k k.name ∷ []
          | Some n ↦
              elements_from kind k 1 n
        ])
    by_size None = All-from_recursion IsProperVariable (scalar kind k k.name ∷ [])
        ((h.start, h.quantum), tt)
    by_size (Some n) = All-from_recursion IsProperVariable (elements_from kind k 1 n)
        (elements_proper kind k h 1 n)

kind_proper : (kind : FlatRole) (ks : List Known) → AllByRecursion IsProperName ks → All
    IsProperVariable (scalars_of_kind kind ks)
kind_proper kind [] h = All-nil IsProperVariable
kind_proper kind (k ∷ ks) h = by_test (has_kind kind k) (kind_proper kind ks h.1)
  where
    by_test : (t : Bool) → All IsProperVariable (scalars_of_kind kind ks) → All IsProperVariable
        (if t then scalars_of kind k ++ scalars_of_kind kind ks else scalars_of_kind kind ks)
    by_test true rest = All-append IsProperVariable (scalars_of kind k) (scalars_of_kind kind ks)
        (scalars_proper kind k h.0) rest
    by_test false rest = rest

all_proper : (ks : List Known) → AllByRecursion IsProperName ks → All IsProperVariable
    (scalars_in ks)
all_proper ks h =
    All-append IsProperVariable (scalars_of_kind flat_role.State ks)
    (scalars_of_kind flat_role.Discrete ks ++ scalars_of_kind flat_role.Algebraic ks)
    (kind_proper flat_role.State ks h)
    (All-append IsProperVariable (scalars_of_kind flat_role.Discrete ks)
    (scalars_of_kind flat_role.Algebraic ks) (kind_proper flat_role.Discrete ks h)
    (kind_proper flat_role.Algebraic ks h))

start_proper : (vs : List FlatVariable) (v : ℕ) (a : Fraction) → All IsProperVariable vs → IsProper
    a → All IsProperVariable (start_at vs v a)
start_proper [] v a h k = h
start_proper (d ∷ ds) zero a h k = All-cons IsProperVariable (record d { start = a }) ds
    (k, (All-head IsProperVariable d ds h).1) (All-tail IsProperVariable d ds h)
start_proper (d ∷ ds) (suc v) a h k = All-cons IsProperVariable d (start_at ds v a)
    (All-head IsProperVariable d ds h) (start_proper ds v a (All-tail IsProperVariable d ds h) k)

with_proper : (vs : List FlatVariable) (r : ResolvedReference) (a : Fraction) → All IsProperVariable
    vs → IsProper a → All IsProperVariable (with_start vs r a)
with_proper vs (Numbered flat_role.State v) a h k = start_proper vs v a h k
with_proper vs (Numbered flat_role.Discrete v) a h k = start_proper vs v a h k
with_proper vs (Numbered flat_role.Algebraic v) a h k = h
with_proper vs (Value b) a h k = h
with_proper vs Unfound a h k = h

one_start_proper : (known : List ℕ → NameDenotation) → AreProper known → (target : Reference)
    (e : Expression) (p : Progress FlatVariable) → Holds IsProperVariable p → IfOk
    (one_start known target e p) (Holds IsProperVariable)
one_start_proper known proper target e p h =
    each_then (λ (_ : Counts). Unit {0}) (Holds IsProperVariable) (with_item p.counts 0)
    (λ c. bind_result (found known target)
    (λ t. bind_result (constant_value (constants_in known) e)
    (λ a. Ok (record { done = with_start p.done t a; counts = c }))))
    (any_answer (with_item p.counts 0)) (λ c _.
    each_then (λ (_ : ResolvedReference). Unit {0}) (Holds IsProperVariable) (found known target)
    (λ t. bind_result (constant_value (constants_in known) e)
    (λ a. Ok (record { done = with_start p.done t a; counts = c })))
    (any_answer (found known target)) (λ t _.
    each_then IsProper (Holds IsProperVariable) (constant_value (constants_in known) e)
    (λ a. Ok (record { done = with_start p.done t a; counts = c }))
    (value_proper known proper e) (λ a ha. with_proper p.done t a h ha)))

mutual
  one_of_starts_proper : (declared : List ℕ → NameDenotation) → AreProper declared →
      (loops : List LoopVar) → LoopsAreProper loops → (x : StatementTree)
      (p : Progress FlatVariable) → Holds IsProperVariable p → IfOk
      (unrolled_start declared loops x p) (Holds IsProperVariable)
  one_of_starts_proper declared proper loops ls (Assign target e) p h = one_start_proper
      (meant_in loops declared) (meant_proper loops declared ls proper) target e p h
  one_of_starts_proper declared proper loops ls (Restart target e) p h = h
  one_of_starts_proper declared proper loops ls (EachStatement range body) p h =
      loop_holds IsProperVariable (meant_in loops declared) range
      (λ i q. unrolled_starts declared (inside loops range.var i) body q)
      (λ i q hq. starts_proper declared proper (inside loops range.var i)
      (inside_proper loops range.var i ls) body q hq) p h

  starts_proper : (declared : List ℕ → NameDenotation) → AreProper declared → (loops : List LoopVar)
      → LoopsAreProper loops → (xs : StatementTrees) (p : Progress FlatVariable) → Holds
      IsProperVariable p → IfOk (unrolled_starts declared loops xs p) (Holds IsProperVariable)
  starts_proper declared proper loops ls no_statements p h = h
  starts_proper declared proper loops ls (statement_then x xs) p h =
      each_then (Holds IsProperVariable) (Holds IsProperVariable)
      (unrolled_start declared loops x p) (λ q. unrolled_starts declared loops xs q)
      (one_of_starts_proper declared proper loops ls x p h)
      (λ q hq. starts_proper declared proper loops ls xs q hq)

-- ---- the flat model

flat_numbers : (m : ModelTree) → IfOk (unrolled m (scope_of m).known)
    (λ (f : FlatModelTree). HasProperNumbers f)
flat_numbers m = by_many (nat_lt (2 ^ 12) (scalar_count (scope_of m).known))
  where
    with_all : IfOk (unrolled_with (declared_in (scope_of m).known) m
        (scalars_in (scope_of m).known)) (λ (f : FlatModelTree). HasProperNumbers f)
    with_all =
        let ks = (scope_of m).known in
        let proper = declared_proper ks (scope_proper m) in
        each_then (Holds IsProperVariable) (λ (f : FlatModelTree). HasProperNumbers f)
        (unrolled_starts (declared_in ks) [] (statements_of m.starts)
        (progress (scalars_in ks) no_counts))
        (λ s. bind_result (unrolled_equations (declared_in ks) [] (equations_of m.equations)
        (progress [] s.counts)) (λ e. bind_result
        (unrolled_clauses (declared_in ks) [] (clauses_of m.clauses) (progress [] e.counts))
        (λ c. Ok (record { vars = s.done; equations = e.done; clauses = c.done }))))
        (starts_proper (declared_in ks) proper [] tt (statements_of m.starts)
        (progress (scalars_in ks) no_counts) (all_proper ks (scope_proper m))) (λ s hs.
        each_then (Holds IsProperEquation) (λ (f : FlatModelTree). HasProperNumbers f)
        (unrolled_equations (declared_in ks) [] (equations_of m.equations)
        (progress [] s.counts))
        (λ e. bind_result (unrolled_clauses (declared_in ks) [] (clauses_of m.clauses)
        (progress [] e.counts)) (λ c. Ok (record
        { vars = s.done; equations = e.done; clauses = c.done })))
        (equations_proper (declared_in ks) proper [] tt (equations_of m.equations)
        (progress [] s.counts) (All-nil IsProperEquation)) (λ e he.
        each_then (Holds IsProperClause) (λ (f : FlatModelTree). HasProperNumbers f)
        (unrolled_clauses (declared_in ks) [] (clauses_of m.clauses) (progress [] e.counts))
        (λ c. Ok (record { vars = s.done; equations = e.done; clauses = c.done }))
        (clauses_proper (declared_in ks) proper [] tt (clauses_of m.clauses) (progress [] e.counts)
        (All-nil IsProperClause)) (λ c hc.
        record { equations = he; clauses = hc; variables = hs })))

    by_many : (many : Bool) → IfOk {E = UnrollErr}
        (if many then Err (TooMany (2 ^ 12 + 1)) else unrolled_with (declared_in (scope_of m).known)
        m (scalars_in (scope_of m).known)) (λ (f : FlatModelTree). HasProperNumbers f)
    by_many true = tt
    by_many false = with_all

-- the numbers of the flat model of a syntax tree have positive denominators
pub flat_models_are_proper : FlatModelsAreProper
flat_models_are_proper m f h = (
  at_ok (unrolled m (scope_of m).known) h (flat_numbers m),
  (model_settings_proper m).stop,
)
  where
    at_ok : (r : Result FlatModelTree UnrollErr) → r ≡ Ok f → IfOk r
        (λ (f : FlatModelTree). HasProperNumbers f) → HasProperNumbers f
    at_ok (Ok g) is h = let same : g ≡ f = cc in subst (λ (f : FlatModelTree). HasProperNumbers f)
        same h
    at_ok (Err fault) is h = absurd (cc)
