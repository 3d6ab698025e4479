-- Handlers do the same at states that agree where their statements read one.
use Rattle.qss_run.proofs.Common
use Common.{[], ℕ, ℤ, ◌*ℤ◌, ◌*◌, ◌++◌, ◌+ℤ◌, ◌+◌, ◌-◌, ◌<◌, ◌==◌, ◌^◌, ◌||◌, ◌∙◌, ◌∷◌, ◌≡◌, Action}
use Common.{action_reads, ap, AreArrived, AreBranches, AreRisingBelow, arith, assign}
use Common.{assigned_value, Bool, branch_at, BranchInfo, BranchPlace, cases_Bool, cases_eq}
use Common.{cases_lt, ClauseInfo, drop, exceeds, false, fire_row, fired_reads, first_place, flag_at}
use Common.{flags_of, fold, Form, get_or, get_or-append_right, get_or-drop, get_or-set_other}
use Common.{get_or-set_same, get_or-take, get_or_append_left, get_or_past, HandlerState}
use Common.{handling_of_fired, has_entry, if◌then◌else◌, index_of, inl, inr, int_at}
use Common.{is_reinitialized, is_some, length, length-append, length-set, level_unit, List}
use Common.{list_any, list_any-append, list_any_at, Machine, map, no_branch, None, or_cases}
use Common.{or_left, or_right, pos, refl, Reinit, Row, run_action, run_branch, run_clauses}
use Common.{run_first_due, Set, set, state_count, subst, suc, sum_by-cons, sym, take, true}
use Common.{value_of, zero-*ℤ}
use Rattle.mu_num.proofs.Tests.{eqb-true}
use Rattle.mu_num.specs.Rounding.{nearest_of}
use Rattle.mu_num.proofs.Sums.{sum_below-same}
use Rattle.qss_machine.specs.Handlers.{run_clause}
use Rattle.mu_num.specs.IndexedSums.{sum_below}
use Rattle.qss_machine.specs.Slopes.{coefficient_of}
use Rattle.qss_run.specs.HandlerReads.{branch_reads}
use Rattle.qss_run.proofs.Branches.{place_at}
use Rattle.qss_run.proofs.Firings.{no_clause, one_place, set_inside, flag_among}
use Rattle.qss_run.proofs.Reported.{reinits_of}
use Rattle.qss_machine.proofs.Unread.{no_coefficient}
use Rattle.qss_machine.specs.declared.machine_parts.RowKind.TheVariants as kind

-- a form's value depends on a state only where the form has an entry of it
pub value_agrees : (m : Machine) (form : Form) (x y discretes before : List ℤ) (tick : ℕ) → length x ≡ length y →
    ((j : ℕ) → has_entry j form.entries ≡ true → int_at x j ≡ int_at y j) →
    value_of m form x discretes before tick ≡ value_of m form y discretes before tick
value_agrees m form x y discretes before tick many agree =
    ap (λ z. z +ℤ form.time *ℤ pos (tick * 2 ^ (m.f + m.p)) +ℤ form.gamma *ℤ level_unit m)
    (ap (λ n. sum_below n (λ j. coefficient_of form.entries j *ℤ int_at (x ++ rest) j)) as_many ∙ sum_below-same (length (y ++ rest)) _ _ (λ j h. same j))
  where
    rest : List ℤ
    rest = map (λ d. d *ℤ level_unit m) discretes ++ map (λ d. d *ℤ level_unit m) before

    as_many : length (x ++ rest) ≡ length (y ++ rest)
    as_many = omega (arith, length-append x rest, length-append y rest, many)

    same_input : (j : ℕ) → has_entry j form.entries ≡ true → int_at (x ++ rest) j ≡ int_at (y ++ rest) j
    same_input j has = elim (cases_lt j (length x)) [
      | inl below ↦ get_or_append_left x rest (pos 0) j below ∙ agree j has ∙ sym (get_or_append_left y rest (pos 0) j (omega (arith, below, many)))
      | inr past ↦ get_or-append_right x rest (length y) j (pos 0) many (omega (arith, past, many)) ∙ sym (get_or-append_right y rest (length y) j (pos 0) refl (omega (arith, past, many)))
    ]

    same : (j : ℕ) → coefficient_of form.entries j *ℤ int_at (x ++ rest) j ≡ coefficient_of form.entries j *ℤ int_at (y ++ rest) j
    same j = elim (cases_Bool (has_entry j form.entries)) [
      | inl has ↦ ap (λ z. coefficient_of form.entries j *ℤ z) (same_input j has)
      | inr none ↦
          let zero = no_coefficient form.entries j none in
          ap (λ c. c *ℤ int_at (x ++ rest) j) zero ∙ zero-*ℤ (int_at (x ++ rest) j) ∙ sym (zero-*ℤ (int_at (y ++ rest) j)) ∙ sym (ap (λ c. c *ℤ int_at (y ++ rest) j) zero)
    ]

-- handlings that are the same but for states that are neither of some nor reinitialized
pub record Agree (P : ℕ → Type 0) (g h : HandlerState) : Type 0 where
  pub discretes : g.discretes ≡ h.discretes
  pub rows : g.rows ≡ h.rows
  pub overflow : g.overflow ≡ h.overflow
  pub as_many : length g.states ≡ length h.states
  pub states : (j : ℕ) → P j → int_at g.states j ≡ int_at h.states j
  pub reinitialized : (j : ℕ) → is_reinitialized h.rows j ≡ true → int_at g.states j ≡ int_at h.states j

both_cases : {A : Type 0} (P : A → A → Type 0) (b : Bool) (x y u v : A) → (b ≡ true → P x u) → (b ≡ false → P y v) → P (if b then x else y) (if b then u else v)
both_cases P true x y u v on_true on_false = on_true refl
both_cases P false x y u v on_true on_false = on_false refl

-- lists are the same at a place where both are written, and stay so at another
set_here : (xs ys : List ℤ) (var : ℕ) (z : ℤ) → length xs ≡ length ys → int_at (set xs var z) var ≡ int_at (set ys var z) var
set_here xs ys var z many = elim (cases_lt var (length xs)) [
  | inl inside ↦ get_or-set_same xs var z (pos 0) inside ∙ sym (get_or-set_same ys var z (pos 0) (omega (arith, inside, many)))
  | inr past ↦
      get_or_past (set xs var z) var (pos 0) (omega (arith, past, length-set xs var z)) ∙ sym (get_or_past (set ys var z) var (pos 0) (omega (arith, past, many, length-set ys var z)))
]

set_same : (xs ys : List ℤ) (var j : ℕ) (z : ℤ) → length xs ≡ length ys → int_at xs j ≡ int_at ys j → int_at (set xs var z) j ≡ int_at (set ys var z) j
set_same xs ys var j z many same = elim (cases_eq j var) [
  | inl here ↦ ap (int_at (set xs var z)) here ∙ set_here xs ys var z many ∙ sym (ap (int_at (set ys var z)) here)
  | inr other ↦ get_or-set_other xs var j z (pos 0) other ∙ same ∙ sym (get_or-set_other ys var j z (pos 0) other)
]

-- what the due branches of a clause read
abbrev TurnReads : (ℕ → Type 0) → List BranchInfo → List Bool → Type 0
TurnReads P branches due = (b : ℕ) → b < length branches → flag_at due b ≡ true → (j : ℕ) → list_any (action_reads j) (get_or branches b no_branch).actions ≡ true → P j

-- what those of clauses read
abbrev pub DueReads : (ℕ → Type 0) → List ClauseInfo → List Bool → Type 0
DueReads P clauses due =
    (clause b : ℕ) → clause < length clauses → b < length (get_or clauses clause no_clause).branches → flag_at due (first_place clauses clause + b) ≡ true → (j : ℕ) →
    list_any (action_reads j) (get_or (get_or clauses clause no_clause).branches b no_branch).actions ≡ true → P j

module _ (m : Machine) (tick : ℕ) (before : List ℤ) (P : ℕ → Type 0) where
  form_same : (g h : HandlerState) (form : Form) → Agree P g h → ((j : ℕ) → has_entry j form.entries ≡ true → P j) →
      value_of m form g.states g.discretes before tick ≡ value_of m form h.states h.discretes before tick
  form_same g h form agree reads =
      value_agrees m form g.states h.states g.discretes before tick agree.as_many (λ j has. agree.states j (reads j has)) ∙ ap (λ ds. value_of m form h.states ds before tick) agree.discretes

  value_same : (g h : HandlerState) (action : Action) → Agree P g h → ((j : ℕ) → action_reads j action ≡ true → P j) → assigned_value m tick before g action ≡ assigned_value m tick before h action
  value_same g h (Set var form) agree reads = ap (λ z. nearest_of z (pos (2 ^ (2 * m.p + m.k)))) (form_same g h form agree reads)
  value_same g h (Reinit var form) agree reads =
      ap (λ z. nearest_of z (pos (2 ^ m.p))) (form_same g h form agree reads)

  agree_assign : (g h : HandlerState) (action : Action) (z : ℤ) → Agree P g h → Agree P (assign m tick g action z) (assign m tick h action z)
  agree_assign g h (Set var form) z agree =
      let row : Row = record { tick = tick; kind = kind.Set; var = var; level = z; state = pos 0 } in
      both_cases (Agree P) (exceeds 43 z) _ _ _ _
      (λ e. record { discretes = agree.discretes; rows = agree.rows; overflow = refl; as_many = agree.as_many; states = agree.states; reinitialized = agree.reinitialized })
      (λ e. record {
        discretes = ap (λ ds. set ds (var - state_count m) z) agree.discretes;
        rows = ap (λ rows. rows ++ row ∷ []) agree.rows;
        overflow = agree.overflow;
        as_many = agree.as_many;
        states = agree.states;
        reinitialized = λ j is.
            elim (or_cases (is_reinitialized h.rows j) false (sym (list_any-append (reinits_of j) h.rows (row ∷ [])) ∙ is)) [ inl sooner ↦ agree.reinitialized j sooner | inr now ↦ absurd (cc) ];
      })
  agree_assign g h (Reinit var form) z agree =
      let row : Row = record { tick = tick; kind = kind.Reinit; var = var; level = pos 0; state = z } in
      both_cases (Agree P) (exceeds 88 z) _ _ _ _
      (λ e. record { discretes = agree.discretes; rows = agree.rows; overflow = refl; as_many = agree.as_many; states = agree.states; reinitialized = agree.reinitialized })
      (λ e. record {
        discretes = agree.discretes;
        rows = ap (λ rows. rows ++ row ∷ []) agree.rows;
        overflow = agree.overflow;
        as_many = length-set g.states var z ∙ agree.as_many ∙ sym (length-set h.states var z);
        states = λ j in_p. set_same g.states h.states var j z agree.as_many (agree.states j in_p);
        reinitialized = λ j is.
            elim (or_cases (is_reinitialized h.rows j) ((var == j) || false) (sym (list_any-append (reinits_of j) h.rows (row ∷ [])) ∙ is)) [
              | inl sooner ↦ set_same g.states h.states var j z agree.as_many (agree.reinitialized j sooner)
              | inr now ↦ elim (or_cases (var == j) false now) [
                | inl own ↦ subst (λ k. int_at (set g.states var z) k ≡ int_at (set h.states var z) k) (eqb-true var j own) (set_here g.states h.states var z agree.as_many)
                | inr none ↦ absurd (cc)
              ]
            ];
      })

  agree_action : (g h : HandlerState) (action : Action) → Agree P g h → ((j : ℕ) → action_reads j action ≡ true → P j) → Agree P (run_action m tick before g action) (run_action m tick before h action)
  agree_action g h action agree reads =
      let z : ℤ = assigned_value m tick before h action in
      subst (λ b. Agree P (if b then g else assign m tick g action (assigned_value m tick before g action)) (run_action m tick before h action)) (sym (ap is_some agree.overflow))
      (subst (λ y. Agree P (if is_some h.overflow then g else assign m tick g action y) (run_action m tick before h action)) (sym (value_same g h action agree reads))
      (both_cases (Agree P) (is_some h.overflow) g (assign m tick g action z) h (assign m tick h action z) (λ e. agree) (λ e. agree_assign g h action z agree)))

  agree_actions : (g h : HandlerState) (actions : List Action) → Agree P g h → ((j : ℕ) → list_any (action_reads j) actions ≡ true → P j) →
      Agree P (fold (run_action m tick before) g actions) (fold (run_action m tick before) h actions)
  agree_actions g h [] agree reads = agree
  agree_actions g h (action ∷ actions) agree reads =
      agree_actions (run_action m tick before g action) (run_action m tick before h action) actions
      (agree_action g h action agree (λ j e. reads j (or_left (action_reads j action) (list_any (action_reads j) actions) e)))
      (λ j e. reads j (or_right (action_reads j action) (list_any (action_reads j) actions) e))

  agree_branch : (clause branch : ℕ) (g h : HandlerState) (actions : List Action) → Agree P g h → ((j : ℕ) → list_any (action_reads j) actions ≡ true → P j) →
      Agree P (run_branch m tick before clause branch g actions) (run_branch m tick before clause branch h actions)
  agree_branch clause branch g h actions agree reads =
      let row : Row = fire_row tick clause branch in
      agree_actions (record g { rows = g.rows ++ row ∷ [] }) (record h { rows = h.rows ++ row ∷ [] }) actions
      (record {
        discretes = agree.discretes;
        rows = ap (λ rows. rows ++ row ∷ []) agree.rows;
        overflow = agree.overflow;
        as_many = agree.as_many;
        states = agree.states;
        reinitialized = λ j is.
            elim (or_cases (is_reinitialized h.rows j) false (sym (list_any-append (reinits_of j) h.rows (row ∷ [])) ∙ is)) [ inl sooner ↦ agree.reinitialized j sooner | inr now ↦ absurd (cc) ];
      })
      reads

  agree_turn : (clause number : ℕ) (g h : HandlerState) (branches : List BranchInfo) (due : List Bool) → Agree P g h → TurnReads P branches due →
      Agree P (run_first_due m tick before clause number g branches due) (run_first_due m tick before clause number h branches due)
  agree_turn clause number g h [] due agree reads = agree
  agree_turn clause number g h (branch ∷ branches) [] agree reads = agree
  agree_turn clause number g h (branch ∷ branches) (true ∷ due) agree reads = agree_branch clause number g h branch.actions agree (λ j e. reads 0 (omega arith) refl j e)
  agree_turn clause number g h (branch ∷ branches) (false ∷ due) agree reads =
      agree_turn clause (number + 1) g h branches due agree (λ b inside set j e. reads (suc b) (omega (arith, inside)) set j e)

  agree_clause : (number : ℕ) (g h : HandlerState) (clause : ClauseInfo) (due : List Bool) → Agree P g h → TurnReads P clause.branches due →
      Agree P (run_clause m tick before number g clause due) (run_clause m tick before number h clause due)
  agree_clause number g h clause due agree reads =
      subst (λ b. Agree P (if b then g else run_first_due m tick before number 0 g clause.branches due) (run_clause m tick before number h clause due)) (sym (ap is_some agree.overflow))
      (both_cases (Agree P) (is_some h.overflow) g (run_first_due m tick before number 0 g clause.branches due) h (run_first_due m tick before number 0 h clause.branches due) (λ e. agree)
      (λ e. agree_turn number 0 g h clause.branches due agree reads))

  -- handlings that agree at the states that the due branches read still do so after these
  pub agree_clauses : (number : ℕ) (g h : HandlerState) (clauses : List ClauseInfo) (due : List Bool) → Agree P g h → DueReads P clauses due →
      Agree P (run_clauses m tick before number g clauses due) (run_clauses m tick before number h clauses due)
  agree_clauses number g h [] due agree reads = agree
  agree_clauses number g h (clause ∷ clauses) due agree reads =
      let width : ℕ = length clause.branches in
      let own : TurnReads P clause.branches (take width due) = λ b inside set.
      let zero : 0 + b ≡ b = omega arith in reads 0 b (omega arith) inside (ap (flag_at due) zero ∙ sym (get_or-take width due b false inside) ∙ set) in
      let rest : DueReads P clauses (drop width due) = λ c b known inside set.
      let e : width + (first_place clauses c + b) ≡ first_place (clause ∷ clauses) (suc c) + b = omega (arith, sum_by-cons (λ (k : ClauseInfo). length k.branches) clause (take c clauses)) in
      reads (suc c) b (omega (arith, known)) inside (ap (flag_at due) (sym e) ∙ sym (get_or-drop width due (first_place clauses c + b) false) ∙ set) in
      agree_clauses (number + 1) (run_clause m tick before number g clause (take width due)) (run_clause m tick before number h clause (take width due)) clauses (drop width due)
      (agree_clause number g h clause (take width due) agree own) rest

-- ---- the handlers of the branches at some places, where the states that they read have arrived
module _ (m : Machine) (branches : List BranchPlace) (fired : List ℕ) (are : AreBranches m branches) (numbers : AreRisingBelow (length branches) fired) where
  due_reads : (P : ℕ → Type 0) → ((j : ℕ) → fired_reads j m branches fired ≡ true → P j) → DueReads P m.clauses (flags_of (length branches) fired)
  due_reads P reads clause b known inside set j e =
      let place : ℕ = first_place m.clauses clause + b in
      let at : BranchPlace = place_at branches place in
      let own = are.each place (set_inside (length branches) place fired set) in
      let same = one_place m at.clause at.branch clause b own.clause_known known own.branch_known inside own.own_place in
      let found = index_of fired place (sym (flag_among (length branches) place fired (set_inside (length branches) place fired set)) ∙ set) in
      let here : branch_reads j m (place_at branches (get_or fired found.0 0)) ≡ true =
      ap (λ p. branch_reads j m (place_at branches p)) found.2 ∙ ap (λ c. list_any (action_reads j) (branch_at m c at.branch).actions) same.0
      ∙ ap (λ n. list_any (action_reads j) (branch_at m clause n).actions) same.1 ∙ e in
      reads j (list_any_at (λ p. branch_reads j m (place_at branches p)) fired found.0 0 found.1 here)

  -- they do the same as where all states have, but for states that have not and are not reinitialized
  pub fired_agree : (tick : ℕ) (states x discretes old : List ℤ) → length x ≡ length states → AreArrived (λ j. fired_reads j m branches fired) states old x →
      Agree (λ j. int_at x j ≡ int_at states j)
      (run_clauses m tick discretes 0 (record { states = x; discretes = discretes; rows = []; overflow = None }) m.clauses (flags_of (length branches) fired))
      (handling_of_fired m tick states discretes fired)
  fired_agree tick states x discretes old many at_arrival =
      let P : ℕ → Type 0 = λ j. int_at x j ≡ int_at states j in
      let g : HandlerState = record { states = x; discretes = discretes; rows = []; overflow = None } in
      let h : HandlerState = record { states = states; discretes = discretes; rows = []; overflow = None } in
      let start : Agree P g h = record { discretes = refl; rows = refl; overflow = refl; as_many = many; states = λ j same. same; reinitialized = λ j is. absurd (cc) } in
      subst (λ n. Agree P (run_clauses m tick discretes 0 g m.clauses (flags_of (length branches) fired)) (run_clauses m tick discretes 0 h m.clauses (flags_of n fired))) are.as_many
      (agree_clauses m tick discretes P 0 g h m.clauses (flags_of (length branches) fired) start (due_reads P at_arrival.own))
