-- The machine of a flat model has the model's numbers, each rounded once.
use Rattle.mu_meaning.proofs.Common
use Common.{[], ℕ, ◌+◌, ◌<◌, ◌∙◌, ◌∷◌, ◌≡◌, ◌≤◌, action_form, actions_same, AffineErr, AffineForm}
use Common.{All, All-head, All-tail, ap, arith, Assign, branches_same, clause_context, clauses_same}
use Common.{condition_form, Contains, Context, equation_context, ExactForm, FlatAction}
use Common.{FlatBranchTree, FlatEquationTree, FlatModelTree, FlatVariable, form_meaning, form_of}
use Common.{FormsSoFar, get_or, get_or as slice_index_or, HasDenominators, HasProperAction}
use Common.{HasProperBranch, ints, IsFlatAction, IsFlatBranch, IsFlatClause, IsFlatModel, IsFormOf}
use Common.{IsProperVariable, IsRounded, IsRowOf, IsSound, keep, keep_actions, keep_branches}
use Common.{keep_clauses, keep_same, length, List, map, none, nothing_taken, Ok, parts_of, pos}
use Common.{refl, Restart, Result, right_side, rounded_form, rounded_row, row_at, sizes_of}
use Common.{slice_get, SlopeRow, Some, subst, suc, sym, then_take, true, whole, zero}
use Rattle.std.proofs.Common.{take, drop}
use Rattle.std.specs.List.{AllZip}
use Rattle.std.proofs.lemmas.List.{get_or-map}
use Rattle.std.proofs.lemmas.List.Elements.{All-take, All-drop}
use Rattle.mu_num.proofs.Quotients.{floor_meets, ceiling_meets}
use Rattle.mu_affine.specs.declared.exact_form.Forms.{Forms}
use Rattle.mu_affine.specs.FormPlaces.{is_state, state_count, states_of, discretes_of, branch_forms}
use Rattle.mu_affine.specs.FormPlaces.{clause_forms, form_at, action_of, actions_of, branch_of}
use Rattle.mu_affine.specs.FormPlaces.{clauses_of, placed}
use Rattle.mu_affine.specs.KeptForms.{AreForms, equation_place, clause_place}
use Rattle.mu_affine.specs.Rounded.{rounded_state, rounded_discrete, rounded_up}
use Rattle.mu_affine.proofs.FinishedForms.{states_counted, keep_length, actions_length}
use Rattle.mu_affine.proofs.FinishedForms.{branches_length, solve_length, states_length}
use Rattle.mu_meaning.specs.MachineNumbers.{IsRoundedUp, IsStateOf, IsDiscreteOf, IsActionOf}
use Rattle.mu_meaning.specs.MachineNumbers.{IsBranchOf, IsClauseOf, HasRowOf, MachinesAreRounded}
use Rattle.mu_meaning.proofs.Leaves.{constant_positive}
use Rattle.mu_meaning.proofs.Meaning.{forms_have_values}
use Rattle.mu_meaning.proofs.Conditions.{conditions_have_values}
use Rattle.mu_meaning.proofs.Models.{Stages, stages, state_form, keep_kept, Keeps, actions_keep}
use Rattle.mu_meaning.proofs.Models.{branches_keep, clauses_keep, got_last, expression_sound}
use Rattle.mu_meaning.proofs.Models.{equation_sound, side_sound, model_solved}
use Rattle.mu_meaning.proofs.Coefficients.{rounded_near}
use Rattle.mu_meaning.proofs.RoundedForms.{row_near, form_near}
use Rattle.mu_meaning.proofs.Timeless.{IsTimelessContext, form_timeless, all_timeless}

-- ---- lists

-- the element of a list whose image is at a place
mapped_at : {X Y : Type 0} (f : X → Y) (xs : List X) (i : ℕ) (y : Y) (d : X) → slice_get (map f xs)
    i ≡ Some y → (slice_get xs i ≡ Some (get_or xs i d)) × (f (get_or xs i d) ≡ y)
mapped_at f [] i y d h = absurd (cc)
mapped_at f (x ∷ xs) zero y d h = (refl, cc)
mapped_at f (x ∷ xs) (suc i) y d h = mapped_at f xs i y d h

within_length : {X : Type 0} (xs : List X) (i : ℕ) (x : X) → slice_get xs i ≡ Some x → i < length xs
within_length [] i x h = absurd (cc)
within_length (y ∷ ys) zero x h = omega arith
within_length (y ∷ ys) (suc i) x h = omega (arith, within_length ys i x h)

-- an element of a prefix
prefix_at : {X : Type 0} (n : ℕ) (xs : List X) (i : ℕ) (d : X) → i < n → get_or (take n xs) i d
    ≡ get_or xs i d
prefix_at zero xs i d h = absurd (omega arith)
prefix_at (suc n) [] i d h = refl
prefix_at (suc n) (x ∷ xs) zero d h = refl
prefix_at (suc n) (x ∷ xs) (suc i) d h = prefix_at n xs i d (omega arith)

prefix_length : {X : Type 0} (n : ℕ) (xs : List X) (i : ℕ) → i < n → i < length xs → i < length
    (take n xs)
prefix_length zero xs i h k = absurd (omega arith)
prefix_length (suc n) [] i h k = absurd (omega arith)
prefix_length (suc n) (x ∷ xs) zero h k = omega arith
prefix_length (suc n) (x ∷ xs) (suc i) h k = omega
    (arith, prefix_length n xs i (omega arith) (omega arith))

-- an element of a list, whatever the default
default_at : {X : Type 0} (xs : List X) (i : ℕ) (g d : X) → slice_get xs i ≡ Some g → get_or xs i d
    ≡ g
default_at [] i g d h = absurd (cc)
default_at (x ∷ xs) zero g d h = cc
default_at (x ∷ xs) (suc i) g d h = default_at xs i g d h

-- a relation between the elements and their images
zip_map : {X Y : Type 0} (P : X → Type 0) (R : X → Y → Type 0) (f : X → Y) →
    ((x : X) → P x → R x (f x)) → (xs : List X) → All P xs → AllZip R xs (map f xs)
zip_map P R f each [] h = tt
zip_map P R f each (x ∷ xs) h = (
  each x (All-head P x xs h),
  zip_map P R f each xs
      (All-tail P x xs h),
)

-- ---- states and discrete variables

state_near : (p k f : ℕ) (v : FlatVariable) → IsProperVariable v → IsStateOf IsRounded p k f v
    (rounded_state p k f v)
state_near p k f v h = record {
  name = refl;
  start = rounded_near (f + p + k) v.start h.0;
  quantum =
      floor_meets _ (pos v.quantum.den) (omega (arith, ints, h.1));
}

discrete_near : (f : ℕ) (v : FlatVariable) → IsProperVariable v → IsDiscreteOf IsRounded f v
    (rounded_discrete f v)
discrete_near f v h = record { name = refl; start = rounded_near f v.start h.0 }

-- ---- clauses

module _ (m : FlatModelTree) (order : List ℕ) (forms : Forms) (are : AreForms m order forms)
    (flat : IsFlatModel m) (p f : ℕ) (solved> : (v : ℕ) → HasDenominators (are.taken.solved v))
  where
    -- the exact form at a place
    record FormAt (i : ℕ) (F : AffineForm) : Type 0 where
      meaning : form_meaning (form_at forms.forms i) ≡ F
      there : slice_get forms.forms i ≡ Some (form_at forms.forms i)

    form_there : (i : ℕ) (F : AffineForm) → slice_get are.taken.kept i ≡ Some F → FormAt i F
    form_there i F h =
        let h' : slice_get (map form_meaning forms.forms) i ≡ Some F = ap (λ xs. slice_get xs i)
        are.meanings ∙ h in
        let at = mapped_at form_meaning forms.forms i F
        (record { entries = []; products = []; time = whole (pos 0); constant = whole (pos 0) })
        h' in
        record { meaning = at.1; there = at.0 }

    clause_form : (i : ℕ) (F : AffineForm) → (sizes_of m).states ≤ i → slice_get are.taken.kept i
        ≡ Some F → HasDenominators F → IsFormOf IsRounded p f F
        (rounded_form p f (form_at forms.forms i))
    clause_form i F high h F> =
        let at = form_there i F h in
        subst (λ G. IsFormOf IsRounded p f G (rounded_form p f (form_at forms.forms i))) at.meaning
        (form_near (clause_place m) p f (form_at forms.forms i) refl
        (are.others i (form_at forms.forms i) high at.there)
        (subst HasDenominators (sym at.meaning) F>))

    -- the first step of keeping: the form that is kept, where it is kept, and what follows
    record FirstKept (part : Result AffineForm AffineErr) (t u : FormsSoFar) : Type 0 where
      form : AffineForm
      is : part ≡ Ok form
      at : slice_get u.kept (length t.kept) ≡ Some form
      solved : u.solved ≡ t.solved

    first_kept : (part : Result AffineForm AffineErr) (t u : FormsSoFar) → keep (sizes_of m) part t
        ≡ Ok u → FirstKept part t u
    first_kept part t u h =
        let k = keep_kept (sizes_of m) part t u h in
        record {
          form = k.form;
          is = k.is;
          at = subst (λ (xs : List AffineForm). slice_get xs (length t.kept) ≡ Some k.form)
              (sym k.list) (got_last t.kept k.form (length t.kept) refl);
          solved = keep_same (sizes_of m) part t u h;
        }

    in_context : (g : Context → Result AffineForm AffineErr) (t : FormsSoFar) (F : AffineForm) →
        t.solved ≡ are.taken.solved → g (clause_context (sizes_of m) t.solved) ≡ Ok F → g
        (clause_context (sizes_of m) are.taken.solved) ≡ Ok F
    in_context g t F same h = subst (λ (S : ℕ → AffineForm). g (clause_context (sizes_of m) S) ≡ Ok F)
        same h

    action_near : (a : FlatAction) (i : ℕ) (F : AffineForm) → IsFlatAction m.vars a → HasProperAction
        a → (sizes_of m).states ≤ i → action_form (clause_context (sizes_of m) are.taken.solved) a
        ≡ Ok F → slice_get are.taken.kept i ≡ Some F
        → IsActionOf IsRounded (clause_context (sizes_of m) are.taken.solved) p f a
        (action_of p f forms.forms i a)
    action_near (Assign v e) i F is proper high form at = (
      refl,
      (
        F,
        form,
        clause_form i F high at
            (forms_have_values (clause_context (sizes_of m) are.taken.solved) e F solved>
            (expression_sound m flat true e is.1 proper) form).0,
      ),
    )
    action_near (Restart v e) i F is proper high form at = (
      refl,
      (
        F,
        form,
        clause_form i F high at
            (forms_have_values (clause_context (sizes_of m) are.taken.solved) e F solved>
            (expression_sound m flat true e is.1 proper) form).0,
      ),
    )

    actions_near : (xs : List FlatAction) (i : ℕ) (t u : FormsSoFar) → All (IsFlatAction m.vars) xs →
        All HasProperAction xs → t.solved ≡ are.taken.solved → length t.kept ≡ i → (sizes_of m).states
        ≤ i → Keeps u are.taken
        → keep_actions (sizes_of m) xs t ≡ Ok u → AllZip
        (IsActionOf IsRounded (clause_context (sizes_of m) are.taken.solved) p f) xs
        (actions_of p f forms.forms i xs)
    actions_near [] i t u is proper same many high keeps h = tt
    actions_near (a ∷ xs) i t u is proper same many high keeps h =
        let part = action_form (clause_context (sizes_of m) t.solved) a in
        let step = parts_of (keep (sizes_of m) part t) (keep_actions (sizes_of m) xs) u h in
        let k = first_kept part t step.0 step.1 in
        let at : slice_get are.taken.kept i ≡ Some k.form = keeps i k.form
        (actions_keep (sizes_of m) xs step.0 u step.2 i k.form
        (subst (λ j. slice_get step.0.kept j ≡ Some k.form) many k.at)) in
        let form = in_context (λ c. action_form c a) t k.form same k.is in (
          action_near a i k.form (All-head (IsFlatAction m.vars) a xs is)
              (All-head HasProperAction a xs proper) high form at,
          actions_near xs (i + 1) step.0 u (All-tail (IsFlatAction m.vars) a xs is)
              (All-tail HasProperAction a xs proper) (k.solved ∙ same)
              (omega (arith, keep_length (sizes_of m) part t step.0 step.1, many)) (omega arith) keeps
              step.2,
        )

    branches_near : (xs : List FlatBranchTree) (i : ℕ) (t u : FormsSoFar) → All (IsFlatBranch m.vars)
        xs → All HasProperBranch xs → t.solved ≡ are.taken.solved → length t.kept ≡ i →
        (sizes_of m).states ≤ i → Keeps u are.taken
        → keep_branches (sizes_of m) xs t ≡ Ok u → AllZip
        (IsBranchOf IsRounded (clause_context (sizes_of m) are.taken.solved) p f) xs
        (placed branch_forms (branch_of p f forms.forms) i xs)
    branches_near [] i t u is proper same many high keeps h = tt
    branches_near (b ∷ xs) i t u is proper same many high keeps h =
        let part = condition_form (clause_context (sizes_of m) t.solved) b in
        let step = parts_of (keep (sizes_of m) part t)
        (λ s. then_take (keep_actions (sizes_of m) b.body s) (keep_branches (sizes_of m) xs)) u h
        in
        let body = parts_of (keep_actions (sizes_of m) b.body step.0) (keep_branches (sizes_of m) xs)
        u step.2 in
        let k = first_kept part t step.0 step.1 in
        let long : length step.0.kept ≡ i + 1 = omega
        (arith, keep_length (sizes_of m) part t step.0 step.1, many) in
        let later : Keeps body.0 are.taken = λ j g there. keeps j g
        (branches_keep (sizes_of m) xs body.0 u body.2 j g there) in
        let at : slice_get are.taken.kept i ≡ Some k.form = later i k.form
        (actions_keep (sizes_of m) b.body step.0 body.0 body.1 i k.form
        (subst (λ j. slice_get step.0.kept j ≡ Some k.form) many k.at)) in
        let form = in_context (λ c. condition_form c b) t k.form same k.is in
        let own = All-head (IsFlatBranch m.vars) b xs is in
        let constants = All-head HasProperBranch b xs proper in
        let same' = k.solved ∙ same in
        let bodies = actions_same (sizes_of m) b.body step.0 body.0 body.1 in (
          record {
            exact = k.form;
            is = form;
            form = clause_form i k.form high at (conditions_have_values
                (clause_context (sizes_of m) are.taken.solved) b k.form solved>
                (expression_sound m flat true b.left own.0 constants.0)
                (expression_sound m flat true b.right own.1 constants.1) form).0;
            relation = refl;
            actions = actions_near b.body (i + 1) step.0 body.0 own.2 constants.2 same' long
                (omega arith) later body.1;
          },
          branches_near xs (i + branch_forms b) body.0 u (All-tail (IsFlatBranch m.vars) b xs is)
              (All-tail HasProperBranch b xs proper) (bodies ∙ same')
              (omega (arith, actions_length (sizes_of m) b.body step.0 body.0 body.1, long))
              (omega arith) keeps body.2,
        )

    pub clauses_near : (xs : List (List FlatBranchTree)) (i : ℕ) (t u : FormsSoFar) → All
        (IsFlatClause m.vars) xs → All (All HasProperBranch) xs → t.solved ≡ are.taken.solved → length
        t.kept ≡ i → (sizes_of m).states ≤ i → Keeps u are.taken
        → keep_clauses (sizes_of m) xs t ≡ Ok u → AllZip
        (IsClauseOf IsRounded (clause_context (sizes_of m) are.taken.solved) p f) xs
        (clauses_of p f forms.forms i xs)
    clauses_near [] i t u is proper same many high keeps h = tt
    clauses_near (bs ∷ xs) i t u is proper same many high keeps h =
        let step = parts_of (keep_branches (sizes_of m) bs t) (keep_clauses (sizes_of m) xs) u h in
        let later : Keeps step.0 are.taken = λ j g there. keeps j g
        (clauses_keep (sizes_of m) xs step.0 u step.2 j g there) in (
          branches_near bs i t step.0 (All-head (IsFlatClause m.vars) bs xs is).1
              (All-head (All HasProperBranch) bs xs proper) same many high later step.1,
          clauses_near xs (i + clause_forms bs) step.0 u (All-tail (IsFlatClause m.vars) bs xs is)
              (All-tail (All HasProperBranch) bs xs proper)
              (branches_same (sizes_of m) bs t step.0 step.1 ∙ same)
              (omega (arith, branches_length (sizes_of m) bs t step.0 step.1, many)) (omega arith)
              keeps step.2,
        )

-- ---- rows

pub machines_are_rounded : MachinesAreRounded
machines_are_rounded m order forms s machine flat proper stop are is = record {
  rows = rows;
  clauses = clauses;
  states = subst (AllZip (IsStateOf IsRounded machine.p machine.k machine.f) (states_of m.vars))
      (sym is.states)
      (zip_map IsProperVariable (IsStateOf IsRounded machine.p machine.k machine.f)
      (rounded_state machine.p machine.k machine.f) (state_near machine.p machine.k machine.f)
      (states_of m.vars) (All-take IsProperVariable _ m.vars proper.variables));
  discretes = subst (AllZip (IsDiscreteOf IsRounded machine.f) (discretes_of m.vars))
      (sym is.discretes)
      (zip_map IsProperVariable (IsDiscreteOf IsRounded machine.f) (rounded_discrete machine.f)
      (discrete_near machine.f) (discretes_of m.vars)
      (All-take IsProperVariable _ (drop (state_count m.vars) m.vars)
      (All-drop IsProperVariable _ m.vars proper.variables)));
  last = subst (λ z. IsRoundedUp machine.k s.stop z) (sym is.last_tick)
      (subst (λ k. IsRoundedUp machine.k s.stop (rounded_up k s.stop)) is.tick_bits
      (ceiling_meets _ (pos s.stop.den) (omega (arith, ints, stop))));
}
  where
    sound : (e : FlatEquationTree) → Contains m.equations e → IsSound (sizes_of m) e.value
    sound = equation_sound m flat proper

    solved> : (v : ℕ) → HasDenominators (are.taken.solved v)
    solved> = model_solved m order are.taken sound are.is

    parts : Stages m order are.taken
    parts = stages m order are.taken are.is

    none_yet : length parts.solved.kept ≡ 0
    none_yet = solve_length m order nothing_taken parts.solved parts.solves

    counted_states : state_count m.vars ≡ (sizes_of m).states
    counted_states = states_counted is_state refl refl refl m.vars

    states_same' : parts.states.solved ≡ are.taken.solved
    states_same' = sym (clauses_same (sizes_of m) m.clauses parts.states are.taken parts.clauses)

    clauses : AllZip (IsClauseOf IsRounded (clause_context (sizes_of m) are.taken.solved) machine.p
        machine.f) m.clauses machine.clauses
    clauses = subst (AllZip (IsClauseOf IsRounded (clause_context (sizes_of m) are.taken.solved)
        machine.p machine.f) m.clauses) (sym is.clauses)
        (clauses_near m order forms are flat machine.p machine.f solved> m.clauses
        (state_count m.vars) parts.states are.taken flat.clauses proper.clauses states_same'
        (omega (
          arith,
          none_yet,
          counted_states,
          states_length m 0 (sizes_of m).states parts.solved
              parts.states parts.keeps,
        )) (omega (arith, counted_states)) (λ j g there. there)
        parts.clauses)

    timeless : IsTimelessContext (equation_context (sizes_of m) are.taken.solved)
    timeless = record {
      equation = refl;
      denominators = solved>;
      timeless = subst (λ (F : ℕ → AffineForm). (v : ℕ) → (F v).time.num ≡ pos 0) (sym parts.same)
          (all_timeless m order nothing_taken parts.solved sound
          (λ v. constant_positive none (omega arith)) (λ v. refl) parts.solves);
    }

    rows : (i : ℕ) → i < (sizes_of m).states → HasRowOf IsRounded m are.taken.solved machine i
    rows i low =
        let e = right_side m.equations i in
        let fine = side_sound (sizes_of m) m.equations i sound in
        let at = state_form m 0 (sizes_of m).states parts.solved parts.states none_yet parts.keeps i
        (omega arith) (omega (arith, low)) in
        let form : form_of (equation_context (sizes_of m) are.taken.solved) e ≡ Ok at.form = subst
        (λ (F : ℕ → AffineForm). form_of (equation_context (sizes_of m) F) e ≡ Ok at.form)
        (sym parts.same) at.is in
        let F> = (forms_have_values (equation_context (sizes_of m) are.taken.solved) e at.form
        solved> fine form).0 in
        let time = form_timeless (equation_context (sizes_of m) are.taken.solved) timeless e at.form
        fine form in
        let there : FormAt m order forms are flat machine.p machine.f solved> i at.form = form_there
        m order forms are flat machine.p machine.f solved> i at.form
        (clauses_keep (sizes_of m) m.clauses parts.states are.taken parts.clauses i at.form
        at.at) in
        let g : ExactForm = form_at forms.forms i in
        let inside : i < length forms.forms = within_length forms.forms i g there.there in
        let own : get_or (take (state_count m.vars) forms.forms) i g ≡ g = prefix_at
        (state_count m.vars) forms.forms i g (omega (arith, low, counted_states)) ∙ default_at
        forms.forms i g g there.there in
        let short : i < length (take (state_count m.vars) forms.forms) = prefix_length
        (state_count m.vars) forms.forms i (omega (arith, low, counted_states)) inside in
        let row : row_at machine i ≡ rounded_row machine.p machine.f g =
        ap (λ (rows : List SlopeRow). slice_index_or rows i
        (record { entries = []; products = []; beta = pos 0 })) is.rows
        ∙ get_or-map (rounded_row machine.p machine.f) (take (state_count m.vars) forms.forms) i g _
        short ∙ ap (rounded_row machine.p machine.f) own in
        let near : IsRowOf IsRounded machine.p machine.f (form_meaning g)
        (rounded_row machine.p machine.f g) =
        row_near (equation_place m) machine.p machine.f g (are.states i g low there.there)
        (subst HasDenominators (sym there.meaning) F>)
        (subst (λ (F : AffineForm). F.time.num ≡ pos 0) (sym there.meaning) time) in (
          at.form,
          form,
          subst (λ (F : AffineForm). IsRowOf IsRounded machine.p machine.f F (row_at machine i))
              there.meaning (subst (IsRowOf IsRounded machine.p machine.f (form_meaning g))
              (sym row) near),
        )
