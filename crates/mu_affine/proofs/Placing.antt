-- Lists whose elements each take their forms from a place on.
use Rattle.mu_affine.proofs.Common
use Common.{[], ℕ, ◌++◌, ◌+◌, ◌-◌, ◌<◌, ◌∙◌, ◌∷◌, ◌≡◌, ◌≤◌, add-zero, All, All-cons, All-head}
use Common.{All-nil, All-tail, ap, arith, Check, checks, Coefficient, drop, drop_more, ExactForm}
use Common.{false, first_failed, form_checks, form_fits, get_or, inr, IsRefusal, length}
use Common.{length-drop, length-take-le, List, MachineErr, None, placed, refl, rounded_form, subst}
use Common.{suc, sum_by, sum_by-cons, sym, take, take_more, true}
use Rattle.std.proofs.Math.Seq.{take-add}
use Rattle.std.proofs.lemmas.List.{drop-drop}
use Rattle.std.proofs.lemmas.List.Sums.{sum_by_more, sum_by_more_le}
use Rattle.mu_affine.proofs.Failing.{checks-append, one_holds, one_fails, none_failed}
use Rattle.mu_affine.proofs.Failing.{refused_before, refused_after}

-- as many ones as elements
pub ones : {X : Type 0} (xs : List X) → sum_by (λ x. 1) xs ≡ length xs
ones [] = refl
ones (x ∷ xs) = omega (arith, sum_by-cons (λ x. 1) x xs, ones xs)

-- one element more at the end
pub placed-push : {X Y : Type 0} (forms : X → ℕ) (make : ℕ → X → Y) (place : ℕ) (xs : List X) (x : X) →
    placed forms make place (xs ++ x ∷ []) ≡ placed forms make place xs ++ make (place + sum_by forms xs) x ∷ []
placed-push forms make place [] x = ap (λ k. make k x ∷ []) (sym (add-zero place))
placed-push forms make place (y ∷ ys) x =
    let next : place + forms y + sum_by forms ys ≡ place + sum_by forms (y ∷ ys) = omega (arith, sum_by-cons forms y ys) in
    ap (λ zs. make place y ∷ zs) (placed-push forms make (place + forms y) ys x ∙ ap (λ k. placed forms make (place + forms y) ys ++ make k x ∷ []) next)

-- a turn of a loop
pub placed_more : {X Y : Type 0} (forms : X → ℕ) (make : ℕ → X → Y) (place : ℕ) (xs : List X) (i : ℕ) (d : X) → i < length xs →
    placed forms make place (take (i + 1) xs) ≡ placed forms make place (take i xs) ++ make (place + sum_by forms (take i xs)) (get_or xs i d) ∷ []
placed_more forms make place xs i d h = ap (placed forms make place) (take_more xs i d h) ∙ placed-push forms make place (take i xs) (get_or xs i d)

-- what holds of what each element makes, where it takes its forms before an end
pub placed_all : {X Y : Type 0} (forms : X → ℕ) (make : ℕ → X → Y) (P : Y → Type 0) (Q : X → Type 0) (low end place : ℕ) (xs : List X) →
    ((k : ℕ) (x : X) → low ≤ k → k + forms x ≤ end → Q x → P (make k x)) → low ≤ place → place + sum_by forms xs ≤ end → All Q xs → All P (placed forms make place xs)
placed_all forms make P Q low end place [] each start within all = All-nil P
placed_all forms make P Q low end place (x ∷ xs) each start within all =
    let room : place + forms x + sum_by forms xs ≤ end = omega (arith, sum_by-cons forms x xs) in
    All-cons P (make place x) (placed forms make (place + forms x) xs) (each place x start (omega arith) (All-head Q x xs all))
    (placed_all forms make P Q low end (place + forms x) xs each (omega arith) room (All-tail Q x xs all))

-- as many elements
pub placed_length : {X Y : Type 0} (forms : X → ℕ) (make : ℕ → X → Y) (place : ℕ) (xs : List X) → length (placed forms make place xs) ≡ length xs
placed_length forms make place [] = refl
placed_length forms make place (x ∷ xs) = ap suc (placed_length forms make (place + forms x) xs)

-- a sum over what was made
pub placed_sum : {X Y : Type 0} (forms : X → ℕ) (make : ℕ → X → Y) (count : Y → ℕ) (place : ℕ) (xs : List X) →
    ((k : ℕ) (x : X) → count (make k x) ≡ forms x) → sum_by count (placed forms make place xs) ≡ sum_by forms xs
placed_sum forms make count place [] each = refl
placed_sum forms make count place (x ∷ xs) each =
    let rest = placed_sum forms make count (place + forms x) xs each in
    omega (arith, sum_by-cons forms x xs, sum_by-cons count (make place x) (placed forms make (place + forms x) xs), each place x, rest)

-- the checks of forms are those of the first ones and those of the others
pub form_checks-add : (p f : ℕ) (forms : List ExactForm) (place a b : ℕ) → place + a + b ≤ length forms →
    form_checks p f forms place (a + b) ≡ form_checks p f forms place a ++ form_checks p f forms (place + a) b
form_checks-add p f forms place a b within =
    let rest = drop place forms in
    let long : length (take a rest) ≡ a = length-take-le a rest (omega (arith, length-drop place forms)) in
    ap (checks (λ form. form_fits (rounded_form p f form)) Coefficient (place + 1)) (take-add a b rest ∙ ap (λ xs. take a rest ++ take b xs) (drop-drop a place forms))
    ∙ checks-append (λ form. form_fits (rounded_form p f form)) Coefficient (place + 1) (take a rest) (take b (drop (place + a) forms))
    ∙ ap (λ k. form_checks p f forms place a ++ checks (λ form. form_fits (rounded_form p f form)) Coefficient k (take b (drop (place + a) forms)))
    (ap (λ l. place + 1 + l) long ∙ omega arith)

-- the check of one form
pub one_form_holds : (p f : ℕ) (forms : List ExactForm) (place : ℕ) (x : ExactForm) → place < length forms → x ≡ get_or forms place x → form_fits (rounded_form p f x) ≡ true →
    first_failed (form_checks p f forms place 1) ≡ None
one_form_holds p f forms place x h at fits =
    ap (λ xs. first_failed (checks (λ form. form_fits (rounded_form p f form)) Coefficient (place + 1) (take 1 xs))) (drop_more forms place x h)
    ∙ one_holds (form_fits (rounded_form p f (get_or forms place x))) (Coefficient (place + 1)) (ap (λ z. form_fits (rounded_form p f z)) (sym at) ∙ fits)

pub one_form_fails : (p f : ℕ) (forms : List ExactForm) (place : ℕ) (x : ExactForm) → place < length forms → x ≡ get_or forms place x → form_fits (rounded_form p f x) ≡ false →
    IsRefusal (form_checks p f forms place 1) (Coefficient (place + 1))
one_form_fails p f forms place x h at unfit =
    inr (ap (λ xs. first_failed (checks (λ form. form_fits (rounded_form p f form)) Coefficient (place + 1) (take 1 xs))) (drop_more forms place x h)
    ∙ one_fails (form_fits (rounded_form p f (get_or forms place x))) (Coefficient (place + 1)) [] (ap (λ z. form_fits (rounded_form p f z)) (sym at) ∙ unfit))

-- ---- a loop over elements that each take their forms from a place on

-- the checks of the forms so far and of the next ones
pub forms_turn : (p f : ℕ) (forms : List ExactForm) (first a b : ℕ) → first + a + b ≤ length forms → first_failed (form_checks p f forms first a) ≡ None →
    first_failed (form_checks p f forms (first + a) b) ≡ None → first_failed (form_checks p f forms first (a + b)) ≡ None
forms_turn p f forms first a b within before next =
    ap first_failed (form_checks-add p f forms first a b within) ∙ none_failed (form_checks p f forms first a) (form_checks p f forms (first + a) b) before next

-- a form that is refused, where none was before
pub forms_refused : (p f : ℕ) (forms : List ExactForm) (first a b total : ℕ) (fault : MachineErr) → a + b ≤ total → first + total ≤ length forms →
    first_failed (form_checks p f forms first a) ≡ None → IsRefusal (form_checks p f forms (first + a) b) fault → IsRefusal (form_checks p f forms first total) fault
forms_refused p f forms first a b total fault part within before refused =
    let rest = total - (a + b) in
    let whole : a + b + rest ≡ total = omega arith in
    let P : List Check → Type 0 = λ cs. IsRefusal cs fault in
    let two = subst P (sym (form_checks-add p f forms first a b (omega arith))) (refused_after (form_checks p f forms first a) (form_checks p f forms (first + a) b) fault before refused) in
    let three = subst P (sym (form_checks-add p f forms first (a + b) rest (omega arith)))
    (refused_before (form_checks p f forms first (a + b)) (form_checks p f forms (first + (a + b)) rest) fault two) in
    subst (λ (count : ℕ). IsRefusal (form_checks p f forms first count) fault) whole three

-- one of the first forms that is refused
pub forms_refused_first : (p f : ℕ) (forms : List ExactForm) (first a total : ℕ) (fault : MachineErr) → a ≤ total → first + total ≤ length forms →
    IsRefusal (form_checks p f forms first a) fault → IsRefusal (form_checks p f forms first total) fault
forms_refused_first p f forms first a total fault part within refused =
    let rest = total - a in
    let whole : a + rest ≡ total = omega arith in
    let P : List Check → Type 0 = λ cs. IsRefusal cs fault in
    let two = subst P (sym (form_checks-add p f forms first a rest (omega arith))) (refused_before (form_checks p f forms first a) (form_checks p f forms (first + a) rest) fault refused) in
    subst (λ (count : ℕ). IsRefusal (form_checks p f forms first count) fault) whole two

-- what was made so far, and one more
pub placed_turn : {X Y : Type 0} (forms : X → ℕ) (make : ℕ → X → Y) (first : ℕ) (xs : List X) (i : ℕ) (x : X) (before : List Y) (next : ℕ) (y : Y) → i < length xs → x ≡ get_or xs i x →
    before ≡ placed forms make first (take i xs) → next ≡ first + sum_by forms (take i xs) → y ≡ make next x → before ++ y ∷ [] ≡ placed forms make first (take (i + 1) xs)
placed_turn forms make first xs i x before next y h at so_far place is =
    ap (λ ys. ys ++ y ∷ []) so_far
    ∙ ap (λ z. placed forms make first (take i xs) ++ z ∷ []) (is ∙ ap (λ k. make k x) place ∙ ap (make (first + sum_by forms (take i xs))) at)
    ∙ sym (placed_more forms make first xs i x h)

-- the place of the next form
pub place_turn : {X : Type 0} (forms : X → ℕ) (first : ℕ) (xs : List X) (i : ℕ) (x : X) (next : ℕ) → i < length xs → x ≡ get_or xs i x →
    next ≡ first + sum_by forms (take i xs) → next + forms x ≡ first + sum_by forms (take (i + 1) xs)
place_turn forms first xs i x next h at place = omega (arith, sum_by_more forms xs i x h, ap forms at)

-- and that it is among all forms
pub place_within : {X : Type 0} (forms : X → ℕ) (xs : List X) (i : ℕ) (x : X) → i < length xs → x ≡ get_or xs i x → sum_by forms (take i xs) + forms x ≤ sum_by forms xs
place_within forms xs i x h at = omega (arith, sum_by_more_le forms xs i x h, ap forms at)

-- the checks of a turn, by what it reads
module _ {X : Type 0} (p f : ℕ) (forms : List ExactForm) (size : X → ℕ) (first : ℕ) (xs : List X) (i : ℕ) (x : X) (next : ℕ) (inside : i < length xs) (at : x ≡ get_or xs i x)
    (place : next ≡ first + sum_by size (take i xs)) (within : first + sum_by size xs ≤ length forms) (before : first_failed (form_checks p f forms first (sum_by size (take i xs))) ≡ None) where
  abbrev so_far : ℕ
  so_far = sum_by size (take i xs)

  room : so_far + size x ≤ sum_by size xs
  room = place_within size xs i x inside at

  pub none_turn : first_failed (form_checks p f forms next (size x)) ≡ None → first_failed (form_checks p f forms first (sum_by size (take (i + 1) xs))) ≡ None
  none_turn own =
      let one_more : sum_by size (take (i + 1) xs) ≡ so_far + size x = sum_by_more size xs i x inside ∙ ap (λ y. so_far + size y) (sym at) in
      ap (λ n. first_failed (form_checks p f forms first n)) one_more
      ∙ forms_turn p f forms first so_far (size x) (omega (arith, room, within)) before (ap (λ n. first_failed (form_checks p f forms n (size x))) (sym place) ∙ own)

  pub refused_turn : (total : ℕ) (fault : MachineErr) → total ≡ sum_by size xs → IsRefusal (form_checks p f forms next (size x)) fault → IsRefusal (form_checks p f forms first total) fault
  refused_turn total fault whole refused =
      forms_refused p f forms first so_far (size x) total fault (omega (arith, room, whole)) (omega (arith, within, whole)) before
      (subst (λ n. IsRefusal (form_checks p f forms n (size x)) fault) place refused)
