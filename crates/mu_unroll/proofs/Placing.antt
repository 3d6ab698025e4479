-- Where the variables of declared names stand.
use Rattle.mu_unroll.proofs.Common
use Common.{[], ℕ, ◌++◌, ◌+◌, ◌-◌, ◌<◌, ◌∙◌, ◌∷◌, ◌≡◌, ◌≤◌, add-one, added_at, Algebraic, ap}
use Common.{append-nil, append_assoc, ArePlaced, arith, Bool, bytes_eq, Constant, count_of_kind}
use Common.{declared_in, Discrete, drop, element_name, elements_from, false, first_meant}
use Common.{first_of_kind, FlatRole, get_or, has_kind, if◌then◌else◌, kind_of, Known, length, List}
use Common.{meant_after, NameDenotation, next_number, None, Nothing, Option, refl, scalar}
use Common.{scalar_count, Some, State, suc, sym, take, take-suc, true, unwrap_or, Variable, width}
use Rattle.std.specs.Option.{option_or}
use Rattle.std.proofs.Math.Path.{fun_ext}
use Rattle.std.proofs.lemmas.List.{take-append-drop}
use Rattle.mu_unroll.specs.declared.flat_variables.Next.{Next}
use Rattle.mu_unroll.specs.Nexts.{next_after, meant_at_next, after_known}
use Rattle.mu_unroll.specs.VariablePlaces.{IsPlaced, is_kind}

-- one element and those after it
pub elements_step : (kind : FlatRole) (k : Known) (before count : ℕ) → before < count → elements_from kind k (before + 1) (count - before) ≡ scalar kind k (element_name k.name (before + 1)) ∷ elements_from kind k (before + 1 + 1) (count - (before + 1))
elements_step kind k before count h =
    let one : count - before ≡ suc (count - (before + 1)) = omega arith in
    ap (elements_from kind k (before + 1)) one

-- how many variables one more name has
abbrev pub width_in : FlatRole → Known → ℕ
width_in kind k = if has_kind kind k then width k.size else 0

-- the count of two lists
pub count-append : (kind : FlatRole) (xs ys : List Known) → count_of_kind kind (xs ++ ys) ≡ count_of_kind kind xs + count_of_kind kind ys
count-append kind [] ys = omega arith
count-append kind (k ∷ ks) ys = by_test (has_kind kind k) (count-append kind ks ys)
  where
    by_test : (t : Bool) → count_of_kind kind (ks ++ ys) ≡ count_of_kind kind ks + count_of_kind kind ys
        → (if t then width k.size + count_of_kind kind (ks ++ ys) else count_of_kind kind (ks ++ ys)) ≡ (if t then width k.size + count_of_kind kind ks else count_of_kind kind ks) + count_of_kind kind ys
    by_test true e = omega arith
    by_test false e = e

-- the count of one name
pub count-one : (kind : FlatRole) (k : Known) → count_of_kind kind (k ∷ []) ≡ width_in kind k
count-one kind k = by_test (has_kind kind k)
  where
    by_test : (t : Bool) → (if t then width k.size + 0 else 0) ≡ (if t then width k.size else 0)
    by_test true = omega arith
    by_test false = refl

-- the last number of a kind is within all
pub within_all : (kind : FlatRole) (ks : List Known) → first_of_kind kind ks + count_of_kind kind ks ≤ scalar_count ks
within_all State ks = omega arith
within_all Discrete ks = omega arith
within_all Algebraic ks = omega arith

-- a kind is itself
same_kind : (kind : FlatRole) → is_kind kind kind ≡ true
same_kind State = refl
same_kind Discrete = refl
same_kind Algebraic = refl

-- the variables of a name that has a kind
pub width_of : (kind : FlatRole) (k : Known) → kind_of k.role ≡ Some kind → width_in kind k ≡ width k.size
width_of kind k e = width_by kind k (kind_of k.role) refl e
  where
    width_by : (kind : FlatRole) (k : Known) (o : Option FlatRole) → kind_of k.role ≡ o → o ≡ Some kind → width_in kind k ≡ width k.size
    width_by kind k o is e = rw (is, e, same_kind kind) refl

-- one more name
push_step : (x : Option NameDenotation) (t : Bool) (r s w : Option NameDenotation) → option_or r w ≡ s → option_or (if t then x else r) w ≡ (if t then option_or x w else s)
push_step x true r s w e = refl
push_step x false r s w e = e

push_at : (all before xs : List Known) (k : Known) (q : List ℕ) → option_or (first_meant all before xs q) (if bytes_eq k.name q then Some (meant_after all (before ++ xs) k) else None) ≡ first_meant all before (xs ++ k ∷ []) q
push_at all before [] k q = ap (λ ys. if bytes_eq k.name q then Some (meant_after all ys k) else None) (append-nil before)
push_at all before (x ∷ xs) k q =
    let later : option_or (first_meant all (before ++ x ∷ []) xs q) (if bytes_eq k.name q then Some (meant_after all (before ++ x ∷ xs) k) else None) ≡ first_meant all (before ++ x ∷ []) (xs ++ k ∷ []) q =
    ap (λ ys. option_or (first_meant all (before ++ x ∷ []) xs q) (if bytes_eq k.name q then Some (meant_after all ys k) else None)) (sym (append_assoc before (x ∷ []) xs)) ∙ push_at all (before ++ x ∷ []) xs k q in
    push_step (Some (meant_after all before x)) (bytes_eq x.name q) (first_meant all (before ++ x ∷ []) xs q) (first_meant all (before ++ x ∷ []) (xs ++ k ∷ []) q) (if bytes_eq k.name q then Some (meant_after all (before ++ x ∷ xs) k) else None) later

pub meant-push : (all xs : List Known) (k : Known) → added_at (first_meant all [] xs) k.name (meant_after all xs k) ≡ first_meant all [] (xs ++ k ∷ [])
meant-push all xs k = fun_ext (push_at all [] xs k)

-- the next numbers determine what a name denotes
pub meant_is : (all xs : List Known) (n : Next) (k : Known) → ((kind : FlatRole) → next_number n kind ≡ first_of_kind kind all + count_of_kind kind xs) → meant_at_next n k ≡ meant_after all xs k
meant_is all xs n k numbers = by_kind (kind_of k.role)
  where
    by_kind : (o : Option FlatRole) → (elim o as (λ _. NameDenotation) [ None ↦ Constant k.value | Some kind ↦ Variable kind (next_number n kind) k.size ]) ≡ (elim o as (λ _. NameDenotation) [ None ↦ Constant k.value | Some kind ↦ Variable kind (first_of_kind kind all + count_of_kind kind xs) k.size ])
    by_kind None = refl
    by_kind (Some kind) = ap (λ v. Variable kind v k.size) (numbers kind)

-- the next numbers after a name
next_is : (n : Next) (kind other : FlatRole) (count : ℕ) → next_number (next_after n kind count) other ≡ next_number n other + (if is_kind other kind then count else 0)
next_is n State State count = refl
next_is n State Discrete count = omega arith
next_is n State Algebraic count = omega arith
next_is n Discrete State count = omega arith
next_is n Discrete Discrete count = refl
next_is n Discrete Algebraic count = omega arith
next_is n Algebraic State count = omega arith
next_is n Algebraic Discrete count = omega arith
next_is n Algebraic Algebraic count = refl

pub after_is : (n : Next) (k : Known) (other : FlatRole) → next_number (after_known n k) other ≡ next_number n other + width_in other k
after_is n k other = by_kind (kind_of k.role)
  where
    by_kind : (o : Option FlatRole) → next_number (elim o as (λ _. Next) [ None ↦ n | Some kind ↦ next_after n kind (width k.size) ]) other
        ≡ next_number n other + (if (elim o as (λ _. Bool) [ None ↦ false | Some kind ↦ is_kind other kind ]) then width k.size else 0)
    by_kind None = omega arith
    by_kind (Some kind) = next_is n kind other (width k.size)

-- the names so far, and one more
pub taken_more : (ks : List Known) (i : ℕ) (k : Known) → i < length ks → k ≡ get_or ks i k → take (i + 1) ks ≡ take i ks ++ k ∷ []
taken_more ks i k h e = rw (add-one, take-suc ks i k h, ← e) refl

-- the count of the names so far is at most that of all
pub count-take : (kind : FlatRole) (ks : List Known) (i : ℕ) → count_of_kind kind (take i ks) ≤ count_of_kind kind ks
count-take kind ks i = omega (arith, sym (count-append kind (take i ks) (drop i ks)) ∙ ap (count_of_kind kind) (take-append-drop i ks))

-- the variables of a name are among those of its kind
pub room_for : (all before rest : List Known) (k : Known) (kind : FlatRole) → all ≡ before ++ k ∷ rest → kind_of k.role ≡ Some kind → count_of_kind kind before + width k.size ≤ count_of_kind kind all
room_for all before rest k kind e is =
    let whole : count_of_kind kind all ≡ count_of_kind kind before + (count_of_kind kind (k ∷ []) + count_of_kind kind rest) =
    ap (count_of_kind kind) e ∙ count-append kind before (k ∷ rest) ∙ ap (λ c. count_of_kind kind before + c) (count-append kind (k ∷ []) rest) in
    omega (arith, count-one kind k, width_of kind k is)

-- what holds of the denotation by each declaration holds of what a name denotes
module _ (P : NameDenotation → Type 0) (all : List Known) (nothing : P Nothing) (each : (before rest : List Known) (k : Known) → all ≡ before ++ k ∷ rest → P (meant_after all before k)) where
  declared_from : (before ks : List Known) (name : List ℕ) → all ≡ before ++ ks → P (unwrap_or (first_meant all before ks name) Nothing)
  declared_from before [] name e = nothing
  declared_from before (k ∷ ks) name e =
      by_test (bytes_eq k.name name) (declared_from (before ++ k ∷ []) ks name (e ∙ sym (append_assoc before (k ∷ []) ks)))
    where
      by_test : (t : Bool) → P (unwrap_or (first_meant all (before ++ k ∷ []) ks name) Nothing) → P (unwrap_or (if t then Some (meant_after all before k) else first_meant all (before ++ k ∷ []) ks name) Nothing)
      by_test true later = each before ks k e
      by_test false later = later

  pub declared_have : (name : List ℕ) → P (declared_in all name)
  declared_have name = declared_from [] all name refl

-- the variables of a name are in range
placed_one : (n : ℕ) (all before rest : List Known) (k : Known) → all ≡ before ++ k ∷ rest → scalar_count all ≤ n → IsPlaced n (meant_after all before k)
placed_one n all before rest k e h = by_kind (kind_of k.role) refl
  where
    by_kind : (o : Option FlatRole) → kind_of k.role ≡ o → IsPlaced n (elim o as (λ _. NameDenotation) [ None ↦ Constant k.value | Some kind ↦ Variable kind (first_of_kind kind all + count_of_kind kind before) k.size ])
    by_kind None is = tt
    by_kind (Some kind) is = omega (arith, within_all kind all, room_for all before rest k kind e is)

-- all names are placed
pub all_placed : (ks : List Known) → scalar_count ks ≤ 4096 → ArePlaced 4096 (declared_in ks)
all_placed ks h = declared_have (IsPlaced 4096) ks tt (λ before rest k e. placed_one 4096 ks before rest k e h)
