-- How lists of places grow.
use Rattle.qss_machine.proofs.Common
use Common.{[], ℕ, ◌++◌, ◌+◌, ◌<◌, ◌==◌, ◌||◌, ◌∙◌, ◌∷◌, ◌≡◌, All, All-cons, All-nil, ap}
use Common.{append-nil, arith, Bool, BranchInfo, Collects, Condition, condition_reads, eqb-true}
use Common.{false, fill_by_all, get_or, get_or-map, Global, if◌then◌else◌, length, length-append}
use Common.{length-map, List, map, map-append, MarksBy, places_from, refl, set, subst, suc, sym}
use Common.{tabulate, take, take_more, true, Vec, zero-add}
use Rattle.std.proofs.lemmas.List.{get_or-set_other, length-set, map-set, length-take-le}
use Rattle.std.proofs.lemmas.List.{append_assoc}
use Rattle.std.proofs.lemmas.Grind.{get_or-set_at}
use Rattle.std.proofs.Math.Bool.{or_assoc}
use Rattle.mu_num.proofs.Tests.{eqb-false}
use Rattle.qss_machine.specs.Marks.{AppendsOnce, IsMarked}
use Rattle.qss_machine.proofs.Places.{places-append}

or-true : (a : Bool) → a || true ≡ true
or-true true = refl
or-true false = refl

or-false : (a : Bool) → a || false ≡ a
or-false true = refl
or-false false = refl

-- one list takes the place
abbrev tail : Bool → ℕ → List ℕ
tail b place = if b then place ∷ [] else []

noted : (before old new : List ℕ) (place : ℕ) (seen : Bool) → All (λ q. q < place) before → AppendsOnce old new place → old ≡ before ++ tail seen place → new ≡ before ++ place ∷ []
noted before old new place true below once e = once.again before e ∙ e
noted before old new place false below once e =
    let same : old ≡ before = e ∙ append-nil before in
    once.first (subst (All (λ q. q < place)) (sym same) below) ∙ ap (λ xs. xs ++ place ∷ []) same

marked_at : (before old : List (List ℕ)) (list : List ℕ) (var place v : ℕ) (seen : ℕ → Bool) (t : Bool) → (var == v) ≡ t → var < length old →
    AppendsOnce (get_or old var []) list place → IsMarked before old place seen → v < length before →
    get_or (set old var list) v [] ≡ get_or before v [] ++ tail (seen v || t) place
marked_at before old list var place v seen true e inside once m h =
    let same : v ≡ var = sym (eqb-true var v e) in
    get_or-set_at old var v list [] same inside
    ∙ noted (get_or before v []) (get_or old var []) list place (seen v) (m.below v h) once (ap (λ i. get_or old i []) (sym same) ∙ m.each v h)
    ∙ ap (λ b. get_or before v [] ++ tail b place) (sym (or-true (seen v)))
marked_at before old list var place v seen false e inside once m h =
    get_or-set_other old var v list [] (λ same. eqb-false var v e (sym same)) ∙ m.each v h
    ∙ ap (λ b. get_or before v [] ++ tail b place) (sym (or-false (seen v)))

pub marked : (old : List (List ℕ)) (list : List ℕ) (var place : ℕ) → var < length old → AppendsOnce (get_or old var []) list place → MarksBy old (set old var list) place (λ v. var == v)
marked old list var place inside once = record {
  as_many = length-set old var list;
  marks = λ before seen m. record {
    as_many = length-set old var list ∙ m.as_many;
    below = m.below;
    each = λ v h. marked_at before old list var place v seen (var == v) refl inside once m h;
  };
}

-- the same marks under an equivalent test
retest : (before now : List (List ℕ)) (place : ℕ) (s t : ℕ → Bool) → ((v : ℕ) → s v ≡ t v) → IsMarked before now place s → IsMarked before now place t
retest before now place s t same m = record {
  as_many = m.as_many;
  below = m.below;
  each = λ v h. m.each v h ∙ ap (λ b. get_or before v [] ++ tail b place) (same v);
}

-- marks after marks
pub marks_more : (a b c : List (List ℕ)) (place : ℕ) (s t both : ℕ → Bool) → ((v : ℕ) → both v ≡ (s v || t v)) → MarksBy a b place s → MarksBy b c place t → MarksBy a c place both
marks_more a b c place s t both is first second = record {
  as_many = second.as_many ∙ first.as_many;
  marks = λ before seen m.
      retest before c place (λ v. (seen v || s v) || t v) (λ v. seen v || both v)
      (λ v. or_assoc (seen v) (s v) (t v) ∙ ap (λ x. seen v || x) (sym (is v)))
      (second.marks before (λ v. seen v || s v) (first.marks before seen m));
}

-- no marks
pub marks_none : (a : List (List ℕ)) (place : ℕ) (none : ℕ → Bool) → ((v : ℕ) → none v ≡ false) → MarksBy a a place none
marks_none a place none is = record {
  as_many = refl;
  marks = λ before seen m. retest before a place seen (λ v. seen v || none v) (λ v. sym (ap (λ x. seen v || x) (is v) ∙ or-false (seen v))) m;
}

-- the list that a vector holds
abbrev pub items_of : Vec ℕ Global → List ℕ
items_of list = list.items

pub marked_vec : (lists : List (Vec ℕ Global)) (here list : Vec ℕ Global) (var place : ℕ) → var < length lists → here ≡ get_or lists var here →
    AppendsOnce (items_of here) (items_of list) place → MarksBy (map items_of lists) (map items_of (set lists var list)) place (λ v. var == v)
marked_vec lists here list var place inside at once =
    let same : items_of here ≡ get_or (map items_of lists) var [] = ap items_of at ∙ sym (get_or-map items_of lists var here [] inside) in
    let within : var < length (map items_of lists) = rw (length-map lists items_of) inside in
    subst (λ new. MarksBy (map items_of lists) new place (λ v. var == v)) (sym (map-set items_of lists var list))
    (marked (map items_of lists) (items_of list) var place within (subst (λ old. AppendsOnce old (items_of list) place) same once))

-- places that are found are below the end
pub places_below : {X : Type 0} (test : X → Bool) (i : ℕ) (xs : List X) → All (λ q. q < i + length xs) (places_from test i xs)
places_below test i [] = All-nil (λ (q : ℕ). q < i + 0)
places_below test i (x ∷ xs) =
    let next : i + 1 + length xs ≡ i + suc (length xs) = omega arith in
    by_test (test x) (places_from test (i + 1) xs) (i + suc (length xs)) (omega arith)
    (subst (λ n. All (λ q. q < n) (places_from test (i + 1) xs)) next (places_below test (i + 1) xs))
  where
    by_test : (t : Bool) (rest : List ℕ) (n : ℕ) → i < n → All (λ q. q < n) rest → All (λ q. q < n) (if t then i ∷ rest else rest)
    by_test true rest n h below = All-cons (λ (q : ℕ). q < n) i rest h below
    by_test false rest n h below = below

-- one more element
module _ {X : Type 0} (reads : ℕ → X → Bool) (count : ℕ) (old new : List (List ℕ)) where
  collect_step : (xs : List X) (y : X) → MarksBy old new (length xs) (λ v. reads v y) → Collects reads xs count old → Collects reads (xs ++ y ∷ []) count new
  collect_step xs y m c =
      let inside : (v : ℕ) → v < length old → v < count = λ v h. subst (λ n. v < n) c.as_many h in
      let within : (v : ℕ) → v < count → v < length old = λ v h. subst (λ n. v < n) (sym c.as_many) h in
      let below : (v : ℕ) → v < length old → All (λ q. q < length xs) (get_or old v []) = λ v h.
      subst (All (λ q. q < length xs)) (sym (c.each v (inside v h)))
      (subst (λ n. All (λ q. q < n) (places_from (reads v) 0 xs)) (zero-add (length xs)) (places_below (reads v) 0 xs)) in
      let marked_lists : IsMarked old new (length xs) (λ v. false || reads v y) =
      m.marks old (λ v. false) (record { as_many = refl; below = below; each = λ v h. sym (append-nil (get_or old v [])) }) in
      record {
        as_many = marked_lists.as_many ∙ c.as_many;
        each = λ v h. marked_lists.each v (within v h) ∙ ap (λ ps. ps ++ tail (reads v y) (length xs)) (c.each v h)
            ∙ sym (places-append (reads v) 0 xs (y ∷ []) ∙ ap (λ n. places_from (reads v) 0 xs ++ tail (reads v y) n) (zero-add (length xs)));
      }

  pub collect_more : (xs : List X) (k : ℕ) (d : X) → k < length xs → MarksBy old new k (λ v. reads v (get_or xs k d)) →
      Collects reads (take k xs) count old → Collects reads (take (k + 1) xs) count new
  collect_more xs k d h m c =
      let at : length (take k xs) ≡ k = length-take-le k xs (omega arith) in
      subst (λ ys. Collects reads ys count new) (sym (take_more xs k d h))
      (collect_step (take k xs) (get_or xs k d) (subst (λ n. MarksBy old new n (λ v. reads v (get_or xs k d))) (sym at) m) c)

-- the lists are those of the definition
pub collected : {X : Type 0} (reads : ℕ → X → Bool) (xs : List X) (count : ℕ) (lists : List (List ℕ)) → Collects reads xs count lists →
    lists ≡ tabulate count (λ v. places_from (reads v) 0 xs)
collected reads xs count lists c = fill_by_all (λ v. places_from (reads v) 0 xs) lists count [] c.as_many c.each

-- one more branch
abbrev pub condition_of : BranchInfo → Condition
condition_of branch = branch.condition

pub collect_branch : (count : ℕ) (old new : List (List ℕ)) (before : List Condition) (branches : List BranchInfo) (k first : ℕ) (d : BranchInfo) → k < length branches →
    length before ≡ first → MarksBy old new (first + k) (λ v. condition_reads v (get_or branches k d).condition) →
    Collects condition_reads (before ++ map condition_of (take k branches)) count old → Collects condition_reads (before ++ map condition_of (take (k + 1) branches)) count new
collect_branch count old new before branches k first d h from m c =
    let xs : List Condition = before ++ map condition_of (take k branches) in
    let taken : length (take k branches) ≡ k = length-take-le k branches (omega arith) in
    let at : length xs ≡ first + k = omega (arith, length-append before (map condition_of (take k branches)), length-map (take k branches) condition_of) in
    let whole : before ++ map condition_of (take (k + 1) branches) ≡ xs ++ (get_or branches k d).condition ∷ [] =
    ap (λ bs. before ++ map condition_of bs) (take_more branches k d h) ∙ ap (λ cs. before ++ cs) (map-append condition_of (take k branches) (get_or branches k d ∷ []))
    ∙ sym (append_assoc before (map condition_of (take k branches)) ((get_or branches k d).condition ∷ [])) in
    subst (λ ys. Collects condition_reads ys count new) (sym whole)
    (collect_step condition_reads count old new xs (get_or branches k d).condition (subst (λ n. MarksBy old new n (λ v. condition_reads v (get_or branches k d).condition)) (sym at) m) c)
