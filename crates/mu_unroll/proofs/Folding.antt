-- Constant folding in loops: equal values, bounds, rounds and steps.
use Rattle.mu_unroll.proofs.Common
use Common.{[], ℕ, ℤ, ◌++◌, ◌+ℤ◌, ◌+◌, ◌<◌, ◌∙◌, ◌∷◌, ◌≡◌, add-one, ap, ap₂, bind_result, Bool}
use Common.{bounds_of, bytes_eq, constant_of, constant_value, constants_in, Err, Expression}
use Common.{Factors, false, Fraction, get_or, IfErr, IfOk, if◌then◌else◌, inside, IsFault}
use Common.{IsSameConstant, IsSameStep, length, List, loop_value, looped, LoopVar, meant_in}
use Common.{NameDenotation, None, Ok, Option, pos, product_value, Progress, progress, range, refl}
use Common.{repeated, Result, Rounds, rounds_from, Some, subst, suc, sum_value, sym, take, take-suc}
use Common.{Terms, true, UnrollErr, whole, whole_at, with_round, zero, zero_value}
use Rattle.std.proofs.lemmas.Slice.Eq.{bytes_eq-Decides}
use Rattle.mu_unroll.specs.ConstantFolding.{HidesNoConstant}

-- equal steps after an equal result
pub bind_same : {A B : Type 0} (r : Result A UnrollErr) (f g : A → Result B UnrollErr)
    → ((a : A) → f a ≡ g a) → bind_result r f ≡ bind_result r g
bind_same {A} {B} (Ok a) f g h = h a
bind_same {A} {B} (Err e) f g h = refl

pub bind_both : {A B : Type 0} (r s : Result A UnrollErr) (f g : A → Result B UnrollErr) → r ≡ s
    → ((a : A) → f a ≡ g a) → bind_result r f ≡ bind_result s g
bind_both {A} {B} r s f g e h = ap (λ x. bind_result x f) e ∙ bind_same s f g h

bind_twice : {A B C : Type 0} (r : Result A UnrollErr) (f : A → Result B UnrollErr)
    (g : B → Result C UnrollErr)
    → bind_result (bind_result r f) g ≡ bind_result r (λ a. bind_result (f a) g)
bind_twice {A} {B} {C} (Ok a) f g = refl
bind_twice {A} {B} {C} (Err e) f g = refl

bind_none : {A : Type 0} (r : Result A UnrollErr) → bind_result r (λ a. Ok a) ≡ r
bind_none {A} (Ok a) = refl
bind_none {A} (Err e) = refl

-- a loop variable that hides no constant
append_none : (loops : List LoopVar) (l : LoopVar) (name : List ℕ) → loop_value loops name ≡ None
    → bytes_eq l.name name ≡ false → loop_value (loops ++ l ∷ []) name ≡ None
append_none [] l name h e = rw e refl
append_none (x ∷ xs) l name h e =
    by_head (bytes_eq x.name name) x.value (loop_value xs name) (loop_value (xs ++ l ∷ []) name) h
    (λ n. append_none xs l name n e)
  where
    by_head : (b : Bool) (v : Fraction) (now later : Option Fraction)
        → (if b then Some v else now) ≡ None → (now ≡ None → later ≡ None)
        → (if b then Some v else later) ≡ None
    by_head true v now later h k = h
    by_head false v now later h k = k h

other_name : (declared : List ℕ → NameDenotation) (var name : List ℕ) (a : Fraction)
    → constant_of (declared var) ≡ None → constant_of (declared name) ≡ Some a
    → bytes_eq var name ≡ false
other_name declared var name a none some = by_test (bytes_eq var name) refl
  where
    by_test : (b : Bool) → bytes_eq var name ≡ b → b ≡ false
    by_test false e = refl
    by_test true e =
        let wrong : constant_of (declared var) ≡ Some a =
        ap (λ n. constant_of (declared n)) ((bytes_eq-Decides var name).0 e) ∙ some in
        absurd (cc (wrong, none))

pub inside_hides : (declared : List ℕ → NameDenotation) (loops : List LoopVar) (var : List ℕ) (i :
    ℤ)
    → HidesNoConstant declared loops → constant_of (declared var) ≡ None
    → HidesNoConstant declared (inside loops var i)
inside_hides declared loops var i h none name a e =
    append_none loops (record { name = var; value = whole i }) name (h name a e)
    (other_name declared var name a none e)

-- the terms that are left have the value of all
pub record IsPartialSum (declared : List ℕ → NameDenotation) (total : Fraction) (rest all : Terms)
    : Type 0 where
  pub in_loops : (loops : List LoopVar) → HidesNoConstant declared loops
      → sum_value (constants_in (meant_in loops declared)) total rest
      ≡ sum_value (constants_in (meant_in loops declared)) zero_value all

-- the factors that are left have the value of all
pub record IsPartialProduct (declared : List ℕ → NameDenotation) (total : Fraction)
    (rest all : Factors) : Type 0 where
  pub in_loops : (loops : List LoopVar) → HidesNoConstant declared loops
      → product_value (constants_in (meant_in loops declared)) total rest
      ≡ product_value (constants_in (meant_in loops declared)) (whole (pos 1)) all

-- equal rounds
repeated_same : {X : Type 0} (once other : ℤ → Progress X → Result (Progress X) UnrollErr)
    → ((i : ℤ) (q : Progress X) → once i q ≡ other i q)
    → (i : ℤ) (n : ℕ) (p : Progress X) → repeated once i n p ≡ repeated other i n p
repeated_same {X} once other h i zero p = refl
repeated_same {X} once other h i (suc more) p =
    bind_same (with_round p.counts)
    (λ c. bind_result (once i (progress p.done c)) (λ q. repeated once (i +ℤ pos 1) more q))
    (λ c. bind_result (other i (progress p.done c)) (λ q. repeated other (i +ℤ pos 1) more q))
    (λ c. bind_both (once i (progress p.done c)) (other i (progress p.done c))
    (λ q. repeated once (i +ℤ pos 1) more q) (λ q. repeated other (i +ℤ pos 1) more q)
    (h i (progress p.done c)) (λ q. repeated_same once other h (i +ℤ pos 1) more q))

-- equal bounds
abbrev rounds : ℤ → ℤ → Rounds
rounds a b = record { next = a; last = b }

bounds_same : (known : List ℕ → NameDenotation) (at : ℕ) (f t g u : Expression)
    → constant_value (constants_in known) f ≡ constant_value (constants_in known) g
    → constant_value (constants_in known) t ≡ constant_value (constants_in known) u
    → bounds_of known at f t ≡ bounds_of known at g u
bounds_same known at f t g u from to =
    ap₂ (λ (a b : Result ℤ UnrollErr). bind_result a (λ x. bind_result b (λ y. Ok (rounds x y))))
    (ap (λ (r : Result Fraction UnrollErr). bind_result r (whole_at at)) from)
    (ap (λ (r : Result Fraction UnrollErr). bind_result r (whole_at at)) to)

-- a loop with equal bounds over an equal body
pub loop_same : {X : Type 0} (declared : List ℕ → NameDenotation) (var : List ℕ) (at : ℕ)
    (f t g u : Expression) (run other : List LoopVar → Progress X → Result (Progress X) UnrollErr)
    → constant_of (declared var) ≡ None → IsSameConstant declared f g → IsSameConstant declared t u
    → IsSameStep declared run other
    → IsSameStep declared
    (λ loops p. looped (meant_in loops declared) (range var at f t) (λ i q. run (inside loops var i)
    q) p)
    (λ loops p. looped (meant_in loops declared) (range var at g u) (λ i q. other (inside loops var
    i) q) p)
loop_same {X} declared var at f t g u run other none from to body = record {
  in_loops = λ loops h p.
      bind_both (bounds_of (meant_in loops declared) at f t) (bounds_of (meant_in loops declared) at
      g u)
      (λ r. repeated (λ i q. run (inside loops var i) q) r.next (rounds_from r.next r.last) p)
      (λ r. repeated (λ i q. other (inside loops var i) q) r.next (rounds_from r.next r.last) p)
      (bounds_same (meant_in loops declared) at f t g u (from.in_loops loops h) (to.in_loops loops
      h))
      (λ r. repeated_same (λ i q. run (inside loops var i) q) (λ i q. other (inside loops var i) q)
      (λ i q. body.in_loops (inside loops var i) (inside_hides declared loops var i h none) q)
      r.next (rounds_from r.next r.last) p);
}

-- outside loops
outer_same : {X : Type 0} (declared : List ℕ → NameDenotation)
    (f g : List LoopVar → Progress X → Result (Progress X) UnrollErr) (loops : List LoopVar)
    (p : Progress X) → IsSameStep declared f g → loops ≡ [] → f loops p ≡ g loops p
outer_same {X} declared f g loops p same empty =
    subst (λ ls. f ls p ≡ g ls p) (sym empty) (same.in_loops [] (λ name a e. refl) p)

pub outer_ok : {X A : Type 0} (declared : List ℕ → NameDenotation)
    (f g : List LoopVar → Progress X → Result (Progress X) UnrollErr) (loops : List LoopVar)
    (p q : Progress X) (r : Result A UnrollErr) → IsSameStep declared f g → loops ≡ []
    → IfOk r (λ _. f loops p ≡ Ok q) → IfOk r (λ _. g loops p ≡ Ok q)
outer_ok {X} {A} declared f g loops p q r same empty h =
    subst (λ x. IfOk r (λ _. x ≡ Ok q)) (outer_same declared f g loops p same empty) h

pub outer_err : {X A : Type 0} (declared : List ℕ → NameDenotation)
    (f g : List LoopVar → Progress X → Result (Progress X) UnrollErr) (loops : List LoopVar)
    (p : Progress X) (r : Result A UnrollErr) → IsSameStep declared f g → loops ≡ []
    → IfErr r (IsFault (f loops p)) → IfErr r (IsFault (g loops p))
outer_err {X} {A} declared f g loops p r same empty h =
    subst (λ x. IfErr r (IsFault x)) (outer_same declared f g loops p same empty) h

-- the steps of a list: those of its items in order
pub record IsSequence {T X : Type 0}
    (one : T → List LoopVar → Progress X → Result (Progress X) UnrollErr)
    (run : List T → List LoopVar → Progress X → Result (Progress X) UnrollErr) : Type 0 where
  pub none : (loops : List LoopVar) (p : Progress X) → run [] loops p ≡ Ok p
  pub more : (x : T) (xs : List T) (loops : List LoopVar) (p : Progress X)
      → run (x ∷ xs) loops p ≡ bind_result (one x loops p) (λ q. run xs loops q)

run_append : {T X : Type 0} (one : T → List LoopVar → Progress X → Result (Progress X) UnrollErr)
    (run : List T → List LoopVar → Progress X → Result (Progress X) UnrollErr) → IsSequence one run
    → (xs : List T) (x : T) (loops : List LoopVar) (p : Progress X)
    → run (xs ++ x ∷ []) loops p ≡ bind_result (run xs loops p) (λ q. one x loops q)
run_append {T} {X} one run is [] x loops p =
    is.more x [] loops p
    ∙ bind_same (one x loops p) (λ q. run [] loops q) (λ q. Ok q) (λ q. is.none loops q)
    ∙ bind_none (one x loops p)
    ∙ sym (ap (λ r. bind_result r (λ q. one x loops q)) (is.none loops p))
run_append {T} {X} one run is (y ∷ xs) x loops p =
    is.more y (xs ++ x ∷ []) loops p
    ∙ bind_same (one y loops p) (λ q. run (xs ++ x ∷ []) loops q)
    (λ q. bind_result (run xs loops q) (λ r. one x loops r))
    (λ q. run_append one run is xs x loops q)
    ∙ sym (bind_twice (one y loops p) (λ q. run xs loops q) (λ q. one x loops q))
    ∙ sym (ap (λ r. bind_result r (λ q. one x loops q)) (is.more y xs loops p))

-- one more item
pushed_same : {T X : Type 0} (one : T → List LoopVar → Progress X → Result (Progress X) UnrollErr)
    (run : List T → List LoopVar → Progress X → Result (Progress X) UnrollErr) → IsSequence one run
    → (declared : List ℕ → NameDenotation) (xs ys : List T) (x y : T)
    → IsSameStep declared (run xs) (run ys) → IsSameStep declared (one x) (one y)
    → IsSameStep declared (run (xs ++ x ∷ [])) (run (ys ++ y ∷ []))
pushed_same {T} {X} one run is declared xs ys x y all last = record {
  in_loops = λ loops h p.
      run_append one run is xs x loops p
      ∙ bind_both (run xs loops p) (run ys loops p) (λ q. one x loops q) (λ q. one y loops q)
      (all.in_loops loops h p) (λ q. last.in_loops loops h q)
      ∙ sym (run_append one run is ys y loops p);
}

-- one more copy of an item
pub copy_pushed : {T X : Type 0}
    (one : T → List LoopVar → Progress X → Result (Progress X) UnrollErr)
    (run : List T → List LoopVar → Progress X → Result (Progress X) UnrollErr) → IsSequence one run
    → (declared : List ℕ → NameDenotation) (before new : List T) (copy : T) (items : List T) (i : ℕ)
    (item : T) → new ≡ before ++ copy ∷ [] → i < length items → item ≡ get_or items i item
    → IsSameStep declared (run before) (run (take i items))
    → IsSameStep declared (one copy) (one item)
    → IsSameStep declared (run new) (run (take (i + 1) items))
copy_pushed {T} {X} one run is declared before new copy items i item pushed h e all last =
    let taken : take (i + 1) items ≡ take i items ++ item ∷ [] =
    rw (add-one, take-suc items i item h, ← e) refl in
    subst (λ xs. IsSameStep declared (run xs) (run (take (i + 1) items))) (sym pushed)
    (subst (λ ys. IsSameStep declared (run (before ++ copy ∷ [])) (run ys)) (sym taken)
    (pushed_same one run is declared before (take i items) copy item all last))
