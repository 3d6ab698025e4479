-- The entries that are due at one tick are removed from the event queue one after another.
use Rattle.qss_sched.proofs.Common
use Common.{[], ℕ, ◌++◌, ◌+◌, ◌-◌, ◌<◌, ◌||◌, ◌∙◌, ◌∷◌, ◌≡◌, ◌≢◌, ◌≤◌, ◌⊎◌, among_push, ap}
use Common.{AreDisjointTicks, ArePartTaken, AreTaken, arith, both_ways, cases_Bool, cases_eq}
use Common.{cases_lt, due_at, eqb, eqb-false, false, get_or, get_or-set_other, get_or-set_same}
use Common.{get_or_past, inl, inr, is_listed, IsLeast, joined, length, length_push, List, nearer}
use Common.{None, Option, refl, slice_set as set, Some, subst, sym, true}
use Rattle.std.proofs.lemmas.Bool.{eqb-true, or_parts, or_cases}
use Rattle.std.proofs.lemmas.List.{length-set, get_or_append_left, get_or_push}
use Rattle.std.proofs.lemmas.List.Elements.{All-push}
use Rattle.std.specs.List.{All}
use Rattle.std.specs.List.Sorted.{IsStrictlyIncreasing}
use Rattle.qss_sched.specs.Agendas.{IsWithout}
use Rattle.qss_sched.proofs.Agendas.{due_joined, length_joined, either_at, near_at}

-- none is taken
pub none_taken : (first n tick : ℕ) (due : List (Option ℕ)) → ((j : ℕ) → j < first → due_at due j ≡ Some tick → ⊥) → ArePartTaken first n 0 tick due due []
none_taken first n tick due none_first = record {
  numbers = record { rising = λ k h. absurd (omega (arith, h)); below = λ k d h. absurd (omega (arith, h)) };
  own = λ j e. absurd (both_ways false refl e);
  out = record {
    as_many = refl;
    before = λ j h. refl;
    none = λ j e. absurd (both_ways false refl e);
    others = λ place e. refl;
  };
  ahead = λ place e. by_first place e (cases_lt place first);
  beyond = λ place e k d h. absurd (omega (arith, h));
}
  where
    by_first : (place : ℕ) → due_at due place ≡ Some tick → (place < first) ⊎ (first ≤ place) → first + 0 ≤ place
    by_first place e (inl before) = absurd (none_first place before e)
    by_first place e (inr past) = omega (arith, past)

-- a greater number at the end of rising ones
rising_push : (found : List ℕ) (number : ℕ) → IsStrictlyIncreasing found → All (λ j. j < number) found → IsStrictlyIncreasing (found ++ number ∷ [])
rising_push found number rising beyond k h = by_last (cases_lt (k + 1) (length found))
  where
    inside : k < length found
    inside = omega (arith, h, length_push found number)

    by_last : (k + 1 < length found) ⊎ (length found ≤ k + 1) → get_or (found ++ number ∷ []) k 0 < get_or (found ++ number ∷ []) (k + 1) 0
    by_last (inl less) = omega (arith, get_or_append_left found (number ∷ []) 0 k inside, get_or_append_left found (number ∷ []) 0 (k + 1) less, rising k less)
    by_last (inr last) =
        let many : length found ≡ k + 1 = omega (arith, last, inside) in
        omega (arith, get_or_append_left found (number ∷ []) 0 k inside, get_or_push found number 0 (k + 1) many, beyond k 0 inside)

-- before a tick nothing is due, as before the places were taken
pub none_before_still : (first : ℕ) (found : List ℕ) (tick : ℕ) (old new : List (Option ℕ)) → ((place due : ℕ) → due_at old place ≡ Some due → tick ≤ due) → IsWithout first found old new →
    (place due : ℕ) → due_at new place ≡ Some due → tick ≤ due
none_before_still first found tick old new before out place due e = by_first (cases_lt place first)
  where
    by_among : (j : ℕ) → first + j ≡ place → (is_listed found j ≡ true) ⊎ (is_listed found j ≡ false) → tick ≤ due
    by_among j at (inl among) = let none = ap (due_at new) (sym at) ∙ out.none j among in absurd (cc)
    by_among j at (inr not) = before place due (ap (due_at old) (sym at) ∙ sym (out.others j not) ∙ ap (due_at new) at ∙ e)

    by_first : (place < first) ⊎ (first ≤ place) → tick ≤ due
    by_first (inl less) = before place due (sym (out.before place less) ∙ e)
    by_first (inr past) = by_among (place - first) (omega (arith, past)) (cases_Bool (is_listed found (place - first)))

module _ (first n count tick place : ℕ) (old new : List (Option ℕ)) (found : List ℕ) (taken : ArePartTaken first n count tick old new found) (inside : place < first + n)
    (least : IsLeast new tick place) where
  abbrev number : ℕ
  number = place - first

  pub past : first ≤ place
  past = omega (arith, taken.ahead place least.has)

  at : first + number ≡ place
  at = omega (arith, past)

  within : place < length new
  within = by_length (cases_lt place (length new))
    where
      by_length : (place < length new) ⊎ (length new ≤ place) → place < length new
      by_length (inl less) = less
      by_length (inr out) = let none = get_or_past new place None out in let has = least.has in absurd (cc)

  not_taken : is_listed found number ≡ false
  not_taken = by_among (cases_Bool (is_listed found number))
    where
      by_among : (is_listed found number ≡ true) ⊎ (is_listed found number ≡ false) → is_listed found number ≡ false
      by_among (inl among) = let none = ap (due_at new) (sym at) ∙ taken.out.none number among in let has = least.has in absurd (cc)
      by_among (inr not) = not

  parts : (j : ℕ) → is_listed (found ++ number ∷ []) j ≡ true → (is_listed found j ≡ true) ⊎ (number ≡ j)
  parts j e = by_first (or_cases (is_listed found j) (eqb number j || false) (sym (among_push found number j) ∙ e))
    where
      by_rest : (eqb number j ≡ true) ⊎ (false ≡ true) → (is_listed found j ≡ true) ⊎ (number ≡ j)
      by_rest (inl here) = inr (eqb-true number j here)
      by_rest (inr never) = absurd (both_ways false refl never)

      by_first : (is_listed found j ≡ true) ⊎ ((eqb number j || false) ≡ true) → (is_listed found j ≡ true) ⊎ (number ≡ j)
      by_first (inl among) = inl among
      by_first (inr rest) = by_rest (or_cases (eqb number j) false rest)

  neither : (j : ℕ) → is_listed (found ++ number ∷ []) j ≡ false → (is_listed found j ≡ false) × (number ≢ j)
  neither j e =
      let both = or_parts (is_listed found j) (eqb number j || false) (sym (among_push found number j) ∙ e) in
      let last = or_parts (eqb number j) false both.1 in
      (both.0, eqb-false number j last.0)

  own_more : (j : ℕ) → is_listed (found ++ number ∷ []) j ≡ true → due_at old (first + j) ≡ Some tick
  own_more j e = by_parts (parts j e)
    where
      by_parts : (is_listed found j ≡ true) ⊎ (number ≡ j) → due_at old (first + j) ≡ Some tick
      by_parts (inl among) = taken.own j among
      by_parts (inr here) =
          subst (λ k. due_at old (first + k) ≡ Some tick) here (sym (taken.out.others number not_taken) ∙ ap (due_at new) at ∙ least.has)

  -- a place that is not the one that is taken is as it was
  kept : (other : ℕ) → place ≢ other → due_at (set new place None) other ≡ due_at new other
  kept other ne = get_or-set_other new place other None None (λ q. ne (sym q))

  none_more : (j : ℕ) → is_listed (found ++ number ∷ []) j ≡ true → due_at (set new place None) (first + j) ≡ None
  none_more j e = by_here (cases_eq place (first + j))
    where
      by_parts : place ≢ first + j → (is_listed found j ≡ true) ⊎ (number ≡ j) → due_at (set new place None) (first + j) ≡ None
      by_parts ne (inl among) = kept (first + j) ne ∙ taken.out.none j among
      by_parts ne (inr here) = absurd (ne (omega (arith, here, at)))

      by_here : (place ≡ first + j) ⊎ (place ≢ first + j) → due_at (set new place None) (first + j) ≡ None
      by_here (inl here) = subst (λ k. due_at (set new place None) k ≡ None) here (get_or-set_same new place None None within)
      by_here (inr ne) = by_parts ne (parts j e)

  -- what is still due was due before, at a greater place
  still : (other : ℕ) → due_at (set new place None) other ≡ Some tick → (due_at new other ≡ Some tick) × (place < other)
  still other e = by_here (cases_eq place other)
    where
      by_here : (place ≡ other) ⊎ (place ≢ other) → (due_at new other ≡ Some tick) × (place < other)
      by_here (inl here) =
          let none : due_at (set new place None) other ≡ None = subst (λ k. due_at (set new place None) k ≡ None) here (get_or-set_same new place None None within) in
          absurd (cc)
      by_here (inr ne) =
          let was : due_at new other ≡ Some tick = sym (kept other ne) ∙ e in
          let first_of : place ≤ other = least.first other was in
          (was, omega (arith, first_of, ne))

  -- one more is taken
  pub one_taken : ArePartTaken first n (count + 1) tick old (set new place None) (found ++ number ∷ [])
  one_taken = record {
    numbers = record {
      rising = rising_push found number taken.numbers.rising (λ k d h. omega (arith, taken.beyond place least.has k d h, at));
      below = All-push (λ j. j < n) found number taken.numbers.below (omega (arith, inside, at));
    };
    own = own_more;
    out = record {
      as_many = length-set new place None ∙ taken.out.as_many;
      before = λ j h. let ne : place ≢ j = omega (arith, h, past) in kept j ne ∙ taken.out.before j h;
      none = none_more;
      others = λ j e.
          let both = neither j e in
          let apart : number ≢ j = both.1 in
          let ne : place ≢ first + j = λ q. apart (omega (arith, q)) in
          kept (first + j) ne ∙ taken.out.others j both.0;
    };
    ahead = λ other e. let was = still other e in omega (arith, was.1, taken.ahead place least.has);
    beyond = λ other e. let was = still other e in All-push (λ j. first + j < other) found number (taken.beyond other was.0) (omega (arith, was.1, at));
  }

-- where no place is left, all that were due are taken
pub all_taken : (first n count tick : ℕ) (old new : List (Option ℕ)) (found : List ℕ) → ArePartTaken first n count tick old new found →
    ((place : ℕ) → place < first + n → due_at new place ≡ Some tick → ⊥) → AreTaken first n tick old new found
all_taken first n count tick old new found taken left =
    record { numbers = taken.numbers; own = taken.own; all = λ j h e. by_among j h e (cases_Bool (is_listed found j)); out = taken.out }
  where
    by_among : (j : ℕ) → j < n → due_at old (first + j) ≡ Some tick → (is_listed found j ≡ true) ⊎ (is_listed found j ≡ false) → is_listed found j ≡ true
    by_among j h e (inl among) = among
    by_among j h e (inr not) = absurd (left (first + j) (omega (arith, h)) (taken.out.others j not ∙ e))

-- where nothing is due at a tick none is taken
pub nothing_taken : (first n tick : ℕ) (due : List (Option ℕ)) → ((place : ℕ) → due_at due place ≡ Some tick → ⊥) → AreTaken first n tick due due []
nothing_taken first n tick due none = all_taken first n 0 tick due due [] (none_taken first n tick due (λ j h. none j)) (λ place h. none place)

-- what is left was there before
still_there : (first : ℕ) (taken : List ℕ) (old new : List (Option ℕ)) → IsWithout first taken old new → (place due : ℕ) → due_at new place ≡ Some due → due_at old place ≡ Some due
still_there first taken old new out place due e = by_first (cases_lt place first)
  where
    by_listed : (j : ℕ) → first + j ≡ place → (is_listed taken j ≡ true) ⊎ (is_listed taken j ≡ false) → due_at old place ≡ Some due
    by_listed j at (inl listed) = let none = ap (due_at new) (sym at) ∙ out.none j listed in absurd (cc)
    by_listed j at (inr not) = ap (due_at old) (sym at) ∙ sym (out.others j not) ∙ ap (due_at new) at ∙ e

    by_first : (place < first) ⊎ (first ≤ place) → due_at old place ≡ Some due
    by_first (inl less) = sym (out.before place less) ∙ e
    by_first (inr past) = by_listed (place - first) (omega (arith, past)) (cases_Bool (is_listed taken (place - first)))

-- places that are taken have no far due tick either
pub apart_still : (near far new : List (Option ℕ)) (first count tick : ℕ) (taken : List ℕ) → AreDisjointTicks near far → AreTaken first count tick near new taken → AreDisjointTicks new far
apart_still near far new first count tick taken a t = record {
  as_many = t.out.as_many ∙ a.as_many;
  apart = λ place due e. a.apart place due (still_there first taken near new t.out place due e);
}

-- where nothing far is due at a tick what is taken near is all
pub near_all_taken : (near far new : List (Option ℕ)) (first count tick : ℕ) (taken : List ℕ) → AreDisjointTicks near far → ((place : ℕ) → due_at far place ≡ Some tick → ⊥) →
    AreTaken first count tick near new taken → AreTaken first count tick (joined near far) (joined new far) taken
near_all_taken near far new first count tick taken a none t = record {
  numbers = t.numbers;
  own = λ j e. near_at near far a (first + j) tick (t.own j e);
  all = λ j h e. elim (either_at near far a (first + j) tick e) [ inl g ↦ t.all j h g | inr g ↦ absurd (none (first + j) g) ];
  out = record {
    as_many = length_joined new far many ∙ (t.out.as_many ∙ sym (length_joined near far a.as_many));
    before = λ place h. at place (t.out.before place h);
    none = λ j e.
        due_joined new far many (first + j) ∙ (ap (λ n. nearer n (due_at far (first + j))) (t.out.none j e) ∙ a.apart (first + j) tick (t.own j e));
    others = λ j e. at (first + j) (t.out.others j e);
  };
}
  where
    many : length new ≡ length far
    many = t.out.as_many ∙ a.as_many

    at : (place : ℕ) → due_at new place ≡ due_at near place → due_at (joined new far) place ≡ due_at (joined near far) place
    at place e = due_joined new far many place ∙ (ap (λ n. nearer n (due_at far place)) e ∙ sym (due_joined near far a.as_many place))
