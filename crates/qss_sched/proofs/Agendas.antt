-- The first of the near and far due ticks, also after a change of one of them.
use Rattle.qss_sched.proofs.Common
use Common.{[], ℕ, ◌<◌, ◌∙◌, ◌∷◌, ◌≡◌, ◌≤◌, ◌⊎◌, ap, AreDisjointTicks, arith, Bool, both_ways}
use Common.{cases_eq, cases_lt, due_at, false, get_or-set_other, get_or-set_same, HasNone}
use Common.{HasNoneAt, if◌then◌else◌, inl, inr, IsLeast, IsNextTick, joined, length, length-set}
use Common.{List, nearer, None, Option, refl, set-get_or, slice_set, Some, subst, suc, sym, true}
use Common.{unwrap_or, zero}
use Rattle.std.specs.Prelude.{is_some}
use Rattle.qss_sched.specs.Agendas.{IsFirst, IsFirstAt, IsTaken, IsTakenAt, IsBefore}
use Rattle.qss_sched.proofs.Least.{has_place}

pub length_joined : (near far : List (Option ℕ)) → length near ≡ length far → length (joined near far) ≡ length near
length_joined [] far e = refl
length_joined (n ∷ near) [] e = absurd (omega (arith, e))
length_joined (n ∷ near) (f ∷ far) e = omega (arith, length_joined near far (omega (arith, e)))

pub due_joined : (near far : List (Option ℕ)) → length near ≡ length far → (place : ℕ) → due_at (joined near far) place ≡ nearer (due_at near place) (due_at far place)
due_joined [] [] e place = refl
due_joined [] (f ∷ far) e place = absurd (omega (arith, e))
due_joined (n ∷ near) [] e place = absurd (omega (arith, e))
due_joined (n ∷ near) (f ∷ far) e zero = refl
due_joined (n ∷ near) (f ∷ far) e (suc place) = due_joined near far (omega (arith, e)) place

pub set_joined : (near far : List (Option ℕ)) → length near ≡ length far → (place : ℕ) (n f : Option ℕ) → place < length near →
    joined (slice_set near place n) (slice_set far place f) ≡ slice_set (joined near far) place (nearer n f)
set_joined [] far e place n f inside = absurd (omega (arith, inside))
set_joined (x ∷ near) [] e place n f inside = absurd (omega (arith, e))
set_joined (x ∷ near) (y ∷ far) e zero n f inside = refl
set_joined (x ∷ near) (y ∷ far) e (suc place) n f inside = ap (λ l. nearer x y ∷ l) (set_joined near far (omega (arith, e)) place n f (omega (arith, inside)))

nearer_none : (n : Option ℕ) → nearer n None ≡ n
nearer_none (Some tick) = refl
nearer_none None = refl

-- a near due tick changes where there is no far one
pub near_set : (near far : List (Option ℕ)) → length near ≡ length far → (place : ℕ) (n : Option ℕ) → place < length near → due_at far place ≡ None →
    joined (slice_set near place n) far ≡ slice_set (joined near far) place n
near_set [] far e place n inside none = absurd (omega (arith, inside))
near_set (x ∷ near) [] e place n inside none = absurd (omega (arith, e))
near_set (x ∷ near) (y ∷ far) e zero n inside none = ap (λ d. d ∷ joined near far) (ap (nearer n) none ∙ nearer_none n)
near_set (x ∷ near) (y ∷ far) e (suc place) n inside none = ap (λ l. nearer x y ∷ l) (near_set near far (omega (arith, e)) place n (omega (arith, inside)) none)

-- a far due tick goes where there is no near one
far_goes : (near far : List (Option ℕ)) → length near ≡ length far → (place : ℕ) → place < length near → due_at near place ≡ None →
    joined near (slice_set far place None) ≡ slice_set (joined near far) place None
far_goes [] far e place inside none = absurd (omega (arith, inside))
far_goes (x ∷ near) [] e place inside none = absurd (omega (arith, e))
far_goes (x ∷ near) (y ∷ far) e zero inside none = ap (λ d. nearer d None ∷ joined near far) none
far_goes (x ∷ near) (y ∷ far) e (suc place) inside none = ap (λ l. nearer x y ∷ l) (far_goes near far (omega (arith, e)) place (omega (arith, inside)) none)

-- a due tick is a near or a far one
either : (n f : Option ℕ) (tick : ℕ) → nearer n f ≡ Some tick → (n ≡ Some tick) ⊎ (f ≡ Some tick)
either (Some t) f tick e = inl e
either None f tick e = inr e

pub either_at : (near far : List (Option ℕ)) → AreDisjointTicks near far → (place tick : ℕ) → due_at (joined near far) place ≡ Some tick →
    (due_at near place ≡ Some tick) ⊎ (due_at far place ≡ Some tick)
either_at near far a place tick e = either (due_at near place) (due_at far place) tick (sym (due_joined near far a.as_many place) ∙ e)

pub near_at : (near far : List (Option ℕ)) → AreDisjointTicks near far → (place tick : ℕ) → due_at near place ≡ Some tick → due_at (joined near far) place ≡ Some tick
near_at near far a place tick e = due_joined near far a.as_many place ∙ ap (λ n. nearer n (due_at far place)) e

-- what is far is not near
not_near : (near far : List (Option ℕ)) → AreDisjointTicks near far → (place tick : ℕ) → due_at far place ≡ Some tick → (d : Option ℕ) → due_at near place ≡ d → due_at near place ≡ None
not_near near far a place tick e None f = f
not_near near far a place tick e (Some t) f = let none = a.apart place t f in absurd (cc)

pub far_at : (near far : List (Option ℕ)) → AreDisjointTicks near far → (place tick : ℕ) → due_at far place ≡ Some tick → due_at (joined near far) place ≡ Some tick
far_at near far a place tick e =
    due_joined near far a.as_many place ∙ (ap (λ n. nearer n (due_at far place)) (not_near near far a place tick e (due_at near place) refl) ∙ e)

pub start_first : (near far : List (Option ℕ)) → length near ≡ length far → HasNone near → HasNone far → HasNone (joined near far)
start_first near far many n f place = due_joined near far many place ∙ (ap (λ d. nearer d (due_at far place)) (n place) ∙ f place)

-- no near due tick is before the first one
pub near_from : (near far : List (Option ℕ)) (tick place : ℕ) → AreDisjointTicks near far → IsLeast (joined near far) tick place →
    (other later : ℕ) → due_at near other ≡ Some later → tick ≤ later
near_from near far tick place a l other later e = l.least other later (near_at near far a other later e)

-- a near due tick that is before all far ones is the first
pub near_first : (near far : List (Option ℕ)) (tick place : ℕ) (far_first : Option (ℕ × ℕ)) → AreDisjointTicks near far → IsLeast near tick place → IsFirst far far_first →
    IsBefore tick place far_first → IsLeast (joined near far) tick place
near_first near far tick place None a n f before = record {
  has = near_at near far a place tick n.has;
  least = λ other t e.
      elim (either_at near far a other t e) [
        | inl g ↦ n.least other t g
        | inr g ↦ let none = f other in absurd (cc)
      ];
  first = λ other e.
      elim (either_at near far a other tick e) [
        | inl g ↦ n.first other g
        | inr g ↦ let none = f other in absurd (cc)
      ];
}
near_first near far tick place (Some d) a n f before = record {
  has = near_at near far a place tick n.has;
  least = λ other t e.
      elim (either_at near far a other t e) [
        | inl g ↦ n.least other t g
        | inr g ↦ let late = f.least other t g in elim before [ inl b ↦ omega (arith, late, b) | inr b ↦ omega (arith, late, b.0) ]
      ];
  first = λ other e.
      elim (either_at near far a other tick e) [
        | inl g ↦ n.first other g
        | inr g ↦
            let late = f.least other tick g in
            elim before [
              | inl b ↦ absurd (omega (arith, late, b))
              | inr b ↦ omega (arith, b.1, f.first other (g ∙ ap Some b.0))
            ]
      ];
}

-- a near due tick that does not come before the first far one is not the first
pub far_first : (near far : List (Option ℕ)) (tick place : ℕ) (first : Option (ℕ × ℕ)) → AreDisjointTicks near far → IsLeast near tick place → IsFirst far first →
    (IsBefore tick place first → ⊥) → IsFirst (joined near far) first
far_first near far tick place None a n f before = absurd (before tt)
far_first near far tick place (Some d) a n f before =
    let late : d.0 ≤ tick = elim (cases_lt tick d.0) [ inl early ↦ absurd (before (inl early)) | inr from ↦ from ] in
    record {
      has = far_at near far a d.1 d.0 f.has;
      least = λ other t e.
          elim (either_at near far a other t e) [
            | inl g ↦ omega (arith, late, n.least other t g)
            | inr g ↦ f.least other t g
          ];
      first = λ other e.
          elim (either_at near far a other d.0 e) [
            | inl g ↦
                let from = n.least other d.0 g in
                let same : tick ≡ d.0 = omega (arith, late, from) in
                let lesser = n.first other (g ∙ ap Some (sym same)) in
                elim (cases_lt place d.1) [
                  | inl b ↦ absurd (before (inr (same, b)))
                  | inr b ↦ omega (arith, b, lesser)
                ]
            | inr g ↦ f.first other g
          ];
    }

-- where nothing is near the first far due tick is the first
pub only_far : (near far : List (Option ℕ)) (first : Option (ℕ × ℕ)) → AreDisjointTicks near far → HasNone near → IsFirst far first → IsFirst (joined near far) first
only_far near far None a n f = start_first near far a.as_many n f
only_far near far (Some d) a n f = record {
  has = far_at near far a d.1 d.0 f.has;
  least = λ other t e. elim (either_at near far a other t e) [ inl g ↦ let none = n other in absurd (cc) | inr g ↦ f.least other t g ];
  first = λ other e. elim (either_at near far a other d.0 e) [ inl g ↦ let none = n other in absurd (cc) | inr g ↦ f.first other g ];
}

-- the next of the near due ticks up to the next of the far ones is the next of all
pub next_joined : (near far : List (Option ℕ)) (last between tick : ℕ) → AreDisjointTicks near far → IsNextTick far last between → IsNextTick near between tick →
    IsNextTick (joined near far) last tick
next_joined near far last between tick a f n = record {
  at_most = omega (arith, n.at_most, f.at_most);
  none_before = λ place later e.
      elim (either_at near far a place later e) [
        | inl g ↦ n.none_before place later g
        | inr g ↦ let late = f.none_before place later g in omega (arith, late, n.at_most)
      ];
  reached = λ early.
      elim (cases_lt tick between) [
        | inl less ↦ let due = n.reached less in (due.0, near_at near far a due.0 tick due.1)
        | inr past ↦
            let same : between ≡ tick = omega (arith, past, n.at_most) in
            let due = f.reached (omega (arith, same, early)) in
            (due.0, far_at near far a due.0 tick (due.1 ∙ ap Some same))
      ];
}

-- a near place that is taken before the first far one is the first of all
pub near_taken : (near far new : List (Option ℕ)) (tick places place : ℕ) (later : Option ℕ) → AreDisjointTicks near far →
    ((other due : ℕ) → due_at (joined near far) other ≡ Some due → tick ≤ due) → IsFirstAt far tick places later → IsTaken tick (unwrap_or later places) near new place →
    IsTaken tick places (joined near far) (joined new far) place
near_taken near far new tick places place later a before f t = record {
  within = within later f t.within;
  least = record {
    has = near_at near far a place tick t.least.has;
    least = before;
    first = λ other e. elim (either_at near far a other tick e) [ inl g ↦ t.least.first other g | inr g ↦ beyond later f t.within other g ];
  };
  without =
      ap (λ n. joined n far) t.without
      ∙ near_set near far a.as_many place None (has_place near place tick t.least.has) (a.apart place tick t.least.has);
}
  where
    within : (l : Option ℕ) → IsFirstAt far tick places l → place < unwrap_or l places → place < places
    within None f h = h
    within (Some p) f h = omega (arith, f.0, h)

    beyond : (l : Option ℕ) → IsFirstAt far tick places l → place < unwrap_or l places → (other : ℕ) → due_at far other ≡ Some tick → place ≤ other
    beyond None f h other g = elim (cases_lt other places) [ inl less ↦ absurd (f other less g) | inr past ↦ omega (arith, past, h) ]
    beyond (Some p) f h other g = omega (arith, f.1.first other g, h)

-- the first far place is the first of all where no near one before it is due
pub far_taken : (near far new_near new_far : List (Option ℕ)) (tick places place : ℕ) → AreDisjointTicks near far →
    ((other due : ℕ) → due_at (joined near far) other ≡ Some due → tick ≤ due) → (place < places) × IsLeast far tick place →
    HasNoneAt near tick place × (new_near ≡ near) → new_far ≡ slice_set far place None →
    IsTaken tick places (joined near far) (joined new_near new_far) place
far_taken near far new_near new_far tick places place a before f none put = record {
  within = f.0;
  least = record {
    has = far_at near far a place tick f.1.has;
    least = before;
    first = λ other e.
        elim (either_at near far a other tick e) [
          | inl g ↦ elim (cases_lt other place) [ inl less ↦ absurd (none.0 other less g) | inr past ↦ past ]
          | inr g ↦ f.1.first other g
        ];
  };
  without =
      ap (joined new_near) put
      ∙ (ap (λ n. joined n (slice_set far place None)) none.1
      ∙ far_goes near far a.as_many place (omega (arith, has_place far place tick f.1.has, a.as_many)) (not_near near far a place tick f.1.has (due_at near place) refl));
}

-- where none is due near or far none is taken
pub neither_taken : (near far new : List (Option ℕ)) (tick places : ℕ) → AreDisjointTicks near far → HasNoneAt far tick places → HasNoneAt near tick places × (new ≡ near) →
    HasNoneAt (joined near far) tick places × (joined new far ≡ joined near far)
neither_taken near far new tick places a none near_none =
    (λ place h e. elim (either_at near far a place tick e) [ inl g ↦ near_none.0 place h g | inr g ↦ none place h g ], ap (λ n. joined n far) near_none.1)

-- where none is far that is due at a tick the near one is taken
pub alone_taken : (near far new : List (Option ℕ)) (tick places : ℕ) (taken : Option ℕ) → AreDisjointTicks near far →
    ((other due : ℕ) → due_at (joined near far) other ≡ Some due → tick ≤ due) → HasNoneAt far tick places → IsTakenAt tick places near new taken →
    IsTakenAt tick places (joined near far) (joined new far) taken
alone_taken near far new tick places None a before none t = neither_taken near far new tick places a none t
alone_taken near far new tick places (Some place) a before none t = near_taken near far new tick places place None a before none t

-- a place that is taken has no far due tick either
pub still_apart : (near far new : List (Option ℕ)) (tick places : ℕ) (taken : Option ℕ) → AreDisjointTicks near far → IsTakenAt tick places near new taken → AreDisjointTicks new far
still_apart near far new tick places None a t = subst (λ n. AreDisjointTicks n far) (sym t.1) a
still_apart near far new tick places (Some place) a t = record {
  as_many = ap length t.without ∙ (length-set near place None ∙ a.as_many);
  apart = λ other due e.
      elim (cases_eq other place) [
        | inl same ↦
            let none : due_at new other ≡ None =
            ap (due_at new) same ∙ (ap (λ n. due_at n place) t.without ∙ get_or-set_same near place None None (has_place near place tick t.least.has)) in
            absurd (cc)
        | inr other_one ↦ a.apart other due (sym (ap (λ n. due_at n other) t.without ∙ get_or-set_other near place other None None other_one) ∙ e)
      ];
}

-- where a place has a near due tick it has no far one
pub no_far : (near far : List (Option ℕ)) (place : ℕ) (due : Option ℕ) → AreDisjointTicks near far → due ≡ due_at near place → is_some due ≡ true → due_at far place ≡ None
no_far near far place None a e some = absurd (both_ways false refl some)
no_far near far place (Some tick) a e some = a.apart place tick (sym e)

-- a near due tick is given, or not
pub near_given : (near far new : List (Option ℕ)) (place tick : ℕ) (given : Bool) → AreDisjointTicks near far → place < length near → due_at far place ≡ None →
    new ≡ (if given then slice_set near place (Some tick) else near) → joined new far ≡ (if given then slice_set (joined near far) place (Some tick) else joined near far)
near_given near far new place tick true a inside none e = ap (λ n. joined n far) e ∙ near_set near far a.as_many place (Some tick) inside none
near_given near far new place tick false a inside none e = ap (λ n. joined n far) e

-- a far due tick that is given again changes nothing
pub given_again : (near far : List (Option ℕ)) (place tick : ℕ) → AreDisjointTicks near far → due_at far place ≡ Some tick → slice_set (joined near far) place (Some tick) ≡ joined near far
given_again near far place tick a e = ap (slice_set (joined near far) place) (sym (far_at near far a place tick e)) ∙ set-get_or (joined near far) place None
