-- A list that is changed one place after another.
use Rattle.qss_components.proofs.Common
use Common.{ℕ, ◌+◌, ◌<◌, ◌∙◌, ◌≡◌, ◌≢◌, ◌≤◌, ap, arith, cases_lt, get_or, get_or-map}
use Common.{get_or-set_other, get_or-set_same, get_or_default, inl, inr, length, length-map, List}
use Common.{map, refl, same_lists, set, subst, sym}
use Rattle.std.proofs.lemmas.List.{length-set}

-- the elements before place k are changed, and the others are as they were
pub record IsUpTo {X : Type 0} (f : X → X) (k : ℕ) (old now : List X) : Type 0 where
  pub as_many : length now ≡ length old
  pub done : (j : ℕ) (d : X) → j < k → j < length old → get_or now j d ≡ f (get_or old j d)
  pub rest : (j : ℕ) (d : X) → k ≤ j → get_or now j d ≡ get_or old j d

pub up_to_more : {X : Type 0} (f : X → X) (k : ℕ) (old now : List X) (v e : X) → k < length now → v ≡ f (get_or now k e) → IsUpTo f k old now → IsUpTo f (k + 1) old (set now k v)
up_to_more {X} f k old now v e inside is before = record {
  as_many = length-set now k v ∙ before.as_many;
  done = λ j d below within. elim (cases_lt j k) [ inl less ↦ sooner j d less within | inr past ↦ let same : j ≡ k = omega (arith, below, past) in here j d same ];
  rest = λ j d later. let ne : j ≢ k = λ same. omega (arith, later, same) in get_or-set_other now k j v d ne ∙ before.rest j d (omega (arith, later));
}
  where
    sooner : (j : ℕ) (d : X) → j < k → j < length old → get_or (set now k v) j d ≡ f (get_or old j d)
    sooner j d less within = let ne : j ≢ k = λ same. omega (arith, less, same) in get_or-set_other now k j v d ne ∙ before.done j d less within

    here : (j : ℕ) (d : X) → j ≡ k → get_or (set now k v) j d ≡ f (get_or old j d)
    here j d same =
        subst (λ n. get_or (set now k v) n d ≡ f (get_or old n d)) (sym same)
        (get_or-set_same now k v d inside ∙ is ∙ ap f (get_or_default now k e d inside ∙ before.rest k d (omega arith)))

pub up_to_all : {X : Type 0} (f : X → X) (k : ℕ) (old now : List X) (d : X) → length old ≤ k → IsUpTo f k old now → now ≡ map f old
up_to_all f k old now d end before =
    same_lists d now (map f old) (before.as_many ∙ sym (length-map old f))
    (λ j h.
    let inside : j < length old = omega (arith, h, length-map old f) in
    before.done j d (omega (arith, inside, end)) inside ∙ sym (get_or-map f old j d d inside))

-- no element is changed yet
pub up_to_none : {X : Type 0} (f : X → X) (xs : List X) → IsUpTo f 0 xs xs
up_to_none f xs = record { as_many = refl; done = λ j d below within. absurd (omega (arith, below)); rest = λ j d later. refl }
