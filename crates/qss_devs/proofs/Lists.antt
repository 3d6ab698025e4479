-- Lists by their elements, and a list of which the first numbers are replaced one after another.
use Rattle.qss_devs.proofs.Common
use Common.{[], ℕ, ℤ, ◌+◌, ◌<◌, ◌∙◌, ◌∷◌, ◌≡◌, ◌≢◌, ◌≤◌, ap, arith, cases_eq, fill_by_all, get_or}
use Common.{get_or-map, get_or-set_other, get_or-set_same, inl, inr, int_at, length, length-map}
use Common.{length-set, List, map, map-set, pos, refl, set, suc, sym, tabulate, zero}
use Rattle.qss_components.proofs.Variables.{set_other, set_same}
use Rattle.mu_num.proofs.Tables.{map_twice}
use Rattle.qss_devs.specs.CoupledSteps.{replaced_upto}

-- some element of a list that has one
pub some_element : {X : Type 0} (xs : List X) (j : ℕ) → j < length xs → X
some_element [] j h = absurd (omega (arith, h))
some_element (x ∷ xs) j h = x

-- an element of a list that was mapped twice
pub at_twice : {X Y Z : Type 0} (f : X → Y) (g : Y → Z) (xs : List X) (j : ℕ) (d : Y) (e : Z) →
    j < length xs → get_or (map (λ x. g (f x)) xs) j e ≡ g (get_or (map f xs) j d)
at_twice f g xs j d e h =
    rw (← map_twice g f xs) (get_or-map g (map f xs) j d e (omega (arith, h, length-map xs f)))

-- an element of a mapped list is what each element at its place gives
pub mapped_at : {X Y : Type 0} (f : X → Y) (xs : List X) (j : ℕ) (e v : Y) → j < length xs →
    ((d : X) → f (get_or xs j d) ≡ v) → get_or (map f xs) j e ≡ v
mapped_at f xs j e v h each =
    let d = some_element xs j h in
    get_or-map f xs j d e h ∙ each d

-- what holds of each element before a place, and of the new one there
pub set_more : {X : Type 0} (P : ℕ → X → Type 0) (xs : List X) (place : ℕ) (x d : X) (k : ℕ) →
    place < length xs → k < place + 1 → (k < place → P k (get_or xs k d)) → P place x →
    P k (get_or (set xs place x) k d)
set_more P xs place x d k inside below before here = elim (cases_eq k place) [
  | inl e ↦ rw (e, get_or-set_same xs place x d inside) here
  | inr ne ↦ rw (get_or-set_other xs place k x d ne) (before (omega (arith, below, ne)))
]

-- what a list is mapped to, after one element was replaced
pub mapped_set : {X S : Type 0} (f : X → S) (none : S) (xs : List X) (place : ℕ) (t : X) →
    place < length xs → (j : ℕ) → (place ≡ j → get_or (map f (set xs place t)) j none ≡ f t)
    × (place ≢ j → get_or (map f (set xs place t)) j none ≡ get_or (map f xs) j none)
mapped_set f none xs place t inside j =
    let many : place < length (map f xs) = omega (arith, inside, length-map xs f) in (
      (λ e. rw (map-set f xs place t, ← e) (get_or-set_same (map f xs) place (f t) none many)),
      (λ ne. rw (map-set f xs place t)
          (get_or-set_other (map f xs) place j (f t) none (λ e. ne (sym e)))),
    )

module _ (f : ℕ → ℤ) (xs : List ℤ) where
  pub upto_many : (n : ℕ) → length (replaced_upto f xs n) ≡ length xs
  upto_many zero = refl
  upto_many (suc n) = length-set (replaced_upto f xs n) n (f n) ∙ upto_many n

  pub upto_kept : (n i : ℕ) → n ≤ i → int_at (replaced_upto f xs n) i ≡ int_at xs i
  upto_kept zero i le = refl
  upto_kept (suc n) i le =
      set_other (replaced_upto f xs n) n i (f n) (λ e. absurd (omega (arith, e, le)))
      ∙ upto_kept n i (omega (arith, le))

  pub upto_taken : (n i : ℕ) → n ≤ length xs → i < n → int_at (replaced_upto f xs n) i ≡ f i
  upto_taken zero i le h = absurd (omega (arith, h))
  upto_taken (suc n) i le h = elim (cases_eq i n) [
    | inl e ↦
        set_same (replaced_upto f xs n) n i (f n) e (omega (arith, le, upto_many n)) ∙ ap f (sym e)
    | inr ne ↦
        set_other (replaced_upto f xs n) n i (f n) ne
        ∙ upto_taken n i (omega (arith, le)) (omega (arith, h, ne))
  ]

  pub upto_all : (n : ℕ) → length xs ≡ n → replaced_upto f xs n ≡ tabulate n f
  upto_all n many =
      fill_by_all f (replaced_upto f xs n) n (pos 0) (upto_many n ∙ many)
      (λ k h. upto_taken n k (omega (arith, many)) h)
