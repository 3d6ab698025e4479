-- The products of one state are adjacent.
use Rattle.qss_components.proofs.Common
use Common.{+ℤ_idr, ℕ, ℤ, ◌*ℤ◌, ◌+ℤ◌, ◌+◌, ◌-◌, ◌<◌, ◌==◌, ◌∙◌, ◌≡◌, ◌≢◌, ◌≤◌, ap, arith, eqb-no}
use Common.{get_or, if-false, if◌then◌else◌, int_at, length, List, nat_lt, pos, Product}
use Common.{products_of, refl, subst, suc, sym, take, take_all, zero}
use Rattle.std.proofs.Common.{drop, add-one}
use Rattle.std.proofs.lemmas.List.{length-drop, get_or-drop}
use Rattle.std.proofs.lemmas.List.Sorted.{IsPartitionedBy-ltb}
use Rattle.std.specs.List.Sorted.{IsPartitionedBy}
use Rattle.qss_machine.specs.MachineLimits.{AreProducts}
use Rattle.qss_machine.proofs.ProductStates.{rising_states}
use Rattle.mu_num.proofs.Sums.{sum_over_more}

-- what is left of a list from a place on
pub rest_is : {X : Type 0} (xs : List X) (from : ℕ) → take (length xs - from) (drop from xs) ≡ drop
    from xs
rest_is xs from = take_all (length xs - from) (drop from xs) (omega (arith, length-drop from xs))

pub rest_long : {X : Type 0} (xs : List X) (from : ℕ) → length
    (take (length xs - from) (drop from xs)) ≡ length xs - from
rest_long xs from = ap length (rest_is xs from) ∙ length-drop from xs

pub rest_at : {X : Type 0} (xs : List X) (from i : ℕ) (d : X) → get_or
    (take (length xs - from) (drop from xs)) i d ≡ get_or xs (from + i) d
rest_at xs from i d = ap (λ ys. get_or ys i d) (rest_is xs from) ∙ get_or-drop from xs i d

module _ (n count : ℕ) (products : List Product) (are : AreProducts n count products) (state : ℕ)
  where
    -- those of lesser states come first
    pub lesser_first : IsPartitionedBy (λ (product : Product). nat_lt product.state state) products
    lesser_first = IsPartitionedBy-ltb (λ (product : Product). product.state) products state
        (λ i j d le inside. rising_states n count products are i j d d le inside)

    module _ (discretes : List ℤ) where
      one_none : (i : ℕ) (d : Product) → i < length products → (get_or products i d).state ≢ state →
          products_of (take (i + 1) products) n discretes state ≡ products_of (take i products) n
          discretes state
      one_none i d inside other =
          let term = λ (product : Product). if product.state == state then product.coef *ℤ int_at
          discretes (product.discrete - n) else pos 0 in
          let product = get_or products i d in
          sum_over_more term products i d inside
          ∙ ap (λ z. products_of (take i products) n discretes state +ℤ z)
          (if-false (product.state == state) (product.coef *ℤ int_at discretes (product.discrete - n))
          (pos 0) (eqb-no product.state state other))
          ∙ +ℤ_idr (products_of (take i products) n discretes state)

      -- products of lesser states add nothing
      pub none_before : (i : ℕ) → i ≤ length products → ((k : ℕ) (d : Product) → k < i →
          (get_or products k d).state < state) → products_of (take i products) n discretes state ≡ pos
          0
      none_before zero inside lesser = refl
      none_before (suc i) inside lesser =
          let none : Product = record { state = 0; discrete = 0; coef = pos 0 } in
          let last : (get_or products i none).state < state = lesser i none (omega arith) in
          subst (λ (m : ℕ). products_of (take m products) n discretes state ≡ pos 0) (add-one i)
          (one_none i none (omega (arith, inside)) (λ e. omega (arith, last, e)) ∙ none_before i
          (omega (arith, inside)) (λ k d before. lesser k d (omega (arith, before))))

      -- nor do those of greater states
      none_after : (more i : ℕ) (d : Product) → i + more ≡ length products →
          ((k : ℕ) → i ≤ k → k < length products → state < (get_or products k d).state) →
          products_of (take i products) n discretes state ≡ products_of products n discretes state
      none_after zero i d all greater = ap (λ ps. products_of ps n discretes state)
          (take_all i products (omega (arith, all)))
      none_after (suc more) i d all greater =
          let inside : i < length products = omega (arith, all) in
          let next : state < (get_or products i d).state = greater i (omega arith) inside in
          sym (one_none i d inside (λ e. omega (arith, next, e)))
          ∙ none_after more (i + 1) d (omega (arith, all)) (λ k from within. greater k
          (omega (arith, from)) within)

      -- so the sum ends before a product of another state
      pub sum_ends : (i : ℕ) (d : Product) → i < length products → state ≤ (get_or products i d).state
          → (get_or products i d).state ≢ state →
          products_of (take i products) n discretes state ≡ products_of products n discretes state
      sum_ends i d inside least other =
          none_after (length products - i) i d (omega (arith, inside)) (λ k from within.
          let rise : (get_or products i d).state ≤ (get_or products k d).state = rising_states n count
          products are i k d d from within in
          let differ : (get_or products i d).state ≢ state = other in
          grind (arith, rise, least, differ))
