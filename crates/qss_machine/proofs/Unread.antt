-- A row that reads none of the moved states gives the same at levels that differ only there.
use Rattle.qss_machine.proofs.Common
use Common.{+ℤ_idl, [], ℕ, ℤ, ◌*ℤ◌, ◌+ℤ◌, ◌+◌, ◌==◌, ◌^◌, ◌||◌, ◌∙◌, ◌∷◌, ◌≡◌, abs_of, ap}
use Common.{coefficient_of, constant_part, Entry, eqb-true, exceeds, false, has_entry, if-false}
use Common.{inl, inr, int_at, is_listed, length, List, list_any, Machine, mode_coefficient}
use Common.{mode_fits, nearest-zero, nearest_of, not, pos, Product, products_of, refl, row_reads}
use Common.{slope_of, SlopeRow, state_count, subst, sum_below, sum_below-same, sym, true, weight_of}
use Common.{zero-*ℤ}
use Rattle.std.proofs.lemmas.Bool.{or_parts, or_cases, cases_Bool}
use Rattle.qss_machine.proofs.Powers.{power_positive}
use Rattle.qss_machine.specs.Ticks.{exceeds_row_limits}
use Rattle.mu_num.specs.ListedPlaces.{DiffersOnlyAt}

-- entries without a variable have the coefficient 0 of it
pub no_coefficient : (entries : List Entry) (var : ℕ) → has_entry var entries ≡ false → coefficient_of entries var ≡ pos 0
no_coefficient [] var none = refl
no_coefficient (entry ∷ entries) var none =
    let parts = or_parts (entry.var == var) (has_entry var entries) none in
    ap (λ z. z +ℤ coefficient_of entries var) (if-false (entry.var == var) entry.coef (pos 0) parts.0)
    ∙ +ℤ_idl (coefficient_of entries var) ∙ no_coefficient entries var parts.1

no_product : (products : List Product) (first : ℕ) (discretes : List ℤ) (var : ℕ) →
    list_any (λ product. product.state == var || product.discrete == var) products ≡ false → products_of products first discretes var ≡ pos 0
no_product [] first discretes var none = refl
no_product (product ∷ products) first discretes var none =
    let parts = or_parts (product.state == var || product.discrete == var) (list_any (λ (p : Product). p.state == var || p.discrete == var) products) none in
    let own = or_parts (product.state == var) (product.discrete == var) parts.0 in
    ap (λ z. z +ℤ products_of products first discretes var) (if-false (product.state == var) _ (pos 0) own.0)
    ∙ +ℤ_idl (products_of products first discretes var) ∙ no_product products first discretes var parts.1

-- a variable that a row does not read has the coefficient in the current mode 0
pub unread_mode : (bits n : ℕ) (row : SlopeRow) (discretes : List ℤ) (var : ℕ) → row_reads var row ≡ false → mode_coefficient bits n row discretes var ≡ pos 0
unread_mode bits n row discretes var none =
    let parts = or_parts (has_entry var row.entries) (list_any (λ (p : Product). p.state == var || p.discrete == var) row.products) none in
    ap (λ z. z +ℤ nearest_of (products_of row.products n discretes var) (pos (2 ^ bits))) (no_coefficient row.entries var parts.0)
    ∙ +ℤ_idl (nearest_of (products_of row.products n discretes var) (pos (2 ^ bits)))
    ∙ ap (λ z. nearest_of z (pos (2 ^ bits))) (no_product row.products n discretes var parts.1)
    ∙ nearest-zero (pos (2 ^ bits)) (power_positive bits)

-- a row that reads no element of a list does not read one that is in it
pub unread_at : (moved : List ℕ) (row : SlopeRow) → list_any (λ j. row_reads j row) moved ≡ false → (i : ℕ) → is_listed moved i ≡ true → row_reads i row ≡ false
unread_at [] row none i among = absurd (cc)
unread_at (j ∷ moved) row none i among =
    let parts = or_parts (row_reads j row) (list_any (λ (k : ℕ). row_reads k row) moved) none in
    elim (or_cases (j == i) (is_listed moved i) among) [
      | inl same ↦ subst (λ (k : ℕ). row_reads k row ≡ false) (eqb-true j i same) parts.0
      | inr rest ↦ unread_at moved row parts.1 i rest
    ]

module _ (bits : ℕ) (row : SlopeRow) (moved : List ℕ) (old new discretes : List ℤ) (unread : (i : ℕ) → is_listed moved i ≡ true → row_reads i row ≡ false) (off : DiffersOnlyAt moved old new) where
  mode : ℕ → ℤ
  mode i = mode_coefficient bits (length old) row discretes i

  -- a term of a sum over the levels, with something of the coefficient in the current mode and of
  -- the level, is the same
  same_term : (f : ℤ → ℤ) → f (pos 0) ≡ pos 0 → (i : ℕ) →
      f (mode_coefficient bits (length old) row discretes i) *ℤ f (int_at new i) ≡ f (mode_coefficient bits (length old) row discretes i) *ℤ f (int_at old i)
  same_term f zero i =
      let c : ℤ = mode_coefficient bits (length old) row discretes i in
      elim (cases_Bool (is_listed moved i)) [
        | inl among ↦
            let none : f c ≡ pos 0 = ap f (unread_mode bits (length old) row discretes i (unread i among)) ∙ zero in
            ap (λ z. z *ℤ f (int_at new i)) none ∙ zero-*ℤ (f (int_at new i)) ∙ sym (zero-*ℤ (f (int_at old i))) ∙ sym (ap (λ z. z *ℤ f (int_at old i)) none)
        | inr kept ↦ ap (λ z. f c *ℤ f z) (off.others i kept)
      ]

  pub unread_slope : slope_of bits row new discretes ≡ slope_of bits row old discretes
  unread_slope =
      ap (λ (n : ℕ). sum_below n (λ i. mode_coefficient bits n row discretes i *ℤ int_at new i) +ℤ constant_part n row discretes) off.as_many
      ∙ ap (λ z. z +ℤ constant_part (length old) row discretes) (sum_below-same (length old) _ _ (λ i h. same_term (λ z. z) refl i))

  pub unread_weight : weight_of bits row new discretes ≡ weight_of bits row old discretes
  unread_weight =
      let rest : ℕ → ℤ = λ n. sum_below (length discretes) (λ g. abs_of (coefficient_of row.entries (n + g)) *ℤ abs_of (int_at discretes g)) +ℤ abs_of row.beta in
      ap (λ (n : ℕ). sum_below n (λ i. abs_of (mode_coefficient bits n row discretes i) *ℤ abs_of (int_at new i)) +ℤ rest n) off.as_many
      ∙ ap (λ z. z +ℤ rest (length old)) (sum_below-same (length old) _ _ (λ i h. same_term abs_of refl i))

pub unread_overweight : (m : Machine) (row : SlopeRow) (moved : List ℕ) (old new discretes : List ℤ) → ((i : ℕ) → is_listed moved i ≡ true → row_reads i row ≡ false) → DiffersOnlyAt moved old new →
    exceeds_row_limits m new discretes row ≡ exceeds_row_limits m old discretes row
unread_overweight m row moved old new discretes unread off =
    ap (λ z. not (mode_fits m.f (state_count m) row discretes) || exceeds 88 z) (unread_weight m.f row moved old new discretes unread off)
