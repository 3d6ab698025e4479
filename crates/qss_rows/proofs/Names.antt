-- What follows the name that is kept in a name.
use Rattle.qss_rows.proofs.Common
use Common.{[], ℕ, ◌++◌, ◌<◌, ◌∙◌, ◌∷◌, ◌≡◌, append-nil, append_assoc, arith, Bool, codes}
use Common.{Decides-eqb, drop, false, get_or as slice_index_or, length, List, refl, subst, sym}
use Common.{true}
use Rattle.std.proofs.Common.{◌≢◌, ◌||◌}
use Rattle.std.specs.List.{starts_with}
use Rattle.std.specs.Prelude.{bytes_eq, nat_eq}
use Rattle.std.proofs.lemmas.List.{append_cancel_left}
use Rattle.std.proofs.lemmas.Slice.Eq.{bytes_eq-Decides, starts_is}
use Rattle.qss_rows.specs.Filters.{is_named}

false_of : (b : Bool) → (b ≡ true → ⊥) → b ≡ false
false_of true never = absurd (never refl)
false_of false never = refl

or_false : (a b : Bool) → a ≡ false → b ≡ false → (a || b) ≡ false
or_false a b e f = rw (e, f) refl

or_true : (a b : Bool) → b ≡ true → (a || b) ≡ true
or_true true b e = refl
or_true false b e = e

module _ (only name : List ℕ) where
  starts : (starts_with nat_eq name (only ++ codes "[") ≡ true → name ≡ (only ++ codes "[") ++ drop (length (only ++ codes "[")) name) × ((rest : List ℕ) → name ≡ (only ++ codes "[") ++ rest → starts_with nat_eq name (only ++ codes "[") ≡ true)
  starts = starts_is Decides-eqb name (only ++ codes "[") (starts_with nat_eq name (only ++ codes "[")) refl

  -- a name that is kept is the other and what follows
  kept_more : starts_with nat_eq name (only ++ codes "[") ≡ true → name ≡ only ++ 91 ∷ drop (length (only ++ codes "[")) name
  kept_more e = starts.0 e ∙ append_assoc only (codes "[") (drop (length (only ++ codes "[")) name)

  pub named_whole : name ≡ only ++ [] → is_named only name ≡ true
  named_whole e = rw ((bytes_eq-Decides name only).1 (e ∙ append-nil only)) refl

  pub named_index : (rest : List ℕ) → name ≡ only ++ 91 ∷ rest → is_named only name ≡ true
  named_index rest e = or_true (bytes_eq name only) _ (starts.1 rest (e ∙ sym (append_assoc only (codes "[") rest)))

  pub named_other : (c : ℕ) (rest : List ℕ) → name ≡ only ++ c ∷ rest → c ≢ 91 → is_named only name ≡ false
  named_other c rest e differ =
      or_false (bytes_eq name only) _
      (false_of (bytes_eq name only) (λ same. nothing (append_cancel_left only (c ∷ rest) [] (sym e ∙ (bytes_eq-Decides name only).0 same ∙ sym (append-nil only)))))
      (false_of _ (λ more. differ (first (append_cancel_left only (c ∷ rest) (91 ∷ drop (length (only ++ codes "[")) name) (sym e ∙ kept_more more)))))
    where
      nothing : c ∷ rest ≡ [] → ⊥
      nothing e = cc

      first : {d : ℕ} {more : List ℕ} → c ∷ rest ≡ d ∷ more → c ≡ d
      first e = cc

  pub named_never : ((rest : List ℕ) → name ≢ only ++ rest) → is_named only name ≡ false
  named_never never =
      or_false (bytes_eq name only) _
      (false_of (bytes_eq name only) (λ same. never [] ((bytes_eq-Decides name only).0 same ∙ sym (append-nil only))))
      (false_of _ (λ more. never _ (kept_more more)))

  -- the test on what follows
  pub named_test : (rest : List ℕ) → name ≡ only ++ rest → 0 < length rest → nat_eq (slice_index_or rest 0 0) 91 ≡ is_named only name
  named_test [] e some = absurd (omega (arith, some))
  named_test (c ∷ rest) e some = by_test (nat_eq c 91) refl
    where
      by_test : (b : Bool) → nat_eq c 91 ≡ b → b ≡ is_named only name
      by_test true t = sym (named_index rest (subst (λ k. name ≡ only ++ k ∷ rest) ((Decides-eqb c 91).0 t) e))
      by_test false t = sym (named_other c rest e (λ is. let yes = (Decides-eqb c 91).1 is in absurd (cc (t, yes))))
