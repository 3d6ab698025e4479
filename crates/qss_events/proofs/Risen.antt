-- Conditions that became true during the handlers.
use Rattle.qss_events.proofs.Common
use Common.{[], ℕ, ◌&&◌, ◌<◌, ◌||◌, ◌∙◌, ◌∷◌, ◌≡◌, ap, arith, became_true, Bool, cases_Bool, false}
use Common.{firing_flags, inl, inr, length, List, list_any, not, refl, suc, sym, true, zero}
use Rattle.std.proofs.lemmas.Bool.{or_parts}

due_then : (at_arrival after_handlers : Bool) → (after_handlers && not at_arrival) ≡ false → (after_handlers && not (at_arrival && after_handlers)) ≡ false
due_then true true e = refl
due_then true false e = refl
due_then false true e = e
due_then false false e = refl

became_then : (at_arrival after_handlers : Bool) → (after_handlers && not (at_arrival && after_handlers)) ≡ false → (after_handlers && not at_arrival) ≡ false
became_then true true e = refl
became_then true false e = refl
became_then false true e = e
became_then false false e = refl

-- where none became true during the handlers, no branch is due for that
pub none_due : (at_arrival after_handlers : List Bool) → length at_arrival ≡ length after_handlers → ((place : ℕ) → place < length after_handlers → became_true at_arrival after_handlers place ≡ false) →
    list_any (λ flag. flag) (firing_flags after_handlers at_arrival after_handlers) ≡ false
none_due [] [] e none = refl
none_due [] (s ∷ after_handlers) e none = absurd (omega (arith, e))
none_due (a ∷ at_arrival) [] e none = absurd (omega (arith, e))
none_due (a ∷ at_arrival) (s ∷ after_handlers) e none =
    ap (λ b. b || list_any (λ flag. flag) (firing_flags after_handlers at_arrival after_handlers)) (due_then a s (none 0 (omega arith)))
    ∙ none_due at_arrival after_handlers (omega (arith, e)) (λ place h. none (suc place) (omega (arith, h)))

-- and the other way round
pub none_became : (at_arrival after_handlers : List Bool) → length at_arrival ≡ length after_handlers → list_any (λ flag. flag) (firing_flags after_handlers at_arrival after_handlers) ≡ false → (place : ℕ) →
    became_true at_arrival after_handlers place ≡ false
none_became [] [] e none place = refl
none_became [] (s ∷ after_handlers) e none place = absurd (omega (arith, e))
none_became (a ∷ at_arrival) [] e none place = absurd (omega (arith, e))
none_became (a ∷ at_arrival) (s ∷ after_handlers) e none zero = became_then a s (or_parts (s && not (a && s)) (list_any (λ flag. flag) (firing_flags after_handlers at_arrival after_handlers)) none).0
none_became (a ∷ at_arrival) (s ∷ after_handlers) e none (suc place) =
    none_became at_arrival after_handlers (omega (arith, e)) (or_parts (s && not (a && s)) (list_any (λ flag. flag) (firing_flags after_handlers at_arrival after_handlers)) none).1 place

-- where one became true, its branch is due
pub some_due : (at_arrival after_handlers : List Bool) → length at_arrival ≡ length after_handlers → (place : ℕ) → became_true at_arrival after_handlers place ≡ true →
    list_any (λ flag. flag) (firing_flags after_handlers at_arrival after_handlers) ≡ true
some_due at_arrival after_handlers many place risen =
    elim (cases_Bool (list_any (λ flag. flag) (firing_flags after_handlers at_arrival after_handlers))) [
      | inl some ↦ some
      | inr none ↦ (let both : true ≡ false = sym risen ∙ none_became at_arrival after_handlers many none place in absurd (cc))
    ]
