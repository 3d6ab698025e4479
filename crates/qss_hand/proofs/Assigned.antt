-- Values that follow at the assigned places, and places that are assigned.
use Rattle.qss_hand.proofs.Common
use Common.{[], ℕ, ℤ, ◌++◌, ◌+◌, ◌<◌, ◌==◌, ◌∙◌, ◌∷◌, ◌≡◌, ap, AreSameBut, arith, Bool, drop}
use Common.{drop_more, false, get_or, int_at, length, length-set, List, list_any, pos, Row, set}
use Common.{sym, true, Values}
use Rattle.std.proofs.Common.{◌≢◌, ◌||◌, inl, inr, ◌⊎◌}
use Rattle.std.proofs.lemmas.Bool.{cases_eq, or_parts}
use Rattle.std.proofs.lemmas.List.{get_or-set_same, get_or-set_other}
use Rattle.std.proofs.lemmas.List.Elements.{All-push}
use Rattle.std.proofs.lemmas.List.Folds.{list_any-append}
use Rattle.mu_num.proofs.Tests.{eqb-yes, eqb-no}
use Rattle.qss_hand.specs.Assigned.{KnowsAssigned}

-- one more value follows
pub same_more : (places : List ℕ) (i : ℕ) (values before : List ℤ) → i < length places → get_or places i 0 < length before → AreSameBut (drop i places) values before →
    AreSameBut (drop (i + 1) places) values (set before (get_or places i 0) (int_at values (get_or places i 0)))
same_more places i values before h inside same place none = by (cases_eq at place)
  where
    at : ℕ
    at = get_or places i 0

    is : ℕ → Bool
    is k = list_any (λ j. j == k) (drop (i + 1) places)

    by : (at ≡ place) ⊎ (at ≢ place) → int_at (set before at (int_at values at)) place ≡ int_at values place
    by (inl here) = ap (int_at (set before at (int_at values at))) (sym here) ∙ get_or-set_same before at (int_at values at) (pos 0) inside ∙ ap (int_at values) here
    by (inr ne) =
        let there : list_any (λ j. j == place) (drop i places) ≡ (at == place || is place) = ap (list_any (λ j. j == place)) (drop_more places i 0 h) in
        get_or-set_other before at place (int_at values at) (pos 0) (λ q. ne (sym q)) ∙ same place (there ∙ ap (λ b. b || is place) (eqb-no at place ne) ∙ none)

-- one more place is assigned, with one more row
pub one_assigned : (values before new : List ℤ) (assigned now : List ℕ) (place count rows room row_room more lines : ℕ) (level : ℤ) → KnowsAssigned values before assigned count rows room row_room →
    place < length values → new ≡ set values place level → now ≡ assigned ++ place ∷ [] → more ≡ count + 1 → lines ≡ rows + 1 → KnowsAssigned new before now more lines room row_room
one_assigned values before new assigned now place count rows room row_room more lines level known inside is listed more_is lines_is = record {
  as_many = known.as_many ∙ sym many;
  below = rw listed (All-push (λ p. p < length new) assigned place (λ k d h. omega (arith, known.below k d h, many)) (omega (arith, inside, many)));
  same = λ other none.
      let parts = or_parts (list_any (λ j. j == other) assigned) (place == other || false) (sym (ap (list_any (λ j. j == other)) listed ∙ list_any-append (λ j. j == other) assigned (place ∷ [])) ∙ none) in
      let ne : other ≡ place → ⊥ = λ e.
      (let yes : (place == other) ≡ true = eqb-yes place other (sym e) in
      let no : (place == other) ≡ false = (or_parts (place == other) false parts.1).0 in
      absurd (cc)) in
      known.same other parts.0 ∙ sym (ap (λ l. int_at l other) is ∙ get_or-set_other values place other level (pos 0) ne);
  few = omega (arith, known.few, more_is, lines_is);
  has_room = known.has_room;
}
  where
    many : length new ≡ length values
    many = ap length is ∙ length-set values place level

-- equal values
pub same_values : (a b : Values) → a.x ≡ b.x → a.d ≡ b.d → a.pre ≡ b.pre → a.tick ≡ b.tick → a.log ≡ b.log → a.room ≡ b.room → a ≡ b
same_values a b x d pre tick log room =
    ap (λ (l : List ℤ). record a { x = l }) x
    ∙ ap (λ (l : List ℤ). record a { x = b.x; d = l }) d
    ∙ ap (λ (l : List ℤ). record a { x = b.x; d = b.d; pre = l }) pre
    ∙ ap (λ (t : ℕ). record a { x = b.x; d = b.d; pre = b.pre; tick = t }) tick
    ∙ ap (λ (l : List Row). record b { log = l; room = a.room }) log
    ∙ ap (λ (n : ℕ). record b { room = n }) room
