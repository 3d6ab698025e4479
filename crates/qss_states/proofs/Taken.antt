-- States that take their new levels one after another.
use Rattle.qss_states.proofs.Common
use Common.{[], ℕ, ℤ, ◌++◌, ◌+◌, ◌<◌, ◌∙◌, ◌≡◌, ◌≢◌, ◌≤◌, ◌⊎◌, among_more, ap, append-nil}
use Common.{append_assoc, AreRequantized, arith, Bool, DiffersOnlyAt, eqb, eqb-false, exceeds}
use Common.{false, get_or, get_or-set_other, get_or-set_same, if◌then◌else◌, index_of, inl, inr}
use Common.{int_at, is_listed, IsAllowedLevel, IsFirstOf, IsNextLevel, IsStrictlyIncreasing, length}
use Common.{length-set, List, Machine, None, Option, option_or, or_cases, or_parts, pos, refl, Row}
use Common.{row_of, set, Some, subst, sym, take, take_all, true, written_more}
use Rattle.qss_quant.specs.declared.quantizer.Rule.{Rule}
use Rattle.std.proofs.lemmas.Bool.{eq-eqb, eqb-true, or_left, or_right}
use Rattle.std.proofs.lemmas.List.{get_or-take, length-take-le}
use Rattle.std.proofs.lemmas.List.Kept.{AllPairs-from_increasing}
use Rattle.std.specs.List.{flat_map}
use Rattle.mu_num.proofs.RisingNumbers.{due_rows_more}
use Rattle.qss_states.specs.LevelChanges.{taken_row}
use Rattle.qss_states.proofs.DueLevels.{same_rows}

-- ---- one more of rising numbers

-- a number among the first of them is below the next
below_next : (places : List ℕ) (i place : ℕ) → IsStrictlyIncreasing places → i < length places → is_listed (take i places) place ≡ true → place < get_or places i 0
below_next places i place rising h e =
    let found = index_of (take i places) place e in
    let less : found.0 < i = omega (arith, found.1, length-take-le i places (omega (arith, h))) in
    omega (arith, found.2, get_or-take i places found.0 0 less, AllPairs-from_increasing places rising found.0 i 0 less h)

-- one among them and the next is among them or is it
among_either : (places : List ℕ) (i place : ℕ) → i < length places → is_listed (take (i + 1) places) place ≡ true → (is_listed (take i places) place ≡ true) ⊎ (eqb (get_or places i 0) place ≡ true)
among_either places i place h e = or_cases (is_listed (take i places) place) (eqb (get_or places i 0) place) (sym (among_more places i place h) ∙ e)

-- the first of them that passes a test, where the next one is looked at too
first_more : (test next : ℕ → Bool) (places : List ℕ) (i : ℕ) (first : Option ℕ) (b : Bool) → IsStrictlyIncreasing places → i < length places →
    ((place : ℕ) → is_listed (take i places) place ≡ true → next place ≡ test place) → next (get_or places i 0) ≡ b → IsFirstOf test (take i places) first →
    IsFirstOf next (take (i + 1) places) (option_or first (if b then Some (get_or places i 0) else None))
first_more test next places i (Some first) b rising h same here found = (
  among_more places i first h ∙ or_left (is_listed (take i places) first) (eqb (get_or places i 0) first) found.0,
  same first found.0 ∙ found.1,
  (λ place less e. by_turn place less (among_either places i place h e)),
)
  where
    by_turn : (place : ℕ) → place < first → (is_listed (take i places) place ≡ true) ⊎ (eqb (get_or places i 0) place ≡ true) → next place ≡ false
    by_turn place less (inl sooner) = same place sooner ∙ found.2 place less sooner
    by_turn place less (inr last) = absurd (omega (arith, less, eqb-true (get_or places i 0) place last, below_next places i first rising h found.0))
first_more test next places i None true rising h same here found = (
  among_more places i (get_or places i 0) h
      ∙ or_right (is_listed (take i places) (get_or places i 0)) (eqb (get_or places i 0) (get_or places i 0)) (eq-eqb (get_or places i 0) (get_or places i 0) refl),
  here,
  (λ place less e. by_turn place less (among_either places i place h e)),
)
  where
    by_turn : (place : ℕ) → place < get_or places i 0 → (is_listed (take i places) place ≡ true) ⊎ (eqb (get_or places i 0) place ≡ true) → next place ≡ false
    by_turn place less (inl sooner) = same place sooner ∙ found place sooner
    by_turn place less (inr last) = absurd (omega (arith, less, eqb-true (get_or places i 0) place last))
first_more test next places i None false rising h same here found = λ place e. by_turn place (among_either places i place h e)
  where
    by_turn : (place : ℕ) → (is_listed (take i places) place ≡ true) ⊎ (eqb (get_or places i 0) place ≡ true) → next place ≡ false
    by_turn place (inl sooner) = same place sooner ∙ found place sooner
    by_turn place (inr last) = subst (λ p. next p ≡ false) (eqb-true (get_or places i 0) place last) here

-- one more number is written, whatever it is
off_more : (places : List ℕ) (i : ℕ) (old kept : List ℤ) (v : ℤ) → i < length places → DiffersOnlyAt (take i places) old kept → DiffersOnlyAt (take (i + 1) places) old (set kept (get_or places i 0) v)
off_more places i old kept v h off = record {
  as_many = length-set kept (get_or places i 0) v ∙ off.as_many;
  others = λ k e.
      let parts = or_parts (is_listed (take i places) k) (eqb (get_or places i 0) k) (sym (among_more places i k h) ∙ e) in
      let ne : get_or places i 0 ≢ k = eqb-false (get_or places i 0) k parts.1 in
      get_or-set_other kept (get_or places i 0) k v (pos 0) (λ q. ne (sym q)) ∙ off.others k parts.0;
}

-- where nothing is found, nothing was, and the next one is not
neither : (first : Option ℕ) (b : Bool) (j : ℕ) → option_or first (if b then Some j else None) ≡ None → (first ≡ None) × (b ≡ false)
neither (Some f) b j e = absurd (cc)
neither None true j e = absurd (cc)
neither None false j e = (refl, refl)

-- ---- states that took their levels so far

module _ (m : Machine) (name : Option Rule) (tick : ℕ) (states : List ℤ) (old : List ℤ) (before : List Row) where
  -- none did
  pub none_taken : AreRequantized m name tick states [] old old old before before None
  none_taken = record {
    allowed = record { as_many = refl; each = λ place e. absurd (cc); others = λ place e. refl };
    found = λ place e. absurd (cc);
    off = record { as_many = refl; others = λ j e. refl };
    levels = λ e. refl;
    own_rows = λ e. sym (append-nil before);
  }

  -- one more does, or its level is past the limit
  pub taken_more : (moved : List ℕ) (i : ℕ) (kept new : List ℤ) (rows after : List Row) (first : Option ℕ) (level v : ℤ) (b : Bool) →
      i < length moved → IsStrictlyIncreasing moved → get_or moved i 0 < length old → AreRequantized m name tick states (take i moved) old kept new before rows first →
      IsNextLevel (IsAllowedLevel name) m (get_or moved i 0) (int_at states (get_or moved i 0)) (int_at old (get_or moved i 0)) level →
      exceeds 43 level ≡ b → (b ≡ false → v ≡ level) →
      (b ≡ false → after ≡ rows ++ row_of tick (get_or moved i 0) (int_at old (get_or moved i 0)) level (int_at states (get_or moved i 0))) →
      AreRequantized m name tick states (take (i + 1) moved) old (set kept (get_or moved i 0) v) (set new (get_or moved i 0) level) before after
      (option_or first (if b then Some (get_or moved i 0) else None))
  taken_more moved i kept new rows after first level v b h rising inside done next past same_level own_row =
      let j : ℕ = get_or moved i 0 in
      let within : j < length new = omega (arith, inside, done.allowed.as_many) in
      let far : (k : ℕ) → is_listed (take i moved) k ≡ true → k ≡ j → ⊥ = λ k sooner e. omega (arith, e, below_next moved i k rising h sooner) in
      let same : (k : ℕ) → is_listed (take i moved) k ≡ true → int_at (set new j level) k ≡ int_at new k = λ k sooner. get_or-set_other new j k level (pos 0) (far k sooner) in
      let here : int_at (set new j level) j ≡ level = get_or-set_same new j level (pos 0) within in
      let was : ℕ → List Row = taken_row tick states old new in
      let is : ℕ → List Row = taken_row tick states old (set new j level) in
      let row : List Row = row_of tick j (int_at old j) level (int_at states j) in
      record {
        allowed = written_more (pos 0) (λ k l. IsNextLevel (IsAllowedLevel name) m k (int_at states k) (int_at old k) l) moved old new i level h within done.allowed next;
        found = first_more (λ k. exceeds 43 (int_at new k)) (λ k. exceeds 43 (int_at (set new j level) k)) moved i first b rising h
            (λ k sooner. ap (exceeds 43) (same k sooner)) (ap (exceeds 43) here ∙ past) done.found;
        off = off_more moved i old kept v h done.off;
        levels = λ none.
            let both = neither first b j none in
            ap (λ (l : List ℤ). set l j v) (done.levels both.0) ∙ ap (λ (z : ℤ). set new j z) (same_level both.1);
        own_rows = λ none.
            let both = neither first b j none in
            let earlier : flat_map was (take i moved) ≡ flat_map is (take i moved) =
            same_rows was is (take i moved) (λ k sooner. ap (λ z. row_of tick k (int_at old k) z (int_at states k)) (sym (same k sooner))) in
            let last : row ≡ is j = ap (λ z. row_of tick j (int_at old j) z (int_at states j)) (sym here) in
            own_row both.1
            ∙ ap (λ (r : List Row). r ++ row) (done.own_rows both.0)
            ∙ append_assoc before (flat_map was (take i moved)) row
            ∙ ap (λ (more : List Row). before ++ more)
            (ap (λ (r : List Row). r ++ row) earlier ∙ ap (λ (r : List Row). flat_map is (take i moved) ++ r) last ∙ sym (due_rows_more is moved i h));
      }

  -- all did
  pub taken_all : (moved : List ℕ) (i : ℕ) (kept new : List ℤ) (rows : List Row) (first : Option ℕ) → length moved ≤ i → AreRequantized m name tick states (take i moved) old kept new before rows first →
      AreRequantized m name tick states moved old kept new before rows first
  taken_all moved i kept new rows first h done = subst (λ (places : List ℕ). AreRequantized m name tick states places old kept new before rows first) (take_all i moved h) done
