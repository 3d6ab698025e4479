-- How often lines go on otherwise.
use Rattle.qss_states.proofs.Common
use Common.{ℕ, ℤ, ◌+◌, ◌<◌, ◌∙◌, ◌≡◌, ◌≢◌, ◌≤◌, and_parts, ap, arith, Bool, cases_Bool, count_by}
use Common.{Decides-int_eq, false, goes_from, has_level_and_slope, inl, inr, int_at, int_eq, Line}
use Common.{line_at, line_here, List, not, range_with_len, refl, replaced_lines, state_at, subst}
use Common.{sym, true}
use Rattle.std.proofs.Common.{◌&&◌}
use Rattle.qss_states.specs.LineReplacements.{IsAlong}
use Rattle.std.proofs.lemmas.Bool.{and_from, not_from_true}
use Rattle.qss_states.proofs.Counting.{one_if, count_none, count_one}

-- a line at this level and slope goes on so
pub goes_so : (level slope : ℤ) (line : Line) → line.level ≡ level → line.slope ≡ slope → has_level_and_slope level slope line ≡ true
goes_so level slope line own_level own_slope = and_from _ _ ((Decides-int_eq line.level level).1 own_level) ((Decides-int_eq line.slope slope).1 own_slope)

-- where a line is at its state it moves only for its level or its slope
pub from_here : (tick : ℕ) (x level slope : ℤ) (line : Line) → state_at line tick ≡ x → goes_from tick x level slope line ≡ has_level_and_slope level slope line
from_here tick x level slope line here = ap (λ (b : Bool). b && has_level_and_slope level slope line) ((Decides-int_eq (state_at line tick) x).1 here)

-- a line that goes on so has this state, slope and level
goes_parts : (tick : ℕ) (x level slope : ℤ) (line : Line) → goes_from tick x level slope line ≡ true → (state_at line tick ≡ x) × (line.slope ≡ slope) × (line.level ≡ level)
goes_parts tick x level slope line so =
    let both = and_parts (int_eq (state_at line tick) x) (has_level_and_slope level slope line) so in
    let own = and_parts (int_eq line.level level) (int_eq line.slope slope) both.1 in
    ((Decides-int_eq (state_at line tick) x).0 both.0, (Decides-int_eq line.slope slope).0 own.1, (Decides-int_eq line.level level).0 own.0)

-- a line was moved to go on as this one, unless it did so already: it goes on so, stayed if it did, and only else one more move is counted
module _ {here line new : Line} {anew : Bool} {before after : ℕ} (moved : anew ≡ true → (new ≡ here) × (after ≡ before + 1))
    (kept : state_at line here.tick ≡ here.x → line.slope ≡ here.slope → line.level ≡ here.level → anew ≡ false)
    (left : anew ≡ false → (new ≡ line) × (state_at line here.tick ≡ here.x) × (line.slope ≡ here.slope) × (line.level ≡ here.level) × (after ≡ before)) where
  pub as_here : line.tick ≤ here.tick → IsAlong here.tick here new
  as_here later = elim (cases_Bool anew) [
    | inl went ↦ subst (IsAlong here.tick here) (sym (moved went).0) (record { not_later = omega arith; here = refl; same_slope = refl; same_level = refl })
    | inr still ↦ subst (IsAlong here.tick here) (sym (left still).0)
        (record { not_later = later; here = (left still).1 ∙ sym (line_here here.tick here.x here.slope here.level); same_slope = (left still).2; same_level = (left still).3 })
  ]

  stayed : goes_from here.tick here.x here.level here.slope line ≡ true → anew ≡ false
  stayed so = let own = goes_parts here.tick here.x here.level here.slope line so in kept own.0 own.1 own.2

  pub left_so : goes_from here.tick here.x here.level here.slope line ≡ true → new ≡ line
  left_so so = (left (stayed so)).0

  pub counted_so : after ≡ before + one_if (not (goes_from here.tick here.x here.level here.slope line))
  counted_so = elim (cases_Bool (goes_from here.tick here.x here.level here.slope line)) [
    | inl so ↦ omega (arith, (left (stayed so)).4, ap (λ (b : Bool). one_if (not b)) so)
    | inr other ↦ elim (cases_Bool anew) [
      | inl went ↦ omega (arith, (moved went).1, ap (λ (b : Bool). one_if (not b)) other)
      | inr still ↦ absurd (let so = from_here here.tick here.x here.level here.slope line (left still).1 ∙ goes_so here.level here.slope line (left still).3 (left still).2 in cc)
    ]
  ]

-- where no line is at both the level and the slope it goes on otherwise
pub goes_otherwise : (level slope : ℤ) (line : Line) → (line.level ≡ level → line.slope ≡ slope → ⊥) → has_level_and_slope level slope line ≡ false
goes_otherwise level slope line other = elim (cases_Bool (has_level_and_slope level slope line)) [
  | inl so ↦
      let own = and_parts (int_eq line.level level) (int_eq line.slope slope) so in
      absurd (other ((Decides-int_eq line.level level).0 own.0) ((Decides-int_eq line.slope slope).0 own.1))
  | inr otherwise ↦ otherwise
]

-- a line goes on so, and the others as they did: if it went on otherwise there is one less that does
pub one_renewed : (n j : ℕ) (goes : ℕ → Line → Bool) (old new : List Line) (before after : ℕ) → j < n → goes j (line_at new j) ≡ true → ((k : ℕ) → k ≢ j → line_at new k ≡ line_at old k) →
    after ≡ before + one_if (not (goes j (line_at old j))) →
    after + count_by (λ k. not (goes k (line_at new k))) (range_with_len 0 n) ≡ before + count_by (λ k. not (goes k (line_at old k))) (range_with_len 0 n)
one_renewed n j goes old new before after known so others few =
    omega (arith, few, count_one n j (λ k. not (goes k (line_at old k))) (λ k. not (goes k (line_at new k))) known (not_from_true _ so) (λ k far. ap (λ (l : Line). not (goes k l)) (others k far)))

-- where each line goes on so none is left
pub none_left : (n : ℕ) (levels slopes : List ℤ) (lines : List Line) → ((j : ℕ) → j < n → ((line_at lines j).level ≡ int_at levels j) × ((line_at lines j).slope ≡ int_at slopes j)) →
    replaced_lines n levels slopes lines ≡ 0
none_left n levels slopes lines each =
    count_none n (λ j. not (has_level_and_slope (int_at levels j) (int_at slopes j) (line_at lines j)))
    (λ j h. not_from_true _ (goes_so (int_at levels j) (int_at slopes j) (line_at lines j) (each j h).0 (each j h).1))
