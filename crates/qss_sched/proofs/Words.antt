-- The places of one word of the marks, and what is left of them.
use Rattle.qss_sched.proofs.Common
use Common.{ℕ, ◌%◌, ◌*◌, ◌+◌, ◌/◌, ◌<◌, ◌^◌, ◌∙◌, ◌≡◌, ◌≢◌, ◌≤◌, ◌⊎◌, ap, AreMarks, AreTicks, arith}
use Common.{bit_and, bit_at, bit_at-trailing_zeros, bit_at_clear_other, bit_at_clear_same, bit_not}
use Common.{cases_eq, cases_lt, due_at, get_or-set_other, get_or-set_same, get_or_past, inl, inr}
use Common.{IsBitPut, IsFirstPlace, IsGrouped, IsWheel, length, List, None, Option, place_bit}
use Common.{slice_index, slice_set, Some, sym, trailing_zeros, w64}
use Rattle.std.proofs.lemmas.List.{length-set}
use Rattle.std.proofs.lemmas.Nat.{and_le_l}
use Rattle.qss_sched.specs.Wheels.{IsFirstGroup, IsLowest}
use Rattle.qss_sched.proofs.Places.{kept_grouped, gone_grouped, left_slotted_some}
use Rattle.qss_sched.proofs.Places.{left_slotted_none, others_kept, some_word}
use Rattle.qss_sched.proofs.Wheels.{went_out}

pub lowest_bit : (word : ℕ) → 0 < word → word < 2 ^ 64 → IsLowest word (trailing_zeros w64 word)
lowest_bit word some fits = let lowest = bit_at-trailing_zeros w64 word some fits in record { within = lowest.0; marked = lowest.1; none = lowest.2 }

-- the first marked group is the first that has a place
pub group_found : (places groups : List ℕ) (slot group : ℕ) → IsGrouped places groups → slot < 64 → IsLowest (slice_index groups slot) group → IsFirstGroup places slot group
group_found places groups slot group a hs lowest = record {
  within = lowest.within;
  some = a.some slot group hs lowest.within lowest.marked;
  first = λ place small bit.
      let there = a.marked slot (place / 64) hs (omega (arith, small)) (some_word (slice_index places (64 * (place / 64) + slot)) (place % 64) bit) in
      elim (cases_lt (place / 64) group) [
        | inl less ↦ let none = lowest.none (place / 64) less in absurd (omega (arith, none, there))
        | inr more ↦ omega (arith, more)
      ];
}

-- a word that has a bit is one of the words
pub word_inside : (words : List ℕ) (index : ℕ) → slice_index words index ≢ 0 → index < length words
word_inside words index some =
    elim (cases_lt index (length words)) [ inl less ↦ less | inr past ↦ absurd (some (get_or_past words index 0 past)) ]

module _ (places groups : List ℕ) (slots group slot word : ℕ) (a : AreMarks places groups slots) (hg : group < 64) (hs : slot < 64) (some : slice_index places (64 * group + slot) ≢ 0) where
  abbrev new_places : List ℕ
  new_places = slice_set places (64 * group + slot) word

  own : slice_index new_places (64 * group + slot) ≡ word
  own = get_or-set_same places (64 * group + slot) word 0 (word_inside places (64 * group + slot) some)

  others : (k : ℕ) → k ≢ 64 * group + slot → slice_index new_places k ≡ slice_index places k
  others k apart = get_or-set_other places (64 * group + slot) k word 0 apart

  -- a word keeps some places
  pub word_kept : word ≢ 0 → AreMarks new_places groups slots
  word_kept left = record {
    grouped = kept_grouped places groups new_places group slot a.grouped hg hs (length-set places (64 * group + slot) word) others some (λ z. left (sym own ∙ z));
    slotted = a.slotted;
  }

  marked : slice_index groups slot ≢ 0
  marked = some_word (slice_index groups slot) group (a.grouped.marked slot group hs hg some)

  -- the last place of a word goes, and its slot has another
  pub word_gone : (new_groups : List ℕ) → word ≡ 0 → IsBitPut groups new_groups slot group 0 → slice_index new_groups slot ≢ 0 → AreMarks new_places new_groups slots
  word_gone new_groups none mg left = record {
    grouped = gone_grouped places groups new_places new_groups group slot a.grouped hg hs (length-set places (64 * group + slot) word) others mg (own ∙ none);
    slotted = left_slotted_some groups new_groups slots slot group a.slotted hs mg marked left;
  }

  -- the last place of a slot goes
  pub slot_gone : (new_groups : List ℕ) → word ≡ 0 → IsBitPut groups new_groups slot group 0 → slice_index new_groups slot ≡ 0 →
      AreMarks new_places new_groups (bit_and slots (bit_not w64 (1 * 2 ^ slot % 2 ^ 64)))
  slot_gone new_groups none mg last = record {
    grouped = gone_grouped places groups new_places new_groups group slot a.grouped hg hs (length-set places (64 * group + slot) word) others mg (own ∙ none);
    slotted = left_slotted_none groups new_groups slots (bit_and slots (bit_not w64 (1 * 2 ^ slot % 2 ^ 64))) slot group a.slotted hs mg last
        (bit_at_clear_same w64 slots slot hs) (bit_at_clear_other w64 slots slot hs);
  }

-- a bit that is cleared was there, so that less is left
pub less_left : (word bit : ℕ) → bit < 64 → bit_at word bit ≡ 1 → bit_and word (bit_not w64 (1 * 2 ^ bit % 2 ^ 64)) < word
less_left word bit near one =
    elim (cases_lt (bit_and word (bit_not w64 (1 * 2 ^ bit % 2 ^ 64))) word) [
      | inl less ↦ less
      | inr not ↦
          let same : bit_and word (bit_not w64 (1 * 2 ^ bit % 2 ^ 64)) ≡ word = omega (arith, not, and_le_l word (bit_not w64 (1 * 2 ^ bit % 2 ^ 64))) in
          let zero = bit_at_clear_same w64 word bit near in
          absurd (omega (arith, zero, ap (λ w. bit_at w bit) same, one))
    ]

module _ (due : List (Option ℕ)) (words : List ℕ) (base group rest : ℕ) (inside : 64 * group + base % 64 < length words)
    (a : IsWheel due (slice_set words (64 * group + base % 64) rest) base) (hg : group < 64) (bit : ℕ) (lowest : IsLowest rest bit)
    (ahead : (place : ℕ) → due_at due place ≡ Some base → 64 * group ≤ place) where
  abbrev places : List ℕ
  places = slice_set words (64 * group + base % 64) rest

  held_word : slice_index places (64 * group + base % 64) ≡ rest
  held_word = get_or-set_same words (64 * group + base % 64) rest 0 inside

  -- the lowest bit is the first place at the slot of the base
  pub word_first : IsFirstPlace places (base % 64) (64 * group + bit)
  word_first = record {
    within = omega (arith, hg, lowest.within);
    there = ap (λ w. bit_at w ((64 * group + bit) % 64)) (ap (λ g. slice_index places (64 * g + base % 64)) of_group ∙ held_word) ∙ (ap (bit_at rest) of_bit ∙ lowest.marked);
    first = λ other small one.
        let d = a.owed (base % 64) other (omega arith) small one in
        let n = a.near other d.0 d.1 in
        let same : d.0 ≡ base = omega (arith, n.0, n.1, d.2) in
        by_group other one (ahead other (d.1 ∙ ap Some same)) (cases_eq (other / 64) group);
  }
    where
      of_group : (64 * group + bit) / 64 ≡ group
      of_group = omega (arith, lowest.within)

      of_bit : (64 * group + bit) % 64 ≡ bit
      of_bit = omega (arith, lowest.within)

      by_group : (other : ℕ) → place_bit places (base % 64) other ≡ 1 → 64 * group ≤ other → (other / 64 ≡ group) ⊎ (other / 64 ≢ group) → 64 * group + bit ≤ other
      by_group other one past (inl same) =
          let own : bit_at rest (other % 64) ≡ 1 = sym (ap (λ w. bit_at w (other % 64)) (ap (λ g. slice_index places (64 * g + base % 64)) same ∙ held_word)) ∙ one in
          elim (cases_lt (other % 64) bit) [
            | inl less ↦ let none = lowest.none (other % 64) less in absurd (omega (arith, none, own))
            | inr late ↦ omega (arith, late, same)
          ]
      by_group other one past (inr apart) = omega (arith, past, apart, lowest.within)

  abbrev left : ℕ
  left = bit_and rest (bit_not w64 (1 * 2 ^ bit % 2 ^ 64))

  bit_gone : IsBitPut places (slice_set words (64 * group + base % 64) left) (64 * group + base % 64) bit 0
  bit_gone = record {
    as_many = length-set words (64 * group + base % 64) left ∙ sym (length-set words (64 * group + base % 64) rest);
    takes = ap (λ w. bit_at w bit) held_left ∙ bit_at_clear_same w64 rest bit lowest.within;
    others = λ i within apart.
        ap (λ w. bit_at w i) held_left ∙ (bit_at_clear_other w64 rest bit lowest.within i within apart ∙ sym (ap (λ w. bit_at w i) held_word));
    apart = λ k other. get_or-set_other words (64 * group + base % 64) k left 0 other ∙ sym (get_or-set_other words (64 * group + base % 64) k rest 0 other);
  }
    where
      held_left : slice_index (slice_set words (64 * group + base % 64) left) (64 * group + base % 64) ≡ left
      held_left = get_or-set_same words (64 * group + base % 64) left 0 inside

  -- the place of the lowest bit goes
  pub bit_out : (new_due : List (Option ℕ)) (place : ℕ) → place ≡ 64 * group + bit → due_at due place ≡ Some base → new_due ≡ slice_set due place None → AreTicks new_due →
      IsWheel new_due (slice_set words (64 * group + base % 64) left) base
  bit_out new_due place is has put small =
      went_out due new_due places (slice_set words (64 * group + base % 64) left) base place base a has put small gone
      (others_kept places (slice_set words (64 * group + base % 64) left) place (base % 64) 0 (omega arith) bit_of_place)
    where
      of_group : place / 64 ≡ group
      of_group = omega (arith, lowest.within, is)

      of_bit : place % 64 ≡ bit
      of_bit = omega (arith, lowest.within, is)

      bit_of_place : IsBitPut places (slice_set words (64 * group + base % 64) left) (64 * (place / 64) + base % 64) (place % 64) 0
      bit_of_place = rw (of_group, of_bit) bit_gone

      gone : place_bit (slice_set words (64 * group + base % 64) left) (base % 64) place ≡ 0
      gone = bit_of_place.takes

-- what is due after a place is without its due tick was due before
pub still_due : (due new_due : List (Option ℕ)) (place other tick : ℕ) → new_due ≡ slice_set due place None → place < length due → due_at new_due other ≡ Some tick →
    due_at due other ≡ Some tick
still_due due new_due place other tick put inside e =
    elim (cases_eq other place) [
      | inl same ↦
          let none : due_at new_due other ≡ None = ap (due_at new_due) same ∙ (ap (λ l. due_at l place) put ∙ get_or-set_same due place None None inside) in
          absurd (cc)
      | inr apart ↦ sym (ap (λ l. due_at l other) put ∙ get_or-set_other due place other None None apart) ∙ e
    ]
