-- The first marked slot, and the first place at it.
use Rattle.qss_sched.proofs.Common
use Common.{ℕ, ◌%◌, ◌*◌, ◌+◌, ◌-◌, ◌/◌, ◌<◌, ◌^◌, ◌∙◌, ◌≡◌, ◌≢◌, ◌≤◌, ◌⊎◌, ap, AreMarks, arith}
use Common.{bit_at, bit_at-trailing_zeros, bit_at-zero, cases_eq, cases_lt, HasNoPlace, inl, inr}
use Common.{IsEarliest, IsFirstPlace, IsGrouped, List, place_bit, slice_index, sym, trailing_zeros}
use Common.{w64}
use Rattle.std.proofs.lemmas.Nat.{pow_pos, mod_below, div-add-mod', shr_le}
use Rattle.std.proofs.lemmas.Nat.Bits.{bit_at-lt, bit_at_above, bit_at_cat_high}
use Rattle.qss_sched.specs.Wheels.{IsFirstSlot}
use Rattle.qss_sched.proofs.Places.{some_word}

-- the bits of a number that is shifted down
bit_at_shifted : (n k i : ℕ) → bit_at (n / 2 ^ k) i ≡ bit_at n (k + i)
bit_at_shifted n k i =
    let up : k + i - k ≡ i = omega arith in
    sym (ap (λ m. bit_at m (k + i)) (sym (div-add-mod' n (2 ^ k)))
    ∙ (bit_at_cat_high (n / 2 ^ k) k (n % 2 ^ k) (k + i) (mod_below n (2 ^ k) (pow_pos k)) (omega arith) ∙ ap (bit_at (n / 2 ^ k)) up))

-- a bit of a word is one of 64
bit_within : (n i : ℕ) → n < 2 ^ 64 → bit_at n i ≡ 1 → i < 64
bit_within n i fits e =
    elim (cases_lt i 64) [
      | inl h ↦ h
      | inr h ↦ let none = bit_at_above n 64 i fits h in absurd (omega (arith, none, e))
    ]

positive : (n : ℕ) → n ≢ 0 → 0 < n
positive n some = omega (arith, some)

pub slot_in_rest : (slots from : ℕ) → slots < 2 ^ 64 → from < 64 → slots / 2 ^ from ≢ 0 → IsFirstSlot slots from (trailing_zeros w64 (slots / 2 ^ from))
slot_in_rest slots from fits near some = record {
  within = lowest.0;
  marked = ap (bit_at slots) at ∙ bit;
  first = λ fewer h.
      let here : (from + fewer) % 64 ≡ from + fewer = omega (arith, h, inside) in
      ap (bit_at slots) here ∙ (sym (bit_at_shifted slots from fewer) ∙ lowest.2 fewer h);
}
  where
    lowest : (trailing_zeros w64 (slots / 2 ^ from) < 64) × (bit_at (slots / 2 ^ from) (trailing_zeros w64 (slots / 2 ^ from)) ≡ 1) × ((i : ℕ) → i < trailing_zeros w64 (slots / 2 ^ from) → bit_at (slots / 2 ^ from) i ≡ 0)
    lowest = bit_at-trailing_zeros w64 (slots / 2 ^ from) (positive (slots / 2 ^ from) some) (omega (arith, shr_le slots from, fits))

    bit : bit_at slots (from + trailing_zeros w64 (slots / 2 ^ from)) ≡ 1
    bit = sym (bit_at_shifted slots from (trailing_zeros w64 (slots / 2 ^ from))) ∙ lowest.1

    inside : from + trailing_zeros w64 (slots / 2 ^ from) < 64
    inside = bit_within slots (from + trailing_zeros w64 (slots / 2 ^ from)) fits bit

    at : (from + trailing_zeros w64 (slots / 2 ^ from)) % 64 ≡ from + trailing_zeros w64 (slots / 2 ^ from)
    at = omega (arith, inside)

pub slot_around : (slots from : ℕ) → slots < 2 ^ 64 → from < 64 → 0 < slots → slots / 2 ^ from ≡ 0 → IsFirstSlot slots from (trailing_zeros w64 slots + (64 - from))
slot_around slots from fits near some none = record {
  within = omega (arith, early, near);
  marked = ap (bit_at slots) at ∙ lowest.1;
  first = λ fewer h. by_turn fewer h (cases_lt (from + fewer) 64);
}
  where
    lowest : (trailing_zeros w64 slots < 64) × (bit_at slots (trailing_zeros w64 slots) ≡ 1) × ((i : ℕ) → i < trailing_zeros w64 slots → bit_at slots i ≡ 0)
    lowest = bit_at-trailing_zeros w64 slots some fits

    -- no slot from there on is marked
    past : (i : ℕ) → bit_at slots (from + i) ≡ 0
    past i = sym (bit_at_shifted slots from i) ∙ (ap (λ n. bit_at n i) none ∙ bit_at-zero i)

    early : trailing_zeros w64 slots < from
    early =
        elim (cases_lt (trailing_zeros w64 slots) from) [
          | inl h ↦ h
          | inr h ↦
              let up : from + (trailing_zeros w64 slots - from) ≡ trailing_zeros w64 slots = omega (arith, h) in
              let no = past (trailing_zeros w64 slots - from) in
              absurd (omega (arith, ap (bit_at slots) up, no, lowest.1))
        ]

    at : (from + (trailing_zeros w64 slots + (64 - from))) % 64 ≡ trailing_zeros w64 slots
    at = omega (arith, near, early)

    by_turn : (fewer : ℕ) → fewer < trailing_zeros w64 slots + (64 - from) → (from + fewer < 64) ⊎ (64 ≤ from + fewer) → bit_at slots ((from + fewer) % 64) ≡ 0
    by_turn fewer h (inl before) =
        let here : (from + fewer) % 64 ≡ from + fewer = omega (arith, before) in
        ap (bit_at slots) here ∙ past fewer
    by_turn fewer h (inr after) =
        let less : (from + fewer) % 64 < trailing_zeros w64 slots = omega (arith, h, after, near, lowest.0) in
        lowest.2 ((from + fewer) % 64) less

pub place_found : (places groups : List ℕ) (slot group place : ℕ) → IsGrouped places groups → slot < 64 → slice_index groups slot ≢ 0 → slice_index groups slot < 2 ^ 64 →
    group ≡ trailing_zeros w64 (slice_index groups slot) → slice_index places (64 * group + slot) < 2 ^ 64 →
    place ≡ 64 * group + trailing_zeros w64 (slice_index places (64 * group + slot)) → IsFirstPlace places slot place
place_found places groups slot group place a hs some fits is_group word_fits is_place = record {
  within = omega (arith, inside, inner.0, is_place);
  there = ap (λ g. bit_at (slice_index places (64 * g + slot)) (place % 64)) of_group ∙ (ap (bit_at (slice_index places (64 * group + slot))) of_bit ∙ inner.1);
  first = λ other small bit.
      let there = a.marked slot (other / 64) hs (omega (arith, small)) (some_word (slice_index places (64 * (other / 64) + slot)) (other % 64) bit) in
      by_group other small bit there (cases_lt (other / 64) group);
}
  where
    outer : (trailing_zeros w64 (slice_index groups slot) < 64) × (bit_at (slice_index groups slot) (trailing_zeros w64 (slice_index groups slot)) ≡ 1) × ((i : ℕ) → i < trailing_zeros w64 (slice_index groups slot) → bit_at (slice_index groups slot) i ≡ 0)
    outer = bit_at-trailing_zeros w64 (slice_index groups slot) (positive (slice_index groups slot) some) fits

    inside : group < 64
    inside = omega (arith, outer.0, is_group)

    word : slice_index places (64 * group + slot) ≢ 0
    word = a.some slot group hs inside (ap (bit_at (slice_index groups slot)) is_group ∙ outer.1)

    inner : (trailing_zeros w64 (slice_index places (64 * group + slot)) < 64) × (bit_at (slice_index places (64 * group + slot)) (trailing_zeros w64 (slice_index places (64 * group + slot))) ≡ 1) × ((i : ℕ) → i < trailing_zeros w64 (slice_index places (64 * group + slot)) → bit_at (slice_index places (64 * group + slot)) i ≡ 0)
    inner = bit_at-trailing_zeros w64 (slice_index places (64 * group + slot)) (positive (slice_index places (64 * group + slot)) word) word_fits

    of_group : place / 64 ≡ group
    of_group = omega (arith, inner.0, is_place)

    of_bit : place % 64 ≡ trailing_zeros w64 (slice_index places (64 * group + slot))
    of_bit = omega (arith, inner.0, is_place)

    by_group : (other : ℕ) → other < 4096 → place_bit places slot other ≡ 1 → bit_at (slice_index groups slot) (other / 64) ≡ 1 → (other / 64 < group) ⊎ (group ≤ other / 64) → place ≤ other
    by_group other small bit there (inl less) =
        let none = outer.2 (other / 64) (omega (arith, less, is_group)) in absurd (omega (arith, none, there))
    by_group other small bit there (inr more) =
        elim (cases_eq (other / 64) group) [
          | inl same ↦
              let own : bit_at (slice_index places (64 * group + slot)) (other % 64) ≡ 1 = sym (ap (λ g. bit_at (slice_index places (64 * g + slot)) (other % 64)) same) ∙ bit in
              elim (cases_lt (other % 64) (trailing_zeros w64 (slice_index places (64 * group + slot)))) [
                | inl less ↦ let none = inner.2 (other % 64) less in absurd (omega (arith, none, own))
                | inr late ↦ omega (arith, late, same, is_place)
              ]
          | inr apart ↦ omega (arith, more, apart, inner.0, is_place)
        ]

-- the slot of a place is marked
marked_slot : (places groups : List ℕ) (slots : ℕ) → AreMarks places groups slots → (slot place : ℕ) → slot < 64 → place < 4096 → place_bit places slot place ≡ 1 →
    bit_at slots slot ≡ 1
marked_slot places groups slots a slot place hs small bit =
    let word = some_word (slice_index places (64 * (place / 64) + slot)) (place % 64) bit in
    let group = a.grouped.marked slot (place / 64) hs (omega (arith, small)) word in
    a.slotted.marked slot hs (some_word (slice_index groups slot) (place / 64) group)

-- no place is at a slot that is not marked
unmarked_slot : (places groups : List ℕ) (slots : ℕ) → AreMarks places groups slots → (slot place : ℕ) → slot < 64 → place < 4096 → bit_at slots slot ≡ 0 →
    place_bit places slot place ≡ 0
unmarked_slot places groups slots a slot place hs small none =
    elim (cases_eq (place_bit places slot place) 1) [
      | inl one ↦ absurd (omega (arith, marked_slot places groups slots a slot place hs small one, none))
      | inr other ↦ omega (arith, other, bit_at-lt (slice_index places (64 * (place / 64) + slot)) (place % 64))
    ]

pub no_place : (places groups : List ℕ) (slots : ℕ) → AreMarks places groups slots → slots ≡ 0 → HasNoPlace places
no_place places groups slots a zero slot place hs small =
    unmarked_slot places groups slots a slot place hs small (ap (λ n. bit_at n slot) zero ∙ bit_at-zero slot)

pub earliest : (places groups : List ℕ) (slots from later place : ℕ) → AreMarks places groups slots → IsFirstSlot slots from later → IsFirstPlace places ((from + later) % 64) place →
    IsEarliest places from later place
earliest places groups slots from later place a fs fp = record {
  within = fs.within;
  none = λ fewer other h small. unmarked_slot places groups slots a ((from + fewer) % 64) other (omega arith) small (fs.first fewer h);
  is_first = fp;
}
