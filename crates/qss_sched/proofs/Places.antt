-- Places are added to slots and removed from them.
use Rattle.qss_sched.proofs.Common
use Common.{ℕ, ◌%◌, ◌*◌, ◌+◌, ◌/◌, ◌<◌, ◌^◌, ◌∙◌, ◌≡◌, ◌≢◌, ap, AreMarks, AreOthersKept, arith}
use Common.{bit_and, bit_at, bit_at-zero, bit_at_clear_other, bit_at_clear_same, bit_at_set_other}
use Common.{bit_at_set_same, bit_not, cases_eq, inl, inr, IsBitPut, IsGrouped, length, List}
use Common.{place_bit, slice_index, sym, w64}
use Rattle.std.proofs.Common.{bit_or}
use Rattle.qss_sched.specs.Wheels.{IsSlotted}

-- a word with a bit is not zero
pub some_word : (word bit : ℕ) → bit_at word bit ≡ 1 → word ≢ 0
some_word word bit e z = absurd (omega (arith, sym e ∙ (ap (λ w. bit_at w bit) z ∙ bit_at-zero bit)))

-- the word of a slot and a group is that of no other slot and group
word_slot : (group slot g s : ℕ) → slot < 64 → s < 64 → 64 * g + s ≡ 64 * group + slot → s ≡ slot
word_slot group slot g s h i e = omega arith

word_group : (group slot g s : ℕ) → slot < 64 → s < 64 → 64 * g + s ≡ 64 * group + slot → g ≡ group
word_group group slot g s h i e = omega arith

entered_grouped : (places groups new_places new_groups : List ℕ) (place slot : ℕ) → IsGrouped places groups → place < 4096 → slot < 64 →
    IsBitPut places new_places (64 * (place / 64) + slot) (place % 64) 1 → IsBitPut groups new_groups slot (place / 64) 1 → IsGrouped new_places new_groups
entered_grouped places groups new_places new_groups place slot a small near mp mg = record {
  many_places = mp.as_many ∙ a.many_places;
  many_groups = mg.as_many ∙ a.many_groups;
  marked = λ s g hs hg some.
      elim (cases_eq (64 * g + s) (64 * (place / 64) + slot)) [
        | inl same ↦
            let es = word_slot (place / 64) slot g s near hs same in
            let eg = word_group (place / 64) slot g s near hs same in
            ap (λ k. bit_at (slice_index new_groups k) g) es ∙ (ap (bit_at (slice_index new_groups slot)) eg ∙ mg.takes)
        | inr other ↦
            old_bit s g hs hg other (a.marked s g hs hg (λ z. some (mp.apart (64 * g + s) other ∙ z)))
      ];
  some = λ s g hs hg bit.
      elim (cases_eq (64 * g + s) (64 * (place / 64) + slot)) [
        | inl same ↦ λ z. some_word (slice_index new_places (64 * (place / 64) + slot)) (place % 64) mp.takes (sym (ap (slice_index new_places) same) ∙ z)
        | inr other ↦ λ z. a.some s g hs hg (sym (kept s g hs hg other) ∙ bit) (sym (mp.apart (64 * g + s) other) ∙ z)
      ];
}
  where
    kept : (s g : ℕ) → s < 64 → g < 64 → (64 * g + s ≢ 64 * (place / 64) + slot) → bit_at (slice_index new_groups s) g ≡ bit_at (slice_index groups s) g
    kept s g hs hg other =
        elim (cases_eq s slot) [
          | inl e ↦
              let apart : g ≢ place / 64 = λ f. other (omega (arith, e, f)) in
              ap (λ k. bit_at (slice_index new_groups k) g) e ∙ (mg.others g hg apart ∙ sym (ap (λ k. bit_at (slice_index groups k) g) e))
          | inr n ↦ ap (λ w. bit_at w g) (mg.apart s n)
        ]

    old_bit : (s g : ℕ) → s < 64 → g < 64 → (64 * g + s ≢ 64 * (place / 64) + slot) → bit_at (slice_index groups s) g ≡ 1 → bit_at (slice_index new_groups s) g ≡ 1
    old_bit s g hs hg other e = kept s g hs hg other ∙ e

entered_slotted : (groups new_groups : List ℕ) (slots new_slots slot group : ℕ) → IsSlotted groups slots → slot < 64 → IsBitPut groups new_groups slot group 1 →
    bit_at new_slots slot ≡ 1 → ((i : ℕ) → i ≢ slot → bit_at new_slots i ≡ bit_at slots i) → IsSlotted new_groups new_slots
entered_slotted groups new_groups slots new_slots slot group a near mg own others = record {
  marked = λ s hs some.
      elim (cases_eq s slot) [
        | inl e ↦ ap (bit_at new_slots) e ∙ own
        | inr n ↦ others s n ∙ a.marked s hs (λ z. some (mg.apart s n ∙ z))
      ];
  some = λ s hs bit.
      elim (cases_eq s slot) [
        | inl e ↦ λ z. some_word (slice_index new_groups slot) group mg.takes (sym (ap (slice_index new_groups) e) ∙ z)
        | inr n ↦ λ z. a.some s hs (sym (others s n) ∙ bit) (sym (mg.apart s n) ∙ z)
      ];
}

-- the bits of other places stay
pub others_kept : (places new_places : List ℕ) (place slot value : ℕ) → slot < 64 → IsBitPut places new_places (64 * (place / 64) + slot) (place % 64) value →
    AreOthersKept places new_places slot place
others_kept places new_places place slot value near mp s p hs hp apart =
    elim (cases_eq (64 * (p / 64) + s) (64 * (place / 64) + slot)) [
      | inl same ↦
          let es = word_slot (place / 64) slot (p / 64) s near hs same in
          let eg = word_group (place / 64) slot (p / 64) s near hs same in
          let other : p % 64 ≢ place % 64 = λ f. apart (omega (arith, eg, f)) es in
          ap (λ k. bit_at (slice_index new_places k) (p % 64)) same ∙ (mp.others (p % 64) (omega arith) other ∙ sym (ap (λ k. bit_at (slice_index places k) (p % 64)) same))
      | inr n ↦ ap (λ w. bit_at w (p % 64)) (mp.apart (64 * (p / 64) + s) n)
    ]

-- a word changes, and some places stay
pub kept_grouped : (places groups new_places : List ℕ) (group slot : ℕ) → IsGrouped places groups → group < 64 → slot < 64 →
    length new_places ≡ length places → ((k : ℕ) → k ≢ 64 * group + slot → slice_index new_places k ≡ slice_index places k) →
    slice_index places (64 * group + slot) ≢ 0 → slice_index new_places (64 * group + slot) ≢ 0 → IsGrouped new_places groups
kept_grouped places groups new_places group slot a small near many apart before left = record {
  many_places = many ∙ a.many_places;
  many_groups = a.many_groups;
  marked = λ s g hs hg some.
      elim (cases_eq (64 * g + s) (64 * group + slot)) [
        | inl same ↦ a.marked s g hs hg (λ z. before (sym (ap (slice_index places) same) ∙ z))
        | inr other ↦ a.marked s g hs hg (λ z. some (apart (64 * g + s) other ∙ z))
      ];
  some = λ s g hs hg bit.
      elim (cases_eq (64 * g + s) (64 * group + slot)) [
        | inl same ↦ λ z. left (sym (ap (slice_index new_places) same) ∙ z)
        | inr other ↦ λ z. a.some s g hs hg bit (sym (apart (64 * g + s) other) ∙ z)
      ];
}

-- the last place leaves a word
pub gone_grouped : (places groups new_places new_groups : List ℕ) (group slot : ℕ) → IsGrouped places groups → group < 64 → slot < 64 →
    length new_places ≡ length places → ((k : ℕ) → k ≢ 64 * group + slot → slice_index new_places k ≡ slice_index places k) → IsBitPut groups new_groups slot group 0 →
    slice_index new_places (64 * group + slot) ≡ 0 → IsGrouped new_places new_groups
gone_grouped places groups new_places new_groups group slot a small near many apart mg none = record {
  many_places = many ∙ a.many_places;
  many_groups = mg.as_many ∙ a.many_groups;
  marked = λ s g hs hg some.
      elim (cases_eq (64 * g + s) (64 * group + slot)) [
        | inl same ↦ absurd (some (ap (slice_index new_places) same ∙ none))
        | inr other ↦ kept s g hs hg other ∙ a.marked s g hs hg (λ z. some (apart (64 * g + s) other ∙ z))
      ];
  some = λ s g hs hg bit.
      elim (cases_eq (64 * g + s) (64 * group + slot)) [
        | inl same ↦ λ z. gone s g hs same bit
        | inr other ↦ λ z. a.some s g hs hg (sym (kept s g hs hg other) ∙ bit) (sym (apart (64 * g + s) other) ∙ z)
      ];
}
  where
    kept : (s g : ℕ) → s < 64 → g < 64 → (64 * g + s ≢ 64 * group + slot) → bit_at (slice_index new_groups s) g ≡ bit_at (slice_index groups s) g
    kept s g hs hg other =
        elim (cases_eq s slot) [
          | inl e ↦
              let different : g ≢ group = λ f. other (omega (arith, e, f)) in
              ap (λ k. bit_at (slice_index new_groups k) g) e ∙ (mg.others g hg different ∙ sym (ap (λ k. bit_at (slice_index groups k) g) e))
          | inr n ↦ ap (λ w. bit_at w g) (mg.apart s n)
        ]

    gone : (s g : ℕ) → s < 64 → 64 * g + s ≡ 64 * group + slot → bit_at (slice_index new_groups s) g ≡ 1 → ⊥
    gone s g hs same bit =
        let es = word_slot group slot g s near hs same in
        let eg = word_group group slot g s near hs same in
        let zero : bit_at (slice_index new_groups s) g ≡ 0 = ap (λ k. bit_at (slice_index new_groups k) g) es ∙ (ap (bit_at (slice_index new_groups slot)) eg ∙ mg.takes) in
        omega (arith, zero, bit)

-- the last group of a slot is not left
pub left_slotted_some : (groups new_groups : List ℕ) (slots slot group : ℕ) → IsSlotted groups slots → slot < 64 → IsBitPut groups new_groups slot group 0 →
    slice_index groups slot ≢ 0 → slice_index new_groups slot ≢ 0 → IsSlotted new_groups slots
left_slotted_some groups new_groups slots slot group a near mg before left = record {
  marked = λ s hs some.
      elim (cases_eq s slot) [
        | inl e ↦ a.marked s hs (λ z. before (sym (ap (slice_index groups) e) ∙ z))
        | inr n ↦ a.marked s hs (λ z. some (mg.apart s n ∙ z))
      ];
  some = λ s hs bit.
      elim (cases_eq s slot) [
        | inl e ↦ λ z. left (sym (ap (slice_index new_groups) e) ∙ z)
        | inr n ↦ λ z. a.some s hs bit (sym (mg.apart s n) ∙ z)
      ];
}

pub left_slotted_none : (groups new_groups : List ℕ) (slots new_slots slot group : ℕ) → IsSlotted groups slots → slot < 64 → IsBitPut groups new_groups slot group 0 →
    slice_index new_groups slot ≡ 0 → bit_at new_slots slot ≡ 0 → ((i : ℕ) → i < 64 → i ≢ slot → bit_at new_slots i ≡ bit_at slots i) → IsSlotted new_groups new_slots
left_slotted_none groups new_groups slots new_slots slot group a near mg none own others = record {
  marked = λ s hs some.
      elim (cases_eq s slot) [
        | inl e ↦ absurd (some (ap (slice_index new_groups) e ∙ none))
        | inr n ↦ others s hs n ∙ a.marked s hs (λ z. some (mg.apart s n ∙ z))
      ];
  some = λ s hs bit.
      elim (cases_eq s slot) [
        | inl e ↦ λ z. let zero : bit_at new_slots s ≡ 0 = ap (bit_at new_slots) e ∙ own in omega (arith, zero, bit)
        | inr n ↦ λ z. a.some s hs (sym (others s hs n) ∙ bit) (sym (mg.apart s n) ∙ z)
      ];
}

-- a place is added to a slot
pub entered : (places groups new_places new_groups : List ℕ) (slots place slot : ℕ) → AreMarks places groups slots → place < 4096 → slot < 64 →
    IsBitPut places new_places (64 * (place / 64) + slot) (place % 64) 1 → IsBitPut groups new_groups slot (place / 64) 1 →
    AreMarks new_places new_groups (bit_or slots (1 * 2 ^ slot % 2 ^ 64))
entered places groups new_places new_groups slots place slot a small near mp mg = record {
  grouped = entered_grouped places groups new_places new_groups place slot a.grouped small near mp mg;
  slotted = entered_slotted groups new_groups slots (bit_or slots (1 * 2 ^ slot % 2 ^ 64)) slot (place / 64) a.slotted near mg
      (bit_at_set_same w64 slots slot near) (bit_at_set_other w64 slots slot near);
}

-- a place leaves a word that has others
pub left_word : (places groups new_places : List ℕ) (slots place slot : ℕ) → AreMarks places groups slots → place < 4096 → slot < 64 → place_bit places slot place ≡ 1 →
    IsBitPut places new_places (64 * (place / 64) + slot) (place % 64) 0 → slice_index new_places (64 * (place / 64) + slot) ≢ 0 →
    AreMarks new_places groups slots
left_word places groups new_places slots place slot a small near there mp some = record {
  grouped = kept_grouped places groups new_places (place / 64) slot a.grouped (omega (arith, small)) near mp.as_many mp.apart
      (some_word (slice_index places (64 * (place / 64) + slot)) (place % 64) there) some;
  slotted = a.slotted;
}

-- the last place leaves a word, and its slot has another
pub left_group : (places groups new_places new_groups : List ℕ) (slots place slot : ℕ) → AreMarks places groups slots → place < 4096 → slot < 64 → place_bit places slot place ≡ 1 →
    IsBitPut places new_places (64 * (place / 64) + slot) (place % 64) 0 → slice_index new_places (64 * (place / 64) + slot) ≡ 0 →
    IsBitPut groups new_groups slot (place / 64) 0 → slice_index new_groups slot ≢ 0 → AreMarks new_places new_groups slots
left_group places groups new_places new_groups slots place slot a small near there mp none mg some = record {
  grouped = gone_grouped places groups new_places new_groups (place / 64) slot a.grouped (omega (arith, small)) near mp.as_many mp.apart mg none;
  slotted =
      let word = some_word (slice_index places (64 * (place / 64) + slot)) (place % 64) there in
      let group = a.grouped.marked slot (place / 64) near (omega (arith, small)) word in
      left_slotted_some groups new_groups slots slot (place / 64) a.slotted near mg (some_word (slice_index groups slot) (place / 64) group) some;
}

-- the last place leaves a slot
pub left_slot : (places groups new_places new_groups : List ℕ) (slots place slot : ℕ) → AreMarks places groups slots → place < 4096 → slot < 64 →
    IsBitPut places new_places (64 * (place / 64) + slot) (place % 64) 0 → slice_index new_places (64 * (place / 64) + slot) ≡ 0 →
    IsBitPut groups new_groups slot (place / 64) 0 → slice_index new_groups slot ≡ 0 →
    AreMarks new_places new_groups (bit_and slots (bit_not w64 (1 * 2 ^ slot % 2 ^ 64)))
left_slot places groups new_places new_groups slots place slot a small near mp none mg last = record {
  grouped = gone_grouped places groups new_places new_groups (place / 64) slot a.grouped (omega (arith, small)) near mp.as_many mp.apart mg none;
  slotted = left_slotted_none groups new_groups slots (bit_and slots (bit_not w64 (1 * 2 ^ slot % 2 ^ 64))) slot (place / 64) a.slotted near mg last
      (bit_at_clear_same w64 slots slot near) (bit_at_clear_other w64 slots slot near);
}
