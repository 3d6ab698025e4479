-- A rank in the hole of a heap is exchanged with another one.
use Rattle.qss_sched.proofs.Common
use Common.{ℕ, ◌<◌, ◌∙◌, ◌≡◌, ◌≢◌, ◌≤◌, ap, arith, common_steps, get_or-set_other, get_or-set_same}
use Common.{IsAboveOrdered, IsBelowOrdered, IsIndexed, length, length-set, List, parent_of}
use Common.{place_of, refl, set-get_or, slice_index, slice_set, subst, sym}
use Rattle.qss_sched.specs.Heaps.{AreKept, IsOrderedBut, IsFirstBelow}

-- what two positions hold has changed places
pub record IsExchange (old new : List ℕ) (i j : ℕ) : Type 0 where
  pub as_many : length new ≡ length old
  pub first : slice_index new i ≡ slice_index old j
  pub second : slice_index new j ≡ slice_index old i
  pub others : (k : ℕ) → k ≢ i → k ≢ j → slice_index new k ≡ slice_index old k

exchange_of : (ranks : List ℕ) (hole from rank other : ℕ) → hole < length ranks → from < length ranks → from ≢ hole → slice_index ranks from ≡ other →
    IsExchange (slice_set ranks hole rank) (slice_set (slice_set ranks hole other) from rank) hole from
exchange_of ranks hole from rank other h f apart e = record {
  as_many = grind (arith, common_steps);
  first = grind (arith, common_steps);
  second = grind (arith, common_steps);
  others = grind (arith, common_steps);
}

exchange_back : (positions : List ℕ) (place other hole from : ℕ) → place < length positions → other < length positions → place ≢ other → slice_index positions other ≡ from →
    IsExchange (slice_set positions place hole) (slice_set (slice_set positions other hole) place from) place other
exchange_back positions place other hole from p o apart e = record {
  as_many = grind (arith, common_steps);
  first = grind (arith, common_steps);
  second = grind (arith, common_steps);
  others = grind (arith, common_steps);
}

-- the ranks at two positions change places
exchanged : (h p new q : List ℕ) (i j : ℕ) → IsIndexed h p → i < length h → j < length h → i ≢ j →
    IsExchange h new i j → IsExchange p q (place_of (slice_index h i)) (place_of (slice_index h j)) → IsIndexed new q
exchanged h p new q i j a ih jh apart e f = record {
  as_many = omega (arith, a.as_many, e.as_many, f.as_many);
  placed = λ k. let one = a.placed k in grind arith;
  position_of = λ k. let one = a.position_of k in let back = a.placed k in grind arith;
  positioned = λ k. let one = a.positioned k in grind arith;
  place_at = λ k. let one = a.place_at k in let back = a.positioned k in grind arith;
}

-- each place keeps its rank
exchanged_kept : (h p new q : List ℕ) (i j : ℕ) → IsIndexed h p → i < length h → j < length h → i ≢ j →
    IsExchange h new i j → IsExchange p q (place_of (slice_index h i)) (place_of (slice_index h j)) → AreKept h p new q
exchanged_kept h p new q i j a ih jh apart e f k inside =
    let one = a.place_at k inside in let back = a.positioned k inside in grind arith

-- what the positions of two ranks' places are has changed places
exchange_of_positions : (ranks positions : List ℕ) (hole from rank other : ℕ) → IsIndexed (slice_set ranks hole rank) (slice_set positions (place_of rank) hole) →
    hole < length ranks → from < length ranks → from ≢ hole → slice_index ranks from ≡ other →
    IsExchange (slice_set positions (place_of rank) hole) (slice_set (slice_set positions (place_of other) hole) (place_of rank) from)
    (place_of (slice_index (slice_set ranks hole rank) hole)) (place_of (slice_index (slice_set ranks hole rank) from))
exchange_of_positions ranks positions hole from rank other a h f apart e =
    let many : length (slice_set ranks hole rank) ≡ length ranks = length-set ranks hole rank in
    let held : slice_index (slice_set ranks hole rank) hole ≡ rank = get_or-set_same ranks hole rank 0 h in
    let held_other : slice_index (slice_set ranks hole rank) from ≡ other = get_or-set_other ranks hole from rank 0 apart ∙ e in
    let many_positions : length (slice_set positions (place_of rank) hole) ≡ length positions = length-set positions (place_of rank) hole in
    let inside : place_of rank < length positions = omega (arith, ap place_of held, a.placed hole, a.as_many) in
    let inside_other : place_of other < length positions = omega (arith, ap place_of held_other, a.placed from, a.as_many) in
    let at : slice_index (slice_set positions (place_of rank) hole) (place_of rank) ≡ hole = get_or-set_same positions (place_of rank) hole 0 inside in
    let at_other : slice_index (slice_set positions (place_of rank) hole) (place_of other) ≡ from = rw held_other at (a.position_of from (omega arith)) in
    let apart_other : place_of rank ≢ place_of other = λ same. apart (sym at_other ∙ ap (slice_index (slice_set positions (place_of rank) hole)) (sym same) ∙ at) in
    let there : slice_index positions (place_of other) ≡ from = sym (get_or-set_other positions (place_of rank) (place_of other) hole 0 (λ same. apart_other (sym same))) ∙ at_other in
    rw (held, held_other) (exchange_back positions (place_of rank) (place_of other) hole from inside inside_other apart_other there)

-- a rank moves down
lowered : (r new : ℕ → ℕ) (n i j : ℕ) → IsOrderedBut r n i → 0 < j → j < n → parent_of j ≡ i → r j ≤ r i →
    ((k : ℕ) → 0 < k → k < n → parent_of k ≡ i → r j ≤ r k) →
    new i ≡ r j → new j ≡ r i → ((k : ℕ) → k ≢ i → k ≢ j → new k ≡ r k) → IsOrderedBut new n j
lowered r new n i j but positive inside below earlier least first second others = record {
  others = grind (arith, common_steps);
  across = grind (arith, common_steps);
}

-- a rank moves up
lifted : (r new : ℕ → ℕ) (n i : ℕ) → IsOrderedBut r n i → IsBelowOrdered r n i → 0 < i → i < n → r i ≤ r (parent_of i) →
    new i ≡ r (parent_of i) → new (parent_of i) ≡ r i → ((k : ℕ) → k ≢ i → k ≢ parent_of i → new k ≡ r k) → IsOrderedBut new n (parent_of i)
lifted r new n i but below positive inside later first second others = record {
  others = grind (arith, common_steps);
  across = grind (arith, common_steps);
}

lifted_below : (r new : ℕ → ℕ) (n i : ℕ) → IsOrderedBut r n i → IsBelowOrdered r n i → 0 < i → i < n → r i ≤ r (parent_of i) →
    new i ≡ r (parent_of i) → new (parent_of i) ≡ r i → ((k : ℕ) → k ≢ i → k ≢ parent_of i → new k ≡ r k) → IsBelowOrdered new n (parent_of i)
lifted_below r new n i but below positive inside later first second others = grind (arith, common_steps)

-- with the rank in the hole a heap is in order but there, and each place has its rank
pub record IsHole (old old_positions ranks positions : List ℕ) (hole rank : ℕ) : Type 0 where
  pub indexed : IsIndexed (slice_set ranks hole rank) (slice_set positions (place_of rank) hole)
  pub kept : AreKept old old_positions (slice_set ranks hole rank) (slice_set positions (place_of rank) hole)
  pub as_many : length ranks ≡ length old
  pub placed : (k : ℕ) → k < length ranks → place_of (slice_index ranks k) < length ranks
  pub inside : hole < length ranks
  pub but : IsOrderedBut (slice_index (slice_set ranks hole rank)) (length ranks) hole

-- a heap that is ordered except at one rank has a hole there
pub hole_at : (ranks positions : List ℕ) (i : ℕ) → IsIndexed ranks positions → i < length ranks →
    IsOrderedBut (slice_index ranks) (length ranks) i → IsHole ranks positions ranks positions i (slice_index ranks i)
hole_at ranks positions i a inside but =
    let same = set-get_or ranks i 0 in
    let positions_same : slice_set positions (place_of (slice_index ranks i)) i ≡ positions =
    subst (λ k. slice_set positions (place_of (slice_index ranks i)) k ≡ positions) (a.position_of i inside) (set-get_or positions (place_of (slice_index ranks i)) 0) in
    record {
      indexed = rw (same, positions_same) a;
      kept = rw (same, positions_same) (λ place within. refl);
      as_many = refl;
      placed = a.placed;
      inside = inside;
      but = rw same but;
    }

moved : (old old_positions ranks positions : List ℕ) (hole rank from : ℕ) → IsHole old old_positions ranks positions hole rank →
    from < length ranks → from ≢ hole →
    IsOrderedBut (slice_index (slice_set (slice_set ranks hole (slice_index ranks from)) from rank)) (length ranks) from →
    IsHole old old_positions (slice_set ranks hole (slice_index ranks from)) (slice_set positions (place_of (slice_index ranks from)) hole) from rank
moved old old_positions ranks positions hole rank from h inside apart but =
    let many : length (slice_set ranks hole (slice_index ranks from)) ≡ length ranks = length-set ranks hole (slice_index ranks from) in
    let whole : length (slice_set ranks hole rank) ≡ length ranks = length-set ranks hole rank in
    let x = exchange_of ranks hole from rank (slice_index ranks from) h.inside inside apart refl in
    let y = exchange_of_positions ranks positions hole from rank (slice_index ranks from) h.indexed h.inside inside apart refl in
    let away : hole ≢ from = λ same. apart (sym same) in
    record {
      indexed = exchanged _ _ _ _ hole from h.indexed (omega arith) (omega arith) away x y;
      kept = λ place within.
          exchanged_kept _ _ _ _ hole from h.indexed (omega arith) (omega arith) away x y place (omega (arith, within, h.as_many)) ∙ h.kept place within;
      as_many = many ∙ h.as_many;
      placed = let here = h.placed from inside in let all = h.placed in grind (arith, common_steps);
      inside = omega arith;
      but = rw many but;
    }

-- the hole moves down
pub sunk : (old old_positions ranks positions : List ℕ) (hole rank below : ℕ) →
    IsHole old old_positions ranks positions hole rank → IsFirstBelow ranks hole below → slice_index ranks below < rank →
    IsHole old old_positions (slice_set ranks hole (slice_index ranks below)) (slice_set positions (place_of (slice_index ranks below)) hole) below rank
sunk old old_positions ranks positions hole rank below h b less =
    let apart : below ≢ hole = λ e. omega (arith, e, b.stands, b.positive) in
    let x = exchange_of ranks hole below rank (slice_index ranks below) h.inside b.inside apart refl in
    let other = λ (k : ℕ) (away : k ≢ hole). get_or-set_other ranks hole k rank 0 away in
    let own = get_or-set_same ranks hole rank 0 h.inside in
    moved old old_positions ranks positions hole rank below h b.inside apart
    (lowered (slice_index (slice_set ranks hole rank)) (slice_index (slice_set (slice_set ranks hole (slice_index ranks below)) below rank))
    (length ranks) hole below h.but b.positive b.inside b.stands (omega (arith, own, other below apart, less))
    (λ k positive inside stands. let away : k ≢ hole = λ e. omega (arith, e, stands, positive) in
    omega (arith, other k away, other below apart, b.least k positive inside stands))
    x.first x.second x.others)

pub sunk_above : (old old_positions ranks positions : List ℕ) (hole rank below : ℕ) →
    IsHole old old_positions ranks positions hole rank → IsFirstBelow ranks hole below → slice_index ranks below < rank →
    IsAboveOrdered (slice_index (slice_set (slice_set ranks hole (slice_index ranks below)) below rank)) below
sunk_above old old_positions ranks positions hole rank below h b less positive =
    let apart : below ≢ hole = λ e. omega (arith, e, b.stands, b.positive) in
    let x = exchange_of ranks hole below rank (slice_index ranks below) h.inside b.inside apart refl in
    let other = get_or-set_other ranks hole below rank 0 apart in
    let own = get_or-set_same ranks hole rank 0 h.inside in
    let up = ap (slice_index (slice_set (slice_set ranks hole (slice_index ranks below)) below rank)) b.stands in
    omega (arith, up, x.first, x.second, other, own, less)

-- the hole moves up
pub risen : (old old_positions ranks positions : List ℕ) (hole rank : ℕ) →
    IsHole old old_positions ranks positions hole rank → IsBelowOrdered (slice_index (slice_set ranks hole rank)) (length ranks) hole →
    0 < hole → rank < slice_index ranks (parent_of hole) →
    IsHole old old_positions (slice_set ranks hole (slice_index ranks (parent_of hole))) (slice_set positions (place_of (slice_index ranks (parent_of hole))) hole) (parent_of hole) rank
risen old old_positions ranks positions hole rank h below positive less =
    let above : parent_of hole < length ranks = omega (arith, h.inside) in
    let apart : parent_of hole ≢ hole = λ e. omega (arith, e, positive) in
    let x = exchange_of ranks hole (parent_of hole) rank (slice_index ranks (parent_of hole)) h.inside above apart refl in
    let other = get_or-set_other ranks hole (parent_of hole) rank 0 apart in
    let own = get_or-set_same ranks hole rank 0 h.inside in
    moved old old_positions ranks positions hole rank (parent_of hole) h above apart
    (lifted (slice_index (slice_set ranks hole rank)) (slice_index (slice_set (slice_set ranks hole (slice_index ranks (parent_of hole))) (parent_of hole) rank))
    (length ranks) hole h.but below positive h.inside (omega (arith, other, own, less))
    x.first x.second x.others)

pub risen_below : (old old_positions ranks positions : List ℕ) (hole rank : ℕ) →
    IsHole old old_positions ranks positions hole rank → IsBelowOrdered (slice_index (slice_set ranks hole rank)) (length ranks) hole →
    0 < hole → rank < slice_index ranks (parent_of hole) →
    IsBelowOrdered (slice_index (slice_set (slice_set ranks hole (slice_index ranks (parent_of hole))) (parent_of hole) rank))
    (length (slice_set ranks hole (slice_index ranks (parent_of hole)))) (parent_of hole)
risen_below old old_positions ranks positions hole rank h below positive less =
    let above : parent_of hole < length ranks = omega (arith, h.inside) in
    let apart : parent_of hole ≢ hole = λ e. omega (arith, e, positive) in
    let x = exchange_of ranks hole (parent_of hole) rank (slice_index ranks (parent_of hole)) h.inside above apart refl in
    let other = get_or-set_other ranks hole (parent_of hole) rank 0 apart in
    let own = get_or-set_same ranks hole rank 0 h.inside in
    rw length-set (lifted_below (slice_index (slice_set ranks hole rank)) (slice_index (slice_set (slice_set ranks hole (slice_index ranks (parent_of hole))) (parent_of hole) rank))
    (length ranks) hole h.but below positive h.inside (omega (arith, other, own, less))
    x.first x.second x.others)
