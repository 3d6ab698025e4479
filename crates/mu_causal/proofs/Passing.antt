-- Names that were passed over, since they are marked.
use Rattle.mu_causal.proofs.Common
use Common.{ℕ, ◌<◌, ◌∙◌, ◌≡◌, ◌≤◌, All, ap, ArePassed, arith, Bool, cases_eq, cases_lt, Contains}
use Common.{Contains-get_or, false, get_or, get_or-set_at, get_or-set_other, get_or_default, Global}
use Common.{Graph, HasEdge, inl, inr, IsBlocked, IsClosed, IsMarked, IsUnblocked, IsUnmarked}
use Common.{length, length-set, List, set, slice_get, slice_get-get_or, slice_get_within, Some}
use Common.{subst, sym, true, Vec}

-- what is read is there
pub row_there : (g : Graph) (v : ℕ) (row : Vec ℕ Global) → v < length g → row ≡ get_or g v row → slice_get g v ≡ Some row
row_there g v row h e = slice_get-get_or g v row h ∙ ap Some (sym e)

-- one row is at each position
same_row : (g : Graph) (v : ℕ) (a b : Vec ℕ Global) → slice_get g v ≡ Some a → slice_get g v ≡ Some b → a ≡ b
same_row g v a b p q = let e : Some a ≡ Some b = sym p ∙ q in cc

-- the names of a closed graph are variables
pub names_known : (g : Graph) (v : ℕ) (row : Vec ℕ Global) → IsClosed g → slice_get g v ≡ Some row → All (λ w. w < length g) row.items
names_known g v row closed at k d h = closed v _ (record { row = row; at = at; named = Contains-get_or row.items k d h })

-- more of one row was passed over
pub passed_more : (g : Graph) (marks : List Bool) (passed : List ℕ) (v place : ℕ) (row : Vec ℕ Global) → ArePassed g marks passed → v < length g → slice_get g v ≡ Some row → place ≤ length row.items
    → ((k : ℕ) → get_or passed v 0 ≤ k → k < place → IsMarked marks (get_or row.items k 0)) → ArePassed g marks (set passed v place)
passed_more g marks passed v place row p there at within marked = record {
  same_length = length-set passed v place ∙ p.same_length;
  within = λ u r at_u. elim (cases_eq u v) [
    | inl e ↦ rw (read u e, the_row u r e at_u) within
    | inr ne ↦ rw (get_or-set_other passed v u place 0 ne) (p.within u r at_u)
  ];
  marked = λ u k r at_u below. elim (cases_eq u v) [
    | inl e ↦
        let lt : k < place = subst (λ x. k < x) (read u e) below in
        rw (the_row u r e at_u) (elim (cases_lt k (get_or passed v 0)) [ inl old ↦ p.marked v k row at old | inr new ↦ marked k new lt ])
    | inr ne ↦ p.marked u k r at_u (subst (λ x. k < x) (get_or-set_other passed v u place 0 ne) below)
  ];
}
  where
    read : (u : ℕ) → u ≡ v → get_or (set passed v place) u 0 ≡ place
    read u e = get_or-set_at passed v u place 0 e (omega (arith, p.same_length))

    the_row : (u : ℕ) (r : Vec ℕ Global) → u ≡ v → slice_get g u ≡ Some r → r ≡ row
    the_row u r e at_u = same_row g v r row (subst (λ x. slice_get g x ≡ Some r) e at_u) at

-- a variable all of whose names were passed over is not blocked
pub unblocked_at_end : (g : Graph) (marks : List Bool) (passed : List ℕ) (v place : ℕ) (row : Vec ℕ Global) → ArePassed g marks passed → v < length g → slice_get g v ≡ Some row → IsUnmarked marks v → place ≡ length row.items
    → ((k : ℕ) → get_or passed v 0 ≤ k → k < place → IsMarked marks (get_or row.items k 0)) → IsUnblocked g marks v
unblocked_at_end g marks passed v place row p there at unmarked end marked = record {
  there = there;
  unmarked = unmarked;
  names_marked = λ w n.
      let same : n.row ≡ row = same_row g v n.row row n.at at in
      let c : Contains row.items w = subst (λ (r : Vec ℕ Global). Contains r.items w) same n.named in
      let lt : c.0 < place = omega (arith, c.1) in
      let found : get_or row.items c.0 0 ≡ w = get_or_default row.items c.0 0 w c.1 ∙ c.2 in
      subst (IsMarked marks) found
      (elim (cases_lt c.0 (get_or passed v 0)) [ inl old ↦ p.marked v c.0 row at old | inr new ↦ marked c.0 new lt ]);
}

-- a variable with a name that is not marked is blocked
pub blocked_at : (g : Graph) (marks : List Bool) (v place : ℕ) (row : Vec ℕ Global) → slice_get g v ≡ Some row → place < length row.items → IsUnmarked marks (get_or row.items place 0) → IsBlocked g marks v
blocked_at g marks v place row at h unmarked =
    record { by = get_or row.items place 0; names = record { row = row; at = at; named = Contains-get_or row.items place 0 h }; unmarked = unmarked }

-- the first name that is not marked, where there is one, is within the names
pub blocked_within : (g : Graph) (marks : List Bool) (v place : ℕ) (row : Vec ℕ Global) → slice_get g v ≡ Some row → IsBlocked g marks v → place ≤ length row.items
    → ((k : ℕ) → 0 ≤ k → k < place → IsMarked marks (get_or row.items k 0)) → place < length row.items
blocked_within g marks v place row at b end marked =
    elim (cases_lt place (length row.items)) [
      | inl lt ↦ lt
      | inr ge ↦
          let same : b.names.row ≡ row = same_row g v b.names.row row b.names.at at in
          let c : Contains row.items b.by = subst (λ (r : Vec ℕ Global). Contains r.items b.by) same b.names.named in
          let found : get_or row.items c.0 0 ≡ b.by = get_or_default row.items c.0 0 b.by c.1 ∙ c.2 in
          let m : IsMarked marks b.by = subst (IsMarked marks) found (marked c.0 (omega arith) (omega (arith, c.1))) in
          let f : true ≡ false = sym m ∙ b.unmarked in
          absurd (cc)
    ]

-- the name at a place
pub names_at : (g : Graph) (v place : ℕ) (row : Vec ℕ Global) → slice_get g v ≡ Some row → place < length row.items → HasEdge g v (get_or row.items place 0)
names_at g v place row at h = record { row = row; at = at; named = Contains-get_or row.items place 0 h }

-- a number that is read is there
pub edge_within : (g : Graph) (v w : ℕ) → HasEdge g v w → v < length g
edge_within g v w edge = slice_get_within g v edge.row edge.at

-- the entry of a number that a row reads was lowered
pub lowered : (g : Graph) (u v w : ℕ) (row : Vec ℕ Global) (readers : List ℕ) → u ≡ v →
    slice_get g v ≡ Some row → HasEdge g u w →
    ((k : ℕ) → k < length row.items → get_or readers (get_or row.items k 0) 0 ≤ v) →
    get_or readers w 0 ≤ u
lowered g u v w row readers same at edge named =
    let here : slice_get g v ≡ Some edge.row = subst (λ x. slice_get g x ≡ Some edge.row) same edge.at in
    let is : edge.row ≡ row = same_row g v edge.row row here at in
    let c : Contains row.items w = subst (λ (r : Vec ℕ Global). Contains r.items w) is edge.named in
    let found : get_or row.items c.0 0 ≡ w = get_or_default row.items c.0 0 w c.1 ∙ c.2 in
    let low : get_or readers w 0 ≤ v = subst (λ x. get_or readers x 0 ≤ v) found (named c.0 c.1) in
    omega (arith, low, same)
