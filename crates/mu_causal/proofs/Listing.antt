-- Variables that are listed one after the other.
use Rattle.mu_causal.proofs.Common
use Common.{[], ℕ, ◌++◌, ◌+◌, ◌<◌, ◌∙◌, ◌∷◌, ◌≡◌, ◌≢◌, ◌≤◌, append-nil, append_assoc, AreMarks}
use Common.{ArePassed, arith, Bool, cases_Bool, cases_eq, Contains, Contains-append_cases}
use Common.{Contains-append_left, Contains-push, drop, false, Follow, get_or, get_or-set_at}
use Common.{get_or-set_other, Graph, HasEdge, inl, inr, IsBlocked, IsListing, IsMarked, IsNext}
use Common.{IsOpen, IsOrder, IsReady, IsUnblocked, IsUnmarked, length, length-set, List, Needs, set}
use Common.{subst, suc, sym, take, true, zero}
use Rattle.std.proofs.Math.Seq.{take-append_seam}
use Rattle.mu_causal.specs.VisitMarks.{AreFirstReaders}

-- how many numbers are not marked
abbrev pub unmarked_count : List Bool → ℕ
unmarked_count [] = 0
unmarked_count (true ∷ marks) = unmarked_count marks
unmarked_count (false ∷ marks) = suc (unmarked_count marks)

-- one more mark leaves one less without
pub unmarked_count-set : (marks : List Bool) (v : ℕ) → v < length marks → IsUnmarked marks v → unmarked_count (set marks v true) < unmarked_count marks
unmarked_count-set [] v h u = absurd (omega arith)
unmarked_count-set (true ∷ marks) zero h u = absurd (let f : true ≡ false = u in cc)
unmarked_count-set (false ∷ marks) zero h u = omega arith
unmarked_count-set (true ∷ marks) (suc v) h u = unmarked_count-set marks v (omega arith) u
unmarked_count-set (false ∷ marks) (suc v) h u = omega (arith, unmarked_count-set marks v (omega arith) u)

-- a mark and its absence exclude each other
pub not_both : (marks : List Bool) (v : ℕ) → IsMarked marks v → IsUnmarked marks v → ⊥
not_both marks v m u = let f : true ≡ false = sym m ∙ u in cc

-- what is not marked was not known
pub unknown_of : (g : Graph) (known marks : List Bool) (listed : List ℕ) (v : ℕ) → AreMarks g known marks listed → IsUnmarked marks v → IsUnmarked known v
unknown_of g known marks listed v m u = elim (cases_Bool (get_or known v false)) [ inl t ↦ absurd (not_both marks v (m.kept v t) u) | inr f ↦ f ]

-- a variable that is not listed is not marked
unmarked_from : (g : Graph) (known marks : List Bool) (listed : List ℕ) (v : ℕ) → AreMarks g known marks listed → IsUnmarked known v → (Contains listed v → ⊥) → IsUnmarked marks v
unmarked_from g known marks listed v m unknown missing = elim (cases_Bool (get_or marks v false)) [ inl t ↦ absurd (missing (m.listed_of v t unknown)) | inr f ↦ f ]

-- a blocked variable is not ready
blocked_not_ready : (g : Graph) (known marks : List Bool) (listed : List ℕ) (v : ℕ) → AreMarks g known marks listed → IsBlocked g marks v → IsReady (IsOpen g known) (Needs g known) listed v → ⊥
blocked_not_ready g known marks listed v m b r =
    not_both marks b.by (m.marked_of b.by (r.ready b.by (record { names = b.names; from_unknown = r.there.unknown; to_unknown = unknown_of g known marks listed b.by m b.unmarked }))) b.unmarked

-- the least variable that is not blocked is the next one
pub next_is : (g : Graph) (known marks : List Bool) (listed : List ℕ) (v : ℕ) → AreMarks g known marks listed → IsUnblocked g marks v → ((w : ℕ) → w < v → IsUnmarked marks w → IsBlocked g marks w) → IsNext (IsOpen g known) (Needs g known) listed v
next_is g known marks listed v m u least = record {
  is_ready = record {
    there = record { there = u.there; unknown = unknown_of g known marks listed v m u.unmarked };
    unlisted = λ c. not_both marks v (m.marked_of v c) u.unmarked;
    ready = λ w n. m.listed_of w (u.names_marked w n.names) n.to_unknown;
  };
  least = λ w lt r. blocked_not_ready g known marks listed w m (least w lt (unmarked_from g known marks listed w m r.there.unknown r.unlisted)) r;
}

-- one more variable follows
pub Follow-push : (variable : ℕ → Type 0) (needs : ℕ → ℕ → Type 0) (done vars : List ℕ) (v : ℕ) → Follow variable needs done vars → IsNext variable needs (done ++ vars) v → Follow variable needs done (vars ++ v ∷ [])
Follow-push variable needs done [] v f n = (subst (λ l. IsNext variable needs l v) (append-nil done) n, tt)
Follow-push variable needs done (x ∷ xs) v f n = (f.0, Follow-push variable needs (done ++ x ∷ []) xs v f.1 (subst (λ l. IsNext variable needs l v) (sym (append_assoc done (x ∷ []) xs)) n))

-- a mark stays under one more
pub marked_more : (marks : List Bool) (v w : ℕ) → v < length marks → IsMarked marks w → IsMarked (set marks v true) w
marked_more marks v w h m = elim (cases_eq w v) [ inl e ↦ get_or-set_at marks v w true false e h | inr ne ↦ get_or-set_other marks v w true false ne ∙ m ]

-- the one element of a list
contains_one : (v w : ℕ) → Contains (v ∷ []) w → w ≡ v
contains_one v w (zero, lt, e) = sym e
contains_one v w (suc k, lt, e) = absurd (omega arith)

-- at the start the known numbers are marked
pub AreMarks-start : (g : Graph) (known : List Bool) → length known ≡ length g → AreMarks g known known []
AreMarks-start g known h = record {
  same_length = h;
  kept = λ v m. m;
  listed_of = λ v m u. absurd (not_both known v m u);
  marked_of = λ v c. absurd (omega (arith, c.1));
}

-- the marks of one more variable
pub AreMarks-push : (g : Graph) (known marks : List Bool) (listed : List ℕ) (v : ℕ) → AreMarks g known marks listed → v < length marks → AreMarks g known (set marks v true) (listed ++ v ∷ [])
AreMarks-push g known marks listed v m h = record {
  same_length = length-set marks v true ∙ m.same_length;
  kept = λ w k. marked_more marks v w h (m.kept w k);
  listed_of = λ w k u. elim (cases_eq w v) [
    | inl e ↦ subst (Contains (listed ++ v ∷ [])) (sym e) (Contains-push listed v)
    | inr ne ↦ Contains-append_left listed (v ∷ []) w (m.listed_of w (sym (get_or-set_other marks v w true false ne) ∙ k) u)
  ];
  marked_of = λ w c. elim (Contains-append_cases listed (v ∷ []) w c) [
    | inl old ↦ marked_more marks v w h (m.marked_of w old)
    | inr new ↦ get_or-set_at marks v w true false (contains_one v w new) h
  ];
}

-- what was passed over stays marked
pub ArePassed-more : (g : Graph) (marks : List Bool) (passed : List ℕ) (v : ℕ) → ArePassed g marks passed → v < length g → length marks ≡ length g → ArePassed g (set marks v true) passed
ArePassed-more g marks passed v p h e = record { same_length = p.same_length; within = p.within; marked = λ u k row at below. marked_more marks v _ (omega arith) (p.marked u k row at below) }

-- a list of one length that is written back whole
pub written_back : {A : Type 0} (new old : List A) (len : ℕ) → length new ≡ len → take len (new ++ drop (length new) old) ≡ new
written_back {A} new old len e = subst (λ (n : ℕ). take n (new ++ drop (length new) old) ≡ new) e (take-append_seam new (drop (length new) old))

-- a number below the first reader of a newly marked number is still blocked
pub still_blocked : (g : Graph) (marks : List Bool) (readers : List ℕ) (v from w : ℕ) →
    AreFirstReaders g readers → v < length marks → from ≤ get_or readers v 0 → from ≤ v + 1 →
    ((u : ℕ) → u < v → IsUnmarked marks u → IsBlocked g marks u) → w < from →
    IsUnmarked (set marks v true) w → IsBlocked g (set marks v true) w
still_blocked g marks readers v from w are inside low next before lt unmarked =
    let other : w ≢ v = λ e. not_both (set marks v true) w
    (get_or-set_at marks v w true false e inside) unmarked in
    let b = before w (omega (arith, other, lt, next))
    (sym (get_or-set_other marks v w true false other) ∙ unmarked) in
    let not_it : b.by ≢ v = λ e.
    let edge : HasEdge g w v = subst (HasEdge g w) e b.names in
    omega (arith, are.first w v edge, low, lt) in
    record {
      by = b.by;
      names = b.names;
      unmarked = get_or-set_other marks v b.by true false not_it ∙ b.unmarked;
    }

-- where every number is marked, the listed variables are an order
pub order_from : (g : Graph) (known marks : List Bool) (listed : List ℕ) → IsListing g known marks listed → ((v : ℕ) → v < length g → IsMarked marks v) → IsOrder (IsOpen g known) (Needs g known) listed
order_from g known marks listed l all = record { each = l.follow; all = λ v there. l.are_marks.listed_of v (all v there.there) there.unknown }
