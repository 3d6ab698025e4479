-- Orders and cycles of two ways to say what needs what; and that there is one order.
use Rattle.mu_causal.proofs.Common
use Common.{[], ℕ, ◌++◌, ◌∷◌, ◌≡◌, append-nil, append_assoc, arith, cases_lt, Chain, Contains}
use Common.{Follow, inl, inr, IsCycle, IsNext, IsOrder, IsReady, List, refl, subst, sym}

-- two ways to say which numbers are variables, and what needs what
pub record SaySame (va : ℕ → Type 0) (na : ℕ → ℕ → Type 0) (vb : ℕ → Type 0) (nb : ℕ → ℕ → Type 0) : Type 0 where
  pub there : (v : ℕ) → va v → vb v
  pub back : (v : ℕ) → vb v → va v
  pub need : (v w : ℕ) → na v w → nb v w
  pub need_back : (v w : ℕ) → nb v w → na v w

IsReady-same : (va : ℕ → Type 0) (na : ℕ → ℕ → Type 0) (vb : ℕ → Type 0) (nb : ℕ → ℕ → Type 0) (listed : List ℕ) (v : ℕ) → SaySame va na vb nb → IsReady va na listed v → IsReady vb nb listed v
IsReady-same va na vb nb listed v s r = record { there = s.there v r.there; unlisted = r.unlisted; ready = λ w n. r.ready w (s.need_back v w n) }

turned_round : (va : ℕ → Type 0) (na : ℕ → ℕ → Type 0) (vb : ℕ → Type 0) (nb : ℕ → ℕ → Type 0) → SaySame va na vb nb → SaySame vb nb va na
turned_round va na vb nb s = record { there = s.back; back = s.there; need = s.need_back; need_back = s.need }

Follow-same : (va : ℕ → Type 0) (na : ℕ → ℕ → Type 0) (vb : ℕ → Type 0) (nb : ℕ → ℕ → Type 0) (listed vars : List ℕ) → SaySame va na vb nb → Follow va na listed vars → Follow vb nb listed vars
Follow-same va na vb nb listed [] s f = tt
Follow-same va na vb nb listed (v ∷ vs) s f = (
  record {
    is_ready = IsReady-same va na vb nb listed v s f.0.is_ready;
    least = λ w lt r. f.0.least w lt (IsReady-same vb nb va na listed w (turned_round va na vb nb s) r);
  },
  Follow-same va na vb nb (listed ++ v ∷ []) vs s f.1,
)

-- an order stays one
pub IsOrder-same : (va : ℕ → Type 0) (na : ℕ → ℕ → Type 0) (vb : ℕ → Type 0) (nb : ℕ → ℕ → Type 0) (vars : List ℕ) → SaySame va na vb nb → IsOrder va na vars → IsOrder vb nb vars
IsOrder-same va na vb nb vars s o = record { each = Follow-same va na vb nb [] vars s o.each; all = λ v there. o.all v (s.back v there) }

Chain-weaker : (na nb : ℕ → ℕ → Type 0) (v : ℕ) (vs : List ℕ) (end : ℕ) → ((v w : ℕ) → na v w → nb v w) → Chain na v vs end → Chain nb v vs end
Chain-weaker na nb v [] end s c = s v end c
Chain-weaker na nb v (w ∷ ws) end s c = (s v w c.0, Chain-weaker na nb w ws end s c.1)

-- a cycle stays one
pub IsCycle-weaker : (na nb : ℕ → ℕ → Type 0) (vars : List ℕ) → ((v w : ℕ) → na v w → nb v w) → IsCycle na vars → IsCycle nb vars
IsCycle-weaker na nb [] s c = c
IsCycle-weaker na nb (v ∷ vs) s c = (Chain-weaker na nb v vs v s c.0, c.1, c.2)

-- one variable is next
next_is_one : (variable : ℕ → Type 0) (needs : ℕ → ℕ → Type 0) (listed : List ℕ) (a b : ℕ) → IsNext variable needs listed a → IsNext variable needs listed b → a ≡ b
next_is_one variable needs listed a b x y =
    elim (cases_lt a b) [
      | inl lt ↦ absurd (y.least a lt x.is_ready)
      | inr ge ↦ elim (cases_lt b a) [ inl lt ↦ absurd (x.least b lt y.is_ready) | inr le ↦ omega arith ]
    ]

-- what follows is one list, where all variables are listed in the end
Follow-one : (variable : ℕ → Type 0) (needs : ℕ → ℕ → Type 0) (listed as' bs : List ℕ)
    → Follow variable needs listed as' → Follow variable needs listed bs
    → ((v : ℕ) → variable v → Contains (listed ++ as') v) → ((v : ℕ) → variable v → Contains (listed ++ bs) v) → as' ≡ bs
Follow-one variable needs listed [] [] f h all also = refl
Follow-one variable needs listed [] (b ∷ bs) f h all also = absurd (h.0.is_ready.unlisted (subst (λ l. Contains l b) (append-nil listed) (all b h.0.is_ready.there)))
Follow-one variable needs listed (a ∷ as') [] f h all also = absurd (f.0.is_ready.unlisted (subst (λ l. Contains l a) (append-nil listed) (also a f.0.is_ready.there)))
Follow-one variable needs listed (a ∷ as') (b ∷ bs) f h all also =
    let same : a ≡ b = next_is_one variable needs listed a b f.0 h.0 in
    let rest : as' ≡ bs = Follow-one variable needs (listed ++ a ∷ []) as' bs f.1
    (subst (λ x. Follow variable needs (listed ++ x ∷ []) bs) (sym same) h.1)
    (λ v there. subst (λ l. Contains l v) (sym (append_assoc listed (a ∷ []) as')) (all v there))
    (λ v there. subst (λ l. Contains l v) (sym (append_assoc listed (a ∷ []) bs)) (subst (λ x. Contains (listed ++ x ∷ bs) v) (sym same) (also v there))) in
    cc

-- there is one order
pub one_order : (variable : ℕ → Type 0) (needs : ℕ → ℕ → Type 0) (as' bs : List ℕ) → IsOrder variable needs as' → IsOrder variable needs bs → as' ≡ bs
one_order variable needs as' bs a b = Follow-one variable needs [] as' bs a.each b.each a.all b.all
