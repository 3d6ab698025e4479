-- Phases that follow each other.
use Rattle.qss_compile.proofs.Common
use Common.{◌≡◌, ◌⊎◌, AreAlike, inl, inr, IsFirstRefusal, Refused, subst, sym, Through}

-- a phase returns at most one thing, or refuses for one cause, and not both
pub record Single {A : Type 0} (Refuses : Refused → Type 0) (Gives : A → Type 0) : Type 0 where
  pub one : (a b : A) → Gives a → Gives b → a ≡ b
  pub alike : (r s : Refused) → Refuses r → Refuses s → AreAlike r s
  pub apart : (a : A) (r : Refused) → Gives a → Refuses r → ⊥

-- a phase returns something or refuses
abbrev pub Decides : {A : Type 0} → (Refused → Type 0) → (A → Type 0) → Type 0
Decides {A} Refuses Gives = ((a : A) × Gives a) ⊎ ((r : Refused) × Refuses r)

module _ {A B : Type 0} (Refuses : Refused → Type 0) (Gives : A → Type 0) (RefusesLater : A → Refused → Type 0) (GivesLater : A → B → Type 0) where
  -- what follows of one thing follows of the other, where a phase returns at most one
  moved : (s : Single Refuses Gives) (a b : A) (P : A → Type 0) → Gives a → Gives b → P b → P a
  moved s a b P ga gb p = subst P (sym (s.one a b ga gb)) p

  pub then_single : Single Refuses Gives → ((a : A) → Gives a → Single (RefusesLater a) (GivesLater a)) → Single (IsFirstRefusal Refuses Gives RefusesLater) (Through Gives GivesLater)
  then_single s next = record { one = one; alike = alike; apart = apart }
    where
      one : (b c : B) → Through Gives GivesLater b → Through Gives GivesLater c → b ≡ c
      one b c p q = (next p.0 p.1).one b c p.2 (moved s p.0 q.0 (λ x. GivesLater x c) p.1 q.1 q.2)

      alike : (r t : Refused) → IsFirstRefusal Refuses Gives RefusesLater r → IsFirstRefusal Refuses Gives RefusesLater t → AreAlike r t
      alike r t (inl p) (inl q) = s.alike r t p q
      alike r t (inl p) (inr q) = absurd (s.apart q.0 r q.1 p)
      alike r t (inr p) (inl q) = absurd (s.apart p.0 t p.1 q)
      alike r t (inr p) (inr q) = (next p.0 p.1).alike r t p.2 (moved s p.0 q.0 (λ x. RefusesLater x t) p.1 q.1 q.2)

      apart : (b : B) (r : Refused) → Through Gives GivesLater b → IsFirstRefusal Refuses Gives RefusesLater r → ⊥
      apart b r p (inl q) = s.apart p.0 r p.1 q
      apart b r p (inr q) = (next p.0 p.1).apart b r p.2 (moved s p.0 q.0 (λ x. RefusesLater x r) p.1 q.1 q.2)

  pub then_decides : Decides Refuses Gives → ((a : A) → Gives a → Decides (RefusesLater a) (GivesLater a)) → Decides (IsFirstRefusal Refuses Gives RefusesLater) (Through Gives GivesLater)
  then_decides (inr refused) next = inr (refused.0, inl refused.1)
  then_decides (inl given) next = by (next given.0 given.1)
    where
      by : Decides (RefusesLater given.0) (GivesLater given.0) → Decides (IsFirstRefusal Refuses Gives RefusesLater) (Through Gives GivesLater)
      by (inl later) = inl (later.0, (given.0, given.1, later.1))
      by (inr later) = inr (later.0, inr (given.0, given.1, later.1))
