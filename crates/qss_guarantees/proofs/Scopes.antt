-- A machine is in scope of certificates, or out of scope for exactly one reason.
use Rattle.qss_guarantees.proofs.Common
use Common.{[], ◌<◌, ◌∙◌, ◌∷◌, ◌≡◌, ◌≤◌, ◌⊎◌, ap, arith, cases_lt, ClauseInfo, inl, inr, IsInScope}
use Common.{IsOutsideBy, length, List, Machine, Outside, refl, state_count, sym}
use Rattle.cert_check.specs.declared.certificate_scope.Outside.TheVariants.{HasClauses, States}

-- a machine is out of scope for at most one reason
pub one_outside : (m : Machine) (why other : Outside) → IsOutsideBy m why → IsOutsideBy m other
    → why ≡ other
one_outside m (HasClauses a) (HasClauses b) p q = ap HasClauses (p.0 ∙ sym q.0)
one_outside m (HasClauses a) (States b) p q = absurd (omega (arith, p.0, p.1, ap length q.0))
one_outside m (States a) (HasClauses b) p q = absurd (omega (arith, q.0, q.1, ap length p.0))
one_outside m (States a) (States b) p q = ap States (p.1 ∙ sym q.1)

-- a machine is in scope or out of scope
pub scope_of : (m : Machine) → ((why : Outside) × IsOutsideBy m why) ⊎ IsInScope m
scope_of m = by m.clauses refl (cases_lt (state_count m) 1) (cases_lt 16 (state_count m))
  where
    by : (clauses : List ClauseInfo) → m.clauses ≡ clauses → (state_count m < 1)
        ⊎ (1 ≤ state_count m) → (16 < state_count m) ⊎ (state_count m ≤ 16)
        → ((why : Outside) × IsOutsideBy m why) ⊎ IsInScope m
    by (c ∷ cs) is some few =
        inl (HasClauses (length m.clauses), (refl, omega (arith, ap length is)))
    by [] is (inl none) few = inl (States (state_count m), (is, refl, inl (omega arith)))
    by [] is (inr some) (inl many) = inl (States (state_count m), (is, refl, inr many))
    by [] is (inr some) (inr few) = inr (record { plain = is; some = some; few = few })
