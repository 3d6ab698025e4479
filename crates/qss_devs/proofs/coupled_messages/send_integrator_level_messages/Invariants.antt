use Rattle.qss_devs.proofs.Common
use Common.{ℕ, ◌+◌, ◌<◌, ◌≡◌, ◌≤◌, Agrees, AreReady, AreRuled, AreTakenUpTo, AreValues, IsLineNext}
use Common.{line_at, Option, Rule, Some, Values, vec_capacity, vec_len}
use Rattle.qss_devs.proofs.coupled_messages.send_integrator_level_messages.Given as goal

-- the integrators so far made their transitions
abbrev pub invariant-loop-j : goal.invariant-loop-j
invariant-loop-j g l = record {
  ruled : (name : Option Rule) → AreRuled name l.fn.parts → AreRuled name l.parts;
  ready : AreReady l.m l.tick l.parts;
  taken : (rule : Rule) (v : Values) → AreRuled (Some rule) l.fn.parts → AreValues l.m v →
      Agrees l.m l.tick v l.fn.parts →
      AreTakenUpTo l.m rule l.tick v l.j l.parts l.fn.rows.items l.rows.items;
  later : (i next : ℕ) → i < l.j → IsLineNext l.m i (line_at l.parts i) (Some next) → l.tick < next;
  room : vec_capacity l.rows ≡ vec_capacity l.fn.rows;
  count : vec_len l.rows ≤ vec_len l.fn.rows + l.j;
}
