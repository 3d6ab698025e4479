use Rattle.qss_devs.proofs.Common
use Common.{Agrees, AreReady, AreRuled, HasEach, Option, Rule, take, Values, values_after_rows}
use Rattle.qss_devs.proofs.coupled_messages.send_assigned_messages.Given as goal

-- the assignments of the rows so far were sent
abbrev pub invariant-loop-row : goal.invariant-loop-row
invariant-loop-row g l = record {
  ruled : (name : Option Rule) → AreRuled name l.fn.parts → AreRuled name l.parts;
  ready : AreReady l.m l.tick l.parts;
  agree : (v : Values) → HasEach l.m v → Agrees l.m l.tick v l.fn.parts → Agrees l.m l.tick (values_after_rows l.m v (take l.row-index l.row-items)) l.parts;
}
