use Rattle.qss_devs.proofs.Common
use Common.{Agrees, AllLinesLater, AreReady, AreRuled, AreSentUpTo, AreValues, AreWithinQuanta}
use Common.{line_at, Option, Rule, Values}
use Rattle.qss_devs.proofs.coupled_messages.send_slope_messages.Given as goal

-- the functions so far made their transitions
abbrev pub invariant-loop-j : goal.invariant-loop-j
invariant-loop-j g l = record {
  ruled : (name : Option Rule) → AreRuled name l.fn.parts → AreRuled name l.parts;
  ready : AreReady l.m l.tick l.parts;
  sent : (v : Values) → AreValues l.m v → Agrees l.m l.tick v l.fn.parts → AreSentUpTo l.m l.tick v l.j l.parts;
  later : (v : Values) → AreValues l.m v → Agrees l.m l.tick v l.fn.parts → AreWithinQuanta l.m v → AllLinesLater l.m l.tick (line_at l.fn.parts) → AllLinesLater l.m l.tick (line_at l.parts);
}
