-- The components are those of the machine.
use Rattle.qss_devs.proofs.Common
use Common.{◌∙◌, ap, conditions, EachAt, IsFirstCrossing, length, Machine, subst}
use Rattle.qss_devs.proofs.coupled_start.start_coupled_parts.Goals as goal

pub returns : goal.returns
returns g c =
    let same = c.requires.same in
    let integrators = c.in_ok-integrators.ensures in
    let crossings = c.in_ok-crossings.ensures in
    record {
      parts = record {
        integrators = integrators.count;
        functions = c.in_ok-functions.ensures.count;
        crossings = crossings.count ∙ ap (λ (m : Machine). length (conditions m)) same;
        own_integrators = λ j d h. let i = integrators.each j d h in record { machine = i.machine; own = i.own };
        own_functions = λ j d h. (c.in_ok-functions.ensures.each j d h).machine;
        own_crossings = λ place d h. (crossings.each place d h).machine ∙ same;
        uses = c.in_ok-uses.ensures;
      };
      integrators = integrators.each;
      functions = c.in_ok-functions.ensures.each;
      crossings = subst (λ (m : Machine). EachAt (IsFirstCrossing m) c.in_ok-crossings.crossings.items) same crossings.each;
    }
