use Rattle.qss_top.proofs.Common.{IsRefused}
use Rattle.qss_top.proofs.Sources.{refused_for}
use Rattle.qss_top.proofs.source.compile_source.Goals as goal

pub returns-in-Ok-clause-machine : goal.returns-in-Ok-clause-machine
returns-in-Ok-clause-machine c =
    let is = c.with_relative.ensures in record {
      short = c.requires.short;
      plain = c.in-Ok.m;
      means = c.in-Ok.ensures.means;
      shared = record {
        coef_bits = is.units.0;
        tick_bits = is.units.1;
        level_bits = is.units.2;
        last = is.units.3;
        states = is.lists.0;
        discretes = is.lists.1;
        rows = is.lists.2;
        clauses = is.lists.3;
        relative = is.relative;
      };
    }

pub returns-in-Err-clause-refused : goal.returns-in-Err-clause-refused
returns-in-Err-clause-refused c =
    rw c.from.ensures
    (refused_for (IsRefused c.args.bytes.now) c.in-Err.refused c.in-Err.ensures.refused)
