-- Where no level is past its limit, levels are small.
use Rattle.qss_order2.proofs.Common
use Common.{◌∙◌, ap, arith, IsWithin, none_past, overflow_of, state_count, sym}
use Rattle.qss_order2.proofs.Tables.{all_of}
use Rattle.qss_order2.proofs.order2_limits.check_levels.Goals as goal

pub check_level_sums-requires-clause-size_limit : goal.check_level_sums-requires-clause-size_limit
check_level_sums-requires-clause-size_limit c =
    all_of (IsWithin 50) c.args.levels.now (state_count c.args.f.now.machine) c.requires
    (λ k h. omega (
      arith,
      none_past 49 c.args.levels.now (sym c.check_level_sizes.ensures
          ∙ ap overflow_of c.in_ok-check_level_sizes.was) k,
    ))
