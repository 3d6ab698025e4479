-- The flags are the truths of the crossings.
use Rattle.qss_devs.proofs.Common.{◌∙◌, ap, arith, length, with_items_is}
use Rattle.qss_devs.proofs.coupled_start.start_flags.Goals as goal

pub settle_all_arrival_truths-requires : goal.settle_all_arrival_truths-requires
settle_all_arrival_truths-requires c =
    omega (arith, ap length c.deref_mut.ensures.value, c.in_ok-flags.ensures.len, c.in_ok-flags.flags.ok.0)

pub returns : goal.returns
returns c = with_items_is c.in_ok-flags.flags c.settle_all_arrival_truths.new.flags (c.settle_all_arrival_truths.auto.flags ∙ c.deref_mut.ensures.len) ∙ c.settle_all_arrival_truths.ensures
