use Rattle.qss_sched.proofs.Common
use Common.{◌∙◌, ap, bit_at, bit_at_clear_other, bit_at_clear_same, get_or-set_other}
use Common.{get_or-set_same, length-set, slice_index, w64}
use Rattle.qss_sched.proofs.wheel_marks.unmark.Goals as goal

pub returns-clause-unmarked : goal.returns-clause-unmarked
returns-clause-unmarked c =
    let words = c.args.words.now in
    let word = slice_index words c.args.index in
    let held = get_or-set_same words c.args.index _ 0 c.requires.index in
    record {
      as_many = length-set words c.args.index _;
      takes = ap (λ w. bit_at w c.args.bit) held ∙ bit_at_clear_same w64 word c.args.bit c.requires.bit;
      others = λ i within apart. ap (λ w. bit_at w i) held ∙ bit_at_clear_other w64 word c.args.bit c.requires.bit i within apart;
      apart = λ k other. get_or-set_other words c.args.index k _ 0 other;
    }
