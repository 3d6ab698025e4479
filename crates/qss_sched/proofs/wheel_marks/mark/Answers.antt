use Rattle.qss_sched.proofs.Common
use Common.{◌∙◌, ap, bit_at, bit_at_set_other, bit_at_set_same, get_or-set_other, get_or-set_same}
use Common.{length-set, slice_index, w64}
use Rattle.qss_sched.proofs.wheel_marks.mark.Goals as goal

pub returns : goal.returns
returns c =
    let words = c.args.words.now in
    let word = slice_index words c.args.index in
    let held = get_or-set_same words c.args.index _ 0 c.requires.index in
    record {
      as_many = length-set words c.args.index _;
      takes = ap (λ w. bit_at w c.args.bit) held ∙ bit_at_set_same w64 word c.args.bit c.requires.bit;
      others = λ i within apart. ap (λ w. bit_at w i) held ∙ bit_at_set_other w64 word c.args.bit c.requires.bit i apart;
      apart = λ k other. get_or-set_other words c.args.index k _ 0 other;
    }
