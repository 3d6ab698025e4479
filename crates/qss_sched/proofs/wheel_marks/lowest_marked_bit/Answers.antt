use Rattle.qss_sched.proofs.Words.{lowest_bit}
use Rattle.qss_sched.proofs.wheel_marks.lowest_marked_bit.Goals as goal

pub returns : goal.returns
returns c = lowest_bit c.args.word c.requires c.ranges.word.fits
