use Rattle.qss_top.proofs.Common.{◌<◌, inl, inr, length, limit_of, refl}
use Rattle.qss_top.proofs.byte_answers.test_text.Goals as goal

pub returns-in-Ok-clause-refused : goal.returns-in-Ok-clause-refused
returns-in-Ok-clause-refused c =
    let long : limit_of c.args.kind < length c.args.text.now
    = rw c.limit_of.ensures at c.if-text-limit_of.true in
    inr (c.in-Ok.ensures.inside.0 refl, long, c.too_long.ensures)

pub returns-in-Err-clause-refused : goal.returns-in-Err-clause-refused
returns-in-Err-clause-refused c = inl (c.in-Err.why, c.in-Err.ensures.outside, refl)
