use Rattle.qss_trace.proofs.Common.{◌*◌, ◌+◌, ◌-◌, ◌∙◌, ◌≡◌, ap, arith, drop, sym, take}
use Rattle.qss_trace.proofs.Placing.{places-at}
use Rattle.qss_trace.proofs.trace.trace_place_numbers.Goals as goal

pub returns-clause-value : goal.returns-clause-value
returns-clause-value c =
    let e : c.args.place * c.args.n + c.args.n - c.args.place * c.args.n ≡ c.args.n = omega arith in
    ap (λ k. take k (drop (c.args.place * c.args.n) c.args.numbers.now)) e ∙ sym (places-at c.args.n c.args.place c.args.numbers.now c.requires.place)
