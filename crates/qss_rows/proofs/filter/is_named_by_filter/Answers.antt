use Rattle.qss_rows.proofs.Common.{arith, Decides-eqb, None, Some, sym}
use Rattle.std.proofs.lemmas.Bool.Decides.{nat_tests}
use Rattle.std.proofs.lemmas.Slice.Eq.{strip_prefix_is}
use Rattle.qss_rows.proofs.Names.{named_test, named_never}
use Rattle.qss_rows.proofs.filter.is_named_by_filter.Goals as goal

pub returns-else-is_empty : goal.returns-else-is_empty
returns-else-is_empty c =
    let rest = strip_prefix_is Decides-eqb c.args.name.now c.args.only.now (Some c.in-Some.rest) c.in-Some.ensures.cases in
    named_test c.args.only.now c.args.name.now c.in-Some.rest.now rest (grind (arith, nat_tests, c.is_empty.ensures, c.if-is_empty.false))

pub returns-in-None : goal.returns-in-None
returns-in-None c =
    sym (named_never c.args.only.now c.args.name.now (strip_prefix_is Decides-eqb c.args.name.now c.args.only.now None c.in-None.ensures.cases))
