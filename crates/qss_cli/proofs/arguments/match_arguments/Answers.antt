use Rattle.std.proofs.Common.{◌∙◌, map}
use Rattle.clap.specs.Words.{app_of, found_of, rows_of}
use Rattle.clap.specs.declared.parser.matches.ArgMatches.{ArgMatches}
use Rattle.qss_cli.proofs.Taking.{taken, refused, none-found, found_so}
use Rattle.qss_cli.proofs.arguments.match_arguments.Goals as goal

pub returns-in-Ok : goal.returns-in-Ok
returns-in-Ok c =
    let words = map (λ word. word.now) c.args.words.now in (
      taken (app_of c.in_ok-line.line) c.in_ok-line.ensures words c.in-Ok.matches c.in-Ok.ensures.kinds,
      found_so (app_of c.in_ok-line.line) c.in_ok-line.ensures words (rows_of (found_of c.in-Ok.matches)) (λ simple. (c.in-Ok.ensures.matches simple).0),
    )

pub returns-in-Err : goal.returns-in-Err
returns-in-Err c =
    let words = map (λ word. word.now) c.args.words.now in
    none-found _ _ c.kind.result c.refuse_arguments.result c.refuse_arguments.ensures (λ other.
    refused (app_of c.in_ok-line.line) c.in_ok-line.ensures words ArgMatches c.in-Err.error c.in-Err.ensures.kinds (λ e. other (c.kind.ensures ∙ e)))
