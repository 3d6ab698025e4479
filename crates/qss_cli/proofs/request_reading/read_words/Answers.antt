use Rattle.std.proofs.Common.{◌∙◌, map}
use Rattle.clap.specs.Words.{found_of, rows_of}
use Rattle.qss_cli.proofs.Taking.{command_taken, command_refused}
use Rattle.qss_cli.proofs.request_reading.read_words.Goals as goal

pub returns-in-Some : goal.returns-in-Some
returns-in-Some c =
    let found = rw c.in-Some.is at c.in_ok-matches.ensures in
    c.read_request.ensures ∙ command_taken (map (λ word. word.now) c.args.words.now) (rows_of (found_of c.in-Some.matches)) found.0 found.1

pub returns-in-None : goal.returns-in-None
returns-in-None c = command_refused (map (λ word. word.now) c.args.words.now) (rw c.in-None.is at c.in_ok-matches.ensures)
