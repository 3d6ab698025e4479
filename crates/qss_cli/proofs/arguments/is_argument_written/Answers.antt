use Rattle.std.proofs.Common.{◌∙◌, sym, ap, None, Some}
use Rattle.clap.specs.Words.{found_of}
use Rattle.clap.specs.declared.parser.matches.ValueSource.TheVariants.{DefaultValue, CommandLine}
use Rattle.qss_cli.proofs.Found.{given_by}
use Rattle.qss_cli.proofs.arguments.is_argument_written.Goals as goal

pub returns-in-Some-CommandLine : goal.returns-in-Some-CommandLine
returns-in-Some-CommandLine c =
    sym (given_by (found_of c.args.matches.now) c.args.id.now (Some CommandLine) (sym c.value_source.ensures ∙ c.in-Some-CommandLine.is ∙ ap Some c.in-Some-CommandLine.field-0-is))

pub returns-in-Some-DefaultValue : goal.returns-in-Some-DefaultValue
returns-in-Some-DefaultValue c =
    sym (given_by (found_of c.args.matches.now) c.args.id.now (Some DefaultValue) (sym c.value_source.ensures ∙ c.in-Some-DefaultValue.is ∙ ap Some c.in-Some-DefaultValue.field-0-is))

pub returns-in-None : goal.returns-in-None
returns-in-None c = c.contains_id.ensures ∙ sym (given_by (found_of c.args.matches.now) c.args.id.now None (sym c.value_source.ensures ∙ c.in-None.is))
