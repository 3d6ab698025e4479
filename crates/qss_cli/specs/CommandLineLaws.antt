-- Theorems about the command line: the commands of given argument lists.
use Rattle.std.specs.Prelude.{◌≡◌, ℕ, List, [], ◌∷◌, codes, Some, None}
use Rattle.clap.specs.Words.{Row}
use Rattle.clap.specs.declared.builder.value_parser.Reading.TheVariants.{AsWritten}
use Rattle.clap.specs.declared.parser.matches.ValueSource.TheVariants.{DefaultValue}
use Rattle.qss_quant.specs.declared.quantizer.Rule.TheVariants.{Floor, Near, Inward}
use Rattle.qss_cli.specs.Commands.{plain_options, run_model, print_model, certify_model, upgrade_model, generate_model, compare_runs, coupled_model, first_run, second_run, traced, command_named, command_of}

-- the parsed options if none is written
abbrev pub nothing_written : List Row
nothing_written = record { id = codes "rule"; values = codes "floor" ∷ []; count = None; source = Some DefaultValue; reading = AsWritten } ∷ []

-- after `--` the first argument is the verb and the others are operands, even if they begin with a
-- hyphen
pub record WordsBehind : Type 0 where
  pub none : (verb : List ℕ) → command_of (codes "--" ∷ verb ∷ []) ≡ command_named verb [] nothing_written
  pub one : (verb first : List ℕ) → command_of (codes "--" ∷ verb ∷ first ∷ []) ≡ command_named verb (first ∷ []) nothing_written
  pub two : (verb first second : List ℕ) → command_of (codes "--" ∷ verb ∷ first ∷ second ∷ []) ≡ command_named verb (first ∷ second ∷ []) nothing_written
  pub three : (verb first second third : List ℕ) → command_of (codes "--" ∷ verb ∷ first ∷ second ∷ third ∷ []) ≡ command_named verb (first ∷ second ∷ third ∷ []) nothing_written
  pub four : (verb first second third fourth : List ℕ) → command_of (codes "--" ∷ verb ∷ first ∷ second ∷ third ∷ fourth ∷ []) ≡ command_named verb (first ∷ second ∷ third ∷ fourth ∷ []) nothing_written

-- the commands of given argument lists, computed from the definition of `clap`
pub record WordsWorked : Type 0 where
  pub no_words : command_of [] ≡ None
  pub verb_alone : command_of (codes "run" ∷ []) ≡ None
  pub a_run : command_of (codes "run" ∷ codes "M" ∷ []) ≡ Some (run_model (codes "M") plain_options)
  pub a_print : command_of (codes "print" ∷ codes "M" ∷ []) ≡ Some (print_model (codes "M"))
  pub a_check : command_of (codes "certify" ∷ codes "M" ∷ codes "C" ∷ []) ≡ Some (certify_model (codes "M") (codes "C") 0)
  pub an_upgrade : command_of (codes "upgrade" ∷ codes "M" ∷ codes "C" ∷ []) ≡ Some (upgrade_model (codes "M") (codes "C"))
  pub a_generation : command_of (codes "gen" ∷ codes "0" ∷ codes "0003" ∷ []) ≡ Some (generate_model 0 3)
  pub a_comparison : command_of (codes "compare" ∷ codes "M" ∷ codes "C" ∷ codes "first" ∷ codes "T" ∷ []) ≡ Some (compare_runs (codes "M") (codes "C") first_run (traced (codes "T")))
  pub two_orders : command_of (codes "compare" ∷ codes "M" ∷ codes "C" ∷ codes "second" ∷ codes "first" ∷ []) ≡ Some (compare_runs (codes "M") (codes "C") second_run first_run)
  pub a_coupled_run : command_of (codes "devs" ∷ codes "M" ∷ []) ≡ Some (coupled_model (codes "M"))
  pub no_verb : command_of (codes "walk" ∷ codes "M" ∷ []) ≡ None
  -- each verb has a fixed number of operands
  pub too_many : command_of (codes "run" ∷ codes "M" ∷ codes "N" ∷ []) ≡ None
  pub too_few : command_of (codes "certify" ∷ codes "M" ∷ []) ≡ None
  pub three_words : command_of (codes "compare" ∷ codes "M" ∷ codes "C" ∷ codes "first" ∷ []) ≡ None
  pub four_words : command_of (codes "certify" ∷ codes "M" ∷ codes "C" ∷ codes "A" ∷ codes "B" ∷ []) ≡ None
  -- options may occur anywhere, with the value after `=` or in the next argument
  pub rule_last : command_of (codes "run" ∷ codes "M" ∷ codes "--rule" ∷ codes "floor" ∷ []) ≡ Some (run_model (codes "M") plain_options)
  pub rule_first : command_of (codes "--rule=near" ∷ codes "run" ∷ codes "M" ∷ []) ≡ Some (run_model (codes "M") (record { rule = Near; only = None; share = 0 }))
  pub all_options : command_of (codes "--only" ∷ codes "x" ∷ codes "run" ∷ codes "--relative=0512" ∷ codes "M" ∷ codes "--rule" ∷ codes "inward" ∷ []) ≡ Some (run_model (codes "M") (record { rule = Inward; only = Some (codes "x"); share = 512 }))
  pub between : command_of (codes "certify" ∷ codes "M" ∷ codes "--relative" ∷ codes "7" ∷ codes "C" ∷ []) ≡ Some (certify_model (codes "M") (codes "C") 7)
  -- a single hyphen and the empty text are valid operands and values
  pub hyphen : command_of (codes "run" ∷ codes "-" ∷ codes "--only" ∷ codes "-" ∷ []) ≡ Some (run_model (codes "-") (record { rule = Floor; only = Some (codes "-"); share = 0 }))
  pub empty : command_of (codes "run" ∷ [] ∷ codes "--only=" ∷ []) ≡ Some (run_model [] (record { rule = Floor; only = Some []; share = 0 }))
  -- an option is allowed only with its verbs, even if it has no effect
  pub print_rule : command_of (codes "print" ∷ codes "M" ∷ codes "--rule" ∷ codes "floor" ∷ []) ≡ None
  pub certify_rule : command_of (codes "certify" ∷ codes "M" ∷ codes "C" ∷ codes "--only" ∷ codes "x" ∷ []) ≡ None
  pub upgrade_relative : command_of (codes "upgrade" ∷ codes "M" ∷ codes "C" ∷ codes "--relative" ∷ codes "0" ∷ []) ≡ None
  pub gen_rule : command_of (codes "gen" ∷ codes "0" ∷ codes "3" ∷ codes "--rule=floor" ∷ []) ≡ None
  pub devs_rule : command_of (codes "devs" ∷ codes "M" ∷ codes "--rule" ∷ codes "floor" ∷ []) ≡ None
  -- an option has exactly one value and occurs at most once
  pub twice : command_of (codes "run" ∷ codes "M" ∷ codes "--only" ∷ codes "x" ∷ codes "--only=x" ∷ []) ≡ None
  pub last : command_of (codes "run" ∷ codes "M" ∷ codes "--only" ∷ []) ≡ None
  pub wanting : command_of (codes "run" ∷ codes "M" ∷ codes "--only" ∷ codes "--rule" ∷ codes "near" ∷ []) ≡ None
  pub trailing : command_of (codes "run" ∷ codes "--only" ∷ codes "--" ∷ codes "M" ∷ []) ≡ None
  -- other arguments that begin with a hyphen are rejected
  pub short_help : command_of (codes "-h" ∷ []) ≡ None
  pub short : command_of (codes "run" ∷ codes "M" ∷ codes "-x" ∷ []) ≡ None
  pub number : command_of (codes "run" ∷ codes "M" ∷ codes "--only" ∷ codes "-5" ∷ []) ≡ None
  pub prefix : command_of (codes "run" ∷ codes "M" ∷ codes "--on=x" ∷ []) ≡ None
  pub other : command_of (codes "run" ∷ codes "M" ∷ codes "--help" ∷ []) ≡ None
  -- option values must be in range
  pub other_rule : command_of (codes "run" ∷ codes "M" ∷ codes "--rule" ∷ codes "ceil" ∷ []) ≡ None
  pub great_share : command_of (codes "run" ∷ codes "M" ∷ codes "--relative" ∷ codes "2049" ∷ []) ≡ None
  pub long_share : command_of (codes "run" ∷ codes "M" ∷ codes "--relative" ∷ codes "00512" ∷ []) ≡ None
  pub signed_share : command_of (codes "run" ∷ codes "M" ∷ codes "--relative" ∷ codes "+12" ∷ []) ≡ None
  pub no_cells : command_of (codes "gen" ∷ codes "0" ∷ codes "0" ∷ []) ≡ None
  pub most_cells : command_of (codes "gen" ∷ codes "18446744073709551615" ∷ codes "4096" ∷ []) ≡ Some (generate_model 18446744073709551615 4096)
  pub many_cells : command_of (codes "gen" ∷ codes "0" ∷ codes "4097" ∷ []) ≡ None
  pub great_seed : command_of (codes "gen" ∷ codes "18446744073709551616" ∷ codes "1" ∷ []) ≡ None
