-- The valid commands: which argument lists are commands, and which files they read.
use Rattle.std.specs.Prelude.{Bool, true, false, ℕ, List, [], ◌∷◌, ◌++◌, bytes_eq, codes, Option, Some, None, option_map, option_and_then, unwrap_or, if◌then◌else◌}
use Rattle.clap.specs.Words.{Row, all_of, first_of}
use Rattle.qss_quant.specs.declared.quantizer.Rule.{Rule}
use Rattle.qss_quant.specs.declared.quantizer.Rule.TheVariants.{Floor, Near, Inward}
use Rattle.qss_cli.specs.CommandLine.{takes, matches_in}
use Rattle.qss_cli.specs.NumberWords.{share_in, seed_in, cells_in}
use Rattle.qss_cli.specs.Verbs.{verb_named, goes_with}
use Rattle.qss_cli.specs.declared.verb.Verb.{Verb}
use Rattle.qss_cli.specs.declared.verb.Verb.TheVariants.{Run, Print, Certify, Upgrade, Generate, Check, Propose, Second, Compare, Devs}

-- the options of a run: the rule, the only variable whose rows are printed (if given), and the
-- relative quantum in 4096ths, rounded down
pub record RunOptions : Type 0 where
  pub rule : Rule
  pub only : Option (List ℕ)
  pub share : ℕ

-- the rule `floor`, all rows, and no relative quantum
abbrev pub plain_options : RunOptions
plain_options = record { rule = Floor; only = None; share = 0 }

-- one of two compared runs: the run by the rule `floor`, the second-order run, or the trace in a
-- named file
pub data Side : Type 0 where
  first_run : Side
  second_run : Side
  traced : (name : List ℕ) → Side

-- the run that an operand names; `first` and `second` are not file names
abbrev pub side_named : List ℕ → Side
side_named word =
    if bytes_eq word (codes "first") then first_run
    else (if bytes_eq word (codes "second") then second_run else traced word)

-- a command with its operands and options
pub data Command : Type 0 where
  run_model : (model : List ℕ) → (options : RunOptions) → Command
  print_model : (model : List ℕ) → Command
  certify_model : (model certificate : List ℕ) → (share : ℕ) → Command
  upgrade_model : (model certificate : List ℕ) → Command
  generate_model : (seed cells : ℕ) → Command
  check_model : (model trace : List ℕ) → Command
  propose_model : (model : List ℕ) → Command
  second_model : (model : List ℕ) → Command
  compare_runs : (model certificate : List ℕ) → (one two : Side) → Command
  coupled_model : (model : List ℕ) → Command

-- the quantizer rule of this name
abbrev pub rule_named : List ℕ → Option Rule
rule_named name =
    if bytes_eq name (codes "floor") then Some Floor
    else (if bytes_eq name (codes "near") then Some Near
    else (if bytes_eq name (codes "inward") then Some Inward else None))

-- the relative quantum of an option value; 0 if there is none
abbrev pub share_of : Option (List ℕ) → Option ℕ
share_of None = Some 0
share_of (Some digits) = share_in digits

-- the relative quantum of the command line
abbrev pub share_given : List Row → Option ℕ
share_given found = share_of (first_of (codes "relative") found)

-- the options of a run
abbrev pub options_given : List Row → Option RunOptions
options_given found =
    option_and_then (λ rule. option_map (λ share. record { rule = rule; only = first_of (codes "only") found; share = share }) (share_given found))
    (option_and_then rule_named (first_of (codes "rule") found))

-- a command with exactly one, two or four operands
abbrev pub of_one : (List ℕ → Option Command) → List (List ℕ) → Option Command
of_one made (first ∷ []) = made first
of_one made _ = None

abbrev pub of_two : (List ℕ → List ℕ → Option Command) → List (List ℕ) → Option Command
of_two made (first ∷ second ∷ []) = made first second
of_two made _ = None

abbrev pub of_four : (List ℕ → List ℕ → List ℕ → List ℕ → Option Command) → List (List ℕ) → Option Command
of_four made (first ∷ second ∷ third ∷ fourth ∷ []) = made first second third fourth
of_four made _ = None

-- the command that runs the model generated from a seed
abbrev pub generation : (seed cells : List ℕ) → Option Command
generation seed cells = option_and_then (λ seed. option_map (generate_model seed) (cells_in cells)) (seed_in seed)

-- the command of a verb with its operands and options
abbrev pub command_for : Verb → List (List ℕ) → List Row → Option Command
command_for Run words found = of_one (λ model. option_map (run_model model) (options_given found)) words
command_for Print words found = of_one (λ model. Some (print_model model)) words
command_for Certify words found = of_two (λ model certificate. option_map (certify_model model certificate) (share_given found)) words
command_for Upgrade words found = of_two (λ model certificate. Some (upgrade_model model certificate)) words
command_for Generate words found = of_two generation words
command_for Check words found = of_two (λ model trace. Some (check_model model trace)) words
command_for Propose words found = of_one (λ model. Some (propose_model model)) words
command_for Second words found = of_one (λ model. Some (second_model model)) words
command_for Compare words found = of_four (λ model certificate one two. Some (compare_runs model certificate (side_named one) (side_named two))) words
command_for Devs words found = of_one (λ model. Some (coupled_model model)) words

-- the command of a verb, if the verb allows the written options
abbrev pub command_by : Verb → List (List ℕ) → List Row → Option Command
command_by verb words found = if goes_with verb found then command_for verb words found else None

-- the command of a verb's name, with its operands and options
abbrev pub command_named : (name : List ℕ) → List (List ℕ) → List Row → Option Command
command_named name words found = option_and_then (λ verb. command_by verb words found) (verb_named name)

-- the operands
abbrev pub words_given : List Row → List (List ℕ)
words_given found = unwrap_or (all_of (codes "words") found) []

-- the command of the parsed arguments
abbrev pub command_given : List Row → Option Command
command_given found = option_and_then (λ name. command_named name (words_given found) found) (first_of (codes "verb") found)

-- the command of an argument list, or None if `clap` rejects it or the verb does not allow its
-- operands or options
unfoldable pub command_of : List (List ℕ) → Option Command
command_of words = if takes words then command_given (matches_in words) else None

-- whether the command writes output during a run; other commands write only when their result is
-- complete
abbrev pub writes_as_it_goes : Option Command → Bool
writes_as_it_goes (Some (run_model model options)) = true
writes_as_it_goes (Some (second_model model)) = true
writes_as_it_goes (Some (coupled_model model)) = true
writes_as_it_goes _ = false

-- the files of a compared run
abbrev pub files_of_side : Side → List (List ℕ)
files_of_side first_run = []
files_of_side second_run = []
files_of_side (traced name) = name ∷ []

-- the files that a command reads
abbrev pub files_of : Command → List (List ℕ)
files_of (run_model model options) = model ∷ []
files_of (print_model model) = model ∷ []
files_of (certify_model model certificate share) = model ∷ certificate ∷ []
files_of (upgrade_model model certificate) = model ∷ certificate ∷ []
files_of (generate_model seed cells) = []
files_of (check_model model trace) = model ∷ trace ∷ []
files_of (propose_model model) = model ∷ []
files_of (second_model model) = model ∷ []
files_of (compare_runs model certificate one two) = model ∷ certificate ∷ (files_of_side one ++ files_of_side two)
files_of (coupled_model model) = model ∷ []
