-- Words that are worked out from the definition of `clap`.
use Rattle.std.proofs.Common.{◌≡◌, false, ℕ, List, [], ◌∷◌, refl, ap}
use Rattle.std.specs.Prelude.{Option, None, Some, codes, option_map, option_and_then}
use Rattle.clap.specs.Words.{Row, first_of}
use Rattle.clap.specs.Takes.{is_given}
use Rattle.clap.proofs.OnLiterals.{clap_on_literals}
use Rattle.qss_cli.specs.CommandLine.{takes, matches_in}
use Rattle.qss_cli.specs.Commands.{RunOptions, run_model, options_given, of_one, command_by}
use Rattle.qss_cli.specs.Commands.{command_named, command_of}
use Rattle.qss_cli.specs.CommandLineLaws.{WordsBehind, WordsWorked, nothing_written}
use Rattle.qss_cli.specs.Verbs.{verb_named}
use Rattle.qss_cli.specs.declared.verb.Verb.{Verb}
use Rattle.qss_cli.specs.declared.verb.Verb.TheVariants.{Run, Print, Certify, Upgrade, Generate}
use Rattle.qss_cli.specs.declared.verb.Verb.TheVariants.{Check, Propose, Second, Compare, Devs}

-- no option was written
record IsPlain (found : List Row) : Type 0 where
  no_rule : is_given (codes "rule") found ≡ false
  no_only : is_given (codes "only") found ≡ false
  no_relative : is_given (codes "relative") found ≡ false
  rule : first_of (codes "rule") found ≡ Some (codes "floor")
  only : first_of (codes "only") found ≡ None
  relative : first_of (codes "relative") found ≡ None

module _ (found : List Row) (h : IsPlain found) (words : List (List ℕ)) where
  options : options_given found ≡ options_given nothing_written
  options = rw h.rule (rw h.only (rw h.relative refl))

  by_verb : (verb : Verb) → command_by verb words found ≡ command_by verb words nothing_written
  by_verb Run = ap (λ (o : Option RunOptions). of_one (λ model. option_map (run_model model) o) words) options
  by_verb Print = rw h.no_rule (rw h.no_only (rw h.no_relative refl))
  by_verb Certify = rw h.no_rule (rw h.no_only (rw h.relative refl))
  by_verb Upgrade = rw h.no_rule (rw h.no_only (rw h.no_relative refl))
  by_verb Generate = rw h.no_rule (rw h.no_only (rw h.no_relative refl))
  by_verb Check = rw h.no_rule (rw h.no_only (rw h.no_relative refl))
  by_verb Propose = rw h.no_rule (rw h.no_only (rw h.no_relative refl))
  by_verb Second = rw h.no_rule (rw h.no_only (rw h.no_relative refl))
  by_verb Compare = rw h.no_rule (rw h.no_only (rw h.no_relative refl))
  by_verb Devs = rw h.no_rule (rw h.no_only (rw h.no_relative refl))

  named : (verb : Option Verb) → option_and_then (λ v. command_by v words found) verb ≡ option_and_then (λ v. command_by v words nothing_written) verb
  named None = refl
  named (Some verb) = by_verb verb

-- the parsed arguments after `--`
abbrev behind : (verb : List ℕ) → List (List ℕ) → List Row
behind verb words = matches_in (codes "--" ∷ verb ∷ words)

plain : (verb : List ℕ) (words : List (List ℕ)) → IsPlain (behind verb words) → command_named verb words (behind verb words) ≡ command_named verb words nothing_written
plain verb words h = named (behind verb words) h words (verb_named verb)

pub words_behind : WordsBehind
unfolding clap_on_literals takes matches_in command_of
words_behind = record {
  none = λ verb. plain verb [] (record { no_rule = refl; no_only = refl; no_relative = refl; rule = refl; only = refl; relative = refl });
  one = λ verb first. plain verb (first ∷ []) (record { no_rule = refl; no_only = refl; no_relative = refl; rule = refl; only = refl; relative = refl });
  two = λ verb first second. plain verb (first ∷ second ∷ []) (record { no_rule = refl; no_only = refl; no_relative = refl; rule = refl; only = refl; relative = refl });
  three = λ verb first second third. plain verb (first ∷ second ∷ third ∷ []) (record { no_rule = refl; no_only = refl; no_relative = refl; rule = refl; only = refl; relative = refl });
  four = λ verb first second third fourth. plain verb (first ∷ second ∷ third ∷ fourth ∷ []) (record { no_rule = refl; no_only = refl; no_relative = refl; rule = refl; only = refl; relative = refl });
}

pub words_worked : WordsWorked
unfolding clap_on_literals takes matches_in command_of
words_worked = record {
  no_words = refl;
  verb_alone = refl;
  a_run = refl;
  a_print = refl;
  a_check = refl;
  an_upgrade = refl;
  a_generation = refl;
  a_comparison = refl;
  two_orders = refl;
  a_coupled_run = refl;
  no_verb = refl;
  too_many = refl;
  too_few = refl;
  three_words = refl;
  four_words = refl;
  rule_last = refl;
  rule_first = refl;
  all_options = refl;
  between = refl;
  hyphen = refl;
  empty = refl;
  print_rule = refl;
  certify_rule = refl;
  upgrade_relative = refl;
  gen_rule = refl;
  devs_rule = refl;
  twice = refl;
  last = refl;
  wanting = refl;
  trailing = refl;
  short_help = refl;
  short = refl;
  number = refl;
  prefix = refl;
  other = refl;
  other_rule = refl;
  great_share = refl;
  long_share = refl;
  signed_share = refl;
  no_cells = refl;
  most_cells = refl;
  many_cells = refl;
  great_seed = refl;
}
