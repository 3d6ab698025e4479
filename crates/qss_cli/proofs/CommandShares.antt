-- The relative quantum of a command is at most 2048.
use Rattle.std.proofs.Common.{◌≡◌, ◌≤◌, Bool, true, false, ℕ, List, [], ◌∷◌, None, Some, refl}
use Rattle.std.proofs.Common.{arith}
use Rattle.std.specs.declared.option.Option.{Option}
use Rattle.std.specs.Prelude.{◌&&◌, IfSome, codes, nat_le, option_map, option_and_then}
use Rattle.std.specs.Prelude.{if◌then◌else◌}
use Rattle.std.specs.Str.Parse.{digits_value}
use Rattle.std.proofs.lemmas.Bool.Decides.{nat_tests}
use Rattle.clap.specs.Words.{Row, first_of}
use Rattle.qss_quant.specs.declared.quantizer.Rule.{Rule}
use Rattle.qss_cli.specs.CommandLine.{takes, matches_in}
use Rattle.qss_cli.specs.Commands.{RunOptions, Command, run_model, certify_model, generate_model}
use Rattle.qss_cli.specs.Commands.{rule_named, share_of, share_given, options_given, of_one, of_two}
use Rattle.qss_cli.specs.Commands.{of_four, generation, command_for, command_by, command_named}
use Rattle.qss_cli.specs.Commands.{words_given, command_given, command_of}
use Rattle.qss_cli.specs.NumberWords.{is_number, seed_in, cells_in}
use Rattle.qss_cli.specs.Verbs.{verb_named, goes_with}
use Rattle.qss_cli.specs.declared.verb.Verb.{Verb}
use Rattle.qss_cli.specs.declared.verb.Verb.TheVariants.{Run, Print, Certify, Upgrade, Generate}
use Rattle.qss_cli.specs.declared.verb.Verb.TheVariants.{Check, Propose, Second, Compare, Devs}

-- the relative quantum of a command, if it has one, is at most 2048
abbrev pub HasShare : Command → Type 0
HasShare (run_model model options) = options.share ≤ 2048
HasShare (certify_model model certificate share) = share ≤ 2048
HasShare _ = Unit {0}

number_by : (n : ℕ) (ok : Bool) → IfSome (if ok && nat_le n 2048 then Some n else None) (λ share. share ≤ 2048)
number_by n false = tt
number_by n true = within (nat_le n 2048) refl
  where
    within : (b : Bool) → nat_le n 2048 ≡ b → IfSome (if b then Some n else None) (λ share. share ≤ 2048)
    within true e = grind (arith, nat_tests)
    within false e = tt

value_share : (value : Option (List ℕ)) → IfSome (share_of value) (λ share. share ≤ 2048)
value_share None = omega arith
value_share (Some digits) = number_by (digits_value 10 digits) (is_number 4 digits && nat_le 0 (digits_value 10 digits))

module _ (only : Option (List ℕ)) where
  abbrev of_share : Rule → Option ℕ → Option RunOptions
  of_share rule share = option_map (λ (share : ℕ). record { rule = rule; only = only; share = share }) share

  share_kept : (rule : Rule) (share : Option ℕ) → IfSome share (λ n. n ≤ 2048) → IfSome (of_share rule share) (λ options. options.share ≤ 2048)
  share_kept rule None h = tt
  share_kept rule (Some n) h = h

  options_kept : (rule : Option Rule) (share : Option ℕ) → IfSome share (λ n. n ≤ 2048) → IfSome (option_and_then (λ (r : Rule). of_share r share) rule) (λ options. options.share ≤ 2048)
  options_kept None share h = tt
  options_kept (Some rule) share h = share_kept rule share h

options_share : (found : List Row) → IfSome (options_given found) (λ options. options.share ≤ 2048)
options_share found =
    options_kept (first_of (codes "only") found) (option_and_then rule_named (first_of (codes "rule") found)) (share_of (first_of (codes "relative") found)) (value_share (first_of (codes "relative") found))

-- ---- commands by their number of words

if_share : (b : Bool) (x y : Option Command) → IfSome x HasShare → IfSome y HasShare → IfSome (if b then x else y) HasShare
if_share true x y p q = p
if_share false x y p q = q

one_share : (made : List ℕ → Option Command) → ((first : List ℕ) → IfSome (made first) HasShare) → (words : List (List ℕ)) → IfSome (of_one made words) HasShare
one_share made h [] = tt
one_share made h (first ∷ []) = h first
one_share made h (first ∷ second ∷ rest) = tt

two_share : (made : List ℕ → List ℕ → Option Command) → ((first second : List ℕ) → IfSome (made first second) HasShare) → (words : List (List ℕ)) → IfSome (of_two made words) HasShare
two_share made h [] = tt
two_share made h (first ∷ []) = tt
two_share made h (first ∷ second ∷ []) = h first second
two_share made h (first ∷ second ∷ third ∷ rest) = tt

four_share : (made : List ℕ → List ℕ → List ℕ → List ℕ → Option Command) → ((first second third fourth : List ℕ) → IfSome (made first second third fourth) HasShare)
    → (words : List (List ℕ)) → IfSome (of_four made words) HasShare
four_share made h [] = tt
four_share made h (first ∷ []) = tt
four_share made h (first ∷ second ∷ []) = tt
four_share made h (first ∷ second ∷ third ∷ []) = tt
four_share made h (first ∷ second ∷ third ∷ fourth ∷ []) = h first second third fourth
four_share made h (first ∷ second ∷ third ∷ fourth ∷ fifth ∷ rest) = tt

-- ---- each verb

run_share : (options : Option RunOptions) → IfSome options (λ options. options.share ≤ 2048) → (model : List ℕ) → IfSome (option_map (run_model model) options) HasShare
run_share None h model = tt
run_share (Some options) h model = h

certify_share : (share : Option ℕ) → IfSome share (λ n. n ≤ 2048) → (model certificate : List ℕ) → IfSome (option_map (certify_model model certificate) share) HasShare
certify_share None h model certificate = tt
certify_share (Some n) h model certificate = h

generation_share : (seed cells : Option ℕ) → IfSome (option_and_then (λ s. option_map (generate_model s) cells) seed) HasShare
generation_share None cells = tt
generation_share (Some s) None = tt
generation_share (Some s) (Some n) = tt

verb_share : (verb : Verb) (words : List (List ℕ)) (found : List Row) → IfSome (command_for verb words found) HasShare
verb_share Run words found = one_share _ (run_share (options_given found) (options_share found)) words
verb_share Print words found = one_share _ (λ model. tt) words
verb_share Certify words found = two_share _ (certify_share (share_given found) (value_share (first_of (codes "relative") found))) words
verb_share Upgrade words found = two_share _ (λ model certificate. tt) words
verb_share Check words found = two_share _ (λ model trace. tt) words
verb_share Propose words found = one_share _ (λ model. tt) words
verb_share Second words found = one_share _ (λ model. tt) words
verb_share Compare words found = four_share _ (λ model certificate one two. tt) words
verb_share Devs words found = one_share _ (λ model. tt) words
verb_share Generate words found = two_share generation (λ seed cells. generation_share (seed_in seed) (cells_in cells)) words

by_share : (verb : Option Verb) (words : List (List ℕ)) (found : List Row) → IfSome (option_and_then (λ v. command_by v words found) verb) HasShare
by_share None words found = tt
by_share (Some verb) words found = if_share (goes_with verb found) (command_for verb words found) None (verb_share verb words found) tt

named_share : (name : Option (List ℕ)) (words : List (List ℕ)) (found : List Row) → IfSome (option_and_then (λ n. command_named n words found) name) HasShare
named_share None words found = tt
named_share (Some name) words found = by_share (verb_named name) words found

pub command_share : (words : List (List ℕ)) → IfSome (command_of words) HasShare
unfolding command_of
command_share words =
    let found = matches_in words in
    if_share (takes words) (command_given found) None (named_share (first_of (codes "verb") found) (words_given found) found) tt
