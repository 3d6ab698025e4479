use Rattle.std.proofs.Common.{◌≡◌, ◌∙◌, true, false, ap, ap₂, codes, Some, ◌∷◌, []}
use Rattle.std.proofs.lemmas.Result.{IfOk-weaker}
use Rattle.clap.specs.Words.{Rule, app_of, new_app, rule_of, with_rule}
use Rattle.clap.specs.Simple.{app_of_fields, on_top}
use Rattle.clap.specs.declared.builder.action.ArgAction.TheVariants.{Append}
use Rattle.clap.specs.declared.builder.arg.Arg.{Arg}
use Rattle.qss_cli.specs.CommandLine.{verb, words_behind, rule, option, bare_line}
use Rattle.qss_cli.proofs.arguments.define_arguments.Goals as goal

pub returns : goal.returns
returns c =
    let verb_is : rule_of c.required.result ≡ verb = ap rule_of c.required.ensures ∙ ap (λ (r : Rule). record r { required = true }) c.new-2.ensures.rule in
    let words_are : rule_of c.action.result ≡ words_behind = ap rule_of c.action.ensures ∙ ap (λ (r : Rule). record r { action = Some Append }) c.new-3.ensures.rule in
    let ruling : rule_of c.long.result ≡ option (codes "rule") = ap rule_of c.long.ensures ∙ ap (λ (r : Rule). record r { long = Some (codes "rule") }) c.new-4.ensures.rule in
    let rule_is : rule_of c.default_value.result ≡ rule = ap rule_of c.default_value.ensures ∙ ap (λ (r : Rule). record r { defaults = codes "floor" ∷ [] }) ruling in
    let only_is : rule_of c.long-2.result ≡ option (codes "only") = ap rule_of c.long-2.ensures ∙ ap (λ (r : Rule). record r { long = Some (codes "only") }) c.new-5.ensures.rule in
    let relative_is : rule_of c.long-3.result ≡ option (codes "relative") = ap rule_of c.long-3.ensures ∙ ap (λ (r : Rule). record r { long = Some (codes "relative") }) c.new-6.ensures.rule in
    let unnamed : app_of c.no_binary_name.result ≡ on_top (λ s. record s { no_binary_name = true }) (new_app (codes "qss")) =
    ap app_of_fields c.no_binary_name.ensures ∙ ap (on_top (λ s. record s { no_binary_name = true })) c.new.ensures.app in
    let unhelpful : app_of c.disable_help_flag.result ≡ on_top (λ s. record s { no_binary_name = true; disable_help_flag = true }) (new_app (codes "qss")) =
    ap app_of_fields c.disable_help_flag.ensures ∙ ap (on_top (λ s. record s { disable_help_flag = true })) unnamed in
    let bare : app_of c.disable_version_flag.result ≡ bare_line =
    ap app_of_fields c.disable_version_flag.ensures ∙ ap (on_top (λ s. record s { disable_version_flag = true })) unhelpful in
    let verb_own : c.required.result.global ≡ false = ap (λ (a : Arg). a.global) c.required.ensures ∙ c.new-2.ensures.optional.1 in
    let words_own : c.action.result.global ≡ false = ap (λ (a : Arg). a.global) c.action.ensures ∙ c.new-3.ensures.optional.1 in
    let rule_own : c.default_value.result.global ≡ false =
    ap (λ (a : Arg). a.global) c.default_value.ensures ∙ ap (λ (a : Arg). a.global) c.long.ensures ∙ c.new-4.ensures.optional.1 in
    let only_own : c.long-2.result.global ≡ false = ap (λ (a : Arg). a.global) c.long-2.ensures ∙ c.new-5.ensures.optional.1 in
    let relative_own : c.long-3.result.global ≡ false = ap (λ (a : Arg). a.global) c.long-3.ensures ∙ c.new-6.ensures.optional.1 in
    let with_verb = c.in_ok-arg.ensures.shape verb_own ∙ ap₂ with_rule bare verb_is in
    let with_words = c.in_ok-arg-2.ensures.shape words_own ∙ ap₂ with_rule with_verb words_are in
    let with_rules = c.in_ok-arg-3.ensures.shape rule_own ∙ ap₂ with_rule with_words rule_is in
    let with_only = c.in_ok-arg-4.ensures.shape only_own ∙ ap₂ with_rule with_rules only_is in
    IfOk-weaker c.arg-5.result _ _ (λ line h. h.shape relative_own ∙ ap₂ with_rule with_only relative_is) c.arg-5.ensures
