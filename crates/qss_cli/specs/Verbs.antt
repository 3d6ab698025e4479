-- The verbs, and the options that each verb allows.
use Rattle.std.specs.Prelude.{Bool, true, ◌||◌, not, ℕ, List, bytes_eq, codes, Option, Some, None, if◌then◌else◌}
use Rattle.clap.specs.Words.{Row}
use Rattle.clap.specs.Takes.{is_given}
use Rattle.qss_cli.specs.declared.verb.Verb.{Verb}
use Rattle.qss_cli.specs.declared.verb.Verb.TheVariants.{Run, Print, Certify, Upgrade, Generate, Check, Propose, Second, Compare, Devs}

-- the verb of this name
abbrev pub verb_named : List ℕ → Option Verb
verb_named name =
    if bytes_eq name (codes "run") then Some Run
    else (if bytes_eq name (codes "print") then Some Print
    else (if bytes_eq name (codes "certify") then Some Certify
    else (if bytes_eq name (codes "upgrade") then Some Upgrade
    else (if bytes_eq name (codes "gen") then Some Generate
    else (if bytes_eq name (codes "check") then Some Check
    else (if bytes_eq name (codes "propose") then Some Propose
    else (if bytes_eq name (codes "run2") then Some Second
    else (if bytes_eq name (codes "compare") then Some Compare
    else (if bytes_eq name (codes "devs") then Some Devs else None)))))))))

-- whether an option was written that only `run` allows
abbrev pub has_run_options : List Row → Bool
has_run_options found = is_given (codes "rule") found || is_given (codes "only") found

-- whether no option was written
abbrev pub is_bare : List Row → Bool
is_bare found = not (has_run_options found || is_given (codes "relative") found)

-- whether the verb allows all written options: `run` allows each, `certify` only `--relative`, and
-- other verbs none
abbrev pub goes_with : Verb → List Row → Bool
goes_with Run found = true
goes_with Certify found = not (has_run_options found)
goes_with _ found = is_bare found
