use Rattle.qss_compile.proofs.Common.{◌≡◌, map, take}
use Rattle.qss_compile.proofs.compiler.compiled_variable_names.Given as goal

-- the names so far
abbrev pub invariant-loop-one : goal.invariant-loop-one
invariant-loop-one l = l.names.items ≡ map (λ v. v.name) (take l.one-index l.vars)
