use Rattle.qss_compile.proofs.Common.{◌++◌, ◌≡◌, field_text, map, take}
use Rattle.qss_compile.specs.RefusalLines.{fields_text}
use Rattle.qss_compile.proofs.model_refusal.append_spaced_fields.Given as goal

-- the fields so far
abbrev pub invariant-loop-field : goal.invariant-loop-field
invariant-loop-field l = l.line.items ≡ l.initial.line.items ++ fields_text (map (field_text l.names) (take l.field-index l.fields))
