-- The scope of a model: the roles and values of its names and its settings, or its faults.
use Rattle.std.specs.Prelude.{ℕ, pos, Bool, nat_eq, bytes_eq, if◌then◌else◌, List, [], ◌∷◌, ◌++◌, Option, Some, None, unwrap_or}
use Rattle.std.specs.List.{list_any}
use Rattle.mu_num.specs.Fraction.{Fraction, whole}
use Rattle.mu_tree.specs.declared.tree.SettingName.{SettingName}
use Rattle.mu_tree.specs.declared.tree.SettingName.TheVariants as setting
use Rattle.mu_tree.specs.declared.flat.Settings.{Settings}
use Rattle.mu_tree.specs.ModelTree.{Declaration, Setting, ModelTree, equations_of, statements_of, clauses_of}
use Rattle.mu_names.specs.declared.name_fault.NameErr.{NameErr}
use Rattle.mu_names.specs.declared.name_fault.NameErr.TheVariants.{EndName, Duplicate, Memory}
use Rattle.mu_names.specs.declared.constant_values.Meaning.{Meaning}
use Rattle.mu_names.specs.declared.name_kind.Role.{Role}
use Rattle.mu_names.specs.declared.name_kind.Role.TheVariants.{State, Discrete, Algebraic, Parameter}
use Rattle.mu_names.specs.declared.name_kind.NameKind.{NameKind}
use Rattle.mu_names.specs.declared.declared_scope.Known.{Known}
use Rattle.mu_names.specs.declared.declared_scope.Scope.{Scope}
use Rattle.mu_names.specs.declared.declared_scope.DeclarationValues.{DeclarationValues}
use Rattle.mu_names.specs.Constant.{value, faults}
use Rattle.mu_names.specs.LeastFaults.{IsLeastFault}
use Rattle.mu_names.specs.DeclaredRoles.{derived_in, declared_in, role_of}
use Rattle.mu_names.specs.DeclarationFaults.{no_constants, meaning_after, constants_after, all_valued, declarations_faults, repeated_faults}
use Rattle.mu_names.specs.Naming.{starts_faults, equations_faults, clauses_faults}

-- the index of a setting among the six
abbrev pub setting_number : SettingName → ℕ
setting_number setting.StartTime = 0
setting_number setting.StopTime = 1
setting_number setting.CoefBits = 2
setting_number setting.TickBits = 3
setting_number setting.LevelBits = 4
setting_number setting.Quantum = 5

-- a setting is in the list
abbrev pub is_set : List Setting → SettingName → Bool
is_set before which = list_any (λ (s : Setting). nat_eq (setting_number s.which) (setting_number which)) before

-- the faults of settings, where `before` lists the settings already written
abbrev pub settings_faults : (List ℕ → Meaning) → List Setting → List Setting → List NameErr
settings_faults means before [] = []
settings_faults means before (s ∷ ss) =
    (if is_set before s.which then Duplicate s.at ∷ [] else [])
    ++ (faults means s.value ++ settings_faults means (before ++ s ∷ []) ss)

-- the settings with one value replaced
abbrev pub with_setting : Settings → SettingName → Option Fraction → Settings
with_setting s which None = s
with_setting s setting.StartTime (Some v) = record s { start = v }
with_setting s setting.StopTime (Some v) = record s { stop = v }
with_setting s setting.CoefBits (Some v) = record s { coef_bits = v }
with_setting s setting.TickBits (Some v) = record s { tick_bits = v }
with_setting s setting.LevelBits (Some v) = record s { level_bits = v }
with_setting s setting.Quantum (Some v) = record s { quantum = v }

-- the default settings: 0 to 1 second, 24, 10 and 16 bits, and a quantum of 1/1024
abbrev pub default_settings : Settings
default_settings = record {
  start = whole (pos 0);
  stop = whole (pos 1);
  coef_bits = whole (pos 24);
  tick_bits = whole (pos 10);
  level_bits = whole (pos 16);
  quantum = record { num = pos 1; den = 1024 };
}

-- settings overridden by written ones
abbrev pub settings_from : (List ℕ → Meaning) → Settings → List Setting → Settings
settings_from means s [] = s
settings_from means s (x ∷ xs) = settings_from means (with_setting s x.which (value means x.value)) xs

-- the value of a parameter, and 0 for all other roles
abbrev pub role_value : Role → Option Fraction → Fraction
role_value Parameter v = unwrap_or v (whole (pos 0))
role_value State v = whole (pos 0)
role_value Discrete v = whole (pos 0)
role_value Algebraic v = whole (pos 0)

-- the properties of a declared name; `quantum` is the model's quantum
abbrev pub known_as : Fraction → Role → Declaration → DeclarationValues → Known
known_as quantum role d v = record {
  name = d.name;
  role = role;
  size = v.size;
  value = role_value role v.value;
  start = unwrap_or v.start (whole (pos 0));
  quantum = unwrap_or v.quantum quantum;
  at = d.at;
}

-- the properties of the declared names, in source order
abbrev pub all_known : Fraction → List (List ℕ) → List Declaration → List DeclarationValues → List Known
all_known quantum ders [] vs = []
all_known quantum ders (d ∷ ds) [] = []
all_known quantum ders (d ∷ ds) (v ∷ vs) = known_as quantum (role_of ders d) d v ∷ all_known quantum ders ds vs

-- what names denote in the settings of a model
abbrev pub meaning_in : ModelTree → List ℕ → Meaning
meaning_in m = meaning_after (constants_after (declared_in m) no_constants m.decls) (declared_in m)

-- all faults of a model
abbrev pub model_faults : ModelTree → List NameErr
model_faults m =
    (if bytes_eq m.name m.end_name then [] else EndName m.end_at ∷ [])
    ++ (repeated_faults (derived_in m) [] m.decls
    ++ (declarations_faults (declared_in m) no_constants m.decls
    ++ (settings_faults (meaning_in m) [] m.settings
    ++ (starts_faults (declared_in m) [] (statements_of m.starts)
    ++ (equations_faults (declared_in m) [] (equations_of m.equations)
    ++ clauses_faults (declared_in m) [] (clauses_of m.clauses))))))

-- the settings of a model
abbrev pub settings_in : ModelTree → Settings
settings_in m = settings_from (meaning_in m) default_settings m.settings

-- the scope of a model: each declared name with its role, size and values, and the settings
abbrev pub scope_of : ModelTree → Scope
scope_of m = record {
  known = all_known (settings_in m).quantum (derived_in m) m.decls (all_valued (declared_in m) no_constants m.decls);
  settings = settings_in m;
}

-- the reported fault of a rejected model: the one with the least offset and then the least number,
-- or out of memory
abbrev pub IsRefusal : ModelTree → NameErr → Type 0
IsRefusal m Memory = Unit {0}
IsRefusal m fault = IsLeastFault (model_faults m) fault
