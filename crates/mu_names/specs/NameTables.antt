-- Symbol tables: the entries of names.
use Rattle.std.specs.Prelude.{ℕ, List, Option, Some, None, bytes_eq, if◌then◌else◌, unwrap_or, Bool, is_some}
use Rattle.std.specs.Cmp.Lexicographic.{slice_cmp}
use Rattle.std.specs.Option.{option_or}
use Rattle.std.specs.Ordering.{nat_cmp}
use Rattle.std.specs.BTreeMap.{BTreeMap, get_by}
use denote.Ref.{Bor}
use Rattle.mu_names.specs.declared.name_kind.NameKind.{NameKind}
use Rattle.mu_names.specs.declared.name_kind.NameKind.TheVariants.{Missing}

-- the entry of a name
abbrev pub entry_at : {X : Type 0} → BTreeMap (Bor (List ℕ)) X → List ℕ → Option X
entry_at table name = get_by (λ k. slice_cmp nat_cmp name k.now) table

-- the entries after adding a name; an existing entry is unchanged
abbrev pub added_at : {X : Type 0} → (List ℕ → Option X) → List ℕ → X → List ℕ → Option X
added_at old name value q = option_or (old q) (if bytes_eq name q then Some value else None)

-- what a name is by a table of declared names, or Missing
abbrev pub name_kind_at : BTreeMap (Bor (List ℕ)) NameKind → List ℕ → NameKind
name_kind_at table name = unwrap_or (entry_at table name) Missing

-- the table has an entry for the name
abbrev pub is_entry : {X : Type 0} → BTreeMap (Bor (List ℕ)) X → List ℕ → Bool
is_entry table name = is_some (entry_at table name)
