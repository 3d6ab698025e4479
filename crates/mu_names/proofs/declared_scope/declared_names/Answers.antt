use Rattle.mu_names.proofs.Common
use Common.{[], ℕ, ◌++◌, ◌+◌, ◌<◌, ◌∙◌, ◌∷◌, ◌≡◌, added_at, ap, Declaration, declaration}
use Common.{declared_by, derived_in, drop, expression, first_declared, get_or, is_some, least_of}
use Common.{length, List, map, model, NameKind, Option, repeated_faults, role_by, role_of, sym}
use Common.{take}
use Rattle.std.specs.Prelude.{unwrap_or}
use Rattle.std.proofs.lemmas.List.{take_all}
use Rattle.mu_names.specs.declared.name_kind.NameKind.TheVariants.{Declared, Missing}
use Rattle.mu_names.specs.Naming.{taken_faults}
use Rattle.mu_names.specs.DeclaredRoles.{declared_as}
use Rattle.mu_names.proofs.LeastLemmas.{noted_first}
use Rattle.mu_names.proofs.Shapes.{declarations_from, declarations_so_far}
use Rattle.mu_names.proofs.TableLemmas.{first_declared-push, is_some-option_map}
use Rattle.mu_names.proofs.declared_scope.declared_names.Goals as goal

pub loop-d-preserved : goal.loop-d-preserved
loop-d-preserved c =
    let ders = derived_in (model c.args.m.now) in
    let items = c.args.m.now.decls.items in
    let i = c.loop-d.d-index in
    let d = c.d-item.result in
    let one : Declaration = declaration d in
    let there : i < length items = rw c.deref-d-items.ensures.value at c.loop-d-test.true in
    let is : d ≡ get_or items i d = rw c.deref-d-items.ensures.value at c.d-item.is in
    let so_far : map declaration (take (i + 1) items) ≡ map declaration (take i items) ++ one ∷ [] = declarations_so_far items i d there is in
    let rest = declarations_from items i d there is in
    let role : c.declared_role.result ≡ role_of ders one = c.declared_role.ensures ∙ ap (λ f. role_by d.prefix (f d.name)) c.requires in
    let some : c.is_some.result ≡ is_some one.size = c.is_some.ensures ∙ sym (is_some-option_map expression d.size) in
    let by : Declared c.declared_role.result c.is_some.result ≡ declared_by ders one = ap (λ r. Declared r c.is_some.result) role ∙ ap (Declared (role_of ders one)) some in
    let stands : c.check_declared_standing.result ≡ declared_as ders (map declaration (take i items)) d.name =
    c.check_declared_standing.ensures
    ∙ ap (λ (f : List ℕ → Option NameKind). unwrap_or (f c.bytes-name.result.now) Missing) c.loop-d.invariant.table
    ∙ ap (declared_as ders (map declaration (take i items))) c.bytes-name.ensures in
    record {
      table = c.in_ok-add.ensures
          ∙ ap (λ (f : List ℕ → Option NameKind). added_at f c.bytes-name.result.now (Declared c.declared_role.result c.is_some.result)) c.loop-d.invariant.table
          ∙ ap (λ n. added_at (first_declared ders (map declaration (take i items))) n (Declared c.declared_role.result c.is_some.result)) c.bytes-name.ensures
          ∙ ap (added_at (first_declared ders (map declaration (take i items))) d.name) by
          ∙ first_declared-push ders (map declaration (take i items)) one
          ∙ ap (first_declared ders) (sym so_far);
      faults = ap (λ ys. least_of c.check_name_taken.new.least (repeated_faults ders ys (map declaration (drop (i + 1) items)))) so_far
          ∙ noted_first _ _
          (taken_faults d.at (declared_as ders (map declaration (take i items)) d.name))
          (repeated_faults ders (map declaration (take i items) ++ one ∷ []) (map declaration (drop (i + 1) items)))
          (repeated_faults ders (map declaration (take i items)) (map declaration (drop i items)))
          (c.check_name_taken.ensures ∙ ap (λ s. least_of c.loop-d.least (taken_faults d.at s)) stands)
          (ap (repeated_faults ders (map declaration (take i items))) rest)
          ∙ c.loop-d.invariant.faults;
    }

pub returns-clause-table : goal.returns-clause-table
returns-clause-table c =
    let all : take c.loop-d.d-index c.args.m.now.decls.items ≡ c.args.m.now.decls.items = take_all c.loop-d.d-index c.args.m.now.decls.items (rw c.deref-d-items.ensures.value at c.loop-d-test.false) in
    let standing_by : (List ℕ → Option NameKind) → List ℕ → NameKind = λ f name. unwrap_or (f name) Missing in
    ap standing_by c.loop-d.invariant.table ∙ ap (λ ds. declared_as (derived_in (model c.args.m.now)) (map declaration ds)) all
