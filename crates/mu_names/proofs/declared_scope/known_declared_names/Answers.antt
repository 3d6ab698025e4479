use Rattle.mu_names.proofs.Common
use Common.{[], ◌++◌, ◌+◌, ◌<◌, ◌∙◌, ◌∷◌, ◌≡◌, all_known, ap, append_assoc, arith, Declaration}
use Common.{declaration, derived_in, drop, get_or, length, map, model, role_by, role_of, sym}
use Rattle.std.proofs.lemmas.List.{length-map}
use Rattle.mu_names.specs.Roles.{known_as}
use Rattle.mu_names.proofs.Shapes.{declarations_from}
use Rattle.mu_names.proofs.TableLemmas.{drop_at}
use Rattle.mu_names.proofs.declared_scope.known_declared_names.Goals as goal

pub loop-place-preserved : goal.loop-place-preserved
loop-place-preserved c =
    let ders = derived_in (model c.args.m.now) in
    let items = c.args.m.now.decls.items in
    let i = c.loop-place.place in
    let d = c.d-item.result in
    let v = c.index-values-place.result in
    let q = c.args.quantum in
    let one : Declaration = declaration d in
    let there : i < length items = rw c.deref-d-items.ensures.value at c.loop-place-test.true in
    let is : d ≡ get_or items i d = rw c.deref-d-items.ensures.value at c.d-item.is in
    let all : length (map declaration items) ≡ length items = length-map items declaration in
    let within : i < length c.args.values.now = omega (arith, c.requires.same) in
    let left = map declaration (drop (i + 1) items) in
    let rest : map declaration (drop i items) ≡ one ∷ left = declarations_from items i d there is in
    let values : drop i c.args.values.now ≡ v ∷ drop (i + 1) c.args.values.now = drop_at c.args.values.now i v within c.index-values-place.is in
    let entry : c.in_ok-known_declared_name.field-0 ≡ known_as q (role_of ders one) one v = c.in_ok-known_declared_name.ensures ∙ ap (λ f. known_as q (role_by d.prefix (f d.name)) one v) c.requires.derived in
    ap (λ xs. xs ++ all_known q ders left (drop (i + 1) c.args.values.now)) c.in_ok-push.ensures.items
    ∙ append_assoc c.loop-place.known.items (c.in_ok-known_declared_name.field-0 ∷ []) (all_known q ders left (drop (i + 1) c.args.values.now))
    ∙ ap (λ k. c.loop-place.known.items ++ k ∷ all_known q ders left (drop (i + 1) c.args.values.now)) entry
    ∙ sym (ap (λ ds. c.loop-place.known.items ++ all_known q ders ds (v ∷ drop (i + 1) c.args.values.now)) rest)
    ∙ sym (ap (λ vs. c.loop-place.known.items ++ all_known q ders (map declaration (drop i items)) vs) values)
    ∙ c.loop-place.invariant
