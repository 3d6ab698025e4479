use Rattle.mu_names.proofs.Common
use Common.{[], ℕ, ◌||◌, ◌∙◌, ◌∷◌, ◌≡◌, ap, entry_at, equation, is_among, is_entry, is_some, List}
use Common.{on_ok_weaker, Option, sym}
use Rattle.mu_names.specs.DeclaredRoles.{derived}
use Rattle.mu_tree.proofs.Nesting.{equation-Der}
use Rattle.mu_names.proofs.TableLemmas.{entry_added, name_of-reference}
use Rattle.mu_names.proofs.declared_scope.+deriving.Goals as goal

pub add_derived_name-returns-in-Der : goal.add_derived_name-returns-in-Der
add_derived_name-returns-in-Der t c =
    let one : c.bytes.result.now ∷ [] ≡ derived (equation c.args.one.now) =
    ap (λ n. n ∷ []) (c.bytes.ensures ∙ sym (name_of-reference c.in-Der.target)) ∙ sym (ap derived (ap equation c.in-Der.is ∙ equation-Der c.in-Der.target c.in-Der.value)) in
    on_ok_weaker c.add.result
    (λ added q.
    ap (λ (f : List ℕ → Option (Unit {0})). is_some (f q)) added
    ∙ entry_added (entry_at c.args.names.now) c.bytes.result.now q tt
    ∙ ap (λ names. is_entry c.args.names.now q || is_among names q) one)
    c.add.ensures
