use Rattle.mu_names.proofs.Common.{◌∙◌, entry_at, fun_ext, Some, sym}
use Rattle.std.proofs.lemmas.Map.Text.{btree_map_updates_str}
use Rattle.mu_names.proofs.TableLemmas.{update_added}
use Rattle.mu_names.proofs.name_table.add.Goals as goal

pub returns-in_ok-insert-in-None : goal.returns-in_ok-insert-in-None
returns-in_ok-insert-in-None g c =
    fun_ext (λ q.
    btree_map_updates_str c.args.name.now c.args.table.now c.insert.new.self (Some c.args.value) c.in_ok-insert-in-None.ensures.updates q
    ∙ update_added (entry_at c.args.table.now) c.args.name.now q c.args.value (sym c.find.ensures ∙ c.in-None.is))
