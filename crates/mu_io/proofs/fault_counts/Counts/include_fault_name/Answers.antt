use Rattle.mu_io.proofs.Common.{◌∙◌, sym}
use Rattle.mu_io.proofs.Entries.{found_some, count_of-push, is_counted-push, is_counted-push_other}
use Rattle.mu_io.proofs.fault_counts.Counts.include_fault_name.Goals as goal

pub returns-then-is_some-clause-counted : goal.returns-then-is_some-clause-counted
returns-then-is_some-clause-counted c =
    found_some _ c.args.name.now _ (rw (c.deref.ensures.value, c.self.view_is) at c.find_name_index.ensures) (sym c.is_some.ensures ∙ c.if-is_some.true)

pub returns-clause-counted : goal.returns-clause-counted
returns-clause-counted c = rw (c.in_ok-push.ensures.items, c.in_ok-name.ensures) (is_counted-push c.self.inside.entries.items c.args.name.now)

pub returns-clause-same : goal.returns-clause-same
returns-clause-same c other = rw (c.in_ok-push.ensures.items, ← c.self.view_is) (count_of-push c.self.inside.entries.items c.in_ok-name.name other)

pub returns-clause-kept : goal.returns-clause-kept
returns-clause-kept c other counted = rw (c.in_ok-push.ensures.items) (is_counted-push_other c.self.inside.entries.items c.in_ok-name.name other (rw c.self.view_is counted))
