use Rattle.mu_io.proofs.Common.{set}
use Rattle.mu_io.proofs.Entries.{Raises, raises, is_found}
use Rattle.mu_io.proofs.fault_counts.Counts.raise_fault_count.Goals as goal

at_some : (c : goal.After-self-1) → Raises c.self.inside.entries.items c.args.name.now (set c.self.inside.entries.items c.in-Some.i (c.index_mut.result.now.0, c.count_further_fault.result))
at_some c =
    raises c.self.inside.entries.items c.args.name.now c.in-Some.i c.count_further_fault.result c.index.result.now c.index_mut.result.now c.find_name_index.result
    (rw c.deref.ensures.value at c.find_name_index.ensures) c.in-Some.is c.index.ensures c.index_mut.ensures.value c.count_further_fault.ensures.counts_never_fall c.count_further_fault.ensures.rose

pub returns-in-Some-clause-raised : goal.returns-in-Some-clause-raised
returns-in-Some-clause-raised c = rw (← c.self.view_is) ((at_some c).raised)

pub returns-in-Some-clause-only : goal.returns-in-Some-clause-only
returns-in-Some-clause-only c = rw (← c.self.view_is) ((at_some c).only)

pub returns-in-Some-clause-kept : goal.returns-in-Some-clause-kept
returns-in-Some-clause-kept c = rw (← c.self.view_is) ((at_some c).kept)

pub returns-in_default-clause-raised : goal.returns-in_default-clause-raised
returns-in_default-clause-raised c =
    absurd (is_found _ c.args.name.now _ (rw (c.deref.ensures.value, c.self.view_is) at c.find_name_index.ensures) c.requires c.in_default.not-Some)
