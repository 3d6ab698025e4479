use Rattle.qss_run.proofs.ruled_run.write_run_by_rule.Goals as goal

pub returns-in-Floor : goal.returns-in-Floor
returns-in-Floor g c =
    let played = c.write_run_by.ensures in
    record { end = played.end; whole = played.whole; prefix = played.prefix; out_of_memory_prefix = played.short; no_new_fault = played.calm; fault_was_last = played.last }

pub returns-in-Near : goal.returns-in-Near
returns-in-Near g c =
    let played = c.write_run_by-in-Near.ensures in
    record { end = played.end; whole = played.whole; prefix = played.prefix; out_of_memory_prefix = played.short; no_new_fault = played.calm; fault_was_last = played.last }

pub returns-in-Inward : goal.returns-in-Inward
returns-in-Inward g c =
    let played = c.write_run_by-in-Inward.ensures in
    record { end = played.end; whole = played.whole; prefix = played.prefix; out_of_memory_prefix = played.short; no_new_fault = played.calm; fault_was_last = played.last }
