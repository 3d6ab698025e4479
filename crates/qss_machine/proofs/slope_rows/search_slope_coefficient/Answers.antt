-- The closure gives an entry's variable.
use Rattle.qss_machine.proofs.Common.{arith, Entry, Err, Ok, pos, rules, sym, to_z-of_z}
use Rattle.std.proofs.lemmas.List.Sorted.{answers_always}
use Rattle.qss_machine.proofs.Halving.{searched}
use Rattle.qss_machine.proofs.slope_rows.search_slope_coefficient.Goals as goal

pub returns-in-Ok : goal.returns-in-Ok
returns-in-Ok c =
    let facts = c.in-Ok.ensures in
    let by_variable = facts.position (λ (entry : Entry). entry.var) (answers_always _ _ _ (λ f a r g called. search rules)) in
    let found = searched c.args.entries.now c.requires.rising c.args.var (Ok c.in-Ok.place) facts.bound by_variable in
    grind (arith, to_z-of_z, found (record { var = 0; coef = pos 0 }))

pub returns-in-Err : goal.returns-in-Err
returns-in-Err c =
    let facts = c.in-Err.ensures in
    let by_variable = facts.position (λ (entry : Entry). entry.var) (answers_always _ _ _ (λ f a r g called. search rules)) in
    sym (searched c.args.entries.now c.requires.rising c.args.var (Err c.in-Err.field-0) facts.bound by_variable)
