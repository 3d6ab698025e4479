-- One more input.
use Rattle.qss_devs.proofs.Common
use Common.{[], ◌++◌, ◌+◌, ◌<◌, ◌∙◌, ◌∷◌, ap, arith, discrete_count, Entry, first_input, get_or}
use Common.{Input, length, List, map, pos, start_values, state_count, subst, sym, take, take_all}
use Rattle.std.proofs.lemmas.List.{map-append, take_more}
use Rattle.qss_devs.proofs.coupled_start.start_inputs.Goals as goal

abbrev none : Entry
none = record { var = 0; coef = pos 0 }

pub start_entry_at-entry-requires : goal.start_entry_at-entry-requires
start_entry_at-entry-requires c = omega (arith, c.loop-k-test.true, ap length c.as_slice-count.ensures)

pub start_input-input-requires-clause-known : goal.start_input-input-requires-clause-known
start_input-input-requires-clause-known c =
    let m = c.args.m.now in
    let entries : List Entry = c.args.condition.now.form.entries in
    let h : c.loop-k.k < length entries = omega (arith, c.loop-k-test.true, ap length c.as_slice-count.ensures) in
    subst (λ (e : Entry). e.var < state_count m + discrete_count m + discrete_count m) (sym c.start_entry_at-entry.ensures) (c.requires.form.entries.known c.loop-k.k none h)

pub loop-k-preserved : goal.loop-k-preserved
loop-k-preserved c =
    let m = c.args.m.now in
    let k = c.loop-k.k in
    let inv = c.loop-k.invariant in
    let entries : List Entry = c.args.condition.now.form.entries in
    let h : k < length entries = omega (arith, c.loop-k-test.true, ap length c.as_slice-count.ensures) in
    record {
      so_far = c.push_reserved.ensures.items
          ∙ ap (λ (i : Input). c.loop-k.inputs.items ++ i ∷ []) (c.start_input-input.ensures ∙ ap (first_input m (start_values m)) c.start_entry_at-entry.ensures)
          ∙ ap (λ (xs : List Input). xs ++ first_input m (start_values m) (get_or entries k none) ∷ []) inv.so_far
          ∙ sym (map-append (first_input m (start_values m)) (take k entries) (get_or entries k none ∷ []))
          ∙ sym (ap (map (first_input m (start_values m))) (take_more entries k none h));
      as_many = omega (arith, c.push_reserved.ensures.len, inv.as_many);
      room = omega (arith, c.push_reserved.ensures.capacity, inv.room);
    }

pub returns : goal.returns
returns c =
    let m = c.args.m.now in
    let entries : List Entry = c.args.condition.now.form.entries in
    c.loop-k.invariant.so_far ∙ ap (map (first_input m (start_values m))) (take_all c.loop-k.k entries (omega (arith, c.loop-k-test.false, ap length c.as_slice-count.ensures)))
