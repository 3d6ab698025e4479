-- The trace keeps its limits.
use Rattle.qss_own_traces.proofs.Common
use Common.{ℕ, ℤ, ◌∙◌, ◌≡◌, ap, ArePlaces, AreQuanta, arith, IsSize, length, List, quanta}
use Common.{state_count, subst, sym}
use Rattle.qss_own_traces.proofs.Listed.{quanta-sound}
use Rattle.qss_own_traces.proofs.own_trace_draft.Draft.finish.Goals as goal

pub invariant_of-result : goal.invariant_of-result
invariant_of-result c =
    let m = c.args.m.now in
    let d = c.args.self in
    let count : state_count m ≡ length c.as_slice.result.now = ap length (sym c.as_slice.ensures) in
    let q : quanta m ≡ c.new.result = sym (c.new.ensures ∙ c.in_ok-q.ensures) in
    record {
      has_size = subst IsSize count c.requires.size;
      has_scale = c.requires.scale;
      has_refine = record { some = omega arith; few = omega arith };
      has_quanta = subst (λ (n : ℕ). AreQuanta n c.new.result) count
          (subst (AreQuanta (state_count m)) q (quanta-sound m));
      has_places = subst (λ (n : ℕ). ArePlaces n c.new-2.result c.new-3.result) count
          (subst (λ (xs : List ℤ). ArePlaces (state_count m) xs c.new-3.result) (sym c.new-2.ensures)
          (subst (λ (ms : List ℤ). ArePlaces (state_count m) d.states.items ms) (sym c.new-3.ensures) c.requires.places));
    }
