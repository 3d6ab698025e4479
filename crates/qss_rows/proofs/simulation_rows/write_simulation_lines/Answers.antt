use Rattle.qss_rows.proofs.Common
use Common.{ℕ, ◌++◌, ◌∙◌, ◌≡◌, ap, append_assoc, Appends-trans, drop, Err, IsWriting, List, None}
use Common.{refl, result_err, rules, subst, sym, take}
use Rattle.std.proofs.lemmas.List.{take-append-drop, take_rest}
use Rattle.qss_rows.proofs.WrittenLines.{writes_later, part_stops}
use Rattle.qss_rows.proofs.simulation_rows.write_simulation_lines.Goals as goal

pub loop-preserved : goal.loop-preserved
loop-preserved g c =
    let before = c.loop.invariant.done in
    let n = c.first_simulation_lines_length-length.result in
    let rest = c.loop.rest.now in
    let w = c.in_ok-write_simulation_bytes.ensures.written in
    record {
      done = (
        before.0 ++ take n rest,
        (
          ap (λ (l : List ℕ). (before.0 ++ take n rest) ++ l) (take_rest rest n) ∙ (append_assoc before.0 (take n rest) (drop n rest) ∙ (ap (λ (l : List ℕ). before.0 ++ l) (take-append-drop n rest) ∙ before.1.0)),
          Appends-trans (g.O.Sink.written c.args.out.now) (g.O.Sink.written c.loop.out) (g.O.Sink.written c.write_simulation_bytes.new.out) before.0 (take n rest) before.1.1 (w.whole (refl {a = None})),
        ),
      );
      calm = w.calm (λ e. absurd (cc)) ∙ c.loop.invariant.calm;
    }

pub returns-in_err-write_simulation_bytes-clause-written : goal.returns-in_err-write_simulation_bytes-clause-written
returns-in_err-write_simulation_bytes-clause-written g c =
    let given : c.from_residual.result ≡ Err c.in_err-write_simulation_bytes.field-0.0 = search rules in
    let before = c.loop.invariant.done in
    let n = c.first_simulation_lines_length-length.result in
    let rest = c.loop.rest.now in
    subst (λ r. IsWriting (λ k. g.O.Sink.written k) (λ k. g.O.Sink.faults k) (λ k. g.O.Sink.failed k) (result_err r) c.args.out.now c.write_simulation_bytes.new.out c.args.lines.now) (sym given)
    (part_stops (λ k. g.O.Sink.written k) (λ k. g.O.Sink.faults k) (λ k. g.O.Sink.failed k) c.in_err-write_simulation_bytes.field-0.0 c.args.out.now c.loop.out c.write_simulation_bytes.new.out
    before.0 (take n rest) (drop n rest) c.args.lines.now (ap (λ (l : List ℕ). before.0 ++ l) (take-append-drop n rest) ∙ before.1.0) before.1.1 c.loop.invariant.calm
    c.in_err-write_simulation_bytes.ensures.written)

pub returns-clause-written : goal.returns-clause-written
returns-clause-written g c =
    let before = c.loop.invariant.done in
    let result = c.write_simulation_bytes-2.result in
    subst (IsWriting (λ k. g.O.Sink.written k) (λ k. g.O.Sink.faults k) (λ k. g.O.Sink.failed k) (result_err result) c.args.out.now c.write_simulation_bytes-2.new.out) before.1.0
    (writes_later (λ k. g.O.Sink.written k) (λ k. g.O.Sink.faults k) (λ k. g.O.Sink.failed k) (result_err result) c.args.out.now c.loop.out c.write_simulation_bytes-2.new.out
    before.0 c.loop.rest.now before.1.1 c.loop.invariant.calm c.write_simulation_bytes-2.ensures.written)
