use Rattle.qss_answers.proofs.Common.{ℤ, ◌≡◌, ap, inr, refl, rules, subst}
use Rattle.std.proofs.Common.{FitsSigned, to_z-of_z}
use Rattle.std.specs.Int.{w128}
use Rattle.cert_check.specs.Inequalities.{System}
use Rattle.qss_machine.specs.Machines.{level_unit}
use Rattle.qss_trace.specs.CommonTicks.{IsGreatest}
use Rattle.qss_trace.specs.declared.trace_comparison.Greatest.TheVariants.{Found, Range}
use Rattle.qss_answers.specs.Comparisons.{comparison_text}
use Rattle.qss_answers.proofs.ComparisonEnds.{taken_so}
use Rattle.qss_answers.proofs.comparing.comparison_text.Goals as goal

pub returns-in-Range-clause-stopped : goal.returns-in-Range-clause-stopped
returns-in-Range-clause-stopped c =
    let form : FitsSigned w128 c.args.basis.c.now.cc = search rules in
    let level : FitsSigned w128 c.affine_system-unit.result.unit = search rules in
    let unit : c.affine_system-unit.result.unit ≡ level_unit c.args.basis.m.now = ap (λ (s : System). s.unit) c.affine_system-unit.ensures.system in
    let P : ℤ → Type 0 = λ k. IsGreatest c.args.basis.c.now.pm c.args.basis.c.now.cc k c.args.t1.now c.args.t2.now (Range c.in-Range.place1 c.in-Range.place2) in
    inr (c.in-Range.place1, c.in-Range.place2, subst P unit (rw c.as_matrix.ensures at (simp to_z-of_z at c.in-Range.ensures)), refl)

pub returns-in_err-found_text-in-Found-clause-memory : goal.returns-in_err-found_text-in-Found-clause-memory
returns-in_err-found_text-in-Found-clause-memory c =
    let form : FitsSigned w128 c.args.basis.c.now.cc = search rules in
    let level : FitsSigned w128 c.affine_system-unit.result.unit = search rules in
    let value : FitsSigned w128 c.in-Found.value = search rules in
    let bound : FitsSigned w128 c.in-Found.bound = search rules in
    let unit : c.affine_system-unit.result.unit ≡ level_unit c.args.basis.m.now = ap (λ (s : System). s.unit) c.affine_system-unit.ensures.system in
    let P : ℤ → Type 0 = λ k. IsGreatest c.args.basis.c.now.pm c.args.basis.c.now.cc k c.args.t1.now c.args.t2.now (Found c.in-Found.common c.in-Found.place1 c.in-Found.place2 c.in-Found.value c.in-Found.bound) in
    taken_so _ c.from_residual.result (
      comparison_text c.in-Found.common c.in-Found.place1 c.in-Found.place2 c.in-Found.value c.in-Found.bound,
      record {
        common = c.in-Found.common;
        place1 = c.in-Found.place1;
        place2 = c.in-Found.place2;
        value = c.in-Found.value;
        bound = c.in-Found.bound;
        found = subst P unit (rw c.as_matrix.ensures at (simp to_z-of_z at c.in-Found.ensures));
        told = refl;
      },
    )
