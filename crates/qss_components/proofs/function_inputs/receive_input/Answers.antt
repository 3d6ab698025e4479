-- A level or a discrete value is set.
use Rattle.qss_components.proofs.Common
use Common.{ℕ, ℤ, ◌&&◌, ◌==◌, ◌∙◌, ◌≡◌, arith, Discrete, FitsSigned, if◌then◌else◌, input_discretes}
use Common.{input_levels, input_value, ints, IsMessage, Level, row_at, row_reads, subst, to_z-of_z}
use Common.{w128, w64}
use Rattle.qss_components.proofs.FunctionsTold.{level_told, discretes_keep, discrete_told}
use Rattle.qss_components.proofs.FunctionsTold.{levels_keep}
use Rattle.qss_components.proofs.InputValues.{levels_set, levels_kept, discretes_set}
use Rattle.qss_components.proofs.InputValues.{discretes_kept}
use Rattle.qss_components.proofs.function_inputs.receive_input.Goals as goal

pub overflow_cast-level : goal.overflow_cast-level
overflow_cast-level c =
    let m = c.args.m.now in
    let own : IsMessage m (Level c.in-Level.var c.in-Level.level) = subst (IsMessage m)
    c.in-Level.is c.requires.message in
    let of_wide : FitsSigned w128 c.in-Level.level = omega (arith, ints, own.1) in
    let of_level : FitsSigned w64 c.in-Level.level = omega (arith, ints, own.1) in
    simp to_z-of_z of_level

pub set_input_value-requires-clause-value : goal.set_input_value-requires-clause-value
set_input_value-requires-clause-value c =
    let m = c.args.m.now in
    let own : IsMessage m (Level c.in-Level.var c.in-Level.level) = subst (IsMessage m)
    c.in-Level.is c.requires.message in
    let of_wide : FitsSigned w128 c.in-Level.level = omega (arith, ints, own.1) in
    let of_level : FitsSigned w64 c.in-Level.level = omega (arith, ints, own.1) in
    simp to_z-of_z own.1

pub returns-in-Level-clause-levels : goal.returns-in-Level-clause-levels
returns-in-Level-clause-levels c =
    let m = c.args.m.now in
    let old = c.args.inputs.now in
    let new = c.set_input_value.new.inputs in
    let var : ℕ = c.in-Level.var in
    let level : ℤ = c.in-Level.level in
    let own : IsMessage m (Level var level) = subst (IsMessage m) c.in-Level.is c.requires.message
    in
    let of_wide : FitsSigned w128 level = omega (arith, ints, own.1) in
    let of_level : FitsSigned w64 level = omega (arith, ints, own.1) in
    let same : (i : ℕ) → input_value new i ≡ (if row_reads var (row_at m c.args.row) && i == var
    then level else input_value old i) =
    λ i. simp to_z-of_z at (c.set_input_value.ensures.values i) in
    levels_set m c.args.row old new var level same own.0 ∙ level_told m c.args.row
    (input_levels m old) c.args.msg var level c.in-Level.is

pub returns-in-Level-clause-discretes : goal.returns-in-Level-clause-discretes
returns-in-Level-clause-discretes c =
    let m = c.args.m.now in
    let old = c.args.inputs.now in
    let new = c.set_input_value.new.inputs in
    let var : ℕ = c.in-Level.var in
    let level : ℤ = c.in-Level.level in
    let own : IsMessage m (Level var level) = subst (IsMessage m) c.in-Level.is c.requires.message
    in
    let of_wide : FitsSigned w128 level = omega (arith, ints, own.1) in
    let of_level : FitsSigned w64 level = omega (arith, ints, own.1) in
    let same : (i : ℕ) → input_value new i ≡ (if row_reads var (row_at m c.args.row) && i == var
    then level else input_value old i) =
    λ i. simp to_z-of_z at (c.set_input_value.ensures.values i) in
    discretes_kept m c.args.row old new var level same own.0 ∙ discretes_keep m c.args.row
    (input_discretes m old) c.args.msg var level c.in-Level.is

pub returns-in-Discrete-clause-levels : goal.returns-in-Discrete-clause-levels
returns-in-Discrete-clause-levels c =
    let m = c.args.m.now in
    let old = c.args.inputs.now in
    let new = c.set_input_value-in-Discrete.new.inputs in
    let var : ℕ = c.in-Discrete.var in
    let value : ℤ = c.in-Discrete.value in
    let own : IsMessage m (Discrete var value) = subst (IsMessage m) c.in-Discrete.is
    c.requires.message in
    let of_value : FitsSigned w64 value = omega (arith, ints, own.2) in
    let same : (i : ℕ) → input_value new i ≡ (if row_reads var (row_at m c.args.row) && i == var
    then value else input_value old i) =
    λ i. simp to_z-of_z at (c.set_input_value-in-Discrete.ensures.values i) in
    levels_kept m c.args.row old new var value same own.0 ∙ levels_keep m c.args.row
    (input_levels m old) c.args.msg var value c.in-Discrete.is

pub returns-in-Discrete-clause-discretes : goal.returns-in-Discrete-clause-discretes
returns-in-Discrete-clause-discretes c =
    let m = c.args.m.now in
    let old = c.args.inputs.now in
    let new = c.set_input_value-in-Discrete.new.inputs in
    let var : ℕ = c.in-Discrete.var in
    let value : ℤ = c.in-Discrete.value in
    let own : IsMessage m (Discrete var value) = subst (IsMessage m) c.in-Discrete.is
    c.requires.message in
    let of_value : FitsSigned w64 value = omega (arith, ints, own.2) in
    let same : (i : ℕ) → input_value new i ≡ (if row_reads var (row_at m c.args.row) && i == var
    then value else input_value old i) =
    λ i. simp to_z-of_z at (c.set_input_value-in-Discrete.ensures.values i) in
    discretes_set m c.args.row old new var value same own.0 own.1 ∙ discrete_told m c.args.row
    (input_discretes m old) c.args.msg var value c.in-Discrete.is
