-- The result of the quantizer is an allowed next level.
use Rattle.qss_events.proofs.Common
use Common.{ℤ, ◌≡◌, arith, FitsSigned, ints, IsAllowedLevel, IsAnswer, IsAway, IsLineWithinQuantum}
use Common.{IsNextLevel, IsPositiveWithin, level_unit, Option, quantum_of, Rule, subst, sym}
use Common.{to_z-of_z, unit_fits, w128, w64}
use Rattle.qss_events.proofs.Ranges.{quantum_fits}
use Rattle.qss_events.proofs.NextLevels.{next_by}
use Rattle.qss_events.proofs.event_levels.requantize_level.Goals as goal

kept_by : (one x old q : ℤ) (answer : ℤ) {unit quantum : ℤ} → (IsLineWithinQuantum unit x old quantum → answer ≡ old) → unit ≡ one → quantum ≡ q → IsLineWithinQuantum one x old q → answer ≡ old
kept_by one x old q answer {unit} {quantum} kept e f near = kept (subst (λ u. IsLineWithinQuantum u x old quantum) (sym e) (subst (λ v. IsLineWithinQuantum one x old v) (sym f) near))

taken_by : (name : Option Rule) (one x old q : ℤ) (answer : ℤ) {unit quantum : ℤ} → (IsAway unit x old quantum → IsAnswer name x old unit answer) → unit ≡ one → quantum ≡ q →
    IsAway one x old q → IsAnswer name x old one answer
taken_by name one x old q answer {unit} {quantum} taken e f away =
    subst (λ u. IsAnswer name x old u answer) e (taken (subst (λ u. IsAway u x old quantum) (sym e) (subst (λ v. IsAway one x old v) (sym f) away)))

pub level-requires-clause-asked : goal.level-requires-clause-asked
level-requires-clause-asked g c =
    let x : FitsSigned w128 c.args.x = omega (arith, ints, c.requires.small_state) in
    let level : FitsSigned w64 c.args.level = omega (arith, ints, c.requires.small_level) in
    let unit : FitsSigned w128 c.args.unit = record { sfits = c.ranges.unit.sfits } in
    record {
      small_state = rw (to_z-of_z w128 c.args.x x) (omega (arith, c.requires.small_state));
      small_old = rw (to_z-of_z w64 c.args.level level) c.requires.small_level;
      small_unit = rw (to_z-of_z w128 c.args.unit unit) (subst (IsPositiveWithin 44) (sym c.requires.unit) (unit_fits c.args.m.now));
    }

pub level-requires-clause-quantum : goal.level-requires-clause-quantum
level-requires-clause-quantum g c =
    let level : FitsSigned w64 c.args.level = omega (arith, ints, c.requires.small_level) in
    let quantum : FitsSigned w64 c.quantum_at-quantum.result = record { sfits = c.quantum_at-quantum.type_inv } in
    let own = rw (to_z-of_z w64 c.args.level level) at c.quantum_at-quantum.ensures in
    rw (to_z-of_z w64 c.quantum_at-quantum.result quantum)
    (subst (IsPositiveWithin 43) (sym own) (quantum_fits c.args.m.now c.args.j c.args.level c.requires.state c.requires.small_level))

pub returns-clause-next : goal.returns-clause-next
returns-clause-next g c =
    let m = c.args.m.now in
    let one = level_unit m in
    let old = c.args.level in
    let x : FitsSigned w128 c.args.x = omega (arith, ints, c.requires.small_state) in
    let level : FitsSigned w64 old = omega (arith, ints, c.requires.small_level) in
    let unit : FitsSigned w128 c.args.unit = record { sfits = c.ranges.unit.sfits } in
    let quantum : FitsSigned w64 c.quantum_at-quantum.result = record { sfits = c.quantum_at-quantum.type_inv } in
    let answer : FitsSigned w128 c.level.result = record { sfits = c.level.type_inv } in
    let own : c.quantum_at-quantum.result ≡ quantum_of m c.args.j old = rw (to_z-of_z w64 old level) at c.quantum_at-quantum.ensures in
    let kept : IsLineWithinQuantum one c.args.x old (quantum_of m c.args.j old) → c.level.result ≡ old =
    λ near. kept_by one c.args.x old (quantum_of m c.args.j old) c.level.result (simp to_z-of_z at c.level.ensures.kept) c.requires.unit own near in
    let taken : IsAway one c.args.x old (quantum_of m c.args.j old) → IsAnswer c.args.q.now.name c.args.x old one c.level.result =
    λ away. taken_by c.args.q.now.name one c.args.x old (quantum_of m c.args.j old) c.level.result (simp to_z-of_z at c.level.ensures.taken) c.requires.unit own away in
    subst (IsNextLevel (IsAllowedLevel c.args.q.now.name) m c.args.j c.args.x old) (sym (to_z-of_z w128 c.level.result answer)) (next_by c.args.q.now.name m c.args.j c.args.x old c.level.result kept taken)

pub returns-clause-ruled : goal.returns-clause-ruled
returns-clause-ruled g c away =
    let old = c.args.level in
    let x : FitsSigned w128 c.args.x = omega (arith, ints, c.requires.small_state) in
    let level : FitsSigned w64 old = omega (arith, ints, c.requires.small_level) in
    let unit : FitsSigned w128 c.args.unit = record { sfits = c.ranges.unit.sfits } in
    let quantum : FitsSigned w64 c.quantum_at-quantum.result = record { sfits = c.quantum_at-quantum.type_inv } in
    let answer : FitsSigned w128 c.level.result = record { sfits = c.level.type_inv } in
    let own : c.quantum_at-quantum.result ≡ quantum_of c.args.m.now c.args.j old = rw (to_z-of_z w64 old level) at c.quantum_at-quantum.ensures in
    let ruled = simp to_z-of_z at c.level.ensures.ruled in
    rw (to_z-of_z w128 c.level.result answer) (ruled (subst (λ q. IsAway c.args.unit c.args.x old q) (sym own) away))
