-- Where these levels are past no limit, levels at most them in size are not either.
use Rattle.qss_order2.proofs.Common
use Common.{◌^◌, ◌∙◌, ◌≡◌, ap, arith, Err, FitsSigned, length, length-map-range_with_len}
use Common.{length-replicate, None, Ok, overflow_of, past_levels, pos, reach_of, refl, replicate}
use Common.{Result, state_count, sym, to_z-of_z, true, w128}
use Rattle.qss_order2.proofs.SafeBounds.{bounded}
use Rattle.qss_hand.specs.declared.handler_statements.Over.{Over}
use Rattle.std.specs.Prelude.{is_ok}
use Rattle.qss_order2.proofs.order2_limits.is_safe_bound.Goals as goal

none_of : (r : Result Unit Over) → is_ok r ≡ true → overflow_of r ≡ None
none_of (Ok done) e = refl
none_of (Err over) e = absurd (cc)

pub check_levels-requires : goal.check_levels-requires
check_levels-requires c =
    let f = c.args.f.now in
    let n = state_count f.machine in
    let many : length f.limits.items ≡ n = ap length f.is_fixed.own_limits
    ∙ length-map-range_with_len (reach_of f.machine) 0 n in
    ap length c.deref.ensures.value ∙ ap length c.in_ok-levels.ensures ∙ length-replicate _ _
    ∙ omega (arith, c.len.ensures, f.limits.ok.0, many)

pub returns : goal.returns
returns c e levels many small =
    let f = c.args.f.now in
    let m = f.machine in
    let n = state_count m in
    let b = 2 ^ c.args.bits in
    let as_many : length f.limits.items ≡ n = ap length f.is_fixed.own_limits
    ∙ length-map-range_with_len (reach_of m) 0 n in
    let count : c.len.result ≡ n = omega (arith, c.len.ensures, f.limits.ok.0, as_many) in
    let fits : FitsSigned w128 c.unit.result = record { sfits = c.unit.type_inv } in
    let value : c.unit.result ≡ pos b = c.unit.ensures in
    let own : c.in_ok-levels.levels.items ≡ replicate c.len.result c.unit.result =
    simp to_z-of_z at c.in_ok-levels.ensures in
    let all : c.deref.result.now ≡ replicate n (pos b) =
    c.deref.ensures.value ∙ own ∙ ap (λ k. replicate k c.unit.result) count
    ∙ ap (λ z. replicate n z) value in
    bounded m b (ap (past_levels m) (sym all) ∙ sym c.check_levels.ensures
    ∙ none_of c.check_levels.result (sym c.is_ok.ensures.value ∙ e))
    levels many small
