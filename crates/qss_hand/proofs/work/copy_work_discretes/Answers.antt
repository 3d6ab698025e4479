-- One more value follows, and in the end all have.
use Rattle.qss_hand.proofs.Common
use Common.{ℕ, ℤ, ◌+◌, ◌<◌, ◌==◌, ◌∙◌, ap, AreSameBut, arith, drop, FitsSigned, get_or, int_at}
use Common.{length, length-set, List, list_any, of_z, pos, set, subst, sym, to_z, to_z-of_z, w64}
use Rattle.std.proofs.lemmas.Int.{ints}
use Rattle.std.proofs.lemmas.List.{drop_all, ext_get_or}
use Rattle.qss_hand.proofs.Assigned.{same_more}
use Rattle.qss_hand.proofs.work.copy_work_discretes.Goals as goal

pub loop-assigned-preserved : goal.loop-assigned-preserved
loop-assigned-preserved c =
    let inv = c.loop-assigned.invariant in
    let i = c.loop-assigned.assigned-index in
    let places : List ℕ = c.args.places.now in
    let values : List ℤ = c.args.values.now in
    let before : List ℤ = c.loop-assigned.before in
    let at : ℕ = get_or places i 0 in
    let h : i < length places = c.loop-assigned-test.true in
    let inside : at < length before = omega (arith, c.requires.below i 0 h, inv.as_many) in
    let fits : FitsSigned w64 (int_at values at) = omega (arith, ints) in
    record {
      as_many = length-set before at (to_z w64 (of_z w64 (int_at values at))) ∙ inv.as_many;
      rest = subst (λ (z : ℤ). AreSameBut (drop (i + 1) places) values (set before at z)) (sym (to_z-of_z w64 (int_at values at) fits)) (same_more places i values before h inside inv.rest);
    }

pub returns : goal.returns
returns c =
    let inv = c.loop-assigned.invariant in
    ext_get_or (pos 0) c.loop-assigned.before c.args.values.now inv.as_many
    (λ k h. inv.rest k (ap (list_any (λ i. i == k)) (drop_all c.loop-assigned.assigned-index c.args.places.now c.loop-assigned-test.false)))
