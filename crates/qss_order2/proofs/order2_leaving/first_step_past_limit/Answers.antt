-- A curve that does not change stays inside.
use Rattle.qss_order2.proofs.Common
use Common.{ℕ, ℤ, ◌*ℤ◌, ◌+ℤ◌, ◌∙◌, ◌≡◌, ap, arith, curve_at, ints, pos, sym, to_z-of_z}
use Common.{unsigned_abs, w128}
use Rattle.mu_num.specs.Curves.{sum_to}
use Rattle.qss_order2.proofs.order2_leaving.first_step_past_limit.Goals as goal

still : (c b a : ℤ) (n : ℕ) → b ≡ pos 0 → a ≡ pos 0 → curve_at c b a n ≡ c
still c b a n of_b of_a = ap (λ z. c +ℤ pos n *ℤ z +ℤ pos (sum_to n) *ℤ a) of_b
    ∙ ap (λ z. c +ℤ pos n *ℤ pos 0 +ℤ pos (sum_to n) *ℤ z) of_a ∙ omega (arith, ints)

pub returns-then-is_never_leaving : goal.returns-then-is_never_leaving
returns-then-is_never_leaving c k some within there =
    let rests = c.is_never_leaving.ensures c.if-is_never_leaving.true in
    let drift : c.args.drift ≡ pos 0 = sym (to_z-of_z w128 c.args.drift c.ranges.drift) ∙ rests.0 in
    let bend : c.args.bend ≡ pos 0 = sym (to_z-of_z w128 c.args.bend c.ranges.bend) ∙ rests.1 in
    let same = still c.args.gap c.args.drift c.args.bend k drift bend in
    absurd (omega (arith, ints, c.requires.inside, ap unsigned_abs same, there))
