-- One more mark is taken away.
use Rattle.qss_sched.proofs.Common.{◌<◌, ◌≡◌, arith, both_ways, false, get_or, length, refl}
use Rattle.mu_num.proofs.Writes.{written_more, written_all}
use Rattle.qss_sched.proofs.place_set.unmark.Goals as goal

pub loop-place-init : goal.loop-place-init
loop-place-init c = record { as_many = refl; each = λ place e. absurd (both_ways false refl e); others = λ place e. refl }

pub bounds-among-place : goal.bounds-among-place
bounds-among-place c = omega (arith, c.requires c.loop-place.place-index 0 c.loop-place-test.true, c.loop-place.invariant.as_many)

pub loop-place-preserved : goal.loop-place-preserved
loop-place-preserved c =
    let i = c.loop-place.place-index in
    let within : get_or c.args.places.now i 0 < length c.loop-place.among = omega (arith, c.requires i 0 c.loop-place-test.true, c.loop-place.invariant.as_many) in
    written_more false (λ place flag. flag ≡ false) c.args.places.now c.args.among.now c.loop-place.among i false c.loop-place-test.true within c.loop-place.invariant refl

pub returns : goal.returns
returns c =
    written_all false (λ place flag. flag ≡ false) c.args.places.now c.args.among.now c.loop-place.among c.loop-place.place-index c.loop-place-test.false c.loop-place.invariant
