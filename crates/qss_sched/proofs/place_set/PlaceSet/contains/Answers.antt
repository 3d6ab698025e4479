-- A place is in the set where it is marked.
use Rattle.qss_sched.proofs.Common.{◌∙◌, ap, arith, flag_at, is_listed, length, PlaceList, sym}
use Rattle.qss_sched.proofs.place_set.PlaceSet.contains.Goals as goal

pub bounds-among-place : goal.bounds-among-place
bounds-among-place c = omega (arith, c.requires, ap (λ (s : PlaceList). s.count) c.self.view_is, ap length c.as_slice-among.ensures.value)

pub returns : goal.returns
returns c =
    let place = c.args.place in
    ap (λ l. flag_at l place) c.as_slice-among.ensures.value ∙ sym (c.self.invariant.own place) ∙ ap (λ (s : PlaceList). is_listed s.places place) c.self.view_is
