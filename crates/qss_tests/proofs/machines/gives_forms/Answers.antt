use Rattle.std.proofs.Common.{pos, negsuc, [], ◌∷◌, sym, ap, length, rules}
use Rattle.std.specs.List.{All}
use Rattle.std.proofs.lemmas.List.Elements.{All-nil, All-cons}
use Rattle.mu_num.specs.Sizes.{IsWithin}
use Rattle.qss_tests.proofs.machines.gives_forms.Goals as goal

state_within_88 : All (IsWithin 88) (pos 10 ∷ [])
state_within_88 = All-cons (IsWithin 88) (pos 10) [] (search rules) (All-nil (IsWithin 88))

slope_within_88 : All (IsWithin 88) (negsuc 19 ∷ [])
slope_within_88 = All-cons (IsWithin 88) (negsuc 19) [] (search rules) (All-nil (IsWithin 88))

pub form_value-requires-clause-form : goal.form_value-requires-clause-form
form_value-requires-clause-form g c = c.in_ok-form.ensures

pub form_value-requires-clause-states : goal.form_value-requires-clause-states
form_value-requires-clause-states g c = sym c.in_ok-machine.ensures.states

pub form_value-requires-clause-discretes : goal.form_value-requires-clause-discretes
form_value-requires-clause-discretes g c = sym (ap length c.in_ok-machine.ensures.discretes)

pub form_value-requires-clause-before : goal.form_value-requires-clause-before
form_value-requires-clause-before g c = sym (ap length c.in_ok-machine.ensures.discretes)

pub form_value-requires-clause-small_states : goal.form_value-requires-clause-small_states
form_value-requires-clause-small_states g c = state_within_88

pub form_value-requires-clause-small_discretes : goal.form_value-requires-clause-small_discretes
form_value-requires-clause-small_discretes g c = All-nil (IsWithin 43)

pub form_value-requires-clause-small_before : goal.form_value-requires-clause-small_before
form_value-requires-clause-small_before g c = All-nil (IsWithin 43)

pub form_speed-requires-clause-form : goal.form_speed-requires-clause-form
form_speed-requires-clause-form g c = c.in_ok-form.ensures

pub form_speed-requires-clause-same_length : goal.form_speed-requires-clause-same_length
form_speed-requires-clause-same_length g c = sym c.in_ok-machine.ensures.states

pub form_speed-requires-clause-size_limit : goal.form_speed-requires-clause-size_limit
form_speed-requires-clause-size_limit g c = slope_within_88

pub unreachable-assert_eq : goal.unreachable-assert_eq
unreachable-assert_eq g c = c.assert_eq-assert_failed.result

pub unreachable-assert_eq-2 : goal.unreachable-assert_eq-2
unreachable-assert_eq-2 g c = c.assert_eq-assert_failed-2.result
