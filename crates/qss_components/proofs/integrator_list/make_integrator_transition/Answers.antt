-- The integrator with a number makes its transition.
use Rattle.qss_components.proofs.Common
use Common.{get_or, get_or_default, IntegratorModel, Message, refl, subst}
use Rattle.qss_components.specs.Transitions.{MaySend, IsTransitionMade}
use Rattle.qss_components.proofs.NamedSends.{one_sent, may_send}
use Rattle.qss_components.proofs.integrator_list.make_integrator_transition.Goals as goal

pub bounds-integrators-var : goal.bounds-integrators-var
bounds-integrators-var g c = c.requires.known

pub make_transition-requires : goal.make_transition-requires
make_transition-requires g c =
    let s : IntegratorModel _ _ = get_or c.args.integrators.now c.args.var c.index-integrators-var.result in
    let named = c.requires.named.1 c.args.var c.index-integrators-var.result c.requires.known in
    λ a b first second.
    one_sent s.machine.value s.quantizer.value.name c.requires.named.0 s.var s.line c.args.tick a b named first second

pub returns : goal.returns
returns g c =
    let t = c.make_transition.new.model in
    let turn = c.make_transition.ensures in
    let s : IntegratorModel _ _ = get_or c.args.integrators.now c.args.var c.index-integrators-var.result in
    let may : (a : Message) → _ → MaySend s c.args.tick a = λ a sends. may_send s.machine.value s.quantizer.value.name s.var s.line c.args.tick a sends in
    let turned : IsTransitionMade s c.args.tick c.make_transition.result t =
    record {
      rests = turn.rests;
      passes = λ e. let p = turn.passes e in (p.0, p.1, (p.2.0, may p.2.0 p.2.1, p.2.2));
      sends = λ a e. let p = turn.sends a e in (p.0, may a p.1, p.2, p.3);
      later = turn.later;
    } in
    (t, refl, subst (λ (i : IntegratorModel _ _). IsTransitionMade i c.args.tick c.make_transition.result t) (get_or_default c.args.integrators.now c.args.var c.index-integrators-var.result t c.requires.known) turned)
