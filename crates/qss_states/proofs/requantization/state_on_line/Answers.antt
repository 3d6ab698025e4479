-- The line that is read is the one of the state's number.
use Rattle.qss_states.proofs.Common
use Common.{◌∙◌, ◌≡◌, ◌≤◌, ap, FitsSigned, get_or_default, Line, line_at, no_line, state_at, subst}
use Common.{sym, to_z-of_z, w128}
use Rattle.qss_states.proofs.requantization.state_on_line.Goals as goal

pub value_at-requires-clause-later : goal.value_at-requires-clause-later
value_at-requires-clause-later c =
    let read : c.index-lines-j.result ≡ line_at c.args.lines.now c.args.state =
    c.index-lines-j.is ∙ get_or_default c.args.lines.now c.args.state c.index-lines-j.result no_line c.requires.known in
    subst (λ (l : Line). l.tick ≤ c.args.tick) (sym read) c.requires.later

pub value_at-requires-clause-tick_limit : goal.value_at-requires-clause-tick_limit
value_at-requires-clause-tick_limit c = c.requires.tick_limit

pub returns : goal.returns
returns c =
    let read : c.index-lines-j.result ≡ line_at c.args.lines.now c.args.state =
    c.index-lines-j.is ∙ get_or_default c.args.lines.now c.args.state c.index-lines-j.result no_line c.requires.known in
    let x : FitsSigned w128 c.value_at.result = record { sfits = c.value_at.type_inv } in
    to_z-of_z w128 c.value_at.result x ∙ c.value_at.ensures ∙ ap (λ (l : Line). state_at l c.args.tick) read
