use Rattle.qss_answers.proofs.Common
use Common.{ℕ, ◌++◌, ◌∙◌, ◌≡◌, ap, bound_line, bound_lines, iter_rest, List, sym, zip_first}
use Common.{zip_second}
use Rattle.std.proofs.Common.{append-nil}
use Rattle.std.proofs.lemmas.Slice.Zip.{Zip-more, either_empty_from_Zip}
use Rattle.qss_answers.proofs.Lines.{line_more, lines_done}
use Rattle.qss_answers.proofs.certifying.add_lines.Goals as goal

pub loop-state-preserved : goal.loop-state-preserved
loop-state-preserved c =
    let more = Zip-more c.loop-state.state-iterator c.next.new.self c.next.result (c.in-Some.state, c.in-Some.bound) c.in-Some.is c.next.ensures.steps in
    let line : c.add_line.new.text.items ≡ c.loop-state.text.items ++ bound_line c.in-Some.state.now.name c.in-Some.bound.now = c.in_ok-add_line.ensures
    ∙ ap (λ (name : List ℕ). c.loop-state.text.items ++ bound_line name c.in-Some.bound.now) c.bytes.ensures in
    ap (λ (text : List ℕ). text ++ bound_lines (iter_rest (zip_first c.next.new.self)) (iter_rest (zip_second c.next.new.self))) line
    ∙ line_more c.loop-state.text.items (iter_rest (zip_first c.loop-state.state-iterator)) (iter_rest (zip_first c.next.new.self)) c.in-Some.state.now
    (iter_rest (zip_second c.loop-state.state-iterator)) (iter_rest (zip_second c.next.new.self)) c.in-Some.bound.now more.0 more.1
    ∙ c.loop-state.invariant

pub returns : goal.returns
returns c =
    let none = either_empty_from_Zip c.loop-state.state-iterator c.next.new.self c.next.result c.in-None.is c.next.ensures.steps in
    sym (append-nil c.loop-state.text.items)
    ∙ ap (λ (lines : List ℕ). c.loop-state.text.items ++ lines)
    (sym (lines_done (iter_rest (zip_first c.loop-state.state-iterator)) (iter_rest (zip_second c.loop-state.state-iterator)) none))
    ∙ c.loop-state.invariant
