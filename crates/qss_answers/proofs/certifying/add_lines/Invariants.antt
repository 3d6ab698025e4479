use Rattle.qss_answers.proofs.Common.{◌++◌, ◌≡◌, bound_lines, iter_rest, zip_first, zip_second}
use Rattle.qss_answers.proofs.certifying.add_lines.Given as goal

-- the text so far and the lines that are left are the whole
abbrev pub invariant-loop-state : goal.invariant-loop-state
invariant-loop-state l =
    l.text.items ++ bound_lines (iter_rest (zip_first l.state-iterator)) (iter_rest (zip_second l.state-iterator)) ≡ l.fn.text.items ++ bound_lines l.states l.bounds
