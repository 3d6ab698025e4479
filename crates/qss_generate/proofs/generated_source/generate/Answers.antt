use Rattle.std.proofs.Common.{◌++◌, ◌≤◌, ◌^◌, ◌∙◌, length, ap, sym, subst, List, ℕ, []}
use Rattle.qss_generate.specs.Source.{front, start_lines, back, source}
use Rattle.qss_generate.proofs.Lengths.{joined, source_short}
use Rattle.qss_generate.proofs.generated_source.generate.Goals as goal

pub returns-clause-text : goal.returns-clause-text
unfolding source
returns-clause-text c =
    joined [] c.add_generated_front.new.text.items c.add_generated_start_lines.new.text.items c.add_generated_back.new.text.items
    (front c.args.cells) (start_lines c.args.seed 0 c.args.cells) (back c.args.cells)
    (c.in_ok-add_generated_front.ensures ∙ ap (λ (l : List ℕ). l ++ front c.args.cells) c.new-text.ensures.items) c.in_ok-add_generated_start_lines.ensures c.in_ok-add_generated_back.ensures

pub returns-clause-short : goal.returns-clause-short
returns-clause-short c = subst (λ (l : List ℕ). length l ≤ 2 ^ 20) (sym (returns-clause-text c)) (source_short c.args.seed c.args.cells c.requires.most)
