use Rattle.std.proofs.Common.{rules, ◌≡◌, ◌∙◌, ◌++◌, ◌+◌, drop, ap, arith}
use Rattle.mu_tree.specs.Canonical.{joined}
use Rattle.mu_tree.specs.Nests.{range_of}
use Rattle.mu_tree.proofs.Nesting.{body_smaller}
use Rattle.mu_canonical.proofs.Writing.{item_written, loop_written}
use Rattle.mu_canonical.proofs.item_text.+write_items.Goals.{in-One+in_ok-write_one-in-One}
use Rattle.mu_canonical.proofs.item_text.+write_items.Goals.{in-Each+in_ok-write_loop_head-in-Each+in_ok-write_items-in-Each+in_ok-write_loop_end-in-Each}
use Rattle.mu_canonical.proofs.item_text.+write_items.Goals as goal

pub write_items-requires : goal.write_items-requires
write_items-requires g t c κs within =
    let d = c.decreases in
    let s = body_smaller g.T.Nest.tree g.T.Nest.each g.T.Nest.item g.met.T.Nest.each_item
    c.args.items.now c.in-Each.body.now c.loop-one.one-index c.one-item.result _
    c.loop-one-test.true c.one-item.is c.in-Each.ensures in
    (search (rules, arith, d, s), within)

pub loop-one-preserved : goal.loop-one-preserved
loop-one-preserved g t c =
    let texts = g.T.WrittenItem.texts in
    let list_texts = g.T.WrittenItem.list_texts in
    let law = g.met.T.WrittenItem in
    let xs = c.args.items.now in
    let i = c.loop-one.one-index in
    let x = c.one-item.result in
    let out = c.loop-one.out.items in
    let whole = c.args.out.now.items ++ joined (list_texts xs) in
    let written = c.match-nested.out.items in
    let next : written ≡ out ++ joined (texts x)
    → written ++ joined (list_texts (drop (i + 1) xs)) ≡ whole =
    λ w. item_written texts list_texts law.more_texts xs i x out written whole c.loop-one-test.true
    c.one-item.is w c.loop-one.invariant in
    elim c.match-nested.branch [
      | in-One+in_ok-write_one-in-One w ↦
          next (
          ap (λ o. o.items) w.out-is ∙ w.in_ok-write_one-in-One.ensures
          ∙ ap (λ y. out ++ joined (texts y)) w.in-One.ensures.0
          )
      | in-Each+in_ok-write_loop_head-in-Each+in_ok-write_items-in-Each+in_ok-write_loop_end-in-Each w ↦
          let r = range_of w.in-Each.range in
          let body = w.in-Each.body.now in
          next (
          ap (λ o. o.items) w.out-is
          ∙ loop_written (texts x) (list_texts body) r out w.write_loop_head.new.out.items
          w.write_items.new.out.items w.write_loop_end.new.out.items
          (law.loop_texts x r body w.in-Each.ensures) w.in_ok-write_loop_head-in-Each.ensures
          w.in_ok-write_items-in-Each.ensures w.in_ok-write_loop_end-in-Each.ensures
          )
    ]
