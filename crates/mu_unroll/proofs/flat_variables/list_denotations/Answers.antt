use Rattle.mu_unroll.proofs.Common
use Common.{[], ℕ, ◌++◌, ◌+◌, ◌∙◌, ◌∷◌, ◌≡◌, ◌≤◌, added_at, ap, ArePlaced, arith, count_of_kind}
use Common.{first_meant, List, NameDenotation, next_number, Nothing, Option, subst, sym, take}
use Common.{unwrap_or}
use Rattle.std.proofs.lemmas.List.{take_all}
use Rattle.mu_unroll.proofs.Placing.{after_is, all_placed, count-append, count-one, count-take}
use Rattle.mu_unroll.proofs.Placing.{meant-push, meant_is, taken_more, width_of, within_all}
use Rattle.mu_unroll.proofs.flat_variables.list_denotations.Goals as goal

pub next_after_variable-next-requires : goal.next_after_variable-next-requires
next_after_variable-next-requires c kind is =
    let ks = c.args.known.now in
    let i = c.loop-one.one-index in
    let k = c.one-item.result in
    let more : count_of_kind kind (take i ks) + count_of_kind kind (k ∷ []) ≤ count_of_kind kind ks =
    subst (λ n. n ≤ count_of_kind kind ks) (ap (count_of_kind kind) (taken_more ks i k c.loop-one-test.true c.one-item.is) ∙ count-append kind (take i ks) (k ∷ [])) (count-take kind ks (i + 1)) in
    omega (arith, c.loop-one.invariant.numbers kind, within_all kind ks, count-one kind k, width_of kind k is, c.requires)

pub loop-one-preserved : goal.loop-one-preserved
loop-one-preserved c =
    let ks = c.args.known.now in
    let i = c.loop-one.one-index in
    let k = c.one-item.result in
    let so_far : take (i + 1) ks ≡ take i ks ++ k ∷ [] = taken_more ks i k c.loop-one-test.true c.one-item.is in
    record {
      table = c.in_ok-add.ensures
          ∙ ap (λ (f : List ℕ → Option NameDenotation). added_at f c.bytes.result.now c.next_variable_denotation.result) c.loop-one.invariant.table
          ∙ ap (λ n. added_at (first_meant ks [] (take i ks)) n c.next_variable_denotation.result) c.bytes.ensures
          ∙ ap (added_at (first_meant ks [] (take i ks)) k.name) (c.next_variable_denotation.ensures ∙ meant_is ks (take i ks) c.loop-one.next k c.loop-one.invariant.numbers)
          ∙ meant-push ks (take i ks) k
          ∙ ap (first_meant ks []) (sym so_far);
      numbers = λ kind.
          let whole : count_of_kind kind (take (i + 1) ks) ≡ count_of_kind kind (take i ks) + count_of_kind kind (k ∷ []) = ap (count_of_kind kind) so_far ∙ count-append kind (take i ks) (k ∷ []) in
          ap (λ n. next_number n kind) c.next_after_variable-next.ensures ∙ after_is c.loop-one.next k kind ∙ omega (arith, c.loop-one.invariant.numbers kind, count-one kind k);
    }

pub returns-clause-names : goal.returns-clause-names
returns-clause-names c =
    let ks = c.args.known.now in
    let all : take c.loop-one.one-index ks ≡ ks = take_all c.loop-one.one-index ks c.loop-one-test.false in
    let by : (List ℕ → Option NameDenotation) → List ℕ → NameDenotation = λ f name. unwrap_or (f name) Nothing in
    ap by (c.loop-one.invariant.table ∙ ap (first_meant ks []) all)

pub returns-clause-placed : goal.returns-clause-placed
returns-clause-placed c =
    let ks = c.args.known.now in
    let all : take c.loop-one.one-index ks ≡ ks = take_all c.loop-one.one-index ks c.loop-one-test.false in
    let by : (List ℕ → Option NameDenotation) → List ℕ → NameDenotation = λ f name. unwrap_or (f name) Nothing in
    subst (ArePlaced 4096) (sym (ap by (c.loop-one.invariant.table ∙ ap (first_meant ks []) all))) (all_placed ks c.requires)
