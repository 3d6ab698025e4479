use Rattle.mu_causal.proofs.Common
use Common.{◌<◌, ◌∙◌, ◌≡◌, ap, arith, drop, false, get_or_default, IsCycle, IsMarked, IsTurned}
use Common.{IsUnmarked, length, length-set, Needs, sym}
use Rattle.std.proofs.lemmas.List.{take_rest}
use Rattle.std.proofs.lemmas.Result.{IfOk-weaker}
use Rattle.mu_causal.proofs.Listing.{unmarked_count-set}
use Rattle.mu_causal.proofs.Rounds.{Leads-push, IsRound, AreDistinct, round_from, cycle_from_round}
use Rattle.mu_causal.proofs.Rounds.{on_path_push, seen_push, distinct_push, distinct_drop}
use Rattle.mu_causal.proofs.dependency_graph.find_dependency_cycle.Goals as goal

pub loop-seen-smaller : goal.loop-seen-smaller
loop-seen-smaller c =
    let i = c.loop-seen.invariant in
    unmarked_count-set c.loop-seen.seen.items c.loop-seen.v (omega (arith, i.there, i.same_length)) (sym (rw c.loop-seen-test.true at c.index.ensures))

pub loop-seen-preserved : goal.loop-seen-preserved
loop-seen-preserved c =
    let i = c.loop-seen.invariant in
    let p = c.in_ok-push.ensures.items in
    let b = c.find_blocking_dependency-v.ensures in
    let there : c.loop-seen.v < length c.loop-seen.seen.items = omega (arith, i.there, i.same_length) in
    let unseen : IsUnmarked c.loop-seen.seen.items c.loop-seen.v = sym (rw c.loop-seen-test.true at c.index.ensures) in
    record {
      same_length = length-set c.loop-seen.seen.items c.loop-seen.v _ ∙ i.same_length;
      there = b.there;
      unmarked = b.unmarked;
      leads = rw p (Leads-push (Needs c.args.graph.now c.args.marks.now) c.loop-seen.path.items c.loop-seen.v _ i.leads (record { names = b.names; from_unknown = i.unmarked; to_unknown = b.unmarked }));
      on_path = rw p (on_path_push c.loop-seen.seen.items c.loop-seen.path.items c.loop-seen.v i.on_path);
      seen_of = rw p (seen_push c.loop-seen.seen.items c.loop-seen.path.items c.loop-seen.v there i.seen_of);
      distinct = rw p (distinct_push c.loop-seen.seen.items c.loop-seen.path.items c.loop-seen.v i.distinct i.seen_of unseen);
    }

pub find_cycle_place-from-requires : goal.find_cycle_place-from-requires
find_cycle_place-from-requires c =
    let inside : c.loop-seen.v < length c.loop-seen.seen.items = omega (arith, c.loop-seen.invariant.there, c.loop-seen.invariant.same_length) in
    let seen : IsMarked c.loop-seen.seen.items c.loop-seen.v =
    sym (sym c.loop-seen-test.false ∙ c.index.ensures ∙ get_or_default c.loop-seen.seen.items c.loop-seen.v c.index.result.now false inside) in
    rw c.deref.ensures.value (c.loop-seen.invariant.on_path c.loop-seen.v seen)

pub returns : goal.returns
returns c =
    let needs = Needs c.args.graph.now c.args.marks.now in
    let d : c.deref.result.now ≡ c.loop-seen.path.items = c.deref.ensures.value in
    let inside : c.find_cycle_place-from.result < length c.loop-seen.path.items = rw d at c.find_cycle_place-from.ensures.inside in
    let value = rw d at c.find_cycle_place-from.ensures.value in
    let round : IsRound needs (drop c.find_cycle_place-from.result c.loop-seen.path.items) =
    round_from needs c.loop-seen.path.items c.loop-seen.v c.find_cycle_place-from.result c.loop-seen.invariant.leads inside value in
    let distinct : AreDistinct (drop c.find_cycle_place-from.result c.loop-seen.path.items) = distinct_drop c.loop-seen.path.items c.find_cycle_place-from.result c.loop-seen.invariant.distinct in
    let same = take_rest c.deref-2.result.now c.find_cycle_place-from.result ∙ ap (drop c.find_cycle_place-from.result) c.deref-2.ensures.value in
    IfOk-weaker c.rotate_dependency_cycle.result (λ vars. IsTurned (drop c.find_cycle_place-from.result c.loop-seen.path.items) vars.items) (λ vars. IsCycle needs vars.items) (λ vars. cycle_from_round needs (drop c.find_cycle_place-from.result c.loop-seen.path.items) vars.items round distinct) (rw same at c.rotate_dependency_cycle.ensures)
