use Rattle.mu_causal.proofs.Common
use Common.{[], ℕ, ◌++◌, ◌<◌, ◌∙◌, ◌∷◌, ◌≡◌, arith, get_or, get_or_default, IsNext, IsOpen, length}
use Common.{List, Needs, sym}
use Rattle.mu_causal.proofs.Listing.{unmarked_count-set, next_is, Follow-push, AreMarks-push}
use Rattle.mu_causal.proofs.Listing.{ArePassed-more, still_blocked, written_back}
use Rattle.mu_causal.proofs.dependency_graph.list_ready_dependencies.Goals as goal

pub loop-v-smaller : goal.loop-v-smaller
loop-v-smaller c =
    let found = c.in-Some.ensures.found in
    unmarked_count-set c.loop-v.marks c.in-Some.v (omega (arith, found.there, c.loop-v.invariant.marks.same_length)) found.unmarked

pub loop-v-preserved : goal.loop-v-preserved
loop-v-preserved c =
    let i = c.loop-v.invariant in
    let found = c.in-Some.ensures.found in
    let least = c.in-Some.ensures.least in
    let passed = c.in-Some.ensures.passed in
    let inside : c.in-Some.v < length c.loop-v.marks = omega (arith, found.there, i.marks.same_length) in
    let next : IsNext (IsOpen c.args.graph.now c.args.marks.now) (Needs c.args.graph.now c.args.marks.now) c.loop-v.vars.items c.in-Some.v = next_is _ _ c.loop-v.marks _ _ i.marks found least in
    let pushed : c.push.new.self.items ≡ c.loop-v.vars.items ++ c.in-Some.v ∷ [] = c.in_ok-push.ensures.items in
    let kept : length c.next_ready_dependency.new.passed ≡ c.loop-v.passed.len = c.next_ready_dependency.auto.passed ∙ c.deref_mut.ensures.len in
    let readers : List ℕ = c.in_ok-readers.readers.items in
    let has : c.in-Some.v < length readers =
    omega (arith, found.there, c.in_ok-readers.ensures.same_length) in
    let read : get_or readers c.in-Some.v 0 ≡ c.index.result.now =
    get_or_default readers c.in-Some.v 0 c.index.result.now has ∙ sym c.index.ensures in
    record {
      passed = rw (written_back c.next_ready_dependency.new.passed c.loop-v.passed.items c.loop-v.passed.len kept) (ArePassed-more c.args.graph.now c.loop-v.marks c.next_ready_dependency.new.passed c.in-Some.v passed found.there i.marks.same_length);
      marks = rw pushed (AreMarks-push c.args.graph.now c.args.marks.now c.loop-v.marks c.loop-v.vars.items c.in-Some.v i.marks inside);
      follow = rw pushed (Follow-push _ _ [] c.loop-v.vars.items c.in-Some.v i.follow next);
      before = λ w lt unmarked.
          still_blocked c.args.graph.now c.loop-v.marks readers c.in-Some.v c.min-from.result w
          c.in_ok-readers.ensures inside (omega (arith, read)) (omega arith) least lt unmarked;
    }
