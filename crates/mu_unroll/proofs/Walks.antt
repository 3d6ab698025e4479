-- Steps of the four walks through equations, statements, clauses and start assignments.
use Rattle.mu_unroll.proofs.Common
use Common.{[], ℕ, ℤ, ◌++◌, ◌+ℤ◌, ◌-◌, ◌^◌, ◌∙◌, ◌∷◌, ◌≡◌, ◌≤◌, ap, AreRoundsBounded, arith}
use Common.{bind_result, Counts, Environment, Err, false, IfErr, inside, int_le, IsFault, length}
use Common.{List, LoopVar, meant_at, Ok, pos, Progress, progress, refl, repeated, Result, Rounds}
use Common.{rounds_from, Step, sym, take, true, UnrollErr, unsigned_abs, whole, with_round}
use Rattle.std.specs.Result.{IsErrAnd}
use Rattle.std.proofs.lemmas.Result.{err_from_is_err_and}
use Rattle.std.proofs.lemmas.Grind.{common_steps}
use Rattle.mu_unroll.specs.Environments.{HasSameNames}
use Rattle.mu_unroll.proofs.Faulty.{after, fault_same, fault_then, is_fault}
use Rattle.mu_unroll.proofs.Rounding.{le_of, lt_of, near_next, near_small, round_fault, round_limit}
use Rattle.mu_unroll.proofs.Rounding.{round_none, round_step}

-- a step in an environment
abbrev pub step_in : {X : Type 0} → Step X → Environment → Progress X
    → Result (Progress X) UnrollErr
step_in step env p = step (meant_at env.declared) env.loops.items p

-- a step depends only on the names
pub step_same : {X : Type 0} (step : Step X) (first now : Environment) (p : Progress X)
    → HasSameNames first now → step_in step now p ≡ step_in step first p
step_same {X} step first now p same = rw (same.declared, same.loops) refl

-- the same names, step by step
pub same_then : (a b c : Environment) → HasSameNames a b → HasSameNames b c → HasSameNames a c
same_then a b c h k = record { declared = k.declared ∙ h.declared; loops = k.loops ∙ h.loops }

-- what `?` returns
pub raised : {A B : Type 0} (r : Result A UnrollErr) (f : UnrollErr) (whole : Result B UnrollErr)
    → IsErrAnd r (λ e. e ≡ f) → IsFault whole f → IfErr r (IsFault whole)
raised {A} {B} r f whole h fault = let p = err_from_is_err_and r h in rw (p.1, p.2) fault

-- the items that are left after those that were unrolled are all
pub record IsBetweenItems {X : Type 0} (items : Step X) (first : Environment)
    (whole : Result (Progress X) UnrollErr) (now : Environment) (p : Progress X) : Type 0 where
  pub names : HasSameNames first now
  pub left : step_in items first p ≡ whole

-- the same names
pub same_names : (env : Environment) → HasSameNames env env
same_names env = record { declared = refl; loops = refl }

-- before the first item
pub items_begin : {X : Type 0} (items : Step X) (env : Environment) (p : Progress X)
    → IsBetweenItems items env (step_in items env p) env p
items_begin {X} items env p = record { names = same_names env; left = refl }

-- after the last item
pub items_done : {X : Type 0} (rest : Step X) (first : Environment)
    (whole : Result (Progress X) UnrollErr) (now : Environment) (p : Progress X)
    → IsBetweenItems rest first whole now p → step_in rest first p ≡ Ok p → whole ≡ Ok p
items_done {X} rest first whole now p between none = sym between.left ∙ none

-- a fault of an equal step
pub fault_of : {A : Type 0} (s r : Result A UnrollErr) (f : UnrollErr) → s ≡ r → IsFault r f
    → IsFault s f
fault_of {A} s r f e h = fault_same r s f (sym e) h

-- an item is unrolled
pub item_done : {X : Type 0} (items one rest : Step X) (first : Environment)
    (whole : Result (Progress X) UnrollErr) (now after_one : Environment) (p q : Progress X)
    → IsBetweenItems items first whole now p
    → step_in items first p ≡ bind_result (step_in one first p) (λ r. step_in rest first r)
    → step_in one now p ≡ Ok q → HasSameNames now after_one
    → IsBetweenItems rest first whole after_one q
item_done {X} items one rest first whole now after_one p q between is done same = record {
  names = same_then first now after_one between.names same;
  left = sym (after (step_in one first p) (λ r. step_in rest first r) q
      (sym (step_same one first now p between.names) ∙ done)) ∙ sym is ∙ between.left;
}

-- an item has a fault
pub item_fault : {X : Type 0} (items one rest : Step X) (first : Environment)
    (whole : Result (Progress X) UnrollErr) (now : Environment) (p : Progress X) (f : UnrollErr)
    → IsBetweenItems items first whole now p
    → step_in items first p ≡ bind_result (step_in one first p) (λ r. step_in rest first r)
    → IsFault (step_in one now p) f → IsFault whole f
item_fault {X} items one rest first whole now p f between is fault =
    fault_same (bind_result (step_in one first p) (λ r. step_in rest first r)) whole f
    (sym is ∙ between.left)
    (fault_then (step_in one first p) (λ r. step_in rest first r) f
    (fault_same (step_in one now p) (step_in one first p) f
    (step_same one first now p between.names) fault))

-- the rounds of a loop that are left
abbrev pub rounds_left : {X : Type 0} → Step X → List ℕ → Environment → Rounds → Progress X
    → Result (Progress X) UnrollErr
rounds_left body var env r p =
    repeated (λ j q. body (meant_at env.declared) (inside env.loops.items var j) q) r.next
    (rounds_from r.next r.last) p

-- the rounds that are left after those that were made are all
pub record IsBetweenRounds {X : Type 0} (body : Step X) (var : List ℕ) (first : Environment)
    (whole : Result (Progress X) UnrollErr) (now : Environment) (r : Rounds) (p : Progress X)
    : Type 0 where
  pub near : AreRoundsBounded r
  pub names : HasSameNames first now
  pub left : rounds_left body var first r p ≡ whole

-- before the first round
pub rounds_begin : {X : Type 0} (body : Step X) (var : List ℕ) (env : Environment) (r : Rounds)
    (p : Progress X) → AreRoundsBounded r
    → IsBetweenRounds body var env (rounds_left body var env r p) env r p
rounds_begin {X} body var env r p near = record { near = near; names = same_names env; left = refl }

-- an environment inside a round
pub record IsEntered (var : List ℕ) (i : ℤ) (now inner : Environment) : Type 0 where
  pub declared : inner.declared ≡ now.declared
  pub loops : inner.loops.items ≡ inside now.loops.items var i

-- an environment after a round, whose loop variable is removed
pub record IsLeft (inner left : Environment) : Type 0 where
  pub declared : left.declared ≡ inner.declared
  pub loops : left.loops.items ≡ take (length inner.loops.items - 1) inner.loops.items

-- a step in a round
entered_same : {X : Type 0} (body : Step X) (var : List ℕ) (i : ℤ) (first now inner : Environment)
    (p : Progress X) → HasSameNames first now → IsEntered var i now inner
    → step_in body inner p ≡ body (meant_at first.declared) (inside first.loops.items var i) p
entered_same {X} body var i first now inner p same entered =
    rw (entered.declared, entered.loops, same.declared, same.loops) refl

-- the names after a round
names_left : (var : List ℕ) (i : ℤ) (now inner outer left : Environment) → IsEntered var i now inner
    → HasSameNames inner outer → IsLeft outer left → HasSameNames now left
names_left var i now inner outer left entered same gone =
    let all : outer.loops.items ≡ inside now.loops.items var i = same.loops ∙ entered.loops in
    record {
      declared = gone.declared ∙ same.declared ∙ entered.declared;
      loops = gone.loops ∙ ap (λ xs. take (length xs - 1) xs) all
          ∙ take_before now.loops.items (record { name = var; value = whole i });
    }
  where
    take_before : (xs : List LoopVar) (x : LoopVar)
        → take (length (xs ++ x ∷ []) - 1) (xs ++ x ∷ []) ≡ xs
    take_before xs x = grind (arith, common_steps)

-- a round is made
pub round_done : {X : Type 0} (body : Step X) (var : List ℕ) (first : Environment)
    (whole : Result (Progress X) UnrollErr) (now inner outer left : Environment) (r : Rounds)
    (p : Progress X) (counted : Counts) (q : Progress X)
    → IsBetweenRounds body var first whole now r p → int_le r.next r.last ≡ true
    → with_round p.counts ≡ Ok counted
    → IsEntered var r.next now inner → step_in body inner (progress p.done counted) ≡ Ok q
    → HasSameNames inner outer → IsLeft outer left
    → IsBetweenRounds body var first whole left (record { next = r.next +ℤ pos 1; last = r.last }) q
round_done {X} body var first whole now inner outer left r p counted q between more counts entered
    done same gone = record {
      near = near_next r between.near;
      names = same_then first now left between.names
          (names_left var r.next now inner outer left entered same gone);
      left = sym (round_step
          (λ j p. body (meant_at first.declared) (inside first.loops.items var j) p)
          r.next r.last p counted q (le_of r.next r.last more) counts
          (sym (entered_same body var r.next first now inner (progress p.done counted) between.names
          entered) ∙ done)) ∙ between.left;
    }

-- a round has a fault
pub round_refused : {X : Type 0} (body : Step X) (var : List ℕ) (first : Environment)
    (whole : Result (Progress X) UnrollErr) (now inner : Environment) (r : Rounds) (p : Progress X)
    (counted : Counts) (f : UnrollErr)
    → IsBetweenRounds body var first whole now r p → int_le r.next r.last ≡ true
    → with_round p.counts ≡ Ok counted
    → IsEntered var r.next now inner → IsFault (step_in body inner (progress p.done counted)) f
    → IsFault whole f
round_refused {X} body var first whole now inner r p counted f between more counts entered fault =
    fault_same (rounds_left body var first r p) whole f between.left
    (round_fault (λ j p. body (meant_at first.declared) (inside first.loops.items var j) p) r.next
    r.last p counted f (le_of r.next r.last more) counts
    (fault_same (step_in body inner (progress p.done counted))
    (body (meant_at first.declared) (inside first.loops.items var r.next)
    (progress p.done counted)) f
    (entered_same body var r.next first now inner (progress p.done counted) between.names entered)
    fault))

-- there are too many rounds
pub round_too_many : {X : Type 0} (body : Step X) (var : List ℕ) (first : Environment)
    (whole : Result (Progress X) UnrollErr) (now : Environment) (r : Rounds) (p : Progress X)
    (f : UnrollErr)
    → IsBetweenRounds body var first whole now r p → int_le r.next r.last ≡ true
    → with_round p.counts ≡ Err f → IsFault whole f
round_too_many {X} body var first whole now r p f between more e =
    is_fault whole f (sym between.left ∙ round_limit (λ j p. body (meant_at first.declared)
    (inside first.loops.items var j) p) r.next r.last p f (le_of r.next r.last more) e)

-- all rounds are made
pub rounds_done : {X : Type 0} (body : Step X) (var : List ℕ) (first : Environment)
    (whole : Result (Progress X) UnrollErr) (now : Environment) (r : Rounds) (p : Progress X)
    → IsBetweenRounds body var first whole now r p → int_le r.next r.last ≡ false → whole ≡ Ok p
rounds_done {X} body var first whole now r p between none =
    sym between.left
    ∙ round_none (λ j p. body (meant_at first.declared) (inside first.loops.items var j) p)
    r.next r.last p (lt_of r.next r.last none)

-- the value of the loop variable is small
pub entry_small : {X : Type 0} (body : Step X) (var : List ℕ) (first : Environment)
    (whole : Result (Progress X) UnrollErr) (now : Environment) (r : Rounds) (p : Progress X)
    → IsBetweenRounds body var first whole now r p → int_le r.next r.last ≡ true
    → unsigned_abs r.next ≤ 2 ^ 62
entry_small {X} body var first whole now r p between more =
    near_small r between.near (le_of r.next r.last more)
