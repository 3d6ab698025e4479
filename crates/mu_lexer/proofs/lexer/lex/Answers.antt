use Rattle.mu_lexer.proofs.Common.{ℕ, ◌+◌, ◌<◌, ◌≡◌, ◌≤◌, arith, drop, inl, inr, IsWithin, length}
use Rattle.std.proofs.lemmas.List.Elements.{All-push}
use Rattle.mu_lexer.proofs.Places.{size_within}
use Rattle.mu_lexer.proofs.Progress.{here, over_blank, over_comment, over_token, steps_within}
use Rattle.mu_lexer.proofs.Progress.{finished, only_tokens, no_error, fault_here, no_tokens}
use Rattle.mu_lexer.proofs.Progress.{only_error}
use Rattle.mu_lexer.specs.declared.lexer.NextItem.TheVariants as standing
use Rattle.mu_lexer.proofs.lexer.lex.Goals as goal

pub loop-at-preserved-in-Blank : goal.loop-at-preserved-in-Blank
loop-at-preserved-in-Blank c = (over_blank c.args.source.now c.loop-at.at c.loop-at.tokens.items c.loop-at.invariant.0 (here c.args.source.now c.loop-at.at standing.Blank c.in-Blank.ensures), c.loop-at.invariant.1, omega arith)

pub overflow_add-at-in-Comment : goal.overflow_add-at-in-Comment
overflow_add-at-in-Comment c =
    let h : c.loop-at.at + c.in-Comment.n ≤ length c.args.source.now = steps_within c.args.source.now c.loop-at.at (standing.Comment c.in-Comment.n) c.loop-at.invariant.0.within (λ x. x) (here c.args.source.now c.loop-at.at (standing.Comment c.in-Comment.n) c.in-Comment.ensures) in
    omega arith

pub loop-at-preserved-in-Comment : goal.loop-at-preserved-in-Comment
loop-at-preserved-in-Comment c = (over_comment c.args.source.now c.loop-at.at c.in-Comment.n c.loop-at.tokens.items c.loop-at.invariant.0 (here c.args.source.now c.loop-at.at (standing.Comment c.in-Comment.n) c.in-Comment.ensures), c.loop-at.invariant.1, omega arith)

pub loop-at-preserved : goal.loop-at-preserved
loop-at-preserved c =
    let stands = here c.args.source.now c.loop-at.at (standing.Token c.in-Token.kind c.in-Token.n) c.in-Token.ensures in
    let bound = steps_within c.args.source.now c.loop-at.at (standing.Token c.in-Token.kind c.in-Token.n) c.loop-at.invariant.0.within (λ x. x) stands in (
      rw c.in_ok-push-in-Token.ensures.items (over_token c.args.source.now c.loop-at.at c.in-Token.n c.in-Token.kind c.loop-at.tokens.items c.loop-at.invariant.0 stands),
      rw c.in_ok-push-in-Token.ensures.items (All-push (IsWithin c.args.source.now) c.loop-at.tokens.items (record { kind = c.in-Token.kind; start = c.loop-at.at; end = c.loop-at.at + c.in-Token.n }) c.loop-at.invariant.1 (omega arith, bound)),
      more (size_within (drop c.loop-at.at c.args.source.now) (standing.Token c.in-Token.kind c.in-Token.n) stands).0 c.in_ok-push-in-Token.ensures.len c.loop-at.invariant.2,
    )
  where
    more : {old new at n : ℕ} → 0 < n → new ≡ old + 1 → old ≤ at → new ≤ at + n
    more some is h = omega arith

pub returns-clause-tokens : goal.returns-clause-tokens
returns-clause-tokens c = finished c.args.source.now c.loop-at.at c.loop-at.tokens.items c.loop-at.invariant.0 c.loop-at-test.false

pub returns-clause-only : goal.returns-clause-only
returns-clause-only c = λ ts all. only_tokens c.args.source.now c.loop-at.at c.loop-at.tokens.items ts c.loop-at.invariant.0 c.loop-at-test.false all

pub returns-clause-first : goal.returns-clause-first
returns-clause-first c = λ e found. no_error c.args.source.now c.loop-at.at c.loop-at.tokens.items c.loop-at.invariant.0 c.loop-at-test.false e found

pub returns-in-OpenComment-clause-only : goal.returns-in-OpenComment-clause-only
returns-in-OpenComment-clause-only c = λ ts all. absurd (no_tokens c.args.source.now c.loop-at.at c.loop-at.tokens.items ts standing.OpenComment c.loop-at.invariant.0 tt (here c.args.source.now c.loop-at.at standing.OpenComment c.in-OpenComment.ensures) all)

pub returns-in-OpenComment-clause-fault : goal.returns-in-OpenComment-clause-fault
returns-in-OpenComment-clause-fault c = inr (fault_here c.args.source.now c.loop-at.at c.loop-at.tokens.items standing.OpenComment c.loop-at.invariant.0 (here c.args.source.now c.loop-at.at standing.OpenComment c.in-OpenComment.ensures))

pub returns-in-OpenComment-clause-first : goal.returns-in-OpenComment-clause-first
returns-in-OpenComment-clause-first c = λ e found. inl (only_error c.args.source.now c.loop-at.at c.loop-at.tokens.items standing.OpenComment c.loop-at.invariant.0 tt (here c.args.source.now c.loop-at.at standing.OpenComment c.in-OpenComment.ensures) e found)

pub returns-in-OpenString-clause-only : goal.returns-in-OpenString-clause-only
returns-in-OpenString-clause-only c = λ ts all. absurd (no_tokens c.args.source.now c.loop-at.at c.loop-at.tokens.items ts standing.OpenString c.loop-at.invariant.0 tt (here c.args.source.now c.loop-at.at standing.OpenString c.in-OpenString.ensures) all)

pub returns-in-OpenString-clause-fault : goal.returns-in-OpenString-clause-fault
returns-in-OpenString-clause-fault c = inr (fault_here c.args.source.now c.loop-at.at c.loop-at.tokens.items standing.OpenString c.loop-at.invariant.0 (here c.args.source.now c.loop-at.at standing.OpenString c.in-OpenString.ensures))

pub returns-in-OpenString-clause-first : goal.returns-in-OpenString-clause-first
returns-in-OpenString-clause-first c = λ e found. inl (only_error c.args.source.now c.loop-at.at c.loop-at.tokens.items standing.OpenString c.loop-at.invariant.0 tt (here c.args.source.now c.loop-at.at standing.OpenString c.in-OpenString.ensures) e found)

pub returns-in-NoToken-clause-only : goal.returns-in-NoToken-clause-only
returns-in-NoToken-clause-only c = λ ts all. absurd (no_tokens c.args.source.now c.loop-at.at c.loop-at.tokens.items ts standing.NoToken c.loop-at.invariant.0 tt (here c.args.source.now c.loop-at.at standing.NoToken c.in-NoToken.ensures) all)

pub returns-in-NoToken-clause-fault : goal.returns-in-NoToken-clause-fault
returns-in-NoToken-clause-fault c = inr (fault_here c.args.source.now c.loop-at.at c.loop-at.tokens.items standing.NoToken c.loop-at.invariant.0 (here c.args.source.now c.loop-at.at standing.NoToken c.in-NoToken.ensures))

pub returns-in-NoToken-clause-first : goal.returns-in-NoToken-clause-first
returns-in-NoToken-clause-first c = λ e found. inl (only_error c.args.source.now c.loop-at.at c.loop-at.tokens.items standing.NoToken c.loop-at.invariant.0 tt (here c.args.source.now c.loop-at.at standing.NoToken c.in-NoToken.ensures) e found)
