use Rattle.mu_lexer.proofs.Common
use Common.{◌∙◌, ◌≡◌, ap, arith, begins_slash, block_length, drop, false, get_or, is_blank}
use Common.{length-drop, sym, take_rest}
use Rattle.std.proofs.lemmas.Bool.{eq-eqb}
use Rattle.mu_lexer.proofs.Places.{found_longest, found_none, either_false, block_length-within}
use Rattle.mu_lexer.proofs.Places.{begins_blank-first, begins_quote-first, eqb_no}
use Rattle.mu_lexer.proofs.lexer.classify_next.Goals as goal

pub overflow_add-result-in-Some : goal.overflow_add-result-in-Some
overflow_add-result-in-Some c =
    let h = block_length-within (drop 2 c.args.rest.now) c.in-Some.n (ap block_length (sym (take_rest c.args.rest.now 2)) ∙ sym c.in-Some.ensures) in
    omega (arith, h, length-drop 2 c.args.rest.now)

pub returns-in-Some-longest_lex_match : goal.returns-in-Some-longest_lex_match
returns-in-Some-longest_lex_match c =
    let line : begins_slash 47 c.args.rest.now ≡ false = cc in
    let block : begins_slash 42 c.args.rest.now ≡ false = cc in
    (either_false line block, found_longest c.args.rest.now c.in-Some-longest_lex_match.kind c.lex_word_kind.result c.in-Some-longest_lex_match.n c.lex_word_kind.ensures c.in-Some-longest_lex_match.ensures)

pub returns-then-rest-eq34 : goal.returns-then-rest-eq34
returns-then-rest-eq34 c =
    (begins_quote-first c.args.rest.now c.requires ∙ eq-eqb (get_or c.args.rest.now 0 0) 34 c.if-rest-eq34.true, found_none c.args.rest.now c.in-None-longest_lex_match.ensures)

pub returns-else-rest-eq34 : goal.returns-else-rest-eq34
returns-else-rest-eq34 c =
    let line : begins_slash 47 c.args.rest.now ≡ false = cc in
    let block : begins_slash 42 c.args.rest.now ≡ false = cc in
    let blank : is_blank (get_or c.args.rest.now 0 0) ≡ false = cc in (
      c.requires,
      begins_blank-first c.args.rest.now c.requires ∙ blank,
      either_false line block,
      begins_quote-first c.args.rest.now c.requires ∙ eqb_no (get_or c.args.rest.now 0 0) 34 c.if-rest-eq34.false,
      found_none c.args.rest.now c.in-None-longest_lex_match.ensures,
    )
