-- What the grammar of conditions allows, the machine reads.
use Rattle.mu_grammar.proofs.Common
use Common.{[], ℕ, ◌<◌, ◌∙◌, ◌∷◌, ◌≡◌, after_factor, after_left, after_primary, ap, at_exponent}
use Common.{at_sum, before, behind, brackets, compare, compared, compares, complete, Condition}
use Common.{depth_at, depth_of, Expression, fails, false, first_part, Frame, goes, holds, in_left}
use Common.{in_right, inside, IsCondition, IsSum, left_move, length, List, Mark, mark, MoreFactors}
use Common.{MoreTerms, Move, moves, nested, nests, None, number, opens, Option, Position, Power}
use Common.{product_of, refl, Rel, relation_of, right_move, Scaled, scaled, Signed, signed, Some}
use Common.{Stage, step, subst, suc, sum_of, sym, Symbol, Turn, turn, word, wrong, zero}
use Rattle.mu_grammar.proofs.SumsComplete.{continues, Good, IsReader, GoodSum, GoodTerm, sum_read}
use Rattle.mu_grammar.proofs.SumsComplete.{sum_as_term, term_as_factor, factor_as_primary}
use Rattle.mu_grammar.proofs.SumsComplete.{factors_read, terms_read, push, with_factors}
use Rattle.mu_lexer.specs.declared.token.Word.TheVariants as words
use Rattle.mu_lexer.specs.declared.token.Mark.TheVariants as marks
use Rattle.mu_grammar.specs.Grammar as grammar
use Rattle.mu_grammar.specs.SumMachine as machine

-- a turn is good, where B says from where the machine reads the tokens, and L what may follow the condition
abbrev pub GoodTurn : ℕ → (Stage → List Symbol → Type 0) → (Condition → List Symbol → Type 0) → ℕ → Turn → List Symbol → Type 0
GoodTurn limit B L d (goes s) ts = B s ts
GoodTurn limit B L d (nests s) ts = (d < limit) × B s ts
GoodTurn limit B L d (holds c) ts = L c ts
GoodTurn limit B L d fails ts = ⊥

-- B is how the machine reads a condition at depth d, in a context where L may follow
pub record IsConditionReader (limit d : ℕ) (B : Stage → List Symbol → Type 0) (L : Condition → List Symbol → Type 0) : Type 0 where
  pub forth : (s : Stage) (x : Symbol) (ts : List Symbol) → GoodTurn limit B L (depth_of d s) (turn s x) ts → B s (x ∷ ts)
  pub back : (s : Stage) (x : Symbol) (ts : List Symbol) → B s (x ∷ ts) → GoodTurn limit B L (depth_of d s) (turn s x) ts
  pub no_end : (s : Stage) → B s [] → ⊥

module _ (limit d : ℕ) (B : Stage → List Symbol → Type 0) (L : Condition → List Symbol → Type 0) (r : IsConditionReader limit d B L) where
  compares_any : (a b : ℕ) (o : Option Rel) (e : Expression) (places : List ℕ) (at : ℕ) (ts : List Symbol) → GoodTurn limit B L a (compares o e places at) ts → GoodTurn limit B L b (compares o e places at) ts
  compares_any a b None e places at ts is = is
  compares_any a b (Some rel) e places at ts is = is

  -- a left sum that ends opens no bracket
  left_any : (a b : ℕ) (e : Expression) (places : List ℕ) (x : Symbol) (ts : List Symbol) → GoodTurn limit B L a (after_left e places x) ts → GoodTurn limit B L b (after_left e places x) ts
  left_any a b e [] (mark m at) ts is = compares_any a b (relation_of m) e [] at ts is
  left_any a b e (i ∷ places) (mark marks.CloseRound at) ts is = is
  left_any a b e (i ∷ places) (mark m at) ts is = compares_any a b (relation_of m) e (i ∷ places) at ts is
  left_any a b e [] x ts is = absurd is
  left_any a b e (i ∷ places) x ts is = absurd is

  complete_any : (a b : ℕ) (c : Condition) (k : ℕ) (x : Symbol) (ts : List Symbol) → GoodTurn limit B L a (complete c k x) ts → GoodTurn limit B L b (complete c k x) ts
  complete_any a b c (suc k) (mark marks.CloseRound at) ts is = is
  complete_any a b c zero (word words.Then at) ts is = is
  complete_any a b c (suc k) x ts is = absurd is
  complete_any a b c zero x ts is = absurd is

  -- what may follow a left sum
  abbrev pub AfterLeft : List ℕ → Expression → List Symbol → Type 0
  AfterLeft places e [] = ⊥
  AfterLeft places e (x ∷ ts) = GoodTurn limit B L (inside d places) (after_left e places x) ts

  -- what may follow a right sum
  abbrev pub AfterRight : Expression → Rel → ℕ → ℕ → Expression → List Symbol → Type 0
  AfterRight left rel at k e [] = ⊥
  AfterRight left rel at k e (x ∷ ts) = GoodTurn limit B L (nested d k) (complete (compared left rel e at) k x) ts

  left_forth : (places : List ℕ) (a : ℕ) (m : Move) (x : Symbol) (ts : List Symbol) → Good limit (λ p fs us. B (in_left places p fs) us) (AfterLeft places) a m x ts → GoodTurn limit B L a (left_move places m x) ts
  left_forth places a (moves p fs) x ts is = is
  left_forth places a (opens p fs) x ts is = is
  left_forth places a (machine.ends e) x ts is = left_any (inside d places) a e places x ts is
  left_forth places a wrong x ts is = is

  left_back : (places : List ℕ) (a : ℕ) (m : Move) (x : Symbol) (ts : List Symbol) → GoodTurn limit B L a (left_move places m x) ts → Good limit (λ p fs us. B (in_left places p fs) us) (AfterLeft places) a m x ts
  left_back places a (moves p fs) x ts is = is
  left_back places a (opens p fs) x ts is = is
  left_back places a (machine.ends e) x ts is = left_any a (inside d places) e places x ts is
  left_back places a wrong x ts is = is

  left_stops : (places : List ℕ) (e : Expression) (x : Symbol) (ts : List Symbol) → AfterLeft places e (x ∷ ts) → continues x ≡ false
  left_stops [] e (mark marks.Plus at) ts is = absurd is
  left_stops (i ∷ places) e (mark marks.Plus at) ts is = absurd is
  left_stops [] e (mark marks.Minus at) ts is = absurd is
  left_stops (i ∷ places) e (mark marks.Minus at) ts is = absurd is
  left_stops [] e (mark marks.Times at) ts is = absurd is
  left_stops (i ∷ places) e (mark marks.Times at) ts is = absurd is
  left_stops [] e (mark marks.Divide at) ts is = absurd is
  left_stops (i ∷ places) e (mark marks.Divide at) ts is = absurd is
  left_stops [] e (mark marks.Caret at) ts is = absurd is
  left_stops (i ∷ places) e (mark marks.Caret at) ts is = absurd is
  left_stops [] e (mark marks.OpenSquare at) ts is = absurd is
  left_stops (i ∷ places) e (mark marks.OpenSquare at) ts is = absurd is
  left_stops places e x ts is = refl

  -- the sum machine reads a left sum
  pub left_reader : (places : List ℕ) → IsReader limit (inside d places) (λ p fs ts. B (in_left places p fs) ts) (AfterLeft places)
  left_reader places = record {
    forth = λ p fs x ts is. r.forth (in_left places p fs) x ts (left_forth places (depth_at (inside d places) p fs) (step p fs x) x ts is);
    back = λ p fs x ts is. left_back places (depth_at (inside d places) p fs) (step p fs x) x ts (r.back (in_left places p fs) x ts is);
    no_end = λ p fs is. r.no_end (in_left places p fs) is;
    no_rest = λ e is. is;
    stops = left_stops places;
  }

  right_forth : (left : Expression) (rel : Rel) (at k a : ℕ) (m : Move) (x : Symbol) (ts : List Symbol) → Good limit (λ p fs us. B (in_right left rel at k p fs) us) (AfterRight left rel at k) a m x ts → GoodTurn limit B L a (right_move left rel at k m x) ts
  right_forth left rel at k a (moves p fs) x ts is = is
  right_forth left rel at k a (opens p fs) x ts is = is
  right_forth left rel at k a (machine.ends e) x ts is = complete_any (nested d k) a (compared left rel e at) k x ts is
  right_forth left rel at k a wrong x ts is = is

  right_back : (left : Expression) (rel : Rel) (at k a : ℕ) (m : Move) (x : Symbol) (ts : List Symbol) → GoodTurn limit B L a (right_move left rel at k m x) ts → Good limit (λ p fs us. B (in_right left rel at k p fs) us) (AfterRight left rel at k) a m x ts
  right_back left rel at k a (moves p fs) x ts is = is
  right_back left rel at k a (opens p fs) x ts is = is
  right_back left rel at k a (machine.ends e) x ts is = complete_any a (nested d k) (compared left rel e at) k x ts is
  right_back left rel at k a wrong x ts is = is

  complete_stops : (a : ℕ) (c : Condition) (k : ℕ) (x : Symbol) (ts : List Symbol) → GoodTurn limit B L a (complete c k x) ts → continues x ≡ false
  complete_stops a c (suc k) (mark marks.CloseRound at) ts is = refl
  complete_stops a c zero (word words.Then at) ts is = refl
  complete_stops a c (suc k) x ts is = absurd is
  complete_stops a c zero x ts is = absurd is

  -- the sum machine reads a right sum
  pub right_reader : (left : Expression) (rel : Rel) (at k : ℕ) → IsReader limit (nested d k) (λ p fs ts. B (in_right left rel at k p fs) ts) (AfterRight left rel at k)
  right_reader left rel at k = record {
    forth = λ p fs x ts is. r.forth (in_right left rel at k p fs) x ts (right_forth left rel at k (depth_at (nested d k) p fs) (step p fs x) x ts is);
    back = λ p fs x ts is. right_back left rel at k (depth_at (nested d k) p fs) (step p fs x) x ts (r.back (in_right left rel at k p fs) x ts is);
    no_end = λ p fs is. r.no_end (in_right left rel at k p fs) is;
    no_rest = λ e is. is;
    stops = λ e x ts is. complete_stops (nested d k) (compared left rel e at) k x ts is;
  }

  -- where no bracket begins the tokens, a sum begins a condition
  sum_begins : (places : List ℕ) (ts : List Symbol) → B (in_left places at_sum []) ts → ((i : ℕ) (us : List Symbol) → ts ≡ mark marks.OpenRound i ∷ us → ⊥) → B (before places) ts
  sum_begins places [] is not = absurd (r.no_end (in_left places at_sum []) is)
  sum_begins places (mark marks.OpenRound i ∷ ts) is not = absurd (not i ts refl)
  sum_begins places (x ∷ ts) is not = r.forth (before places) x ts (r.back (in_left places at_sum []) x ts is)

  -- the state of the machine in a left sum
  abbrev pub InLeft : List ℕ → Position → List Frame → List Symbol → Type 0
  InLeft places p fs ts = B (in_left places p fs) ts

  left_sum : (places : List ℕ) (e : Expression) (us : List Symbol) → AfterLeft places e us → GoodSum limit (inside d places) (InLeft places) (AfterLeft places) (left_reader places) e [] us
  left_sum places e [] is = is
  left_sum places e (x ∷ us) is = is

  -- the rest of a sum after its first factor
  rest_read : {e : ℕ} {ts mid rest : List Symbol} {more : List Scaled} {terms : List Signed} (places : List ℕ) (i : ℕ) (v : Expression) → e ≡ inside d places → MoreFactors limit e ts mid more → MoreTerms limit e mid rest terms → AfterLeft places (sum_of (signed false i (product_of (scaled false i v ∷ more)) ∷ terms)) rest → B (in_left places (after_factor v (first_part [] false i i)) []) ts
  rest_read {mid = mid} {rest = rest} {more = more} {terms = terms} places i v same factors later is =
      let p = first_part [] false i i in
      let all = signed false i (product_of (scaled false i v ∷ more)) in
      factors_read limit (inside d places) (InLeft places) (AfterLeft places) (left_reader places) factors [] same p v
      (term_as_factor limit (inside d places) (InLeft places) (AfterLeft places) (left_reader places) (push limit (inside d places) (InLeft places) (AfterLeft places) (left_reader places) p v more).1 (push limit (inside d places) (InLeft places) (AfterLeft places) (left_reader places) p v more).0 [] mid
      (subst (λ us. GoodTerm limit (inside d places) (InLeft places) (AfterLeft places) (left_reader places) us [] mid) (sym (with_factors limit (inside d places) (InLeft places) (AfterLeft places) (left_reader places) p v more))
      (terms_read limit (inside d places) (InLeft places) (AfterLeft places) (left_reader places) later [] same (all ∷ [])
      (sum_as_term limit (inside d places) (InLeft places) (AfterLeft places) (left_reader places) (all ∷ terms) [] rest (left_sum places (sum_of (all ∷ terms)) rest is)))))

  -- a left sum that no bracket begins
  plain_read : {e : ℕ} {ts rest : List Symbol} {v : Expression} (places : List ℕ) → e ≡ inside d places → IsSum limit e ts rest v → AfterLeft places v rest → ((i : ℕ) (us : List Symbol) → ts ≡ mark marks.OpenRound i ∷ us → ⊥) → B (before places) ts
  plain_read {ts = ts} {rest = rest} {v = v} places same sum is not =
      sum_begins places ts (sum_read limit (inside d places) (InLeft places) (AfterLeft places) (left_reader places) sum [] same (left_sum places v rest is)) not

  -- a left sum
  left_read : {e : ℕ} {ts rest : List Symbol} {v : Expression} (places : List ℕ) → e ≡ inside d places → IsSum limit e ts rest v → AfterLeft places v rest → B (before places) ts
  left_read places same (grammar.added first later) is = plain_read places same (grammar.added first later) is (λ i us h. cc)
  left_read places same (grammar.subtracted first later) is = plain_read places same (grammar.subtracted first later) is (λ i us h. cc)
  left_read places same (grammar.unsigned (grammar.product (grammar.plain (grammar.brackets {i = i} {j = j} {ts = ts} {rest = rest} {v = v} less inner)) factors) later) is =
      r.forth (before places) (mark marks.OpenRound i) ts (
        subst (λ n. n < limit) same less,
        left_read (i ∷ places) (ap suc same) inner
            (factor_as_primary limit (inside d places) (InLeft places) (AfterLeft places) (left_reader places) v (first_part [] false i i) [] rest (rest_read places i v same factors later is)),
      )
  left_read places same (grammar.unsigned (grammar.product (grammar.power {at = at} {i = h} {exp = exp} {digits = digits} {rest = rest} (grammar.brackets {i = i} {j = j} {ts = ts} {v = v} less inner) digit) factors) later) is =
      r.forth (before places) (mark marks.OpenRound i) ts (
        subst (λ n. n < limit) same less,
        left_read (i ∷ places) (ap suc same) inner
            ((left_reader places).forth (after_primary v (first_part [] false i i)) [] (mark marks.Caret at) (number digits h ∷ rest)
            ((left_reader places).forth (at_exponent v at (first_part [] false i i)) [] (number digits h) rest
            (subst (λ o. Good limit (InLeft places) (AfterLeft places) (inside d places) (machine.power o v at (first_part [] false i i) []) (number digits h) rest) (sym digit) (rest_read places i (Power v exp at) same factors later is)))),
      )
  left_read places same (grammar.unsigned (grammar.product (grammar.plain grammar.literal) factors) later) is = plain_read places same (grammar.unsigned (grammar.product (grammar.plain grammar.literal) factors) later) is (λ i us h. cc)
  left_read places same (grammar.unsigned (grammar.product (grammar.power grammar.literal digit) factors) later) is = plain_read places same (grammar.unsigned (grammar.product (grammar.power grammar.literal digit) factors) later) is (λ i us h. cc)
  left_read places same (grammar.unsigned (grammar.product (grammar.plain grammar.time) factors) later) is = plain_read places same (grammar.unsigned (grammar.product (grammar.plain grammar.time) factors) later) is (λ i us h. cc)
  left_read places same (grammar.unsigned (grammar.product (grammar.power grammar.time digit) factors) later) is = plain_read places same (grammar.unsigned (grammar.product (grammar.power grammar.time digit) factors) later) is (λ i us h. cc)
  left_read places same (grammar.unsigned (grammar.product (grammar.plain (grammar.pre less target)) factors) later) is = plain_read places same (grammar.unsigned (grammar.product (grammar.plain (grammar.pre less target)) factors) later) is (λ i us h. cc)
  left_read places same (grammar.unsigned (grammar.product (grammar.power (grammar.pre less target) digit) factors) later) is = plain_read places same (grammar.unsigned (grammar.product (grammar.power (grammar.pre less target) digit) factors) later) is (λ i us h. cc)
  left_read places same (grammar.unsigned (grammar.product (grammar.plain (grammar.variable grammar.whole)) factors) later) is = plain_read places same (grammar.unsigned (grammar.product (grammar.plain (grammar.variable grammar.whole)) factors) later) is (λ i us h. cc)
  left_read places same (grammar.unsigned (grammar.product (grammar.power (grammar.variable grammar.whole) digit) factors) later) is = plain_read places same (grammar.unsigned (grammar.product (grammar.power (grammar.variable grammar.whole) digit) factors) later) is (λ i us h. cc)
  left_read places same (grammar.unsigned (grammar.product (grammar.plain (grammar.variable (grammar.element less sum))) factors) later) is = plain_read places same (grammar.unsigned (grammar.product (grammar.plain (grammar.variable (grammar.element less sum))) factors) later) is (λ i us h. cc)
  left_read places same (grammar.unsigned (grammar.product (grammar.power (grammar.variable (grammar.element less sum)) digit) factors) later) is = plain_read places same (grammar.unsigned (grammar.product (grammar.power (grammar.variable (grammar.element less sum)) digit) factors) later) is (λ i us h. cc)

  -- what may follow a condition in k brackets
  abbrev pub AfterCondition : ℕ → Condition → List Symbol → Type 0
  AfterCondition k c [] = ⊥
  AfterCondition k c (x ∷ ts) = GoodTurn limit B L (nested d k) (complete c k x) ts

  nested-inside : (places : List ℕ) → nested d (length places) ≡ inside d places
  nested-inside [] = refl
  nested-inside (i ∷ places) = ap suc (nested-inside places)

  pub behind_read : (c : Condition) (k : ℕ) (ts : List Symbol) → AfterCondition k c ts → B (behind c k) ts
  behind_read c k [] is = absurd is
  behind_read c k (x ∷ ts) is = r.forth (behind c k) x ts is

  right_sum : (left : Expression) (rel : Rel) (at k : ℕ) (e : Expression) (us : List Symbol) → AfterCondition k (compared left rel e at) us → GoodSum limit (nested d k) (λ p fs ts. B (in_right left rel at k p fs) ts) (AfterRight left rel at k) (right_reader left rel at k) e [] us
  right_sum left rel at k e [] is = is
  right_sum left rel at k e (x ∷ us) is = is

  pub after_left_relation : (places : List ℕ) (e : Expression) (m : Mark) (at : ℕ) (ts : List Symbol) (rel : Rel) → relation_of m ≡ Some rel → B (in_right e rel at (length places) at_sum []) ts → AfterLeft places e (mark m at ∷ ts)
  after_left_relation [] e m at ts rel found is = subst (λ o. GoodTurn limit B L (inside d []) (compares o e [] at) ts) (sym found) is
  after_left_relation (i ∷ places) e marks.CloseRound at ts rel found is = cc
  after_left_relation (i ∷ places) e m at ts rel found is = subst (λ o. GoodTurn limit B L (inside d (i ∷ places)) (compares o e (i ∷ places) at) ts) (sym found) is

  -- a condition
  pub condition_read : {e : ℕ} {ts rest : List Symbol} {c : Condition} (places : List ℕ) → e ≡ inside d places → IsCondition limit e ts rest c → AfterCondition (length places) c rest → B (before places) ts
  condition_read {rest = rest} places same (compare {at = at} {m = m} {rel = rel} {mid = mid} {left = left} {right = right} first found second) is =
      left_read places same first (after_left_relation places left m at mid rel found
      (sum_read limit (nested d (length places)) (λ p fs ts. B (in_right left rel at (length places) p fs) ts) (AfterRight left rel at (length places)) (right_reader left rel at (length places)) second [] (same ∙ sym (nested-inside places)) (right_sum left rel at (length places) right rest is)))
  condition_read {rest = rest} {c = c} places same (brackets {i = i} {j = j} {ts = ts} less inner) is =
      r.forth (before places) (mark marks.OpenRound i) ts (subst (λ n. n < limit) same less, condition_read (i ∷ places) (ap suc same) inner (behind_read c (length places) rest is))
