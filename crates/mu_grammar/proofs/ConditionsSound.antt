-- What the machine reads as a condition, the grammar allows.
use Rattle.mu_grammar.proofs.Common
use Common.{[], ℕ, ◌<◌, ◌∷◌, ◌≡◌, ◌⊎◌, after_left, ap, before, begin_sum, behind, brackets, compare}
use Common.{compared, compares, complete, Condition, depth_at, depth_of, Expression, fails, false}
use Common.{first_part, goes, holds, in_left, in_right, inl, inr, inside, IsCondition, IsSum}
use Common.{left_move, length, List, Mark, mark, Move, moves, nested, nests, None, opens, Option}
use Common.{product_of, refl, Rel, relation_of, right_move, scaled, signed, Some, Stage, step}
use Common.{subst, suc, sum_of, Symbol, Turn, turn, word, wrong, zero}
use Rattle.mu_grammar.specs.ConditionMachine.{begin_condition}
use Rattle.mu_grammar.proofs.SumsSound.{PrimaryThen, Completes, CompletesMove, back, primary_then}
use Rattle.mu_grammar.proofs.SumsSound.{begin_sum_follows}
use Rattle.mu_lexer.specs.declared.token.Word.TheVariants as words
use Rattle.mu_lexer.specs.declared.token.Mark.TheVariants as marks
use Rattle.mu_grammar.specs.Grammar as grammar
use Rattle.mu_grammar.specs.SumMachine as machine

-- the tokens close k brackets, and then, and L holds of the rest
abbrev pub CloseThen : (Condition → List Symbol → Type 0) → ℕ → Condition → List Symbol → Type 0
CloseThen L zero c ts = (at : ℕ) × (rest : List Symbol) × (ts ≡ word words.Then at ∷ rest) × L c rest
CloseThen L (suc k) c ts = (at : ℕ) × (rest : List Symbol) × (ts ≡ mark marks.CloseRound at ∷ rest) × CloseThen L k c rest

-- a relation, a right sum, and the end of the condition
pub record RelationThen (limit d : ℕ) (L : Condition → List Symbol → Type 0) (places : List ℕ) (e : Expression) (ts : List Symbol) : Type 0 where
  pub m : Mark
  pub at : ℕ
  pub rel : Rel
  pub inner : List Symbol
  pub end : List Symbol
  pub value : Expression
  pub tokens : ts ≡ mark m at ∷ inner
  pub found : relation_of m ≡ Some rel
  pub reads : IsSum limit (inside d places) inner end value
  pub goes_on : CloseThen L (length places) (compared e rel value at) end

-- what may follow a left sum
abbrev pub LeftThen : ℕ → ℕ → (Condition → List Symbol → Type 0) → List ℕ → Expression → List Symbol → Type 0
LeftThen limit d L [] e ts = RelationThen limit d L [] e ts
LeftThen limit d L (i ∷ places) e ts =
    RelationThen limit d L (i ∷ places) e ts ⊎ ((at : ℕ) × (rest : List Symbol) × (ts ≡ mark marks.CloseRound at ∷ rest) × PrimaryThen limit (inside d places) (LeftThen limit d L places) (first_part [] false i i) e rest)

-- a sum in brackets that begins the left sum, or a whole condition
abbrev pub BeforeThen : ℕ → ℕ → (Condition → List Symbol → Type 0) → List ℕ → List Symbol → Type 0
BeforeThen limit d L places ts =
    ((end : List Symbol) × (e : Expression) × IsSum limit (inside d places) ts end e × LeftThen limit d L places e end)
    ⊎ ((end : List Symbol) × (c : Condition) × IsCondition limit (inside d places) ts end c × CloseThen L (length places) c end)

-- from this stage the tokens complete a condition, and L holds of it and what is left
abbrev pub CompletesStage : ℕ → ℕ → (Condition → List Symbol → Type 0) → Stage → List Symbol → Type 0
CompletesStage limit d L (before places) ts = BeforeThen limit d L places ts
CompletesStage limit d L (in_left places p fs) ts = Completes limit (inside d places) (LeftThen limit d L places) p fs ts
CompletesStage limit d L (in_right left rel at k p fs) ts = Completes limit (nested d k) (λ e us. CloseThen L k (compared left rel e at) us) p fs ts
CompletesStage limit d L (behind c k) ts = CloseThen L k c ts

abbrev pub CompletesTurn : ℕ → ℕ → (Condition → List Symbol → Type 0) → ℕ → Turn → List Symbol → Type 0
CompletesTurn limit d L a (goes s) ts = CompletesStage limit d L s ts
CompletesTurn limit d L a (nests s) ts = (a < limit) × (CompletesStage limit d L s ts)
CompletesTurn limit d L a (holds c) ts = L c ts
CompletesTurn limit d L a fails ts = ⊥

module _ (limit d : ℕ) (L : Condition → List Symbol → Type 0) where
  nested-inside : (places : List ℕ) → nested d (length places) ≡ inside d places
  nested-inside [] = refl
  nested-inside (i ∷ places) = ap suc (nested-inside places)

  complete_follows : (a : ℕ) (c : Condition) (k : ℕ) (x : Symbol) (ts : List Symbol) → CompletesTurn limit d L a (complete c k x) ts → CloseThen L k c (x ∷ ts)
  complete_follows a c (suc k) (mark marks.CloseRound at) ts is = (at, ts, refl, is)
  complete_follows a c zero (word words.Then at) ts is = (at, ts, refl, is)
  complete_follows a c (suc k) x ts is = absurd is
  complete_follows a c zero x ts is = absurd is

  compares_follows : (a : ℕ) (e : Expression) (places : List ℕ) (m : Mark) (at : ℕ) (ts : List Symbol) (o : Option Rel) → relation_of m ≡ o → CompletesTurn limit d L a (compares o e places at) ts → RelationThen limit d L places e (mark m at ∷ ts)
  compares_follows a e places m at ts None found is = absurd is
  compares_follows a e places m at ts (Some rel) found is = record {
    m = m;
    at = at;
    rel = rel;
    inner = ts;
    end = is.0;
    value = is.1;
    tokens = refl;
    found = found;
    reads = subst (λ n. IsSum limit n ts is.0 is.1) (nested-inside places) is.2;
    goes_on = is.3;
  }

  after_left_follows : (a : ℕ) (e : Expression) (places : List ℕ) (x : Symbol) (ts : List Symbol) → CompletesTurn limit d L a (after_left e places x) ts → LeftThen limit d L places e (x ∷ ts)
  after_left_follows a e [] (mark m at) ts is = compares_follows a e [] m at ts (relation_of m) refl is
  after_left_follows a e (i ∷ places) (mark marks.CloseRound at) ts is = inr (at, ts, refl, is)
  after_left_follows a e (i ∷ places) (mark m at) ts is = inl (compares_follows a e (i ∷ places) m at ts (relation_of m) refl is)
  after_left_follows a e [] x ts is = absurd is
  after_left_follows a e (i ∷ places) x ts is = absurd is

  left_follows : (a : ℕ) (places : List ℕ) (m : Move) (x : Symbol) (ts : List Symbol) → CompletesTurn limit d L a (left_move places m x) ts → CompletesMove limit (inside d places) (LeftThen limit d L places) a m x ts
  left_follows a places (moves p fs) x ts is = is
  left_follows a places (opens p fs) x ts is = is
  left_follows a places (machine.ends e) x ts is = after_left_follows a e places x ts is
  left_follows a places wrong x ts is = is

  right_follows : (a : ℕ) (left : Expression) (rel : Rel) (at k : ℕ) (m : Move) (x : Symbol) (ts : List Symbol) → CompletesTurn limit d L a (right_move left rel at k m x) ts → CompletesMove limit (nested d k) (λ e us. CloseThen L k (compared left rel e at) us) a m x ts
  right_follows a left rel at k (moves p fs) x ts is = is
  right_follows a left rel at k (opens p fs) x ts is = is
  right_follows a left rel at k (machine.ends e) x ts is = complete_follows a (compared left rel e at) k x ts is
  right_follows a left rel at k wrong x ts is = is

  -- a condition in brackets
  bracketed : (places : List ℕ) (i : ℕ) (ts end : List Symbol) (c : Condition) → inside d places < limit → IsCondition limit (suc (inside d places)) ts end c → CloseThen L (suc (length places)) c end → BeforeThen limit d L places (mark marks.OpenRound i ∷ ts)
  bracketed places i ts end c less reads closes = inr (closes.1, c, brackets less (subst (λ us. IsCondition limit (suc (inside d places)) ts us c) closes.2 reads), closes.3)

  related : (places : List ℕ) (i : ℕ) (ts end : List Symbol) (e : Expression) → inside d places < limit → IsSum limit (suc (inside d places)) ts end e → RelationThen limit d L (i ∷ places) e end → BeforeThen limit d L places (mark marks.OpenRound i ∷ ts)
  related places i ts end e less reads then =
      bracketed places i ts then.end (compared e then.rel then.value then.at) less (compare (subst (λ us. IsSum limit (suc (inside d places)) ts us e) then.tokens reads) then.found then.reads) then.goes_on

  opened : (places : List ℕ) (i : ℕ) (ts : List Symbol) → inside d places < limit → BeforeThen limit d L (i ∷ places) ts → BeforeThen limit d L places (mark marks.OpenRound i ∷ ts)
  opened places i ts less (inl (end, e, reads, inl then)) = related places i ts end e less reads then
  opened places i ts less (inl (end, e, reads, inr (at, rest, is, then))) =
      let first = primary_then limit (inside d places) (LeftThen limit d L places) [] (first_part [] false i i) (mark marks.OpenRound i ∷ ts) rest e (grammar.brackets less (subst (λ us. IsSum limit (suc (inside d places)) ts us e) is reads)) then in
      let factors = first.goes_on in
      inl (factors.goes_on.end, sum_of (signed false i (product_of (scaled false i first.value ∷ factors.more)) ∷ factors.goes_on.more), grammar.unsigned (grammar.product first.reads factors.reads) factors.goes_on.reads, factors.goes_on.goes_on)
  opened places i ts less (inr (end, c, reads, closes)) = bracketed places i ts end c less reads closes

  begins : (places : List ℕ) (x : Symbol) (ts : List Symbol) → CompletesTurn limit d L (inside d places) (begin_condition places x) ts → BeforeThen limit d L places (x ∷ ts)
  begins places (mark marks.OpenRound i) ts (less, is) = opened places i ts less is
  begins places x ts is = inl (begin_sum_follows limit (inside d places) (LeftThen limit d L places) [] x ts (left_follows (inside d places) places (begin_sum [] x) x ts is))

  -- each turn satisfies its guarantee
  pub back_stage : (s : Stage) (x : Symbol) (ts : List Symbol) → CompletesTurn limit d L (depth_of d s) (turn s x) ts → CompletesStage limit d L s (x ∷ ts)
  back_stage (before places) x ts is = begins places x ts is
  back_stage (in_left places p fs) x ts is = back limit (inside d places) (LeftThen limit d L places) p fs x ts (left_follows (depth_at (inside d places) p fs) places (step p fs x) x ts is)
  back_stage (in_right left rel at k p fs) x ts is = back limit (nested d k) (λ e us. CloseThen L k (compared left rel e at) us) p fs x ts (right_follows (depth_at (nested d k) p fs) left rel at k (step p fs x) x ts is)
  back_stage (behind c k) x ts is = complete_follows (nested d k) c k x ts is
