-- How the machine of a model reads tokens, sums and conditions, for any property of the model.
use Rattle.mu_grammar.proofs.Common
use Common.{[], ℕ, ◌<◌, ◌∷◌, ◌≡◌, advances, assigned, at_body, begin, Condition, condition_turn}
use Common.{depth_at, depth_of, derivative, descends, Effect, Expression, fails, false, finishes}
use Common.{for_first, for_index, for_last, for_quantum, for_setting, for_side, for_size, for_start}
use Common.{for_value, Frame, goes, holds, in_branch, in_condition, in_sum, initial, IsSum, level}
use Common.{List, Mark, mark, model_turn, ModelTree, Move, moves, name, nests, new_branch, number}
use Common.{opens, OpenWhen, outside, plain, Position, quoted, receive, refl, refuses, restarted}
use Common.{Stage, State, step, subst, suc, sum_move, Symbol, true, Turn, turn, Waiting, word}
use Common.{wrong}
use Rattle.mu_grammar.proofs.SumsComplete.{continues, Good, IsReader, GoodSum, sum_read}
use Rattle.mu_grammar.proofs.ConditionsComplete.{GoodTurn, IsConditionReader}
use Rattle.mu_lexer.specs.declared.token.Mark.TheVariants as marks
use Rattle.mu_grammar.specs.SumMachine as machine

-- an effect is good, where R says from where the machine reads the tokens, and F what may follow the model
abbrev pub GoodEffect : ℕ → (State → List Symbol → Type 0) → (ModelTree → List Symbol → Type 0) → Effect State ModelTree → List Symbol → Type 0
GoodEffect limit R F (advances s) ts = R s ts
GoodEffect limit R F (descends d s) ts = (d < limit) × R s ts
GoodEffect limit R F (finishes m) ts = F m ts
GoodEffect limit R F refuses ts = ⊥

-- R is how the machine reads a model, where F may follow
pub record IsModelReader (limit : ℕ) (R : State → List Symbol → Type 0) (F : ModelTree → List Symbol → Type 0) : Type 0 where
  pub forth : (s : State) (x : Symbol) (ts : List Symbol) → GoodEffect limit R F (model_turn s x) ts → R s (x ∷ ts)
  pub back : (s : State) (x : Symbol) (ts : List Symbol) → R s (x ∷ ts) → GoodEffect limit R F (model_turn s x) ts
  pub no_end : (s : State) → R s [] → ⊥

-- no sum is followed by a mark that would go on with it
receives_no_mark : (w : Waiting) (e : Expression) (m : Mark) (at : ℕ) → continues (mark m at) ≡ true → receive w e (mark m at) ≡ refuses
receives_no_mark (for_size c) e marks.CloseSquare at is = cc
receives_no_mark (for_size c) e m at is = refl
receives_no_mark (for_start c) e marks.Comma at is = cc
receives_no_mark (for_start c) e marks.CloseRound at is = cc
receives_no_mark (for_start c) e m at is = refl
receives_no_mark (for_value c) e marks.Comma at is = cc
receives_no_mark (for_value c) e marks.Semicolon at is = cc
receives_no_mark (for_value c) e m at is = refl
receives_no_mark (for_quantum c) e marks.Comma at is = cc
receives_no_mark (for_quantum c) e marks.CloseRound at is = cc
receives_no_mark (for_quantum c) e m at is = refl
receives_no_mark (for_setting o ss which i) e marks.Comma at is = cc
receives_no_mark (for_setting o ss which i) e marks.CloseRound at is = cc
receives_no_mark (for_setting o ss which i) e m at is = refl
receives_no_mark (for_index n i a) e marks.CloseSquare at is = cc
receives_no_mark (for_index n i a) e m at is = refl
receives_no_mark (for_side (plain d ls) r) e marks.Semicolon at is = cc
receives_no_mark (for_side (plain d ls) r) e m at is = refl
receives_no_mark (for_side (derivative d ls) r) e marks.Semicolon at is = cc
receives_no_mark (for_side (derivative d ls) r) e m at is = refl
receives_no_mark (for_side (initial d ls) r) e marks.Semicolon at is = cc
receives_no_mark (for_side (initial d ls) r) e m at is = refl
receives_no_mark (for_side (assigned b ls) r) e marks.Semicolon at is = cc
receives_no_mark (for_side (assigned b ls) r) e m at is = refl
receives_no_mark (for_side (restarted b ls) r) e marks.CloseRound at is = cc
receives_no_mark (for_side (restarted b ls) r) e m at is = refl
receives_no_mark (for_first b n i) e marks.Colon at is = cc
receives_no_mark (for_first b n i) e m at is = refl
receives_no_mark (for_last b n i f) e m at is = refl

receives_none : (w : Waiting) (e : Expression) (x : Symbol) → continues x ≡ true → receive w e x ≡ refuses
receives_none w e (number digits at) is = cc
receives_none w e (name n at) is = cc
receives_none w e (quoted at) is = cc
receives_none w e (word v at) is = cc
receives_none w e (mark m at) is = receives_no_mark w e m at is

module _ (limit : ℕ) (R : State → List Symbol → Type 0) (F : ModelTree → List Symbol → Type 0) (r : IsModelReader limit R F) where
  -- the tokens are read where this says what each of them does
  abbrev pub Follow : (Symbol → Effect State ModelTree) → List Symbol → Type 0
  Follow f [] = ⊥
  Follow f (x ∷ ts) = GoodEffect limit R F (f x) ts

  pub follow : (s : State) (ts : List Symbol) → R s ts → Follow (model_turn s) ts
  follow s [] is = r.no_end s is
  follow s (x ∷ ts) is = r.back s x ts is

  pub read : (s : State) (ts : List Symbol) → Follow (model_turn s) ts → R s ts
  read s [] is = absurd is
  read s (x ∷ ts) is = r.forth s x ts is

  -- the machine is in a sum
  abbrev pub InSum : Waiting → Position → List Frame → List Symbol → Type 0
  InSum w p fs ts = R (in_sum w p fs) ts

  -- what may follow the sum
  abbrev pub AfterSum : Waiting → Expression → List Symbol → Type 0
  AfterSum w e ts = Follow (receive w e) ts

  move_good : (w : Waiting) (d : ℕ) (m : Move) (x : Symbol) (ts : List Symbol) → Good limit (InSum w) (AfterSum w) d m x ts → GoodEffect limit R F (sum_move w d m x) ts
  move_good w d (moves p fs) x ts is = is
  move_good w d (opens p fs) x ts is = is
  move_good w d (machine.ends e) x ts is = is
  move_good w d wrong x ts is = is

  good_move : (w : Waiting) (d : ℕ) (m : Move) (x : Symbol) (ts : List Symbol) → GoodEffect limit R F (sum_move w d m x) ts → Good limit (InSum w) (AfterSum w) d m x ts
  good_move w d (moves p fs) x ts is = is
  good_move w d (opens p fs) x ts is = is
  good_move w d (machine.ends e) x ts is = is
  good_move w d wrong x ts is = is

  stops : (w : Waiting) (e : Expression) (x : Symbol) (ts : List Symbol) → AfterSum w e (x ∷ ts) → continues x ≡ false
  stops w e x ts is = by (continues x) refl
    where
      by : (b : _) → continues x ≡ b → continues x ≡ false
      by true on = absurd (subst (λ f. GoodEffect limit R F f ts) (receives_none w e x on) is)
      by false off = off

  -- the machine reads a sum
  pub sum_reader : (w : Waiting) → IsReader limit (outside w) (InSum w) (AfterSum w)
  sum_reader w = record {
    forth = λ p fs x ts is. r.forth (in_sum w p fs) x ts (move_good w (depth_at (outside w) p fs) (step p fs x) x ts is);
    back = λ p fs x ts is. good_move w (depth_at (outside w) p fs) (step p fs x) x ts (r.back (in_sum w p fs) x ts is);
    no_end = λ p fs is. r.no_end (in_sum w p fs) is;
    no_rest = λ e is. is;
    stops = stops w;
  }

  sum_after : (w : Waiting) (e : Expression) (ts : List Symbol) → AfterSum w e ts → GoodSum limit (outside w) (InSum w) (AfterSum w) (sum_reader w) e [] ts
  sum_after w e [] is = is
  sum_after w e (x ∷ ts) is = is

  -- a sum, and what may follow it
  pub sum_begins : {d : ℕ} {ts rest : List Symbol} {e : Expression} (w : Waiting) → d ≡ outside w → IsSum limit d ts rest e → AfterSum w e rest → R (begin w) ts
  sum_begins {rest = rest} {e = e} w same sum is = sum_read limit (outside w) (InSum w) (AfterSum w) (sum_reader w) sum [] same (sum_after w e rest is)

  -- the machine is in a condition
  abbrev pub InCondition : OpenWhen → Stage → List Symbol → Type 0
  InCondition w s ts = R (in_condition w s) ts

  -- what may follow the condition
  abbrev pub AfterThen : OpenWhen → Condition → List Symbol → Type 0
  AfterThen w c ts = R (at_body (in_branch (new_branch w c) [])) ts

  turn_good : (w : OpenWhen) (d : ℕ) (t : Turn) (ts : List Symbol) → GoodTurn limit (InCondition w) (AfterThen w) d t ts → GoodEffect limit R F (condition_turn w d t) ts
  turn_good w d (goes s) ts is = is
  turn_good w d (nests s) ts is = is
  turn_good w d (holds c) ts is = is
  turn_good w d fails ts is = is

  good_turn : (w : OpenWhen) (d : ℕ) (t : Turn) (ts : List Symbol) → GoodEffect limit R F (condition_turn w d t) ts → GoodTurn limit (InCondition w) (AfterThen w) d t ts
  good_turn w d (goes s) ts is = is
  good_turn w d (nests s) ts is = is
  good_turn w d (holds c) ts is = is
  good_turn w d fails ts is = is

  -- the machine reads a condition
  pub condition_reader : (w : OpenWhen) → IsConditionReader limit (suc (level 0 w.loops)) (InCondition w) (AfterThen w)
  condition_reader w = record {
    forth = λ s x ts is. r.forth (in_condition w s) x ts (turn_good w (depth_of (suc (level 0 w.loops)) s) (turn s x) ts is);
    back = λ s x ts is. good_turn w (depth_of (suc (level 0 w.loops)) s) (turn s x) ts (r.back (in_condition w s) x ts is);
    no_end = λ s is. r.no_end (in_condition w s) is;
  }
