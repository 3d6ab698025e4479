-- What each state of the machine of a model still wants, in pieces of the grammar.
use Rattle.mu_grammar.proofs.Common
use Common.{[], ℕ, ◌++◌, ◌<◌, ◌∷◌, ◌≡◌, ◌⊎◌, AddsClause, AddsEquation, AddsStart, advances, Aim}
use Common.{aim_level, Algebraic, AreBranches, AreItems, arguments, Assign, assigned, at_body}
use Common.{at_component, at_each, at_end_name, at_first_item, at_heads, at_item, at_last}
use Common.{at_model_name, at_target, at_type, at_variable, Balanced, behind_annotation}
use Common.{behind_item, behind_modifications, behind_name, behind_size, behind_string}
use Common.{behind_target, behind_target_name, behind_title, Body, body_level, Bool, Bracket}
use Common.{branch_level, Branches, branches_of, clause_kind, ClauseTree, closing, Commas}
use Common.{Component, Derivative, derivative, descends, Draft, Effect, Element, enter}
use Common.{equation_kind, EquationTree, expects, Expression, false, finishes, Fixed, fixed_token}
use Common.{for_first, for_index, for_last, for_quantum, for_setting, for_side, for_size, for_start}
use Common.{for_value, importing, in_branch, in_clauses, in_condition, in_equations, in_starts}
use Common.{in_sum, initial, InRound, IsAnnotation, IsArg, IsBareClause, IsBareEquation, IsBareMod}
use Common.{IsBareStatement, IsComponent, IsHead, IsImported, IsMod, IsOwnArg, IsRange, IsReference}
use Common.{IsSection, IsSet, IsStatement, IsSum, Kind, level, List, Listed, Loop, Mark, mark}
use Common.{MaybeString, model_of, ModelTree, modifications, name, new_branch, new_draft}
use Common.{next_branch, of_component, of_model, OpenBranch, OpenWhen, Option, outside}
use Common.{own_arguments, Owner, Place, place_level, plain, Prefix, put_equation, put_start}
use Common.{put_statement, Range, range, Reference, refuses, Restart, restarted, Runs, Setting}
use Common.{settings, settings_seen, Settled, skipping, Some, State, statement_kind, StatementTree}
use Common.{suc, Symbol, true, Waiting, whole_of, with_clause, with_component, with_equation}
use Common.{with_initial, with_quantum, with_setting, with_size, with_start, with_statement}
use Common.{with_value, Word, word}
use Rattle.mu_grammar.specs.States.{side_level}
use Rattle.mu_grammar.proofs.SumsSound.{Completes}
use Rattle.mu_grammar.proofs.ConditionsSound.{CompletesStage}
use Rattle.mu_grammar.proofs.CompleteDeclarations.{made, with_decls}
use Rattle.mu_grammar.proofs.CompleteLoops.{over}
use Rattle.mu_grammar.proofs.CompleteBodies.{with_held, filled_branch}
use Rattle.mu_lexer.specs.declared.token.Word.TheVariants as words
use Rattle.mu_lexer.specs.declared.token.Mark.TheVariants as marks
use Rattle.mu_grammar.specs.declared.symbol.Fixed.TheVariants as fixed

-- a prefix of the tokens parses as a value, and K holds for the value and the remaining tokens
pub record Reads {A : Type 0} (Is : List Symbol → List Symbol → A → Type 0) (K : A → List Symbol → Type 0) (ts : List Symbol) : Type 0 where
  pub value : A
  pub end : List Symbol
  pub reads : Is ts end value
  pub goes_on : K value end

-- one token, and K goes on
abbrev pub FixedThen : Fixed → (List Symbol → Type 0) → List Symbol → Type 0
FixedThen f K ts = (at : ℕ) × (rest : List Symbol) × (ts ≡ fixed_token f at ∷ rest) × K rest

abbrev pub MarkThen : Mark → (List Symbol → Type 0) → List Symbol → Type 0
MarkThen m K ts = (at : ℕ) × (rest : List Symbol) × (ts ≡ mark m at ∷ rest) × K rest

abbrev pub WordThen : Word → (List Symbol → Type 0) → List Symbol → Type 0
WordThen w K ts = (at : ℕ) × (rest : List Symbol) × (ts ≡ word w at ∷ rest) × K rest

abbrev pub NameThen : (List ℕ → ℕ → List Symbol → Type 0) → List Symbol → Type 0
NameThen K ts = (n : List ℕ) × (at : ℕ) × (rest : List Symbol) × (ts ≡ name n at ∷ rest) × K n at rest

-- a string or none, and K goes on
abbrev pub StringThen : (List Symbol → Type 0) → List Symbol → Type 0
StringThen K ts = (rest : List Symbol) × MaybeString ts rest × K rest

-- parts of a component that may be there, in place of those that are known
pub data SizeFrom (limit : ℕ) (z : Option Expression) : List Symbol → List Symbol → Option Expression → Type 0 where
  same_size : {ts : List Symbol} → SizeFrom limit z ts ts z
  new_size : {i j : ℕ} {ts rest : List Symbol} {v : Expression} → 0 < limit → IsSum limit 1 ts (mark marks.CloseSquare j ∷ rest) v → SizeFrom limit z (mark marks.OpenSquare i ∷ ts) rest (Some v)

pub data ModsFrom (limit : ℕ) (s : Option Expression) : List Symbol → List Symbol → Option Expression → Type 0 where
  same_mods : {ts : List Symbol} → ModsFrom limit s ts ts s
  new_mods : {i j : ℕ} {ts rest : List Symbol} {t : Option Expression} → 0 < limit → Commas (IsMod limit) s ts (mark marks.CloseRound j ∷ rest) t → ModsFrom limit s (mark marks.OpenRound i ∷ ts) rest t

pub data ValueFrom (limit : ℕ) (v : Option Expression) : List Symbol → List Symbol → Option Expression → Type 0 where
  same_value : {ts : List Symbol} → ValueFrom limit v ts ts v
  new_value : {i : ℕ} {ts rest : List Symbol} {e : Expression} → IsSum limit 0 ts rest e → ValueFrom limit v (mark marks.Equal i ∷ ts) rest (Some e)

pub data OwnFrom (limit : ℕ) (q : Option Expression) : List Symbol → List Symbol → Option Expression → Type 0 where
  same_own : {ts : List Symbol} → OwnFrom limit q ts ts q
  new_own : {i : ℕ} {ts rest : List Symbol} {t : Option Expression} → 0 < limit → InRound (IsOwnArg limit) q ts rest t → OwnFrom limit q (word words.Annotation i ∷ ts) rest t

-- items with commas between them, a bracket, and K goes on
abbrev pub CommasThen : {S : Type 0} → (S → List Symbol → List Symbol → S → Type 0) → (S → List Symbol → Type 0) → S → List Symbol → Type 0
CommasThen One K s ts = Reads (Commas One s) (λ t. MarkThen marks.CloseRound (K t)) ts

-- after an item: the bracket, or a comma and further items
abbrev pub Behind : (List Symbol → Type 0) → (List Symbol → Type 0) → List Symbol → Type 0
Behind Closed Items ts = MarkThen marks.CloseRound Closed ts ⊎ MarkThen marks.Comma Items ts

-- the rest of an item that is read over, with these brackets open, and K goes on
abbrev pub SkipThen : ℕ → ℕ → List Bracket → (List Symbol → Type 0) → List Symbol → Type 0
SkipThen limit d [] K ts = (mid : List Symbol) × Balanced limit false d ts mid × K mid
SkipThen limit d (b ∷ bs) K ts = (j : ℕ) × (mid : List Symbol) × Balanced limit true (suc (level d bs)) ts (mark (closing b) j ∷ mid) × SkipThen limit d bs K mid

-- the rest of a loop with these items, and K goes on after it
abbrev pub WithinThen : {T Ts : Type 0} → ℕ → Kind T Ts → (ℕ → List Symbol → List Symbol → T → Type 0) → ℕ → Range → List T → (T → List Symbol → Type 0) → List Symbol → Type 0
WithinThen limit kind IsBare d r xs K ts = Reads (AreItems limit kind IsBare d) (λ vs. FixedThen fixed.EndWord (FixedThen fixed.ForWord (FixedThen fixed.Semicolon (K (kind.each r (over kind xs vs)))))) ts

-- one more item in these loops, and the rest of the loops; K goes on where it stands outside all of them
abbrev pub PutThen : {T Ts : Type 0} → ℕ → ℕ → Kind T Ts → (ℕ → List Symbol → List Symbol → T → Type 0) → (T → List Symbol → Type 0) → List (Loop T) → T → List Symbol → Type 0
PutThen limit d kind IsBare K [] v ts = K v ts
PutThen limit d kind IsBare K (l ∷ ls) v ts = WithinThen limit kind IsBare (suc (level d ls)) l.range (l.items ++ v ∷ []) (PutThen limit d kind IsBare K ls) ts

-- the rest of these loops; J goes on where there are none
abbrev pub LoopsThen : {T Ts : Type 0} → ℕ → ℕ → Kind T Ts → (ℕ → List Symbol → List Symbol → T → Type 0) → (List Symbol → Type 0) → (T → List Symbol → Type 0) → List (Loop T) → List Symbol → Type 0
LoopsThen limit d kind IsBare J K [] ts = J ts
LoopsThen limit d kind IsBare J K (l ∷ ls) ts = WithinThen limit kind IsBare (suc (level d ls)) l.range l.items (PutThen limit d kind IsBare K ls) ts

module _ (limit : ℕ) (out : ModelTree) where
  -- the model is complete, and nothing follows
  abbrev pub Finishes : ModelTree → List Symbol → Type 0
  Finishes m ts = (ts ≡ []) × (m ≡ out)

  abbrev pub EndNameThen : Draft → List Setting → List Symbol → Type 0
  EndNameThen d ss ts = NameThen (λ n at. MarkThen marks.Semicolon (Finishes (model_of d.name n at d.decls d.held ss))) ts

  abbrev pub AnnotationThen : Draft → List Symbol → Type 0
  AnnotationThen d ts = Reads (IsAnnotation limit) (λ ss. FixedThen fixed.EndWord (EndNameThen d ss)) ts

  abbrev pub SectionsThen : Draft → List Symbol → Type 0
  SectionsThen d ts = Reads (Runs (IsSection limit) d.held) (λ s. AnnotationThen (with_held d s)) ts

  abbrev pub HeadsThen : Draft → List Symbol → Type 0
  HeadsThen d ts = Reads (Runs (IsHead limit) d.decls) (λ ds. SectionsThen (with_decls d ds)) ts

  -- components, and the end of their declaration
  abbrev pub ComponentsThen : Draft → Prefix → Bool → List Symbol → Type 0
  ComponentsThen d prefix whole ts = Reads (Commas (IsComponent limit prefix whole) d.decls) (λ ds. FixedThen fixed.Semicolon (HeadsThen (with_decls d ds))) ts

  -- after a component
  abbrev pub DeclaredThen : Draft → Prefix → Bool → List Symbol → Type 0
  DeclaredThen d prefix whole ts = MarkThen marks.Comma (ComponentsThen d prefix whole) ts ⊎ FixedThen fixed.Semicolon (HeadsThen d) ts

  abbrev pub BehindAnnotation : Component → List Symbol → Type 0
  BehindAnnotation c ts = DeclaredThen (with_component c) c.declared.prefix c.declared.whole ts

  abbrev pub BehindString : Component → List Symbol → Type 0
  BehindString c ts = Reads (OwnFrom limit c.declared.quantum) (λ q. BehindAnnotation (made c c.declared.size c.declared.start c.declared.value q)) ts

  abbrev pub BehindValue : Component → List Symbol → Type 0
  BehindValue c ts = StringThen (BehindString c) ts

  abbrev pub BehindMods : Component → List Symbol → Type 0
  BehindMods c ts = Reads (ValueFrom limit c.declared.value) (λ v. BehindValue (made c c.declared.size c.declared.start v c.declared.quantum)) ts

  abbrev pub BehindSize : Component → List Symbol → Type 0
  BehindSize c ts = Reads (ModsFrom limit c.declared.start) (λ s. BehindMods (made c c.declared.size s c.declared.value c.declared.quantum)) ts

  abbrev pub BehindName : Component → List Symbol → Type 0
  BehindName c ts = Reads (SizeFrom limit c.declared.size) (λ z. BehindSize (made c z c.declared.start c.declared.value c.declared.quantum)) ts

  -- items of a place and its bracket, where these are read
  abbrev pub ModItems : Component → Option Expression → List Symbol → Type 0
  ModItems c s ts = CommasThen (IsMod limit) (λ t. BehindMods (made c c.declared.size t c.declared.value c.declared.quantum)) s ts

  abbrev pub OwnItems : Component → Option Expression → List Symbol → Type 0
  OwnItems c q ts = CommasThen (IsOwnArg limit) (λ t. BehindAnnotation (made c c.declared.size c.declared.start c.declared.value t)) q ts

  abbrev pub ArgumentsEnd : Draft → Settled → List Symbol → Type 0
  ArgumentsEnd d s ts = FixedThen fixed.Semicolon (FixedThen fixed.EndWord (EndNameThen d s.settings)) ts

  abbrev pub ArgumentItems : Draft → Settled → List Symbol → Type 0
  ArgumentItems d s ts = CommasThen (IsArg limit) (ArgumentsEnd d) s ts

  abbrev pub ExperimentEnd : Owner → List Setting → List Symbol → Type 0
  ExperimentEnd (of_component c) ss ts = Behind (BehindAnnotation c) (OwnItems c c.declared.quantum) ts
  ExperimentEnd (of_model d) ss ts = Behind (ArgumentsEnd d (settings_seen ss)) (ArgumentItems d (settings_seen ss)) ts

  -- further items of a place
  abbrev pub ItemsThen : Place → List Symbol → Type 0
  ItemsThen (modifications c) ts = ModItems c c.declared.start ts
  ItemsThen (own_arguments c) ts = OwnItems c c.declared.quantum ts
  ItemsThen (arguments d s) ts = ArgumentItems d s ts
  ItemsThen (settings o ss) ts = CommasThen (IsSet limit) (ExperimentEnd o) ss ts

  -- after the bracket of a place
  abbrev pub ClosedThen : Place → List Symbol → Type 0
  ClosedThen (modifications c) ts = BehindMods c ts
  ClosedThen (own_arguments c) ts = BehindAnnotation c ts
  ClosedThen (arguments d s) ts = ArgumentsEnd d s ts
  ClosedThen (settings o ss) ts = ExperimentEnd o ss ts

  -- after an item of a place
  abbrev pub BehindItem : Place → List Symbol → Type 0
  BehindItem p ts = Behind (ClosedThen p) (ItemsThen p) ts

  -- where items may come first, or the bracket
  abbrev pub FirstItem : Place → List Symbol → Type 0
  FirstItem p ts = MarkThen marks.CloseRound (ClosedThen p) ts ⊎ ItemsThen p ts

  -- further items of a section, and the rest of the model
  abbrev pub EquationsThen : Draft → List Symbol → Type 0
  EquationsThen d ts = Reads (Runs (AddsEquation limit) d.held) (λ s. SectionsThen (with_held d s)) ts

  abbrev pub StartsThen : Draft → List Symbol → Type 0
  StartsThen d ts = Reads (Runs (AddsStart limit) d.held) (λ s. SectionsThen (with_held d s)) ts

  abbrev pub ClausesThen : Draft → List Symbol → Type 0
  ClausesThen d ts = Reads (Runs (AddsClause limit) d.held) (λ s. SectionsThen (with_held d s)) ts

  abbrev pub EquationLoops : Draft → List (Loop EquationTree) → List Symbol → Type 0
  EquationLoops d ls ts = LoopsThen limit 0 equation_kind (IsBareEquation limit) (EquationsThen d) (λ v. EquationsThen (with_equation d v)) ls ts

  abbrev pub StartLoops : Draft → List (Loop StatementTree) → List Symbol → Type 0
  StartLoops d ls ts = LoopsThen limit 0 statement_kind (IsBareStatement limit false) (StartsThen d) (λ v. StartsThen (with_initial d v)) ls ts

  abbrev pub ClauseLoops : Draft → List (Loop ClauseTree) → List Symbol → Type 0
  ClauseLoops d ls ts = LoopsThen limit 0 clause_kind (IsBareClause limit) (ClausesThen d) (λ v. ClausesThen (with_clause d v)) ls ts

  -- after the end of a clause
  abbrev pub PutClause : Draft → List (Loop ClauseTree) → ClauseTree → List Symbol → Type 0
  PutClause d ls v ts = PutThen limit 0 clause_kind (IsBareClause limit) (λ v. ClausesThen (with_clause d v)) ls v ts

  -- further branches of a clause, and its end
  abbrev pub BranchesThen : OpenWhen → List Symbol → Type 0
  BranchesThen w ts = Reads (AreBranches limit (suc (level 0 w.loops))) (λ bs. PutClause w.draft w.loops (Branches (w.branches ++ bs))) ts

  -- after the statements of a branch
  abbrev pub BranchEnd : OpenBranch → List Symbol → Type 0
  BranchEnd b ts =
      FixedThen fixed.EndWord (FixedThen fixed.WhenWord (FixedThen fixed.Semicolon (PutClause b.clause.draft b.clause.loops (Branches (branches_of b))))) ts
      ⊎ WordThen words.Elsewhen (BranchesThen (next_branch b)) ts

  -- further statements of a branch
  abbrev pub StatementsThen : OpenBranch → List Symbol → Type 0
  StatementsThen b ts = Reads (Listed (IsStatement limit true (branch_level b))) (λ vs. BranchEnd (filled_branch b.clause b.branch.condition (b.branch.body ++ vs))) ts

  abbrev pub StatementLoops : OpenBranch → List (Loop StatementTree) → List Symbol → Type 0
  StatementLoops b ls ts = LoopsThen limit (branch_level b) statement_kind (IsBareStatement limit true) (StatementsThen b) (λ v. StatementsThen (with_statement b v)) ls ts

  -- further items of a body
  abbrev pub BodyThen : Body → List Symbol → Type 0
  BodyThen (in_equations d ls) ts = EquationLoops d ls ts
  BodyThen (in_starts d ls) ts = StartLoops d ls ts
  BodyThen (in_clauses d ls) ts = ClauseLoops d ls ts
  BodyThen (in_branch b ls) ts = StatementLoops b ls ts

  -- the range of a loop, and its items
  abbrev pub RangeThen : Body → List Symbol → Type 0
  RangeThen b ts = Reads (IsRange limit (suc (body_level b))) (λ r. BodyThen (enter b r)) ts

  -- after what a reference is set to
  abbrev pub BehindSide : Aim → Reference → Expression → List Symbol → Type 0
  BehindSide (plain d ls) r e ts = StringThen (FixedThen fixed.Semicolon (BodyThen (put_equation d ls (Algebraic r e)))) ts
  BehindSide (derivative d ls) r e ts = StringThen (FixedThen fixed.Semicolon (BodyThen (put_equation d ls (Derivative r e)))) ts
  BehindSide (initial d ls) r e ts = FixedThen fixed.Semicolon (BodyThen (put_start d ls (Assign r e))) ts
  BehindSide (assigned b ls) r e ts = FixedThen fixed.Semicolon (BodyThen (put_statement b ls (Assign r e))) ts
  BehindSide (restarted b ls) r e ts = MarkThen marks.CloseRound (FixedThen fixed.Semicolon (BodyThen (put_statement b ls (Restart r e)))) ts

  -- what a reference is set to
  abbrev pub SideThen : Aim → Reference → List Symbol → Type 0
  SideThen a r ts = Reads (IsSum limit (side_level a)) (BehindSide a r) ts

  -- after a reference
  abbrev pub TargetThen : Reference → Aim → List Symbol → Type 0
  TargetThen r (plain d ls) ts = FixedThen fixed.EqualSign (SideThen (plain d ls) r) ts
  TargetThen r (derivative d ls) ts = MarkThen marks.CloseRound (FixedThen fixed.EqualSign (SideThen (derivative d ls) r)) ts
  TargetThen r (initial d ls) ts = MarkThen marks.Assign (SideThen (initial d ls) r) ts
  TargetThen r (assigned b ls) ts = MarkThen marks.Assign (SideThen (assigned b ls) r) ts
  TargetThen r (restarted b ls) ts = MarkThen marks.Comma (SideThen (restarted b ls) r) ts

  abbrev pub ReferenceThen : Aim → List Symbol → Type 0
  ReferenceThen a ts = Reads (IsReference limit (aim_level a)) (λ r. TargetThen r a) ts

  -- after the last value of a loop, and the first
  abbrev pub LastThen : Body → List ℕ → ℕ → Expression → Expression → List Symbol → Type 0
  LastThen b n at e f ts = WordThen words.Loop (BodyThen (enter b (range n at e f))) ts

  abbrev pub FirstThen : Body → List ℕ → ℕ → Expression → List Symbol → Type 0
  FirstThen b n at e ts = MarkThen marks.Colon (λ us. Reads (IsSum limit (suc (body_level b))) (LastThen b n at e) us) ts

  -- after a sum
  abbrev pub SumThen : Waiting → Expression → List Symbol → Type 0
  SumThen (for_size c) e ts = MarkThen marks.CloseSquare (BehindSize (with_size c e)) ts
  SumThen (for_start c) e ts = BehindItem (modifications (with_start c e)) ts
  SumThen (for_value c) e ts = BehindValue (with_value c e) ts
  SumThen (for_quantum c) e ts = BehindItem (own_arguments (with_quantum c e)) ts
  SumThen (for_setting o ss which at) e ts = BehindItem (settings o (with_setting ss which e at)) ts
  SumThen (for_index n i a) e ts = MarkThen marks.CloseSquare (TargetThen (Element n e i) a) ts
  SumThen (for_side a r) e ts = BehindSide a r e ts
  SumThen (for_first b n at) e ts = FirstThen b n at e ts
  SumThen (for_last b n at e) f ts = LastThen b n at e f ts

  -- from this state the tokens complete the model
  abbrev pub CompletesModel : State → List Symbol → Type 0
  CompletesModel (expects f s) ts = FixedThen f (CompletesModel s) ts
  CompletesModel (in_sum w p fs) ts = Completes limit (outside w) (SumThen w) p fs ts
  CompletesModel (in_condition w s) ts = CompletesStage limit (suc (level 0 w.loops)) (λ c. StatementsThen (new_branch w c)) s ts
  CompletesModel at_model_name ts = NameThen (λ n at. StringThen (HeadsThen (new_draft n))) ts
  CompletesModel (behind_title d) ts = StringThen (HeadsThen d) ts
  CompletesModel (at_heads d) ts = HeadsThen d ts
  CompletesModel (importing d) ts = (rest : List Symbol) × IsImported ts rest × HeadsThen d rest
  CompletesModel (at_type d prefix) ts = (w : Word) × (whole : Bool) × (whole_of w ≡ Some whole) × WordThen w (ComponentsThen d prefix whole) ts
  CompletesModel (at_component d prefix whole) ts = ComponentsThen d prefix whole ts
  CompletesModel (behind_name c) ts = BehindName c ts
  CompletesModel (behind_size c) ts = BehindSize c ts
  CompletesModel (behind_modifications c) ts = BehindMods c ts
  CompletesModel (behind_string c) ts = BehindString c ts
  CompletesModel (behind_annotation c) ts = BehindAnnotation c ts
  CompletesModel (at_first_item p) ts = FirstItem p ts
  CompletesModel (at_item p) ts = ItemsThen p ts
  CompletesModel (at_each c) ts = Reads (IsBareMod limit true c.declared.start) (λ t. BehindItem (modifications (made c c.declared.size t c.declared.value c.declared.quantum))) ts
  CompletesModel (behind_item p) ts = BehindItem p ts
  CompletesModel (skipping p bs) ts = SkipThen limit (place_level p) bs (BehindItem p) ts
  CompletesModel (at_body b) ts = BodyThen b ts
  CompletesModel (at_variable b) ts = RangeThen b ts
  CompletesModel (at_target a) ts = ReferenceThen a ts
  CompletesModel (behind_target_name n at a) ts = ReferenceThen a (name n at ∷ ts)
  CompletesModel (behind_target r a) ts = TargetThen r a ts
  CompletesModel (at_end_name d ss) ts = EndNameThen d ss ts
  CompletesModel (at_last m) ts = MarkThen marks.Semicolon (Finishes m) ts

  -- the same of an effect
  abbrev pub CompletesEffect : Effect State ModelTree → List Symbol → Type 0
  CompletesEffect (advances s) ts = CompletesModel s ts
  CompletesEffect (descends d s) ts = (d < limit) × CompletesModel s ts
  CompletesEffect (finishes m) ts = Finishes m ts
  CompletesEffect refuses ts = ⊥
