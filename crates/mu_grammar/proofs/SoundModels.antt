-- What the machine of a model reads, the grammar allows.
use Rattle.mu_grammar.proofs.Common
use Common.{ℕ, ◌∙◌, ◌∷◌, a_string, Aim, ap, assigned, at_body, at_component, at_each, at_end_name}
use Common.{at_first_item, at_heads, at_item, at_last, at_model_name, at_target, at_type}
use Common.{at_variable, behind_annotation, behind_item, behind_modifications, behind_name}
use Common.{behind_size, behind_string, behind_target, behind_target_name, behind_title, Body}
use Common.{close_equation, condition_turn, depth_at, depth_of, derivative, Draft, expects}
use Common.{Expression, fails, for_first, for_index, for_last, for_quantum, for_setting, for_side}
use Common.{for_size, for_start, for_value, goes, holds, importing, in_condition, in_sum, initial}
use Common.{IsAnnotation, level, List, mark, model_machine, model_of, model_turn, ModelTree}
use Common.{modifications, Move, moves, name, nests, new_branch, new_draft, no_string, opens}
use Common.{OpenWhen, outside, own_arguments, plain, quoted, receive, Reference, refl, restarted}
use Common.{Setting, settings, skipping, SpellsModel, State, step, subst, suc, sum_move, sym}
use Common.{Symbol, true, Turn, turn, Waiting, with_quantum, with_setting, with_start, with_value}
use Common.{word, wrong}
use Rattle.mu_grammar.specs.BodyMachine.{close_assignment, close_restart, close_side}
use Rattle.mu_grammar.specs.ModelMachine.{title_token, end_name_token, last_token}
use Rattle.mu_grammar.proofs.SumsSound.{CompletesMove, back}
use Rattle.mu_grammar.proofs.ConditionsSound.{CompletesTurn, back_stage}
use Rattle.mu_grammar.proofs.SoundStates.{FixedThen, MarkThen, NameThen, StringThen, Finishes}
use Rattle.mu_grammar.proofs.SoundStates.{EndNameThen, HeadsThen, StatementsThen, BodyThen}
use Rattle.mu_grammar.proofs.SoundStates.{BehindSide, SumThen, CompletesModel, CompletesEffect}
use Rattle.mu_grammar.proofs.SoundLists.{fixed_follows, item_follows, skip_follows}
use Rattle.mu_grammar.proofs.SoundDeclarations.{head_follows, title_follows, import_follows}
use Rattle.mu_grammar.proofs.SoundDeclarations.{component_begins, type_follows, component_follows}
use Rattle.mu_grammar.proofs.SoundDeclarations.{string_follows, value_follows, mods_follow}
use Rattle.mu_grammar.proofs.SoundDeclarations.{size_follows, name_follows, bare_mod_follows}
use Rattle.mu_grammar.proofs.SoundDeclarations.{items_follow, first_item_follows}
use Rattle.mu_grammar.proofs.SoundBodies.{target_follows, target_name_follows, target_begins}
use Rattle.mu_grammar.proofs.SoundBodies.{variable_begins, body_follows}
use Rattle.mu_lexer.specs.declared.token.Word.TheVariants as words
use Rattle.mu_lexer.specs.declared.token.Mark.TheVariants as marks
use Rattle.mu_grammar.specs.declared.symbol.Fixed.TheVariants as fixed
use Rattle.mu_grammar.specs.ModelGrammar as models
use Rattle.mu_grammar.specs.SumMachine as machine

module _ (limit : ℕ) (out : ModelTree) where
  equation_closes : (b : Body) (x : Symbol) (ts : List Symbol) → CompletesEffect limit out (close_equation b x) ts → StringThen (FixedThen fixed.Semicolon (BodyThen limit out b)) (x ∷ ts)
  equation_closes b (quoted at) ts is = (ts, a_string, is)
  equation_closes b (mark marks.Semicolon at) ts is = (mark marks.Semicolon at ∷ ts, no_string, (at, ts, refl, is))
  equation_closes b x ts is = absurd is

  assignment_closes : (b : Body) (x : Symbol) (ts : List Symbol) → CompletesEffect limit out (close_assignment b x) ts → FixedThen fixed.Semicolon (BodyThen limit out b) (x ∷ ts)
  assignment_closes b (mark marks.Semicolon at) ts is = (at, ts, refl, is)
  assignment_closes b x ts is = absurd is

  restart_closes : (b : Body) (x : Symbol) (ts : List Symbol) → CompletesEffect limit out (close_restart b x) ts → MarkThen marks.CloseRound (FixedThen fixed.Semicolon (BodyThen limit out b)) (x ∷ ts)
  restart_closes b (mark marks.CloseRound at) ts is = (at, ts, refl, is)
  restart_closes b x ts is = absurd is

  side_closes : (a : Aim) (r : Reference) (e : Expression) (x : Symbol) (ts : List Symbol) → CompletesEffect limit out (close_side a r e x) ts → BehindSide limit out a r e (x ∷ ts)
  side_closes (plain d ls) r e x ts is = equation_closes _ x ts is
  side_closes (derivative d ls) r e x ts is = equation_closes _ x ts is
  side_closes (initial d ls) r e x ts is = assignment_closes _ x ts is
  side_closes (assigned b ls) r e x ts is = assignment_closes _ x ts is
  side_closes (restarted b ls) r e x ts is = restart_closes _ x ts is

  -- a sum is complete
  received : (w : Waiting) (e : Expression) (x : Symbol) (ts : List Symbol) → CompletesEffect limit out (receive w e x) ts → SumThen limit out w e (x ∷ ts)
  received (for_size c) e (mark marks.CloseSquare at) ts is = (at, ts, refl, is)
  received (for_size c) e x ts is = absurd is
  received (for_start c) e x ts is = item_follows limit out (modifications (with_start c e)) x ts is
  received (for_value c) e x ts is = value_follows limit out (with_value c e) x ts is
  received (for_quantum c) e x ts is = item_follows limit out (own_arguments (with_quantum c e)) x ts is
  received (for_setting o ss which at) e x ts is = item_follows limit out (settings o (with_setting ss which e at)) x ts is
  received (for_index n i a) e (mark marks.CloseSquare at) ts is = (at, ts, refl, is)
  received (for_index n i a) e x ts is = absurd is
  received (for_side a r) e x ts is = side_closes a r e x ts is
  received (for_first b n i) e (mark marks.Colon at) ts (end, f, sum, is) = (at, ts, refl, record { value = f; end = end; reads = sum; goes_on = is })
  received (for_first b n i) e x ts is = absurd is
  received (for_last b n i f) e (word words.Loop at) ts is = (at, ts, refl, is)
  received (for_last b n i f) e x ts is = absurd is

  move_completes : (w : Waiting) (d : ℕ) (m : Move) (x : Symbol) (ts : List Symbol) → CompletesEffect limit out (sum_move w d m x) ts → CompletesMove limit (outside w) (SumThen limit out w) d m x ts
  move_completes w d (moves p fs) x ts is = is
  move_completes w d (opens p fs) x ts is = is
  move_completes w d (machine.ends e) x ts is = received w e x ts is
  move_completes w d wrong x ts is = is

  turn_completes : (w : OpenWhen) (d : ℕ) (t : Turn) (ts : List Symbol) → CompletesEffect limit out (condition_turn w d t) ts → CompletesTurn limit (suc (level 0 w.loops)) (λ c. StatementsThen limit out (new_branch w c)) d t ts
  turn_completes w d (goes s) ts is = is
  turn_completes w d (nests s) ts is = is
  turn_completes w d (holds c) ts is = is
  turn_completes w d fails ts is = is

  title_begins : (x : Symbol) (ts : List Symbol) → CompletesEffect limit out (title_token x) ts → NameThen (λ n at. StringThen (HeadsThen limit out (new_draft n))) (x ∷ ts)
  title_begins (name n at) ts is = (n, at, ts, refl, is)
  title_begins x ts is = absurd is

  end_name_begins : (d : Draft) (ss : List Setting) (x : Symbol) (ts : List Symbol) → CompletesEffect limit out (end_name_token d ss x) ts → EndNameThen limit out d ss (x ∷ ts)
  end_name_begins d ss (name n at) ts is = (n, at, ts, refl, is)
  end_name_begins d ss x ts is = absurd is

  last_begins : (m : ModelTree) (x : Symbol) (ts : List Symbol) → CompletesEffect limit out (last_token m x) ts → MarkThen marks.Semicolon (Finishes limit out m) (x ∷ ts)
  last_begins m (mark marks.Semicolon at) ts is = (at, ts, refl, is)
  last_begins m x ts is = absurd is

  -- each token satisfies the guarantee of its state
  pub back_model : (s : State) (x : Symbol) (ts : List Symbol) → CompletesEffect limit out (model_turn s x) ts → CompletesModel limit out s (x ∷ ts)
  back_model (expects f s) x ts is = fixed_follows limit out f s x ts is
  back_model (in_sum w p fs) x ts is = back limit (outside w) (SumThen limit out w) p fs x ts (move_completes w (depth_at (outside w) p fs) (step p fs x) x ts is)
  back_model (in_condition w s) x ts is = back_stage limit (suc (level 0 w.loops)) (λ c. StatementsThen limit out (new_branch w c)) s x ts (turn_completes w (depth_of (suc (level 0 w.loops)) s) (turn s x) ts is)
  back_model at_model_name x ts is = title_begins x ts is
  back_model (behind_title d) x ts is = title_follows limit out d x ts is
  back_model (at_heads d) x ts is = head_follows limit out d x ts is
  back_model (importing d) x ts is = import_follows limit out d x ts is
  back_model (at_type d prefix) x ts is = type_follows limit out d prefix x ts is
  back_model (at_component d prefix whole) x ts is = component_begins limit out d prefix whole x ts is
  back_model (behind_name c) x ts is = name_follows limit out c x ts is
  back_model (behind_size c) x ts is = size_follows limit out c x ts is
  back_model (behind_modifications c) x ts is = mods_follow limit out c x ts is
  back_model (behind_string c) x ts is = string_follows limit out c x ts is
  back_model (behind_annotation c) x ts is = component_follows limit out c x ts is
  back_model (at_first_item p) x ts is = first_item_follows limit out p x ts is
  back_model (at_item p) x ts is = items_follow limit out p x ts is
  back_model (at_each c) x ts is = bare_mod_follows limit out true c x ts refl is
  back_model (behind_item p) x ts is = item_follows limit out p x ts is
  back_model (skipping p bs) x ts is = skip_follows limit out p bs x ts is
  back_model (at_body b) x ts is = body_follows limit out b x ts is
  back_model (at_variable b) x ts is = variable_begins limit out b x ts is
  back_model (at_target a) x ts is = target_begins limit out a x ts is
  back_model (behind_target_name n at a) x ts is = target_name_follows limit out n at a x ts is
  back_model (behind_target r a) x ts is = target_follows limit out r a x ts is
  back_model (at_end_name d ss) x ts is = end_name_begins d ss x ts is
  back_model (at_last m) x ts is = last_begins m x ts is

  -- tokens that complete the start state parse as the model
  pub start_spells : (ts : List Symbol) → CompletesModel limit out model_machine.start ts → SpellsModel limit ts out
  start_spells ts (i, us, begins, (n, h, vs, titled, (ws, string, heads))) =
      let sections = heads.goes_on in
      let annotation = sections.goes_on in
      let ended = annotation.goes_on in
      let named = ended.3 in
      let last = named.4 in
      subst (SpellsModel limit ts) last.3.1
      (subst (λ xs. SpellsModel limit xs (model_of n named.0 named.1 heads.value sections.value annotation.value)) (sym (begins ∙ ap (λ xs. word words.Model i ∷ xs) titled))
      (models.model string heads.reads sections.reads
      (subst (λ xs. IsAnnotation limit sections.end xs annotation.value) (ended.2 ∙ ap (λ xs. word words.End ended.0 ∷ xs) (named.3 ∙ ap (λ xs. name named.0 named.1 ∷ xs) (last.2 ∙ ap (λ xs. mark marks.Semicolon last.0 ∷ xs) last.3.0))) annotation.reads)))
