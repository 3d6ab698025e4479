-- What the machine of a model reads as declarations and annotations, the grammar allows.
use Rattle.mu_grammar.proofs.Common
use Common.{[], ℕ, ◌++◌, ◌<◌, ◌||◌, ◌∙◌, ◌∷◌, ◌≡◌, a_string, ap, argument_or_skipped, arguments}
use Common.{at_type, begin_argument, begin_bare_mod, begin_first_item, begin_item, begin_mod}
use Common.{begin_own, begin_setting, begin_skipped, begins_arg, begins_mod, begins_own, begins_set}
use Common.{between, Bool, codes, Commas, Component, Draft, Expression, false, follow_component}
use Common.{follow_declared, follow_modifications, follow_name, follow_size, follow_string}
use Common.{follow_title, follow_value, head, if◌then◌else◌, import_end, import_token, inl, inr}
use Common.{InRound, is_named, is_none, IsArg, IsBareMod, IsComponent, IsExperiment, IsImported}
use Common.{IsKind, IsMod, IsMods, IsOwnAnnotation, IsOwnArg, IsSection, IsSet, IsSize, IsSum}
use Common.{IsValue, last_one, List, mark, ModelTree, modifications, name, new_component, no_more}
use Common.{no_string, None, not, number, of_component, of_model, one_more, one_then}
use Common.{open_experiment, Option, own_arguments, own_or_skipped, Owner, Place, Prefix, quoted}
use Common.{refl, Setting, setting_of, setting_or_skipped, SettingName, settings, settings_seen}
use Common.{Settled, Some, start_or_skipped, subst, sym, Symbol, true, unsettled, with_component}
use Common.{with_setting, word}
use Rattle.mu_grammar.specs.DeclarationGrammar.{is_each}
use Rattle.mu_grammar.specs.DeclarationMachine.{import_token as token_of_import, type_token}
use Rattle.mu_grammar.specs.DeclarationMachine.{component_token}
use Rattle.mu_grammar.proofs.CompleteDeclarations.{made, with_decls}
use Rattle.mu_grammar.proofs.SoundStates.{Reads, StringThen, SizeFrom, same_size, new_size}
use Rattle.mu_grammar.proofs.SoundStates.{ModsFrom, same_mods, new_mods, ValueFrom, same_value}
use Rattle.mu_grammar.proofs.SoundStates.{new_value, OwnFrom, same_own, new_own, CommasThen}
use Rattle.mu_grammar.proofs.SoundStates.{AnnotationThen, SectionsThen, HeadsThen, ComponentsThen}
use Rattle.mu_grammar.proofs.SoundStates.{DeclaredThen, BehindAnnotation, BehindString, BehindValue}
use Rattle.mu_grammar.proofs.SoundStates.{BehindMods, BehindSize, BehindName, ModItems, OwnItems}
use Rattle.mu_grammar.proofs.SoundStates.{ArgumentsEnd, ArgumentItems, ExperimentEnd, ItemsThen}
use Rattle.mu_grammar.proofs.SoundStates.{BehindItem, FirstItem, CompletesModel, CompletesEffect}
use Rattle.mu_grammar.proofs.SoundLists.{commas_then, RoundThen, round_then, skipped_follows}
use Rattle.mu_grammar.proofs.SoundLists.{closed_then}
use Rattle.mu_lexer.specs.declared.token.Word.TheVariants as words
use Rattle.mu_lexer.specs.declared.token.Mark.TheVariants as marks
use Rattle.mu_tree.specs.declared.tree.Prefix.TheVariants as prefixes
use Rattle.mu_grammar.specs.DeclarationGrammar as grammar
use Rattle.mu_grammar.specs.ModelGrammar as models

-- a part that replaces none is that part
size_from : (limit : ℕ) (ts rest : List Symbol) (z : Option Expression) → SizeFrom limit None ts rest z → IsSize limit ts rest z
size_from limit ts rest z same_size = grammar.no_size
size_from limit ts rest z (new_size less sum) = grammar.size less sum

mods_from : (limit : ℕ) (ts rest : List Symbol) (s : Option Expression) → ModsFrom limit None ts rest s → IsMods limit ts rest s
mods_from limit ts rest s same_mods = grammar.no_mods
mods_from limit ts rest s (new_mods less all) = grammar.mods less all

value_from : (limit : ℕ) (ts rest : List Symbol) (v : Option Expression) → ValueFrom limit None ts rest v → IsValue limit ts rest v
value_from limit ts rest v same_value = grammar.no_value
value_from limit ts rest v (new_value sum) = grammar.value sum

own_from : (limit : ℕ) (ts rest : List Symbol) (q : Option Expression) → OwnFrom limit None ts rest q → IsOwnAnnotation limit ts rest q
own_from limit ts rest q same_own = grammar.no_annotation
own_from limit ts rest q (new_own less inside) = grammar.own_annotation less inside

module _ (limit : ℕ) (out : ModelTree) where
  -- the model's annotation
  annotation_then : (d : Draft) (i : ℕ) (ts : List Symbol) → 0 < limit → RoundThen (IsArg limit) (ArgumentsEnd limit out d) unsettled ts → AnnotationThen limit out d (word words.Annotation i ∷ ts)
  annotation_then d i ts less inside =
      let next = inside.goes_on in
      let last = next.3 in
      record {
        value = inside.state.settings;
        end = word words.End last.0 ∷ last.1;
        reads = grammar.annotation less (subst (λ us. InRound (IsArg limit) unsettled ts us inside.state) (next.2 ∙ ap (λ us. mark marks.Semicolon next.0 ∷ us) last.2) inside.reads);
        goes_on = (last.0, last.1, refl, last.3);
      }

  -- after a section or the last of its items
  pub between_follows : (d : Draft) (x : Symbol) (ts : List Symbol) → CompletesEffect limit out (between d x) ts → SectionsThen limit out d (x ∷ ts)
  between_follows d (word words.Equation at) ts is = record { value = is.goes_on.value; end = is.goes_on.end; reads = one_more (models.equations is.reads) is.goes_on.reads; goes_on = is.goes_on.goes_on }
  between_follows d (word words.Algorithm at) ts is = record { value = is.goes_on.value; end = is.goes_on.end; reads = one_more (models.clauses is.reads) is.goes_on.reads; goes_on = is.goes_on.goes_on }
  between_follows d (word words.Initial at) ts (i, rest, token, is) = record {
    value = is.goes_on.value;
    end = is.goes_on.end;
    reads = one_more (subst (λ us. IsSection limit d.held (word words.Initial at ∷ us) is.end is.value) (sym token) (models.starts is.reads)) is.goes_on.reads;
    goes_on = is.goes_on.goes_on;
  }
  between_follows d (word words.Annotation at) ts (less, is) = record {
    value = d.held;
    end = word words.Annotation at ∷ ts;
    reads = no_more;
    goes_on = annotation_then d at ts less (round_then (IsArg limit) (ArgumentsEnd limit out d) unsettled ts is);
  }
  between_follows d (word words.End at) ts is = record {
    value = d.held;
    end = word words.End at ∷ ts;
    reads = no_more;
    goes_on = record { value = []; end = word words.End at ∷ ts; reads = grammar.no_settings; goes_on = (at, ts, refl, is) };
  }
  between_follows d x ts is = absurd is

  -- a declaration whose kind is read
  declares_then : (d : Draft) (prefix : Prefix) (whole : Bool) (ts mid : List Symbol) → IsKind ts mid prefix whole → ComponentsThen limit out d prefix whole mid → HeadsThen limit out d ts
  declares_then d prefix whole ts mid kind is =
      let next = is.goes_on in
      let heads = next.3 in
      record {
        value = heads.value;
        end = heads.end;
        reads = one_more (models.declaration (grammar.declares kind (subst (λ us. Commas (IsComponent limit prefix whole) d.decls mid us is.value) next.2 is.reads))) heads.reads;
        goes_on = heads.goes_on;
      }

  -- an import line, a declaration, or what follows them
  pub head_follows : (d : Draft) (x : Symbol) (ts : List Symbol) → CompletesEffect limit out (head d x) ts → HeadsThen limit out d (x ∷ ts)
  head_follows d (word words.Import at) ts (rest, line, is) = record { value = is.value; end = is.end; reads = one_more (models.import_line line) is.reads; goes_on = is.goes_on }
  head_follows d (word words.Parameter at) ts (w, whole, type, (j, rest, token, is)) =
      declares_then d prefixes.Parameter whole (word words.Parameter at ∷ ts) rest (subst (λ us. IsKind (word words.Parameter at ∷ us) rest prefixes.Parameter whole) (sym token) (grammar.parameter type)) is
  head_follows d (word words.Constant at) ts (w, whole, type, (j, rest, token, is)) =
      declares_then d prefixes.Constant whole (word words.Constant at ∷ ts) rest (subst (λ us. IsKind (word words.Constant at ∷ us) rest prefixes.Constant whole) (sym token) (grammar.constant type)) is
  head_follows d (word words.Discrete at) ts (j, rest, token, is) =
      declares_then d prefixes.Discrete false (word words.Discrete at ∷ ts) rest (subst (λ us. IsKind (word words.Discrete at ∷ us) rest prefixes.Discrete false) (sym token) grammar.discrete) is
  head_follows d (word words.RealType at) ts is = declares_then d prefixes.Plain false (word words.RealType at ∷ ts) ts grammar.plain is
  head_follows d x ts is = record { value = d.decls; end = x ∷ ts; reads = no_more; goes_on = between_follows d x ts is }

  pub title_follows : (d : Draft) (x : Symbol) (ts : List Symbol) → CompletesEffect limit out (follow_title d x) ts → StringThen (HeadsThen limit out d) (x ∷ ts)
  title_follows d (quoted at) ts is = (ts, a_string, is)
  title_follows d x ts is = (x ∷ ts, no_string, head_follows d x ts is)

  pub import_follows : (d : Draft) (x : Symbol) (ts : List Symbol) → CompletesEffect limit out (token_of_import d x) ts → (rest : List Symbol) × IsImported (x ∷ ts) rest × HeadsThen limit out d rest
  import_follows d (mark marks.Semicolon at) ts is = (ts, import_end, is)
  import_follows d x ts is = (is.0, import_token refl is.1, is.2)

  -- after a component
  pub declared_follows : (d : Draft) (prefix : Prefix) (whole : Bool) (x : Symbol) (ts : List Symbol) → CompletesEffect limit out (follow_declared d prefix whole x) ts → DeclaredThen limit out d prefix whole (x ∷ ts)
  declared_follows d prefix whole (mark marks.Comma at) ts is = inl (at, ts, refl, is)
  declared_follows d prefix whole (mark marks.Semicolon at) ts is = inr (at, ts, refl, is)
  declared_follows d prefix whole x ts is = absurd is

  pub component_follows : (c : Component) (x : Symbol) (ts : List Symbol) → CompletesEffect limit out (follow_component c x) ts → BehindAnnotation limit out c (x ∷ ts)
  component_follows c x ts is = declared_follows (with_component c) c.declared.prefix c.declared.whole x ts is

  pub string_follows : (c : Component) (x : Symbol) (ts : List Symbol) → CompletesEffect limit out (follow_string c x) ts → BehindString limit out c (x ∷ ts)
  string_follows c (word words.Annotation at) ts (less, is) =
      let inside = round_then (IsOwnArg limit) (λ q. BehindAnnotation limit out (made c c.declared.size c.declared.start c.declared.value q)) c.declared.quantum ts is in
      record { value = inside.state; end = inside.end; reads = new_own less inside.reads; goes_on = inside.goes_on }
  string_follows c x ts is = record { value = c.declared.quantum; end = x ∷ ts; reads = same_own; goes_on = component_follows c x ts is }

  pub value_follows : (c : Component) (x : Symbol) (ts : List Symbol) → CompletesEffect limit out (follow_value c x) ts → BehindValue limit out c (x ∷ ts)
  value_follows c (quoted at) ts is = (ts, a_string, is)
  value_follows c x ts is = (x ∷ ts, no_string, string_follows c x ts is)

  pub mods_follow : (c : Component) (x : Symbol) (ts : List Symbol) → CompletesEffect limit out (follow_modifications c x) ts → BehindMods limit out c (x ∷ ts)
  mods_follow c (mark marks.Equal at) ts is = record { value = Some is.1; end = is.0; reads = new_value is.2; goes_on = is.3 }
  mods_follow c x ts is = record { value = c.declared.value; end = x ∷ ts; reads = same_value; goes_on = value_follows c x ts is }

  pub size_follows : (c : Component) (x : Symbol) (ts : List Symbol) → CompletesEffect limit out (follow_size c x) ts → BehindSize limit out c (x ∷ ts)
  size_follows c (mark marks.OpenRound at) ts (less, is) = record {
    value = is.value;
    end = is.goes_on.1;
    reads = new_mods less (subst (λ us. Commas (IsMod limit) c.declared.start ts us is.value) is.goes_on.2 is.reads);
    goes_on = is.goes_on.3;
  }
  size_follows c x ts is = record { value = c.declared.start; end = x ∷ ts; reads = same_mods; goes_on = mods_follow c x ts is }

  pub name_follows : (c : Component) (x : Symbol) (ts : List Symbol) → CompletesEffect limit out (follow_name c x) ts → BehindName limit out c (x ∷ ts)
  name_follows c (mark marks.OpenSquare at) ts (less, is) = record {
    value = Some is.1;
    end = is.3.1;
    reads = new_size less (subst (λ us. IsSum limit 1 ts us is.1) is.3.2 is.2);
    goes_on = is.3.3;
  }
  name_follows c x ts is = record { value = c.declared.size; end = x ∷ ts; reads = same_size; goes_on = size_follows c x ts is }

  -- where a component's name must come
  pub component_begins : (d : Draft) (prefix : Prefix) (whole : Bool) (x : Symbol) (ts : List Symbol) → CompletesEffect limit out (component_token d prefix whole x) ts → ComponentsThen limit out d prefix whole (x ∷ ts)
  component_begins d prefix whole (name n at) ts is =
      let sized = is.goes_on in
      let modified = sized.goes_on in
      let valued = modified.goes_on in
      let titled = valued.2 in
      finish (made (new_component d prefix whole n at) is.value sized.value modified.value titled.value) (name n at ∷ ts) titled.end
      (grammar.component (size_from limit ts is.end is.value is.reads) (mods_from limit is.end sized.end sized.value sized.reads) (value_from limit sized.end modified.end modified.value modified.reads) valued.1 (own_from limit valued.0 titled.end titled.value titled.reads))
      titled.goes_on
    where
      finish : (c : Component) (us mid : List Symbol) → IsComponent limit prefix whole d.decls us mid (d.decls ++ c.declared ∷ []) → DeclaredThen limit out (with_decls d (d.decls ++ c.declared ∷ [])) prefix whole mid → ComponentsThen limit out d prefix whole us
      finish c us mid one (inl more) = record {
        value = more.3.value;
        end = more.3.end;
        reads = one_then (subst (λ vs. IsComponent limit prefix whole d.decls us vs (d.decls ++ c.declared ∷ [])) more.2 one) more.3.reads;
        goes_on = more.3.goes_on;
      }
      finish c us mid one (inr ends) = record { value = d.decls ++ c.declared ∷ []; end = mid; reads = last_one one; goes_on = ends }
  component_begins d prefix whole x ts is = absurd is

  pub type_follows : (d : Draft) (prefix : Prefix) (x : Symbol) (ts : List Symbol) → CompletesEffect limit out (type_token d prefix x) ts → CompletesModel limit out (at_type d prefix) (x ∷ ts)
  type_follows d prefix (word words.RealType at) ts is = (words.RealType, false, refl, (at, ts, refl, is))
  type_follows d prefix (word words.IntegerType at) ts is = (words.IntegerType, true, refl, (at, ts, refl, is))
  type_follows d prefix x ts is = absurd is

  -- an experiment after its name
  experiment_then : (o : Owner) (x : Symbol) (ts : List Symbol) → is_named (codes "experiment") x ≡ true → CompletesEffect limit out (open_experiment o) ts → Reads (IsExperiment limit) (ExperimentEnd limit out o) (x ∷ ts)
  experiment_then o x ts named (less, is) =
      let inside = round_then (IsSet limit) (ExperimentEnd limit out o) [] ts is in
      record { value = inside.state; end = inside.end; reads = grammar.experiment named less inside.reads; goes_on = inside.goes_on }

  -- what may be read over as a modification
  unnamed : (each : Bool) (x : Symbol) → (each || not (is_each x)) ≡ true → is_named (codes "start") x ≡ false → begins_mod each x ≡ true
  unnamed each x others named = subst (λ b. (if b then false else (each || not (is_each x))) ≡ true) (sym named) others

  -- a modification, after the word each or without it
  pub bare_mod_follows : (each : Bool) (c : Component) (x : Symbol) (ts : List Symbol) → (each || not (is_each x)) ≡ true → CompletesEffect limit out (begin_bare_mod c x) ts → Reads (IsBareMod limit each c.declared.start) (λ t. BehindItem limit out (modifications (made c c.declared.size t c.declared.value c.declared.quantum))) (x ∷ ts)
  bare_mod_follows each c x ts others is = by (is_named (codes "start") x) refl is
    where
      by : (b : Bool) → is_named (codes "start") x ≡ b → CompletesEffect limit out (start_or_skipped c b x) ts → Reads (IsBareMod limit each c.declared.start) (λ t. BehindItem limit out (modifications (made c c.declared.size t c.declared.value c.declared.quantum))) (x ∷ ts)
      by true named (j, us, token, (end, e, sum, goes)) = record {
        value = Some e;
        end = end;
        reads = subst (λ vs. IsBareMod limit each c.declared.start (x ∷ vs) end (Some e)) (sym token) (grammar.start named sum);
        goes_on = goes;
      }
      by false named is =
          let skip = skipped_follows limit out (modifications c) (begins_mod each) x ts (unnamed each x others named) is in
          record { value = c.declared.start; end = skip.0; reads = grammar.other_mod skip.1; goes_on = skip.2 }

  mod_item : (c : Component) (ts : List Symbol) (one : Reads (IsMod limit c.declared.start) (λ t. BehindItem limit out (modifications (made c c.declared.size t c.declared.value c.declared.quantum))) ts) → ModItems limit out c c.declared.start ts
  mod_item c ts one = commas_then (IsMod limit) (λ t. BehindMods limit out (made c c.declared.size t c.declared.value c.declared.quantum)) c.declared.start one.value ts one.end one.reads one.goes_on

  bare_item : (c : Component) (x : Symbol) (ts : List Symbol) → (not (is_each x)) ≡ true → CompletesEffect limit out (begin_bare_mod c x) ts → ModItems limit out c c.declared.start (x ∷ ts)
  bare_item c x ts others is =
      let one = bare_mod_follows false c x ts others is in
      mod_item c (x ∷ ts) (record { value = one.value; end = one.end; reads = grammar.bare one.reads; goes_on = one.goes_on })

  mod_follows : (c : Component) (x : Symbol) (ts : List Symbol) → CompletesEffect limit out (begin_mod c x) ts → ModItems limit out c c.declared.start (x ∷ ts)
  mod_follows c (word words.Each at) ts is = mod_item c (word words.Each at ∷ ts) (record { value = is.value; end = is.end; reads = grammar.each is.reads; goes_on = is.goes_on })
  mod_follows c x ts is = bare_item c x ts refl is

  neither : (one other : Bool) (x : Symbol) → is_named (codes "experiment") x ≡ one → is_named (codes "QSS_Quantum") x ≡ other → (one || other) ≡ false → begins_own x ≡ true
  neither one other x first second none = ap not ((ap (λ b. b || is_named (codes "QSS_Quantum") x) first ∙ ap (λ b. one || b) second) ∙ none)

  own_follows : (c : Component) (x : Symbol) (ts : List Symbol) → CompletesEffect limit out (begin_own c x) ts → OwnItems limit out c c.declared.quantum (x ∷ ts)
  own_follows c x ts is = by (is_named (codes "experiment") x) (is_named (codes "QSS_Quantum") x) refl refl is
    where
      item : Reads (IsOwnArg limit c.declared.quantum) (λ q. BehindItem limit out (own_arguments (made c c.declared.size c.declared.start c.declared.value q))) (x ∷ ts) → OwnItems limit out c c.declared.quantum (x ∷ ts)
      item one = commas_then (IsOwnArg limit) (λ q. BehindAnnotation limit out (made c c.declared.size c.declared.start c.declared.value q)) c.declared.quantum one.value (x ∷ ts) one.end one.reads one.goes_on

      by : (one other : Bool) → is_named (codes "experiment") x ≡ one → is_named (codes "QSS_Quantum") x ≡ other → CompletesEffect limit out (own_or_skipped c one other x) ts → OwnItems limit out c c.declared.quantum (x ∷ ts)
      by true other named second is =
          let inside = experiment_then (of_component c) x ts named is in
          item (record { value = c.declared.quantum; end = inside.end; reads = grammar.own_experiment inside.reads; goes_on = inside.goes_on })
      by false true first named (j, us, token, (end, e, sum, goes)) = item (record {
        value = Some e;
        end = end;
        reads = subst (λ vs. IsOwnArg limit c.declared.quantum (x ∷ vs) end (Some e)) (sym token) (grammar.own_quantum named sum);
        goes_on = goes;
      })
      by false false first second is =
          let skip = skipped_follows limit out (own_arguments c) begins_own x ts (neither false false x first second refl) is in
          item (record { value = c.declared.quantum; end = skip.0; reads = grammar.own_other skip.1; goes_on = skip.2 })

  argument_follows : (d : Draft) (s : Settled) (x : Symbol) (ts : List Symbol) → CompletesEffect limit out (begin_argument d s x) ts → ArgumentItems limit out d s (x ∷ ts)
  argument_follows d s x ts is = by (is_named (codes "experiment") x) s.seen refl refl is
    where
      item : Reads (IsArg limit s) (λ t. BehindItem limit out (arguments d t)) (x ∷ ts) → ArgumentItems limit out d s (x ∷ ts)
      item one = commas_then (IsArg limit) (ArgumentsEnd limit out d) s one.value (x ∷ ts) one.end one.reads one.goes_on

      over : (seen named : Bool) → s.seen ≡ seen → is_named (codes "experiment") x ≡ named → (seen || not named) ≡ true → begins_arg s.seen x ≡ true
      over seen named first second any = (ap (λ b. b || not (is_named (codes "experiment") x)) first ∙ ap (λ b. seen || not b) second) ∙ any

      skips : begins_arg s.seen x ≡ true → CompletesEffect limit out (begin_skipped (arguments d s) x) ts → ArgumentItems limit out d s (x ∷ ts)
      skips begins is =
          let skip = skipped_follows limit out (arguments d s) (begins_arg s.seen) x ts begins is in
          item (record { value = s; end = skip.0; reads = grammar.other_arg skip.1; goes_on = skip.2 })

      by : (named seen : Bool) → is_named (codes "experiment") x ≡ named → s.seen ≡ seen → CompletesEffect limit out (argument_or_skipped d s named seen x) ts → ArgumentItems limit out d s (x ∷ ts)
      by true false named fresh is =
          let inside = experiment_then (of_model d) x ts named is in
          item (record { value = settings_seen inside.value; end = inside.end; reads = grammar.first_experiment fresh inside.reads; goes_on = inside.goes_on })
      by true true named seen is = skips (over true true seen named refl) is
      by false seen named fresh is = skips (over seen false fresh named (either seen)) is
        where
          either : (b : Bool) → (b || true) ≡ true
          either true = refl
          either false = refl

  setting_follows : (o : Owner) (ss : List Setting) (x : Symbol) (ts : List Symbol) → CompletesEffect limit out (begin_setting o ss x) ts → CommasThen (IsSet limit) (ExperimentEnd limit out o) ss (x ∷ ts)
  setting_follows o ss x ts is = by x is
    where
      item : (x : Symbol) → Reads (IsSet limit ss) (λ t. BehindItem limit out (settings o t)) (x ∷ ts) → CommasThen (IsSet limit) (ExperimentEnd limit out o) ss (x ∷ ts)
      item x one = commas_then (IsSet limit) (ExperimentEnd limit out o) ss one.value (x ∷ ts) one.end one.reads one.goes_on

      skips : (x : Symbol) → begins_set x ≡ true → CompletesEffect limit out (begin_skipped (settings o ss) x) ts → CommasThen (IsSet limit) (ExperimentEnd limit out o) ss (x ∷ ts)
      skips x begins is =
          let skip = skipped_follows limit out (settings o ss) begins_set x ts begins is in
          item x (record { value = ss; end = skip.0; reads = grammar.other_set skip.1; goes_on = skip.2 })

      named : (n : List ℕ) (at : ℕ) (which : Option SettingName) → setting_of n ≡ which → CompletesEffect limit out (setting_or_skipped o ss which at) ts → CommasThen (IsSet limit) (ExperimentEnd limit out o) ss (name n at ∷ ts)
      named n at (Some which) found (j, us, token, (end, e, sum, goes)) = item (name n at) (record {
        value = with_setting ss which e at;
        end = end;
        reads = subst (λ vs. IsSet limit ss (name n at ∷ vs) end (with_setting ss which e at)) (sym token) (grammar.set found sum);
        goes_on = goes;
      })
      named n at None found is = skips (name n at) (ap is_none found) is

      by : (x : Symbol) → CompletesEffect limit out (begin_setting o ss x) ts → CommasThen (IsSet limit) (ExperimentEnd limit out o) ss (x ∷ ts)
      by (name n at) is = named n at (setting_of n) refl is
      by (number digits at) is = skips (number digits at) refl is
      by (quoted at) is = skips (quoted at) refl is
      by (word w at) is = skips (word w at) refl is
      by (mark m at) is = skips (mark m at) refl is

  -- an item of a place
  pub items_follow : (p : Place) (x : Symbol) (ts : List Symbol) → CompletesEffect limit out (begin_item p x) ts → ItemsThen limit out p (x ∷ ts)
  items_follow (modifications c) x ts is = mod_follows c x ts is
  items_follow (own_arguments c) x ts is = own_follows c x ts is
  items_follow (arguments d s) x ts is = argument_follows d s x ts is
  items_follow (settings o ss) x ts is = setting_follows o ss x ts is

  pub first_item_follows : (p : Place) (x : Symbol) (ts : List Symbol) → CompletesEffect limit out (begin_first_item p x) ts → FirstItem limit out p (x ∷ ts)
  first_item_follows p (mark marks.CloseRound at) ts is = inl (at, ts, refl, closed_then limit out p ts is)
  first_item_follows p x ts is = inr (items_follow p x ts is)
