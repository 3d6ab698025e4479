-- What the grammar of declarations and annotations allows, the machine of a model reads.
use Rattle.mu_grammar.proofs.Common
use Common.{[], ℕ, ◌<◌, ◌∷◌, ◌≡◌, a_string, argument_or_skipped, arguments, at_component, at_each}
use Common.{at_end_name, at_heads, at_item, at_type, begin, behind_annotation, behind_item}
use Common.{behind_modifications, behind_name, behind_size, behind_string, between, Bool, closed}
use Common.{codes, Commas, Component, Declaration, Draft, expects, Expression, false}
use Common.{follow_component, follow_declared, follow_modifications, follow_name, follow_size}
use Common.{follow_string, follow_title, follow_value, for_quantum, for_setting, for_size}
use Common.{for_start, for_value, head, import_end, import_token, importing, InRound, is_named}
use Common.{IsAnnotation, IsArg, IsBareMod, IsComponent, IsHead, IsImported, IsKind, IsMod, IsMods}
use Common.{IsOwnAnnotation, IsOwnArg, IsSet, IsSize, IsValue, List, mark, MaybeString, ModelTree}
use Common.{modifications, name, new_component, no_more, no_string, None, of_component, of_model}
use Common.{one_more, open_experiment, Option, own_arguments, own_or_skipped, Owner, Prefix, quoted}
use Common.{refl, Runs, Setting, setting_or_skipped, settings, Settled, Some, start_or_skipped}
use Common.{State, subst, sym, Symbol, true, unsettled, whole_of, Word, word}
use Rattle.mu_grammar.specs.Skipped.{is_imported}
use Rattle.mu_grammar.proofs.ModelReaders.{GoodEffect, IsModelReader, Follow, follow, read}
use Rattle.mu_grammar.proofs.ModelReaders.{sum_begins}
use Rattle.mu_grammar.proofs.CompleteLists.{fixed_read, commas_read, items_read, round_read}
use Rattle.mu_grammar.proofs.CompleteLists.{skipped_read}
use Rattle.mu_grammar.proofs.Names.{named_apart, skips_behind_each, skips_mod, start_begins}
use Rattle.mu_grammar.proofs.Names.{skips_own, skips_argument, skips_setting}
use Rattle.mu_lexer.specs.declared.token.Word.TheVariants as words
use Rattle.mu_lexer.specs.declared.token.Mark.TheVariants as marks
use Rattle.mu_tree.specs.declared.tree.Prefix.TheVariants as prefixes
use Rattle.mu_grammar.specs.declared.symbol.Fixed.TheVariants as fixed
use Rattle.mu_grammar.specs.DeclarationGrammar as grammar
use Rattle.mu_grammar.specs.ModelGrammar as models

-- a component of which this is read after its name
abbrev pub made : Component → Option Expression → Option Expression → Option Expression → Option Expression → Component
made c length begin worth quantum = record c { declared = record c.declared { size = length; start = begin; value = worth; quantum = quantum } }

-- a model with these components
abbrev pub with_decls : Draft → List Declaration → Draft
with_decls d ds = record d { decls = ds }

module _ (limit : ℕ) (R : State → List Symbol → Type 0) (F : ModelTree → List Symbol → Type 0) (r : IsModelReader limit R F) where
  -- a modification after the word each
  bare_mod_read : (c : Component) (s t : Option Expression) (ts rest : List Symbol) → IsBareMod limit true s ts rest t → R (behind_item (modifications (made c c.declared.size t None None))) rest → R (at_each (made c c.declared.size s None None)) ts
  bare_mod_read c s t ts rest (grammar.start {j = j} {x = x} {ts = us} named sum) is =
      r.forth (at_each (made c c.declared.size s None None)) x (mark marks.Equal j ∷ us)
      (subst (λ b. GoodEffect limit R F (start_or_skipped (made c c.declared.size s None None) b x) (mark marks.Equal j ∷ us)) (sym named)
      (fixed_read limit R F r fixed.EqualSign (begin (for_start (made c c.declared.size s None None))) j us
      (sum_begins limit R F r (for_start (made c c.declared.size s None None)) refl sum (follow limit R F r (behind_item (modifications (made c c.declared.size t None None))) rest is))))
  bare_mod_read c s t ts rest (grammar.other_mod skip) is =
      skipped_read limit R F r (modifications (made c c.declared.size s None None)) (at_each (made c c.declared.size s None None)) (skips_behind_each (made c c.declared.size s None None)) (λ m i. refl) skip refl is

  -- a modification
  mod_read : (c : Component) (s t : Option Expression) (ts rest : List Symbol) → IsMod limit s ts rest t → R (behind_item (modifications (made c c.declared.size t None None))) rest → R (at_item (modifications (made c c.declared.size s None None))) ts
  mod_read c s t ts rest (grammar.each {i = i} {ts = us} one) is =
      r.forth (at_item (modifications (made c c.declared.size s None None))) (word words.Each i) us (bare_mod_read c s t us rest one is)
  mod_read c s t ts rest (grammar.bare (grammar.start {j = j} {x = x} {ts = us} named sum)) is =
      r.forth (at_item (modifications (made c c.declared.size s None None))) x (mark marks.Equal j ∷ us)
      (subst (λ f. GoodEffect limit R F f (mark marks.Equal j ∷ us)) (sym (start_begins (made c c.declared.size s None None) x named))
      (subst (λ b. GoodEffect limit R F (start_or_skipped (made c c.declared.size s None None) b x) (mark marks.Equal j ∷ us)) (sym named)
      (fixed_read limit R F r fixed.EqualSign (begin (for_start (made c c.declared.size s None None))) j us
      (sum_begins limit R F r (for_start (made c c.declared.size s None None)) refl sum (follow limit R F r (behind_item (modifications (made c c.declared.size t None None))) rest is)))))
  mod_read c s t ts rest (grammar.bare (grammar.other_mod skip)) is =
      skipped_read limit R F r (modifications (made c c.declared.size s None None)) (at_item (modifications (made c c.declared.size s None None))) (skips_mod (made c c.declared.size s None None)) (λ m i. refl) skip refl is

  -- an item of an experiment
  set_read : (o : Owner) (s t : List Setting) (ts rest : List Symbol) → IsSet limit s ts rest t → R (behind_item (settings o t)) rest → R (at_item (settings o s)) ts
  set_read o s t ts rest (grammar.set {at = at} {j = j} {n = n} {which = which} {ts = us} found sum) is =
      r.forth (at_item (settings o s)) (name n at) (mark marks.Equal j ∷ us)
      (subst (λ w. GoodEffect limit R F (setting_or_skipped o s w at) (mark marks.Equal j ∷ us)) (sym found)
      (fixed_read limit R F r fixed.EqualSign (begin (for_setting o s which at)) j us
      (sum_begins limit R F r (for_setting o s which at) refl sum (follow limit R F r (behind_item (settings o t)) rest is))))
  set_read o s t ts rest (grammar.other_set skip) is =
      skipped_read limit R F r (settings o s) (at_item (settings o s)) (skips_setting o s) (λ m i. refl) skip refl is

  -- an experiment after its name
  experiment_read : (o : Owner) (ss : List Setting) (ts rest : List Symbol) → 1 < limit → InRound (IsSet limit) [] ts rest ss → R (closed (settings o ss)) rest → GoodEffect limit R F (open_experiment o) ts
  experiment_read o ss ts rest less inside is = (less, round_read limit R F r (IsSet limit) (settings o) (set_read o) [] ss ts rest inside is)

  -- an argument of a component's annotation
  own_read : (c : Component) (s t : Option Expression) (ts rest : List Symbol) → IsOwnArg limit s ts rest t → R (behind_item (own_arguments (made c c.declared.size c.declared.start c.declared.value t))) rest → R (at_item (own_arguments (made c c.declared.size c.declared.start c.declared.value s))) ts
  own_read c s t ts rest (grammar.own_quantum {j = j} {x = x} {ts = us} named sum) is =
      let d : Component = made c c.declared.size c.declared.start c.declared.value s in
      r.forth (at_item (own_arguments d)) x (mark marks.Equal j ∷ us)
      (subst (λ b. GoodEffect limit R F (own_or_skipped d b (is_named (codes "QSS_Quantum") x) x) (mark marks.Equal j ∷ us)) (sym (named_apart (codes "QSS_Quantum") (codes "experiment") x refl named))
      (subst (λ b. GoodEffect limit R F (own_or_skipped d false b x) (mark marks.Equal j ∷ us)) (sym named)
      (fixed_read limit R F r fixed.EqualSign (begin (for_quantum d)) j us
      (sum_begins limit R F r (for_quantum d) refl sum (follow limit R F r (behind_item (own_arguments (made c c.declared.size c.declared.start c.declared.value t))) rest is)))))
  own_read c s t ts rest (grammar.own_experiment (grammar.experiment {x = x} {ts = us} {ss = ss} named less inside)) is =
      let d : Component = made c c.declared.size c.declared.start c.declared.value s in
      r.forth (at_item (own_arguments d)) x us
      (subst (λ b. GoodEffect limit R F (own_or_skipped d b (is_named (codes "QSS_Quantum") x) x) us) (sym named) (experiment_read (of_component d) ss us rest less inside is))
  own_read c s t ts rest (grammar.own_other skip) is =
      let d : Component = made c c.declared.size c.declared.start c.declared.value s in
      skipped_read limit R F r (own_arguments d) (at_item (own_arguments d)) (skips_own d) (λ m i. refl) skip refl is

  -- an argument of the model's annotation
  argument_read : (d : Draft) (s t : Settled) (ts rest : List Symbol) → IsArg limit s ts rest t → R (behind_item (arguments d t)) rest → R (at_item (arguments d s)) ts
  argument_read d s t ts rest (grammar.first_experiment fresh (grammar.experiment {x = x} {ts = us} {ss = ss} named less inside)) is =
      r.forth (at_item (arguments d s)) x us
      (subst (λ b. GoodEffect limit R F (argument_or_skipped d s b s.seen x) us) (sym named)
      (subst (λ b. GoodEffect limit R F (argument_or_skipped d s true b x) us) (sym fresh) (experiment_read (of_model d) ss us rest less inside is)))
  argument_read d s t ts rest (grammar.other_arg skip) is =
      skipped_read limit R F r (arguments d s) (at_item (arguments d s)) (skips_argument d s) (λ m i. refl) skip refl is

  -- the annotation of a component or none
  own_annotation_read : (c : Component) (q : Option Expression) (ts rest : List Symbol) → IsOwnAnnotation limit ts rest q → Follow limit R F r (follow_component (made c c.declared.size c.declared.start c.declared.value q)) rest → Follow limit R F r (follow_string (made c c.declared.size c.declared.start c.declared.value None)) ts
  own_annotation_read c q [] rest grammar.no_annotation is = is
  own_annotation_read c q (word words.Annotation at ∷ ts) rest grammar.no_annotation is = absurd is
  own_annotation_read c q (x ∷ ts) rest grammar.no_annotation is = is
  own_annotation_read c q ts rest (grammar.own_annotation {ts = us} less inside) is =
      (less, round_read limit R F r (IsOwnArg limit) (λ s. own_arguments (made c c.declared.size c.declared.start c.declared.value s)) (own_read c) None q us rest inside (read limit R F r (behind_annotation (made c c.declared.size c.declared.start c.declared.value q)) rest is))

  string_read : (c : Component) (ts rest : List Symbol) → MaybeString ts rest → Follow limit R F r (follow_string c) rest → Follow limit R F r (follow_value c) ts
  string_read c [] rest no_string is = is
  string_read c (quoted at ∷ ts) rest no_string is = absurd is
  string_read c (x ∷ ts) rest no_string is = is
  string_read c ts rest a_string is = read limit R F r (behind_string c) rest is

  value_read : (c : Component) (v : Option Expression) (ts rest : List Symbol) → IsValue limit ts rest v → Follow limit R F r (follow_value (made c c.declared.size c.declared.start v None)) rest → Follow limit R F r (follow_modifications (made c c.declared.size c.declared.start None None)) ts
  value_read c v [] rest grammar.no_value is = is
  value_read c v (mark marks.Equal at ∷ ts) rest grammar.no_value is = absurd is
  value_read c v (x ∷ ts) rest grammar.no_value is = is
  value_read c v ts rest (grammar.value sum) is = sum_begins limit R F r (for_value (made c c.declared.size c.declared.start None None)) refl sum is

  mods_read : (c : Component) (s : Option Expression) (ts rest : List Symbol) → IsMods limit ts rest s → Follow limit R F r (follow_modifications (made c c.declared.size s None None)) rest → Follow limit R F r (follow_size (made c c.declared.size None None None)) ts
  mods_read c s [] rest grammar.no_mods is = is
  mods_read c s (mark marks.OpenRound at ∷ ts) rest grammar.no_mods is = absurd is
  mods_read c s (x ∷ ts) rest grammar.no_mods is = is
  mods_read c s ts rest (grammar.mods {j = j} {ts = us} less all) is = (
    less,
    items_read limit R F r (IsMod limit) (λ s. modifications (made c c.declared.size s None None)) (mod_read c) None s us (mark marks.CloseRound j ∷ rest) all
        (r.forth (behind_item (modifications (made c c.declared.size s None None))) (mark marks.CloseRound j) rest (read limit R F r (behind_modifications (made c c.declared.size s None None)) rest is)),
  )

  size_read : (c : Component) (z : Option Expression) (ts rest : List Symbol) → IsSize limit ts rest z → Follow limit R F r (follow_size (made c z None None None)) rest → Follow limit R F r (follow_name (made c None None None None)) ts
  size_read c z [] rest grammar.no_size is = is
  size_read c z (mark marks.OpenSquare at ∷ ts) rest grammar.no_size is = absurd is
  size_read c z (x ∷ ts) rest grammar.no_size is = is
  size_read c z ts rest (grammar.size {j = j} less sum) is =
      (less, sum_begins limit R F r (for_size (made c None None None None)) refl sum (read limit R F r (behind_size (made c z None None None)) rest is))

  -- a component
  component_read : (d : Draft) (prefix : Prefix) (whole : Bool) (ds es : List Declaration) (ts rest : List Symbol) → IsComponent limit prefix whole ds ts rest es → Follow limit R F r (follow_declared (with_decls d es) prefix whole) rest → R (at_component (with_decls d ds) prefix whole) ts
  component_read d prefix whole ds es ts rest (grammar.component {at = at} {n = n} {ts = us} {us = vs} {vs = ws} {ws = xs} {xs = ys} {length = z} {begin = b} {worth = v} {quantum = q} sized modified valued titled annotated) is =
      let c : Component = new_component (with_decls d ds) prefix whole n at in
      r.forth (at_component (with_decls d ds) prefix whole) (name n at) us
      (read limit R F r (behind_name c) us
      (size_read c z us vs sized
      (mods_read (made c z None None None) b vs ws modified
      (value_read (made c z b None None) v ws xs valued
      (string_read (made c z b v None) xs ys titled
      (own_annotation_read (made c z b v None) q ys rest annotated is))))))

  -- components with commas between them
  components_read : (d : Draft) (prefix : Prefix) (whole : Bool) (ds es : List Declaration) (ts rest : List Symbol) → Commas (IsComponent limit prefix whole) ds ts rest es → Follow limit R F r (follow_declared (with_decls d es) prefix whole) rest → R (at_component (with_decls d ds) prefix whole) ts
  components_read d prefix whole ds es ts rest all is =
      commas_read (IsComponent limit prefix whole) (λ ds ts. R (at_component (with_decls d ds) prefix whole) ts) (λ ds ts. Follow limit R F r (follow_declared (with_decls d ds) prefix whole) ts) (component_read d prefix whole) (λ ds at ts is. is) ds es ts rest all is

  typed_read : (d : Draft) (prefix : Prefix) (whole : Bool) (w : Word) (at : ℕ) (ts : List Symbol) → whole_of w ≡ Some whole → R (at_component d prefix whole) ts → R (at_type d prefix) (word w at ∷ ts)
  typed_read d prefix whole words.RealType at ts is reads = r.forth (at_type d prefix) (word words.RealType at) ts (subst (λ b. R (at_component d prefix b) ts) (let e : whole ≡ false = cc in e) reads)
  typed_read d prefix whole words.IntegerType at ts is reads = r.forth (at_type d prefix) (word words.IntegerType at) ts (subst (λ b. R (at_component d prefix b) ts) (let e : whole ≡ true = cc in e) reads)
  typed_read d prefix whole w at ts is reads = absurd (let e : None ≡ Some whole = is in cc)

  -- what stands before the components
  kind_read : (d : Draft) (prefix : Prefix) (whole : Bool) (ts rest : List Symbol) → IsKind ts rest prefix whole → R (at_component d prefix whole) rest → Follow limit R F r (head d) ts
  kind_read d prefix whole ts rest (grammar.parameter {j = j} {w = w} type) is = typed_read d prefixes.Parameter whole w j rest type is
  kind_read d prefix whole ts rest (grammar.constant {j = j} {w = w} type) is = typed_read d prefixes.Constant whole w j rest type is
  kind_read d prefix whole ts rest (grammar.discrete {j = j}) is = fixed_read limit R F r fixed.RealWord (at_component d prefixes.Discrete false) j rest is
  kind_read d prefix whole ts rest grammar.plain is = is

  imported_token : (d : Draft) (x : Symbol) (ts : List Symbol) → is_imported x ≡ true → R (importing d) ts → R (importing d) (x ∷ ts)
  imported_token d (mark marks.Semicolon at) ts stands is = cc
  imported_token d x ts stands is = r.forth (importing d) x ts is

  imported_read : (d : Draft) (ts rest : List Symbol) → IsImported ts rest → R (at_heads d) rest → R (importing d) ts
  imported_read d ts rest (import_end {at = at}) is = r.forth (importing d) (mark marks.Semicolon at) rest is
  imported_read d ts rest (import_token {x = x} {ts = us} stands more) is = imported_token d x us stands (imported_read d us rest more is)

  -- an import line or a declaration
  head_read : (d : Draft) (ds es : List Declaration) (ts rest : List Symbol) → IsHead limit ds ts rest es → R (at_heads (with_decls d es)) rest → Follow limit R F r (head (with_decls d ds)) ts
  head_read d ds es ts rest (models.import_line {ts = us} line) is = imported_read (with_decls d ds) us rest line is
  head_read d ds es ts rest (models.declaration (grammar.declares {i = i} {prefix = prefix} {whole = whole} {mid = mid} kind all)) is =
      kind_read (with_decls d ds) prefix whole ts mid kind (components_read d prefix whole ds es mid (mark marks.Semicolon i ∷ rest) all is)

  -- nothing that begins a head may follow one
  heads_end : (d : Draft) (ts : List Symbol) → Follow limit R F r (between d) ts → Follow limit R F r (head d) ts
  heads_end d [] is = is
  heads_end d (word words.Import at ∷ ts) is = absurd is
  heads_end d (word words.Parameter at ∷ ts) is = absurd is
  heads_end d (word words.Constant at ∷ ts) is = absurd is
  heads_end d (word words.Discrete at ∷ ts) is = absurd is
  heads_end d (word words.RealType at ∷ ts) is = absurd is
  heads_end d (x ∷ ts) is = is

  -- import lines and declarations
  pub heads_read : (d : Draft) (ds es : List Declaration) (ts rest : List Symbol) → Runs (IsHead limit) ds ts rest es → Follow limit R F r (between (with_decls d es)) rest → Follow limit R F r (head (with_decls d ds)) ts
  heads_read d ds es ts rest no_more is = heads_end (with_decls d ds) ts is
  heads_read d ds es ts rest (one_more {t = fs} {mid = mid} first more) is =
      head_read d ds fs ts mid first (read limit R F r (at_heads (with_decls d fs)) mid (heads_read d fs es mid rest more is))

  -- a string after the model's name
  pub title_read : (d : Draft) (ts rest : List Symbol) → MaybeString ts rest → Follow limit R F r (head d) rest → Follow limit R F r (follow_title d) ts
  title_read d [] rest no_string is = is
  title_read d (quoted at ∷ ts) rest no_string is = absurd is
  title_read d (x ∷ ts) rest no_string is = is
  title_read d ts rest a_string is = read limit R F r (at_heads d) rest is

  -- the annotation of a model or none, and the end
  pub annotation_read : (d : Draft) (ss : List Setting) (ts us rest : List Symbol) (j : ℕ) → IsAnnotation limit ts us ss → us ≡ word words.End j ∷ rest → R (at_end_name d ss) rest → Follow limit R F r (between d) ts
  annotation_read d ss ts us rest j grammar.no_settings same is = subst (λ us. Follow limit R F r (between d) us) (sym same) is
  annotation_read d ss ts us rest j (grammar.annotation {i = i} {j = k} {ts = vs} {s = s} less inside) same is = (
    less,
    round_read limit R F r (IsArg limit) (arguments d) (argument_read d) unsettled s vs (mark marks.Semicolon k ∷ us) inside
        (fixed_read limit R F r fixed.Semicolon (expects fixed.EndWord (at_end_name d ss)) k us
        (subst (λ us. R (expects fixed.EndWord (at_end_name d ss)) us) (sym same) (fixed_read limit R F r fixed.EndWord (at_end_name d ss) j rest is))),
  )
