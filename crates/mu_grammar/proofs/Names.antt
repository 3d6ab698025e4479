-- What tests of names say of a token.
use Rattle.mu_grammar.proofs.Common
use Common.{ℕ, ◌||◌, ◌≡◌, argument_or_skipped, arguments, begin_argument, begin_bare_mod, begin_mod}
use Common.{begin_own, begin_setting, begin_skipped, begins_arg, begins_mod, begins_own, begins_set}
use Common.{Bool, bytes_eq, codes, Component, Draft, false, if◌then◌else◌, is_named, is_none, List}
use Common.{mark, modifications, name, None, not, number, Option, own_arguments, own_or_skipped}
use Common.{Owner, quoted, refl, Setting, setting_of, setting_or_skipped, SettingName, settings}
use Common.{Settled, Some, start_or_skipped, subst, sym, Symbol, true, word}
use Rattle.std.proofs.lemmas.Slice.Eq.{bytes_eq-Decides}
use Rattle.mu_lexer.specs.declared.token.Word.TheVariants as words

-- a token of one name is not of another
pub named_apart : (one other : List ℕ) (x : Symbol) → bytes_eq one other ≡ false → is_named one x ≡ true → is_named other x ≡ false
named_apart one other (name n at) apart is = subst (λ s. bytes_eq s other ≡ false) (sym ((bytes_eq-Decides n one).0 is)) apart
named_apart one other (number digits at) apart is = refl
named_apart one other (quoted at) apart is = refl
named_apart one other (word w at) apart is = refl
named_apart one other (mark m at) apart is = refl

-- a token that may begin a modification that is read over begins it, after the word each or not
not_start : (c : Component) (x : Symbol) (named others : Bool) → (if named then false else others) ≡ true → start_or_skipped c named x ≡ begin_skipped (modifications c) x
not_start c x true others is = cc
not_start c x false others is = refl

pub skips_behind_each : (c : Component) (x : Symbol) → begins_mod true x ≡ true → begin_bare_mod c x ≡ begin_skipped (modifications c) x
skips_behind_each c x is = not_start c x (is_named (codes "start") x) true is

pub skips_mod : (c : Component) (x : Symbol) → begins_mod false x ≡ true → begin_mod c x ≡ begin_skipped (modifications c) x
skips_mod c (word words.Each at) is = cc
skips_mod c (name n at) is = not_start c (name n at) (is_named (codes "start") (name n at)) true is
skips_mod c x is = refl

-- the name start begins the same after the word each and without it
pub start_begins : (c : Component) (x : Symbol) → is_named (codes "start") x ≡ true → begin_mod c x ≡ begin_bare_mod c x
start_begins c (name n at) is = refl
start_begins c (number digits at) is = cc
start_begins c (quoted at) is = cc
start_begins c (word w at) is = cc
start_begins c (mark m at) is = cc

skips_own_by : (c : Component) (x : Symbol) (one other : Bool) → not (one || other) ≡ true → own_or_skipped c one other x ≡ begin_skipped (own_arguments c) x
skips_own_by c x true other is = cc
skips_own_by c x false true is = cc
skips_own_by c x false false is = refl

pub skips_own : (c : Component) (x : Symbol) → begins_own x ≡ true → begin_own c x ≡ begin_skipped (own_arguments c) x
skips_own c x is = skips_own_by c x (is_named (codes "experiment") x) (is_named (codes "QSS_Quantum") x) is

skips_argument_by : (d : Draft) (s : Settled) (x : Symbol) (named seen : Bool) → (seen || not named) ≡ true → argument_or_skipped d s named seen x ≡ begin_skipped (arguments d s) x
skips_argument_by d s x true true is = refl
skips_argument_by d s x true false is = cc
skips_argument_by d s x false seen is = refl

pub skips_argument : (d : Draft) (s : Settled) (x : Symbol) → begins_arg s.seen x ≡ true → begin_argument d s x ≡ begin_skipped (arguments d s) x
skips_argument d s x is = skips_argument_by d s x (is_named (codes "experiment") x) s.seen is

skips_setting_by : (o : Owner) (ss : List Setting) (n : List ℕ) (at : ℕ) (which : Option SettingName) → is_none which ≡ true → setting_or_skipped o ss which at ≡ begin_skipped (settings o ss) (name n at)
skips_setting_by o ss n at None is = refl
skips_setting_by o ss n at (Some which) is = cc

pub skips_setting : (o : Owner) (ss : List Setting) (x : Symbol) → begins_set x ≡ true → begin_setting o ss x ≡ begin_skipped (settings o ss) x
skips_setting o ss (name n at) is = skips_setting_by o ss n at (setting_of n) is
skips_setting o ss x is = refl
