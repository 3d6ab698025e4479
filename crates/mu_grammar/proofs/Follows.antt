-- What follows the parts of a component, by tests of one token.
use Rattle.mu_grammar.proofs.Common
use Common.{◌≡◌, advances, at_item, begin, begin_first_item, begin_item, closed, Component}
use Common.{descends, Err, false, follow_modifications, follow_name, follow_size, follow_value}
use Common.{for_size, for_value, IfOk, is_fixed, mark, modifications, Ok, Place, refl, Result}
use Common.{Symbol, true}
use Rattle.mu_grammar.specs.Closing.{is_close, is_open_square}
use Rattle.mu_lexer.specs.declared.token.Mark.TheVariants as marks
use Rattle.mu_grammar.specs.declared.symbol.Fixed.TheVariants as fixed

-- what holds of a value where there is one
pub if_ok_map : {A E : Type 0} (r : Result A E) (P Q : A → Type 0) → ((a : A) → P a → Q a) → IfOk r P → IfOk r Q
if_ok_map (Ok a) P Q then is = then a is
if_ok_map (Err e) P Q then is = is

pub closes_first : (p : Place) (x : Symbol) → is_close x ≡ true → begin_first_item p x ≡ advances (closed p)
closes_first p (mark marks.CloseRound at) is = refl
closes_first p x is = absurd (let e : false ≡ true = is in cc)

pub item_first : (p : Place) (x : Symbol) → is_close x ≡ false → begin_first_item p x ≡ begin_item p x
item_first p (mark marks.CloseRound at) is = cc
item_first p x is = refl

pub size_opens : (c : Component) (x : Symbol) → is_open_square x ≡ true → follow_name c x ≡ descends 0 (begin (for_size c))
size_opens c (mark marks.OpenSquare at) is = refl
size_opens c x is = absurd (let e : false ≡ true = is in cc)

pub no_size : (c : Component) (x : Symbol) → is_open_square x ≡ false → follow_name c x ≡ follow_size c x
no_size c (mark marks.OpenSquare at) is = cc
no_size c x is = refl

pub mods_open : (c : Component) (x : Symbol) → is_fixed fixed.OpenBracket x ≡ true → follow_size c x ≡ descends 0 (at_item (modifications c))
mods_open c (mark marks.OpenRound at) is = refl
mods_open c x is = absurd (let e : false ≡ true = is in cc)

pub no_mods : (c : Component) (x : Symbol) → is_fixed fixed.OpenBracket x ≡ false → follow_size c x ≡ follow_modifications c x
no_mods c (mark marks.OpenRound at) is = cc
no_mods c x is = refl

pub value_begins : (c : Component) (x : Symbol) → is_fixed fixed.EqualSign x ≡ true → follow_modifications c x ≡ advances (begin (for_value c))
value_begins c (mark marks.Equal at) is = refl
value_begins c x is = absurd (let e : false ≡ true = is in cc)

pub no_value : (c : Component) (x : Symbol) → is_fixed fixed.EqualSign x ≡ false → follow_modifications c x ≡ follow_value c x
no_value c (mark marks.Equal at) is = cc
no_value c x is = refl
