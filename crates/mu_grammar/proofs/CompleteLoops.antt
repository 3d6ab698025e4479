-- What the grammar of loops allows, a machine reads, for any items in the loops.
use Rattle.mu_grammar.proofs.Common
use Common.{[], ℕ, ◌++◌, ◌<◌, ◌∙◌, ◌∷◌, ◌≡◌, ap, AreItems, IsItem, IsRange, item_then, Kind, level}
use Common.{List, Loop, loop, mark, no_items, Range, refl, subst, suc, sym, Symbol, with_item, word}
use Rattle.mu_grammar.specs.Loops.{bare}
use Rattle.mu_grammar.specs.BodyMachine.{new_loop}
use Rattle.mu_lexer.specs.declared.token.Word.TheVariants as words
use Rattle.mu_lexer.specs.declared.token.Mark.TheVariants as marks

-- the trees of these items and then those
abbrev pub over : {T Ts : Type 0} → Kind T Ts → List T → Ts → Ts
over kind [] vs = vs
over kind (x ∷ xs) vs = kind.then x (over kind xs vs)

pub over-append : {T Ts : Type 0} (kind : Kind T Ts) (xs : List T) (v : T) (vs : Ts) → over kind (xs ++ v ∷ []) vs ≡ over kind xs (kind.then v vs)
over-append kind [] v vs = refl
over-append kind (x ∷ xs) v vs = ap (kind.then x) (over-append kind xs v vs)

-- At says from where the tokens are read among items in these loops, Put the same after one more item; outside them d levels are open
pub record IsLoopReader {T Ts : Type 0} (limit d : ℕ) (kind : Kind T Ts) (IsBare : ℕ → List Symbol → List Symbol → T → Type 0) (At : List (Loop T) → List Symbol → Type 0) (Put : List (Loop T) → T → List Symbol → Type 0) : Type 0 where
  pub bare_read : (ls : List (Loop T)) (v : T) (ts rest : List Symbol) → IsBare (level d ls) ts rest v → Put ls v rest → At ls ts
  pub range_read : (ls : List (Loop T)) (r : Range) (at : ℕ) (ts mid : List Symbol) → level d ls < limit → IsRange limit (suc (level d ls)) ts mid r → At (new_loop r ∷ ls) mid → At ls (word words.For at ∷ ts)
  pub end_read : (l : Loop T) (ls : List (Loop T)) (i j k : ℕ) (rest : List Symbol) → Put ls (kind.each l.range (over kind l.items kind.none)) rest → At (l ∷ ls) (word words.End i ∷ word words.For j ∷ mark marks.Semicolon k ∷ rest)
  pub put_inside : (l : Loop T) (ls : List (Loop T)) (v : T) (rest : List Symbol) → At (with_item l v ∷ ls) rest → Put (l ∷ ls) v rest

-- the loop of a range and these items
abbrev pub filled : {T : Type 0} → Range → List T → Loop T
filled r xs = record { range = r; items = xs }

module _ {T Ts : Type 0} (limit d : ℕ) (kind : Kind T Ts) (IsBare : ℕ → List Symbol → List Symbol → T → Type 0) (At : List (Loop T) → List Symbol → Type 0) (Put : List (Loop T) → T → List Symbol → Type 0) (r : IsLoopReader limit d kind IsBare At Put) where
  mutual
    -- an item
    pub item_read : {e : ℕ} {ts rest : List Symbol} {v : T} → IsItem limit kind IsBare e ts rest v → (ls : List (Loop T)) → e ≡ level d ls → Put ls v rest → At ls ts
    item_read {ts = ts} {rest = rest} {v = v} (bare one) ls same is = r.bare_read ls v ts rest (subst (λ e. IsBare e ts rest v) same one) is
    item_read {rest = rest} (loop {h = h} {i = i} {j = j} {k = k} {r = range} {ts = ts} {mid = mid} {vs = vs} less ranged inner) ls same is =
        r.range_read ls range h ts mid (subst (λ e. e < limit) same less) (subst (λ e. IsRange limit (suc e) ts mid range) same ranged)
        (items_read inner range [] ls (ap suc same) (λ xs whole. r.end_read (filled range xs) ls i j k rest (subst (λ us. Put ls (kind.each range us) rest) whole is)))

    -- items in a loop, after these ones
    items_read : {e : ℕ} {ts rest : List Symbol} {vs : Ts} → AreItems limit kind IsBare e ts rest vs → (range : Range) (xs : List T) (ls : List (Loop T)) → e ≡ suc (level d ls) → ((ys : List T) → over kind xs vs ≡ over kind ys kind.none → At (filled range ys ∷ ls) rest) → At (filled range xs ∷ ls) ts
    items_read no_items range xs ls same is = is xs refl
    items_read (item_then {v = v} {vs = vs} {mid = mid} first more) range xs ls same is =
        item_read first (filled range xs ∷ ls) same
        (r.put_inside (filled range xs) ls v mid (items_read more range (xs ++ v ∷ []) ls same (λ ys whole. is ys (sym (over-append kind xs v vs) ∙ whole))))
