-- What the machine of a model reads in lists, loops and items that are read over, the grammar allows.
use Rattle.mu_grammar.proofs.Common
use Common.{[], ℕ, ◌<◌, ◌∙◌, ◌∷◌, ◌≡◌, ◌⊎◌, ap, arguments, Balanced, balanced_end, balanced_nested}
use Common.{balanced_token, begin_skipped, Bool, Bracket, close_bracket, closed, closer, closing}
use Common.{Commas, false, Fixed, fixed_token, inl, inr, InRound, is_fixed, is_plain_token, is_same}
use Common.{IsItem, IsSkipped, item_then, Kind, last_one, level, List, Loop, Mark, mark, meets}
use Common.{ModelTree, modifications, nothing_inside, of_component, of_model, one_then}
use Common.{own_arguments, Place, place_level, refl, settings, Shape, shape_of, skip_first}
use Common.{skip_shape, skipped, skipped_nested, Some, some_inside, State, subst, suc, sym, Symbol}
use Common.{true, word}
use Rattle.mu_grammar.specs.DeclarationMachine.{follow_item}
use Rattle.mu_grammar.proofs.CompleteLoops.{over-append}
use Rattle.mu_grammar.proofs.SoundStates.{FixedThen, MarkThen, CommasThen, Behind, SkipThen}
use Rattle.mu_grammar.proofs.SoundStates.{PutThen, LoopsThen, BehindItem, ClosedThen}
use Rattle.mu_grammar.proofs.SoundStates.{CompletesModel, CompletesEffect}
use Rattle.mu_lexer.specs.declared.token.Word.TheVariants as words
use Rattle.mu_lexer.specs.declared.token.Mark.TheVariants as marks
use Rattle.mu_grammar.specs.declared.symbol.Fixed.TheVariants as fixed
use Rattle.mu_grammar.specs.declared.symbol.Bracket.TheVariants as round
use Rattle.mu_grammar.specs.declared.symbol.Shape.TheVariants as shapes

-- a token that is as expected
pub fixed_is : (f : Fixed) (x : Symbol) → is_fixed f x ≡ true → (at : ℕ) × (x ≡ fixed_token f at)
fixed_is fixed.ModelWord (word words.Model at) is = (at, refl)
fixed_is fixed.EndWord (word words.End at) is = (at, refl)
fixed_is fixed.AlgorithmWord (word words.Algorithm at) is = (at, refl)
fixed_is fixed.InWord (word words.In at) is = (at, refl)
fixed_is fixed.ForWord (word words.For at) is = (at, refl)
fixed_is fixed.WhenWord (word words.When at) is = (at, refl)
fixed_is fixed.RealWord (word words.RealType at) is = (at, refl)
fixed_is fixed.OpenBracket (mark marks.OpenRound at) is = (at, refl)
fixed_is fixed.EqualSign (mark marks.Equal at) is = (at, refl)
fixed_is fixed.Semicolon (mark marks.Semicolon at) is = (at, refl)
fixed_is f x is = absurd (let e : false ≡ true = is in cc)

-- a token that is no bracket and no comma stands anywhere, a comma inside brackets
shape_stands : (inside : Bool) (x : Symbol) → shape_of x ≡ shapes.Other → is_plain_token inside x ≡ true
shape_stands inside (mark marks.OpenRound at) is = cc
shape_stands inside (mark marks.OpenSquare at) is = cc
shape_stands inside (mark marks.OpenCurly at) is = cc
shape_stands inside (mark marks.CloseRound at) is = cc
shape_stands inside (mark marks.CloseSquare at) is = cc
shape_stands inside (mark marks.CloseCurly at) is = cc
shape_stands inside (mark marks.Comma at) is = cc
shape_stands inside x is = refl

shape_comma : (x : Symbol) → shape_of x ≡ shapes.Comma → (at : ℕ) × (x ≡ mark marks.Comma at)
shape_comma (mark marks.OpenRound at) is = cc
shape_comma (mark marks.OpenSquare at) is = cc
shape_comma (mark marks.OpenCurly at) is = cc
shape_comma (mark marks.CloseRound at) is = cc
shape_comma (mark marks.CloseSquare at) is = cc
shape_comma (mark marks.CloseCurly at) is = cc
shape_comma (mark marks.Comma at) is = (at, refl)
shape_comma x is = absurd (let e : shapes.Other ≡ shapes.Comma = is in cc)

-- the mark that opens a bracket
abbrev pub opening : Bracket → Mark
opening round.Round = marks.OpenRound
opening round.Square = marks.OpenSquare
opening round.Curly = marks.OpenCurly

opening_closes : (b : Bracket) → closer (opening b) ≡ Some (closing b)
opening_closes round.Round = refl
opening_closes round.Square = refl
opening_closes round.Curly = refl

shape_opening : (b : Bracket) (x : Symbol) → shape_of x ≡ shapes.Opening b → (at : ℕ) × (x ≡ mark (opening b) at)
shape_opening b (mark marks.OpenRound at) is = (at, ap (λ c. mark (opening c) at) (let e : round.Round ≡ b = cc in e))
shape_opening b (mark marks.OpenSquare at) is = (at, ap (λ c. mark (opening c) at) (let e : round.Square ≡ b = cc in e))
shape_opening b (mark marks.OpenCurly at) is = (at, ap (λ c. mark (opening c) at) (let e : round.Curly ≡ b = cc in e))
shape_opening b (mark marks.CloseRound at) is = cc
shape_opening b (mark marks.CloseSquare at) is = cc
shape_opening b (mark marks.CloseCurly at) is = cc
shape_opening b (mark marks.Comma at) is = cc
shape_opening b x is = absurd (let e : shapes.Other ≡ shapes.Opening b = is in cc)

shape_closing : (b : Bracket) (x : Symbol) → shape_of x ≡ shapes.Closing b → (at : ℕ) × (x ≡ mark (closing b) at)
shape_closing b (mark marks.OpenRound at) is = cc
shape_closing b (mark marks.OpenSquare at) is = cc
shape_closing b (mark marks.OpenCurly at) is = cc
shape_closing b (mark marks.CloseRound at) is = (at, ap (λ c. mark (closing c) at) (let e : round.Round ≡ b = cc in e))
shape_closing b (mark marks.CloseSquare at) is = (at, ap (λ c. mark (closing c) at) (let e : round.Square ≡ b = cc in e))
shape_closing b (mark marks.CloseCurly at) is = (at, ap (λ c. mark (closing c) at) (let e : round.Curly ≡ b = cc in e))
shape_closing b (mark marks.Comma at) is = cc
shape_closing b x is = absurd (let e : shapes.Other ≡ shapes.Closing b = is in cc)

same_is : (b c : Bracket) → is_same b c ≡ true → c ≡ b
same_is round.Round round.Round is = refl
same_is round.Square round.Square is = refl
same_is round.Curly round.Curly is = refl
same_is round.Round round.Square is = cc
same_is round.Round round.Curly is = cc
same_is round.Square round.Round is = cc
same_is round.Square round.Curly is = cc
same_is round.Curly round.Round is = cc
same_is round.Curly round.Square is = cc

-- one item, and what may follow it
pub commas_then : {S : Type 0} (One : S → List Symbol → List Symbol → S → Type 0) (K : S → List Symbol → Type 0) (s t : S) (ts mid : List Symbol) → One s ts mid t → Behind (K t) (CommasThen One K t) mid → CommasThen One K s ts
commas_then One K s t ts mid one (inl closes) = record { value = t; end = mid; reads = last_one one; goes_on = closes }
commas_then One K s t ts mid one (inr more) = record {
  value = more.3.value;
  end = more.3.end;
  reads = one_then (subst (λ us. One s ts us t) more.2 one) more.3.reads;
  goes_on = more.3.goes_on;
}

-- items in their brackets, and what follows them
pub record RoundThen {S : Type 0} (One : S → List Symbol → List Symbol → S → Type 0) (K : S → List Symbol → Type 0) (s : S) (ts : List Symbol) : Type 0 where
  pub state : S
  pub end : List Symbol
  pub reads : InRound One s ts end state
  pub goes_on : K state end

pub round_then : {S : Type 0} (One : S → List Symbol → List Symbol → S → Type 0) (K : S → List Symbol → Type 0) (s : S) (ts : List Symbol) → FixedThen fixed.OpenBracket (λ us. MarkThen marks.CloseRound (K s) us ⊎ CommasThen One K s us) ts → RoundThen One K s ts
round_then One K s ts (i, us, opens, inl (j, rest, closes, is)) = record {
  state = s;
  end = rest;
  reads = subst (λ vs. InRound One s vs rest s) (sym (opens ∙ ap (λ ws. mark marks.OpenRound i ∷ ws) closes)) nothing_inside;
  goes_on = is;
}
round_then One K s ts (i, us, opens, inr all) = record {
  state = all.value;
  end = all.goes_on.1;
  reads = subst (λ vs. InRound One s vs all.goes_on.1 all.value) (sym opens) (some_inside (subst (λ vs. Commas One s us vs all.value) all.goes_on.2 all.reads));
  goes_on = all.goes_on.3;
}

-- one more token in an item that is read over
stands_then : (limit d : ℕ) (bs : List Bracket) (K : List Symbol → Type 0) (x : Symbol) (ts : List Symbol) → ((inside : Bool) → is_plain_token inside x ≡ true) → SkipThen limit d bs K ts → SkipThen limit d bs K (x ∷ ts)
stands_then limit d [] K x ts stands is = (is.0, balanced_token (stands false) is.1, is.2)
stands_then limit d (b ∷ bs) K x ts stands is = (is.0, is.1, balanced_token (stands true) is.2, is.3)

-- brackets with what stands between them, in an item that is read over
opens_then : (limit d : ℕ) (bs : List Bracket) (K : List Symbol → Type 0) (b : Bracket) (i : ℕ) (ts : List Symbol) → level d bs < limit → SkipThen limit d (b ∷ bs) K ts → SkipThen limit d bs K (mark (opening b) i ∷ ts)
opens_then limit d [] K b i ts less (j, mid, inner, is) = (is.0, balanced_nested (opening_closes b) less inner is.1, is.2)
opens_then limit d (c ∷ bs) K b i ts less (j, mid, inner, is) = (is.0, is.1, balanced_nested (opening_closes b) less inner is.2, is.3)

-- an item that is read over from its first token
pub skipped_token : (limit d : ℕ) (K : List Symbol → Type 0) (may_begin : Symbol → Bool) (x : Symbol) (ts : List Symbol) → may_begin x ≡ true → is_plain_token false x ≡ true → SkipThen limit d [] K ts → (rest : List Symbol) × IsSkipped limit may_begin d (x ∷ ts) rest × K rest
skipped_token limit d K may_begin x ts begins stands is = (is.0, skipped begins stands is.1, is.2)

pub skipped_brackets : (limit d : ℕ) (K : List Symbol → Type 0) (may_begin : Symbol → Bool) (b : Bracket) (i : ℕ) (ts : List Symbol) → d < limit → SkipThen limit d (b ∷ []) K ts → (rest : List Symbol) × IsSkipped limit may_begin d (mark (opening b) i ∷ ts) rest × K rest
skipped_brackets limit d K may_begin b i ts less (j, mid, inner, is) = (is.0, skipped_nested (opening_closes b) less inner is.1, is.2)

-- an item in these loops, and what follows it
pub item_goes_on : {T Ts : Type 0} (limit d : ℕ) (kind : Kind T Ts) (IsBare : ℕ → List Symbol → List Symbol → T → Type 0) (J : List Symbol → Type 0) (K : T → List Symbol → Type 0) (ls : List (Loop T)) (v : T) (ts mid : List Symbol) →
    (IsItem limit kind IsBare d ts mid v → K v mid → J ts) → IsItem limit kind IsBare (level d ls) ts mid v → PutThen limit d kind IsBare K ls v mid → LoopsThen limit d kind IsBare J K ls ts
item_goes_on limit d kind IsBare J K [] v ts mid outside item is = outside item is
item_goes_on limit d kind IsBare J K (l ∷ ls) v ts mid outside item is = record {
  value = kind.then v is.value;
  end = is.end;
  reads = item_then item is.reads;
  goes_on = subst (λ us. FixedThen fixed.EndWord (FixedThen fixed.ForWord (FixedThen fixed.Semicolon (PutThen limit d kind IsBare K ls (kind.each l.range us)))) is.end) (over-append kind l.items v is.value) is.goes_on;
}

module _ (limit : ℕ) (out : ModelTree) where
  -- a word or mark that must come
  pub fixed_follows : (f : Fixed) (s : State) (x : Symbol) (ts : List Symbol) → CompletesEffect limit out (meets (is_fixed f x) s) ts → FixedThen f (CompletesModel limit out s) (x ∷ ts)
  fixed_follows f s x ts is = by (is_fixed f x) refl is
    where
      by : (b : Bool) → is_fixed f x ≡ b → CompletesEffect limit out (meets b s) ts → FixedThen f (CompletesModel limit out s) (x ∷ ts)
      by true found is = let token = fixed_is f x found in (token.0, ts, ap (λ y. y ∷ ts) token.1, is)
      by false found is = absurd is

  pub closed_then : (p : Place) (ts : List Symbol) → CompletesModel limit out (closed p) ts → ClosedThen limit out p ts
  closed_then (modifications c) ts is = is
  closed_then (own_arguments c) ts is = is
  closed_then (arguments d s) ts is = is
  closed_then (settings (of_component c) ss) ts is = is
  closed_then (settings (of_model d) ss) ts is = is

  -- after an item
  pub item_follows : (p : Place) (x : Symbol) (ts : List Symbol) → CompletesEffect limit out (follow_item p x) ts → BehindItem limit out p (x ∷ ts)
  item_follows p (mark marks.Comma at) ts is = inr (at, ts, refl, is)
  item_follows p (mark marks.CloseRound at) ts is = inl (at, ts, refl, closed_then p ts is)
  item_follows p x ts is = absurd is

  -- in an item that is read over
  skip_shapes : (p : Place) (bs : List Bracket) (x : Symbol) (ts : List Symbol) (s : Shape) → shape_of x ≡ s → CompletesEffect limit out (skip_shape p bs s) ts → SkipThen limit (place_level p) bs (BehindItem limit out p) (x ∷ ts)
  skip_shapes p [] x ts (shapes.Opening b) same (less, is) =
      let token = shape_opening b x same in subst (λ y. SkipThen limit (place_level p) [] (BehindItem limit out p) (y ∷ ts)) (sym token.1) (opens_then limit (place_level p) [] (BehindItem limit out p) b token.0 ts less is)
  skip_shapes p (c ∷ bs) x ts (shapes.Opening b) same (less, is) =
      let token = shape_opening b x same in subst (λ y. SkipThen limit (place_level p) (c ∷ bs) (BehindItem limit out p) (y ∷ ts)) (sym token.1) (opens_then limit (place_level p) (c ∷ bs) (BehindItem limit out p) b token.0 ts less is)
  skip_shapes p [] x ts shapes.Other same is = stands_then limit (place_level p) [] (BehindItem limit out p) x ts (λ inside. shape_stands inside x same) is
  skip_shapes p (b ∷ bs) x ts shapes.Other same is = stands_then limit (place_level p) (b ∷ bs) (BehindItem limit out p) x ts (λ inside. shape_stands inside x same) is
  skip_shapes p [] x ts shapes.Comma same is = let token = shape_comma x same in (x ∷ ts, balanced_end, inr (token.0, ts, ap (λ y. y ∷ ts) token.1, is))
  skip_shapes p [] x ts (shapes.Closing round.Round) same is = let token = shape_closing round.Round x same in (x ∷ ts, balanced_end, inl (token.0, ts, ap (λ y. y ∷ ts) token.1, closed_then p ts is))
  skip_shapes p [] x ts (shapes.Closing b) same is = absurd is
  skip_shapes p (b ∷ bs) x ts shapes.Comma same is =
      let token = shape_comma x same in (is.0, is.1, balanced_token (subst (λ y. is_plain_token true y ≡ true) (sym token.1) refl) is.2, is.3)
  skip_shapes p (b ∷ bs) x ts (shapes.Closing c) same is = by (is_same b c) refl is
    where
      by : (o : Bool) → is_same b c ≡ o → CompletesEffect limit out (close_bracket o p bs) ts → SkipThen limit (place_level p) (b ∷ bs) (BehindItem limit out p) (x ∷ ts)
      by true found is = let token = shape_closing c x same in (token.0, ts, subst (λ us. Balanced limit true (suc (level (place_level p) bs)) (x ∷ ts) us) (ap (λ y. y ∷ ts) (token.1 ∙ ap (λ e. mark (closing e) token.0) (same_is b c found))) balanced_end, is)
      by false found is = absurd is

  pub skip_follows : (p : Place) (bs : List Bracket) (x : Symbol) (ts : List Symbol) → CompletesEffect limit out (skip_shape p bs (shape_of x)) ts → SkipThen limit (place_level p) bs (BehindItem limit out p) (x ∷ ts)
  skip_follows p bs x ts is = skip_shapes p bs x ts (shape_of x) refl is

  -- an item that is read over begins
  skip_firsts : (p : Place) (may_begin : Symbol → Bool) (x : Symbol) (ts : List Symbol) (s : Shape) → shape_of x ≡ s → may_begin x ≡ true → CompletesEffect limit out (skip_first p s) ts → (rest : List Symbol) × IsSkipped limit may_begin (place_level p) (x ∷ ts) rest × BehindItem limit out p rest
  skip_firsts p may_begin x ts (shapes.Opening b) same begins (less, is) =
      let token = shape_opening b x same in
      subst (λ y. (rest : List Symbol) × IsSkipped limit may_begin (place_level p) (y ∷ ts) rest × BehindItem limit out p rest) (sym token.1) (skipped_brackets limit (place_level p) (BehindItem limit out p) may_begin b token.0 ts less is)
  skip_firsts p may_begin x ts shapes.Other same begins is = skipped_token limit (place_level p) (BehindItem limit out p) may_begin x ts begins (shape_stands false x same) is
  skip_firsts p may_begin x ts shapes.Comma same begins is = absurd is
  skip_firsts p may_begin x ts (shapes.Closing b) same begins is = absurd is

  pub skipped_follows : (p : Place) (may_begin : Symbol → Bool) (x : Symbol) (ts : List Symbol) → may_begin x ≡ true → CompletesEffect limit out (begin_skipped p x) ts → (rest : List Symbol) × IsSkipped limit may_begin (place_level p) (x ∷ ts) rest × BehindItem limit out p rest
  skipped_follows p may_begin x ts begins is = skip_firsts p may_begin x ts (shape_of x) refl begins is
