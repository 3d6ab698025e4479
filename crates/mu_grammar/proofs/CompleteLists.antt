-- What the grammar allows in lists and in items that are read over, the machine of a model reads.
use Rattle.mu_grammar.proofs.Common
use Common.{[], ℕ, ◌<◌, ◌∙◌, ◌∷◌, ◌≡◌, ◌⊎◌, ap, arguments, at_first_item, at_item, Balanced}
use Common.{balanced_end, balanced_nested, balanced_token, begin_skipped, behind_item, Bool}
use Common.{Bracket, close_bracket, closed, closer, Commas, expects, false, Fixed, fixed_token, inl}
use Common.{inr, InRound, is_fixed, is_plain_token, is_same, IsSkipped, last_one, level, List, Mark}
use Common.{mark, meets, model_turn, ModelTree, modifications, None, nothing_inside, one_then}
use Common.{own_arguments, Place, place_level, refl, settings, Shape, shape_of, skip_first}
use Common.{skip_shape, skipped, skipped_nested, skipping, Some, some_inside, State, subst, suc}
use Common.{sym, Symbol, true}
use Rattle.mu_grammar.proofs.ModelReaders.{GoodEffect, IsModelReader}
use Rattle.mu_lexer.specs.declared.token.Mark.TheVariants as marks
use Rattle.mu_grammar.specs.declared.symbol.Fixed.TheVariants as fixed
use Rattle.mu_grammar.specs.declared.symbol.Bracket.TheVariants as round
use Rattle.mu_grammar.specs.declared.symbol.Shape.TheVariants as shapes

fixed_meets : (f : Fixed) (at : ℕ) → is_fixed f (fixed_token f at) ≡ true
fixed_meets fixed.ModelWord at = refl
fixed_meets fixed.EndWord at = refl
fixed_meets fixed.AlgorithmWord at = refl
fixed_meets fixed.InWord at = refl
fixed_meets fixed.ForWord at = refl
fixed_meets fixed.WhenWord at = refl
fixed_meets fixed.RealWord at = refl
fixed_meets fixed.OpenBracket at = refl
fixed_meets fixed.EqualSign at = refl
fixed_meets fixed.Semicolon at = refl

-- a plain token for the machine: a comma inside brackets, or none of brackets and commas
stands_shape : (inside : Bool) (x : Symbol) → is_plain_token inside x ≡ true → (shape_of x ≡ shapes.Other) ⊎ ((shape_of x ≡ shapes.Comma) × (inside ≡ true))
stands_shape inside (mark marks.OpenRound at) is = cc
stands_shape inside (mark marks.OpenSquare at) is = cc
stands_shape inside (mark marks.OpenCurly at) is = cc
stands_shape inside (mark marks.CloseRound at) is = cc
stands_shape inside (mark marks.CloseSquare at) is = cc
stands_shape inside (mark marks.CloseCurly at) is = cc
stands_shape inside (mark marks.Comma at) is = inr (refl, is)
stands_shape inside x is = inl refl

-- an opening mark and the mark that closes it, as the machine sees them
opens_shape : (m n : Mark) → closer m ≡ Some n → (b : Bracket) × ((i : ℕ) → shape_of (mark m i) ≡ shapes.Opening b) × ((j : ℕ) → shape_of (mark n j) ≡ shapes.Closing b)
opens_shape marks.OpenRound n is = (round.Round, (λ i. refl), (λ j. subst (λ o. shape_of (mark o j) ≡ shapes.Closing round.Round) (let e : marks.CloseRound ≡ n = cc in e) refl))
opens_shape marks.OpenSquare n is = (round.Square, (λ i. refl), (λ j. subst (λ o. shape_of (mark o j) ≡ shapes.Closing round.Square) (let e : marks.CloseSquare ≡ n = cc in e) refl))
opens_shape marks.OpenCurly n is = (round.Curly, (λ i. refl), (λ j. subst (λ o. shape_of (mark o j) ≡ shapes.Closing round.Curly) (let e : marks.CloseCurly ≡ n = cc in e) refl))
opens_shape m n is = absurd (let e : None ≡ Some n = is in cc)

same_self : (b : Bracket) → is_same b b ≡ true
same_self round.Round = refl
same_self round.Square = refl
same_self round.Curly = refl

-- whether an item has opened brackets
abbrev pub is_inside : List Bracket → Bool
is_inside [] = false
is_inside (b ∷ bs) = true

-- parts with commas between them, where one part is read and a comma leads to the next
pub commas_read : {S : Type 0} (One : S → List Symbol → List Symbol → S → Type 0) (Begins Behind : S → List Symbol → Type 0) →
    ((s t : S) (ts rest : List Symbol) → One s ts rest t → Behind t rest → Begins s ts) →
    ((t : S) (at : ℕ) (ts : List Symbol) → Begins t ts → Behind t (mark marks.Comma at ∷ ts)) →
    (s t : S) (ts rest : List Symbol) → Commas One s ts rest t → Behind t rest → Begins s ts
commas_read One Begins Behind one comma s t ts rest (last_one first) is = one s t ts rest first is
commas_read One Begins Behind one comma s u ts rest (one_then {t = t} {mid = mid} {at = at} first more) is =
    one s t ts (mark marks.Comma at ∷ mid) first (comma t at mid (commas_read One Begins Behind one comma t u mid rest more is))

module _ (limit : ℕ) (R : State → List Symbol → Type 0) (F : ModelTree → List Symbol → Type 0) (r : IsModelReader limit R F) where
  -- a word or mark that must come
  pub fixed_read : (f : Fixed) (s : State) (at : ℕ) (ts : List Symbol) → R s ts → R (expects f s) (fixed_token f at ∷ ts)
  fixed_read f s at ts is = r.forth (expects f s) (fixed_token f at) ts (subst (λ b. GoodEffect limit R F (meets b s) ts) (sym (fixed_meets f at)) is)

  -- a token of this shape in an item that is read over
  shape_read : (p : Place) (bs : List Bracket) (x : Symbol) (ts : List Symbol) (s : Shape) → shape_of x ≡ s → GoodEffect limit R F (skip_shape p bs s) ts → R (skipping p bs) (x ∷ ts)
  shape_read p bs x ts s same is = r.forth (skipping p bs) x ts (subst (λ s. GoodEffect limit R F (skip_shape p bs s) ts) (sym same) is)

  stands_read : (p : Place) (bs : List Bracket) (inside : Bool) (x : Symbol) (ts : List Symbol) → inside ≡ is_inside bs → is_plain_token inside x ≡ true → R (skipping p bs) ts → R (skipping p bs) (x ∷ ts)
  stands_read p bs inside x ts same stands is = by bs same (stands_shape inside x stands) is
    where
      by : (bs : List Bracket) → inside ≡ is_inside bs → (shape_of x ≡ shapes.Other) ⊎ ((shape_of x ≡ shapes.Comma) × (inside ≡ true)) → R (skipping p bs) ts → R (skipping p bs) (x ∷ ts)
      by [] same (inl other) is = shape_read p [] x ts shapes.Other other is
      by (b ∷ bs) same (inl other) is = shape_read p (b ∷ bs) x ts shapes.Other other is
      by [] same (inr comma) is = absurd (let e = comma.1 in cc)
      by (b ∷ bs) same (inr comma) is = shape_read p (b ∷ bs) x ts shapes.Comma comma.0 is

  opening_read : (p : Place) (bs : List Bracket) (b : Bracket) (x : Symbol) (ts : List Symbol) → shape_of x ≡ shapes.Opening b → level (place_level p) bs < limit → R (skipping p (b ∷ bs)) ts → R (skipping p bs) (x ∷ ts)
  opening_read p [] b x ts same less is = shape_read p [] x ts (shapes.Opening b) same (less, is)
  opening_read p (c ∷ bs) b x ts same less is = shape_read p (c ∷ bs) x ts (shapes.Opening b) same (less, is)

  closing_read : (p : Place) (bs : List Bracket) (b : Bracket) (x : Symbol) (ts : List Symbol) → shape_of x ≡ shapes.Closing b → R (skipping p bs) ts → R (skipping p (b ∷ bs)) (x ∷ ts)
  closing_read p bs b x ts same is = shape_read p (b ∷ bs) x ts (shapes.Closing b) same (subst (λ o. GoodEffect limit R F (close_bracket o p bs) ts) (sym (same_self b)) is)

  -- tokens with balanced brackets in an item that is read over
  balanced_read : {inside : Bool} {e : ℕ} {ts rest : List Symbol} → Balanced limit inside e ts rest → (p : Place) (bs : List Bracket) → inside ≡ is_inside bs → e ≡ level (place_level p) bs → R (skipping p bs) rest → R (skipping p bs) ts
  balanced_read balanced_end p bs same deep is = is
  balanced_read {inside = inside} (balanced_token {x = x} {ts = ts} stands more) p bs same deep is = stands_read p bs inside x ts same stands (balanced_read more p bs same deep is)
  balanced_read (balanced_nested {i = i} {j = j} {m = m} {n = n} {ts = ts} {mid = mid} closes less inner more) p bs same deep is =
      let shape = opens_shape m n closes in
      opening_read p bs shape.0 (mark m i) ts (shape.1 i) (subst (λ d. d < limit) deep less)
      (balanced_read inner p (shape.0 ∷ bs) refl (ap suc deep) (closing_read p bs shape.0 (mark n j) mid (shape.2 j) (balanced_read more p bs same deep is)))

  -- after a skipped item, the same tokens may follow as after any item
  behind_skipped : (p : Place) (ts : List Symbol) → R (behind_item p) ts → R (skipping p []) ts
  behind_skipped p [] is = absurd (r.no_end (behind_item p) is)
  behind_skipped p (mark marks.Comma at ∷ ts) is = r.forth (skipping p []) (mark marks.Comma at) ts (r.back (behind_item p) (mark marks.Comma at) ts is)
  behind_skipped p (mark marks.CloseRound at ∷ ts) is = r.forth (skipping p []) (mark marks.CloseRound at) ts (r.back (behind_item p) (mark marks.CloseRound at) ts is)
  behind_skipped p (x ∷ ts) is = absurd (r.back (behind_item p) x ts is)

  first_shape : (p : Place) (s : State) (x : Symbol) (ts : List Symbol) (shape : Shape) → model_turn s x ≡ begin_skipped p x → shape_of x ≡ shape → GoodEffect limit R F (skip_first p shape) ts → R s (x ∷ ts)
  first_shape p s x ts shape begins same is = r.forth s x ts (subst (λ f. GoodEffect limit R F f ts) (sym (begins ∙ ap (skip_first p) same)) is)

  -- an item that is read over, from a state in which its first token begins one
  pub skipped_read : {may_begin : Symbol → Bool} {d : ℕ} {ts rest : List Symbol} (p : Place) (s : State) →
      ((x : Symbol) → may_begin x ≡ true → model_turn s x ≡ begin_skipped p x) → ((m : Mark) (i : ℕ) → model_turn s (mark m i) ≡ begin_skipped p (mark m i)) →
      IsSkipped limit may_begin d ts rest → d ≡ place_level p → R (behind_item p) rest → R s ts
  skipped_read {rest = rest} p s first bracket (skipped {x = x} {ts = ts} begins stands more) deep is =
      by (stands_shape false x stands)
    where
      by : (shape_of x ≡ shapes.Other) ⊎ ((shape_of x ≡ shapes.Comma) × (false ≡ true)) → R s (x ∷ ts)
      by (inl other) = first_shape p s x ts shapes.Other (first x begins) other (balanced_read more p [] refl deep (behind_skipped p rest is))
      by (inr comma) = absurd (let e = comma.1 in cc)
  skipped_read {rest = rest} p s first bracket (skipped_nested {i = i} {j = j} {m = m} {n = n} {ts = ts} {mid = mid} closes less inner more) deep is =
      let shape = opens_shape m n closes in
      first_shape p s (mark m i) ts (shapes.Opening shape.0) (bracket m i) (shape.1 i) (
        subst (λ d. d < limit) deep less,
        balanced_read inner p (shape.0 ∷ []) refl (ap suc deep) (closing_read p [] shape.0 (mark n j) mid (shape.2 j) (balanced_read more p [] refl deep (behind_skipped p rest is))),
      )

  no_item_closes : (p : Place) (at : ℕ) (ts : List Symbol) → R (at_item p) (mark marks.CloseRound at ∷ ts) → ⊥
  no_item_closes (modifications c) at ts is = r.back (at_item (modifications c)) (mark marks.CloseRound at) ts is
  no_item_closes (own_arguments c) at ts is = r.back (at_item (own_arguments c)) (mark marks.CloseRound at) ts is
  no_item_closes (arguments d s) at ts is = r.back (at_item (arguments d s)) (mark marks.CloseRound at) ts is
  no_item_closes (settings o ss) at ts is = r.back (at_item (settings o ss)) (mark marks.CloseRound at) ts is

  -- where an item may come first, it is read as any other
  first_item_read : (p : Place) (ts : List Symbol) → R (at_item p) ts → R (at_first_item p) ts
  first_item_read p [] is = absurd (r.no_end (at_item p) is)
  first_item_read p (mark marks.CloseRound at ∷ ts) is = absurd (no_item_closes p at ts is)
  first_item_read p (x ∷ ts) is = r.forth (at_first_item p) x ts (r.back (at_item p) x ts is)

  -- items of a place with commas between them
  pub items_read : {S : Type 0} (One : S → List Symbol → List Symbol → S → Type 0) (at : S → Place) →
      ((s t : S) (ts rest : List Symbol) → One s ts rest t → R (behind_item (at t)) rest → R (at_item (at s)) ts) →
      (s t : S) (ts rest : List Symbol) → Commas One s ts rest t → R (behind_item (at t)) rest → R (at_item (at s)) ts
  items_read One at one s t ts rest all is =
      commas_read One (λ s ts. R (at_item (at s)) ts) (λ s ts. R (behind_item (at s)) ts) one (λ t i ts is. r.forth (behind_item (at t)) (mark marks.Comma i) ts is) s t ts rest all is

  -- the items of a place in their brackets, or none
  pub round_read : {S : Type 0} (One : S → List Symbol → List Symbol → S → Type 0) (at : S → Place) →
      ((s t : S) (ts rest : List Symbol) → One s ts rest t → R (behind_item (at t)) rest → R (at_item (at s)) ts) →
      (s t : S) (ts rest : List Symbol) → InRound One s ts rest t → R (closed (at t)) rest → R (expects fixed.OpenBracket (at_first_item (at s))) ts
  round_read One at one s t ts rest (nothing_inside {i = i} {j = j}) is =
      fixed_read fixed.OpenBracket (at_first_item (at s)) i (mark marks.CloseRound j ∷ rest) (r.forth (at_first_item (at s)) (mark marks.CloseRound j) rest is)
  round_read One at one s t us rest (some_inside {i = i} {j = j} {ts = ts} all) is =
      fixed_read fixed.OpenBracket (at_first_item (at s)) i ts (first_item_read (at s) ts (items_read One at one s t ts (mark marks.CloseRound j ∷ rest) all (r.forth (behind_item (at t)) (mark marks.CloseRound j) rest is)))
