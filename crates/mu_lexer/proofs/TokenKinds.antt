-- A text is a token of a kind if and only if the automaton and the words determine this kind.
use Rattle.mu_lexer.proofs.Common
use Common.{[], ℕ, ◌&&◌, ◌==◌, ◌∙◌, ◌∷◌, ◌≡◌, ap, arith, begin, Bool, bytes_eq, eqb-true, false}
use Common.{if◌then◌else◌, is_digit, is_letter, is_name_rest, is_quoted, Kind, kind_from, kind_of}
use Common.{List, Mark, named, None, Option, Phase, refl, Some, SpellsToken, subst, sym, true, Word}
use Common.{word_among, word_text}
use Rattle.std.proofs.Common.{rules}
use Rattle.std.proofs.lemmas.Slice.Eq.{bytes_eq-Decides}
use Rattle.std.specs.List.{AllByRecursion}
use Rattle.mu_lexer.specs.declared.token.TheConstants.{WORDS}
use Rattle.mu_lexer.specs.Spelling.{is_string, is_name, mark_text}
use Rattle.mu_lexer.specs.Automaton.{lookup, single_marks, phase_of, kind_named}
use Rattle.mu_lexer.proofs.Numbers.{is_fraction, is_whole, is_point, is_number, tested_number}
use Rattle.mu_lexer.proofs.Numbers.{number_tested}
use Rattle.mu_lexer.proofs.Spellings.{kind_if, kind_on, fraction, whole, name_rest, quoted}
use Rattle.mu_lexer.specs.declared.token.Word.TheVariants as word
use Rattle.mu_lexer.specs.declared.token.Mark.TheVariants as mark
use Rattle.mu_lexer.specs.declared.token.Kind.TheVariants as kind
use Rattle.mu_lexer.specs.declared.lexer.Phase.TheVariants as phase

-- what a kind other than a word implies for a text
abbrev pub Reading : Kind → List ℕ → Type 0
Reading kind.Number text = is_number text ≡ true
Reading kind.Str text = is_string text ≡ true
Reading kind.Ident text = is_name text ≡ true
Reading (kind.Word w) text = ⊥
Reading (kind.Mark m) text = text ≡ mark_text m

kind_if_some : (b : Bool) (j k : Kind) → kind_if b j ≡ Some k → (b ≡ true) × (j ≡ k)
kind_if_some true j k is = (refl, cc)
kind_if_some false j k is = cc

-- a number is read as one
number : (text : List ℕ) → is_number text ≡ true → kind_from phase.Start text ≡ Some kind.Number
number [] is = cc
number (c ∷ s) is = go _ (is_digit c) (c == 46) is
  where
    point : (t : List ℕ) → is_point t ≡ true → kind_from (phase.Mark mark.Dot) t ≡ Some kind.Number
    point [] is = cc
    point (d ∷ t) is = go (is_digit d) is
      where
        go : (b : Bool) → (if b then is_fraction t else false) ≡ true → kind_on (if b then Some phase.Fraction else None) t ≡ Some kind.Number
        go true is = fraction t ∙ ap (λ b. kind_if b kind.Number) is
        go false is = cc

    go : (x : Option Phase) (b p : Bool) → (if b then is_whole s else (if p then is_point s else false)) ≡ true → kind_on (if b then Some phase.Whole else (if p then Some (phase.Mark mark.Dot) else x)) s ≡ Some kind.Number
    go x true p is = whole s ∙ ap (λ b. kind_if b kind.Number) is
    go x false true is = point s is
    go x false false is = cc

string : (text : List ℕ) → is_string text ≡ true → kind_from phase.Start text ≡ Some kind.Str
string [] is = cc
string (c ∷ s) is = go (c == 34) refl is
  where
    go : (b : Bool) → (c == 34) ≡ b → (b && is_quoted s) ≡ true → kind_from phase.Start (c ∷ s) ≡ Some kind.Str
    go true here is = subst (λ d. kind_from phase.Start (d ∷ s) ≡ Some kind.Str) (sym (eqb-true c 34 here)) (quoted s ∙ ap (λ b. kind_if b kind.Str) is)
    go false here is = cc

letter_begins : (c : ℕ) → is_letter c ≡ true → begin c ≡ Some phase.Name
letter_begins c is = grind arith

name : (text : List ℕ) → is_name text ≡ true → kind_from phase.Start text ≡ Some kind.Ident
name [] is = cc
name (c ∷ s) is = go (is_letter c) refl is
  where
    go : (b : Bool) → is_letter c ≡ b → (if b then is_name_rest s else false) ≡ true → kind_from phase.Start (c ∷ s) ≡ Some kind.Ident
    go true here is = ap (λ p. kind_on p s) (letter_begins c here) ∙ name_rest s ∙ ap (λ b. kind_if b kind.Ident) is
    go false here is = cc

mark_read : (m : Mark) → kind_from phase.Start (mark_text m) ≡ Some (kind.Mark m)
mark_read mark.Dot = refl
mark_read _ = refl

word_read : (w : Word) → kind_from phase.Start (word_text w) ≡ Some kind.Ident
word_read word.Model = refl
word_read _ = refl

word_found : (w : Word) → word_among WORDS (word_text w) ≡ Some w
word_found word.Model = refl
word_found _ = refl

word_among_is : (ws : List Word) (text : List ℕ) (w : Word) → word_among ws text ≡ Some w → word_text w ≡ text
word_among_is [] text w is = cc
word_among_is (v ∷ ws) text w is = go (bytes_eq (word_text v) text) refl is (word_among_is ws text w)
  where
    go : (b : Bool) → bytes_eq (word_text v) text ≡ b → (if b then Some v else word_among ws text) ≡ Some w → (word_among ws text ≡ Some w → word_text w ≡ text) → word_text w ≡ text
    go true same is later = let e : v ≡ w = cc in ap word_text (sym e) ∙ (bytes_eq-Decides (word_text v) text).0 same
    go false same is later = later is

-- the mark of a byte in a table has this byte as its text
lookup_is : (ps : List (ℕ × Mark)) (c : ℕ) (m : Mark) → AllByRecursion (λ p. mark_text p.1 ≡ p.0 ∷ []) ps → lookup c ps ≡ Some m → mark_text m ≡ c ∷ []
lookup_is [] c m all is = cc
lookup_is (p ∷ ps) c m all is = go (c == p.0) refl is (lookup_is ps c m all.1)
  where
    go : (b : Bool) → (c == p.0) ≡ b → (if b then Some p.1 else lookup c ps) ≡ Some m → (lookup c ps ≡ Some m → mark_text m ≡ c ∷ []) → mark_text m ≡ c ∷ []
    go true same is later = let e : p.1 ≡ m = cc in ap mark_text (sym e) ∙ all.0 ∙ ap (λ d. d ∷ []) (sym (eqb-true c p.0 same))
    go false same is later = later is

single_marks_spelled : AllByRecursion (λ p. mark_text p.1 ≡ p.0 ∷ []) single_marks
single_marks_spelled = search rules

reading_as : (j k : Kind) (text : List ℕ) → Some j ≡ Some k → Reading j text → Reading k text
reading_as j k text same is = let e : j ≡ k = cc in subst (λ i. Reading i text) e is

-- what goes on after a mark of one byte
after : (m : Mark) (c : ℕ) (s : List ℕ) (k : Kind) → mark_text m ≡ c ∷ [] → kind_from (phase.Mark m) s ≡ Some k → Reading k (c ∷ s)
after m c [] k spelled is = reading_as (kind.Mark m) k (c ∷ []) is (sym spelled)
after mark.Dot c (d ∷ s) k spelled is = go (is_digit d) refl is
  where
    here : 46 ≡ c
    here = cc

    go : (b : Bool) → is_digit d ≡ b → kind_on (if b then Some phase.Fraction else None) s ≡ Some k → Reading k (c ∷ d ∷ s)
    go true digit is =
        let both = kind_if_some (is_fraction s) kind.Number k (sym (fraction s) ∙ is) in
        subst (λ i. Reading i (c ∷ d ∷ s)) both.1 (subst (λ e. is_number (e ∷ d ∷ s) ≡ true) here (ap (λ b. if b then is_fraction s else false) digit ∙ both.0))
    go false digit is = cc
after mark.Colon c (d ∷ s) k spelled is = go (d == 61) refl s is
  where
    here : 58 ≡ c
    here = cc

    go : (b : Bool) → (d == 61) ≡ b → (t : List ℕ) → kind_on (if b then Some (phase.Mark mark.Assign) else None) t ≡ Some k → Reading k (c ∷ d ∷ t)
    go true equal [] is = reading_as (kind.Mark mark.Assign) k (c ∷ d ∷ []) is (let e = eqb-true d 61 equal in cc)
    go true equal (e ∷ t) is = cc
    go false equal t is = cc
after mark.Equal c (d ∷ s) k spelled is = go (d == 61) refl s is
  where
    here : 61 ≡ c
    here = cc

    go : (b : Bool) → (d == 61) ≡ b → (t : List ℕ) → kind_on (if b then Some (phase.Mark mark.EqualEqual) else None) t ≡ Some k → Reading k (c ∷ d ∷ t)
    go true equal [] is = reading_as (kind.Mark mark.EqualEqual) k (c ∷ d ∷ []) is (let e = eqb-true d 61 equal in cc)
    go true equal (e ∷ t) is = cc
    go false equal t is = cc
after mark.Greater c (d ∷ s) k spelled is = go (d == 61) refl s is
  where
    here : 62 ≡ c
    here = cc

    go : (b : Bool) → (d == 61) ≡ b → (t : List ℕ) → kind_on (if b then Some (phase.Mark mark.GreaterEqual) else None) t ≡ Some k → Reading k (c ∷ d ∷ t)
    go true equal [] is = reading_as (kind.Mark mark.GreaterEqual) k (c ∷ d ∷ []) is (let e = eqb-true d 61 equal in cc)
    go true equal (e ∷ t) is = cc
    go false equal t is = cc
after mark.Less c (d ∷ s) k spelled is = go (d == 61) (d == 62) refl refl s is
  where
    here : 60 ≡ c
    here = cc

    go : (b p : Bool) → (d == 61) ≡ b → (d == 62) ≡ p → (t : List ℕ) → kind_on (if b then Some (phase.Mark mark.LessEqual) else (if p then Some (phase.Mark mark.NotEqual) else None)) t ≡ Some k → Reading k (c ∷ d ∷ t)
    go true p equal greater [] is = reading_as (kind.Mark mark.LessEqual) k (c ∷ d ∷ []) is (let e = eqb-true d 61 equal in cc)
    go true p equal greater (e ∷ t) is = cc
    go false true equal greater [] is = reading_as (kind.Mark mark.NotEqual) k (c ∷ d ∷ []) is (let e = eqb-true d 62 greater in cc)
    go false true equal greater (e ∷ t) is = cc
    go false false equal greater t is = cc
after _ c (d ∷ s) k spelled is = cc

-- a text that is read as a kind is a token of that kind
pub reading : (text : List ℕ) (k : Kind) → kind_from phase.Start text ≡ Some k → Reading k text
reading [] k is = cc
reading (c ∷ s) k is = go (is_digit c) (c == 46) (c == 34) (is_letter c) refl refl refl refl is
  where
    marked : (o : Option Mark) → lookup c single_marks ≡ o → kind_on (phase_of o) s ≡ Some k → Reading k (c ∷ s)
    marked None found is = cc
    marked (Some m) found is = after m c s k (lookup_is single_marks c m single_marks_spelled found) is

    go : (b p q l : Bool) → is_digit c ≡ b → (c == 46) ≡ p → (c == 34) ≡ q → is_letter c ≡ l →
        kind_on (if b then Some phase.Whole else (if p then Some (phase.Mark mark.Dot) else (if q then Some phase.Quote else (if l then Some phase.Name else phase_of (lookup c single_marks))))) s ≡ Some k → Reading k (c ∷ s)
    go true p q l digit dot quote letter is =
        let both = kind_if_some (is_whole s) kind.Number k (sym (whole s) ∙ is) in
        subst (λ i. Reading i (c ∷ s)) both.1 (ap (λ b. if b then is_whole s else (if c == 46 then is_point s else false)) digit ∙ both.0)
    go false true q l digit dot quote letter is = after mark.Dot c s k (ap (λ d. d ∷ []) (sym (eqb-true c 46 dot))) is
    go false false true l digit dot quote letter is =
        let both = kind_if_some (is_quoted s) kind.Str k (sym (quoted s) ∙ is) in
        subst (λ i. Reading i (c ∷ s)) both.1 (ap (λ b. b && is_quoted s) quote ∙ both.0)
    go false false false true digit dot quote letter is =
        let both = kind_if_some (is_name_rest s) kind.Ident k (sym (name_rest s) ∙ is) in
        subst (λ i. Reading i (c ∷ s)) both.1 (ap (λ b. if b then is_name_rest s else false) letter ∙ both.0)
    go false false false false digit dot quote letter is = marked (lookup c single_marks) refl is

-- a token of a kind is read as that kind
pub spelled_kind : (k : Kind) (text : List ℕ) → SpellsToken k text → kind_of text ≡ Some k
spelled_kind kind.Number text is = ap (named text) (number text (number_tested text is))
spelled_kind kind.Str text is = ap (named text) (string text is)
spelled_kind kind.Ident text is = ap (named text) (name text is.0) ∙ go (word_among WORDS text) refl
  where
    go : (o : Option Word) → word_among WORDS text ≡ o → Some (kind_named o) ≡ Some kind.Ident
    go None found = refl
    go (Some w) found = absurd (is.1 w (sym (word_among_is WORDS text w found)))
spelled_kind (kind.Word w) text is = ap kind_of is ∙ ap (named (word_text w)) (word_read w) ∙ ap (λ o. Some (kind_named o)) (word_found w)
spelled_kind (kind.Mark m) text is = ap kind_of is ∙ ap (named (mark_text m)) (mark_read m)

-- a text that has a kind is a token of that kind
pub kind_spelled : (k : Kind) (text : List ℕ) → kind_of text ≡ Some k → SpellsToken k text
kind_spelled k text is = go (kind_from phase.Start text) refl is
  where
    word : (o : Option Word) → word_among WORDS text ≡ o → is_name text ≡ true → Some (kind_named o) ≡ Some k → SpellsToken k text
    word None found named is = let e : kind.Ident ≡ k = cc in subst (λ j. SpellsToken j text) e (named, λ w same. no_word w same found)
      where
        no_word : (w : Word) → text ≡ word_text w → word_among WORDS text ≡ None → ⊥
        no_word w same none = let found : word_among WORDS text ≡ Some w = ap (word_among WORDS) same ∙ word_found w in cc
    word (Some w) found named is = let e : kind.Word w ≡ k = cc in subst (λ j. SpellsToken j text) e (sym (word_among_is WORDS text w found))

    go : (o : Option Kind) → kind_from phase.Start text ≡ o → named text o ≡ Some k → SpellsToken k text
    go None read is = cc
    go (Some kind.Ident) read is = word (word_among WORDS text) refl (reading text kind.Ident read) is
    go (Some kind.Number) read is = let e : kind.Number ≡ k = cc in subst (λ j. SpellsToken j text) e (tested_number text (reading text kind.Number read))
    go (Some kind.Str) read is = let e : kind.Str ≡ k = cc in subst (λ j. SpellsToken j text) e (reading text kind.Str read)
    go (Some (kind.Word w)) read is = absurd (reading text (kind.Word w) read)
    go (Some (kind.Mark m)) read is = let e : kind.Mark m ≡ k = cc in subst (λ j. SpellsToken j text) e (reading text (kind.Mark m) read)
