-- Finished forms that mean the same are the same.
use Rattle.qss_compile.proofs.Common
use Common.{[], ℕ, ◌∙◌, ◌∷◌, ◌≡◌, AffineForm, AllByRecursion, ap, AreForms, cases_lt, Equal}
use Common.{ExactEntry, ExactForm, ExactProduct, false, FlatModelTree, form_meaning, Forms}
use Common.{forms_of, FormsSoFar, Fraction, Greater, inl, inr, is_eq, is_nonzero, IsKeyOrder}
use Common.{IsRising, keys_of, Less, level_self, List, map, named, nat_order, none, Ok, Ordering}
use Common.{pair_order, paired, refl, sizes_of, slice_get, Some, subst, suc, sym, true, value_at}
use Rattle.std.specs.Ordering.{ordering_reverse}
use Rattle.std.specs.BTreeMap.{is_at}
use Rattle.std.specs.Option.{unwrap_or}
use Rattle.std.proofs.lemmas.Map.{lookup-none}
use Rattle.std.proofs.lemmas.Map.Entries.{lookup_head, lookup_tail, none_below_head}
use Rattle.std.proofs.lemmas.Map.Keys.{sorted_head, sorted_tail}
use Rattle.mu_affine.specs.FinishedForms.{IsCoefficient, IsCanonical}

-- 0 is no coefficient
zero_is_none : (a : Fraction) → a ≡ none → is_nonzero a ≡ true → ⊥
zero_is_none a e h = let wrong : false ≡ true = sym (ap is_nonzero e) ∙ h in cc wrong

module _ {K : Type 0} {R : K → K → Ordering} (o : IsKeyOrder R) where
  -- a key below all others has no value
  below_none : (q : K) (e : K × Fraction) (es : List (K × Fraction)) → IsRising R (e ∷ es) → R q e.0 ≡ Less → value_at R (e ∷ es) q ≡ none
  below_none q e es rising less = ap (λ v. unwrap_or v none) (lookup-none (is_at (R q)) (e ∷ es) (none_below_head o.total q e es rising less))

  -- nor has the first key among the others
  after_none : (e : K × Fraction) (es : List (K × Fraction)) → IsRising R (e ∷ es) → value_at R es e.0 ≡ none
  after_none e [] rising = refl
  after_none e (y ∷ ys) rising = below_none e.0 y ys (sorted_tail R e.0 (keys_of (y ∷ ys)) rising) ((sorted_head R e.0 (keys_of (y ∷ ys)) rising).0)

  pub head_value : (e : K × Fraction) (es : List (K × Fraction)) → value_at R (e ∷ es) e.0 ≡ e.1
  head_value e es = ap (λ v. unwrap_or v none) (lookup_head (is_at (R e.0)) e es (ap is_eq (level_self R o e.0)))

  pub tail_value : (q : K) (e : K × Fraction) (es : List (K × Fraction)) → is_eq (R q e.0) ≡ false → value_at R (e ∷ es) q ≡ value_at R es q
  tail_value q e es differs = ap (λ v. unwrap_or v none) (lookup_tail (is_at (R q)) e es differs)

  -- what the values of two lists with one first key say of the others
  rest_values : (e : K × Fraction) (xs ys : List (K × Fraction)) → IsRising R (e ∷ xs) → IsRising R (e ∷ ys) → ((k : K) → value_at R (e ∷ xs) k ≡ value_at R (e ∷ ys) k) → (k : K) → value_at R xs k ≡ value_at R ys k
  rest_values e xs ys rx ry h k = by (R k e.0) refl
    where
      past : is_eq (R k e.0) ≡ false → value_at R xs k ≡ value_at R ys k
      past d = sym (tail_value k e xs d) ∙ h k ∙ tail_value k e ys d

      by : (c : Ordering) → R k e.0 ≡ c → value_at R xs k ≡ value_at R ys k
      by Less c = past (ap is_eq c)
      by Greater c = past (ap is_eq c)
      by Equal c =
          let key : k ≡ e.0 = o.exact k e.0 c in
          subst (λ (q : K). value_at R xs q ≡ value_at R ys q) (sym key) (after_none e xs rx ∙ sym (after_none e ys ry))

  tail_rising : (e : K × Fraction) (es : List (K × Fraction)) → IsRising R (e ∷ es) → IsRising R es
  tail_rising e es r = sorted_tail R e.0 (keys_of es) r

  one_pair : (x y : K × Fraction) → x.0 ≡ y.0 → x.1 ≡ y.1 → x ≡ y
  one_pair x y p q = let f : K → K × Fraction = λ k. (k, x.1) in let g : Fraction → K × Fraction = λ v. (y.0, v) in ap f p ∙ ap g q

  one_cons : (x y : K × Fraction) (xs ys : List (K × Fraction)) → x ≡ y → xs ≡ ys → x ∷ xs ≡ y ∷ ys
  one_cons x y xs ys p q = ap (λ e. e ∷ xs) p ∙ ap (λ es. y ∷ es) q

  pub one_list : (xs ys : List (K × Fraction)) → IsRising R xs → IsRising R ys → AllByRecursion (λ c. IsCoefficient c.1) xs → AllByRecursion (λ c. IsCoefficient c.1) ys → ((k : K) → value_at R xs k ≡ value_at R ys k) → xs ≡ ys
  one_list [] [] rx ry nx ny h = refl
  one_list [] (y ∷ ys) rx ry nx ny h = absurd (zero_is_none y.1 (sym (h y.0 ∙ head_value y ys)) ny.0.0)
  one_list (x ∷ xs) [] rx ry nx ny h = absurd (zero_is_none x.1 (sym (head_value x xs) ∙ h x.0) nx.0.0)
  one_list (x ∷ xs) (y ∷ ys) rx ry nx ny h = by (one_list xs ys (tail_rising x xs rx) (tail_rising y ys ry) nx.1 ny.1) (R x.0 y.0) refl
    where
      by : (((k : K) → value_at R xs k ≡ value_at R ys k) → xs ≡ ys) → (c : Ordering) → R x.0 y.0 ≡ c → x ∷ xs ≡ y ∷ ys
      by rest Less c = absurd (zero_is_none x.1 (sym (head_value x xs) ∙ h x.0 ∙ below_none x.0 y ys ry c) nx.0.0)
      by rest Greater c =
          let back : R y.0 x.0 ≡ Less = o.total.antisymm y.0 x.0 ∙ ap ordering_reverse c in
          absurd (zero_is_none y.1 (sym (head_value y ys) ∙ sym (h y.0) ∙ below_none y.0 x xs rx back) ny.0.0)
      by rest Equal c =
          let key : x.0 ≡ y.0 = o.exact x.0 y.0 c in
          let there : value_at R (y ∷ ys) x.0 ≡ y.1 = ap (value_at R (y ∷ ys)) key ∙ head_value y ys in
          let value : x.1 ≡ y.1 = sym (head_value x xs) ∙ h x.0 ∙ there in
          let first : x ≡ y = one_pair x y key value in
          let ry' : IsRising R (x ∷ ys) = subst (λ e. IsRising R (e ∷ ys)) (sym first) ry in
          let h' : (k : K) → value_at R (x ∷ xs) k ≡ value_at R (x ∷ ys) k = subst (λ e. (k : K) → value_at R (x ∷ xs) k ≡ value_at R (e ∷ ys) k) (sym first) h in
          one_cons x y xs ys first (rest (rest_values x xs ys rx ry' h'))

-- the parts of an entry, of a product and of a form put together
abbrev entry : ℕ → Fraction → ExactEntry
entry v c = record { var = v; coef = c }

abbrev product : ℕ → ℕ → Fraction → ExactProduct
product s d c = record { state = s; discrete = d; coef = c }

abbrev form : List ExactEntry → List ExactProduct → Fraction → Fraction → ExactForm
form es ps t c = record { entries = es; products = ps; time = t; constant = c }

one_entry : (a b : ExactEntry) → named a ≡ named b → a ≡ b
one_entry a b e = ap (λ v. entry v a.coef) (ap (λ p. p.0) e) ∙ ap (λ c. entry b.var c) (ap (λ p. p.1) e)

one_product : (a b : ExactProduct) → paired a ≡ paired b → a ≡ b
one_product a b e =
    ap (λ s. product s a.discrete a.coef) (ap (λ p. p.0.0) e) ∙ ap (λ d. product b.state d a.coef) (ap (λ p. p.0.1) e) ∙ ap (λ c. product b.state b.discrete c) (ap (λ p. p.1) e)

-- what is seen of two lists by a view that loses nothing
unseen : {A B : Type 0} (view : A → B) → ((a b : A) → view a ≡ view b → a ≡ b) → (xs ys : List A) → map view xs ≡ map view ys → xs ≡ ys
unseen view one [] [] e = refl
unseen view one [] (y ∷ ys) e = absurd (cc e)
unseen view one (x ∷ xs) [] e = absurd (cc e)
unseen view one (x ∷ xs) (y ∷ ys) e = both x y xs ys (one x y (heads (view x) (view y) (map view xs) (map view ys) e)) (unseen view one xs ys (tails (view x) (view y) (map view xs) (map view ys) e))
  where
    heads : {B : Type 0} (a b : B) (as' bs : List B) → a ∷ as' ≡ b ∷ bs → a ≡ b
    heads a b as' bs e = cc e

    tails : {B : Type 0} (a b : B) (as' bs : List B) → a ∷ as' ≡ b ∷ bs → as' ≡ bs
    tails a b as' bs e = cc e

    both : {A : Type 0} (x y : A) (xs ys : List A) → x ≡ y → xs ≡ ys → x ∷ xs ≡ y ∷ ys
    both x y xs ys p q = ap (λ e. e ∷ xs) p ∙ ap (λ es. y ∷ es) q

-- finished forms that mean the same are the same
pub one_form : (f g : ExactForm) → IsCanonical f → IsCanonical g → form_meaning f ≡ form_meaning g → f ≡ g
one_form f g a b e =
    same f g
    (unseen named one_entry f.entries g.entries (one_list nat_order (map named f.entries) (map named g.entries) a.names.rising b.names.rising a.names.each b.names.each (λ k. ap (λ x. x.coefficient k) e)))
    (unseen paired one_product f.products g.products (one_list pair_order (map paired f.products) (map paired g.products) a.pairs.rising b.pairs.rising a.pairs.each b.pairs.each (λ k. ap (λ x. x.paired k.0 k.1) e)))
    (ap (λ x. x.time) e) (ap (λ x. x.constant) e)
  where
    same : (f g : ExactForm) → f.entries ≡ g.entries → f.products ≡ g.products → f.time ≡ g.time → f.constant ≡ g.constant → f ≡ g
    same f g p q r s =
        ap (λ x. form x f.products f.time f.constant) p ∙ ap (λ x. form g.entries x f.time f.constant) q ∙ ap (λ x. form g.entries g.products x f.constant) r ∙ ap (λ x. form g.entries g.products g.time x) s

one_taken : (m : FlatModelTree) (order : List ℕ) (a b : FormsSoFar) → forms_of m order ≡ Ok a → forms_of m order ≡ Ok b → a ≡ b
one_taken m order a b p q = let e = sym p ∙ q in cc e

-- lists of such forms that mean the same, one by one
kept_once : (fs gs : List ExactForm) → ((i : ℕ) (f : ExactForm) → slice_get fs i ≡ Some f → IsCanonical f) → ((i : ℕ) (g : ExactForm) → slice_get gs i ≡ Some g → IsCanonical g) → map form_meaning fs ≡ map form_meaning gs → fs ≡ gs
kept_once [] [] p q e = refl
kept_once [] (g ∷ gs) p q e = absurd (cc e)
kept_once (f ∷ fs) [] p q e = absurd (cc e)
kept_once (f ∷ fs) (g ∷ gs) p q e =
    both f g fs gs (one_form f g (p 0 f refl) (q 0 g refl) (first_of_both (form_meaning f) (form_meaning g) (map form_meaning fs) (map form_meaning gs) e))
    (kept_once fs gs (λ i. p (suc i)) (λ i. q (suc i)) (rest_of_both (form_meaning f) (form_meaning g) (map form_meaning fs) (map form_meaning gs) e))
  where
    first_of_both : (a b : AffineForm) (as' bs : List AffineForm) → a ∷ as' ≡ b ∷ bs → a ≡ b
    first_of_both a b as' bs e = cc e

    rest_of_both : (a b : AffineForm) (as' bs : List AffineForm) → a ∷ as' ≡ b ∷ bs → as' ≡ bs
    rest_of_both a b as' bs e = cc e

    both : (x y : ExactForm) (xs ys : List ExactForm) → x ≡ y → xs ≡ ys → x ∷ xs ≡ y ∷ ys
    both x y xs ys p q = ap (λ e. e ∷ xs) p ∙ ap (λ es. y ∷ es) q

abbrev forms_with : List ExactForm → Forms
forms_with fs = record { forms = fs }

-- each form of a flat model is canonical
each_canonical : (m : FlatModelTree) (order : List ℕ) (f : Forms) → AreForms m order f → (i : ℕ) (g : ExactForm) → slice_get f.forms i ≡ Some g → IsCanonical g
each_canonical m order f are i g at = elim (cases_lt i (sizes_of m).states) [ inl below ↦ (are.states i g below at).canonical | inr past ↦ (are.others i g past at).canonical ]

-- a flat model has one list of forms
pub one_forms : (m : FlatModelTree) (order : List ℕ) (f g : Forms) → AreForms m order f → AreForms m order g → f ≡ g
one_forms m order f g a b =
    let taken = one_taken m order a.taken b.taken a.is b.is in
    let kept : a.taken.kept ≡ b.taken.kept = ap (λ (t : FormsSoFar). t.kept) taken in
    ap forms_with (kept_once f.forms g.forms (each_canonical m order f a) (each_canonical m order g b) (a.meanings ∙ kept ∙ sym b.meanings))
