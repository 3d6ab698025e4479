-- The least fault of two lists.
use Rattle.mu_names.proofs.Common
use Common.{[], ◌++◌, ◌∙◌, ◌∷◌, ◌≡◌, ap, least_of, lesser, List, NameErr, Option, refl, sym}

-- the least fault of two lists is found one list after the other
pub least_of_append : (least : Option NameErr) (xs ys : List NameErr) → least_of least (xs ++ ys) ≡ least_of (least_of least xs) ys
least_of_append least [] ys = refl
least_of_append least (x ∷ xs) ys = least_of_append (lesser least x) xs ys

-- two lists of faults that were noted one after the other
pub noted_both : (l0 l1 l2 : Option NameErr) (xs ys zs : List NameErr) → l1 ≡ least_of l0 xs → l2 ≡ least_of l1 ys → zs ≡ xs ++ ys → l2 ≡ least_of l0 zs
noted_both l0 l1 l2 xs ys zs first second e =
    second ∙ ap (λ x. least_of x ys) first ∙ sym (least_of_append l0 xs ys) ∙ ap (least_of l0) (sym e)

-- three lists of faults, the first two of which were noted
pub noted_two_of_three : (l0 l1 l2 : Option NameErr) (xs ys zs all : List NameErr) → l1 ≡ least_of l0 xs → l2 ≡ least_of l1 ys → all ≡ xs ++ (ys ++ zs) → least_of l2 zs ≡ least_of l0 all
noted_two_of_three l0 l1 l2 xs ys zs all first second e =
    ap (λ x. least_of x zs) (second ∙ ap (λ x. least_of x ys) first)
    ∙ sym (least_of_append (least_of l0 xs) ys zs) ∙ sym (least_of_append l0 xs (ys ++ zs)) ∙ ap (least_of l0) (sym e)

-- a list of faults that was noted, before others
pub noted_first : (l0 l1 : Option NameErr) (xs ys all : List NameErr) → l1 ≡ least_of l0 xs → all ≡ xs ++ ys → least_of l1 ys ≡ least_of l0 all
noted_first l0 l1 xs ys all first e = ap (λ x. least_of x ys) first ∙ sym (least_of_append l0 xs ys) ∙ ap (least_of l0) (sym e)

-- seven lists of faults that were noted one after the other
pub noted_seven : (l0 l1 l2 l3 l4 l5 l6 l7 : Option NameErr) (a b c d e f g : List NameErr) → l1 ≡ least_of l0 a → l2 ≡ least_of l1 b → l3 ≡ least_of l2 c → l4 ≡ least_of l3 d → l5 ≡ least_of l4 e → l6 ≡ least_of l5 f → l7 ≡ least_of l6 g
    → l7 ≡ least_of l0 (a ++ (b ++ (c ++ (d ++ (e ++ (f ++ g))))))
noted_seven l0 l1 l2 l3 l4 l5 l6 l7 a b c d e f g e1 e2 e3 e4 e5 e6 e7 =
    let r6 : l7 ≡ least_of l5 (f ++ g) = noted_both l5 l6 l7 f g (f ++ g) e6 e7 refl in
    let r5 : l7 ≡ least_of l4 (e ++ (f ++ g)) = noted_both l4 l5 l7 e (f ++ g) (e ++ (f ++ g)) e5 r6 refl in
    let r4 : l7 ≡ least_of l3 (d ++ (e ++ (f ++ g))) = noted_both l3 l4 l7 d (e ++ (f ++ g)) (d ++ (e ++ (f ++ g))) e4 r5 refl in
    let r3 : l7 ≡ least_of l2 (c ++ (d ++ (e ++ (f ++ g)))) = noted_both l2 l3 l7 c (d ++ (e ++ (f ++ g))) (c ++ (d ++ (e ++ (f ++ g)))) e3 r4 refl in
    let r2 : l7 ≡ least_of l1 (b ++ (c ++ (d ++ (e ++ (f ++ g))))) = noted_both l1 l2 l7 b (c ++ (d ++ (e ++ (f ++ g)))) (b ++ (c ++ (d ++ (e ++ (f ++ g))))) e2 r3 refl in
    noted_both l0 l1 l7 a (b ++ (c ++ (d ++ (e ++ (f ++ g))))) (a ++ (b ++ (c ++ (d ++ (e ++ (f ++ g)))))) e1 r2 refl
