-- The text of a list of items after one more item is written.
use Rattle.std.proofs.Common.{◌≡◌, ◌∙◌, ◌+◌, ◌<◌, ℕ, List, [], ◌∷◌, ◌++◌, length, drop, get_or}
use Rattle.std.proofs.Common.{add-one, refl, sym, ap, append_assoc}
use Rattle.std.proofs.Math.Seq.{drop-cons}
use Rattle.std.proofs.lemmas.List.Concat.{flat_map-append}
use Rattle.mu_tree.specs.Canonical.{byte_behind, end_for, joined, written_range}
use Rattle.mu_tree.specs.ModelTree.{Range}

joined_both : (a b : List (List ℕ)) → joined (a ++ b) ≡ joined a ++ joined b
joined_both a b = flat_map-append (λ t. t ++ byte_behind t ∷ []) a b

items_from : {T : Type 0} (xs : List T) (i : ℕ) (x : T) → i < length xs → x ≡ get_or xs i x
    → drop i xs ≡ x ∷ drop (i + 1) xs
items_from xs i x h e = rw (add-one, drop-cons xs i x h, ← e) refl

-- one more item
pub item_written : {T : Type 0} (texts : T → List (List ℕ)) (list_texts : List T → List (List ℕ))
    (more : (x : T) (xs : List T) → list_texts (x ∷ xs) ≡ texts x ++ list_texts xs)
    (xs : List T) (i : ℕ) (x : T) (out written whole : List ℕ) → i < length xs → x ≡ get_or xs i x
    → written ≡ out ++ joined (texts x) → out ++ joined (list_texts (drop i xs)) ≡ whole
    → written ++ joined (list_texts (drop (i + 1) xs)) ≡ whole
item_written texts list_texts more xs i x out written whole h e w is =
    let rest = drop (i + 1) xs in
    ap (λ o. o ++ joined (list_texts rest)) w
    ∙ append_assoc out (joined (texts x)) (joined (list_texts rest))
    ∙ ap (λ t. out ++ t) (sym (joined_both (texts x) (list_texts rest)))
    ∙ ap (λ t. out ++ joined t) (sym (more x rest))
    ∙ ap (λ ys. out ++ joined (list_texts ys)) (sym (items_from xs i x h e)) ∙ is

-- the head, the body and the end of a loop
pub loop_written : (texts body : List (List ℕ)) (r : Range) (out head inside whole : List ℕ)
    → texts ≡ written_range r ++ body ++ end_for → head ≡ out ++ joined (written_range r)
    → inside ≡ head ++ joined body → whole ≡ inside ++ joined end_for
    → whole ≡ out ++ joined texts
loop_written texts body r out head inside whole e a b c =
    let start = written_range r in
    c ∙ ap (λ o. o ++ joined end_for) (b ∙ ap (λ o. o ++ joined body) a)
    ∙ ap (λ o. o ++ joined end_for) (append_assoc out (joined start) (joined body))
    ∙ append_assoc out (joined start ++ joined body) (joined end_for)
    ∙ ap (λ t. out ++ (t ++ joined end_for)) (sym (joined_both start body))
    ∙ ap (λ t. out ++ t) (sym (joined_both (start ++ body) end_for))
    ∙ ap (λ t. out ++ joined t) (sym e)
