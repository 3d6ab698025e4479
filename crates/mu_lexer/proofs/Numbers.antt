-- A byte-by-byte test for numbers, and its correctness.
use Rattle.mu_lexer.proofs.Common
use Common.{[], ℕ, ◌++◌, ◌==◌, ◌∙◌, ◌∷◌, ◌≡◌, ap, append_assoc, arith, Bool, eqb-true, false}
use Common.{if◌then◌else◌, is_digit, is_digits, is_exponent_mark, is_sign, is_some_digits, List}
use Common.{refl, sym, true}
use Rattle.mu_lexer.specs.Spelling.{IsMantissa, whole, with_point, behind_point, IsScale, no_scale}
use Rattle.mu_lexer.specs.Spelling.{plain_scale, signed_scale, IsNumber}

-- what may follow e: a sign or none, and digits
abbrev pub is_exponent : List ℕ → Bool
is_exponent [] = false
is_exponent (c ∷ s) = if is_digit c then is_digits s else (if is_sign c then is_some_digits s else false)

-- what may follow a point that digits precede: digits or none, and a scale
abbrev pub is_fraction : List ℕ → Bool
is_fraction [] = true
is_fraction (c ∷ s) = if is_digit c then is_fraction s else (if is_exponent_mark c then is_exponent s else false)

-- what may follow a digit before the point
abbrev pub is_whole : List ℕ → Bool
is_whole [] = true
is_whole (c ∷ s) =
    if is_digit c then is_whole s
    else (if c == 46 then is_fraction s
    else (if is_exponent_mark c then is_exponent s else false))

-- what must follow a point that begins a number: a digit, and then as after any point
abbrev pub is_point : List ℕ → Bool
is_point [] = false
is_point (c ∷ s) = if is_digit c then is_fraction s else false

-- a number
abbrev pub is_number : List ℕ → Bool
is_number [] = false
is_number (c ∷ s) = if is_digit c then is_whole s else (if c == 46 then is_point s else false)

-- a prefix of digits, followed by an exponent
record Fraction (s : List ℕ) : Type 0 where
  digits : List ℕ
  scale : List ℕ
  both : s ≡ digits ++ scale
  are_digits : is_digits digits ≡ true
  is_scale : IsScale scale

one_digit : (c : ℕ) (s : List ℕ) → is_digit c ≡ true → is_digits s ≡ true → is_digits (c ∷ s) ≡ true
one_digit c s digit digits = ap (λ b. if b then is_digits s else false) digit ∙ digits

some_digit : (c : ℕ) (s : List ℕ) → is_digit c ≡ true → is_digits s ≡ true → is_some_digits (c ∷ s) ≡ true
some_digit c s digit digits = ap (λ b. if b then is_digits s else false) digit ∙ digits

exponent_scale : (e : ℕ) (s : List ℕ) → is_exponent_mark e ≡ true → is_exponent s ≡ true → IsScale (e ∷ s)
exponent_scale e [] mark is = cc
exponent_scale e (c ∷ s) mark is = go (is_digit c) (is_sign c) refl refl is
  where
    go : (b d : Bool) → is_digit c ≡ b → is_sign c ≡ d → (if b then is_digits s else (if d then is_some_digits s else false)) ≡ true → IsScale (e ∷ c ∷ s)
    go true d digit sign is = plain_scale mark (some_digit c s digit is)
    go false true digit sign is = signed_scale mark sign is
    go false false digit sign is = cc

-- what follows a point
fraction_parts : (s : List ℕ) → is_fraction s ≡ true → Fraction s
fraction_parts [] is = record { digits = []; scale = []; both = refl; are_digits = refl; is_scale = no_scale }
fraction_parts (c ∷ s) is = go (is_digit c) (is_exponent_mark c) refl refl is (fraction_parts s)
  where
    go : (b d : Bool) → is_digit c ≡ b → is_exponent_mark c ≡ d → (if b then is_fraction s else (if d then is_exponent s else false)) ≡ true → (is_fraction s ≡ true → Fraction s) → Fraction (c ∷ s)
    go true d digit mark is again = (
        let f = again is in
        record { digits = c ∷ f.digits; scale = f.scale; both = ap (λ t. c ∷ t) f.both; are_digits = one_digit c f.digits digit f.are_digits; is_scale = f.is_scale })
    go false true digit mark is again = record { digits = []; scale = c ∷ s; both = refl; are_digits = refl; is_scale = exponent_scale c s mark is }
    go false false digit mark is again = cc

-- digits, a point and digits or neither, and then a scale
data Whole : List ℕ → Type 0 where
  no_point : {s : List ℕ} (digits scale : List ℕ) → s ≡ digits ++ scale → is_digits digits ≡ true → IsScale scale → Whole s
  a_point : {s : List ℕ} (before behind scale : List ℕ) → s ≡ before ++ 46 ∷ (behind ++ scale) → is_digits before ≡ true → is_digits behind ≡ true → IsScale scale → Whole s

-- what follows a digit before the point
whole_parts : (s : List ℕ) → is_whole s ≡ true → Whole s
whole_parts [] is = no_point [] [] refl refl no_scale
whole_parts (c ∷ s) is = go (is_digit c) (c == 46) (is_exponent_mark c) refl refl refl is (whole_parts s)
  where
    more : is_digit c ≡ true → Whole s → Whole (c ∷ s)
    more digit (no_point digits scale both are is_scale) = no_point (c ∷ digits) scale (ap (λ t. c ∷ t) both) (one_digit c digits digit are) is_scale
    more digit (a_point before behind scale both are behind_are is_scale) = a_point (c ∷ before) behind scale (ap (λ t. c ∷ t) both) (one_digit c before digit are) behind_are is_scale

    go : (b p d : Bool) → is_digit c ≡ b → (c == 46) ≡ p → is_exponent_mark c ≡ d → (if b then is_whole s else (if p then is_fraction s else (if d then is_exponent s else false))) ≡ true → (is_whole s ≡ true → Whole s) → Whole (c ∷ s)
    go true p d digit point mark is again = more digit (again is)
    go false true d digit point mark is again = (let f = fraction_parts s is in a_point [] f.digits f.scale (ap (λ x. x ∷ s) (eqb-true c 46 point) ∙ ap (λ t. 46 ∷ t) f.both) refl f.are_digits f.is_scale)
    go false false true digit point mark is again = no_point [] (c ∷ s) refl refl (exponent_scale c s mark is)
    go false false false digit point mark is again = cc

-- what the test takes is a number
pub tested_number : (text : List ℕ) → is_number text ≡ true → IsNumber text
tested_number [] is = cc
tested_number (c ∷ s) is = go (is_digit c) (c == 46) refl refl is
  where
    after_digit : is_digit c ≡ true → Whole s → IsNumber (c ∷ s)
    after_digit digit (no_point digits scale both are is_scale) = (c ∷ digits, scale, ap (λ t. c ∷ t) both, whole (some_digit c digits digit are), is_scale)
    after_digit digit (a_point before behind scale both are behind_are is_scale) =
        ((c ∷ before) ++ 46 ∷ behind, scale, ap (λ t. c ∷ t) (both ∙ sym (append_assoc before (46 ∷ behind) scale)), with_point (c ∷ before) behind (some_digit c before digit are) behind_are, is_scale)

    after_point : (s : List ℕ) → (c == 46) ≡ true → is_point s ≡ true → IsNumber (c ∷ s)
    after_point [] point is = cc
    after_point (d ∷ t) point is = inner (is_digit d) refl is
      where
        inner : (b : Bool) → is_digit d ≡ b → (if b then is_fraction t else false) ≡ true → IsNumber (c ∷ d ∷ t)
        inner true digit is = (let f = fraction_parts t is in (46 ∷ d ∷ f.digits, f.scale, ap (λ x. x ∷ d ∷ t) (eqb-true c 46 point) ∙ ap (λ u. 46 ∷ d ∷ u) f.both, behind_point (some_digit d f.digits digit f.are_digits), f.is_scale))
        inner false digit is = cc

    go : (b p : Bool) → is_digit c ≡ b → (c == 46) ≡ p → (if b then is_whole s else (if p then is_point s else false)) ≡ true → IsNumber (c ∷ s)
    go true p digit point is = after_digit digit (whole_parts s is)
    go false true digit point is = after_point s point is
    go false false digit point is = cc

-- no digit and no point marks a scale
mark_no_digit : (c : ℕ) → is_exponent_mark c ≡ true → is_digit c ≡ false
mark_no_digit c is = grind arith

mark_no_point : (c : ℕ) → is_exponent_mark c ≡ true → (c == 46) ≡ false
mark_no_point c is = grind arith

sign_no_digit : (c : ℕ) → is_sign c ≡ true → is_digit c ≡ false
sign_no_digit c is = grind arith

-- digits, at least one, are an exponent
digits_exponent : (s : List ℕ) → is_some_digits s ≡ true → is_exponent s ≡ true
digits_exponent [] is = cc
digits_exponent (c ∷ s) is = go (is_digit c) (is_sign c) is
  where
    go : (b d : Bool) → (if b then is_digits s else false) ≡ true → (if b then is_digits s else (if d then is_some_digits s else false)) ≡ true
    go true d is = is
    go false d is = cc

-- a scale may follow a point
scale_fraction : (s : List ℕ) → IsScale s → is_fraction s ≡ true
scale_fraction _ no_scale = refl
scale_fraction _ (plain_scale {e = e} {digits = s} mark digits) = ap (λ b. if b then is_fraction s else (if is_exponent_mark e then is_exponent s else false)) (mark_no_digit e mark) ∙ ap (λ b. if b then is_exponent s else false) mark ∙ digits_exponent s digits
scale_fraction _ (signed_scale {e = e} {sign = c} {digits = s} mark sign digits) =
    ap (λ b. if b then is_fraction (c ∷ s) else (if is_exponent_mark e then is_exponent (c ∷ s) else false)) (mark_no_digit e mark) ∙ ap (λ b. if b then is_exponent (c ∷ s) else false) mark
    ∙ ap (λ b. if b then is_digits s else (if is_sign c then is_some_digits s else false)) (sign_no_digit c sign) ∙ ap (λ b. if b then is_some_digits s else false) sign ∙ digits

-- a scale may follow the digits before a point
scale_whole : (s : List ℕ) → IsScale s → is_whole s ≡ true
scale_whole _ no_scale = refl
scale_whole _ (plain_scale {e = e} {digits = s} mark digits) =
    ap (λ b. if b then is_whole s else (if e == 46 then is_fraction s else (if is_exponent_mark e then is_exponent s else false))) (mark_no_digit e mark)
    ∙ ap (λ b. if b then is_fraction s else (if is_exponent_mark e then is_exponent s else false)) (mark_no_point e mark) ∙ ap (λ b. if b then is_exponent s else false) mark ∙ digits_exponent s digits
scale_whole _ (signed_scale {e = e} {sign = c} {digits = s} mark sign digits) =
    ap (λ b. if b then is_whole (c ∷ s) else (if e == 46 then is_fraction (c ∷ s) else (if is_exponent_mark e then is_exponent (c ∷ s) else false))) (mark_no_digit e mark)
    ∙ ap (λ b. if b then is_fraction (c ∷ s) else (if is_exponent_mark e then is_exponent (c ∷ s) else false)) (mark_no_point e mark) ∙ ap (λ b. if b then is_exponent (c ∷ s) else false) mark
    ∙ ap (λ b. if b then is_digits s else (if is_sign c then is_some_digits s else false)) (sign_no_digit c sign) ∙ ap (λ b. if b then is_some_digits s else false) sign ∙ digits

-- digits before what may follow a point
digits_fraction : (s t : List ℕ) → is_digits s ≡ true → is_fraction t ≡ true → is_fraction (s ++ t) ≡ true
digits_fraction [] t are is = is
digits_fraction (c ∷ s) t are is = go (is_digit c) (is_exponent_mark c) are (λ rest. digits_fraction s t rest is)
  where
    go : (b d : Bool) → (if b then is_digits s else false) ≡ true → (is_digits s ≡ true → is_fraction (s ++ t) ≡ true) → (if b then is_fraction (s ++ t) else (if d then is_exponent (s ++ t) else false)) ≡ true
    go true d are again = again are
    go false d are again = cc

-- digits before what may follow the digits before a point
digits_whole : (s t : List ℕ) → is_digits s ≡ true → is_whole t ≡ true → is_whole (s ++ t) ≡ true
digits_whole [] t are is = is
digits_whole (c ∷ s) t are is = go (is_digit c) (if c == 46 then is_fraction (s ++ t) else (if is_exponent_mark c then is_exponent (s ++ t) else false)) are (λ rest. digits_whole s t rest is)
  where
    go : (b d : Bool) → (if b then is_digits s else false) ≡ true → (is_digits s ≡ true → is_whole (s ++ t) ≡ true) → (if b then is_whole (s ++ t) else d) ≡ true
    go true d are again = again are
    go false d are again = cc

-- digits and what may follow them begin a number
digits_number : (s t : List ℕ) → is_some_digits s ≡ true → is_whole t ≡ true → is_number (s ++ t) ≡ true
digits_number [] t are is = cc
digits_number (c ∷ s) t are is = go (is_digit c) (c == 46) are
  where
    go : (b p : Bool) → (if b then is_digits s else false) ≡ true → (if b then is_whole (s ++ t) else (if p then is_point (s ++ t) else false)) ≡ true
    go true p are = digits_whole s t are is
    go false p are = cc

-- a point, digits and a scale are a number
point_number : (s t : List ℕ) → is_some_digits s ≡ true → is_fraction t ≡ true → is_point (s ++ t) ≡ true
point_number [] t are is = cc
point_number (c ∷ s) t are is = go (is_digit c) are
  where
    go : (b : Bool) → (if b then is_digits s else false) ≡ true → (if b then is_fraction (s ++ t) else false) ≡ true
    go true are = digits_fraction s t are is
    go false are = cc

-- the test takes each number
pub number_tested : (text : List ℕ) → IsNumber text → is_number text ≡ true
number_tested text (mantissa, scale, both, is_mantissa, is_scale) = ap is_number both ∙ go mantissa is_mantissa
  where
    go : (m : List ℕ) → IsMantissa m → is_number (m ++ scale) ≡ true
    go _ (whole {digits = digits} are) = digits_number digits scale are (scale_whole scale is_scale)
    go _ (with_point before behind are behind_are) =
        ap is_number (append_assoc before (46 ∷ behind) scale) ∙ digits_number before (46 ∷ (behind ++ scale)) are (digits_fraction behind scale behind_are (scale_fraction scale is_scale))
    go _ (behind_point {digits = digits} are) = point_number digits scale are (scale_fraction scale is_scale)
