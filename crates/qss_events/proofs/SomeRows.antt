-- Whether there are rows.
use Rattle.qss_events.proofs.Common
use Common.{[], ◌==◌, ◌∙◌, ◌∷◌, ◌≡◌, ◌≢◌, ap, arith, eqb-false, false, length, List, refl, Row, sym}
use Common.{true, vec_len}
use Rattle.std.proofs.Common.{Vec, Global}
use Rattle.mu_num.proofs.Tests.{eqb-true}

pub some_rows : (v : Vec Row Global) → (vec_len v == 0) ≡ false → v.items ≢ []
some_rows v e none =
    let zero : v.len ≡ 0 = v.ok.0 ∙ ap length none in
    eqb-false v.len 0 e zero

empty_list : {X : Type 0} (xs : List X) → length xs ≡ 0 → xs ≡ []
empty_list [] e = refl
empty_list (x ∷ xs) e = absurd (omega (arith, e))

pub no_rows : (v : Vec Row Global) → (vec_len v == 0) ≡ true → v.items ≡ []
no_rows v e = empty_list v.items (sym v.ok.0 ∙ eqb-true v.len 0 e)
