-- What made an answer of steps that may give nothing.
use Rattle.cert_propose.proofs.Common
use Common.{◌≡◌, None, Ok, Option, option_and_then, option_map, refl, Some}
use Rattle.std.specs.Prelude.{Result, Err, IfErr}

pub then-of : {X Y : Type 0} (f : X → Option Y) (o : Option X) (r : Y) → option_and_then f o ≡ Some r → (x : X) × (o ≡ Some x) × (f x ≡ Some r)
then-of f None r h = absurd (cc)
then-of f (Some x) r h = (x, refl, h)

pub map-of : {X Y : Type 0} (f : X → Y) (o : Option X) (r : Y) → option_map f o ≡ Some r → (x : X) × (o ≡ Some x) × (r ≡ f x)
map-of f None r h = absurd (cc)
map-of f (Some x) r h = (x, refl, cc)

-- what holds of every error
pub if-err : {X E : Type 0} (Q : Type 0) (r : Result X E) → Q → IfErr r (λ why. Q)
if-err Q (Ok x) q = tt
if-err Q (Err e) q = q
