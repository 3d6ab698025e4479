-- Elements that are written in place.
use Rattle.mu_num.proofs.Common.{◌∙◌, ◌≡◌, length, List, sym}
use Rattle.std.proofs.Common.{Vec, Global}
use Rattle.std.specs.Vec.{with_items}

-- elements that are written in place keep their number
pub same_length : {X : Type 0} (v : Vec X Global) (ws : List X) → length (with_items v ws).items ≡ length v.items
same_length v ws = sym (with_items v ws).ok.0 ∙ v.ok.0
