-- The flat model of a source is the listing of its tree.
use Rattle.qss_theorems.proofs.Common
use Common.{◌≡◌, FlatModelTree, IfOk, listed, Machine, ModelTree, Ok, Result, scope_of, subst}
use Common.{UnrollErr}
use Rattle.mu_unroll.proofs.Listed.{listed_right}
use Rattle.qss_compile.specs.Phases.{UnrollsTo}
use Rattle.qss_compile.specs.Compilation.{TreeCompilesTo}
use Rattle.qss_theorems.specs.Listings.{IsListingOf, MeansByListing, ListingsAreRight}

pub is_listing : (tree : ModelTree) (flat : FlatModelTree) → UnrollsTo tree flat → IsListingOf tree flat
is_listing tree flat e =
    let P : Result FlatModelTree UnrollErr → Type 0 = λ r. IfOk r (λ f. listed tree (scope_of tree).known ≡ Ok f) in
    subst P e (listed_right tree (scope_of tree).known)

by_listing : (tree : ModelTree) (m : Machine) → TreeCompilesTo tree m → MeansByListing tree m
by_listing tree m (s, is, means) = (s, is, is_listing tree s.flat is.1, means)

pub listings_are_right : ListingsAreRight
listings_are_right = record {
  unrolled = is_listing;
  flat = λ tree s is. is_listing tree s.flat is.1;
  model = by_listing;
  source = λ bytes m means. (means.0, means.1, by_listing means.0 m means.2);
}
