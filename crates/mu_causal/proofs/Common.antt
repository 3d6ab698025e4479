-- Names from outside the lemmas of this crate that several of its proofs cite, passed on from one place.
pub use Rattle.std.proofs.Common.{[], ℕ, ◌++◌, ◌+◌, ◌<◌, ◌∙◌, ◌∷◌, ◌≡◌, ◌≢◌, ◌≤◌, add-one, ap}
pub use Rattle.std.proofs.Common.{append-nil, append_assoc, arith, drop, eq-eqb, get_or, inl, inr}
pub use Rattle.std.proofs.Common.{length, List, map, refl, set, subst, sym, take}
pub use Rattle.std.proofs.Math.ListN.{length-set}
pub use Rattle.std.proofs.Math.Seq.{drop-cons}
pub use Rattle.std.proofs.lemmas.Bool.{cases_Bool, cases_eq, cases_lt}
pub use Rattle.std.proofs.lemmas.Grind.{get_or-set_at}
pub use Rattle.std.proofs.lemmas.List.{get_or-set_other, get_or-set_same, get_or_default}
pub use Rattle.std.proofs.lemmas.List.{length-map, length-take-le}
pub use Rattle.std.proofs.lemmas.List.Elements.{Contains-append_cases, Contains-append_left}
pub use Rattle.std.proofs.lemmas.List.Elements.{Contains-append_right, Contains-get_or}
pub use Rattle.std.proofs.lemmas.List.Elements.{Contains-push}
pub use Rattle.std.proofs.lemmas.Option.{slice_get-get_or, slice_get_within}
pub use Rattle.std.specs.Prelude.{◌⊎◌, All, Bool, Contains, false, if◌then◌else◌, nat_eq, slice_get}
pub use Rattle.std.specs.Prelude.{Some, true}
pub use Rattle.std.specs.declared.alloc.Global.{Global}
pub use Rattle.std.specs.declared.vec.Vec.{Vec}
pub use Prim.Native.Nat.{suc, zero}
pub use Rattle.mu_tree.specs.FlatExpression.{flat_equation, flat_expression, flat_factors_of}
pub use Rattle.mu_tree.specs.FlatExpression.{flat_model, flat_scaled, flat_signed, flat_terms_of}
pub use Rattle.mu_tree.specs.FlatExpression.{flat_variable, FlatEquationTree, FlatModelTree}
pub use Rattle.mu_tree.specs.FlatExpression.{FlatVariable}
pub use Rattle.mu_tree.specs.declared.flat.FlatEquation.{FlatEquation}
pub use Rattle.mu_causal.specs.Causality.{Chain, Follow, IsCycle, IsNext, IsOrder, IsReady}
pub use Rattle.mu_causal.specs.Dependencies.{DependsOn, EachBelowHasOneEquation, IsAlgebraic}
pub use Rattle.mu_causal.specs.Dependencies.{names_of, names_of_factors, names_of_terms}
pub use Rattle.mu_causal.specs.Dependencies.{numbers_from}
pub use Rattle.mu_causal.specs.Flat.{AddsEquation, is_known, IsGraphOf, names_for, open_names}
pub use Rattle.mu_causal.specs.Flat.{row_at}
pub use Rattle.mu_causal.specs.Graphs.{Graph, HasEdge, IsClosed}
pub use Rattle.mu_causal.specs.OrderResults.{IsGiven}
pub use Rattle.mu_causal.specs.Rounds.{IsTurned}
pub use Rattle.mu_causal.specs.VisitMarks.{AreMarks, ArePassed, IsBlocked, IsListing, IsMarked}
pub use Rattle.mu_causal.specs.VisitMarks.{IsOpen, IsUnblocked, IsUnmarked, Needs}
pub use Rattle.mu_causal.specs.declared.equation_counts.Given.TheVariants.{Never}
