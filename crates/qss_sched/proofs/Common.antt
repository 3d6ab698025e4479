-- Names from outside the lemmas of this crate that several of its proofs cite, passed on from one place.
pub use Rattle.std.proofs.Common.{[], ℕ, ◌%◌, ◌*◌, ◌++◌, ◌+◌, ◌-◌, ◌/◌, ◌<◌, ◌^◌, ◌||◌, ◌∙◌, ◌∷◌}
pub use Rattle.std.proofs.Common.{◌≡◌, ◌≢◌, ◌≤◌, ◌⊎◌, ap, arith, bit_and, eqb, false, get_or, inl}
pub use Rattle.std.proofs.Common.{inr, length, List, None, Option, refl, replicate, Some, subst}
pub use Rattle.std.proofs.Common.{suc, sym, true, w64, zero}
pub use Rattle.std.proofs.Math.ListN.{length-set}
pub use Rattle.std.proofs.lemmas.Bool.{both_ways, cases_Bool, cases_eq, cases_lt, eqb-false}
pub use Rattle.std.proofs.lemmas.Grind.{common_steps, get_or_default_zero}
pub use Rattle.std.proofs.lemmas.List.{get_or-set_other, get_or-set_same, get_or_past}
pub use Rattle.std.proofs.lemmas.List.{length-replicate, length_push, set-get_or, take_at}
pub use Rattle.std.proofs.lemmas.List.{with_items_is}
pub use Rattle.std.proofs.lemmas.Nat.Bits.{bit_at-trailing_zeros, bit_at-zero, bit_at_clear_other}
pub use Rattle.std.proofs.lemmas.Nat.Bits.{bit_at_clear_same, bit_at_set_other, bit_at_set_same}
pub use Rattle.std.specs.Int.{bit_at, bit_not, trailing_zeros}
pub use Rattle.std.specs.Option.{unwrap_or}
pub use Rattle.std.specs.Prelude.{All, Bool, if◌then◌else◌, min, slice_index, slice_set}
pub use Rattle.std.specs.Prelude.{vec_capacity, vec_len}
pub use Rattle.std.specs.Vec.{with_items}
pub use Rattle.mu_num.proofs.InPlace.{same_length}
pub use Rattle.mu_num.proofs.Writes.{among_push}
pub use Rattle.mu_num.specs.ListedPlaces.{flag_at, is_listed}
pub use Rattle.mu_num.specs.Writes.{IsWritten}
pub use Rattle.qss_sched.specs.Agendas.{AreDisjointTicks, ArePartTaken, AreTaken, HasNoneAt, joined}
pub use Rattle.qss_sched.specs.Agendas.{nearer}
pub use Rattle.qss_sched.specs.Heaps.{IsAboveOrdered, IsBelowOrdered, IsDueHeap, IsIndexed}
pub use Rattle.qss_sched.specs.Heaps.{IsOrdered, parent_of}
pub use Rattle.qss_sched.specs.PlaceSets.{IsPlaceSet, PlaceList}
pub use Rattle.qss_sched.specs.Ranks.{AreTicks, due_at, HasNone, IsLeast, IsNextTick, rank_at}
pub use Rattle.qss_sched.specs.Ranks.{rank_of}
unfoldable pub use Rattle.qss_sched.specs.Ranks.{place_of}
pub use Rattle.qss_sched.specs.Wheels.{AreMarks, AreOthersKept, HasNoPlace, IsBitPut, IsEarliest}
pub use Rattle.qss_sched.specs.Wheels.{IsFirstPlace, IsGrouped, IsWheel, place_bit}
