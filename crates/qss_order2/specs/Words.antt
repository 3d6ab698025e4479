-- The names of this crate that clauses of many subjects cite, passed on from one place. Declares nothing.
pub use Rattle.qss_order2.specs.Events.{rows2_left}
pub use Rattle.qss_order2.specs.Fixed.{absolute_sum}
pub use Rattle.qss_order2.specs.Places.{CanRead, change_shift, levels_in, place_in}
pub use Rattle.qss_order2.specs.SecondRunLaws.{bend_at}
pub use Rattle.qss_order2.specs.SecondRunLimits.{AreFlatOutside, AreHeld, IsFlat, past_levels, steep_row}
pub use Rattle.qss_order2.specs.SecondSteps.{AreChanges, fine_levels, first_exceeding_limit, nearest_change, rise_at, rise_change_weight}
pub use Rattle.qss_order2.specs.SlopeRules.{IsAnswer, IsRuled2}
pub use Rattle.qss_order2.specs.Stores.{HasBends, HasChanged, HasLists, bends_of, levels_of, rises_of}
