-- Names from outside the lemmas of this crate that several of its proofs cite, passed on from one place.
pub use Rattle.csv.specs.Reading.{default_config, strip_bom}
unfoldable pub use Rattle.csv.specs.Reading.{Reached}
pub use Rattle.csv.specs.Records.{fields_of}
pub use Rattle.csv.specs.declared.parser.State.{State}
pub use Rattle.std.proofs.Common.{[], ℕ, ℤ, ◌%◌, ◌*ℤ◌, ◌*◌, ◌++◌, ◌+ℤ◌, ◌+◌, ◌-◌, ◌/◌, ◌<◌, ◌==◌}
pub use Rattle.std.proofs.Common.{◌^◌, ◌∙◌, ◌∷◌, ◌≡◌, ◌≢◌, ◌≤ℤ◌, ◌≤◌, ◌⊎◌, add-one, ap}
pub use Rattle.std.proofs.Common.{append_assoc, ap₂, arith, below_more, Bool, codes, drop, false}
pub use Rattle.std.proofs.Common.{FitsSigned, get_or, inl, inr, length, List, lt-ltb, map, None}
pub use Rattle.std.proofs.Common.{of_z, Option, pos, refl, rules, Some, subst, suc, sym, take, to_z}
pub use Rattle.std.proofs.Common.{to_z-of_z, true, unsigned_abs, zero}
pub use Rattle.std.proofs.Math.Nat.{mul-le-mul_right}
pub use Rattle.std.proofs.lemmas.Bool.{cases_lt, eq-eqb, eqb-true}
pub use Rattle.std.proofs.lemmas.Bool.Decides.{Decides-int_eq, nat_tests}
pub use Rattle.std.proofs.lemmas.Int.{ints}
pub use Rattle.std.proofs.lemmas.List.{append-nil, drop-drop, get_or-append_right, get_or-drop}
pub use Rattle.std.proofs.lemmas.List.{length-append, length-drop, length-map, length-take}
pub use Rattle.std.proofs.lemmas.List.{map-append, take-append-le, take_all}
pub use Rattle.std.proofs.lemmas.List.FromFn.{get_or-map-range_with_len, length-map-range_with_len}
pub use Rattle.std.proofs.lemmas.Nat.{div-mul-add}
pub use Rattle.std.proofs.lemmas.Slice.Eq.{bytes_eq-Decides}
pub use Rattle.std.specs.Int.{w128}
pub use Rattle.std.specs.List.{AllZip, position_from, range_with_len}
pub use Rattle.std.specs.Option.{option_map, option_or}
pub use Rattle.std.specs.Ordering.{int_eq}
pub use Rattle.std.specs.Prelude.{◌&&◌, All, bytes_eq, Err, IfErr, if◌then◌else◌, int_le, IsErrAnd}
pub use Rattle.std.specs.Prelude.{not, Ok, Result}
pub use Rattle.mu_num.proofs.Tests.{eqb-false}
pub use Rattle.mu_num.specs.IndexedSums.{int_at, sum_below}
pub use Rattle.mu_num.specs.Sizes.{exceeds, IsPositiveWithin, IsWithin}
pub use Rattle.qss_machine.proofs.Loops.{product_bound, product_is}
pub use Rattle.qss_machine.specs.Legitimate.{entry_at, scaled_slope}
pub use Rattle.qss_machine.specs.Machines.{level_unit, state_count}
pub use Rattle.qss_machine.specs.declared.compiled_machine.Machine.{Machine}
pub use Rattle.cert_matrix.specs.Form.{form, times}
pub use Rattle.cert_matrix.specs.Matrix.{table, vector}
pub use Rattle.cert_check.proofs.Cut.{strip-≤}
pub use Rattle.cert_check.proofs.Unique.{cut-same}
pub use Rattle.cert_check.specs.CertificateLimits.{IsSize}
pub use Rattle.cert_check.specs.CertificateLines.{Line, line, ParsesAs}
pub use Rattle.cert_check.specs.CertificateTexts.{IsCutInto}
pub use Rattle.cert_check.specs.FieldNumbers.{number_in}
pub use Rattle.cert_check.specs.Inequalities.{System}
pub use Rattle.cert_check.specs.Layout.{first_number, keyword_of}
pub use Rattle.cert_check.specs.declared.affine_data.AffineSystem.{AffineSystem}
pub use Rattle.cert_check.specs.declared.text_err.TextErr.{TextErr}
pub use Rattle.cert_check.specs.declared.text_err.TextErr.TheVariants.{Form, Keyword, Memory}
pub use Rattle.cert_check.specs.declared.text_err.TextErr.TheVariants.{Missing, Number, Shape}
pub use Rattle.qss_trace.specs.CommonTicks.{AreCommon, both_units, bound_of, difference}
pub use Rattle.qss_trace.specs.CommonTicks.{IsBoundInRange, IsPairInRange, value_of}
pub use Rattle.qss_trace.specs.Comparing.{IsSearched, with_tick_of}
pub use Rattle.qss_trace.specs.ExpectedFields.{fault_from, fits, form_fault, is_unfit, number_count}
pub use Rattle.qss_trace.specs.ExpectedFields.{number_fault, number_within, part, record_fault}
pub use Rattle.qss_trace.specs.ExpectedFields.{shape_fault, trace_fault}
pub use Rattle.qss_trace.specs.KeptTraces.{Kept}
pub use Rattle.qss_trace.specs.LegitimateFacts.{AllHold, HoldsAt, IsBefore, IsFirstBroken, IsMet}
pub use Rattle.qss_trace.specs.LegitimateFacts.{IsTakenAt, left_of, number_of, right_of}
pub use Rattle.qss_trace.specs.Taking.{AddsPlace}
pub use Rattle.qss_trace.specs.Trace.{count_of, levels_of, states_of}
pub use Rattle.qss_trace.specs.TraceChecks.{IsFoundAmong, IsFoundAt}
pub use Rattle.qss_trace.specs.TraceData.{AddsNumbers, HasShape}
pub use Rattle.qss_trace.specs.TraceDrafts.{IsDraftOf}
pub use Rattle.qss_trace.specs.TraceLimits.{ArePlaces, AreQuanta, IsFactor, place_count}
pub use Rattle.qss_trace.specs.TraceLines.{place_lines, trace_lines}
pub use Rattle.qss_trace.specs.TracePlaces.{place_at, places}
pub use Rattle.qss_trace.specs.TraceTexts.{AreRecordsOf, IsFaultOf, IsRefusedFor, IsTextOf}
pub use Rattle.qss_trace.specs.TraceVerdicts.{IsVerdict}
pub use Rattle.qss_trace.specs.declared.trace.Trace.{Trace}
pub use Rattle.qss_trace.specs.declared.trace_checker.Broken.{Broken}
pub use Rattle.qss_trace.specs.declared.trace_checker.Fact.{Fact}
pub use Rattle.qss_trace.specs.declared.trace_checker.Fact.TheVariants.{Move, Near, Start}
pub use Rattle.qss_trace.specs.declared.trace_checker.TraceVerdict.{TraceVerdict}
pub use Rattle.qss_trace.specs.declared.trace_checker.TraceVerdict.TheVariants.{Legitimate}
pub use Rattle.qss_trace.specs.declared.trace_comparison.Search.{Search}
pub use Rattle.qss_trace.specs.declared.trace_parser.Limit.{Limit}
