-- Names from outside the lemmas of this crate that several of its proofs cite, passed on from one place.
pub use Rattle.csv.specs.Machine.{ends_at_end, field_after, fields_after, is_end, Read}
unfoldable pub use Rattle.csv.specs.Machine.{next_record}
pub use Rattle.csv.specs.Reading.{AreRecords, default_config, is_flexible}
unfoldable pub use Rattle.csv.specs.Reading.{Reached, strip_bom}
pub use Rattle.csv.specs.Records.{fields_of, Row}
pub use Rattle.csv.specs.declared.parser.Config.{Config}
pub use Rattle.csv.specs.declared.parser.State.{State}
pub use Rattle.std.proofs.Common.{[], ℕ, ℤ, ◌*ℤ◌, ◌*◌, ◌++◌, ◌+ℤ◌, ◌+◌, ◌-ℤ◌, ◌-◌, ◌/◌, ◌<ℤ◌, ◌<◌}
pub use Rattle.std.proofs.Common.{◌==◌, ◌^◌, ◌∙◌, ◌∷◌, ◌≡◌, ◌≢◌, ◌≤ℤ◌, ◌≤◌, ◌⊎◌, add-one, ap}
pub use Rattle.std.proofs.Common.{append_assoc, ap₂, arith, below_more, Bool, codes, drop, false}
pub use Rattle.std.proofs.Common.{FitsSigned, get_or, get_or-set_other, if◌then◌else◌, inl, inr}
pub use Rattle.std.proofs.Common.{int_lt, is_some, IsSome, le-leb, le-ltb, length, List, lt-ltb}
pub use Rattle.std.proofs.Common.{map, nat_le, nat_lt, neg_ℤ, negsuc, None, of_z, Option, pos, refl}
pub use Rattle.std.proofs.Common.{replicate, rules, Some, subst, suc, sym, take, to_z-of_z, true}
pub use Rattle.std.proofs.Common.{unsigned_abs, zero}
pub use Rattle.std.proofs.Math.IntN.{*ℤ-zero}
pub use Rattle.std.proofs.Math.Nat.{mod-add-div', mul-le-mul_right}
pub use Rattle.std.proofs.lemmas.Bool.{cases_lt, false≢true, ne_eqb}
pub use Rattle.std.proofs.lemmas.Bool.Decides.{Decides-int_eq}
pub use Rattle.std.proofs.lemmas.Int.{ints}
pub use Rattle.std.proofs.lemmas.List.{drop_more, get_or-append_right, get_or-drop, get_or-map}
pub use Rattle.std.proofs.lemmas.List.{get_or-replicate, get_or-take, get_or_append_left, get_or_at}
pub use Rattle.std.proofs.lemmas.List.{get_or_default, length-append, length-drop, length-map}
pub use Rattle.std.proofs.lemmas.List.{length-replicate, length-take, map-append, take_all}
pub use Rattle.std.proofs.lemmas.List.{take_more}
pub use Rattle.std.proofs.lemmas.List.FromFn.{get_or-map-range_with_len, length-map-range_with_len}
pub use Rattle.std.proofs.lemmas.Slice.Eq.{bytes_eq-Decides}
pub use Rattle.std.proofs.lemmas.Str.Parse.{digit_at, numerals_by_value, tells_all_ascii_digits}
pub use Rattle.std.specs.Char.{is_ascii_digit}
pub use Rattle.std.specs.Fmt.{signed_decimal}
pub use Rattle.std.specs.Int.{w128}
pub use Rattle.std.specs.List.{AllZip, position_from}
pub use Rattle.std.specs.Option.{option_map, option_or}
pub use Rattle.std.specs.Ordering.{int_eq}
pub use Rattle.std.specs.Prelude.{◌&&◌, All, bytes_eq, is_none}
pub use Rattle.std.specs.Str.{all_ascii_digits}
pub use Rattle.std.specs.Str.Parse.{digits_value, starts_with_minus}
pub use mir.Syntax.{w64}
pub use mir.Val.{to_z}
pub use Rattle.mu_num.proofs.Integers.{add-mul, mul-add, one-mul}
pub use Rattle.mu_num.proofs.Sums.{sum_below-same, sum_below-zero}
pub use Rattle.mu_num.specs.IndexedSums.{abs_of, int_at, sum_below, sum_over, tabulate}
pub use Rattle.qss_machine.proofs.Loops.{fits_below, sum_step}
pub use Rattle.qss_machine.proofs.Near.{quanta_positive, unit_positive}
pub use Rattle.qss_machine.specs.Legitimate.{entry_at, IsLegitimate, start_coefficient}
pub use Rattle.qss_machine.specs.Legitimate.{start_constant_part}
pub use Rattle.qss_machine.specs.MachineLimits.{IsRow}
pub use Rattle.qss_machine.specs.Machines.{discrete_count, level_unit, quanta, row_at}
pub use Rattle.qss_machine.specs.Machines.{start_discretes, start_states, state_count}
pub use Rattle.qss_machine.specs.Slopes.{constant_part, mode_coefficient}
pub use Rattle.qss_machine.specs.declared.compiled_machine.Machine.{Machine}
pub use Rattle.qss_machine.specs.declared.machine_parts.Entry.{Entry}
pub use Rattle.qss_machine.specs.declared.machine_parts.SlopeRow.{SlopeRow}
pub use Rattle.qss_machine.specs.declared.machine_parts.StateInfo.{StateInfo}
pub use Rattle.cert_matrix.proofs.Bilinear.{form-same, form-times, times-add, times-neg, times-same}
pub use Rattle.cert_matrix.proofs.Bilinear.{times-scale, times-times}
pub use Rattle.cert_matrix.proofs.Order.{mul-cancel, mul-mono, mul-≥, square-≥}
pub use Rattle.cert_matrix.proofs.Ring.{expand}
pub use Rattle.cert_matrix.proofs.Rows.{changed-square, length-changed, length-zeros, zeros-square}
pub use Rattle.cert_matrix.proofs.Sizes.{size-cancel, size-same, size-scale, weighted-size}
pub use Rattle.cert_matrix.proofs.Step.{step}
pub use Rattle.cert_matrix.proofs.Weights.{beyond, beyond-base, more}
pub use Rattle.cert_matrix.specs.Form.{form, IsSymmetric, product, Table, times, Vector}
pub use Rattle.cert_matrix.specs.Gram.{IsRowInRange}
pub use Rattle.cert_matrix.specs.Matrix.{IsFormInRange, IsSquare, table, vector, weight, with_entry}
pub use Rattle.cert_check.specs.CertificateData.{certificate_data, system}
pub use Rattle.cert_check.specs.CertificateLimits.{IsNumber, IsSize, IsSquareTable, IsVector}
pub use Rattle.cert_check.specs.CertificateLines.{Line, line, line_count, lines, ParsesAs}
pub use Rattle.cert_check.specs.CertificateLines.{row_lines}
pub use Rattle.cert_check.specs.CertificateParts.{IsSingle}
pub use Rattle.cert_check.specs.CertificateTexts.{AreInForm, AreRecordsOf, IsCutInto, IsRefusedFor}
pub use Rattle.cert_check.specs.CertificateTexts.{IsTextOf}
pub use Rattle.cert_check.specs.FieldNumbers.{magnitude_in, number_in}
pub use Rattle.cert_check.specs.FirstFailures.{AllPass, fails_by, IsFirstFault, IsMet}
pub use Rattle.cert_check.specs.Inequalities.{centre_disturbance, centre_slope, CertificateData}
pub use Rattle.cert_check.specs.Inequalities.{decrease_matrix, diagonal_surplus, Holds, level_error}
pub use Rattle.cert_check.specs.Inequalities.{level_range, pair_disturbance, scaled_offset}
pub use Rattle.cert_check.specs.Inequalities.{slope_limit, System}
pub use Rattle.cert_check.specs.InequalityTable.{fault_of, inequalities, is_same_below, IsFaultOf}
pub use Rattle.cert_check.specs.InequalityTable.{IsFirstFaultOf, IsPlaceInRange, left_of, number_of}
pub use Rattle.cert_check.specs.InequalityTable.{places_of, relation_of, right_of, start_of}
pub use Rattle.cert_check.specs.Layout.{Expected, expected, fault_in_form, first_fault}
pub use Rattle.cert_check.specs.Layout.{first_number, form_in, is_no_number, keyword_of, layout}
pub use Rattle.cert_check.specs.Layout.{record_fault, text_fault}
pub use Rattle.cert_check.specs.MatrixRows.{AreAllRows, AreReadAs, due_at, FirstTakesMemory}
pub use Rattle.cert_check.specs.MatrixRows.{IsReadAs, left_out, lines_from, TakesMemory}
pub use Rattle.cert_check.specs.Pairs.{pair_from, pair_of, pairs}
pub use Rattle.cert_check.specs.Ranges.{IsPartInRange, IsProductEntryInRange, matrix_of}
pub use Rattle.cert_check.specs.Systems.{start_drives, system_of}
pub use Rattle.cert_check.specs.Written.{basin_lines, bound_lines, ellipsoid_lines, form_lines}
pub use Rattle.cert_check.specs.Written.{lines_text, root_lines}
pub use Rattle.cert_check.specs.declared.certificate.Certificate.{Certificate}
pub use Rattle.cert_check.specs.declared.inequality_checker.Fault.{Fault}
pub use Rattle.cert_check.specs.declared.inequality_checker.Fault.TheVariants.{Range, Rejected}
pub use Rattle.cert_check.specs.declared.inequality_checker.Relation.{Relation}
pub use Rattle.cert_check.specs.declared.inequality_checker.Verdict.{Verdict}
pub use Rattle.cert_check.specs.declared.inequality_checker.Verdict.TheVariants.{Accepted}
pub use Rattle.cert_check.specs.declared.inequality_sides.Inequality.{Inequality}
pub use Rattle.cert_check.specs.declared.inequality_sides.Inequality.TheVariants.{Bound, BoundParts}
pub use Rattle.cert_check.specs.declared.inequality_sides.Inequality.TheVariants.{CentreGain}
pub use Rattle.cert_check.specs.declared.inequality_sides.Inequality.TheVariants.{CentreSum, Decay}
pub use Rattle.cert_check.specs.declared.inequality_sides.Inequality.TheVariants.{DecayParts}
pub use Rattle.cert_check.specs.declared.inequality_sides.Inequality.TheVariants.{DecayProducts}
pub use Rattle.cert_check.specs.declared.inequality_sides.Inequality.TheVariants.{Distance}
pub use Rattle.cert_check.specs.declared.inequality_sides.Inequality.TheVariants.{FirstStart}
pub use Rattle.cert_check.specs.declared.inequality_sides.Inequality.TheVariants.{PairGain, PairSum}
pub use Rattle.cert_check.specs.declared.inequality_sides.Inequality.TheVariants.{Quantum, Reach}
pub use Rattle.cert_check.specs.declared.inequality_sides.Inequality.TheVariants.{SecondStart}
pub use Rattle.cert_check.specs.declared.inequality_sides.Inequality.TheVariants.{Share, SignC}
pub use Rattle.cert_check.specs.declared.inequality_sides.Inequality.TheVariants.{SignE, SignH1}
pub use Rattle.cert_check.specs.declared.inequality_sides.Inequality.TheVariants.{SignH2}
pub use Rattle.cert_check.specs.declared.inequality_sides.Inequality.TheVariants.{SignLambda}
pub use Rattle.cert_check.specs.declared.inequality_sides.Inequality.TheVariants.{SignMu, SignP}
pub use Rattle.cert_check.specs.declared.inequality_sides.Inequality.TheVariants.{SignR, SignS}
pub use Rattle.cert_check.specs.declared.inequality_sides.Inequality.TheVariants.{SignSigmaC}
pub use Rattle.cert_check.specs.declared.inequality_sides.Inequality.TheVariants.{SignSigmaR, SignZ}
pub use Rattle.cert_check.specs.declared.inequality_sides.Inequality.TheVariants.{Slope}
pub use Rattle.cert_check.specs.declared.inequality_sides.Inequality.TheVariants.{StartsApart}
pub use Rattle.cert_check.specs.declared.inequality_sides.Inequality.TheVariants.{Symmetric}
pub use Rattle.cert_check.specs.declared.text_err.TextErr.{TextErr}
pub use Rattle.cert_check.specs.declared.text_err.TextErr.TheVariants.{Keyword, Memory, Missing}
pub use Rattle.cert_check.specs.declared.text_err.TextErr.TheVariants.{Number}
