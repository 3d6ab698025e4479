-- Names from outside the lemmas of this crate that several of its proofs cite, passed on from one place.
pub use Rattle.csv.specs.Writing.{default_writer, needs_quotes, row_text}
unfoldable pub use Rattle.csv.specs.Writing.{fields_text, is_blank}
pub use Rattle.std.proofs.Common.{[], ℕ, ◌++◌, ◌+◌, ◌-◌, ◌<◌, ◌^◌, ◌∙◌, ◌∷◌, ◌≡◌, ◌≤◌, ap}
pub use Rattle.std.proofs.Common.{append-nil, append_assoc, arith, Bool, cond, decimal, drop, false}
pub use Rattle.std.proofs.Common.{get_or, length, List, refl, rules, subst, suc, sym, take}
pub use Rattle.std.proofs.Common.{take_all, true, zero}
pub use Rattle.std.proofs.KnownBytes.{Appends-trans}
pub use Rattle.std.proofs.lemmas.Bool.Decides.{Decides-eqb}
pub use Rattle.std.proofs.lemmas.Fmt.{length-decimal-le}
pub use Rattle.std.proofs.lemmas.List.{drop-drop, drop-set, drop_all}
pub use Rattle.std.proofs.lemmas.List.Concat.{flat_map-append}
pub use Rattle.std.specs.Io.KnownBytes.{Appends}
pub use Rattle.std.specs.Prelude.{codes, Err, None, Option, Some}
pub use Rattle.std.specs.Result.{result_err}
pub use Rattle.qss_machine.specs.declared.compiled_machine.Machine.{Machine}
pub use Rattle.qss_machine.specs.declared.machine_parts.RowKind.{RowKind}
pub use Rattle.qss_rows.specs.PlainFields.{number_text}
pub use Rattle.qss_rows.specs.RowTexts.{header, word_of}
pub use Rattle.qss_rows.specs.Simulations.{bytes_in, IsEndIn, IsResultOf, line_at, StopsAtLine}
pub use Rattle.qss_rows.specs.Simulations.{text_in}
pub use Rattle.qss_rows.specs.Writes.{IsWriting}
pub use Rattle.qss_rows.specs.declared.simulation_rows.RunEnd.{RunEnd}
pub use Rattle.qss_rows.specs.declared.simulation_rows.WriteStop.{WriteStop}
pub use Rattle.qss_rows.specs.declared.simulation_rows.WriteStop.TheVariants.{Memory}
