-- Names from outside the lemmas of this crate that several of its proofs cite, passed on from one place.
pub use Rattle.std.proofs.Common.{[], ℕ, ◌++◌, ◌+◌, ◌-◌, ◌<◌, ◌∙◌, ◌∷◌, ◌≡◌, ◌≤◌, ap, append_assoc}
pub use Rattle.std.proofs.Common.{arith, Bool, bytes_eq, cond, drop, false, get_or, length, List}
pub use Rattle.std.proofs.Common.{None, refl, rules, Some, subst, suc, sym, take, true}
pub use Rattle.std.proofs.Math.ListN.{set}
pub use Rattle.std.proofs.lemmas.Iterator.Adapters.{position_from-zero}
pub use Rattle.std.proofs.lemmas.List.{take-append-drop}
pub use Rattle.std.proofs.lemmas.Slice.Eq.{bytes_eq-Decides}
pub use Rattle.std.specs.Io.KnownBytes.{Appends, Consumes, IsAtEnd}
pub use Rattle.std.specs.List.{position_from}
pub use Rattle.std.specs.Prelude.{MatchOption, option_map, position}
pub use Rattle.std.specs.declared.option.Option.{Option}
pub use base.Logic.{ent, SProp}
pub use contract.Monad.{Fun}
pub use contract.Running.{tables}
unfoldable pub use contract.Running.{tables_of}
pub use denote.RattleType.{owns}
pub use denote.Signature.{types_at}
pub use denote.Steps.{nothing}
pub use denote.Triple.Clauses.{Clauses, closing, Ended}
pub use denote.Triple.Entry.{alive}
pub use denote.Triple.Spec.{Meets, triple_of}
pub use denote.Triple.Table.{entered}
pub use denote.Triple.Walked.{ends_at, says, Stays, walk_Meets, walk_of}
pub use mir.Syntax.{Fn}
pub use mir.Val.{Val}
pub use prog.Memory.{Memory}
pub use prog.Routine.{Routine}
pub use prog.Wp.{Calls, Loops, Tables, WpFn}
pub use seplogic.Ra.Ura.{Ura}
pub use sound.WpLaws.{WpFn-mono}
pub use types.ByLocal.{alloc_all, free_all, look_at, pass_all, sets}
pub use types.Kit.{‵, ◌$◌, ◌∵◌, ◌⊛◌, !, done, fjoin, keep, move, qed, raw, split, suffices}
pub use types.Logic.{Logic}
pub use types.Part.{agg}
pub use types.Run.{enter, no_more, returns}
pub use Rattle.mu_io.specs.FaultCounts.{OnlyCounts}
pub use Rattle.mu_io.specs.Files.{bytes_left, file_of, Files, held}
pub use Rattle.mu_io.specs.Readings.{in_progress, reading}
