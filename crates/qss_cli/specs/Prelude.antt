-- The names of other crates that the clauses of this crate cite, passed on from one place. Declares nothing.
pub use Rattle.std.specs.Char.{is_ascii_digit}
pub use Rattle.std.specs.List.{list_all}
pub use Rattle.std.specs.Str.Parse.{digits_value}
pub use Rattle.clap.specs.Takes.{is_given}
pub use Rattle.clap.specs.Words.{all_of, app_of, first_of, found_of, rows_of}
pub use Rattle.mu_num.specs.Limits.{relative_limit, variable_limit}
