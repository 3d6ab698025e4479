-- Sources that are worked out.
use Rattle.std.proofs.Common.{refl}
use Rattle.std.specs.Fmt.{digits}
use Rattle.qss_generate.specs.Source.{source}
use Rattle.qss_generate.specs.GenerationLaws.{SourcesWorked}

pub sources_worked : SourcesWorked
unfolding source digits
sources_worked = record { one_cell = refl; three_cells = refl }
