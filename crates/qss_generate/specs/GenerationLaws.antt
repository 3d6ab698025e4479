-- Theorems about generated sources: texts for given seeds and numbers of cells.
use Rattle.std.specs.Prelude.{◌≡◌, codes}
use Rattle.qss_generate.specs.Source.{source}

pub record SourcesWorked : Type 0 where
  pub one_cell : source 0 1 ≡ codes "model chain\nReal u[1];\ninitial algorithm\nu[1] := 20/256;\nequation\nder(u[1]) = 1 - u[1];\nfor i in 2:1 loop\nder(u[i]) = 4*u[i-1] - 4*u[i];\nend for;\nannotation(experiment(StopTime = 1));\nend chain;\n"
  pub three_cells : source 7 3 ≡ codes "model chain\nReal u[3];\ninitial algorithm\nu[1] := 126/256;\nu[2] := 244/256;\nu[3] := 232/256;\nequation\nder(u[1]) = 1 - u[1];\nfor i in 2:3 loop\nder(u[i]) = 4*u[i-1] - 4*u[i];\nend for;\nannotation(experiment(StopTime = 1));\nend chain;\n"
