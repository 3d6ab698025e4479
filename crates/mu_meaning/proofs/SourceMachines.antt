-- A compiled source has a meaning as equations of numbers.
use Rattle.mu_meaning.proofs.Common
use Common.{ℕ, ◌<◌, FlatModelTree, IfOk, IsFlatModel, List, ModelTree, Result, scope_of, Settings}
use Common.{subst, sym, UnrollErr}
use Rattle.mu_unroll.proofs.FlatModels.{flat_model_right}
use Rattle.qss_compile.specs.Compilation.{SourceParsesAs, FlatSource, IsFlatOf}
use Rattle.qss_compile.proofs.WellFormed.{well_formed}
use Rattle.mu_meaning.specs.SourceMachines.{SourcesHaveMeaning}
use Rattle.mu_meaning.proofs.Unique.{equations_hold}
use Rattle.mu_meaning.proofs.FlatNumbers.{flat_models_are_proper}
use Rattle.mu_meaning.proofs.RoundedMachines.{machines_are_rounded}
use Rattle.mu_meaning.proofs.ExactMachines.{exact_machines_have_equations}

flat_formed : (bytes : List ℕ) (tree : ModelTree) (s : FlatSource) → SourceParsesAs bytes tree →
    IsFlatOf tree s → IsFlatModel s.flat
flat_formed bytes tree s (ts, lexed, spelled) is =
    let P : Result FlatModelTree UnrollErr → Type 0 = λ r. IfOk r IsFlatModel in
    subst P is.1 (flat_model_right tree (scope_of tree).known (well_formed 64 _ tree spelled))

pub sources_have_meaning : SourcesHaveMeaning
sources_have_meaning bytes machine (tree, parses, (s, flat, (order, ordered, (forms, are, is)))) =
    let formed = flat_formed bytes tree s parses flat in
    let proper = flat_models_are_proper tree s.flat flat.1 in
    let stop : 0 < s.settings.stop.den = subst (λ (t : Settings). 0 < t.stop.den) (sym flat.2)
    proper.1 in
    record {
      tree = tree;
      parses = parses;
      source = s;
      flat = flat;
      order = order;
      forms = forms;
      are = are;
      numbers = equations_hold s.flat order are.taken formed ordered.0 ordered.1 proper.0 are.is;
      rounded = machines_are_rounded s.flat order forms s.settings machine formed proper.0 stop are
          is;
      equations = exact_machines_have_equations s.flat order are.taken s.settings machine formed
          ordered.0 ordered.1 proper.0 are.is;
    }
