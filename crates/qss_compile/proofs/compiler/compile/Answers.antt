use Rattle.qss_compile.proofs.Common
use Common.{CompilesTo, IfOk-weaker, IsErr, IsParseRefusal, IsRefused, IsTreeRefused, model}
use Common.{Refused, SourceParsesAs, subst, sym, TreeCompilesTo, without_names}
use Rattle.std.proofs.lemmas.Result.{IfErr-weaker}
use Rattle.qss_compile.proofs.Answering.{first_answer, later_answer}
use Rattle.qss_compile.proofs.compiler.compile.Goals as goal

pub compile_source_to_tree-requires : goal.compile_source_to_tree-requires
compile_source_to_tree-requires c = c.requires

pub returns-in-Err-clause-refused : goal.returns-in-Err-clause-refused
returns-in-Err-clause-refused c =
    subst (λ (r : Refused). IsErr (IsRefused c.args.source.now) r) (sym c.early_model_refusal.ensures)
    (first_answer (IsParseRefusal c.args.source.now) (SourceParsesAs c.args.source.now) IsTreeRefused (without_names c.in-Err.error) c.in-Err.ensures.refused)

pub compile_tree-requires : goal.compile_tree-requires
compile_tree-requires c = (c.args.source.now, c.in-Ok.ensures.spelled)

pub returns-clause-means : goal.returns-clause-means
returns-clause-means c =
    IfOk-weaker c.compile_tree.result (TreeCompilesTo (model c.in-Ok.tree)) (CompilesTo c.args.source.now) (λ m h. (model c.in-Ok.tree, c.in-Ok.ensures.spelled, h)) c.compile_tree.ensures.means

pub returns-clause-refused : goal.returns-clause-refused
returns-clause-refused c =
    IfErr-weaker c.compile_tree.result (IsErr (IsTreeRefused (model c.in-Ok.tree))) (IsErr (IsRefused c.args.source.now))
    (λ r h. later_answer (IsParseRefusal c.args.source.now) (SourceParsesAs c.args.source.now) IsTreeRefused (model c.in-Ok.tree) r c.in-Ok.ensures.spelled h) c.compile_tree.ensures.refused
