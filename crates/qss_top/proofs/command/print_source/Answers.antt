use Rattle.qss_top.proofs.Common.{inl, inr, IsParseRefusal}
use Rattle.qss_compile.specs.Causes.{without_names}
use Rattle.qss_top.proofs.FrameFacts.{map_answers}
use Rattle.qss_top.proofs.Sources.{refused_for}
use Rattle.qss_top.proofs.SourceSteps.{refused_step}
use Rattle.qss_top.proofs.command.print_source.Goals as goal

pub returns-in-Ok : goal.returns-in-Ok
returns-in-Ok g c = map_answers
    (λ a is. inr (_, record { short = c.requires; spelled = c.in-Ok.ensures.spelled }, is))
    c.print_model.ensures

pub returns-in-Err : goal.returns-in-Err
returns-in-Err g c =
    let bytes = c.args.bytes.now in
    rw (c.from.ensures, c.new-in-Err.ensures, c.new.ensures.items) (map_answers (λ a is. inl is)
    (refused_step IsParseRefusal bytes (λ r refuses. inl refuses) c.requires
    (refused_for (IsParseRefusal bytes) (without_names c.in-Err.error) c.in-Err.ensures.refused)))
