use Rattle.qss_top.proofs.Common.{inl, IsParseRefusal, refl, too_long}
use Rattle.qss_top.proofs.FrameFacts.{rejection_writes}
use Rattle.qss_top.proofs.Sources.{long_for}
use Rattle.qss_top.proofs.byte_answers.answer_print.Goals as goal

pub returns-then-source-gt-MODEL_LIMIT : goal.returns-then-source-gt-MODEL_LIMIT
returns-then-source-gt-MODEL_LIMIT g c = rejection_writes too_long refl
    (inl (long_for IsParseRefusal c.args.source.now c.if-source-gt-MODEL_LIMIT.true)) refl
