use Rattle.qss_top.proofs.Common
use Common.{ArgumentsAnswerFromReads, Command, command_of, map, Option, refl, subst}
use Rattle.qss_top.proofs.FrameFacts.{unread}
use Rattle.qss_top.proofs.ReadFacts.{memory_unread}
use Rattle.qss_top.specs.declared.command_outcome.Outcome.TheVariants as outcome
use Rattle.qss_top.proofs.command.answer.Goals as goal

pub returns-in-Ok-Some-clause-reads : goal.returns-in-Ok-Some-clause-reads
returns-in-Ok-Some-clause-reads g c =
    let asked = rw c.in-Ok-Some.field-0-is at c.in-Ok-Some.ensures in
    subst (λ (found : Option Command). ArgumentsAnswerFromReads found c.on_request.result
    (g.O.Sink.written c.args.out.now) (g.O.Sink.written c.on_request.new.out)
    (g.S.Shelf.readings c.args.shelf.now) (g.S.Shelf.readings c.on_request.new.shelf)) asked
    c.on_request.ensures.reads

pub returns-in-Ok-None-clause-reads : goal.returns-in-Ok-None-clause-reads
returns-in-Ok-None-clause-reads g c =
    let asked = rw c.in-Ok-None.field-0-is at c.in-Ok-None.ensures in
    subst (λ (found : Option Command). ArgumentsAnswerFromReads found outcome.Usage
    (g.O.Sink.written c.args.out.now) (g.O.Sink.written c.args.out.now)
    (g.S.Shelf.readings c.args.shelf.now) (g.S.Shelf.readings c.args.shelf.now)) asked refl

pub returns-in-Ok-None-clause-shelf : goal.returns-in-Ok-None-clause-shelf
returns-in-Ok-None-clause-shelf g c = unread (λ s. g.S.Shelf.files s) (λ s. g.S.Shelf.faults s)
    (λ s. g.S.Shelf.readings s) outcome.Usage (λ e. cc e) c.args.shelf.now

pub returns-in-Err-clause-reads : goal.returns-in-Err-clause-reads
returns-in-Err-clause-reads g c =
    memory_unread (command_of (map (λ word. word.now) c.args.words.now))
    (g.O.Sink.written c.args.out.now) (g.S.Shelf.readings c.args.shelf.now)

pub returns-in-Err-clause-shelf : goal.returns-in-Err-clause-shelf
returns-in-Err-clause-shelf g c = unread (λ s. g.S.Shelf.files s) (λ s. g.S.Shelf.faults s)
    (λ s. g.S.Shelf.readings s) outcome.Memory (λ e. cc e) c.args.shelf.now
