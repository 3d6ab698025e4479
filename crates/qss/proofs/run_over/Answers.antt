use Rattle.std.proofs.Common.{map, refl}
use Rattle.mu_io.specs.Events.{taken}
use Rattle.mu_io.specs.Readings.{readings}
use Rattle.qss_cli.specs.Commands.{command_of, writes_as_it_goes}
use Rattle.qss.proofs.Sessions.{is_counted, session_of_run}
use Rattle.qss.proofs.run_over.Goals as goal

pub returns : goal.returns
returns g c =
    let found = command_of (map (λ word. word.now) c.args.words.now) in
    let called = c.qss_main-returned in
    let finished = c.finish-status in
    session_of_run found (writes_as_it_goes found) called.result finished.result
    (taken c.in_ok-out.out.writer.log.events) c.in_ok-out.out.held.items
    (taken called.new.out.writer.log.events) called.new.out.held.items
    (taken finished.new.out.writer.log.events)
    c.in_ok-line.line.bytes.items called.new.err.bytes.items
    (taken finished.new.err.writer.log.events)
    c.in_ok-line.line.faults called.new.err.faults called.new.out.faults finished.new.out.faults
    finished.new.err.faults
    (readings c.new-shelf.result.log.events) (readings called.new.shelf.log.events)
    (rw (c.in_ok-out.ensures.writer, c.new.ensures.nothing) refl) c.in_ok-out.ensures.nothing
    c.in_ok-line.ensures.0 c.in_ok-line.ensures.1
    (rw c.new-shelf.ensures.unread refl) called.ensures.reads
    (λ e. let same = called.ensures.untouched e in (rw same refl, rw same refl))
    (λ e. let same = called.ensures.err_unchanged e in rw same refl)
    finished.ensures.turned finished.ensures.prefix finished.ensures.passed
    finished.ensures.passed_or_failed finished.ensures.line
    (λ e.
    is_counted c.in_ok-out.out.faults called.new.out.faults (called.ensures.fault_was_last e).one)
    finished.ensures.count_never_falls
