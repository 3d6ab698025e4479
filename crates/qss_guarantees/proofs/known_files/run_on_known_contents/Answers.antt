use Rattle.qss_guarantees.proofs.Common
use Common.{ap, ExpectedResult, files_of, IsExpectedResult, IsReplyGiven, map}
use Rattle.qss_guarantees.proofs.Completeness.{whole_answer}
use Rattle.qss_guarantees.proofs.KnownFiles.{main_call, reply_met, line_reported}
use Rattle.qss_guarantees.proofs.KnownFiles.{no_fault_unwritten, fault_expected, fault_counted}
use Rattle.qss_guarantees.proofs.KnownFiles.{others_unchanged, fault_of_command}
use Rattle.qss_guarantees.proofs.known_files.run_on_known_contents.Goals as goal

pub returns : goal.returns
returns g c =
    let call = c.qss_main.ensures in
    let k = main_call call.reads call.readings call.last_reading_failed call.no_read_fault
    call.no_new_fault (λ ok. ap (λ s. g.E.Sink.written s) (call.err_unchanged ok)) in
    let words = map (λ word. word.now) c.args.words.now in
    let known = g.S.Shelf.files c.args.shelf.now in
    let status = c.qss_main.result in
    let old = g.O.Sink.written c.args.out.now in
    let new = g.O.Sink.written c.qss_main.new.out in
    let replied : (expected : ExpectedResult) → IsExpectedResult words known expected
    → IsReplyGiven expected.reply status old new
    = λ expected h. (reply_met k expected h).replied in
    record {
      replied = replied;
      prefix = λ expected h. (reply_met k expected h).prefix;
      no_fault_without_text = no_fault_unwritten k;
      out_of_memory_prefix = λ expected h. (reply_met k expected h).short;
      complete = λ expected answer h is no_read no_write memory.
          whole_answer words known status old new replied expected answer h is
          (λ e. no_read (fault_counted k expected.files_read e (fault_expected k expected h e)))
          (λ e. no_write ((call.fault_was_last e).one)) memory;
      command_read_fault = λ command is e.
          fault_counted k (files_of command) e (fault_of_command k command is e);
      command_counts = λ command is.
          others_unchanged k (files_of command) (fault_of_command k command is);
      read_fault = λ expected h e.
          fault_counted k expected.files_read e (fault_expected k expected h e);
      other_counts_unchanged = λ expected h.
          others_unchanged k expected.files_read (fault_expected k expected h);
      line = line_reported k;
      usage = call.usage;
      no_command = call.no_command;
      files = call.files;
      counts_never_fall = call.counts_never_fall;
      no_read_fault = call.no_read_fault;
      fault_was_last = call.fault_was_last;
      no_new_fault = call.no_new_fault;
      untouched = call.untouched;
      err_unchanged = call.err_unchanged;
      err_count_never_falls = call.err_count_never_falls;
    }
