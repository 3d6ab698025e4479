use Rattle.qss_top.proofs.Common
use Common.{[], ◌∙◌, ◌∷◌, fully_read, in_progress, inl, inr, None, reading, refl, sym}
use Rattle.qss_top.proofs.FileFacts.{calm_frame, fault_frame, memory_frame, long_is}
use Rattle.qss_top.proofs.file_reading.read_file.Goals as goal

pub returns-in-Ok : goal.returns-in-Ok
returns-in-Ok g c =
    let h = c.in-Ok.ensures in record {
      read = h.read_whole;
      within = rw c.limit_of.ensures at h.within;
      not_read = tt;
      shelf = calm_frame h.files h.counts h.of_files (λ e. cc e) (h.no_new_fault (λ e. cc e))
          (reading c.args.name.now c.in-Ok.bytes.items fully_read ∷ []) h.read_whole;
    }

pub returns-in-Err-TooLong : goal.returns-in-Err-TooLong
returns-in-Err-TooLong g c =
    let h = c.in-Err-TooLong.ensures in
    let more = rw c.limit_of.ensures at (h.read_more (cc (c.in-Err-TooLong.field-0-is))) in
    record {
      read = tt;
      within = tt;
      not_read = inr (inr (c.too_long.ensures, more));
      shelf = calm_frame h.files h.counts h.of_files
          (λ e. (long_is c.args.kind None).2 (sym c.too_long.ensures ∙ e))
          (h.no_new_fault (λ e. cc (e, c.in-Err-TooLong.field-0-is)))
          (reading c.args.name.now more.0 in_progress ∷ []) more.1;
    }

pub returns-in-Err-Fault : goal.returns-in-Err-Fault
returns-in-Err-Fault g c =
    let h = c.in-Err-Fault.ensures in
    let fault = h.read_fault (cc (c.in-Err-Fault.field-0-is)) in record {
      read = tt;
      within = tt;
      not_read = inl (refl, fault);
      shelf = fault_frame h.files h.counts h.of_files
          (h.cause (cc (c.in-Err-Fault.field-0-is))) fault;
    }

pub returns-in-Err-Memory : goal.returns-in-Err-Memory
returns-in-Err-Memory g c =
    let h = c.in-Err-Memory.ensures in
    let part = h.no_memory (cc (c.in-Err-Memory.field-0-is)) in record {
      read = tt;
      within = tt;
      not_read = inr (inl (refl, part));
      shelf = memory_frame h.files h.counts h.of_files
          (h.no_new_fault (λ e. cc (e, c.in-Err-Memory.field-0-is))) part;
    }
