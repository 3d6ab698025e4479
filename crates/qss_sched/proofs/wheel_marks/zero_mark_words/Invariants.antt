-- So far no word has a bit.
use Rattle.qss_sched.proofs.Common.{ℕ, ◌≡◌, get_or, vec_len}
use Rattle.qss_sched.proofs.wheel_marks.zero_mark_words.Given as goal

abbrev pub invariant-loop : goal.invariant-loop
invariant-loop l = (vec_len l.words ≡ l.counter) × ((i : ℕ) → get_or l.words.items i 0 ≡ 0)
