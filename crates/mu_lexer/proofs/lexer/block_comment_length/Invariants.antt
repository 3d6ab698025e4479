use Rattle.mu_lexer.proofs.Common.{◌+◌, ◌-◌, ◌≡◌, ◌≤◌, block_length, drop, length, option_map}
use Rattle.mu_lexer.proofs.lexer.block_comment_length.Given as goal

-- no star and slash stand below i
abbrev pub invariant-loop-i : goal.invariant-loop-i
invariant-loop-i l = (l.i ≤ length l.rest) × (block_length l.rest ≡ option_map (λ n. n + l.i) (block_length (drop l.i l.rest)))

abbrev pub decreases-loop-i : goal.decreases-loop-i
decreases-loop-i l = length l.rest - l.i
