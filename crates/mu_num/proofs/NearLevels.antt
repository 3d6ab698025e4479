-- The named rules take levels that are less than one level away.
use Rattle.mu_num.proofs.Common.{ℤ, ◌<ℤ◌, arith, ceiling_of, ints, pos}
use Rattle.mu_num.specs.Levels.{IsWithinOneLevel, floor_level, near_level, inward_level}
use Rattle.mu_num.proofs.Quotients.{floor_meets, ceiling_meets, nearest_meets}
use Rattle.mu_num.proofs.Tests.{if_cases}

pub floor-free : (unit state old : ℤ) → pos 0 <ℤ unit → IsWithinOneLevel unit state old (floor_level unit state old)
floor-free unit state old h = let f = floor_meets state unit h in omega (arith, ints, f.at_most, f.greatest)

ceiling-free : (unit state old : ℤ) → pos 0 <ℤ unit → IsWithinOneLevel unit state old (ceiling_of state unit)
ceiling-free unit state old h = let f = ceiling_meets state unit h in omega (arith, ints, f.at_least, f.least)

pub near-free : (unit state old : ℤ) → pos 0 <ℤ unit → IsWithinOneLevel unit state old (near_level unit state old)
near-free unit state old h = let f = nearest_meets state unit h in omega (arith, ints, f.near)

pub inward-free : (unit state old : ℤ) → pos 0 <ℤ unit → IsWithinOneLevel unit state old (inward_level unit state old)
inward-free unit state old h = if_cases (IsWithinOneLevel unit state old) _ _ _ (λ e. floor-free unit state old h) (λ e. ceiling-free unit state old h)
