use Rattle.std.proofs.Common.{◌≡◌, ℕ, drop}
use Rattle.replies.specs.Words.{held_number}
use Rattle.replies.proofs.Reading.{Read}
use Rattle.replies.proofs.words.number_of.Given as goal

-- the digits before the index write n, and it is held cut
abbrev pub invariant-loop-digit : goal.invariant-loop-digit
invariant-loop-digit l = (n : ℕ) × (l.number ≡ held_number n) × Read l.digits n (drop l.digit-index l.digits)
