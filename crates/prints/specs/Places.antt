-- Where a byte stands: its line and its column, both from 1.
use Rattle.std.specs.Prelude.{ℕ, ◌+◌, not, List, take, count_by, ◌==◌, nat_eq}
use Rattle.std.specs.List.{suffix_len}

-- one more than the line ends before place p
abbrev pub line_at : List ℕ → ℕ → ℕ
line_at bs p = count_by (λ c. nat_eq c 10) (take p bs) + 1

-- one more than the bytes between the last line end before p and p
abbrev pub column_at : List ℕ → ℕ → ℕ
column_at bs p = suffix_len (λ c. not (c == 10)) (take p bs) + 1
