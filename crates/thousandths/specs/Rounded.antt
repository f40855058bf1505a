-- A value's thousandths as code gives them: exact where they are a score, and else some number that is none.
use Rattle.std.specs.Prelude.{ℕ, ◌≤◌, ◌<◌, ◌≡◌, true, ℤ}
use Rattle.meaning.specs.Bounds.{score_most}
use Rattle.meaning.specs.Book.{is_score}

pub record Rounded (z r : ℤ) : Type 0 where
  pub in_range : is_score r ≡ is_score z
  pub same : is_score z ≡ true → r ≡ z

-- the same without the minus
pub record Capped (m r : ℕ) : Type 0 where
  pub same : m ≤ score_most → r ≡ m
  pub beyond : score_most < m → score_most < r
  pub small : r ≤ 9_999_999
