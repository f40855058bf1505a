-- An ARPA text's counts as code reads them; what is left of its sections, from a line on; and a walk over the lines of sections that are as they should be.
use Rattle.std.specs.Prelude.{ℕ, suc, ◌+◌, ◌-◌, ◌≤◌, ◌<◌, ◌≡◌, Bool, true, false, ◌&&◌, cond, List, [], ◌∷◌, ◌++◌, map, ◌⊎◌, eqb, leb, length, take, drop}
use Rattle.laws.specs.Lists.{all, count}
use Rattle.arpa.specs.Lines.{filled_lines}
use Rattle.outline.specs.declared.counts.Counted.{Counted}
use Rattle.arpa.specs.File.{Ngram, highest_order, counts_from, body_of, is_gram_line, are_sections, ngram_of, ngrams_from, is_unknown}

-- ════ the counts

-- no text has so many lines that are not blank: 2 ^ 63
abbrev pub lines_bound : ℕ
lines_bound = 9_223_372_036_854_775_808

-- r is the number m as code reads it from its digits: itself, or another where both are larger than any number of lines
abbrev pub Saturated : ℕ → ℕ → Type 0
Saturated m r = (r ≡ m) ⊎ ((lines_bound < r) × (lines_bound < m))

-- so is each of them
abbrev pub AreSaturated : List ℕ → List ℕ → Type 0
AreSaturated [] [] = Unit
AreSaturated [] (r ∷ rs) = ⊥
AreSaturated (m ∷ ms) [] = ⊥
AreSaturated (m ∷ ms) (r ∷ rs) = Saturated m r × AreSaturated ms rs

-- the first n lines of the body state the counts of orders 1 to n, and `lines` follow them
pub record Counting (body lines : List (List (List ℕ))) (counts : List ℕ) (n : ℕ) : Type 0 where
  pub stated : List ℕ
  pub are : AreSaturated stated (take n counts)
  pub from : counts_from highest_order 1 body ≡ stated ++ counts_from (highest_order - n) (n + 1) lines
  pub rest : lines ≡ drop n body

-- the place behind the first `\data\`
pub record DataFound (text : List ℕ) (at : ℕ) : Type 0 where
  pub within : at ≤ length text
  pub body : filled_lines (drop at text) ≡ body_of text

-- the count lines that stand from `at` on were read
pub record CountsRead (text : List ℕ) (at : ℕ) (counts : List ℕ) (r : Counted) : Type 0 where
  pub most : r.top ≤ highest_order
  pub long : length counts ≡ highest_order
  pub within : r.at ≤ length text
  pub are : AreSaturated (counts_from highest_order 1 (filled_lines (drop at text))) (take r.top counts)
  pub rest : filled_lines (drop r.at text) ≡ drop r.top (filled_lines (drop at text))

-- ════ sections that are not yet judged: `order` is that of the section begun last, 0 before the first, `left` how many of its lines are still to come

module _ (counts : List ℕ) (order left : ℕ) (lines : List (List (List ℕ))) where
  -- they are as they should be
  unfoldable pub rest_shaped : Bool
  rest_shaped =
      leb left (length lines)
      && all (is_gram_line (length counts) order) (take left lines)
      && are_sections (length counts) (suc order) (drop order counts) (drop left lines)

  -- their n-grams
  unfoldable pub rest_ngrams : List Ngram
  rest_ngrams = map (ngram_of order) (take left lines) ++ ngrams_from (suc order) (drop order counts) (drop left lines)

  -- and with those of `<unk>` alone that were seen before there is no more than one
  unfoldable pub rest_is : ℕ → Bool
  rest_is unknown = rest_shaped && leb (unknown + count is_unknown rest_ngrams) 1

-- ════ sections that were judged: a line of one field begins the next one, or ends them

-- the n-grams of the lines, of which the first is in the section of order n
unfoldable pub walked : ℕ → ℕ → List (List (List ℕ)) → List Ngram
walked top n [] = []
walked top n (line ∷ lines) =
    cond (eqb (length line) 1) (cond (eqb n top) [] (walked top (suc n) lines)) (ngram_of n line ∷ walked top n lines)

-- each line is a mark or, once a section has begun, an n-gram of its order, until the last section ends
unfoldable pub is_walk : ℕ → ℕ → List (List (List ℕ)) → Bool
is_walk top n [] = false
is_walk top n (line ∷ lines) =
    cond (eqb (length line) 1) (cond (eqb n top) true (is_walk top (suc n) lines)) (leb 1 n && is_gram_line top n line && is_walk top n lines)
