-- What C sees of a call: one number as the answer, steps as plain numbers, and a report.
use Rattle.std.specs.Prelude.{ℕ, ◌≡◌, List, [], ℤ, pos, neg_ℤ}
use Rattle.meaning.specs.Reply.{Reply, refused, done, filled_with, totals_numbers, counts_of, decode, decoded_words, decoded_store}
use Rattle.meaning.specs.declared.Totals.{Totals}
use Rattle.meaning.specs.declared.Answer.{Answer}
use Rattle.lists.specs.Steps.{lent_numbers, decoded_numbers}

-- "numbers written, or minus the refusal"
abbrev pub count_or_refusal : Reply ℕ → ℤ
count_or_refusal (done count) = pos count
count_or_refusal (refused k) = neg_ℤ (pos k)

-- "0, or the refusal"
abbrev pub zero_or_refusal : {A : Type 0} → Reply A → ℤ
zero_or_refusal (done a) = pos 0
zero_or_refusal (refused k) = pos k

-- what a scoring reports: score, triples, pairs, words, u; "nothing on a refusal"
abbrev pub score_report : Reply Totals → List ℤ
score_report (done totals) = totals_numbers totals
score_report (refused k) = []

-- what a decode reports: score, steps, words, states, triples, pairs, words, u; "nothing on a refusal"
abbrev pub decode_report : Reply Answer → List ℤ
decode_report (done a) = counts_of a
decode_report (refused k) = []

-- the whole of a decode into plain numbers: its answer, and each lent list before (₀) and after (₁). "A report list gets as many of
-- its values as it has places"
pub record DecodesNumbers (loaded : List ℤ) (direction : List ℕ) (width : ℤ) (steps₀ steps₁ words₀ words₁ : List ℕ)
    (store₀ store₁ report₀ report₁ : List ℤ) (result : ℤ) : Type 0 where
  pub result_is : result ≡ zero_or_refusal (decode loaded direction width (lent_numbers steps₀ words₀ store₀))
  pub steps_are : steps₁ ≡ decoded_numbers loaded direction width (lent_numbers steps₀ words₀ store₀) steps₀
  pub words_are : words₁ ≡ decoded_words loaded direction width (lent_numbers steps₀ words₀ store₀) words₀
  pub store_is : store₁ ≡ decoded_store loaded direction width (lent_numbers steps₀ words₀ store₀) store₀
  pub report_is : report₁ ≡ filled_with (decode_report (decode loaded direction width (lent_numbers steps₀ words₀ store₀))) report₀
