-- The n-grams of a text that 23 passes have one to three words.
use Prim.Native.Nat.{ℕ, zero, suc, ◌+◌, ◌≤◌, ◌<◌}
use mathlib.Core.Path.{◌≡◌, refl, ◌∙◌}
use mathlib.Core.Bool.{Bool, true, ◌&&◌}
use mathlib.Core.List.{List, [], ◌∷◌, map}
use native.Mathlib.Omega.{arith}
use borrow.Author.Tests.{leb-true, le-leb}
use lib.Dec.{leb, ltb}
use lib.ListN.{length, take, drop}
use lib.Seq.{length-take-le}
use Rattle.laws.specs.Lists.{all, count}
use Rattle.laws.proofs.Lists.{all_++, all_mem, mem_all, keep_mem}
use Rattle.laws.proofs.Tests.{both, both_of, clash, between, by_test}
use Rattle.meaning.specs.Questions.{within}
use Rattle.arpa.specs.Values.{is_value}
use Rattle.arpa.specs.File.{Ngram, grams_mark, is_mark, is_count_line, is_weight_part, is_gram_line, are_sections, ngram_of, ngrams_from, highest_order, counts_from, body_of, counts_of, sections_of, is_shaped, is_unknown, ngrams_of, is_arpa}
use Rattle.arpa.specs.Import.{is_imported, imported_of}

-- one to three
abbrev pub is_sized : Ngram → Bool
is_sized g = within 1 3 (length g.words)

-- what holds of one word, of two and of three holds of all such words
pub sized_ind : (Q : List (List ℕ) → Type 0) → ((y : List ℕ) → Q (y ∷ [])) → ((w y : List ℕ) → Q (w ∷ y ∷ [])) → ((v w y : List ℕ) → Q (v ∷ w ∷ y ∷ []))
    → (words : List (List ℕ)) → within 1 3 (length words) ≡ true → Q words
sized_ind Q one two three [] h = clash h refl
sized_ind Q one two three (y ∷ []) h = one y
sized_ind Q one two three (w ∷ y ∷ []) h = two w y
sized_ind Q one two three (v ∷ w ∷ y ∷ []) h = three v w y
sized_ind Q one two three (t ∷ v ∷ w ∷ y ∷ words) h = absurd (omega (arith, (between 1 3 (length (t ∷ v ∷ w ∷ y ∷ words)) h).1))

-- a line of order n has more than n fields
pub gram_long : (top n : ℕ) (line : List (List ℕ)) → is_gram_line top n line ≡ true → n < length line
unfolding is_gram_line
gram_long top n [] h = clash h refl
gram_long top n (value ∷ fields) h =
    let b = (both (is_value value && leb n (length fields)) (is_weight_part (ltb n top) (drop n fields)) h).0 in
    omega (arith, leb-true n (length fields) (both (is_value value) (leb n (length fields)) b).1)

gram_sized : (top n : ℕ) (line : List (List ℕ)) → 1 ≤ n → n ≤ 3 → is_gram_line top n line ≡ true → is_sized (ngram_of n line) ≡ true
unfolding is_gram_line ngram_of
gram_sized top n [] lo hi h = clash h refl
gram_sized top n (value ∷ fields) lo hi h =
    let b = (both (is_value value && leb n (length fields)) (is_weight_part (ltb n top) (drop n fields)) h).0 in
    let long = leb-true n (length fields) (both (is_value value) (leb n (length fields)) b).1 in
    rw (length-take-le n fields long, le-leb 1 n lo, le-leb n 3 hi)

lines_sized : (top n : ℕ) (lines : List (List (List ℕ))) → 1 ≤ n → n ≤ 3 → all (is_gram_line top n) lines ≡ true → all is_sized (map (ngram_of n) lines) ≡ true
lines_sized top n [] lo hi h = refl
lines_sized top n (line ∷ lines) lo hi h =
    let b = both (is_gram_line top n line) (all (is_gram_line top n) lines) h in
    both_of (gram_sized top n line lo hi b.0) (lines_sized top n lines lo hi b.1)

sections_sized : (top n : ℕ) (counts : List ℕ) (lines : List (List (List ℕ))) → 1 ≤ n → n + length counts ≤ 4 → are_sections top n counts lines ≡ true
    → all is_sized (ngrams_from n counts lines) ≡ true
unfolding are_sections ngrams_from
sections_sized top n [] lines lo hi h = refl
sections_sized top n (m ∷ counts) [] lo hi h = clash h refl
sections_sized top n (m ∷ counts) (line ∷ lines) lo hi h =
    let b = both (is_mark (grams_mark n) line && leb m (length lines) && all (is_gram_line top n) (take m lines)) (are_sections top (suc n) counts (drop m lines)) h in
    let a = (both (is_mark (grams_mark n) line && leb m (length lines)) (all (is_gram_line top n) (take m lines)) b.0).1 in
    all_++ is_sized (map (ngram_of n) (take m lines)) (ngrams_from (suc n) counts (drop m lines))
    ∙ both_of (lines_sized top n (take m lines) lo (omega arith) a) (sections_sized top (suc n) counts (drop m lines) (omega arith) (omega arith) b.1)

counts_few : (most n : ℕ) (lines : List (List (List ℕ))) → length (counts_from most n lines) ≤ most
unfolding counts_from
counts_few zero n lines = omega arith
counts_few (suc most) n [] = omega arith
counts_few (suc most) n (line ∷ lines) =
    let ih = counts_few most (suc n) lines in
    by_test (is_count_line n line) (λ t. rw t (omega arith)) (λ f. rw f (omega arith))

pub counts_most : (text : List ℕ) → length (counts_of text) ≤ 3
unfolding counts_of
counts_most text = counts_few highest_order 1 (body_of text)

pub ngrams_sized : (text : List ℕ) → is_arpa text ≡ true → all is_sized (ngrams_of text) ≡ true
unfolding is_arpa is_shaped ngrams_of
ngrams_sized text h =
    let s = (both (is_shaped text) (leb (count is_unknown (ngrams_of text)) 1) h).0 in
    sections_sized (length (counts_of text)) 1 (counts_of text) (sections_of text) (omega arith) (omega (arith, counts_most text))
    (both (leb 1 (length (counts_of text))) (are_sections (length (counts_of text)) 1 (counts_of text) (sections_of text)) s).1

pub imported_sized : (text : List ℕ) → is_arpa text ≡ true → all is_sized (imported_of text) ≡ true
unfolding imported_of
imported_sized text h = mem_all is_sized (imported_of text) (λ g m. all_mem is_sized (ngrams_of text) (ngrams_sized text h) g (keep_mem is_imported (ngrams_of text) m).0)
