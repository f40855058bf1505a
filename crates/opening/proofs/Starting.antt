-- The B line stands at the front of the list; and a book that is open has the model of its n-grams.
use Prim.Native.Nat.{ℕ, ◌<◌, ◌+◌}
use native.Mathlib.Omega.{arith}
use mathlib.Core.Path.{◌≡◌, refl, sym, ◌∙◌, ap, ap₂, subst}
use mathlib.Core.Bool.{true, false≢true}
use mathlib.Core.List.{List, [], ◌∷◌, Memᴰ}
use lib.IntN.{ℤ}
use lib.ListN.{length, get_or}
use Rattle.std.specs.Prelude.{Result, Ok, Err}
use Rattle.laws.specs.Integers.{Within, nat_of}
use Rattle.meaning.specs.Bounds.{score_most, triple_bound}
use Rattle.meaning.specs.Questions.{◌orelse◌, number}
use Rattle.meaning.specs.Book.{in_list, Gram, number_at, natural_at, is_one_bFirst, book_refusal, book_of, book_of_lines, loaded_lines}
use Rattle.meaning.specs.Direction.{word_count, direction_refusal}
use Rattle.meaning.specs.Derivation.{backed_off, triple_score}
use Rattle.meaning.specs.declared.Refusal.{Refusal}
use Rattle.meaning.proofs.Ranges.{lines_passed, loaded_ranged}
use Rattle.meaning.proofs.Bounds.{triple_within}
use Rattle.ngrams.specs.Grams.{grams_in}
use Rattle.ngrams.proofs.Differ.{below_grams, below_listing}
use Rattle.book.specs.Loaded.{size_at}
use Rattle.book.specs.Entries.{EntriesAt, Placed}
use Rattle.book.proofs.Cuts.{LineAt, line_here, line_number, lines_end}
use Rattle.loading.specs.declared.load.Grams.{Grams}
use Rattle.loading.specs.Loaded.{Known}
use Rattle.meaning.proofs.Numbered.{number_from, refused_first}
use Rattle.derivation.specs.declared.Setup.{Setup}
use Rattle.derivation.specs.Model.{Model, model_score}
use Rattle.derivation.specs.Prepared.{Prepared}
use Rattle.opening.specs.declared.Counts.{Counts}
use Rattle.opening.specs.Opening.{SetupOf, Open, BegunAs, StartOf}

-- ════ the B line

module _ (loaded : List ℤ) (passed : book_refusal loaded ≡ 0) where
  -- a book that passes has a first line
  not_empty : 0 < length loaded
  unfolding book_refusal is_one_bFirst
  not_empty = by loaded (lines_passed in_list (loaded_lines loaded) passed).one_b
    where
      by : (l : List ℤ) → is_one_bFirst (loaded_lines l) ≡ true → 0 < length l
      by [] e = absurd (false≢true (sym (ap is_one_bFirst lines_end) ∙ e))
      by (z ∷ l) e = omega arith

  -- and it stands at the front of the list
  front : LineAt loaded 0 (size_at loaded 0)
  unfolding book_refusal
  front = line_here loaded 0 (size_at loaded 0) (lines_passed in_list (loaded_lines loaded) passed).whole not_empty refl

  -- its numbers are the first of the list
  first_number : (i : ℕ) → i < 4 → number_at (get_or (loaded_lines loaded) 0 []) i ≡ number_at loaded i
  first_number i h =
      let z : 0 + i ≡ i = omega arith in
      ap (λ (lines : List (List ℤ)). number_at (get_or lines 0 []) i) front.lines
      ∙ line_number loaded 0 (size_at loaded 0) i (let s = front.some in omega arith) ∙ ap (number_at loaded) z

  -- "B,d,eta,u": d, eta and u are numbers 1, 2 and 3 of the list
  pub limit_read : (book_of loaded).limit ≡ natural_at loaded 1
  unfolding book_of book_of_lines
  limit_read = ap nat_of (first_number 1 (omega arith))

  pub eta_read : (book_of loaded).eta ≡ number_at loaded 2
  unfolding book_of book_of_lines
  eta_read = first_number 2 (omega arith)

  pub unseen_read : (book_of loaded).unseen ≡ number_at loaded 3
  unfolding book_of book_of_lines
  unseen_read = first_number 3 (omega arith)

  -- the numbers that code reads there
  pub setup_is : (n : ℕ) (counts : Counts) (limit : ℕ) (eta unseen : ℤ) → limit ≡ natural_at loaded 1 → eta ≡ number_at loaded 2 → unseen ≡ number_at loaded 3
      → SetupOf (book_of loaded) n counts (record { n = n; limit = limit; eta = eta; phrases = counts.phrases; model = record { count = counts.grams; shorter = counts.shorter; unseen = unseen } })
  setup_is n counts limit eta unseen a b c = record {
    n_is = refl;
    limit_is = a ∙ sym limit_read;
    eta_is = b ∙ sym eta_read;
    phrases_are = refl;
    unseen_is = c ∙ sym unseen_read;
    grams_are = refl;
    shorter_are = refl;
  }

-- ════ the model

module _ {loaded : List ℤ} {index : List ℕ} {counts : Counts} {t : Setup} (direction : List ℕ) (o : Open loaded index counts) (d : direction_refusal direction ≡ 0)
    (k : SetupOf (book_of loaded) (length direction) counts t) where
  -- the n-grams in the list are the book's
  listed : grams_in index t.model.count ≡ (book_of loaded).grams
  listed = ap (grams_in index) k.grams_are ∙ o.grams_are

  -- so the score of a triple by the list is its score by the book
  same_score : (v w y : ℕ) → model_score index t v w y ≡ triple_score (book_of loaded) v w y
  unfolding model_score triple_score
  same_score v w y = ap₂ (λ (u : ℤ) (grams : List Gram). backed_off u grams v w y) k.unseen_is listed

  -- they are indexed, no two alike, with numbers in their ranges
  modelled : Model index t
  modelled =
      let R = loaded_ranged loaded o.passed in
      record {
        is_model = record {
          listing = rw (k.grams_are, k.shorter_are) o.listing;
          unseen_within = subst (Within score_most) (sym k.unseen_is) R.unseen_within;
          grams_within = subst (λ (grams : List Gram). (g : Gram) → Memᴰ g grams → Within score_most g.s × Within score_most g.k) (sym listed) R.gram_within;
        };
        scores_within = λ v w y. subst (Within triple_bound) (sym (same_score v w y)) (triple_within (book_of loaded) R v w y);
      }

  -- all that a search or a score asks for
  pub prepared : Prepared loaded direction index t
  unfolding word_count
  prepared = record {
    passed = o.passed;
    directed = d;
    model = modelled;
    grams_are = listed;
    scores_are = same_score;
    n_is = k.n_is;
    limit_is = k.limit_is;
    eta_is = k.eta_is;
    entries_at = subst (EntriesAt loaded index) (sym k.phrases_are) o.entries_at;
  }

-- ════ the book is open

-- the places of the entries were put behind what loading left
pub opened : {loaded : List ℤ} {before after : List ℕ} {grams : Grams} {phrases : ℕ} → Known (book_refusal loaded) (book_of loaded) before grams → Placed loaded before after phrases
    → Open loaded after (record { phrases = phrases; grams = grams.count; shorter = grams.shorter })
opened {grams} r p = record {
  passed = r.passes;
  grams_are = below_grams p.kept grams.count r.listing.indexed.room.few ∙ r.grams_are;
  listing = below_listing p.kept r.listing;
  entries_at = p.entries;
}

-- ════ what the questions answer

-- where 2 to 6 refuse, 9 and 10 are not asked
pub book_refuses : (k m : ℕ) (refusal : Refusal) → k ≡ number refusal → (k orelse m) ≡ number refusal
book_refuses k m refusal e = ap (λ (j : ℕ). j orelse m) e ∙ refused_first (number refusal) m (number_from refusal)

-- where they pass, the direction's refusal is the answer
pub direction_refuses : (k m : ℕ) (refusal : Refusal) → k ≡ 0 → m ≡ number refusal → (k orelse m) ≡ number refusal
direction_refuses k m refusal p e = ap (λ (j : ℕ). j orelse m) p ∙ e

-- after a book that passed, what 9 and 10 answer is the answer
pub begun_starts : (loaded : List ℤ) (direction : List ℕ) (index : List ℕ) (r : Result Setup Refusal) → book_refusal loaded ≡ 0 → BegunAs loaded direction index r → StartOf loaded direction index r
begun_starts loaded direction index (Ok t) p b = b
begun_starts loaded direction index (Err refusal) p b = direction_refuses (book_refusal loaded) (direction_refusal direction) refusal p b
