-- What a decode into the program's lists answers fits the output, and what is printed of it is what the definition prints: the steps
-- are those that stand as plain numbers, and the words stand at the beginning of the word list.
use Rattle.std.specs.declared.result.Result.TheVariants.{Ok, Err}
use Rattle.std.specs.declared.result.Result.{Result}
use Rattle.meaning.specs.declared.Refusal.{Refusal}
use Prim.Native.Nat.{ℕ}
use native.Mathlib.Omega.{arith}
use mathlib.Core.Path.{◌≡◌, refl, sym, ◌∙◌, ap}
use mathlib.Core.List.{List}
use lib.IntN.{ℤ, negsuc}
use lib.ListN.{length, take, drop, length-append}
use lib.Seq.{take_at}
use Rattle.meaning.specs.Book.{book_of}
use Rattle.meaning.specs.Derivation.{target_words}
use Rattle.meaning.specs.Search.{answer}
use Rattle.meaning.specs.Reply.{Lent, reply_of, answer_steps, decode}
use Rattle.meaning.specs.Render.{printed_answer, printed_decode}
use Rattle.meaning.specs.declared.Answer.{Answer}
use Rattle.meaning.specs.declared.Step.{Step}
use Rattle.meaning.proofs.Demands.{answered, decode_counts, decode_in_all, decode_bound}
use Rattle.records.specs.Plain.{steps_of}
use Rattle.answer.specs.declared.PlainReply.{PlainReply}
use Rattle.decoder.specs.Decodes.{PlainDecodes}
use Rattle.decoder.proofs.Replies.{plain_decoded, plain_steps, plain_words, plain_count}
use Rattle.printing.specs.Lines.{plain_of}
use Rattle.rendering.specs.Parts.{Fits, FitsDecoded, printed_done, printed_decoded, decode_off}

-- a step list of 32 records, 256 words and 4,096 numbers of store
module _ (loaded : List ℤ) (direction : List ℕ) (words₀ words₁ : List ℕ) (store₀ store₁ : List ℤ) (r : PlainReply)
    (D : PlainDecodes loaded direction (negsuc 0) 32 words₀ words₁ store₀ store₁ r) (w₀ : length words₀ ≡ 256) (w₁ : length words₁ ≡ 256) (s₀ : length store₀ ≡ 4_096) where
  abbrev lent : Lent
  lent = record { steps = 32; words = length words₀; store = length store₀ }

  -- the steps that the search arrives at, and their words
  abbrev steps : List Step
  steps = answer_steps (answer (book_of loaded) direction (negsuc 0))

  abbrev words : List ℕ
  words = target_words (book_of loaded) steps

  replied : reply_of r.reply ≡ decode_off loaded direction
  unfolding decode_off
  replied = D.reply_is ∙ λ i. decode loaded direction (negsuc 0) (record { steps = 32; words = w₀ i; store = s₀ i })

  module _ (a : Answer) (e : r.reply ≡ Ok a) where
    steps_are : steps_of (plain_of r.plain.numbers a.steps) ≡ steps
    steps_are = ap (λ (k : ℕ). steps_of (plain_of r.plain.numbers k)) (plain_count D e) ∙ plain_steps D e

    words_counted : a.words ≡ length words
    words_counted = (decode_counts loaded direction (negsuc 0) lent a (plain_decoded D e)).1

    words_are : take a.words words₁ ≡ words
    words_are = ap (take a.words) (plain_words D e) ∙ take_at words (drop (length words) words₀) a.words (sym words_counted)

    fits : Fits a
    fits =
        let f = answered loaded direction (negsuc 0) lent a (plain_decoded D e) in
        record {
          score = decode_bound loaded direction (negsuc 0) lent a (plain_decoded D e);
          steps = omega (arith, plain_count D e, D.has_room);
          words = omega (arith, words_counted, ap length (plain_words D e), length-append words (drop (length words) words₀), w₁);
          states = omega (arith, f.states_are, f.room, s₀);
          in_all_lem = decode_in_all loaded direction (negsuc 0) lent a (plain_decoded D e);
        }

    prints : printed_done a r.plain.numbers words₁ ≡ printed_answer a steps words
    prints i = printed_answer a (steps_are i) (words_are i)

  fits_by : (d : Result Answer Refusal) → r.reply ≡ d → FitsDecoded d
  fits_by (Ok a) e = fits a e
  fits_by (Err refusal) e = tt

  prints_by : (d : Result Answer Refusal) → r.reply ≡ d → printed_decoded d r.plain.numbers words₁ ≡ printed_decode loaded direction (reply_of d)
  prints_by (Ok a) e = prints a e
  prints_by (Err refusal) e = refl

  pub reply_fits : FitsDecoded r.reply
  reply_fits = fits_by r.reply refl

  pub reply_prints : printed_decoded r.reply r.plain.numbers words₁ ≡ printed_decode loaded direction (decode_off loaded direction)
  reply_prints = prints_by r.reply refl ∙ ap (printed_decode loaded direction) replied
