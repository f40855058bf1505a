-- The steps of a decode, put as numbers, are the definition's.
use Prim.Native.Nat.{ℕ, ◌/◌}
use mathlib.Core.Path.{◌≡◌, sym, ◌∙◌, ap, subst}
use mathlib.Core.List.{List}
use lib.IntN.{ℤ}
use lib.ListN.{length}
use Rattle.meaning.specs.Book.{book_of}
use Rattle.meaning.specs.Search.{answer}
use Rattle.meaning.specs.Reply.{Reply, Lent, written_over, filled_with, reply_of, decode_refusal, answer_steps}
use Rattle.meaning.specs.declared.Answer.{Answer}
use Rattle.meaning.specs.declared.Step.{Step}
use Rattle.records.specs.Plain.{steps_of}
use Rattle.decoder.specs.Decodes.{PlainDecodes}
use Rattle.answer.specs.declared.PlainReply.{PlainReply}
use Rattle.lists.specs.Steps.{numbers_of, lent_numbers, decoded_numbers}
use Rattle.ffi.specs.Calls.{zero_or_refusal, decode_report, DecodesNumbers}
use Rattle.lists.proofs.Threes.{how_many}
use Rattle.round_parts.proofs.Telling.{numbers_written}

module _ (loaded : List ℤ) (direction : List ℕ) (width : ℤ) (steps₀ steps₁ words₀ words₁ : List ℕ) (store₀ store₁ : List ℤ) (core : PlainReply) where
  abbrev lent : Lent
  lent = lent_numbers steps₀ words₀ store₀

  -- the steps that the search arrives at
  abbrev found : List Step
  found = answer_steps (answer (book_of loaded) direction width)

  module _ (c : PlainDecodes loaded direction width (length steps₀ / 3) words₀ words₁ store₀ store₁ core) where
    -- for as many steps as the numbers are
    into : PlainDecodes loaded direction width lent.steps words₀ words₁ store₀ store₁ core
    into = subst (λ (room : ℕ). PlainDecodes loaded direction width room words₀ words₁ store₀ store₁ core) (sym (how_many steps₀)) c

    pub decoded_numbers_lem : (report₀ report₁ : List ℤ) (result : ℤ) → steps₁ ≡ written_over (numbers_of (steps_of core.plain)) steps₀ → result ≡ zero_or_refusal (reply_of core.reply)
        → report₁ ≡ filled_with (decode_report (reply_of core.reply)) report₀
        → DecodesNumbers loaded direction width steps₀ steps₁ words₀ words₁ store₀ store₁ report₀ report₁ result
    unfolding decoded_numbers
    decoded_numbers_lem report₀ report₁ result p e r =
        record {
          result_is = e ∙ ap zero_or_refusal into.reply_is;
          steps_are = p ∙ ap (λ (xs : List Step). written_over (numbers_of xs) steps₀) into.steps_are ∙ numbers_written (decode_refusal loaded direction width lent) found steps₀;
          words_are = into.words_are;
          store_is = into.store_is;
          report_is = r ∙ ap (λ (x : Reply Answer). filled_with (decode_report x) report₀) into.reply_is;
        }
