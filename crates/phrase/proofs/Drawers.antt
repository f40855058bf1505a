-- Drawers d and e, from the contract of `decode` alone: all that is handed back.
use Rattle.std.specs.declared.result.Result.TheVariants.{Ok}
use Rattle.std.specs.declared.result.Result.{Result}
use Rattle.meaning.specs.declared.Refusal.{Refusal}
use Prim.Native.Nat.{ℕ, ◌*◌, ◌≤◌}
use mathlib.Core.Path.{◌≡◌, ◌∙◌, ap}
use mathlib.Core.List.{List, [], ◌∷◌}
use lib.IntN.{ℤ}
use lib.ListN.{length}
use Rattle.meaning.specs.Reply.{decode, written_over, Decodes}
use Rattle.meaning.specs.declared.Answer.{Answer}
use Rattle.meaning.specs.declared.Step.{Step}
use Rattle.meaning.proofs.Drawers.{short, direction, off, step, Decoding, Found, answer_d, decode_d, found_d, answer_e, decode_e, found_e}
use Rattle.phrase.proofs.Demanded.{done_result, lists_written}

-- any lists of n and 8 × n places or more, and a store of 512 states, whatever stands in them
module _ (steps₀ steps₁ : List Step) (words₀ words₁ : List ℕ) (store₀ store₁ : List ℤ) (result : Result Answer Refusal) (h : 2 ≤ length steps₀) (g : 16 ≤ length words₀) (m : length store₀ ≡ 8 * 512) where
  -- this answer is given, and the lists begin with these steps and words, the rest as before
  pub record Hands (answer : Answer) (steps : List Step) (words : List ℕ) : Type 0 where
    pub result_is : result ≡ Ok answer
    pub steps_are : steps₁ ≡ written_over steps steps₀
    pub words_are : words₁ ≡ written_over words words₀

  handed : (loaded : List ℤ) (a : Answer) (steps : List Step) (words : List ℕ) → Decoding loaded (length steps₀) (length words₀) a → Found loaded steps words
      → Decodes loaded direction off steps₀ steps₁ words₀ words₁ store₀ store₁ result → Hands a steps words
  handed loaded a steps words d f D =
      let e : result ≡ Ok a = done_result result a (D.reply_is ∙ ap (λ (n : ℕ). decode loaded direction off (record { steps = length steps₀; words = length words₀; store = n })) m ∙ d) in
      let w = lists_written loaded direction off steps₀ steps₁ words₀ words₁ store₀ store₁ result D a e in
      record {
        result_is = e;
        steps_are = w.0 ∙ ap (λ (xs : List Step). written_over xs steps₀) f.0;
        words_are = w.1 ∙ ap (λ (xs : List ℕ). written_over xs words₀) f.1;
      }

  -- "d: short, d = 2: −120, steps (2,2,2) (1,1,1)"
  pub drawer_d : Decodes (short 2) direction off steps₀ steps₁ words₀ words₁ store₀ store₁ result → Hands answer_d (step 2 2 2 ∷ step 1 1 1 ∷ []) (102 ∷ 101 ∷ [])
  drawer_d = handed (short 2) answer_d (step 2 2 2 ∷ step 1 1 1 ∷ []) (102 ∷ 101 ∷ []) (decode_d (length steps₀) (length words₀) h g) found_d

  -- "e: short, d = 1: −150, steps (1,1,1) (2,2,2)"
  pub drawer_e : Decodes (short 1) direction off steps₀ steps₁ words₀ words₁ store₀ store₁ result → Hands answer_e (step 1 1 1 ∷ step 2 2 2 ∷ []) (101 ∷ 102 ∷ [])
  drawer_e = handed (short 1) answer_e (step 1 1 1 ∷ step 2 2 2 ∷ []) (101 ∷ 102 ∷ []) (decode_e (length steps₀) (length words₀) h g) found_e
