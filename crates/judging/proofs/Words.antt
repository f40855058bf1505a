-- The target words of a list of steps.
use Prim.Native.Nat.{ℕ, ◌+◌, ◌-◌, ◌≤◌, ◌<◌}
use native.Mathlib.Omega.{arith}
use mathlib.Core.Path.{◌≡◌, sym, ◌∙◌, ap, subst}
use mathlib.Core.List.{List, [], ◌∷◌, ◌++◌, map, map-append, append-nil}
use lib.IntN.{ℤ, pos}
use lib.ListN.{length, get_or, take, drop, set, length-append, length-map, drop_of_length-le}
use native.Mathlib.Numerals.{add-one}
use Rattle.laws.proofs.Fill.{Filled, fill_put, fill_count, fill_end, over_more}
use Rattle.laws.specs.Lists.{concat}
use Rattle.laws.proofs.Lists.{drop_next, concat_++}
use Rattle.meaning.specs.Book.{Book}
use Rattle.meaning.specs.Derivation.{entry_at, target_words}
use Rattle.meaning.specs.Reply.{written_over}
use Rattle.meaning.specs.declared.Step.{Step}
use Rattle.records.specs.Plain.{step_in, steps_to}
use Rattle.records.specs.declared.Plain.{Plain}
use Rattle.derivation.specs.Model.{word_of}

-- ════ the words of one entry

module _ (numbers : List ℤ) (old : List ℕ) (room : length numbers ≤ length old) where
  long : length (map word_of numbers) ≤ length old
  long = let l = length-map numbers word_of in omega arith

  -- one number more as a word
  pub copy_more : {out : List ℕ} (j : ℕ) → j < length numbers → Filled old out j (map word_of (drop j numbers)) (map word_of numbers)
      → Filled old (set out j (word_of (get_or numbers j (pos 0)))) (j + 1) (map word_of (drop (j + 1) numbers)) (map word_of numbers)
  copy_more {out} j h f = fill_put long (subst (λ (rest : List ℤ). Filled old out j (map word_of rest) (map word_of numbers)) (drop_next numbers j (pos 0) h) f)

  pub copy_ends : {out : List ℕ} (j : ℕ) → length numbers ≤ j → Filled old out j (map word_of (drop j numbers)) (map word_of numbers) → out ≡ written_over (map word_of numbers) old
  copy_ends {out} j h f =
      let g = subst (λ (rest : List ℤ). Filled old out j (map word_of rest) (map word_of numbers)) (drop_of_length-le numbers {i = j} h) f in
      fill_end g ∙ ap (λ (k : ℕ). map word_of numbers ++ drop k old) (fill_count g)

-- ════ the words of one step after another

pub words_more : (book : Book) (steps : List Step) (step : Step) → target_words book (steps ++ (step ∷ [])) ≡ target_words book steps ++ (entry_at book step.entry).target
unfolding target_words
words_more book steps step =
    ap concat (map-append (λ (s : Step). (entry_at book s.entry).target) steps (step ∷ []))
    ∙ concat_++ (map (λ (s : Step). (entry_at book s.entry).target) steps) ((entry_at book step.entry).target ∷ [])
    ∙ ap (λ (ws : List ℕ). target_words book steps ++ ws) (append-nil (entry_at book step.entry).target)

-- ---- one step's words more

module _ (book : Book) (plain : Plain) (k : ℕ) (old : List ℕ) where
  abbrev said : List ℕ
  said = target_words book (steps_to plain k)

  abbrev row : List ℕ
  row = (entry_at book (step_in plain k).entry).target

  next_words : target_words book (steps_to plain (k + 1)) ≡ said ++ row
  next_words = rw add-one (words_more book (steps_to plain k) (step_in plain k))

  pub write_count : {count many : ℕ} → count ≡ length said → many ≡ length row → count + many ≡ length (target_words book (steps_to plain (k + 1)))
  write_count c m = let a = length-append said row in let e : length (target_words book (steps_to plain (k + 1))) ≡ length (said ++ row) = ap length next_words in omega arith

  pub write_more : {words part : List ℕ} {count : ℕ} → words ≡ written_over said old → count ≡ length said → part ≡ written_over row (take (length words - count) (drop count words))
      → take count words ++ (part ++ drop (length words - count) (drop count words)) ≡ written_over (target_words book (steps_to plain (k + 1))) old
  write_more w c e = over_more said row old w c e ∙ ap (λ (ws : List ℕ). written_over ws old) (sym next_words)
