-- The answer's steps and words.
use Rattle.std.specs.declared.result.Result.TheVariants.{Ok}
use Prim.Native.Nat.{ℕ, suc, ◌≤◌, ◌<◌}
use native.Mathlib.Omega.{arith}
use mathlib.Core.Path.{◌≡◌, refl, sym, ◌∙◌, ap, subst}
use mathlib.Core.List.{List, [], ◌∷◌, map}
use lib.IntN.{ℤ}
use lib.ListN.{length, get_or, take}
use Rattle.meaning.specs.Book.{Book, book_of}
use Rattle.meaning.specs.Derivation.{no_step, target_words, supplied_of}
use Rattle.meaning.specs.declared.Supplied.{Supplied}
use Rattle.meaning.specs.Direction.{word_count}
use Rattle.meaning.specs.Reply.{written_over}
use Rattle.meaning.specs.State.{Hyp}
use Rattle.meaning.specs.declared.Step.{Step}
use Rattle.meaning.proofs.Steps.{fits_facts}
use Rattle.records.specs.Plain.{step_in, steps_of}
use Rattle.records.specs.declared.Plain.{Plain}
use Rattle.records.proofs.Laws.{step_at}
use Rattle.ways.specs.Back.{nobody, Way}
use Rattle.ways.specs.Codes.{step_of}
use Rattle.book.specs.Entries.{EntriesAt}
use Rattle.store.specs.Store.{place_at}
use Rattle.answer.specs.Told.{Ends, Told}

-- ════ the steps of the numbers that the store holds

way_is : (f : ℕ → Step) (out : List ℕ) (steps : List Step) → length steps ≤ length out → ((i : ℕ) → i < length steps → f (get_or out i 0) ≡ get_or steps i no_step)
    → map f (take (length steps) out) ≡ steps
way_is f [] [] h g = refl
way_is f (o ∷ out) [] h g = refl
way_is f [] (s ∷ steps) h g = absurd (omega arith)
way_is f (o ∷ out) (s ∷ steps) h g =
    ap (λ (x : Step). x ∷ map f (take (length steps) out)) (g 0 (omega arith)) ∙ ap (λ (xs : List Step). s ∷ xs) (way_is f out steps (omega arith) (λ i l. g (suc i) (omega arith)))

-- the state is that of the place, and at most 32 steps lead to it
module _ {book : Book} {direction : List ℕ} {st : List ℤ} {k : ℕ} {q : Hyp} (E : Ends book direction st k q) where
  steps_same : (get_or E.list k nobody).steps ≡ q.steps
  steps_same = ap (λ (x : Hyp). x.steps) E.is

  pub ends_few : word_count direction ≤ 32
  ends_few = E.shown.fine.few

  module _ {out : List ℕ} {d : ℕ} (W : Way (get_or E.list k nobody).steps out d) where
    pub way_long : d ≡ length q.steps
    way_long = W.long ∙ ap length steps_same

    pub way_steps : d ≤ length out → map step_of (take d out) ≡ q.steps
    way_steps h =
        let l = W.long in
        ap (λ (m : ℕ). map step_of (take m out)) W.long
        ∙ way_is step_of out (get_or E.list k nobody).steps (omega arith) (λ i g. W.step_is i (omega arith)) ∙ steps_same

-- each of the steps has an entry of the book
module _ {loaded : List ℤ} {direction : List ℕ} {index : List ℕ} {phrases : ℕ} (A : EntriesAt loaded index phrases) {st : List ℤ} {k : ℕ} {q : Hyp} (E : Ends (book_of loaded) direction st k q) where
  pub step_entry : (plain : Plain) (out : List ℕ) (d : ℕ) → Way (get_or E.list k nobody).steps out d → d ≤ length out → (plain.count ≡ d) × (steps_of plain ≡ map step_of (take d out))
      → (i : ℕ) → i < plain.count → (1 ≤ (step_in plain i).entry) × ((step_in plain i).entry ≤ phrases)
  step_entry plain out d W l (c, s) i h =
      let ss : steps_of plain ≡ q.steps = s ∙ way_steps E W l in
      let w = way_long E W in
      let e : get_or q.steps i no_step ≡ step_in plain i = sym (sym (step_at plain plain.count i no_step h) ∙ ap (λ (xs : List Step). get_or xs i no_step) ss) in
      let g = fits_facts (book_of loaded) direction (get_or q.steps i no_step) (E.fitting i (omega arith)) in
      let m = A.counted in
      (subst (λ (x : Step). 1 ≤ x.entry) e g.entry_from, (let z : (step_in plain i).entry ≤ length (book_of loaded).entries = subst (λ (x : Step). x.entry ≤ length (book_of loaded).entries) e g.entry_to in omega arith))

-- what is read off the store, written down and counted is what the state says
pub told : {book : Book} {direction : List ℕ} {st : List ℤ} {k : ℕ} {q : Hyp} (E : Ends book direction st k q) {words₀ words₁ : List ℕ} (plain : Plain) {out : List ℕ} {d many states : ℕ} {score : ℤ} {supplied : Supplied}
    → Way (get_or E.list k nobody).steps out d → d ≤ length out
    → (plain.count ≡ d) × (steps_of plain ≡ map step_of (take d out))
    → (many ≡ length (target_words book (steps_of plain))) × (words₁ ≡ written_over (target_words book (steps_of plain)) words₀)
    → score ≡ (place_at st k).state.score
    → supplied ≡ supplied_of book (steps_of plain)
    → Told book q states words₀ words₁ (record { plain = plain; reply = Ok (record { score = score; steps = d; words = many; states = states; supplied = supplied }) })
told {book} {q} E {words₀} plain {d} {many} {states} W h (c, s) (m, w) z u =
    let ss : steps_of plain ≡ q.steps = s ∙ way_steps E W h in
    let score_is = z ∙ E.shown.score_is in
    let steps_are = way_long E W in
    let words_are = m ∙ ap (λ (xs : List Step). length (target_words book xs)) ss in
    let supplied_is = u ∙ ap (supplied_of book) ss in
    record {
      steps_are = ss;
      count_is = c ∙ way_long E W;
      words_after = w ∙ ap (λ (xs : List Step). written_over (target_words book xs) words₀) ss;
      reply_is = λ i. Ok (record { score = score_is i; steps = steps_are i; words = words_are i; states = states; supplied = supplied_is i });
    }
