-- What is answered of the best state of a search.
use Rattle.std.specs.declared.result.Result.TheVariants.{Ok}
use Rattle.std.specs.Prelude.{ℕ, ◌≤◌, ◌<◌, ◌≡◌, true, List, ℤ, length, get_or}
use Rattle.meaning.specs.Book.{Book}
use Rattle.meaning.specs.Derivation.{no_step, fits, target_words, supplied_of}
use Rattle.meaning.specs.Direction.{word_count}
use Rattle.meaning.specs.Reply.{written_over}
use Rattle.meaning.specs.State.{Hyp}
use Rattle.meaning.specs.declared.Answer.{Answer}
use Rattle.records.specs.Plain.{steps_of}
use Rattle.ways.specs.Back.{nobody, Chains}
use Rattle.states.specs.Shows.{Shows}
use Rattle.store.specs.Store.{place_at}
use Rattle.answer.specs.declared.PlainReply.{PlainReply}

-- the place k of the store holds the state q of the search, and the parents' places lead from it to the start
pub record Ends (book : Book) (direction : List ℕ) (st : List ℤ) (k : ℕ) (q : Hyp) : Type 0 where
  pub list : List Hyp
  pub chains : Chains st list
  pub inside : k < length list
  pub is : get_or list k nobody ≡ q
  pub shown : Shows (word_count direction) (place_at st k) q
  pub short : length q.steps ≤ word_count direction
  pub fitting : (i : ℕ) → i < length q.steps → fits book direction (get_or q.steps i no_step) ≡ true

-- it holds some state of the search
pub record Ended (book : Book) (direction : List ℕ) (st : List ℤ) (k : ℕ) : Type 0 where
  pub state : Hyp
  pub ends : Ends book direction st k state

-- the answer that the state q gives, where so many states were entered
abbrev pub answer_by : Book → Hyp → ℕ → Answer
answer_by book q states = record { score = q.score; steps = length q.steps; words = length (target_words book q.steps); states = states; supplied = supplied_of book q.steps }

-- what is answered of the state q: its steps, their words, its score, how many states were entered, and who supplied the words' scores
pub record Told (book : Book) (q : Hyp) (states : ℕ) (words₀ words₁ : List ℕ) (r : PlainReply) : Type 0 where
  pub steps_are : steps_of r.plain ≡ q.steps
  pub count_is : r.plain.count ≡ length q.steps
  pub words_after : words₁ ≡ written_over (target_words book q.steps) words₀
  pub reply_is : r.reply ≡ Ok (answer_by book q states)
