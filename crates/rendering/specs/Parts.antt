-- What the parts of the rendering program ensure, in terms of the lists that they lend.
use Rattle.std.specs.declared.result.Result.TheVariants.{Ok, Err}
use Rattle.std.specs.declared.result.Result.{Result}
use Rattle.meaning.specs.declared.Refusal.{Refusal}
use Rattle.std.specs.Prelude.{ℕ, zero, suc, ◌≤◌, ◌≡◌, List, ℤ, negsuc, take}
use Rattle.laws.specs.Integers.{Within}
use Rattle.meaning.specs.Questions.{number}
use Rattle.meaning.specs.Direction.{direction_of}
use Rattle.meaning.specs.Derivation.{in_all}
use Rattle.meaning.specs.State.{score_bound}
use Rattle.meaning.specs.Reply.{Reply, decode}
use Rattle.meaning.specs.Render.{printed_refusal, printed_answer, printed_decode}
use Rattle.meaning.specs.declared.Answer.{Answer}
use Rattle.records.specs.Plain.{steps_of}
use Rattle.printing.specs.Lines.{plain_of}

-- an answer, its steps as plain numbers and its words at the beginning of a list
abbrev pub printed_done : Answer → List ℕ → List ℕ → List ℕ
printed_done a numbers words = printed_answer a (steps_of (plain_of numbers a.steps)) (take a.words words)

abbrev pub printed_decoded : Result Answer Refusal → List ℕ → List ℕ → List ℕ
printed_decoded (Ok a) numbers words = printed_done a numbers words
printed_decoded (Err refusal) numbers words = printed_refusal (number refusal)

-- an answer to at most 32 words, from a store of 512 states
pub record Fits (a : Answer) : Type 0 where
  pub score : Within score_bound a.score
  pub steps : a.steps ≤ 32
  pub words : a.words ≤ 256
  pub states : a.states ≤ 512
  pub in_all_lem : in_all a.supplied ≡ a.words

abbrev pub FitsDecoded : Result Answer Refusal → Type 0
FitsDecoded (Ok a) = Fits a
FitsDecoded (Err refusal) = Unit {0}

-- "decodes with pruning off, a store of 512 states", and lists that are long enough for 32 words
unfoldable pub decode_off : List ℤ → List ℕ → Reply Answer
decode_off loaded direction = decode loaded direction (negsuc 0) (record { steps = 32; words = 256; store = 4_096 })

-- what is printed once the book is read, by the refusal of the direction's text, 0 for none
abbrev pub printed_read : ℕ → List ℤ → List ℕ → List ℕ
printed_read zero loaded directionText = printed_decode loaded (direction_of directionText) (decode_off loaded (direction_of directionText))
printed_read (suc k) loaded directionText = printed_refusal (suc k)
