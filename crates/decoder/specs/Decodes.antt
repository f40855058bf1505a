-- What a decode answers on plain numbers.
use Rattle.std.specs.declared.result.Result.TheVariants.{Err}
use Rattle.std.specs.Prelude.{ℕ, zero, suc, ◌≤◌, ◌≡◌, Bool, true, false, cond, List, [], leb, ℤ, length}
use Rattle.std.proofs.Math.Option.{Option, none, some}
use Rattle.meaning.specs.Book.{Book, book_of}
use Rattle.meaning.specs.Reply.{reply_of, decode_refusal, answer_steps, decode, decoded_words, decoded_store}
use Rattle.meaning.specs.Search.{is_off, answer, entered}
use Rattle.meaning.specs.State.{Hyp}
use Rattle.meaning.specs.declared.Step.{Step}
use Rattle.meaning.specs.declared.Refusal.{Refusal}
use Rattle.meaning.specs.declared.Refusal.TheVariants.{StoreTooSmall, NoDerivation, LastSetEmpty}
use Rattle.records.specs.Plain.{no_steps, steps_of}
use Rattle.answer.specs.declared.PlainReply.{PlainReply}
use Rattle.answer.specs.Told.{Told}

-- a refusal: "the steps and words are as before"
abbrev pub refused_by : Refusal → PlainReply
refused_by refusal = record { plain = no_steps; reply = Err refusal }

-- "With pruning off, is there a valid derivation? No: 14." "With a width, is set n not empty? No: 15."
abbrev pub no_answer : ℤ → Refusal
no_answer width = cond (is_off width) NoDerivation LastSetEmpty

-- what is answered once the search is over: of its best state, or that there is none
abbrev pub Concluded : Option Hyp → Book → ℤ → ℕ → List ℕ → List ℕ → PlainReply → Type 0
Concluded none book width states words₀ words₁ r = (r ≡ refused_by (no_answer width)) × (words₁ ≡ words₀)
Concluded (some q) book width states words₀ words₁ r = Told book q states words₀ words₁ r

-- "Does the store hold the states entered ..? No: 13."
abbrev pub SearchedIf : Bool → Book → List ℕ → ℤ → List ℕ → List ℕ → PlainReply → Type 0
SearchedIf true book direction width words₀ words₁ r =
    Concluded (answer book direction width) book width (length (entered book direction width)) words₀ words₁ r
SearchedIf false book direction width words₀ words₁ r = (r ≡ refused_by StoreTooSmall) × (words₁ ≡ words₀)

-- what the search answers with a store of so many places
abbrev pub Searched : Book → List ℕ → ℤ → ℕ → List ℕ → List ℕ → PlainReply → Type 0
Searched book direction width places words₀ words₁ r = SearchedIf (leb (length (entered book direction width)) places) book direction width words₀ words₁ r

-- the answer's steps, where no question refuses
abbrev pub unless_refused : ℕ → List Step → List Step
unless_refused zero steps = steps
unless_refused (suc k) steps = []

-- the whole of a decode on plain numbers, for a list of `room` step records
pub record PlainDecodes (loaded : List ℤ) (direction : List ℕ) (width : ℤ) (room : ℕ) (words₀ words₁ : List ℕ) (store₀ store₁ : List ℤ) (r : PlainReply) : Type 0 where
  pub has_room : r.plain.count ≤ room
  pub few : r.plain.count ≤ 33
  pub reply_is : reply_of r.reply ≡ decode loaded direction width (record { steps = room; words = length words₀; store = length store₀ })
  pub steps_are : steps_of r.plain ≡ unless_refused (decode_refusal loaded direction width (record { steps = room; words = length words₀; store = length store₀ })) (answer_steps (answer (book_of loaded) direction width))
  pub words_are : words₁ ≡ decoded_words loaded direction width (record { steps = room; words = length words₀; store = length store₀ }) words₀
  pub store_is : store₁ ≡ decoded_store loaded direction width (record { steps = room; words = length words₀; store = length store₀ }) store₀
