-- The questions of a round behind the book's, as they are asked one after the other.
use Rattle.std.specs.declared.result.Result.TheVariants.{Ok, Err}
use Rattle.std.specs.declared.result.Result.{Result}
use Rattle.std.specs.Prelude.{ℕ, ◌*◌, ◌≡◌, Bool, ◌&&◌, List, leb, ℤ, length, Result, Ok, Err}
use Rattle.laws.specs.Lists.{all}
use Rattle.meaning.specs.Questions.{◌unless◌, ◌orelse◌, within, number}
use Rattle.meaning.specs.Book.{book_refusal}
use Rattle.meaning.specs.Round.{are_rising}
use Rattle.meaning.specs.declared.Refusal.{Refusal}
use Rattle.opening.specs.Opening.{Open}
use Rattle.opening.specs.declared.Counts.{Counts}
use Rattle.round_parts.specs.declared.ask.Room.{Room}

-- each end is above the one before and not past a list of `most` words
abbrev pub are_rising_to : ℕ → ℕ → List ℕ → Bool
are_rising_to most before ends = are_rising before ends && all (λ end. leb end most) ends

-- 26, then 12; then 7, where a sheet is asked for and has too few bytes
abbrev pub behind_book : ℕ → List ℕ → Room → ℕ
behind_book most ends room =
    26 unless (within 1 64 (length ends) && are_rising_to most 0 ends)
    orelse 12 unless (leb (32 * length ends) room.steps && leb (256 * length ends) room.words && leb (9 * length ends) room.answers)
    orelse 7 unless room.enough

-- what is replied to such questions
abbrev pub CheckedBy : ℕ → Result Unit Refusal → Type 0
CheckedBy k (Ok tt) = k ≡ 0
CheckedBy k (Err refusal) = k ≡ number refusal

-- what is replied to all questions of a round: where they pass, the book is open
abbrev pub OpenedFor : List ℤ → List ℕ → ℕ → Room → List ℕ → Result Counts Refusal → Type 0
OpenedFor loaded ends most room index (Ok counts) = Open loaded index counts × (behind_book most ends room ≡ 0)
OpenedFor loaded ends most room index (Err refusal) = (book_refusal loaded orelse behind_book most ends room) ≡ number refusal
