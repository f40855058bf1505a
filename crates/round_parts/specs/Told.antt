-- What is told of a direction.
use Rattle.std.specs.declared.result.Result.TheVariants.{Ok, Err}
use Rattle.std.specs.declared.result.Result.{Result}
use Rattle.meaning.specs.declared.Refusal.{Refusal}
use Rattle.std.specs.Prelude.{Bool, true}
use Rattle.meaning.specs.Questions.{is_of_search}
use Rattle.meaning.specs.Reply.{Reply, refused, done}
use Rattle.meaning.specs.declared.Answer.{Answer}
use Rattle.lists.specs.Report.{Countable}

-- its counts are such that a report can have them
abbrev pub AllCountable : Result Answer Refusal → Type 0
AllCountable (Ok a) = Countable a
AllCountable (Err refusal) = Unit

-- a search was begun: an answer, or one of 13 to 15
abbrev pub is_searched : Reply Answer → Bool
is_searched (done a) = true
is_searched (refused k) = is_of_search k
