-- `direction::check_direction` meets its contract: its tests are questions 9 and 10, in that order.
use mathlib.Core.Path.{◌≡◌, sym, ap, ◌∙◌}
use mathlib.Core.Bool.{true}
use mathlib.Core.List.{map}
use lib.IntN.{pos}
use lib.ListN.{length, length-map}
use Rattle.meaning.specs.Questions.{within}
use Rattle.meaning.specs.Direction.{direction_refusal}
use Rattle.meaning.proofs.Chains.{reply_refused, reply_done}
use Rattle.direction.proofs.Answers.{no_count, no_words, in_range}
use Rattle.direction.proofs.check_direction.Goals as goal
use Rattle.direction.proofs.check_direction.Goals.{Else-not-is_count}

-- question 9 passed
counted : (c : Else-not-is_count) → within 1 32 (length (map pos c.args.direction.now)) ≡ true
counted c = ap (within 1 32) (length-map c.args.direction.now pos) ∙ sym c.is_count.ensures ∙ c.if-not-is_count.false

pub returns-then-not-is_count : goal.returns-then-not-is_count
unfolding direction_refusal
returns-then-not-is_count c =
    let d = c.args.direction.now in
    let e = sym c.is_count.ensures ∙ c.if-not-is_count.true in
    sym (reply_refused (direction_refusal d) 8 tt (no_count (map pos d) (ap (within 1 32) (length-map d pos) ∙ e)))

pub returns-then-not-all_words : goal.returns-then-not-all_words
unfolding direction_refusal
returns-then-not-all_words c =
    let d = c.args.direction.now in
    sym (reply_refused (direction_refusal d) 9 tt (no_words (map pos d) (counted (goal.at.returns-then-not-all_words c).Else-not-is_count) (sym c.all_words.ensures ∙ c.if-not-all_words.true)))

pub returns-else-not-all_words : goal.returns-else-not-all_words
unfolding direction_refusal
returns-else-not-all_words c =
    let d = c.args.direction.now in
    sym (reply_done (direction_refusal d) tt (in_range (map pos d) (counted (goal.at.returns-else-not-all_words c).Else-not-is_count) (sym c.all_words.ensures ∙ c.if-not-all_words.false)))
