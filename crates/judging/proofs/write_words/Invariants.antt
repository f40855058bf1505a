-- The words of one step after another; those that are written stay.
use Rattle.std.proofs.Common.{◌≡◌, ◌*◌, ◌≤◌, length}
use Rattle.meaning.specs.Book.{book_of}
use Rattle.meaning.specs.Derivation.{target_words}
use Rattle.meaning.specs.Reply.{written_over}
use Rattle.records.specs.Plain.{steps_to}
use Rattle.judging.proofs.write_words.Given as goal

abbrev pub invariant-loop-k : goal.invariant-loop-k
invariant-loop-k l = record {
  few : l.count ≤ 8 * l.k;
  long : length l.words ≡ length l.initial.words;
  counted : l.count ≡ length (target_words (book_of l.book) (steps_to l.plain l.k));
  written : l.words ≡ written_over (target_words (book_of l.book) (steps_to l.plain l.k)) l.initial.words;
}
