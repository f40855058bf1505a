-- A survey of lines that are not all whole is refusal 2; of whole lines, questions 3 to 6, 21 and 20 are asked.
use Rattle.book.proofs.Counts.{broken_refusal}
use Rattle.loading.proofs.load.settle.Goals as goal

pub returns-in_default : goal.returns-in_default
returns-in_default c = λ form lines index₀ w counts. broken_refusal form lines (rw c.in_default.is at w)
