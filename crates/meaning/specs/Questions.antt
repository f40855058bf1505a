-- How document 01 asks its questions, and the number of each refusal.
use Rattle.std.specs.Prelude.{ℕ, zero, suc, Bool, true, false, ◌&&◌, leb, ℤ}
use Rattle.std.specs.Int.Signed.{le_z}
use Rattle.meaning.specs.declared.Refusal.{Refusal}
use Rattle.meaning.specs.declared.Refusal.TheVariants.{BookText, LineFields, BLine, NumberRange, LineCount, RepeatedTriple, ListTooShort, DirectionText, WordCount, WordRange, Width, StepsOrWordsTooShort, StoreTooSmall, NoDerivation, LastSetEmpty, DoesNotFit, CoveredTwice, JumpTooLong, Uncovered, RepeatedShorter, StoredCounts, AbsentEntry, ArpaText, UnlistedWord, ValueRange, RoundEnds}

-- "No: k": the refusal k where the test fails, 0 (no refusal) where it passes
infix 25 ◌unless◌
abbrev pub ◌unless◌ : ℕ → Bool → ℕ
k unless true = 0
k unless false = k

-- "Each is asked of the whole input before the next": the first refusal of two questions
infixr 20 ◌orelse◌
abbrev pub ◌orelse◌ : ℕ → ℕ → ℕ
zero orelse m = m
suc k orelse m = suc k

-- "low to high"
abbrev pub within : ℕ → ℕ → ℕ → Bool
within low high n = leb low n && leb n high

abbrev pub withinℤ : ℤ → ℤ → ℤ → Bool
withinℤ low high z = le_z low z && le_z z high

-- the questions that a search answers, 13 to 15
abbrev pub is_of_search : ℕ → Bool
is_of_search k = within 13 15 k

-- the questions of proposed steps, 16 to 19
abbrev pub is_of_steps : ℕ → Bool
is_of_steps k = within 16 19 k

-- the papers' number of each refusal
abbrev pub number : Refusal → ℕ
number BookText = 1
number LineFields = 2
number BLine = 3
number NumberRange = 4
number LineCount = 5
number RepeatedTriple = 6
number ListTooShort = 7
number DirectionText = 8
number WordCount = 9
number WordRange = 10
number Width = 11
number StepsOrWordsTooShort = 12
number StoreTooSmall = 13
number NoDerivation = 14
number LastSetEmpty = 15
number DoesNotFit = 16
number CoveredTwice = 17
number JumpTooLong = 18
number Uncovered = 19
number RepeatedShorter = 20
number StoredCounts = 21
number AbsentEntry = 22
number ArpaText = 23
number UnlistedWord = 24
number ValueRange = 25
number RoundEnds = 26
