-- How long what is printed may be, so that a caller can show that there is room for it.
use Prim.Native.Nat.{ℕ, suc, ◌+◌, ◌*◌, ◌^◌, ◌≤◌, ◌<◌}
use mathlib.Core.Path.{◌≡◌, refl, sym, ap, subst, ◌∙◌}
use mathlib.Core.List.{List, [], ◌∷◌, ◌++◌, map, Memᴰ, map-map}
use native.Mathlib.Nat.{mul-suc}
use native.Mathlib.Omega.{arith}
use lib.IntN.{ℤ, pos, negsuc}
use lib.ListN.{length, get_or, length-append}
use Rattle.laws.specs.Integers.{Within}
use Rattle.laws.specs.Lists.{concat}
use Rattle.laws.proofs.Lists.{mem_get_d}
use Rattle.meaning.specs.Questions.{number}
use Rattle.meaning.specs.Bounds.{word_span}
use Rattle.meaning.specs.Derivation.{in_all}
use Rattle.meaning.specs.Render.{decimal, printed_line, printed_step, printed_refusal, printed_answer}
use Rattle.meaning.specs.Reply.{counts_of}
use Rattle.meaning.specs.State.{score_bound}
use Rattle.meaning.specs.declared.Answer.{Answer}
use Rattle.meaning.specs.declared.Refusal.{Refusal}
use Rattle.meaning.specs.declared.Step.{Step}
use Rattle.meaning.proofs.Numbered.{number_to}
use Rattle.records.specs.Plain.{step_in, steps_of}
use Rattle.records.proofs.Laws.{count_steps, step_at}
use Rattle.printing.specs.Lines.{plain_of}
use Rattle.decimals.specs.Put.{field}
use Rattle.decimals.proofs.Digits.{at_most, negative}
use Rattle.printing.proofs.Lines.{line_long}

-- ---- numbers

pub two_digits : (n : ℕ) → n < 100 → length (decimal (pos n)) ≤ 2
two_digits n h = at_most 1 n h

pub five_digits : (n : ℕ) → n < word_span → length (decimal (pos n)) ≤ 5
five_digits n h = at_most 4 n (omega arith)

pub twenty_digits : (n : ℕ) → n < 2 ^ 64 → length (decimal (pos n)) ≤ 20
twenty_digits n h = at_most 19 n (omega arith)

-- a score: nine digits and a minus
pub score_short : (z : ℤ) → Within score_bound z → length (decimal z) ≤ 10
score_short (pos n) h = omega (arith, at_most 8 n (omega arith))
score_short (negsuc n) h = omega (arith, ap length (negative n), at_most 8 (suc n) (omega arith))

-- ---- lines

-- a line of one number, of two, three, four and eight
line_1_long : (l : ℕ) (a : ℤ) → length (printed_line l (a ∷ [])) ≡ 3 + length (decimal a)
line_1_long l a = line_long l (a ∷ []) ∙ simp length-append (omega arith)

pub line_2_long : (l : ℕ) (a b : ℤ) → length (printed_line l (a ∷ b ∷ [])) ≡ 4 + length (decimal a) + length (decimal b)
line_2_long l a b = line_long l (a ∷ b ∷ []) ∙ simp length-append (omega arith)

pub line_3_long : (l : ℕ) (a b c : ℤ) → length (printed_line l (a ∷ b ∷ c ∷ [])) ≡ 5 + length (decimal a) + length (decimal b) + length (decimal c)
line_3_long l a b c = line_long l (a ∷ b ∷ c ∷ []) ∙ simp length-append (omega arith)

pub line_4_long : (l : ℕ) (a b c d : ℤ) → length (printed_line l (a ∷ b ∷ c ∷ d ∷ [])) ≡ 6 + length (decimal a) + length (decimal b) + length (decimal c) + length (decimal d)
line_4_long l a b c d = line_long l (a ∷ b ∷ c ∷ d ∷ []) ∙ simp length-append (omega arith)

line_8_long : (l : ℕ) (a b c d e f g h : ℤ) → length (printed_line l (a ∷ b ∷ c ∷ d ∷ e ∷ f ∷ g ∷ h ∷ []))
    ≡ 10 + length (decimal a) + length (decimal b) + length (decimal c) + length (decimal d) + length (decimal e) + length (decimal f) + length (decimal g) + length (decimal h)
line_8_long l a b c d e f g h = line_long l (a ∷ b ∷ c ∷ d ∷ e ∷ f ∷ g ∷ h ∷ []) ∙ simp length-append (omega arith)

-- at most 99
pub refusal_short : (refusal : Refusal) → length (printed_refusal (number refusal)) ≤ 5
refusal_short refusal = omega (arith, line_1_long 82 (pos (number refusal)), two_digits (number refusal) (omega (arith, number_to refusal)))

-- a step of 16-bit numbers
pub record Small (step : Step) : Type 0 where
  pub first : step.first < word_span
  pub last : step.last < word_span
  pub entry : step.entry < word_span

pub step_short : (step : Step) → Small step → length (printed_step step) ≤ 20
step_short step h =
    omega
    (arith, line_3_long 83 (pos step.first) (pos step.last) (pos step.entry), five_digits step.first h.first, five_digits step.last h.last, five_digits step.entry h.entry)

-- as many as there are elements, each at most `most`
pub each_short : {A : Type 0} (f : A → List ℕ) (most : ℕ) (xs : List A) → ((x : A) → Memᴰ x xs → length (f x) ≤ most) → length (concat (map f xs)) ≤ most * length xs
each_short f most [] h = omega arith
each_short f most (x ∷ xs) h =
    omega
    (arith, length-append (f x) (concat (map f xs)), mul-suc most (length xs), h x (Memᴰ.head refl), each_short f most xs (λ y m. h y (Memᴰ.tail m)))

pub steps_short : (steps : List Step) → ((s : Step) → Memᴰ s steps → Small s) → length (concat (map printed_step steps)) ≤ 20 * length steps
steps_short steps h = each_short printed_step 20 steps (λ s m. step_short s (h s m))

pub words_short : (words : List ℕ) → ((w : ℕ) → Memᴰ w words → w < word_span) → length (printed_line 87 (map pos words)) ≤ 2 + 6 * length words
words_short words h =
    omega (arith, line_long 87 (map pos words), ap (λ (l : List (List ℕ)). length (concat l)) (map-map field pos words), each_short (λ n. field (pos n)) 6 words (λ w m. omega (arith, five_digits w (h w m))))

-- ---- an answer: 32 steps of 20 bytes, 256 words of 6, and the line of its numbers

pub answer_short : (a : Answer) (steps : List Step) (words : List ℕ) → Within score_bound a.score → a.steps ≤ 32 → a.words ≤ 256 → a.states < 2 ^ 64 → in_all a.supplied ≡ a.words
    → length steps ≤ 32 → ((s : Step) → Memᴰ s steps → Small s) → length words ≤ 256 → ((w : ℕ) → Memᴰ w words → w < word_span)
    → length (printed_answer a steps words) ≤ 4_096
unfolding printed_answer
answer_short a steps words score step_count word_count states in_all_lem few small short fit =
    let s = a.supplied in
    let counts = printed_line 65 (counts_of a) in
    let lines = concat (map printed_step steps) in
    omega
    (arith, length-append (counts ++ lines) (printed_line 87 (map pos words)), length-append counts lines, line_8_long 65 a.score (pos a.steps) (pos a.words) (pos a.states) (pos s.triples) (pos s.pairs) (pos s.words) (pos s.unseen), score_short a.score score, two_digits a.steps (omega arith), at_most 2 a.words (omega arith), twenty_digits a.states states, at_most 2 s.triples (omega (arith, in_all_lem)), at_most 2 s.pairs (omega (arith, in_all_lem)), at_most 2 s.words (omega (arith, in_all_lem)), at_most 2 s.unseen (omega (arith, in_all_lem)), steps_short steps small, words_short words fit)

-- steps that stand as plain numbers are of 16-bit numbers where the numbers are
pub steps_small : (numbers : List ℕ) (count : ℕ) → ((i : ℕ) → get_or numbers i 0 < word_span) → (s : Step) → Memᴰ s (steps_of (plain_of numbers count)) → Small s
steps_small numbers count h s m =
    let p = plain_of numbers count in
    let r = mem_get_d (steps_of p) (step_in p 0) m in
    let l : r.0 < count = rw (count_steps p count) at r.1 in
    subst Small (sym (step_at p count r.0 (step_in p 0) l) ∙ r.2) (record { first = h (r.0 * 3); last = h (r.0 * 3 + 1); entry = h (r.0 * 3 + 2) })
