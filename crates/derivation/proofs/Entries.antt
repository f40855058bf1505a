-- An entry's line in the loaded list gives its words and its score, place by place.
use Prim.Native.Nat.{ℕ, ◌+◌, ◌≤◌, ◌<◌}
use native.Mathlib.Omega.{arith}
use mathlib.Core.Path.{◌≡◌, refl, sym, ◌∙◌, ap, subst}
use mathlib.Core.Bool.{true, false≢true}
use mathlib.Core.List.{List}
use lib.IntN.{ℤ, pos, negsuc}
use lib.Signed.{le_z}
use lib.ListN.{length, get_or, take, drop, length-drop, length-map, get_or-map}
use lib.Seq.{get_or-take, get_or-drop, length-take-le}
use Rattle.laws.specs.Integers.{Within, nat_of}
use Rattle.laws.proofs.Tests.{both}
use Rattle.laws.proofs.Linear.{signed}
use Rattle.meaning.specs.Bounds.{word_most, score_most}
use Rattle.meaning.specs.Book.{Entry, number_at, natural_at, is_phrase_word, words_at}
use Rattle.book.specs.Entries.{EntryAt}
use Rattle.derivation.specs.Model.{WordsAt, PhraseOf}

word_pos : (z : ℤ) → is_phrase_word z ≡ true → z ≡ pos (nat_of z)
word_pos (pos n) e = refl
word_pos (negsuc n) e = absurd (false≢true (both (le_z (pos 1) (negsuc n)) (le_z (negsuc n) (pos 65_535)) e).0)

word_most_lem : (z : ℤ) → is_phrase_word z ≡ true → nat_of z ≤ word_most
word_most_lem (pos n) e = let h = (both (le_z (pos 1) (pos n)) (le_z (pos n) (pos 65_535)) e).1 in omega (arith, signed)
word_most_lem (negsuc n) e = omega arith

module _ (loaded : List ℤ) (from many : ℕ) (inside : from + many ≤ length loaded) (each : (j : ℕ) → j < many → is_phrase_word (number_at loaded (from + j)) ≡ true) where
  at : (j : ℕ) → j < many → get_or (words_at loaded from many) j 0 ≡ nat_of (get_or loaded (from + j) (pos 0))
  at j h = get_or-map nat_of (take many (drop from loaded)) j (pos 0) ∙ ap nat_of (get_or-take many (drop from loaded) j (pos 0) h ∙ get_or-drop from loaded j (pos 0))

  -- words that are words stand where they were taken from
  words_stand : 1 ≤ many → many ≤ 8 → WordsAt loaded from many (words_at loaded from many)
  words_stand some few =
      record {
        inside = inside;
        many_are = sym (length-map (take many (drop from loaded)) nat_of ∙ length-take-le many (drop from loaded) (let z = length-drop from loaded in omega arith));
        few = few;
        some = some;
        word_at = λ j h. word_pos (get_or loaded (from + j) (pos 0)) (each j h) ∙ ap pos (sym (at j h));
        word_to = λ j h. rw (at j h) (word_most_lem (get_or loaded (from + j) (pos 0)) (each j h));
      }

module _ {loaded : List ℤ} {at : ℕ} {e : Entry} (h : EntryAt loaded at e) where
  abbrev a : ℕ
  a = natural_at loaded (at + 1)

  abbrev b : ℕ
  b = natural_at loaded (at + 2)

  source_stands : WordsAt loaded (at + 3) a e.source
  source_stands =
      subst (WordsAt loaded (at + 3) a) (sym h.source_is)
      (words_stand loaded (at + 3) a (let i = h.inside in omega arith)
      (λ j l. let z : at + 3 + j ≡ at + (3 + j) = omega arith in rw z (h.words j (omega arith))) h.a_from h.a_to)

  target_stands : WordsAt loaded (at + (3 + a)) b e.target
  target_stands =
      subst (WordsAt loaded (at + (3 + a)) b) (sym h.target_is)
      (words_stand loaded (at + (3 + a)) b (let i = h.inside in omega arith)
      (λ j l. let z : at + (3 + a) + j ≡ at + (3 + (a + j)) = omega arith in rw z (h.words (a + j) (omega arith))) h.b_from h.b_to)

  -- the places that code reads off the line are the entry's
  pub entry_stands : (long count : ℕ) (g : ℤ) → long ≡ a → count ≡ b → g ≡ number_at loaded (at + (3 + long + count))
      → PhraseOf loaded e (record { source = at + 3; long = long; target = at + (3 + long); count = count; g = g })
  entry_stands long count g p q r =
      record {
        source_at = rw p source_stands;
        target_at = rw (p, q) target_stands;
        g_is = r ∙ rw (p, q) (sym h.g_is);
        g_within = subst (Within score_most) (sym h.g_is) h.g_within;
      }
