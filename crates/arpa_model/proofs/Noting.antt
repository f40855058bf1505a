-- The loop over the n-grams: what was known before it is carried on, and no count passes its type.
use Prim.Native.Nat.{ℕ, ◌+◌}
use mathlib.Core.Path.{◌≡◌, refl, ap, ◌∙◌}
use mathlib.Core.List.{List, []}
use native.Mathlib.Omega.{arith}
use lib.IntN.{ℤ}
use lib.ListN.{length, take}
use Rattle.book.specs.declared.survey.Survey.{Survey}
use Rattle.book.specs.Survey.{lines_most, Few}
use Rattle.book.proofs.Counts.{few_line, few_more}
use Rattle.book.proofs.Gathered.{gram_long}
use Rattle.book.specs.Survey.{gram_count}
use Rattle.ngram_lines.specs.declared.Gram.{Gram}
use Rattle.ngram_lines.specs.declared.Gram.TheVariants.{PassedOver, Unknown, Line}
use Rattle.ngram_lines.specs.Gram.{GramIs}
use Rattle.arpa.specs.File.{Ngram}
use Rattle.arpa_model.specs.declared.walk.Cursor.{Cursor}
use Rattle.arpa_model.specs.declared.walk.Met.{Met}
use Rattle.arpa_model.specs.declared.model.Model.{Model}
use Rattle.arpa_model.specs.Walk.{ngrams_at, Walking, MetIs}
use Rattle.arpa_model.specs.Model.{GramFits, with_unknown, begun, NotedAs, Carried, IsRoom, Imports}
use Rattle.arpa_model.proofs.Carrying.{carried_none, carried_gram}

-- the line of an n-gram stands inside the row
pub gram_fits : (list : List ℕ) (g : Ngram) (row : List ℤ) (gram : Gram) → GramIs list g row gram → GramFits row gram
gram_fits list g row PassedOver is = tt
gram_fits list g row (Unknown u) is = tt
gram_fits list g row (Line made) is = is.within

-- a list of records keeps its length
long_noted : (m : Model) (row : List ℤ) (gram : Gram) (m' : Model) (index tally index' tally' : List ℕ) → NotedAs m gram row index tally m' index' tally' → length index' ≡ length index
long_noted m row PassedOver m' index tally index' tally' n = ap length n.index_is
long_noted m row (Unknown u) m' index tally index' tally' n = ap length n.index_is
long_noted m row (Line made) m' index tally index' tally' n = ap length n.index_is ∙ gram_long index (take made.size row) (gram_count tally)

-- no count grows by more than one
few_noted : (m : Model) (row : List ℤ) (gram : Gram) (m' : Model) (index tally index' tally' : List ℕ) (n : ℕ) → NotedAs m gram row index tally m' index' tally' → Few m.survey tally n → Few m'.survey tally' (n + 1)
unfolding with_unknown
few_noted m row PassedOver m' index tally index' tally' n s f = rw (s.model_is, s.tally_is) (few_more f (omega arith))
few_noted m row (Unknown u) m' index tally index' tally' n s f = rw (s.model_is, s.tally_is) (few_more f (omega arith))
few_noted m row (Line made) m' index tally index' tally' n s f = rw (s.model_is, s.tally_is) (few_line m.survey tally (take made.size row) n f)

-- the loop's invariant
pub record Noting (text list : List ℕ) (from₀ : Cursor) (model₀ : Model) (grams₀ tally₀ : List ℕ) (from : Cursor) (model : Model) (grams tally : List ℕ) : Type 0 where
  pub walking : Walking text from
  pub long : length grams ≡ length grams₀
  pub carried : Carried list (ngrams_at text from₀) model₀ grams₀ tally₀ (ngrams_at text from) model grams tally
  pub room : IsRoom text from model.survey tally

pub noting_start : {text : List ℕ} (list : List ℕ) {from : Cursor} (model : Model) (grams : List ℕ) {tally : List ℕ} → Walking text from → IsRoom text from model.survey tally → Noting text list from model grams tally from model grams tally
noting_start {text} list {from} model grams {tally} w r = record { walking = w; long = refl; carried = carried_none list (ngrams_at text from) model grams tally; room = r }

-- none is left
pub noting_end : {text list : List ℕ} {from₀ : Cursor} {model₀ : Model} {grams₀ tally₀ : List ℕ} {from : Cursor} {model : Model} {grams tally : List ℕ} (s : Survey)
    → Noting text list from₀ model₀ grams₀ tally₀ from model grams tally → model₀ ≡ begun s → ngrams_at text from ≡ [] → Imports text list from₀ s grams₀ tally₀ model grams tally
noting_end s n b e = record { carried = rw (b, e) at n.carried }

module _ {text list : List ℕ} {from₀ : Cursor} {model₀ : Model} {grams₀ tally₀ : List ℕ} {from : Cursor} {model : Model} {grams tally : List ℕ}
    (n : Noting text list from₀ model₀ grams₀ tally₀ from model grams tally) (row : List ℤ) (met : Met) (m : MetIs text list from row met) where
  -- a line more is counted
  pub noting_few : Few model.survey tally lines_most
  noting_few = few_more n.room.few (omega (arith, n.room.room))

  pub noting_next : {model' : Model} {grams' tally' : List ℕ} → NotedAs model met.gram row grams tally model' grams' tally' → Noting text list from₀ model₀ grams₀ tally₀ met.cursor model' grams' tally'
  noting_next {model'} {grams'} {tally'} s = record {
    walking = m.walking;
    long = long_noted model row met.gram model' grams tally grams' tally' s ∙ n.long;
    carried = carried_gram (rw m.first at n.carried) row met.gram n.room.few.each_kind m.is s;
    room = record { most = n.room.most + 1; few = few_noted model row met.gram model' grams tally grams' tally' n.room.most s n.room.few; room = omega (arith, n.room.room, ap length m.first) };
  }
