-- The lines of the n-grams, put one behind the other: those that were put and those that are left are all lines.
use Prim.Native.Nat.{ℕ, ◌+◌, ◌-◌, ◌≤◌}
use mathlib.Core.Path.{◌≡◌, refl, sym, ap, ◌∙◌}
use mathlib.Core.Bool.{Bool, true, ◌&&◌}
use mathlib.Core.List.{List, [], ◌∷◌, ◌++◌, append_assoc, append-nil}
use native.Mathlib.Omega.{arith}
use lib.IntN.{ℤ}
use lib.ListN.{length, take, drop, length-append, length-drop, take-append-drop, drop_of_length-le}
use lib.Seq.{drop-drop, take-append_seam, drop-append-add}
use Rattle.laws.specs.Lists.{all, keep, concat}
use Rattle.laws.proofs.Lists.{part_rest}
use Rattle.laws.proofs.Fill.{over_long}
use Rattle.laws.proofs.Tests.{both, both_of, by_test, clash}
use Rattle.meaning.specs.Book.{is_score, is_weight}
use Rattle.meaning.specs.Reply.{written_over}
use Rattle.arpa.specs.File.{Ngram, is_unknown}
use Rattle.arpa.specs.Import.{is_imported}
use Rattle.ngram_lines.specs.declared.Gram.{Gram}
use Rattle.ngram_lines.specs.declared.Gram.TheVariants.{PassedOver, Unknown, Line}
use Rattle.ngram_lines.specs.Gram.{GramIs}
use Rattle.arpa_model.specs.declared.walk.Cursor.{Cursor}
use Rattle.arpa_model.specs.declared.walk.Met.{Met}
use Rattle.arpa_model.specs.Walk.{ngrams_at, Walking, MetIs}
use Rattle.arpa_model.specs.Model.{are_scores_in, lines_in}
use Rattle.arpa_model.specs.Write.{line_of_gram, FitsAt, PutAt}
use Rattle.arpa_model.proofs.Noting.{gram_fits}

-- ---- one line, as code's `&mut out[n..]` puts it

pub put_at : (out line part : List ℤ) (n : ℕ) → part ≡ written_over line (take (length out - n) (drop n out)) → PutAt out n line (take n out ++ (part ++ drop (length out - n) (drop n out))) (n + length line)
put_at out line part n p =
    let none : drop (length out - n) (drop n out) ≡ [] = drop_of_length-le (drop n out) {i = length out - n} (rw length-drop (omega arith)) in
    record { end_is = refl; list_is = rw (p, part_rest out n, none, append-nil, drop-drop (length line) n out) refl }

pub put_none : (out : List ℤ) (n : ℕ) → PutAt out n [] out n
put_none out n =
    let e : n + 0 ≡ n = omega arith in
    record { end_is = sym e; list_is = rw e (sym (take-append-drop n out)) }

-- a part behind others that were put before it
over_put : (done line out : List ℤ) → take (length done) (written_over done out) ++ (line ++ drop (length done + length line) (written_over done out)) ≡ written_over (done ++ line) out
over_put done line out =
    rw (take-append_seam done (drop (length done) out), drop-append-add done (drop (length done) out) (length line), drop-drop (length line) (length done) out, length-append done line, append_assoc done line (drop (length done + length line) out)) refl

-- ---- the lines of n-grams

scores_first : (g : Ngram) (gs : List Ngram) → are_scores_in (g ∷ gs) ≡ true → (is_imported g ≡ true → is_score g.score && is_weight g.weight ≡ true) × (are_scores_in gs ≡ true)
scores_first g gs h =
    let f : Bool = is_score g.score && is_weight g.weight in
    let u : Bool = is_score g.score in
    let fs : Bool = all (λ g. is_score g.score && is_weight g.weight) (keep is_imported gs) in
    let us : Bool = all (λ g. is_score g.score) (keep is_unknown gs) in
    by_test (is_imported g)
    (λ i. by_test (is_unknown g)
    (λ k. let b = both (f && fs) (u && us) (rw (i, k) at h) in let c = both f fs b.0 in ((λ _. c.0), both_of {a = fs} {b = us} c.1 (both u us b.1).1))
    (λ k. let b = both (f && fs) us (rw (i, k) at h) in let c = both f fs b.0 in ((λ _. c.0), both_of {a = fs} {b = us} c.1 b.1)))
    (λ i. by_test (is_unknown g)
    (λ k. let b = both fs (u && us) (rw (i, k) at h) in ((λ t. clash t i), both_of {a = fs} {b = us} b.0 (both u us b.1).1))
    (λ k. ((λ t. clash t i), rw (i, k) at h)))

-- the first of them, as code reads it, and the others
line_first : (list : List ℕ) (g : Ngram) (gs : List Ngram) (row : List ℤ) (gram : Gram) → are_scores_in (g ∷ gs) ≡ true → GramIs list g row gram → concat (lines_in list (g ∷ gs)) ≡ line_of_gram row gram ++ concat (lines_in list gs)
line_first list g gs row PassedOver h is = rw is.0
line_first list g gs row (Unknown u) h is = rw is.0
line_first list g gs row (Line made) h is = rw (is.line (is.ranged_is ∙ (scores_first g gs h).0 is.imported), is.imported) refl

-- ---- the loop's invariant

pub record Writing (text list : List ℕ) (from₀ : Cursor) (out₀ : List ℤ) (from : Cursor) (n : ℕ) (out : List ℤ) : Type 0 where
  pub walking : Walking text from
  pub scores : are_scores_in (ngrams_at text from) ≡ true
  pub room : length (concat (lines_in list (ngrams_at text from₀))) ≤ length out₀
  pub done : List ℤ
  pub many : n ≡ length done
  pub put : out ≡ written_over done out₀
  pub all_are : done ++ concat (lines_in list (ngrams_at text from)) ≡ concat (lines_in list (ngrams_at text from₀))

pub writing_start : {text : List ℕ} (list : List ℕ) {from : Cursor} (out : List ℤ) → Walking text from → are_scores_in (ngrams_at text from) ≡ true → length (concat (lines_in list (ngrams_at text from))) ≤ length out
    → Writing text list from out from 0 out
writing_start list out w s r = record { walking = w; scores = s; room = r; done = []; many = refl; put = refl; all_are = refl }

module _ {text list : List ℕ} {from₀ : Cursor} {out₀ : List ℤ} {from : Cursor} {n : ℕ} {out : List ℤ} (w : Writing text list from₀ out₀ from n out) where
  -- the list keeps its length
  pub writing_long : length out ≡ length out₀
  writing_long = ap length w.put ∙ over_long w.done out₀ (omega (arith, w.room, ap length w.all_are, length-append w.done (concat (lines_in list (ngrams_at text from)))))

  -- none is left
  pub writing_end : ngrams_at text from ≡ [] → out ≡ written_over (concat (lines_in list (ngrams_at text from₀))) out₀
  writing_end e = w.put ∙ ap (λ (d : List ℤ). written_over d out₀) (sym (append-nil w.done) ∙ rw e at w.all_are)

  module _ (row : List ℤ) (met : Met) (m : MetIs text list from row met) where
    lines_left : concat (lines_in list (ngrams_at text from)) ≡ line_of_gram row met.gram ++ concat (lines_in list (ngrams_at text met.cursor))
    lines_left = ap (λ (gs : List Ngram). concat (lines_in list gs)) m.first ∙ line_first list m.ngram (ngrams_at text met.cursor) row met.gram (rw m.first at w.scores) m.is

    -- there is room for the line
    pub writing_fits : FitsAt out n row met.gram
    writing_fits = record { fits = gram_fits list m.ngram row met.gram m.is; room = omega (arith, w.room, w.many, writing_long, ap length w.all_are, length-append w.done (concat (lines_in list (ngrams_at text from))), ap length lines_left, length-append (line_of_gram row met.gram) (concat (lines_in list (ngrams_at text met.cursor)))) }

    pub writing_next : {out' : List ℤ} {n' : ℕ} → PutAt out n (line_of_gram row met.gram) out' n' → Writing text list from₀ out₀ met.cursor n' out'
    writing_next p = record {
      walking = m.walking;
      scores = (scores_first m.ngram (ngrams_at text met.cursor) (rw m.first at w.scores)).1;
      room = w.room;
      done = w.done ++ line_of_gram row met.gram;
      many = p.end_is ∙ rw length-append (ap (λ (k : ℕ). k + length (line_of_gram row met.gram)) w.many);
      put = p.list_is ∙ rw (w.put, w.many) (over_put w.done (line_of_gram row met.gram) out₀);
      all_are = rw append_assoc (rw lines_left at w.all_are);
    }
