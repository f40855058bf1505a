-- The questions of an import one after the other, and what a refusal or a success says of the reply and of the list.
use Prim.Native.Nat.{ℕ, zero, suc, ◌+◌, ◌-◌, ◌≤◌, ◌<◌}
use mathlib.Core.Path.{◌≡◌, refl, sym, ap, ◌∙◌}
use mathlib.Core.Bool.{true, false}
use mathlib.Core.List.{List, ◌++◌}
use native.Mathlib.Omega.{arith}
use borrow.Author.Tests.{le-leb, lt-leb}
use lib.Dec.{leb}
use lib.IntN.{ℤ, pos}
use lib.ListN.{length, take, drop, get_or-append}
use Rattle.laws.specs.Lists.{concat}
use Rattle.meaning.specs.Questions.{◌unless◌, ◌orelse◌, number}
use Rattle.meaning.specs.Book.{number_at, book_refusal}
use Rattle.meaning.specs.Reply.{refused, done, written_over}
use Rattle.meaning.specs.Revision.{lines_in_use}
use Rattle.meaning.specs.declared.Refusal.{Refusal}
use Rattle.meaning.proofs.Chains.{first_passes, rest_passes, written_refused}
use Rattle.meaning.proofs.Numbered.{number_from, refused_reply}
use Rattle.revising.proofs.Books.{InUse, in_use, six}
use Rattle.revising.proofs.Replies.{not_too_many, refused_in_use}
use Rattle.arpa.specs.File.{is_arpa}
use Rattle.arpa.specs.Import.{imported_lines, longer_book, arpa_refusal, import_refusal, import_arpa, import_arpa_list}
use Rattle.arpa.proofs.Longer.{unseen_of, longer}
use Rattle.longer.specs.declared.Longer.{Longer as Found}
use Rattle.longer.specs.Longer.{texts_refusal, judge_refusal, LongerIs}
use Rattle.importing.specs.Import.{with_model}
use Rattle.importing.proofs.Written.{revised, revised_long, put_room, put_all}

orelse_assoc : (a b c : ℕ) → a orelse (b orelse c) ≡ (a orelse b) orelse c
orelse_assoc zero b c = refl
orelse_assoc (suc a) b c = refl

module _ (text list : List ℕ) (book : List ℤ) (used : ℕ) where
  -- ---- a refusal

  pub import_refused : (q : Refusal) → import_refusal text list book used ≡ number q → (refused (number q) ≡ import_arpa text list book used) × (book ≡ import_arpa_list text list book used)
  unfolding import_arpa import_arpa_list
  import_refused q e = (refused_reply q (import_refusal text list book used) (length (longer_book text list book used)) e, sym (written_refused (import_refusal text list book used) (longer_book text list book used) book (omega (arith, e, number_from q))))

  pub too_many : length book < used → import_refusal text list book used ≡ 7
  unfolding import_refusal
  too_many h = rw (lt-leb used (length book) h)

  pub no_arpa : used ≤ length book → is_arpa text ≡ false → import_refusal text list book used ≡ 23
  unfolding import_refusal arpa_refusal
  no_arpa h f = rw (le-leb used (length book) h, f)

  -- ---- 24 and 25, the questions of both books, and 7

  module _ (h : used ≤ length book) (a : is_arpa text ≡ true) where
    pub asked : import_refusal text list book used ≡ judge_refusal text list (take used book) orelse 7 unless leb (length (longer_book text list book used)) (length book)
    unfolding import_refusal arpa_refusal longer_book
    asked =
        rw (le-leb used (length book) h, a)
        (ap (λ (k : ℕ). texts_refusal text list orelse k) (orelse_assoc (book_refusal (take used book)) (book_refusal (longer_book text list book used)) (7 unless leb (length (longer_book text list book used)) (length book)))
        ∙ orelse_assoc (texts_refusal text list) (book_refusal (take used book) orelse book_refusal (longer_book text list book used)) (7 unless leb (length (longer_book text list book used)) (length book)))

    pub judged_refused : (q : Refusal) → judge_refusal text list (take used book) ≡ number q → import_refusal text list book used ≡ number q
    judged_refused q e = asked ∙ refused_in_use q (judge_refusal text list (take used book)) _ e

    module _ (l : Found) (f : LongerIs text list (take used book) l) where
      pub in_list : InUse book used
      in_list = in_use book used (not_too_many book used h ∙ first_passes (book_refusal (take used book)) _ (rest_passes (texts_refusal text list) _ f.passes))

      -- the numbers then in use
      numbers : longer_book text list book used ≡ revised in_list (unseen_of text list (number_at (take used book) 3)) (pos l.triples) (concat (imported_lines text list))
      unfolding longer_book
      numbers = (longer text list a (lines_in_use book used) in_list.passed).numbers ∙ rw (in_list.back, f.triples_are) refl

      long : length (longer_book text list book used) ≡ used + l.size
      long = ap length numbers ∙ revised_long in_list _ _ (concat (imported_lines text list)) ∙ ap (λ (k : ℕ). used + k) (sym f.size_is)

      pub too_short : length book - used < l.size → import_refusal text list book used ≡ 7
      too_short s = asked ∙ rw (f.passes, lt-leb (length (longer_book text list book used)) (length book) (omega (arith, long))) refl

      module _ (fits : l.size ≤ length book - used) where
        passes : import_refusal text list book used ≡ 0
        passes = asked ∙ rw (f.passes, le-leb (length (longer_book text list book used)) (length book) (omega (arith, long))) refl

        pub import_done : done (used + l.size) ≡ import_arpa text list book used
        unfolding import_arpa
        import_done = rw (passes, long) refl

        pub import_room : 6 ≤ used
        import_room = six in_list

        -- the list, once the lines are put behind the numbers in use, and u and the count
        module _ (part : List ℤ) (p : part ≡ written_over (concat (imported_lines text list)) (take (length book - used) (drop used book))) where
          pub six_room : 6 ≤ length (take used book ++ (part ++ drop (length book - used) (drop used book)))
          six_room = put_room in_list (unseen_of text list (number_at (take used book) 3)) (pos l.triples) (concat (imported_lines text list)) part p (omega (arith, f.size_is))

          same_u : number_at (take used book ++ (part ++ drop (length book - used) (drop used book))) 3 ≡ number_at (take used book) 3
          same_u = get_or-append (take used book) (part ++ drop (length book - used) (drop used book)) (pos 0) 3 (omega (arith, in_list.long, six in_list))

          pub import_list : with_model l (take used book ++ (part ++ drop (length book - used) (drop used book))) ≡ import_arpa_list text list book used
          unfolding with_model import_arpa_list
          import_list =
              rw (same_u, f.unseen_is (number_at (take used book) 3))
              (put_all in_list (unseen_of text list (number_at (take used book) 3)) (pos l.triples) (concat (imported_lines text list)) part p
              ∙ rw (passes, numbers) refl)
