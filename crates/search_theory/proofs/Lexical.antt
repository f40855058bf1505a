-- `better` by the score, and among equal scores by the steps: it has the laws that are asked, and there is one best sequence, which is found.
use Prim.Native.Nat.{suc, ◌+◌, ◌≤◌}
use mathlib.Core.Path.{◌≡◌, refl, sym, ◌∙◌, ap, ap₂, subst}
use mathlib.Core.Bool.{Bool, true, false, true≢false, false≢true}
use mathlib.Core.Logic.{◌⊎◌, inl, inr}
use mathlib.Core.List.{List, [], ◌∷◌, ◌++◌}
use mathlib.Core.Option.{some}
use native.Mathlib.Omega.{arith}
use lib.IntN.{ℤ, ◌+ℤ◌}
use lib.ListN.{length}
use lib.Signed.{lt_z, ◌≤ℤ◌}
use Rattle.laws.proofs.Order.{no_<}
use Rattle.laws.proofs.Linear.{signed}
use Rattle.laws.proofs.Orders.{Weak, weak_irrefl, more, more_weak, lt_z_add, lex, lex_both, lex_not, lex_tie, lex_rest, lex_asym, lex_ntrans}
use Rattle.laws.proofs.Tests.{by_test}
use Rattle.search_theory.specs.Search.{Hypothesis, Problem, St, extend, closed, best}
use Rattle.search_theory.specs.Orders.{before, ahead}
use Rattle.search_theory.specs.Statements.{after, total, Allowed, of, Legal, Steady, Ranked, Unpruned}
use Rattle.search_theory.proofs.Sound.{after_append, allowed_rest}
use Rattle.search_theory.proofs.Sets.{longer}
use Rattle.search_theory.proofs.Optimal.{optimal}

-- ---- the order of lists of steps
module _ {Step : Type 0} (less : Step → Step → Bool) (W : Weak less) where
  -- not both come first
  pub before_asym : (xs ys : List Step) → before less xs ys ≡ true → before less ys xs ≡ false
  before_asym [] [] e = refl
  before_asym [] (y ∷ ys) e = refl
  before_asym (x ∷ xs) [] e = absurd (false≢true e)
  before_asym (x ∷ xs) (y ∷ ys) e = lex_asym less W x y (before less xs ys) (before less ys xs) (before_asym xs ys) e

  -- "does not come before" is transitive
  pub before_ntrans : (xs ys zs : List Step) → before less xs ys ≡ false → before less ys zs ≡ false → before less xs zs ≡ false
  before_ntrans [] [] zs e f = f
  before_ntrans [] (y ∷ ys) zs e f = absurd (true≢false e)
  before_ntrans (x ∷ xs) ys [] e f = refl
  before_ntrans (x ∷ xs) [] (z ∷ zs) e f = absurd (true≢false f)
  before_ntrans (x ∷ xs) (y ∷ ys) (z ∷ zs) e f =
      lex_ntrans less W x y z (before less xs ys) (before less ys zs) (before less xs zs) (before_ntrans xs ys zs) e f

  module _ (tot : (x y : Step) → less x y ≡ false → less y x ≡ false → x ≡ y) where
    -- one more step at both ends, where the second list does not begin the first
    before_snoc : (p : Step) (xs ys : List Step)
        → ((z : Step) (zs : List Step) → xs ≡ ys ++ (z ∷ zs) → ⊥) → before less xs ys ≡ false → before less (xs ++ (p ∷ [])) (ys ++ (p ∷ [])) ≡ false
    before_snoc p [] [] part e = rw (weak_irrefl W p)
    before_snoc p [] (y ∷ ys) part e = absurd (true≢false e)
    before_snoc p (x ∷ xs) [] part e = absurd (part x xs refl)
    before_snoc p (x ∷ xs) (y ∷ ys) part e =
        lex_rest (less x y) (less y x) (before less xs ys) (before less (xs ++ (p ∷ [])) (ys ++ (p ∷ [])))
        (λ f g h. before_snoc p xs ys (λ z zs q. part z zs (ap₂ {C = List Step} ◌∷◌ (tot x y f g) q)) h) e

    -- where neither comes first they are the same
    pub before_total : (xs ys : List Step) → before less xs ys ≡ false → before less ys xs ≡ false → xs ≡ ys
    before_total [] [] e f = refl
    before_total [] (y ∷ ys) e f = absurd (true≢false e)
    before_total (x ∷ xs) [] e f = absurd (true≢false f)
    before_total (x ∷ xs) (y ∷ ys) e f =
        let r = lex_both (less x y) (less y x) (before less xs ys) (before less ys xs) e f in
        ap₂ {C = List Step} ◌∷◌ (tot x y r.0 r.1) (before_total xs ys r.2 r.3)

-- ---- the order of states
module _ {Key Step : Type 0} (less : Step → Step → Bool) (a b : Hypothesis Key Step) where
  -- a state that is not ahead has no greater score
  pub no_higher : ahead less a b ≡ false → a.score ≤ℤ b.score
  no_higher e = no_< b.score a.score (lex_not (lt_z b.score a.score) (lt_z a.score b.score) (before less a.steps b.steps) e)

  -- and where the scores are equal its steps do not come before
  pub no_earlier : a.score ≡ b.score → ahead less a b ≡ false → before less a.steps b.steps ≡ false
  no_earlier s e =
      let c : lt_z b.score a.score ≡ false = omega (arith, signed) in
      let d : lt_z a.score b.score ≡ false = omega (arith, signed) in
      sym (lex_tie (lt_z b.score a.score) (lt_z a.score b.score) (before less a.steps b.steps) c d) ∙ e

module _ (P : Problem) (S : Steady P) (less : P.Step → P.Step → Bool) (W : Weak less)
    (tot : (x y : P.Step) → less x y ≡ false → less y x ≡ false → x ≡ y)
    (is : (a b : St P) → P.better a b ≡ ahead less a b) where
  open P use {Key, Step, start, gain, size, n, close, better}

  -- of two legal states with one key neither's steps begin the other's
  no_part : (a b : St P) → Legal P a → Legal P b → a.key ≡ b.key → (z : Step) (zs : List Step) → a.steps ≡ b.steps ++ (z ∷ zs) → ⊥
  unfolding after extend
  no_part a b g h k z zs e =
      let al : Allowed P b.key (z ∷ zs) = subst (λ x. Allowed P x (z ∷ zs)) (sym h.key_is) (allowed_rest P start b.steps (z ∷ zs) (subst (Allowed P start) e g.allowed)) in
      let up : suc (length zs) + size b.key ≤ size (after P b.key (z ∷ zs)) = longer P S (z ∷ zs) b h al in
      let to : after P b.key (z ∷ zs) ≡ b.key =
      ap (λ x. after P x (z ∷ zs)) h.key_is ∙ sym (after_append P start b.steps (z ∷ zs)) ∙ ap (after P start) (sym e) ∙ sym g.key_is ∙ k in
      let same_size : size (after P b.key (z ∷ zs)) ≡ size b.key = ap size to in
      omega arith

  -- two states with one key after the same gain, their steps now compared by r
  after_gain : (g : Key → ℤ) (r : Bool) (a b : St P) → a.key ≡ b.key → (before less a.steps b.steps ≡ false → r ≡ false) → better a b ≡ false
      → lex (lt_z (b.score +ℤ g b.key) (a.score +ℤ g a.key)) (lt_z (a.score +ℤ g a.key) (b.score +ℤ g b.key)) r ≡ false
  after_gain g r a b k f e =
      ap (λ x. lex (lt_z (b.score +ℤ g x) (a.score +ℤ g a.key)) (lt_z (a.score +ℤ g a.key) (b.score +ℤ g x)) r) (sym k)
      ∙ ap₂ (λ c d. lex c d r) (lt_z_add (g a.key) b.score a.score) (lt_z_add (g a.key) a.score b.score)
      ∙ lex_rest (lt_z b.score a.score) (lt_z a.score b.score) (before less a.steps b.steps) r (λ _ _. f) (sym (is a b) ∙ e)

  -- the laws
  pub ranked : Ranked P
  unfolding extend closed more
  ranked =
      record {
        asym = λ a b e. is b a ∙ lex_asym more more_weak a.score b.score (before less a.steps b.steps) (before less b.steps a.steps) (before_asym less W a.steps b.steps) (sym (is a b) ∙ e);
        ntrans = λ a b c e f.
            is a c ∙ lex_ntrans more more_weak a.score b.score c.score (before less a.steps b.steps) (before less b.steps c.steps) (before less a.steps c.steps)
            (before_ntrans less W a.steps b.steps c.steps) (sym (is a b) ∙ e) (sym (is b c) ∙ f);
        mono = λ a b g h k p o y e.
            is (extend P a p) (extend P b p)
            ∙ after_gain (λ x. gain x p) (before less (a.steps ++ (p ∷ [])) (b.steps ++ (p ∷ []))) a b k (before_snoc less W tot p a.steps b.steps (no_part a b g h k)) e;
        mono_close = λ a b _ _ k e. is (closed P a) (closed P b) ∙ after_gain close (before less a.steps b.steps) a b k (λ s. s) e;
      }

  -- the answer's steps are the sequence, or the answer comes before it: a greater score, or the same and steps that come first
  pub unique : Unpruned P → (t : St P) → best P ≡ some t → (ys : List Step) → Allowed P start ys → size (after P start ys) ≡ n
      → (t.steps ≡ ys) ⊎ (ahead less t (closed P (of P ys)) ≡ true)
  unfolding of closed
  unique U t e ys a z = by_test (ahead less t u) inr (λ h. inl (before_total less W tot t.steps ys (parts h).2 (parts h).3))
    where
      u : St P
      u = closed P (of P ys)

      parts : ahead less t u ≡ false → (lt_z u.score t.score ≡ false) × (lt_z t.score u.score ≡ false) × (before less t.steps ys ≡ false) × (before less ys t.steps ≡ false)
      parts h = lex_both (lt_z u.score t.score) (lt_z t.score u.score) (before less t.steps ys) (before less ys t.steps) h (sym (is u t) ∙ optimal P S ranked U t e ys a z)

  -- no allowed sequence to the last set has a higher score than the answer ..
  pub highest_score : Unpruned P → (t : St P) → best P ≡ some t → (ys : List Step) → Allowed P start ys → size (after P start ys) ≡ n
      → (total P start ys +ℤ close (after P start ys)) ≤ℤ t.score
  unfolding of closed
  highest_score U t e ys a z = no_higher less (closed P (of P ys)) t (sym (is (closed P (of P ys)) t) ∙ optimal P S ranked U t e ys a z)

  -- .. and none of its score comes before it
  pub none_earlier : Unpruned P → (t : St P) → best P ≡ some t → (ys : List Step) → Allowed P start ys → size (after P start ys) ≡ n
      → total P start ys +ℤ close (after P start ys) ≡ t.score → before less ys t.steps ≡ false
  unfolding of closed
  none_earlier U t e ys a z s = no_earlier less (closed P (of P ys)) t s (sym (is (closed P (of P ys)) t) ∙ optimal P S ranked U t e ys a z)
