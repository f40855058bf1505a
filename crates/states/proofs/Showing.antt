-- The code's test of two states is the search's test of their keys, where no position past the last word is covered; and the numbers of a place that shows a state are small.
use mathlib.Core.Path.{◌≡◌, refl, sym, ◌∙◌, ap}
use mathlib.Core.Bool.{Bool, true, false, ◌&&◌, false≢true}
use Prim.Native.Nat.{ℕ, zero, suc, ◌<◌, ◌≤◌, ◌^◌}
use native.Mathlib.Nat.{pow-suc}
use native.Mathlib.Omega.{arith}
use lib.Dec.{eqb}
use lib.Pow.{pow_pos}
use borrow.Author.Tests.{eqb-true, eq-eqb}
use Rattle.laws.specs.Bits.{bits_of}
use Rattle.laws.specs.Lists.{eq_list}
use Rattle.laws.proofs.Bits.{bits_length, bits_inj, bits_zero}
use Rattle.laws.proofs.Lists.{eq_list_is, eq_list_refl, count_le}
use Rattle.laws.proofs.Tests.{same_test}
use Rattle.meaning.specs.State.{Key, start, words_covered, eq_bit, is_equal, key_of, IsStart}
use Rattle.meaning.specs.declared.State.{State}
use Rattle.store.specs.Store.{is_same, Storable}
use Rattle.states.specs.Shows.{Fine}
use Rattle.store.specs.declared.Place.{Place}

bit_is : (a b : Bool) → eq_bit a b ≡ true → a ≡ b
bit_is true true e = refl
bit_is true false e = absurd (false≢true e)
bit_is false true e = absurd (false≢true e)
bit_is false false e = refl

bit_refl : (a : Bool) → eq_bit a a ≡ true
bit_refl true = refl
bit_refl false = refl

-- two numbers of n digits are equal where their digits are
digits_test : (n a b : ℕ) → a < 2 ^ n → b < 2 ^ n → eqb a b ≡ eq_list eq_bit (bits_of n a) (bits_of n b)
digits_test n a b ha hb =
    same_test
    (λ e. let q : a ≡ b = eqb-true a b e in rw q (eq_list_refl eq_bit bit_refl (bits_of n b)))
    (λ e. eq-eqb a b (bits_inj n a b ha hb (eq_list_is eq_bit bit_is (bits_of n a) (bits_of n b) e)))

regroup : (a b c d : Bool) → a && (b && (c && d)) ≡ ((a && b) && c) && d
regroup true true c d = refl
regroup true false c d = refl
regroup false b c d = refl

pub same_place : (n : ℕ) (a b : State) → Fine n a → Fine n b → is_same a b ≡ is_equal (key_of n a) (key_of n b)
unfolding is_same is_equal key_of
same_place n a b fa fb =
    rw (digits_test n a.covered b.covered fa.covered_in fb.covered_in)
    (regroup (eqb a.word1 b.word1) (eqb a.word2 b.word2) (eq_list eq_bit (bits_of n a.covered) (bits_of n b.covered)) (eqb a.r b.r))

-- ---- sizes
pub size_small : (n : ℕ) (x : State) → words_covered (key_of n x) ≤ n
unfolding words_covered key_of
size_small n x = omega (arith, count_le (λ bit. bit) (bits_of n x.covered), bits_length n x.covered)

pub storable : (n : ℕ) (x : Place) → x.size ≡ words_covered (key_of n x.state) → Fine n x.state → x.parent < 2 ^ 63 → x.step < 2 ^ 63 → Storable x
storable n x e f p o = record { size_fits = omega (arith, size_small n x.state, f.few); parent_fits = p; step_fits = o }

-- ---- the start state: its number of covered positions has no digit 1
below_power : (c : ℕ) → c < 2 ^ c
below_power zero = omega arith
below_power (suc c) = omega (arith, pow-suc 2 c, below_power c)

pub start_covered : (s : State) → IsStart s → s.covered ≡ 0
unfolding key_of start
start_covered s b =
    bits_inj s.covered s.covered 0 (below_power s.covered) (pow_pos s.covered)
    (ap (λ (k : Key). k.covered) (b.key_is s.covered) ∙ sym (bits_zero s.covered))
