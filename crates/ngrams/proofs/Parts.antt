-- What a writer leaves alone: what is kept twice is kept, and a store behind `to` keeps what stands before it; and a link, as the record that it names.
use Prim.Native.Nat.{ℕ, zero, suc, ◌+◌, ◌≤◌}
use mathlib.Core.Path.{◌≡◌, refl, ap, ◌∙◌}
use mathlib.Core.List.{List}
use native.Mathlib.Omega.{arith}
use Rattle.std.proofs.Common.{Option, Some, None}
use Rattle.laws.specs.Lists.{set_from}
use Rattle.laws.proofs.Fields.{from_long, from_far}
use Rattle.ngrams.specs.Parts.{bucket_count, record_at, record_named, KeptFrom, KeptRecords, KeptBelow}

-- what is stored of a record: 1 + its number, and 0 for none
abbrev pub stored : Option ℕ → ℕ
stored None = 0
stored (Some k) = suc k

pub stored_is : {o : Option ℕ} {n : ℕ} → o ≡ record_named n → stored o ≡ n
stored_is {n} e = ap stored e ∙ by n
  where
    by : (n : ℕ) → stored (record_named n) ≡ n
    by zero = refl
    by (suc k) = refl

-- what stands from the records on
pub kept_records : {xs ys : List ℕ} → KeptFrom bucket_count xs ys → KeptRecords xs ys
kept_records same = record { size = same.size; at = λ k f l. same.at (record_at k + f) (omega arith) }

pub records_all : (xs : List ℕ) → KeptRecords xs xs
records_all xs = record { size = refl; at = λ k f l. refl }

pub records_then : {xs ys zs : List ℕ} → KeptRecords xs ys → KeptRecords ys zs → KeptRecords xs zs
records_then a b = record { size = b.size ∙ a.size; at = λ k f l. b.at k f l ∙ a.at k f l }

pub below_all : (to : ℕ) (xs : List ℕ) → KeptBelow to xs xs
below_all to xs = record { size = refl; at = λ k l. refl }

pub below_then : {to : ℕ} {xs ys zs : List ℕ} → KeptBelow to xs ys → KeptBelow to ys zs → KeptBelow to xs zs
below_then a b = record { size = b.size ∙ a.size; at = λ k m. b.at k m ∙ a.at k m }

pub below_from : {to : ℕ} (xs : List ℕ) (k : ℕ) (vs : List ℕ) → to ≤ k → KeptBelow to xs (set_from xs k vs)
below_from xs k vs l = record { size = from_long xs k vs; at = λ j m. from_far vs xs k j 0 (λ h. absurd (omega arith)) }
