-- The counts of an answer fit a signed number.
use Rattle.std.specs.declared.result.Result.TheVariants.{Ok, Err}
use Rattle.std.specs.declared.result.Result.{Result}
use Rattle.meaning.specs.declared.Refusal.{Refusal}
use Prim.Native.Nat.{ℕ, ◌<◌}
use native.Mathlib.Omega.{arith}
use mathlib.Core.Path.{◌≡◌, refl}
use mathlib.Core.List.{List}
use lib.IntN.{ℤ}
use lib.ListN.{length}
use Rattle.meaning.specs.Reply.{done, Lent, decode_refusal, decode}
use Rattle.meaning.specs.declared.Answer.{Answer}
use Rattle.meaning.proofs.Chains.{done_passes}
use Rattle.meaning.proofs.Lengths.{found_room}
use Rattle.meaning.proofs.Demands.{answered, decode_counts, decode_in_all}
use Rattle.decoder.specs.Decodes.{PlainDecodes}
use Rattle.decoder.proofs.Replies.{plain_decoded, plain_count}
use Rattle.answer.specs.declared.PlainReply.{PlainReply}
use Rattle.lists.specs.Report.{Countable}
use Rattle.round_parts.specs.Told.{AllCountable}

module _ (loaded : List ℤ) (direction : List ℕ) (width : ℤ) (room : ℕ) (words₀ words₁ : List ℕ) (store₀ store₁ : List ℤ) (core : PlainReply)
    (D : PlainDecodes loaded direction width room words₀ words₁ store₀ store₁ core)
    (r : room < 9_223_372_036_854_775_808) (w : length words₀ < 9_223_372_036_854_775_808) (t : length store₀ < 9_223_372_036_854_775_808) where
  abbrev lent : Lent
  lent = record { steps = room; words = length words₀; store = length store₀ }

  passed : (a : Answer) → decode loaded direction width lent ≡ done a → decode_refusal loaded direction width lent ≡ 0
  unfolding decode
  passed a d = done_passes (decode_refusal loaded direction width lent) _ a d

  pub countable : (a : Answer) → core.reply ≡ Ok a → Countable a
  countable a e =
      let d : decode loaded direction width lent ≡ done a = plain_decoded D e in
      let f = answered loaded direction width lent a d in
      let many : a.words < 9_223_372_036_854_775_808 = omega (arith, (decode_counts loaded direction width lent a d).1, (found_room loaded direction width lent (passed a d)).1, w) in
      let n = decode_in_all loaded direction width lent a d in
      record {
        steps = omega (arith, plain_count D e, D.has_room, r);
        words = many;
        states = omega (arith, f.room, f.states_are, t);
        supplied = record { triples = omega (arith, n, many); pairs = omega (arith, n, many); words = omega (arith, n, many); unseen = omega (arith, n, many) };
      }

  pub all_countable : AllCountable core.reply
  all_countable = by core.reply refl
    where
      by : (reply : Result Answer Refusal) → core.reply ≡ reply → AllCountable reply
      by (Ok a) e = countable a e
      by (Err refusal) e = tt
