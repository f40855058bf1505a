-- The first records of an array of them are lent, and come back.
use mathlib.Core.Path.{◌≡◌, refl, sym, subst, ◌∙◌}
use Prim.Native.Nat.{ℕ, ◌≤◌}
use mathlib.Core.List.{[], ◌∷◌, List, map, ◌++◌}
use lib.Dec.{lit<}
use lib.ListN.{length, take, drop as drop-list}
use seplogic.Ra.Ura.{Ura}
use base.Fraction.{full_share}
use mir.Syntax.{named}
use mir.Val.{Val}
use base.Logic.{ent, ex, guard, sep}
use base.Fml.{Lft, GName, Fml, fat, flent}
use types.Logic.{Logic, sem}
use types.Kit.{‵, some, later, ◌⊛◌, ◌$◌, ◌∵◌, !, qed, move, drop, use1, use2, split, pick, await, updating, now as at_once, rewrite, fsplit, fjoin, fpick, feq_i, feq_l, show, check, done}
use types.SemTy.{cells, Arr}
use denote.Shadow.{shadow}
use denote.Laws.{Is, shows}
use denote.Memory.{cell_at, part_at, mem, part_of}
use denote.Array.{Array, array_val, each}
use denote.ArrayMemory.{Array-whole}
use denote.Ref.{MutBor}
use denote.Slice.{slice_val, MutSlice, Room}
use denote.Lend.{Held, lends_slice}
use denote.Index.{row, whole_out}
use denote.Steps.{peeks}
use borrow.Table.Elements.{at as at_e, join_app, same_len}
use borrow.Rule.Array.Share.{Room-take}
use Rattle.meaning.specs.declared.Step.{Step}
use Rattle.records.proofs.Prefix.{prefix_length, array_ty, front, rest}
use Rattle.meaning.specs.contracts.Step as T

room_all : Room T.the_row 1100
room_all = (lit< tt, lit< tt)

-- the elements of an array as the field of a struct has them
pub as_field : (ts : List Step) (us : List Val) → shadow (each Step (T.the_row).own_val ts us) → shadow (each (T.the_field).row.Denot (T.the_field).row.own_val (map (T.the_field).into ts) us)
as_field [] [] p = tt
as_field [] (u ∷ us) p = absurd p
as_field (t ∷ ts) [] p = absurd p
as_field (t ∷ ts) (u ∷ us) p = (p.0, as_field ts us p.1)

-- the array lies at l; its first k records are lent
module _ {M : Type 1} {𝓤 : Ura M} (𝓛 : Logic 𝓤) (l : ℕ) (ts : List Step) (k : ℕ) where
  -- and back: the records that came back and the others in memory are the array's cell, at some machine value
  open 𝓛 use {H, A}

  pub together : (zs : List Step) → length ts ≡ 1100 → ent 𝓤 (sep 𝓤 (sem 𝓛 ((Arr (mem T.the_row) (length (take k ts))).own_at zs l 0)) (sem 𝓛 (rest l ts k)))
      (ex 𝓤 (λ (v : Val). guard 𝓤 (Is (Array T.the_row 1100) (zs ++ drop-list k ts) (v ∷ [])) (H.at full_share (array_ty 1100) l 0 v)))
  unfolding part_of
  together zs len =
      qed 𝓛 (‵ ((Arr (mem T.the_row) (length (take k ts))).own_at zs l 0) ∷ ‵ (rest l ts k) ∷ []) ∵ fsplit ! $ feq_l ! (λ e.
      rewrite ! 1 (λ (m : ℕ). ‵ (cells (mem T.the_row) (drop-list k ts) l (at_e 0 (mem T.the_row).size m))) (sym e) refl $
      use2 𝓛 (‵ (cells (mem T.the_row) (zs ++ drop-list k ts) l 0)) (join_app 𝓛 (mem T.the_row) zs (drop-list k ts) l 0) $
      use1 𝓛 (‵ (row T.the_row full_share (zs ++ drop-list k ts) l 0)) (whole_out 𝓛 T.the_row (zs ++ drop-list k ts) l 0) $ feq_i ! ℕ (length (zs ++ drop-list k ts)) 1100 (same_len k ts zs e ∙ len) $ fjoin ! $
      use1 𝓛 (‵ (part_at (Array T.the_row 1100) full_share (zs ++ drop-list k ts) l 0)) (Array-whole 𝓛 T.the_row full_share 1100 (zs ++ drop-list k ts) l 0) $ fpick ! (λ vs. fsplit ! $ move ! (1 ∷ []) $
      peeks ! (Array T.the_row 1100) (Is (Array T.the_row 1100)) (shows 𝓛 (Array T.the_row 1100)) (zs ++ drop-list k ts) vs (λ is. drop ! $ rewrite ! 0 (λ (ws : List Val). ‵ (cell_at full_share (array_ty 1100 ∷ []) ws l 0)) is.1.0.0 refl $
      use1 𝓛 (‵ (fat full_share (array_ty 1100) l 0 (array_val is.0))) (𝓛.laws.raw_at full_share (array_ty 1100) l 0 (array_val is.0)) $
      show ! (λ (v : Val). guard 𝓤 (Is (Array T.the_row 1100) (zs ++ drop-list k ts) (v ∷ [])) (H.at full_share (array_ty 1100) l 0 v)) (array_val is.0) $ check ! (subst (Is (Array T.the_row 1100) (zs ++ drop-list k ts)) is.1.0.0 is) $ done !)))

  module _ (κ : Lft) where
    abbrev pub x : GName → MutBor (List Step)
    x γ = record { ref_ptr = (l, 0); ghost_name = γ; now = take k ts }

    abbrev pub Oₗ : GName → Fml
    Oₗ γ = (MutSlice (named 2) κ T.the_row).own_val (x γ) (slice_val (l, 0) k ∷ [])

    -- what the lender waits for
    abbrev pub owed : GName → Fml
    owed γ = Held T.the_row (length (take k ts)) l 0 γ

    pub lends : k ≤ 1100 → length ts ≡ 1100 → ent 𝓤 (sem 𝓛 (front l ts k)) (H.⇛ (ex 𝓤 (λ (γ : GName). sep 𝓤 (sem 𝓛 (Oₗ γ)) (A.lent κ (owed γ)))))
    lends few len =
        qed 𝓛 (‵ (front l ts k) ∷ []) ∵ updating ! $
        use1 𝓛 (later (some (λ (γ : GName). ‵ ((MutSlice (named 2) κ T.the_row).own_val (x γ) (slice_val (l, 0) (length (take k ts)) ∷ [])) ⊛ ‵ (flent κ (owed γ)))))
        (lends_slice 𝓛 T.the_row (named 2) κ (take k ts) l 0 (Room-take T.the_row 1100 k ts len room_all)) $ await ! tt $ pick ! (λ γ. split ! $
        rewrite ! 0 (λ (m : ℕ). ‵ ((MutSlice (named 2) κ T.the_row).own_val (x γ) (slice_val (l, 0) m ∷ []))) (prefix_length 1100 k ts few len) refl $ at_once ! $
        show ! (λ (γ' : GName). sep 𝓤 (sem 𝓛 (Oₗ γ')) (A.lent κ (owed γ'))) γ $ done !)
