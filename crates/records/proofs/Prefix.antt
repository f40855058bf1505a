-- A local array of step records, cut in two in memory: its first records can be lent while the others stay.
use mathlib.Core.Path.{◌≡◌, refl, sym, subst}
use Prim.Native.Nat.{ℕ, ◌≤◌}
use mathlib.Core.List.{[], ◌∷◌, List, map}
use lib.ListN.{length, take, drop as drop-list, take-append-drop}
use seplogic.Ra.Ura.{Ura}
use base.Fraction.{full_share}
use mir.Syntax.{Ty, ty_array}
use mir.Val.{Val}
use base.Logic.{ent, sep}
use base.Fml.{Fml, fsep, fat}
use types.Logic.{Logic, sem}
use types.Kit.{‵, ◌$◌, ◌∵◌, !, qed, by, move, drop, use1, rewrite, fsplit, fjoin, fpack}
use types.SemTy.{cells}
use types.Share.{arr_parts}
use denote.Laws.{Is}
use denote.Memory.{cell_at, mem, shares, part_of}
use denote.Array.{Array, array_val, Array-Makes}
use denote.ArrayMemory.{Array-apart}
use denote.Index.{whole_in}
use denote.Steps.{owned}
use denote.Struct.Laws as LL
use borrow.Table.Elements.{at as at_e, cut_app}
use lib.Seq.{length-take-le}
use Rattle.meaning.specs.declared.Step.{Step}
use Rattle.meaning.specs.contracts.Step as T
use Rattle.meaning.proofs.Step.TheLaws as T'

-- the machine value of an array of records
abbrev pub val_of : List Step → Val
val_of ts = array_val (map (λ x. LL.val T.the_type T'.the_laws x) ts)

abbrev pub vals_of : List Step → List Val
vals_of ts = val_of ts ∷ []

pub prefix_length : (n k : ℕ) (ts : List Step) → k ≤ n → length ts ≡ n → length (take k ts) ≡ k
prefix_length n k ts few l = length-take-le k ts (subst (λ (m : ℕ). k ≤ m) (sym l) few)

-- the type of an array of n records
abbrev pub array_ty : ℕ → Ty
array_ty n = ty_array T'.mir n

-- the first k records of an array that lies at l, and those behind them
abbrev pub front : ℕ → List Step → ℕ → Fml
front l ts k = cells (mem T.the_row) (take k ts) l 0

abbrev pub rest : ℕ → List Step → ℕ → Fml
rest l ts k = cells (mem T.the_row) (drop-list k ts) l (at_e 0 (mem T.the_row).size (length (take k ts)))

-- the array's cell is its records in memory, in two parts
pub apart : {M : Type 1} {𝓤 : Ura M} (𝓛 : Logic 𝓤) (n l : ℕ) (ts : List Step) (k : ℕ) → Is (Array T.the_row n) ts (val_of ts ∷ [])
    → ent 𝓤 (𝓛.H.at full_share (array_ty n) l 0 (val_of ts)) (sep 𝓤 (sem 𝓛 (front l ts k)) (sem 𝓛 (rest l ts k)))
unfolding part_of
apart 𝓛 n l ts k is =
    qed 𝓛 (‵ (fat full_share (array_ty n) l 0 (val_of ts)) ∷ []) ∵ use1 𝓛 (‵ (cell_at full_share (array_ty n ∷ []) (val_of ts ∷ []) l 0)) (𝓛.laws.at_raw full_share (array_ty n) l 0 (val_of ts)) $
    owned ! (Array T.the_row n) (Is (Array T.the_row n)) (Array-Makes 𝓛 T.the_row (LL.makes T.the_type T'.the_plain 𝓛) n) ts (val_of ts ∷ []) is $ move ! (1 ∷ 0 ∷ []) $ fjoin ! $
    fpack ! (List Val) (λ vs. fsep (cell_at full_share (array_ty n ∷ []) vs l 0) ((Array T.the_row n).own_val ts vs)) (val_of ts ∷ []) $
    use1 𝓛 (‵ ((arr_parts (shares T.the_row) n).part full_share ts l 0)) (Array-apart 𝓛 T.the_row full_share tt n ts l 0) $ fsplit ! $ drop ! $
    use1 𝓛 (‵ (cells (mem T.the_row) ts l 0)) (whole_in 𝓛 T.the_row ts l 0) $
    rewrite ! 0 (λ (xs : List Step). ‵ (cells (mem T.the_row) xs l 0)) (sym (take-append-drop k ts)) refl $ by ! (cut_app 𝓛 (mem T.the_row) (take k ts) (drop-list k ts) l 0)
