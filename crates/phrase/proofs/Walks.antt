-- What the walks of the calls with a caller's step records share.
use seplogic.Ra.Ura.{Ura}
use mathlib.Core.List.{List}
use base.Logic.{SProp, ent, sep, emp, via, comm∗, mono_l, emp∗}
use prog.Memory.{Memory}
use prog.Routine.{Routine}
use types.Logic.{Logic}
use contract.Monad.{Fun, fact, fact_i}
use types.Kit.{Item, prop, Step as OneStep, step}
use denote.Triple.Spec.{triple_of}
use denote.Triple.Statement.{Contract}
use Rattle.records.specs.contracts.rows.put_over as p

-- several `ensures`, ⌜φ⌝ ∗ (⌜ψ⌝ ∗ …): the last one, and one more before others
pub last : {M : Type 1} (𝓤 : Ura M) {φ : Type 0} → φ → ent 𝓤 (emp 𝓤) (fact 𝓤 φ)
last 𝓤 {φ} x = fact_i 𝓤 φ (emp 𝓤) x

pub and_also : {M : Type 1} (𝓤 : Ura M) {φ : Type 0} {Q : SProp 𝓤} → φ → ent 𝓤 (emp 𝓤) Q → ent 𝓤 (emp 𝓤) (sep 𝓤 (fact 𝓤 φ) Q)
and_also 𝓤 {φ} {Q} x more = via 𝓤 Q more (via 𝓤 (sep 𝓤 (emp 𝓤) Q) (emp∗ 𝓤 Q) (mono_l 𝓤 Q (fact_i 𝓤 φ (emp 𝓤) x)))

-- a goal P ∗ Q: all of Q is shown, and P is left
pub says_all : {M : Type 1} {𝓤 : Ura M} {𝓛 : Logic 𝓤} {K : Type 0} {Γ : List (Item 𝓤)} → K → {P Q : SProp 𝓤} → ent 𝓤 (emp 𝓤) Q → OneStep K 𝓛 Γ (prop P) Γ (prop (sep 𝓤 P Q))
says_all {𝓤 = 𝓤} t {P} {Q} all = step (λ s. record { prf = via 𝓤 P s.prf (via 𝓤 (sep 𝓤 (emp 𝓤) P) (emp∗ 𝓤 P) (via 𝓤 (sep 𝓤 Q P) (mono_l 𝓤 P all) (comm∗ 𝓤 Q P))) })

-- the contract of `put_over`
abbrev pub PutOver : {M : Type 1} {𝓤 : Ura M} (𝓛 : Logic 𝓤) (mem : Memory → SProp 𝓤) (run : Routine → Fun 𝓤) → Contract 𝓤
PutOver 𝓛 mem run = triple_of 𝓛 p.signature (p.spec 𝓛 mem run)
