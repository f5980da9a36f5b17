-- The calls of crate lent: a delta over a record that is lent, and the wrapper that others call. The promise of the first is written out here, and
-- `told` says that it is the one in the source.
use Rattle.std.specs.Prelude.{◌≡◌, refl}
use Rattle.std.proofs.Common.{ap, sym, ◌∙◌}
use seplogic.Ra.Ura.{Ura}
use base.Logic.{SProp}
use prog.Memory.{Memory}
use prog.Routine.{Routine}
use types.Logic.{Logic}
use contract.Lifetimes.{Lfts}
use contract.Monad.{Fun, fact}
use denote.Triple.Entry.{Args, Res}
use denote.Triple.Clauses.{AtExit}
use Rattle.types.specs.Answers.{reply_of}
use Rattle.types.proofs.Once.{one_answer}
use Rattle.orderbook.specs.Apply.{Change, applied}
use Rattle.orderbook.proofs.Kept.{one_change}
use Rattle.lent.proofs as L
use Rattle.lent.specs.contracts.apply_delta as C
use Rattle.single.specs.One.{One, OneWith}

-- the book as the call returns and the outcome's reply are what the delta makes of the book as it was lent
abbrev pub Learnt : (κs : Lfts 1) → Args C.signature κs → Res C.signature κs → AtExit C.ended κs → Type 0
Learnt κs a r s = record { book = s.0.now; reply = reply_of r } ≡ applied a.0.now a.1.0

-- in any model that is the call's `ensures`
pub told :
    {M : Type 1} {𝓤 : Ura M} (𝓛 : Logic 𝓤) (held : Memory → SProp 𝓤) (run : Routine → Fun 𝓤) (κs : Lfts 1) (a : Args C.signature κs)
    (r : Res C.signature κs) (s : AtExit C.ended κs) → (C.clauses 𝓛 held run κs a).ensures tt r s ≡ fact 𝓤 (Learnt κs a r s)
told 𝓛 held run κs a r s = refl

-- one outcome, and one book
pub lent_apply_delta : OneWith Learnt (λ κs s. s.0.now)
lent_apply_delta κs a s t x y p q =
    (one_answer _ x y (ap (λ (c : Change). c.reply) p) (ap (λ (c : Change). c.reply) q), ap (λ (c : Change). c.book) (p ∙ sym q))

-- the wrapper
module _ where
  pub apply_delta_over : One L.apply_delta_over.Reads.Learnt
  apply_delta_over κs a s t = one_change _
