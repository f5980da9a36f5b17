-- A run through the lines of a text: what is heard and printed of the lines that are left, after those that were taken, is what is of all.
use Prim.Native.Nat.{ℕ, ◌+◌, ◌*◌, ◌≤◌, ◌<◌}
use mathlib.Core.Path.{◌≡◌, refl, sym, ◌∙◌}
use mathlib.Core.List.{List, [], ◌∷◌}
use native.Mathlib.Omega.{arith}
use lib.ListN.{length}
use Rattle.decimals.specs.Decimals.{Puts}
use Rattle.decimals.proofs.Puts.{kept, Owed, owed_start, owed-put, owed_end}
use Rattle.streams.specs.Streams.{lines}
use Rattle.receiver.specs.declared.Receiver.{Receiver}
use Rattle.receiver.specs.Turns.{taken, turns, heard}
use Rattle.printing.specs.Printed.{next, outcome_line, printed, counted}

-- a receiver after k lines with u bytes put in o, and a later one: with the text that is left it comes to the same as the first with all of it
pub record SoFar (text : List ℕ) (r₀ : Receiver) (k₀ u₀ : ℕ) (o₀ rest : List ℕ) (r : Receiver) (k u : ℕ) (o : List ℕ) : Type 0 where
  pub ends : heard r₀ (lines text) ≡ heard r (lines rest)
  pub counts : counted k₀ (turns r₀ (lines text)) ≡ counted k (turns r (lines rest))
  pub owed : Owed (printed k₀ (turns r₀ (lines text))) u₀ o₀ (printed k (turns r (lines rest))) u o
  pub room : u + 24 * length rest ≤ length o

pub at-start : (text : List ℕ) (r : Receiver) (k u : ℕ) (o : List ℕ) → u + 24 * length text ≤ length o → SoFar text r k u o text r k u o
at-start text r k u o h = record { ends = refl; counts = refl; owed = owed_start _ u o; room = h }

-- a line taken, and its outcome put
pub one_more_lem :
    (text : List ℕ) (r₀ : Receiver) (k₀ u₀ : ℕ) (o₀ rest : List ℕ) (r : Receiver) (k u : ℕ) (o : List ℕ) → SoFar text r₀ k₀ u₀ o₀ rest r k u o →
    (l behind : List ℕ) → lines rest ≡ l ∷ lines behind → length behind < length rest →
    (r' : Receiver) (k' u' : ℕ) (o' : List ℕ) → r' ≡ (taken r l).receiver → k' ≡ next k → Puts (outcome_line (next k) (taken r l)) u o o' u' → u' ≤ u + 24 →
    SoFar text r₀ k₀ u₀ o₀ behind r' k' u' o'
unfolding heard turns printed counted
one_more_lem text r₀ k₀ u₀ o₀ rest r k u o w l behind there less r' k' u' o' er ek p short =
    let outcome : List ℕ = outcome_line (next k) (taken r l) in
    let left : List ℕ = printed (next k) (turns (taken r l).receiver (lines behind)) in
    record {
      ends = w.ends ∙ rw (there, er);
      counts = w.counts ∙ rw (there, er, ek);
      owed = rw (er, ek) (owed-put _ u₀ o₀ outcome left u o u' o' (rw there at w.owed) p);
      room = omega (arith, kept outcome o o' u u' p, w.room);
    }

-- no line is left
pub at_end :
    (text : List ℕ) (r₀ : Receiver) (k₀ u₀ : ℕ) (o₀ rest : List ℕ) (r : Receiver) (k u : ℕ) (o : List ℕ) → SoFar text r₀ k₀ u₀ o₀ rest r k u o → length rest ≡ 0 →
    (r ≡ heard r₀ (lines text)) × (k ≡ counted k₀ (turns r₀ (lines text))) × Puts (printed k₀ (turns r₀ (lines text))) u₀ o₀ o u
unfolding heard turns printed counted
at_end text r₀ k₀ u₀ o₀ [] r k u o w h = (sym w.ends, sym w.counts, owed_end _ u₀ o₀ u o w.owed (omega (arith, w.room)))
at_end text r₀ k₀ u₀ o₀ (x ∷ xs) r k u o w h = absurd (omega arith)
