-- Numbers written to the front of a buffer: what an answer says of them, and a front whose rest was lent on.
use Rattle.std.specs.Prelude.{Result, Ok, Err}
use Prim.Native.Nat.{ℕ, ◌+◌, ◌-◌, ◌≤◌}
use native.Mathlib.Omega.{arith}
use mathlib.Core.Path.{◌≡◌, refl, ap, sym, ◌∙◌}
use mathlib.Core.List.{List, [], ◌++◌, append_assoc, append-nil}
use lib.Dec.{leb}
use lib.IntN.{ℤ}
use lib.ListN.{length, take, drop, length-append, length-drop, drop_of_length-le, length-take}
use lib.Seq.{take_at, take_all, drop_at, drop-drop}
use borrow.Author.Tests.{leb-true}
use Rattle.types.specs.Replies.{Reply, done, refused, map_reply}
use Rattle.types.specs.Answers.{reply_of}
use Rattle.types.specs.Written.{Left, fitted, overwritten, written}
use Rattle.types.specs.declared.Refusal.{Refusal}
use Rattle.types.proofs.Booleans.{by}
use Rattle.listings.specs.Inner.Fronts.{PlacesFit, front_at}
use Rattle.listings.specs.Listed.{front_of}

-- ns are written to the front of o, which becomes l; ms to the front of l's rest, which is lent on and becomes m
pub lend-on :
    (ns ms o l m : List ℕ) (k j : ℕ) →
    length ns ≡ k →
    length ms ≡ j →
    k + j ≤ length o →
    l ≡ ns ++ drop k o →
    m ≡ ms ++ drop j (take (length l - k) (drop k l)) →
    take k l ++ (m ++ drop (length l - k) (drop k l)) ≡ (ns ++ ms) ++ drop (k + j) o
lend-on ns ms o l m k j e f h el em =
    let d : drop k l ≡ drop k o = rw (el, drop_at _ _ _ e) in
    let t : take k l ≡ ns = rw (el, take_at _ _ _ e) in
    let n : length l ≡ length o = ap length el ∙ simp (length-append, length-drop) (omega arith) in
    let r : drop (length l - k) (drop k l) ≡ [] = drop_of_length-le (drop k l) {i = length l - k} (rw d (simp length-drop (omega arith))) in
    let a : take (length l - k) (drop k l) ≡ drop k o = rw d (take_all (length l - k) (drop k o) (simp length-drop (omega arith))) in
    let b : m ≡ ms ++ drop (k + j) o = em ∙ rw (a, drop-drop j k o) in
    rw (t, r, b) (simp (append_assoc, append-nil))

-- what fits has room, and a refusal needs none
pub front_fits : (room : ℕ) (x : Reply (List ℕ)) → length (front_of (fitted room x)) ≤ room
front_fits room (done ns) = by (leb (length ns) room) (λ e. rw e (leb-true (length ns) room e)) (λ e. rw e (omega arith))
front_fits room (refused n vs) = omega arith

-- what is left in the memory, on a refusal too
pub left_front : (x : Reply (List ℕ)) (m : List ℕ) → overwritten x m ≡ front_of x ++ drop (length (front_of x)) m
left_front (done ns) m = refl
left_front (refused n vs) m = refl

-- an answer with places says how many numbers there are, and one without that there are none
some : (x : Reply (List ℕ)) (k : ℕ) → done k ≡ map_reply length x → k ≡ length (front_of x)
some (done ns) k e = cc
some (refused n vs) k e = absurd (let z : ◌≡◌ {A = ℕ} 0 1 = cc in omega arith)

no_front : (x : Reply (List ℕ)) (n : ℕ) (vs : List ℤ) → refused n vs ≡ map_reply length x → [] ≡ front_of x
no_front (done ns) n vs e = absurd (let z : ◌≡◌ {A = ℕ} 0 1 = cc in omega arith)
no_front (refused m us) n vs e = refl

-- the part of the buffer that is handed back is the front
module _ (ns : Reply (List ℕ)) (m after : List ℕ) (r : Result ℕ Refusal) (w : record { answer = reply_of r; memory = after } ≡ written ns m) where
  pub front_part : (k : ℕ) → r ≡ Ok k → (take k after ≡ front_of (fitted (length m) ns)) × (k ≡ length (take k after))
  front_part k e =
      let x = fitted (length m) ns in
      let n : k ≡ length (front_of x) = some x k (rw e at (ap (λ (u : Left (Reply ℕ)). u.answer) w)) in
      let f : take k after ≡ front_of x = ap (take k) (ap (λ (u : Left (Reply ℕ)). u.memory) w ∙ left_front x m) ∙ take_at (front_of x) _ k (sym n) in
      (f, n ∙ ap length (sym f))

  pub front_none : (why : Refusal) → r ≡ Err why → [] ≡ front_of (fitted (length m) ns)
  front_none why e = no_front (fitted (length m) ns) _ _ (rw e at (ap (λ (u : Left (Reply ℕ)). u.answer) w))

  -- the places of the answer are in it, and make the front
  pub places_fit : PlacesFit r after
  places_fit = fit r refl
    where
      fit : (x : Result ℕ Refusal) → r ≡ x → PlacesFit x after
      fit (Ok k) e = omega (arith, (front_part k e).1, length-take k after)
      fit (Err why) e = tt

  pub front_is : front_at r after ≡ front_of (fitted (length m) ns)
  front_is = is r refl
    where
      is : (x : Result ℕ Refusal) → r ≡ x → front_at x after ≡ front_of (fitted (length m) ns)
      is (Ok k) e = (front_part k e).0
      is (Err why) e = front_none why e
