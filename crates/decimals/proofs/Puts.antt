-- Laws of bytes put into memory: a piece behind a piece is one piece, and the length is kept.
use Prim.Native.Nat.{ℕ, suc, ◌+◌, ◌≤◌}
use mathlib.Core.Path.{◌≡◌, refl, sym, ap, ◌∙◌}
use mathlib.Core.List.{List, [], ◌∷◌, ◌++◌}
use native.Mathlib.Omega.{arith}
use native.Mathlib.Nat.{add-zero}
use lib.ListN.{length, set, take, drop, length-append}
use lib.Seq.{sets, length-sets, take-length}
use borrow.Rule.Slice.PartMut.{put_mid}
use Rattle.std.proofs.lemmas.Slice.{put_mid-paste}
use Rattle.std.proofs.lemmas.List.Edits.{sets-eq}
use Rattle.decimals.specs.Decimals.{Puts}

pub sets_append : (xs ys o : List ℕ) (at : ℕ) → sets o at (xs ++ ys) ≡ sets (sets o at xs) (at + length xs) ys
sets_append [] ys o at = rw add-zero
sets_append (x ∷ xs) ys o at =
    let e : suc at + length xs ≡ at + suc (length xs) = omega arith in
    rw (sets_append xs ys (set o at x) (suc at), e)

-- a piece behind a piece is one piece
pub then : (xs ys o p q : List ℕ) (at m n : ℕ) → Puts xs at o p m → Puts ys m p q n → Puts (xs ++ ys) at o q n
then xs ys o p q at m n a b =
    record {
      stored = rw (b.stored, a.stored, a.behind) (sym (sets_append xs ys o at));
      behind = omega (arith, a.behind, b.behind, length-append xs ys);
      fits = b.fits;
    }

-- the length is kept
pub kept : (xs o p : List ℕ) (at n : ℕ) → Puts xs at o p n → length p ≡ length o
kept xs o p at n a = rw a.stored (length-sets o at xs)

-- a piece copied over a part of the memory
pub put_piece :
    (xs o ys : List ℕ) (at k : ℕ) → at + length xs ≤ length o → ys ≡ xs → k ≡ length xs → Puts xs at o (put_mid at k o ys) (at + length xs)
put_piece xs o ys at k h e n =
    let w : put_mid at k o ys ≡ sets o at xs =
    put_mid-paste at k o ys xs (length xs) e (sym n) refl
    ∙ ap (λ (l : List ℕ). take at o ++ l ++ drop (at + length xs) o) (take-length xs)
    ∙ sym (sets-eq xs o at h) in
    record {
      stored = w;
      behind = refl;
      fits = rw w (rw (length-sets o at xs) h);
    }

-- the room behind a piece
pub room : (xs o p : List ℕ) (at m n : ℕ) → Puts xs at o p m → at + length xs + n ≤ length o → m + n ≤ length p
room xs o p at m n a h = omega (arith, a.behind, kept xs o p at m a)

-- room for a piece and what follows it is room for the piece
pub front_room : (xs left o : List ℕ) (at : ℕ) → at + length (xs ++ left) ≤ length o → at + length xs ≤ length o
front_room xs left o at h = omega (arith, length-append xs left)

-- and behind the piece for what follows it
pub rest_room : {xs o p : List ℕ} {at m : ℕ} (left : List ℕ) → Puts xs at o p m → at + length (xs ++ left) ≤ length o → m + length left ≤ length p
rest_room {xs} {o} {p} {at} {m} left a h = room xs o p at m (length left) a (omega (arith, length-append xs left))

-- ── piece by piece ──

-- of all that is to be put, this is left: put from here on, it gives what is wanted
pub record Owed (all : List ℕ) (at : ℕ) (o left : List ℕ) (u : ℕ) (now : List ℕ) : Type 0 where
  pub stored : sets o at all ≡ sets now u left
  pub behind : at + length all ≡ u + length left
  pub same : length now ≡ length o

pub owed_start : (all : List ℕ) (at : ℕ) (o : List ℕ) → Owed all at o all at o
owed_start all at o = record { stored = refl; behind = refl; same = refl }

-- a piece put
pub owed-put :
    (all : List ℕ) (at : ℕ) (o xs left : List ℕ) (u : ℕ) (now : List ℕ) (n : ℕ) (after : List ℕ) → Owed all at o (xs ++ left) u now → Puts xs u now after n →
    Owed all at o left n after
owed-put all at o xs left u now n after w p =
    record {
      stored = w.stored ∙ rw (p.stored, p.behind) (sets_append xs left now u);
      behind = omega (arith, w.behind, p.behind, length-append xs left);
      same = kept xs now after u n p ∙ w.same;
    }

pub owed_end : (all : List ℕ) (at : ℕ) (o : List ℕ) (u : ℕ) (now : List ℕ) → Owed all at o [] u now → u ≤ length now → Puts all at o now u
owed_end all at o u now w f = record { stored = sym w.stored; behind = omega (arith, w.behind); fits = f }

-- where there was room for all, there is for what is left
pub owed_room : (all : List ℕ) (at : ℕ) (o left : List ℕ) (u : ℕ) (now : List ℕ) → at + length all ≤ length o → Owed all at o left u now → u + length left ≤ length now
owed_room all at o left u now h w = omega (arith, w.behind, w.same)
