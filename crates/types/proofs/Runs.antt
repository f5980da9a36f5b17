-- What a run of changes means (specs/Runs.antt): those that were taken, the one that was not, and one run after another.
use Prim.Native.Nat.{ℕ, zero, suc, ◌+◌, ◌<◌}
use mathlib.Core.Path.{◌≡◌, refl, sym, ap, ◌∙◌}
use mathlib.Core.List.{List, [], ◌∷◌, ◌++◌, map}
use native.Mathlib.Nat.{zero-add, suc-add, add-zero, add-suc}
use native.Mathlib.Numerals.{add-one}
use native.Mathlib.Omega.{arith}
use lib.IntN.{ℤ}
use lib.ListN.{length, take, get_or}
use Rattle.types.specs.Replies.{Reply, done, refused}
use Rattle.types.specs.Runs.{Run, ended, one_more, counting, if_done, and_then, until_refused}
use Rattle.types.proofs.Once.{never}

-- what stands after each was offered, taken or not
unfoldable pub after_all : {S X : Type 0} → (S → X → S) → S → List X → S
after_all after s [] = s
after_all after s (x ∷ xs) = after_all after (after s x) xs

-- none more is the same run
pub counting-none : {S : Type 0} (r : Run S) → counting 0 r ≡ r
counting-none r = rw (zero-add r.taken)

-- one more of so many
pub counting_more : {S : Type 0} (n : ℕ) (r : Run S) → counting n (one_more r) ≡ counting (n + 1) r
counting_more n r = rw (add-one, add-suc, suc-add)

-- none more of so many
pub counting-ended : {S : Type 0} (n : ℕ) (s : S) (a : Reply (Unit {0})) → counting n (ended s a) ≡ record { stands = s; taken = n; reply = a }
counting-ended n s a = rw (add-zero n)

-- one more, counted before or after what follows
more_then : {S : Type 0} (r : Run S) (next : S → Run S) → one_more (and_then r next) ≡ and_then (one_more r) next
more_then r next = by r.reply
  where
    by : (a : Reply (Unit {0})) → one_more (if_done a (counting r.taken (next r.stands)) r) ≡ if_done a (counting (suc r.taken) (next r.stands)) (one_more r)
    by (done u) = rw (suc-add r.taken (next r.stands).taken)
    by (refused n vs) = refl

module _ {S X : Type 0} (after : S → X → S) (reply : S → X → Reply (Unit {0})) where
  abbrev run : S → List X → Run S
  run = until_refused after reply

  -- what stands after those that were taken
  abbrev Stands : S → List X → Run S → Type 0
  Stands s xs r = r.stands ≡ after_all after s (take r.taken xs)

  -- each of those was done
  abbrev Each : X → S → List X → Run S → Type 0
  Each d s xs r = (i : ℕ) → i < r.taken → reply (after_all after s (take i xs)) (get_or xs i d) ≡ done tt

  -- where all were done, all were taken
  abbrev All : List X → Run S → Type 0
  All xs r = r.reply ≡ done tt → r.taken ≡ length xs

  -- where one was refused, it is the one behind those that were taken, offered to what they left
  abbrev First : X → List X → Run S → Type 0
  First d xs r = (n : ℕ) (vs : List ℤ) → r.reply ≡ refused n vs → (r.taken < length xs) × (reply r.stands (get_or xs r.taken d) ≡ refused n vs)

  -- the first of a run, by its reply
  module _ (s : S) (x : X) (xs : List X) where
    -- what is left of the run
    abbrev rest : Run S
    rest = run (after s x) xs

    -- the run
    abbrev whole : Reply (Unit {0}) → Run S
    whole a = if_done a (one_more rest) (ended s a)

    stands_next : (a : Reply (Unit {0})) → Stands (after s x) xs rest → Stands s (x ∷ xs) (whole a)
    unfolding after_all
    stands_next (done u) h = h
    stands_next (refused n vs) h = refl

    each_next : (d : X) (a : Reply (Unit {0})) → reply s x ≡ a → Each d (after s x) xs rest → Each d s (x ∷ xs) (whole a)
    unfolding after_all
    each_next d (done u) e h zero m = e
    each_next d (done u) e h (suc i) m = h i (omega arith)
    each_next d (refused n vs) e h i m = absurd (omega arith)

    all-next : (a : Reply (Unit {0})) → All xs rest → All (x ∷ xs) (whole a)
    all-next (done u) h e = ap suc (h e)
    all-next (refused n vs) h e = never (refused n vs) n vs e refl

    first_next : (d : X) (a : Reply (Unit {0})) → reply s x ≡ a → First d xs rest → First d (x ∷ xs) (whole a)
    first_next d (done u) e h n vs f = let t = h n vs f in (omega (arith, t.0), t.1)
    first_next d (refused n vs) e h m us f = (omega arith, e ∙ f)

  pub run_stands : (s : S) (xs : List X) → Stands s xs (run s xs)
  unfolding until_refused after_all
  run_stands s [] = refl
  run_stands s (x ∷ xs) = stands_next s x xs (reply s x) (run_stands (after s x) xs)

  pub run_each : (d : X) (s : S) (xs : List X) → Each d s xs (run s xs)
  unfolding until_refused
  run_each d s [] = λ i m. absurd (omega arith)
  run_each d s (x ∷ xs) = each_next s x xs d (reply s x) refl (run_each d (after s x) xs)

  pub run-all : (s : S) (xs : List X) → All xs (run s xs)
  unfolding until_refused
  run-all s [] = λ e. refl
  run-all s (x ∷ xs) = all-next s x xs (reply s x) (run-all (after s x) xs)

  pub run-first : (d : X) (s : S) (xs : List X) → First d xs (run s xs)
  unfolding until_refused
  run-first d s [] = λ n vs e. never (done tt) n vs refl e
  run-first d s (x ∷ xs) = first_next s x xs d (reply s x) refl (run-first d (after s x) xs)

  -- what each change that is done keeps, a run keeps
  pub run_keeps : (P : S → Type 0) → ((s : S) (x : X) → P s → reply s x ≡ done tt → P (after s x)) → (s : S) (xs : List X) → P s → P (run s xs).stands
  unfolding until_refused
  run_keeps P keeps s [] p = p
  run_keeps P keeps s (x ∷ xs) p = by (reply s x) refl (run_keeps P keeps (after s x) xs)
    where
      by : (a : Reply (Unit {0})) → reply s x ≡ a → (P (after s x) → P (rest s x xs).stands) → P (whole s x xs a).stands
      by (done u) e h = h (keeps s x p e)
      by (refused n vs) e h = p

  -- one list behind another: a run, and then the other from what stands, if all were taken
  pub run_append : (s : S) (xs ys : List X) → run s (xs ++ ys) ≡ and_then (run s xs) (λ (t : S). run t ys)
  unfolding until_refused
  run_append s [] ys = sym (counting-none (run s ys))
  run_append s (x ∷ xs) ys = by (reply s x) (run_append (after s x) xs ys)
    where
      by : (a : Reply (Unit {0})) → run (after s x) (xs ++ ys) ≡ and_then (run (after s x) xs) (λ (t : S). run t ys)
          → whole s x (xs ++ ys) a ≡ and_then (whole s x xs a) (λ (t : S). run t ys)
      by (done u) h = ap one_more h ∙ more_then (rest s x xs) (λ (t : S). run t ys)
      by (refused n vs) h = refl

  -- other changes that come to the same make the same run
  pub run-same : (g : X → X) → ((s : S) (x : X) → (after s (g x) ≡ after s x) × (reply s (g x) ≡ reply s x)) → (s : S) (xs : List X) → run s (map g xs) ≡ run s xs
  unfolding until_refused
  run-same g same s [] = refl
  run-same g same s (x ∷ xs) = rw ((same s x).0, (same s x).1, run-same g same (after s x) xs)
