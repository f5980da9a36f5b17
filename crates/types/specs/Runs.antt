-- Many changes in one call: each is offered, in order, to what the one before it left, until one is refused.
use Rattle.std.specs.Prelude.{ℕ, suc, ◌+◌, List, [], ◌∷◌}
use Rattle.types.specs.Replies.{Reply, done, refused}

-- what stands after those that were taken, how many they are, and the reply: 0, or the refusal that ended them
pub record Run (S : Type 0) : Type 0 where
  pub stands : S
  pub taken : ℕ
  pub reply : Reply (Unit {0})

-- it ends here, and none is taken
abbrev pub ended : {S : Type 0} → S → Reply (Unit {0}) → Run S
ended s reply = record { stands = s; taken = 0; reply = reply }

-- one was taken before these
abbrev pub one_more : {S : Type 0} → Run S → Run S
one_more r = record { stands = r.stands; taken = suc r.taken; reply = r.reply }

-- so many were taken before these
abbrev pub counting : {S : Type 0} → ℕ → Run S → Run S
counting n r = record { stands = r.stands; taken = n + r.taken; reply = r.reply }

-- the one if it is done, the other if it is refused
abbrev pub if_done : {A : Type 0} → Reply (Unit {0}) → A → A → A
if_done (done u) one other = one
if_done (refused n vs) one other = other

-- a run, and then another from what stands, if all of the first were taken
abbrev pub and_then : {S : Type 0} → Run S → (S → Run S) → Run S
and_then r next = if_done r.reply (counting r.taken (next r.stands)) r

module _ {S X : Type 0} (after : S → X → S) (reply : S → X → Reply (Unit {0})) where
  -- in order: one that is done is counted and goes on with the others, and a refused one ends it with what stood before
  unfoldable pub until_refused : S → List X → Run S
  until_refused s [] = ended s (done tt)
  until_refused s (x ∷ xs) = if_done (reply s x) (one_more (until_refused (after s x) xs)) (ended s (reply s x))
