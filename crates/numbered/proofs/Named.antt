-- What a call makes of numbers that name something, and of those that name nothing.
use Rattle.std.specs.Prelude.{Result}
use Prim.Native.Nat.{ℕ}
use mathlib.Core.Path.{◌≡◌, refl, sym, ap, ◌∙◌}
use mathlib.Core.List.{List, []}
use lib.IntN.{ℤ}
use lib.ListN.{length}
use Rattle.types.specs.Replies.{Reply, done, refused, refuse, map_reply}
use Rattle.types.specs.Answers.{reply_of}
use Rattle.types.specs.Written.{Left, fitted, written}
use Rattle.types.specs.declared.Refusal.{Refusal}
use Rattle.types.proofs.Booleans.{by}
use Rattle.told.specs.declared.Told.{Told}
use Rattle.told.specs.Numbers.{tell, nothing, one_number}
use Rattle.orderbook.specs.declared.OrderBook.{OrderBook}
use Rattle.orderbook.specs.Book.{is_book, of_book}
use Rattle.orderbook.specs.Apply.{Change}
use Rattle.names.specs.Names.{reply_to}
use Rattle.numbered.specs.Memory.{told_left}
use Rattle.numbered.specs.Books.{book_told, changed_to}

-- a refusal is told alike, whatever the answer would have carried
told-alike : {A : Type 0} (f : A → List ℤ) (b : OrderBook) (n : ℕ) (vs : List ℤ) → tell nothing (of_book b (refused n vs)) ≡ tell f (of_book b (refused n vs))
told-alike f b n vs = by (is_book b) (λ e. rw e) (λ e. rw e)

fitted-alike : (room : ℕ) (b : OrderBook) (n : ℕ) (vs : List ℤ) → tell nothing (of_book b (refused n vs)) ≡ tell one_number (map_reply length (fitted room (of_book b (refused n vs))))
fitted-alike room b n vs = by (is_book b) (λ e. rw e) (λ e. rw e)

module _ {A B : Type 0} (b : OrderBook) (f : A → Reply B) (x : Reply A) where
  -- what is named is answered
  pub answered : (a : A) → done a ≡ x → f a ≡ reply_to b f x
  answered a e = ap (reply_to b f) e

  -- and what names nothing is refused, after 1
  pub unanswered : (g : B → List ℤ) (why : Refusal) → refuse why ≡ x → tell nothing (of_book b (refuse why)) ≡ tell g (reply_to b f x)
  unanswered g why e = told-alike g b _ _ ∙ ap (λ (y : Reply A). tell g (reply_to b f y)) e

module _ {A : Type 0} (b : OrderBook) (f : A → Reply (List ℕ)) (x : Reply A) where
  -- the places of a listing
  pub unplaced : (room : ℕ) (why : Refusal) → refuse why ≡ x → tell nothing (of_book b (refuse why)) ≡ tell one_number (map_reply length (fitted room (reply_to b f x)))
  unplaced room why e = fitted-alike room b _ _ ∙ ap (λ (y : Reply A). tell one_number (map_reply length (fitted room (reply_to b f y)))) e

  -- its numbers, in memory that is left as it was
  pub unwritten :
      (memory : List ℕ) (t : Told) (why : Refusal) → refuse why ≡ x → t ≡ tell nothing (of_book b (refuse why)) →
      ◌≡◌ {A = Left Told} (record { answer = t; memory = memory }) (told_left (written (reply_to b f x) memory))
  unwritten memory t why e a =
      let k : record { answer = t; memory = memory } ≡ told_left (written (of_book b (refuse why)) memory) =
      rw a (by (is_book b) (λ h. rw h) (λ h. rw h)) in
      k ∙ ap (λ (y : Reply A). told_left (written (reply_to b f y) memory)) e

-- what a writer left, its answer told
pub left-told :
    (r : Result ℕ Refusal) (t : Told) (after : List ℕ) (w : Left (Reply ℕ)) → t ≡ tell one_number (reply_of r) → record { answer = reply_of r; memory = after } ≡ w →
    ◌≡◌ {A = Left Told} (record { answer = t; memory = after }) (told_left w)
left-told r t after w e h = rw e (ap told_left h)

module _ {A : Type 0} (b : OrderBook) (f : A → Change) (x : Reply A) where
  -- the change that is named
  pub changed : (a : A) → done a ≡ x → f a ≡ changed_to b f x
  changed a e = ap (changed_to b f) e

  -- none
  pub unchanged : (why : Refusal) → refuse why ≡ x → record { book = b; told = tell nothing (of_book b (refuse why)) } ≡ book_told (changed_to b f x)
  unchanged why e = ap (λ (y : Reply A). book_told (changed_to b f y)) e
