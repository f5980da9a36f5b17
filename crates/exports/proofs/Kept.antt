-- A receiver by its state and the rows of its book: what it answers is what the receiver of the record answers.
use mathlib.Core.Path.{◌≡◌, ap, ◌∙◌}
use mathlib.Core.List.{List}
use Prim.Native.Nat.{ℕ}
use Rattle.types.specs.Replies.{Reply, refuse}
use Rattle.types.specs.declared.Refusal.{Refusal}
use Rattle.told.specs.declared.Told.{Told}
use Rattle.told.specs.Numbers.{tell, nothing}
use Rattle.orderbook.specs.declared.OrderBook.{OrderBook}
use Rattle.orderbook.specs.Book.{of_book}
use Rattle.listings.specs.declared.Listing.{Listing}
use Rattle.questions.specs.declared.Question.{Question}
use Rattle.receiver.specs.declared.State.{State}
use Rattle.receiver_questions.specs.Gate.{receiver_ask, receiver_numbers}

module _ {s t : State} {a b : OrderBook} (e : s ≡ t) (f : a ≡ b) where
  pub asked_alike : (q : Question) → receiver_ask (record { state = s; book = a }) q ≡ receiver_ask (record { state = t; book = b }) q
  asked_alike q =
      ap (λ (x : State). receiver_ask (record { state = x; book = a }) q) e ∙ ap (λ (x : OrderBook). receiver_ask (record { state = t; book = x }) q) f

  pub numbers_alike : (l : Listing) → receiver_numbers l (record { state = s; book = a }) ≡ receiver_numbers l (record { state = t; book = b })
  numbers_alike l =
      ap (λ (x : State). receiver_numbers l (record { state = x; book = a })) e ∙ ap (λ (x : OrderBook). receiver_numbers l (record { state = t; book = x })) f

-- numbers that name nothing are refused alike
pub refused_alike : {a b : OrderBook} {r : Told} (why : Refusal) → r ≡ tell nothing (of_book a (refuse why)) → a ≡ b → r ≡ tell nothing (of_book b (refuse why))
refused_alike why e f = e ∙ ap (λ (x : OrderBook). tell nothing (of_book x (refuse why))) f
