-- A plan: what it takes of a book, held to a buffer's room, and written to the buffer.
use Prim.Native.Nat.{ℕ, ◌+◌, ◌-◌, ◌*◌, ◌≤◌}
use native.Mathlib.Omega.{arith}
use mathlib.Core.Path.{◌≡◌, refl, ap, sym, ◌∙◌}
use mathlib.Core.List.{List, ◌++◌}
use lib.Dec.{leb}
use lib.ListN.{length, take, drop, length-append}
use borrow.Author.Tests.{le-leb}
use Rattle.types.specs.Limits.{max_levels}
use Rattle.types.specs.Replies.{Reply, done, refused, refuse}
use Rattle.types.specs.Answers.{reply_of}
use Rattle.types.specs.Written.{fitted, written}
use Rattle.types.specs.declared.Refusal.{Refusal}
use Rattle.types.specs.declared.Refusal.TheVariants as R
use Rattle.types.proofs.Booleans.{by}
use Rattle.orderbook.specs.declared.OrderBook.{OrderBook}
use Rattle.orderbook.specs.Inner.Long.{Long}
use Rattle.listings.specs.declared.run.Run.{Run}
use Rattle.listings.specs.declared.plan.Plan.{Plan}
use Rattle.listings.specs.Listed.{woven, front_of}
use Rattle.listings.specs.Inner.Plans.{nothing, places_of, taking, in_room, bids_in, asks_in, numbers_in, Plans}
use Rattle.listings.proofs.Fronts.{lend-on, front_fits, left_front}
use Rattle.listings.proofs.Runs.{placed-length}
use Rattle.listings.proofs.Weaves.{woven-length, woven_append}

-- a refusal takes nothing
pub nothing_plans : (b : OrderBook) → Long b → (why : Refusal) → Plans (refuse why) b (nothing why)
unfolding woven
nothing_plans b l why = record { answer = refl; numbers = refl; bids = omega arith; asks = omega arith; long = l }

-- what a plan takes, if its runs lie in the rows
module _
    (b : OrderBook) (l : Long b) (p : Plan)
    (h : p.bids.from + p.bids.count ≤ max_levels) (k : p.asks.from + p.asks.count ≤ max_levels) where
  bids-taken : length (bids_in p b) ≡ p.bids.count
  bids-taken = placed-length b.bids.prices b.bids.quantities l.bid-prices l.bid_quantities p.bids h

  asks-taken : length (asks_in p b) ≡ p.asks.count
  asks-taken = placed-length b.asks.prices b.asks.quantities l.ask-prices l.ask_quantities p.asks k

  places_taken : length (numbers_in p b) ≡ places_of p.bids p.asks
  places_taken = woven-length (bids_in p b ++ asks_in p b) ∙ rw (length-append (bids_in p b) (asks_in p b), bids-taken, asks-taken)

-- two such runs are a plan of what they take
pub taking-plans :
    (b : OrderBook) → Long b → (p q : Run) → p.from + p.count ≤ max_levels → q.from + q.count ≤ max_levels → (ns : List ℕ) →
    numbers_in (taking p q) b ≡ ns →
    Plans (done ns) b (taking p q)
taking-plans b l p q h k ns e =
    record { answer = ap done (sym (places_taken b l (taking p q) h k) ∙ ap length e); numbers = e; bids = h; asks = k; long = l }

-- the places that a plan takes are as many as the numbers
places_front : (ns : Reply (List ℕ)) (b : OrderBook) (p : Plan) → Plans ns b p → length (front_of ns) ≡ places_of p.bids p.asks
places_front ns b p w = ap length (sym w.numbers) ∙ places_taken b w.long p w.bids w.asks

-- a plan held to a room
pub room_plans : (room : ℕ) (ns : Reply (List ℕ)) (b : OrderBook) (p : Plan) → Plans ns b p → Plans (fitted room ns) b (in_room room p)
room_plans room (done xs) b p w =
    rw (sym (places_front (done xs) b p w)) (by (leb (length xs) room) (λ e. rw e w) (λ e. rw e (nothing_plans b w.long R.NoRoom)))
room_plans room (refused n vs) b p w = rw (sym (places_front (refused n vs) b p w), le-leb 0 room (omega arith)) w

-- and then there is room for what it takes
pub room_taken : (room : ℕ) (ns : Reply (List ℕ)) (b : OrderBook) (p : Plan) → Plans (fitted room ns) b p → places_of p.bids p.asks ≤ room
room_taken room ns b p w = omega (arith, front_fits room ns, places_front (fitted room ns) b p w)

-- bids written to the front of a buffer o, which becomes l, and asks to its rest, which becomes m, leave it as they should
pub plan-written :
    (ns : Reply (List ℕ)) (b : OrderBook) (p : Plan) (o l m : List ℕ) → Plans (fitted (length o) ns) b p → let k = 2 * p.bids.count in
    l ≡ woven (bids_in p b) ++ drop k o →
    m ≡ woven (asks_in p b) ++ drop (2 * p.asks.count) (take (length l - k) (drop k l)) →
    record { answer = reply_of p.answer; memory = take k l ++ (m ++ drop (length l - k) (drop k l)) } ≡ written ns o
plan-written ns b p o l m w e f =
    let x = fitted (length o) ns in
    let k = 2 * p.bids.count in
    let j = 2 * p.asks.count in
    let room = room_taken (length o) ns b p w in
    let bids : length (woven (bids_in p b)) ≡ k = omega (arith, woven-length (bids_in p b), bids-taken b w.long p w.bids w.asks) in
    let asks : length (woven (asks_in p b)) ≡ j = omega (arith, woven-length (asks_in p b), asks-taken b w.long p w.bids w.asks) in
    let both : k + j ≡ length (front_of x) = omega (arith, places_front x b p w) in
    let front : woven (bids_in p b) ++ woven (asks_in p b) ≡ front_of x = sym (woven_append (bids_in p b) (asks_in p b)) ∙ w.numbers in
    rw (lend-on (woven (bids_in p b)) (woven (asks_in p b)) o l m k j bids asks (omega arith) e f, front, both, w.answer, left_front x o)
