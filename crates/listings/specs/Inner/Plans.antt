-- What a listing takes of a book: a run of each side, and the answer.
use Rattle.std.specs.Prelude.{ℕ, ◌+◌, ◌-◌, ◌*◌, ◌≤◌, min, ◌≡◌, Bool, true, false, cond, List, ◌++◌, leb, length, Ok, Err}
use Rattle.types.specs.Limits.{max_levels}
use Rattle.types.specs.Replies.{Reply, map_reply}
use Rattle.types.specs.Answers.{reply_of}
use Rattle.types.specs.declared.Side.{Side}
use Rattle.types.specs.declared.Side.TheVariants.{Bid, Ask}
use Rattle.types.specs.declared.Refusal.{Refusal}
use Rattle.types.specs.declared.Refusal.TheVariants as R
use Rattle.types.specs.declared.PriceLevel.{PriceLevel}
use Rattle.levels.specs.Order.{count_ahead, place_from}
use Rattle.levels.specs.Inner.Found.{ahead_in, reached_in}
use Rattle.deltas.specs.declared.Counts.{Counts}
use Rattle.orderbook.specs.declared.OrderBook.{OrderBook}
use Rattle.orderbook.specs.Inner.Long.{Long}
use Rattle.listings.specs.declared.run.Run.{Run}
use Rattle.listings.specs.declared.plan.Plan.{Plan}
use Rattle.listings.specs.Listed.{is_range, woven, front_of}
use Rattle.listings.specs.Inner.Runs.{every_place, in_run}

-- a run, from its parts
abbrev pub run : ℕ → ℕ → Bool → Run
run from count turned = record { from = from; count = count; turned = turned }

-- no levels
abbrev pub none : Run
none = run 0 0 false

-- a refusal takes nothing
abbrev pub nothing : Refusal → Plan
nothing why = record { bids = none; asks = none; answer = Err why }

-- the places that two runs fill
abbrev pub places_of : Run → Run → ℕ
places_of bids asks = 2 * (bids.count + asks.count)

-- two runs, and the places that they fill
abbrev pub taking : Run → Run → Plan
taking bids asks = record { bids = bids; asks = asks; answer = Ok (places_of bids asks) }

-- the plan if there is room for what it takes, else 11
abbrev pub in_room : ℕ → Plan → Plan
in_room room p = cond (leb (places_of p.bids p.asks) room) p (nothing R.NoRoom)

-- the best so many bids and asks, as far as there are any
abbrev pub best_runs : ℕ → ℕ → Counts → Plan
best_runs bids asks c = taking (run 0 (min bids c.bids) false) (run 0 (min asks c.asks) false)

-- the run from the first price to the last, which is not ahead of it, among a side's prices
abbrev pub run_between : Side → ℕ → ℕ → Bool → List ℕ → Run
run_between s first last turned ps = run (ahead_in (place_from s first 0 ps)) (reached_in (place_from s last 0 ps) - ahead_in (place_from s first 0 ps)) turned

-- the run behind the prices above a range, or below it, of n prices
abbrev pub range_run : Side → ℕ → ℕ → ℕ → Plan
range_run Bid below above n = taking (run above (n - (below + above)) true) none
range_run Ask below above n = taking none (run below (n - (below + above)) false)

-- the levels from lo to hi of a side with these prices, upward
abbrev pub range_runs : Side → ℕ → ℕ → List ℕ → Plan
range_runs s lo hi ps = cond (is_range lo hi) (range_run s (count_ahead Ask lo ps) (count_ahead Bid hi ps) (length ps)) (nothing R.OutOfLimits)

-- the bids that a plan takes of a book
abbrev pub bids_in : Plan → OrderBook → List PriceLevel
bids_in p b = in_run p.bids (every_place b.bids.prices b.bids.quantities)

-- and the asks
abbrev pub asks_in : Plan → OrderBook → List PriceLevel
asks_in p b = in_run p.asks (every_place b.asks.prices b.asks.quantities)

-- the numbers that it takes, bids first
abbrev pub numbers_in : Plan → OrderBook → List ℕ
numbers_in p b = woven (bids_in p b ++ asks_in p b)

-- the plan of numbers of a book: they are what it takes, their number is its answer, and its runs lie in the rows
pub record Plans (ns : Reply (List ℕ)) (b : OrderBook) (p : Plan) : Type 0 where
  pub answer : reply_of p.answer ≡ map_reply length ns
  pub numbers : numbers_in p b ≡ front_of ns
  pub bids : p.bids.from + p.bids.count ≤ max_levels
  pub asks : p.asks.from + p.asks.count ≤ max_levels
  pub long : Long b
