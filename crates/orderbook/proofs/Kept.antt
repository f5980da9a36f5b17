-- What every change keeps (specs/Kept.antt), proved. Any two results that meet one promise are equal.
use Prim.Native.Nat.{ℕ, ◌+◌, ◌≤◌}
use native.Mathlib.Omega.{arith}
use mathlib.Core.Path.{◌≡◌, refl, sym, ap, ◌∙◌}
use mathlib.Core.Bool.{Bool, true, false, cond, ◌&&◌, and-eq-true_iff}
use mathlib.Core.List.{List, []}
use lib.Dec.{leb, ltb, eqb}
use lib.IntN.{ℤ}
use lib.ListN.{length}
use borrow.Author.Tests.{leb-true, eqb-true}
use Rattle.types.specs.Limits.{max_levels, last_sequence}
use Rattle.types.specs.Replies.{done}
use Rattle.types.specs.declared.Side.{Side}
use Rattle.types.specs.declared.Side.TheVariants.{Bid, Ask}
use Rattle.types.specs.declared.PriceLevel.{PriceLevel}
use Rattle.types.proofs.Once.{never, one_answer}
use Rattle.levels.specs.Order.{in_order}
use Rattle.levels.specs.Table.{level, prices_of, table}
use Rattle.levels.specs.Formed.{every, in_limits, well_formed}
use Rattle.levels.proofs.Tables.{levels-back, table_formed, well_formed_lem}
use Rattle.changes.proofs.Changes.{set_order, set-every, remove_order, remove-every}
use Rattle.sides.specs.Best.{best_of, is_apart}
use Rattle.orderbook.specs.declared.OrderBook.{OrderBook}
use Rattle.deltas.specs.declared.BookDelta.{BookDelta}
use Rattle.deltas.specs.declared.DeltaAction.{DeltaAction}
use Rattle.deltas.specs.declared.DeltaAction.TheVariants.{Set, Remove}
use Rattle.orderbook.specs.declared.Applied.{Applied}
use Rattle.orderbook.specs.Book.{bids_of, asks_of, sides_fit, is_book}
use Rattle.deltas.specs.Delta.{delta_fits}
use Rattle.orderbook.specs.Apply.{Change, change_of, kept, acted, after_delta, placed, tried, applied, without, cleared, side_cleared}
use Rattle.orderbook.specs.Kept.{Keeps, DeltaKeeps, ClearKeeps, SideKeeps, RemoveOfAny}
use Rattle.orderbook.proofs.Bests.{apart_none}
use Rattle.orderbook.proofs.Steps.{sides}

module _ (b : OrderBook) (next : ℕ) where
  keeps_refusal : (n : ℕ) (vs : List ℤ) → Keeps b next (kept b n vs)
  keeps_refusal n vs = record { book = λ e. never _ n vs e refl; number = λ e. never _ n vs e refl; same = λ m us e. refl }

  keeps_done : (c : OrderBook) → is_book c ≡ true → c.sequence ≡ next → Keeps b next (record { book = c; reply = done tt })
  keeps_done c h e = record { book = λ _. h; number = λ _. e; same = λ n vs f. never _ n vs refl f }

  keeps_either : (t : Bool) (x y : Change) → (t ≡ true → Keeps b next x) → (t ≡ false → Keeps b next y) → Keeps b next (cond t x y)
  keeps_either true x y f g = f refl
  keeps_either false x y f g = g refl

-- a side's levels are in order and within the limits
pub record Sound (s : Side) (ls : List PriceLevel) : Type 0 where
  pub order : in_order s (prices_of ls) ≡ true
  pub limits : every in_limits ls ≡ true

acted_sound : (a : DeltaAction) (s : Side) (l : PriceLevel) (ls : List PriceLevel) → delta_fits a l.price l.quantity ≡ true → Sound s ls → Sound s (acted a s l ls)
acted_sound Set s l ls h w = record { order = set_order s l ls w.order; limits = set-every s l in_limits ls h w.limits }
acted_sound Remove s l ls h w = record { order = remove_order s l.price ls w.order; limits = remove-every l.price in_limits ls w.limits }

after_sound : (s t : Side) (d : BookDelta) (ls : List PriceLevel) → delta_fits d.action d.price d.quantity ≡ true → Sound s ls → Sound s (after_delta s t d ls)
after_sound Bid Bid d ls h w = acted_sound d.action Bid (level d.price d.quantity) ls h w
after_sound Bid Ask d ls h w = w
after_sound Ask Bid d ls h w = w
after_sound Ask Ask d ls h w = acted_sound d.action Ask (level d.price d.quantity) ls h w

-- sound levels that stand apart, at most 128 a side, make a book
tables_book : (n : ℕ) (bids asks : List PriceLevel) → Sound Bid bids → Sound Ask asks → is_apart (best_of bids) (best_of asks) ≡ true → length bids ≤ max_levels → length asks ≤ max_levels → is_book (record { bids = table bids; asks = table asks; sequence = n }) ≡ true
unfolding sides_fit
tables_book n bids asks v w a h k =
    rw (table_formed bids h Bid v.order v.limits, table_formed asks k Ask w.order w.limits, levels-back bids, levels-back asks) a

placed_keeps : (b : OrderBook) (next n : ℕ) (bids asks : List PriceLevel) → n ≡ next → Sound Bid bids → Sound Ask asks → Keeps b next (placed b n bids asks)
placed_keeps b next n bids asks e v w =
    keeps_either b next (is_apart (best_of bids) (best_of asks)) _ _
    (λ a.
    keeps_either b next (leb (length bids) max_levels && leb (length asks) max_levels) _ _
    (λ m.
    let f = (and-eq-true_iff (leb (length bids) max_levels) (leb (length asks) max_levels)).0 m in
    keeps_done b next _ (tables_book n bids asks v w a (leb-true _ _ f.0) (leb-true _ _ f.1)) e)
    (λ m. keeps_refusal b next 6 []))
    (λ a. keeps_refusal b next 5 _)

pub delta_keeps : DeltaKeeps
unfolding applied tried
delta_keeps b d =
    let next = b.sequence + 1 in
    keeps_either b next (is_book b) _ _
    (λ h.
    let p = sides Bid b h in
    keeps_either b next (delta_fits d.action d.price d.quantity) _ _
    (λ f.
    keeps_either b next (ltb b.sequence last_sequence) _ _
    (λ m.
    keeps_either b next (eqb d.sequence next) _ _
    (λ e.
    placed_keeps b next d.sequence _ _ (eqb-true d.sequence next e)
    (after_sound Bid d.side d (bids_of b) f (record { order = p.own.order; limits = p.own.limits }))
    (after_sound Ask d.side d (asks_of b) f (record { order = p.rest.order; limits = p.rest.limits })))
    (λ e. keeps_refusal b next 4 _))
    (λ m. keeps_refusal b next 3 []))
    (λ f. keeps_refusal b next 2 []))
    (λ h. keeps_refusal b next 1 [])

pub remove_any : RemoveOfAny
unfolding applied tried
remove_any b Bid price n q r = refl
remove_any b Ask price n q r = refl

-- no levels are sound, and their table well formed
none_sound : (s : Side) → Sound s []
unfolding in_order every
none_sound s = record { order = refl; limits = refl }

none_formed : (s : Side) → well_formed s (table []) ≡ true
none_formed s = table_formed [] (omega arith) s (none_sound s).order (none_sound s).limits

pub clear_keeps : ClearKeeps
unfolding cleared
clear_keeps b =
    keeps_either b 0 (is_book b) _ _
    (λ h. keeps_done b 0 _ (tables_book 0 [] [] (none_sound Bid) (none_sound Ask) (apart_none Bid []) (omega arith) (omega arith)) refl)
    (λ h. keeps_refusal b 0 1 [])

without-book : (s : Side) (b : OrderBook) → is_book b ≡ true → is_book (without s b) ≡ true
unfolding sides_fit
without-book Bid b h = rw (none_formed Bid, well_formed_lem Ask b.asks (sides Bid b h).rest) (apart_none Bid (asks_of b))
without-book Ask b h = rw (well_formed_lem Bid b.bids (sides Bid b h).own, none_formed Ask) (apart_none Ask (bids_of b))

pub side_keeps : SideKeeps
unfolding side_cleared
side_keeps s b =
    let number : (s : Side) → (without s b).sequence ≡ b.sequence = elim [ Bid ↦ refl | Ask ↦ refl ] in
    keeps_either b b.sequence (is_book b) _ _ (λ h. keeps_done b b.sequence _ (without-book s b h) (number s)) (λ h. keeps_refusal b b.sequence 1 [])

-- two results that meet one promise are equal
pub one_change : (c : Change) (x y : Applied) → change_of x ≡ c → change_of y ≡ c → x ≡ y
one_change c x y e f =
    let book : x.book ≡ y.book = ap (λ (u : Change). u.book) (e ∙ sym f) in
    let outcome : x.outcome ≡ y.outcome = one_answer c.reply x.outcome y.outcome (ap (λ (u : Change). u.reply) e) (ap (λ (u : Change). u.reply) f) in
    λ i. record { book = book i; outcome = outcome i }
