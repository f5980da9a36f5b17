-- What is read names one answer: any two results of `read_frame`, or of `read_snapshot`, that meet its promise are equal.
use Rattle.std.specs.Prelude.{Result, Ok, Err}
use mathlib.Core.Path.{◌≡◌, refl, sym, ap, ◌∙◌}
use Rattle.types.specs.Replies.{Reply, done, refused}
use Rattle.types.specs.declared.Refusal.{Refusal}
use Rattle.types.proofs.Once.{named, named_back}
use Rattle.orderbook.specs.declared.OrderBook.{OrderBook}
use Rattle.orderbook.specs.Apply.{Change}
use Rattle.frames.specs.Frames.{Frame, delta, snapshot}
use Rattle.lines.specs.declared.ReadFrame.{ReadFrame}
use Rattle.lines.specs.declared.ReadFrame.TheVariants as F
use Rattle.lines.specs.Read.{Read, read_of, change_read}

-- what was read, back from its reply and its book
abbrev frame_back : Reply Frame → OrderBook → Result ReadFrame Refusal
frame_back (done (delta d)) b = Ok (F.Delta d)
frame_back (done (snapshot s)) b = Ok (F.Snapshot b)
frame_back (refused n vs) b = Err (named n vs)

abbrev back : Read → Result ReadFrame Refusal
back r = frame_back r.reply r.book

read_back : (x : Result ReadFrame Refusal) → back (read_of x) ≡ x
read_back (Ok (F.Delta d)) = refl
read_back (Ok (F.Snapshot b)) = refl
read_back (Err r) = ap Err (named_back r)

pub one_read : (d : Read) (x y : Result ReadFrame Refusal) → read_of x ≡ d → read_of y ≡ d → x ≡ y
one_read d x y p q = sym (read_back x) ∙ ap back (p ∙ sym q) ∙ read_back y

-- a snapshot's book
abbrev book_of_reply : Reply (Unit {0}) → OrderBook → Result OrderBook Refusal
book_of_reply (done u) b = Ok b
book_of_reply (refused n vs) b = Err (named n vs)

abbrev book_back : Change → Result OrderBook Refusal
book_back c = book_of_reply c.reply c.book

change_back : (x : Result OrderBook Refusal) → book_back (change_read x) ≡ x
change_back (Ok b) = refl
change_back (Err r) = ap Err (named_back r)

pub one_book : (d : Change) (x y : Result OrderBook Refusal) → change_read x ≡ d → change_read y ≡ d → x ≡ y
one_book d x y p q = sym (change_back x) ∙ ap book_back (p ∙ sym q) ∙ change_back y
