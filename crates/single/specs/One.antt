-- One possible result: any two results that meet a public call's promise are equal, and so is what they leave in lent memory. The other files
-- say it of each public call, by the call's name, one file a crate. `CALL.Reads.Learnt` is what a caller of CALL learns, and it is made from the
-- `ensures` in the source: so a promise that left room for two results would be refused there.
use Rattle.std.specs.Prelude.{ℕ, ◌≡◌, List}
use Rattle.std.proofs.Common.{sym, ◌∙◌}
use Rattle.std.specs.Borrow.{MutBor}

-- what a call promises, of its lifetimes κs, its arguments a, its result, and its parameters as it returns
module _ {L : Type 0} {A R S : L → Type 0} (Learnt : (κs : L) → A κs → R κs → S κs → Type 0) where
  -- any two results are equal
  abbrev pub One : Type 0
  One = (κs : L) (a : A κs) (s t : S κs) (x y : R κs) → Learnt κs a x s → Learnt κs a y t → x ≡ y

  -- any two results are equal, and so is the lent memory as the call returns
  abbrev pub OneWith : {X : Type 0} → ((κs : L) → S κs → X) → Type 0
  OneWith lent = (κs : L) (a : A κs) (s t : S κs) (x y : R κs) → Learnt κs a x s → Learnt κs a y t → (x ≡ y) × (lent κs s ≡ lent κs t)

-- a promise that is an equation of the result itself leaves one result; an answer that is an enum has its law where its reply is defined
pub one : {X : Type 0} (d x y : X) → x ≡ d → y ≡ d → x ≡ y
one d x y p q = p ∙ sym q

-- The calls that hand back a part of the buffer are the listed exception: a contract cannot say what the buffer behind the part holds as they
-- return. Any two parts start at one place and hold the same numbers.
module _ {L : Type 0} {A S : L → Type 0} (Learnt : (κs : L) → A κs → MutBor (List ℕ) → S κs → Type 0) where
  abbrev pub OnePart : Type 0
  OnePart = (κs : L) (a : A κs) (s t : S κs) (x y : MutBor (List ℕ)) → Learnt κs a x s → Learnt κs a y t → (x.ref_ptr ≡ y.ref_ptr) × (x.now ≡ y.now)

-- where the part starts and what it holds are each given by an equation
pub one_part : {X Y : Type 0} {d x x' : X} {e y y' : Y} → (x ≡ d) × (y ≡ e) → (x' ≡ d) × (y' ≡ e) → (x ≡ x') × (y ≡ y')
one_part p q = (p.0 ∙ sym q.0, p.1 ∙ sym q.1)
