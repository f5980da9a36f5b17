-- `numbered::question_of` meets its contract: each number has its place among the questions, and those past the last place name none.
use Prim.Native.Nat.{ℕ, zero, suc, ◌≤◌}
use mathlib.Core.Path.{◌≡◌, sym}
use mathlib.Core.List.{[], map}
use native.Mathlib.Omega.{arith}
use lib.ListN.{get_or-eq_default}
use Rattle.types.specs.Replies.{done, refused}
use Rattle.types.specs.declared.Side.{Side}
use Rattle.questions.specs.Numbered.{questions, question_named}
use Rattle.questions.proofs.numbered.question_of.Goals as goal

-- none of the numbers below k
abbrev Missed : ℕ → ℕ → Type 0
Missed zero n = Unit {0}
Missed (suc k) n = Missed k n × (n ≡ k → ⊥)

beyond : (k n : ℕ) → Missed k n → k ≤ n
beyond zero n m = omega arith
beyond (suc k) n (m, ne) = let h : k ≤ n = beyond k n m in omega arith

-- from 28 on, none
past : (n : ℕ) (s : Side) (x y : ℕ) → 28 ≤ n → question_named n s x y ≡ refused 2 []
unfolding question_named
past n s x y h = get_or-eq_default (map done (questions s x y)) (refused 2 []) {n = n} h

pub returns-in_default : goal.returns-in_default
unfolding question_named
returns-in_default c = let a = c.args in sym (past a.number a.side a.small a.large (beyond 28 a.number c.in_default.in_default-own.rest))

pub returns-in-0 : goal.returns-in-0
unfolding question_named
returns-in-0 c = rw c.in-0.is

pub returns-in-1 : goal.returns-in-1
unfolding question_named
returns-in-1 c = rw c.in-1.is

pub returns-in-2 : goal.returns-in-2
unfolding question_named
returns-in-2 c = rw c.in-2.is

pub returns-in-3 : goal.returns-in-3
unfolding question_named
returns-in-3 c = rw c.in-3.is

pub returns-in-4 : goal.returns-in-4
unfolding question_named
returns-in-4 c = rw c.in-4.is

pub returns-in-5 : goal.returns-in-5
unfolding question_named
returns-in-5 c = rw c.in-5.is

pub returns-in-6 : goal.returns-in-6
unfolding question_named
returns-in-6 c = rw c.in-6.is

pub returns-in-7 : goal.returns-in-7
unfolding question_named
returns-in-7 c = rw c.in-7.is

pub returns-in-8 : goal.returns-in-8
unfolding question_named
returns-in-8 c = rw c.in-8.is

pub returns-in-9 : goal.returns-in-9
unfolding question_named
returns-in-9 c = rw c.in-9.is

pub returns-in-10 : goal.returns-in-10
unfolding question_named
returns-in-10 c = rw c.in-10.is

pub returns-in-11 : goal.returns-in-11
unfolding question_named
returns-in-11 c = rw c.in-11.is

pub returns-in-12 : goal.returns-in-12
unfolding question_named
returns-in-12 c = rw c.in-12.is

pub returns-in-13 : goal.returns-in-13
unfolding question_named
returns-in-13 c = rw c.in-13.is

pub returns-in-14 : goal.returns-in-14
unfolding question_named
returns-in-14 c = rw c.in-14.is

pub returns-in-15 : goal.returns-in-15
unfolding question_named
returns-in-15 c = rw c.in-15.is

pub returns-in-16 : goal.returns-in-16
unfolding question_named
returns-in-16 c = rw c.in-16.is

pub returns-in-17 : goal.returns-in-17
unfolding question_named
returns-in-17 c = rw c.in-17.is

pub returns-in-18 : goal.returns-in-18
unfolding question_named
returns-in-18 c = rw c.in-18.is

pub returns-in-19 : goal.returns-in-19
unfolding question_named
returns-in-19 c = rw c.in-19.is

pub returns-in-20 : goal.returns-in-20
unfolding question_named
returns-in-20 c = rw c.in-20.is

pub returns-in-21 : goal.returns-in-21
unfolding question_named
returns-in-21 c = rw c.in-21.is

pub returns-in-22 : goal.returns-in-22
unfolding question_named
returns-in-22 c = rw c.in-22.is

pub returns-in-23 : goal.returns-in-23
unfolding question_named
returns-in-23 c = rw c.in-23.is

pub returns-in-24 : goal.returns-in-24
unfolding question_named
returns-in-24 c = rw c.in-24.is

pub returns-in-25 : goal.returns-in-25
unfolding question_named
returns-in-25 c = rw c.in-25.is

pub returns-in-26 : goal.returns-in-26
unfolding question_named
returns-in-26 c = rw c.in-26.is

pub returns-in-27 : goal.returns-in-27
unfolding question_named
returns-in-27 c = rw c.in-27.is
