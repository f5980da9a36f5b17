-- An edit makes Set's and Remove's list of levels, Set is refused exactly where there is no room, and each edit fits its row and keeps the
-- side well formed.
use Rattle.std.specs.Prelude.{Result, Ok, Err}
use Prim.Native.Nat.{ℕ, ◌≤◌, ◌<◌}
use native.Mathlib.Omega.{arith}
use mathlib.Core.Path.{◌≡◌, refl, subst}
use mathlib.Core.Bool.{true}
use mathlib.Core.List.{List, map}
use lib.ListN.{length, take, length-map, length-set}
use lib.Seq.{length-take-le}
use lib.Dec.{ltb}
use borrow.Author.Tests.{lt-ltb, le-ltb, ltb-true}
use Rattle.types.specs.Limits.{max_levels}
use Rattle.types.specs.declared.Side.{Side}
use Rattle.types.specs.declared.PriceLevel.{PriceLevel}
use Rattle.types.specs.declared.Refusal.TheVariants as R
use Rattle.types.proofs.Booleans.{by}
use Rattle.levels.specs.Order.{in_order, place_from}
use Rattle.levels.specs.Table.{prices_of, levels, padded, table}
use Rattle.levels.specs.Formed.{in_limits, well_formed}
use Rattle.levels.specs.Change.{set_level, remove_level}
use Rattle.levels.specs.declared.Levels.{Levels}
use Rattle.levels.specs.declared.Place.{Place}
use Rattle.levels.specs.declared.Place.TheVariants.{At, Before}
use Rattle.levels.proofs.Pads.{padded_front}
use Rattle.levels.proofs.Places.{InList, place_in}
use Rattle.levels.proofs.Tables.{Sized, Formed, formed, table-back, table_formed, levels-length, levels_few}
use Rattle.changes.specs.Inner.Edits.{row_after, count_after, edited, EditFits, put_edit, out_edit, set_step, edit_of}
use Rattle.changes.proofs.Changes.{set_order, set-every, remove_order, remove-every, remove-length}
use Rattle.changes.proofs.Places.{put_at, out_at, put-length, out_length, map-put, map_out, set_place, remove_place}
use Rattle.changes.proofs.Rows.{set_row, remove_row}
use Rattle.types.specs.declared.Refusal.{Refusal}
use Rattle.changes.specs.declared.Edit.{Edit}

-- the place of a price in a table, and the step that Set of it comes to
abbrev pub place_on : Side → ℕ → Levels → Place
place_on s p t = place_from s p 0 (take t.count t.prices)

abbrev pub set_on : Side → ℕ → Levels → Result Edit Refusal
set_on s p t = set_step t.count (place_on s p t)

-- an edit at a place of n stays within a row of n used places
set-within : (n : ℕ) (w : Place) → InList w n → n ≤ max_levels → EditFits (edit_of (set_step n w)) n
set-within n (At i) h few = (h, few)
set-within n (Before i) h few = by (ltb n max_levels) (λ e. rw e (h, ltb-true _ _ e)) (λ e. rw e few)

out_within : (n : ℕ) (w : Place) → InList w n → n ≤ max_levels → EditFits (out_edit w) n
out_within n (At i) h few = (h, few)
out_within n (Before i) h few = few

-- what an edit at a place of a list makes of the list's table
module _ (l : PriceLevel) (ls : List PriceLevel) where
  put_count : (w : Place) → InList w (length ls) → count_after (put_edit w) (length ls) ≡ length (put_at w l ls)
  put_count (At i) h = rw length-set
  put_count (Before i) h = rw (put-length ls i l h)

  put-table : (w : Place) → InList w (length ls) → length (put_at w l ls) ≤ max_levels → edited (put_edit w) l (table ls) ≡ table (put_at w l ls)
  put-table w h room =
      let row : (f : PriceLevel → ℕ) → row_after (put_edit w) (length ls) (f l) (padded (map f ls)) ≡ padded (map f (put_at w l ls)) = λ f.
      let few : length (put_at w (f l) (map f ls)) ≤ max_levels = rw (← map-put f w l ls, length-map (put_at w l ls) f) room in
      rw (map-put f w l ls) (set_row (map f ls) (length ls) (f l) (length-map ls f) w h few) in
      rw (row (λ m. m.price), row (λ m. m.quantity), put_count w h)

  -- with room for the level it is put in, and else refused
  put_some : (w : Place) → InList w (length ls) → length (put_at w l ls) ≤ max_levels → set_step (length ls) w ≡ Ok (put_edit w)
  put_some (At i) h room = refl
  put_some (Before i) h room = rw (lt-ltb (length ls) max_levels (omega (arith, put-length ls i l h)))

  put_full : (w : Place) → InList w (length ls) → length ls ≤ max_levels → max_levels < length (put_at w l ls) → set_step (length ls) w ≡ Err R.FullSide
  put_full (At i) h few over = absurd (omega (arith, length-set ls i l))
  put_full (Before i) h few over = rw (le-ltb (length ls) max_levels (omega (arith, put-length ls i l h)))

  out_count : (w : Place) → InList w (length ls) → count_after (out_edit w) (length ls) ≡ length (out_at w ls)
  out_count (At i) h = omega (arith, out_length ls i h)
  out_count (Before i) h = refl

  out_table : (w : Place) → InList w (length ls) → length ls ≤ max_levels → edited (out_edit w) l (table ls) ≡ table (out_at w ls)
  out_table w h few =
      let row : (f : PriceLevel → ℕ) → row_after (out_edit w) (length ls) (f l) (padded (map f ls)) ≡ padded (map f (out_at w ls)) = λ f.
      rw (map_out f w ls) (remove_row (map f ls) (length ls) (f l) (length-map ls f) w h few) in
      rw (row (λ m. m.price), row (λ m. m.quantity), out_count w h)

-- a table with rows of 128 places
module _ (s : Side) (p : ℕ) (t : Levels) (w : Sized t) (few : t.count ≤ max_levels) where
  in_row : InList (place_on s p t) t.count
  in_row = rw (length-take-le t.count t.prices (omega arith)) at (place_in s p (take t.count t.prices))

  pub set-fits : EditFits (edit_of (set_on s p t)) t.count
  set-fits = set-within t.count (place_on s p t) in_row few

  pub remove-fits : EditFits (out_edit (place_on s p t)) t.count
  remove-fits = out_within t.count (place_on s p t) in_row few

-- the table of a list
module _ (s : Side) (p : ℕ) (ls : List PriceLevel) where
  on_list : place_on s p (table ls) ≡ place_from s p 0 (prices_of ls)
  on_list = rw (padded_front (λ m. m.price) ls)

  in_list : InList (place_on s p (table ls)) (length ls)
  in_list = rw (on_list, ← length-map ls (λ m. m.price)) (place_in s p (prices_of ls))

module _ (s : Side) (l : PriceLevel) (ls : List PriceLevel) where
  -- Set puts the level at its place in the table
  on_place : set_level s l ls ≡ put_at (place_on s l.price (table ls)) l ls
  on_place = rw (on_list s l.price ls) (set_place s l ls)

  remove_list : (p : ℕ) → length ls ≤ max_levels → in_order s (prices_of ls) ≡ true → edited (out_edit (place_on s p (table ls))) l (table ls) ≡ table (remove_level p ls)
  remove_list p few o = rw (remove_place s p ls o, ← on_list s p ls) (out_table l ls (place_on s p (table ls)) (in_list s p ls) few)

-- a well-formed table, which is the table of its levels
module _ (s : Side) (t : Levels) (w : Sized t) (f : Formed s t) (l : PriceLevel) where
  back : table (levels t) ≡ t
  back = table-back s t w f

  few : length (levels t) ≤ max_levels
  few = omega (arith, levels-length t w f.few, f.few)

  -- if there is room, Set is done, and makes Set's levels
  pub set_some : length (set_level s l (levels t)) ≤ max_levels → set_on s l.price t ≡ Ok (put_edit (place_on s l.price t))
  set_some h =
      subst (λ (u : Levels). set_on s l.price u ≡ Ok (put_edit (place_on s l.price u))) back
      (put_some l (levels t) (place_on s l.price (table (levels t))) (in_list s l.price (levels t)) (rw (on_place s l (levels t)) at h))

  pub set-edited : length (set_level s l (levels t)) ≤ max_levels → edited (put_edit (place_on s l.price t)) l t ≡ table (set_level s l (levels t))
  set-edited h =
      subst (λ (u : Levels). edited (put_edit (place_on s l.price u)) l u ≡ table (set_level s l (levels t))) back
      (rw (on_place s l (levels t)) (put-table l (levels t) (place_on s l.price (table (levels t))) (in_list s l.price (levels t)) (rw (on_place s l (levels t)) at h)))

  -- and if there is none, it is refused
  pub set_full : max_levels < length (set_level s l (levels t)) → set_on s l.price t ≡ Err R.FullSide
  set_full h =
      subst (λ (u : Levels). set_on s l.price u ≡ Err R.FullSide) back
      (put_full l (levels t) (place_on s l.price (table (levels t))) (in_list s l.price (levels t)) few (rw (on_place s l (levels t)) at h))

  -- Remove's edit makes Remove's levels
  pub remove-edited : (p : ℕ) → edited (out_edit (place_on s p t)) l t ≡ table (remove_level p (levels t))
  remove-edited p =
      subst (λ (u : Levels). edited (out_edit (place_on s p u)) l u ≡ table (remove_level p (levels t))) back (remove_list s l (levels t) p few f.order)

-- a side stays well formed: after Set of a level in the limits if there is room, and after every Remove
module _ (s : Side) (t : Levels) (h : well_formed s t ≡ true) where
  pub set_formed : (l : PriceLevel) → in_limits l ≡ true → length (set_level s l (levels t)) ≤ max_levels → well_formed s (table (set_level s l (levels t))) ≡ true
  set_formed l k room =
      let f = formed s t h in
      table_formed (set_level s l (levels t)) room s (set_order s l (levels t) f.order) (set-every s l in_limits (levels t) k f.limits)

  pub remove_formed : (p : ℕ) → well_formed s (table (remove_level p (levels t))) ≡ true
  remove_formed p =
      let f = formed s t h in
      let room = remove-length p (levels t) in
      table_formed (remove_level p (levels t)) (omega (arith, levels_few t, f.few)) s (remove_order s p (levels t) f.order) (remove-every p in_limits (levels t) f.limits)
