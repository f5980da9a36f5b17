-- `book` writes what is put, which lies within the memory.
use Rattle.day_booking.proofs.book.Goals as goal

pub write_out-requires : goal.write_out-requires
write_out-requires g c = let t = c.requires.2 in (c.put_kept-used.ensures t.0 t.1).fits
