-- The calls of crates frames, lines and streams.
use Rattle.types.proofs.Once.{one_answer}
use Rattle.listings.proofs.Once.{one_left}
use Rattle.frames.proofs as F
use Rattle.lines.proofs as C
use Rattle.lines.proofs.snapshot as P
use Rattle.lines.proofs.Once.{one_read, one_book}
use Rattle.streams.proofs as T
use Rattle.single.specs.One.{One, OneWith, one}

-- what a line reads as, and where it ends
module _ where
  pub read_delta : One F.read_delta.Reads.Learnt
  read_delta κs a s t = one_answer _

  pub read_snapshot : One P.read_snapshot.Reads.Learnt
  read_snapshot κs a s t = one_book _

  pub read_frame : One C.read_frame.Reads.Learnt
  read_frame κs a s t = one_read _

  pub line_end_lem : One T.line_end.Reads.Learnt
  line_end_lem κs a s t = one _

-- the writers: the answer and the whole memory, which is the last parameter
module _ where
  pub write_delta : OneWith F.write_delta.Reads.Learnt (λ κs s. s.1.0.now)
  write_delta κs a s t x y = one_left _ x y _ _

  pub write_snapshot_at : OneWith P.write_snapshot_at.Reads.Learnt (λ κs s. s.1.0.now)
  write_snapshot_at κs a s t x y = one_left _ x y _ _

  pub write_snapshot : OneWith P.write_snapshot.Reads.Learnt (λ κs s. s.1.0.now)
  write_snapshot κs a s t x y = one_left _ x y _ _
