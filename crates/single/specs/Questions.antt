-- The calls of crate questions.
use Rattle.types.proofs.Once.{one_answer}
use Rattle.questions.proofs as C
use Rattle.questions.proofs.kinds as K
use Rattle.questions.proofs.answers as A
use Rattle.questions.proofs.numbered as N
use Rattle.single.specs.One.{One, one}

-- any question, and the question of a number
module _ where
  pub ask : One C.ask.Reads.Learnt
  ask κs a s t = one_answer _

  pub ask_at : One C.ask_at.Reads.Learnt
  ask_at κs a s t = one_answer _

  pub question_of : One N.question_of.Reads.Learnt
  question_of κs a s t = one_answer _

-- the questions of one kind
module _ where
  pub best : One K.best.Reads.Learnt
  best κs a s t = one_answer _

  pub best_quote_lem : One K.best_quote.Reads.Learnt
  best_quote_lem κs a s t = one_answer _

  pub number : One K.number.Reads.Learnt
  number κs a s t = one_answer _

  pub side_number_lem : One K.side_number.Reads.Learnt
  side_number_lem κs a s t = one_answer _

  pub top_ratio_lem : One K.top_ratio.Reads.Learnt
  top_ratio_lem κs a s t = one_answer _

  pub volume_ratio_lem : One K.volume_ratio.Reads.Learnt
  volume_ratio_lem κs a s t = one_answer _

  pub trade_price_lem : One K.trade_price.Reads.Learnt
  trade_price_lem κs a s t = one_answer _

  pub flag : One K.flag.Reads.Learnt
  flag κs a s t = one_answer _

-- what an answer carries, as numbers
module _ where
  pub told : One A.ValueTells.told.Reads.Learnt
  told κs a s t = one _
