-- The questions by their numbers.
use Rattle.std.specs.Prelude.{ℕ, List, [], ◌∷◌, get_or, map}
use Rattle.types.specs.Replies.{Reply, done, refused}
use Rattle.types.specs.declared.Side.{Side}
use Rattle.asked.specs.declared.SideNumber.TheVariants as N
use Rattle.asked.specs.declared.TopRatio.TheVariants as T
use Rattle.asked.specs.declared.VolumeRatio.TheVariants as R
use Rattle.asked.specs.declared.Trade.TheVariants as P
use Rattle.questions.specs.declared.kinds.BookNumber.TheVariants as B
use Rattle.questions.specs.declared.kinds.BookFlag.TheVariants as F
use Rattle.questions.specs.declared.Question.{Question}
use Rattle.questions.specs.declared.Question.TheVariants as Q

-- the questions in their order, from 0 to 27; `small` is a price or a quantity, `large` a count or a volume
abbrev pub questions : Side → ℕ → ℕ → List Question
questions s small large =
    Q.Best s ∷ Q.OfSide s N.BestPrice ∷ Q.OfSide s N.BestQuantity ∷ Q.BestQuote ∷ Q.Number B.Spread ∷ Q.OfTops T.MidPrice ∷ Q.OfTops T.SpreadPct ∷
    Q.OfTops T.SpreadBps ∷ Q.OfTops T.WeightedMid ∷ Q.OfSide s (N.DepthAt small) ∷ Q.Flag (F.HasPrice s small) ∷ Q.OfSide s N.LevelCount ∷
    Q.Number B.TotalLevels ∷ Q.Number B.Sequence ∷ Q.Flag F.IsEmpty ∷ Q.Flag F.IsCrossed ∷ Q.OfSide s N.TotalVolume ∷
    Q.OfSide s (N.CumulativeDepth small) ∷ Q.OfSide s (N.CumulativeQuantity large) ∷ Q.Number B.TickSize ∷ Q.OfVolumes R.Imbalance ∷
    Q.OfVolumes (R.DepthRatio large) ∷ Q.OfVolumes R.BidAskRatio ∷ Q.OfVolumes R.AskBidRatio ∷ Q.OfVolumes (R.BidDepthSkew large) ∷
    Q.Traded s (P.VwapForQty small) ∷ Q.Traded s (P.PriceImpact small) ∷ Q.OfSide s (N.PriceAtVolume large) ∷ []

-- the question of a number, or 2 if it names none
unfoldable pub question_named : ℕ → Side → ℕ → ℕ → Reply Question
question_named n s small large = get_or (map done (questions s small large)) n (refused 2 [])
