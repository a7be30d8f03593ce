-- What both ways leave, and what single longwords do (document 02, E10). The statement is BothRoutes, last on this page; the proof is
-- proofs/BothRoutes.
use Rattle.std.specs.Prelude.{ℕ, ◌≡◌, List, [], ◌∷◌, ◌++◌}
use Rattle.base.specs.Bytes.{Bytes}
use Rattle.scalers.specs.declared.longwords.Way.{Way}
use Rattle.scalers.specs.declared.longwords.Way.TheVariants.{ToBinary, ToDecimal}
use Rattle.scalers.specs.Scalers.{convert_of}

-- the way back
abbrev pub back : Way → Way
back ToBinary = ToDecimal
back ToDecimal = ToBinary

-- a call that is not refused
abbrev pub RowPasses : Way → List ℕ → Type 0
RowPasses way row = (convert_of way row).refusal.number ≡ 0

-- each longword of a row in a call of its own: none is refused
abbrev pub EachPasses : Way → List ℕ → Type 0
EachPasses way [] = Unit {0}
EachPasses way (a ∷ []) = Unit {0}
EachPasses way (a ∷ b ∷ []) = Unit {0}
EachPasses way (a ∷ b ∷ c ∷ []) = Unit {0}
EachPasses way (a ∷ b ∷ c ∷ d ∷ row) = RowPasses way (a ∷ b ∷ c ∷ d ∷ []) × EachPasses way row

-- and what these calls leave, in order
abbrev pub each_converted : Way → List ℕ → List ℕ
each_converted way [] = []
each_converted way (a ∷ []) = []
each_converted way (a ∷ b ∷ []) = []
each_converted way (a ∷ b ∷ c ∷ []) = []
each_converted way (a ∷ b ∷ c ∷ d ∷ row) = (convert_of way (a ∷ b ∷ c ∷ d ∷ [])).row ++ each_converted way row

-- what is said of a row that passes
pub record Returned (way : Way) (row : List ℕ) : Type 0 where
  -- the converted row passes on the way back
  pub back_passes : RowPasses (back way) (convert_of way row).row
  -- "For a row that passes, both routes return the original row"
  pub back_row : (convert_of (back way) (convert_of way row).row).row ≡ row
  -- "a single call equals converting each longword"
  pub each_passes : EachPasses way row
  pub each_row : (convert_of way row).row ≡ each_converted way row

abbrev pub BothRoutes : Type 0
BothRoutes = (way : Way) (row : List ℕ) → Bytes row → RowPasses way row → Returned way row
