-- Fill marks as the walk of an admitted list makes them. Nothing here is a rule of document 01.
use Rattle.std.specs.Prelude.{ℕ, ◌%◌, ◌≤◌, ◌≡◌}
use Rattle.packing.specs.declared.Marks.{Marks}

pub record EvenMarks (m : Marks) : Type 0 where
  pub incoming : m.incoming % 2 ≡ 0
  pub outgoing : m.outgoing % 2 ≡ 0

-- both marks are even and at most b
pub record MarksTo (b : ℕ) (m : Marks) : Type 0 where
  pub incoming : m.incoming ≤ b
  pub outgoing : m.outgoing ≤ b
  pub even : EvenMarks m
