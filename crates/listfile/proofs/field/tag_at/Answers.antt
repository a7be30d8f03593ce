-- `tag_at` is `tag_at`: `byte_at` reads the byte, `tag_of` is its tag.
use Rattle.base.specs.Bytes.{byte_at}
use Rattle.listfile.proofs.field.tag_at.Goals as goal

pub returns : goal.returns
unfolding byte_at
returns c = simp (← c.byte_at.ensures, ← c.from.ensures)
