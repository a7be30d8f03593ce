-- `tag_in` is `tag_at`: the field lies in the list, its first byte there.
use Rattle.base.specs.Bytes.{byte_at}
use Rattle.listfile.proofs.PartLaws.{tag_inside}
use Rattle.listfile.proofs.parts.tag_in.Goals as goal

pub bounds-list-at : goal.bounds-list-at
bounds-list-at c = tag_inside _ _ c.requires

pub returns : goal.returns
unfolding byte_at
returns c = c.from.ensures
