-- `error_name` is `name_of`: the code's table is that of the names, each filled with blanks, and past its end both answer blanks.
use lib.ListN.{get_or, get_or-map}
use mathlib.Core.List.{map}
use mathlib.Core.Path.{◌≡◌}
use native.Mathlib.Omega.{arith}
use Rattle.std.specs.Option.{option_copied, unwrap_or}
use Rattle.camac.specs.Names.{names, filled, name_of}
use Rattle.camac.proofs.names.error_name.Goals as goal

pub returns : goal.returns
unfolding names filled name_of
returns c =
    let found : unwrap_or (option_copied c.get.result) (filled 16 "") ≡ get_or (map (filled 16) names) c.args.code (filled 16 "") =
    c.get.ensures.lookup.4 (omega arith) (filled 16 "") in
    rw (c.unwrap_or.ensures, c.copied.ensures, found) (get_or-map (filled 16) names c.args.code "")
