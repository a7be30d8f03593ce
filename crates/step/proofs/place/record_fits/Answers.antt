-- `record_fits` is `fits`, by what is found at the record's spot.
use Rattle.step.proofs.Search.{planned_counts, missing_unfit, found_bounded, answered}
use Rattle.step.proofs.place.record_fits.Goals as goal

pub find-requires : goal.find-requires
find-requires c = (c.requires.entries, planned_counts _ _ _ _ c.requires)

pub returns-in_err-met : goal.returns-in_err-met
returns-in_err-met c = rw c.from_residual.ensures (missing_unfit _ _ _ _ c.requires _ _ c.find.ensures c.in_err-met.was)

pub fits_here-requires : goal.fits_here-requires
fits_here-requires c =
    found_bounded _ _ _ _ c.requires c.args.r _ c.find.ensures _ c.in_ok-met.was

pub returns : goal.returns
returns c =
    rw c.then_some.ensures (answered _ _ _ _ c.requires _ _ c.find.ensures _ c.in_ok-met.was _ c.fits_here.ensures)
