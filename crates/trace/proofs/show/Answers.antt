-- What is held serves, and what is shown of a frame fits the buffer.
use Rattle.std.proofs.Common.{sym, ◌∙◌, length-take-le, arith}
use Rattle.served.proofs.ServedLaws.{grown_standing, grown_served}
use Rattle.playback.proofs.TraceLaws.{shown_fits}
use Rattle.trace.proofs.show.Goals as goal

pub serve-served-requires : goal.serve-served-requires
serve-served-requires g c = grown_standing _ c.loop-at.invariant.0

pub slice_bounds-out-end : goal.slice_bounds-out-end
slice_bounds-out-end g c =
    shown_fits (omega (arith, c.loop-at.invariant.1)) c.serve-served.result c.put_shown-end.ensures

pub slice_bounds-write_all-end : goal.slice_bounds-write_all-end
slice_bounds-write_all-end g c =
    sym (length-take-le _ _ (shown_fits (omega (arith, c.loop-at.invariant.1)) c.serve-served.result c.put_shown-end.ensures))

pub loop-at-preserved : goal.loop-at-preserved
loop-at-preserved g c =
    (rw c.serve-served.ensures (grown_served _ _ c.loop-at.invariant.0), c.put_shown-end.auto.out ∙ c.loop-at.invariant.1)
