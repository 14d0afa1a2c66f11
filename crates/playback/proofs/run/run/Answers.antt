-- `run` writes the output of the whole text. The loop's invariant, Running with nothing made: what is written up to end, and
-- then the replies to the lines from at on, are the whole output; end is at most 3 * at. A channel's replay answers the rest.
-- The measure is what is left of the text and one byte more, since at passes a last line without 0a by one.
use mathlib.Core.Path.{◌≡◌, refl, ap, ◌∙◌}
use borrow.Author.Rules.{rules}
use Rattle.std.specs.Prelude.{Ok}
use Rattle.playback.specs.declared.run.Heading.TheVariants.{Array, Zero}
use Rattle.served.proofs.ServedLaws.{grown_nothing}
use Rattle.served.proofs.RunLaws.{running_none, running_turn, running_all}
use Rattle.playback.proofs.HeadingLaws.{served_refused, served_array, served_zero, allows_array, allows_zero, room_first, running_handed}
use Rattle.playback.proofs.run.run.Goals as goal

pub loop-at-init : goal.loop-at-init
loop-at-init c = running_none _ _ _ _ _ grown_nothing (room_first _ _ c.requires)

pub loop-at-preserved : goal.loop-at-preserved
loop-at-preserved c =
    running_turn _ _ _ _ _ c.loop-at.invariant c.loop-at-test.true _ c.line-line.ensures _ _
    (served_refused _ refl c.leads_to.ensures _ c.in-Err.is) _ _
    c.put-end.ensures

pub replay-requires : goal.replay-requires
replay-requires c =
    let e : c.leads_to.result ≡ Ok (Array c.in-Array.capacity c.in-Array.count) = c.in-Ok.is ∙ ap Ok c.in-Array.is in
    let turned =
    running_turn _ _ _ _ _ c.loop-at.invariant c.loop-at-test.true _ c.line-line.ensures _ _
    (served_array _ refl c.leads_to.ensures _ _ e) _ _
    c.put-start.ensures in
    record { room = turned.room; allowed = allows_array _ refl c.leads_to.ensures _ _ e }

pub returns-in-Array : goal.returns-in-Array
returns-in-Array c =
    let e : c.leads_to.result ≡ Ok (Array c.in-Array.capacity c.in-Array.count) = c.in-Ok.is ∙ ap Ok c.in-Array.is in
    running_handed _ _ _ _ _
    (running_turn _ _ _ _ _ c.loop-at.invariant c.loop-at-test.true _ c.line-line.ensures _ _
    (served_array _ refl c.leads_to.ensures _ _ e) _ _
    c.put-start.ensures)
    _ _ (search rules) c.replay.ensures

pub replay-requires-in-Zero : goal.replay-requires-in-Zero
replay-requires-in-Zero c =
    let e : c.leads_to.result ≡ Ok (Zero c.in-Zero.count) = c.in-Ok.is ∙ ap Ok c.in-Zero.is in
    let turned =
    running_turn _ _ _ _ _ c.loop-at.invariant c.loop-at-test.true _ c.line-line.ensures _ _
    (served_zero _ refl c.leads_to.ensures _ e) _ _
    c.put-start.ensures in
    record { room = turned.room; allowed = allows_zero _ refl c.leads_to.ensures _ e }

pub returns-in-Zero : goal.returns-in-Zero
returns-in-Zero c =
    let e : c.leads_to.result ≡ Ok (Zero c.in-Zero.count) = c.in-Ok.is ∙ ap Ok c.in-Zero.is in
    running_handed _ _ _ _ _
    (running_turn _ _ _ _ _ c.loop-at.invariant c.loop-at-test.true _ c.line-line.ensures _ _
    (served_zero _ refl c.leads_to.ensures _ e) _ _
    c.put-start.ensures)
    _ _ (search rules) c.replay-in-Zero.ensures

pub returns : goal.returns
returns c = running_all _ _ _ _ _ c.loop-at.invariant c.loop-at-test.false
